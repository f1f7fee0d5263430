-- A making and a CLAIM to which no row applies, each row by its name. Assumes nothing.
use Rattle.std.specs.Prelude.{ℕ, ◌*◌, ◌<◌, ◌≤◌, ◌≡◌, Bool, true, false, ◌&&◌, length}
use Rattle.calls.specs.Numbers.{readers_max, publishers_max, slots_min, slots_max, table_length, place_idle}
use Rattle.calls.specs.FirstTable.{any_out_of_range, any_steep}
use Rattle.layout.specs.Layout.{words_length, publishers, slots}
use Rattle.statement.specs.Machine.{State, Given}
use Rattle.publication_law.specs.Steps.{Versions, publisher, another_busy, in_use}

pub record MakingClear (of_participants : Bool) (vs : Versions) (z : Given) (s : State) : Type 0 where
  pub long : length s.words ≡ words_length
  pub readers_low : 1 ≤ z.readers
  pub readers_high : z.readers ≤ readers_max
  pub as_many : of_participants ≡ true → z.publishers ≡ z.readers
  pub publishers_low : 1 ≤ z.publishers
  pub publishers_high : z.publishers ≤ publishers_max
  pub slots_low : slots_min ≤ z.slots
  pub slots_high : z.slots ≤ slots_max
  pub entries_are : length s.entries ≡ z.slots * table_length
  pub version_fits : vs.too_large z.version ≡ false
  pub table_long : length z.table ≡ table_length
  pub table_in_range : any_out_of_range z.table ≡ false
  pub table_steps : any_steep z.table ≡ false

pub record ClaimClear (exclusive retiring : Bool) (s : State) (p slot : ℕ) : Type 0 where
  pub publisher_named_lem : p < publishers s.words
  pub slot_named : slot < slots s.words
  pub in_turn : (publisher s p).place ≡ place_idle
  pub nobody_busy : exclusive && another_busy s p ≡ false
  pub unused : in_use retiring s slot ≡ false
