-- A kind of store as a machine over words and entries, its lists of calls, and what every store records.
use Rattle.std.specs.Prelude.{ℕ, ◌≡◌, Bool, not, ◌&&◌, ◌||◌, List, [], ◌∷◌, ℤ, eqb}
use Rattle.std.proofs.Math.Option.{Option, none, some}
use Rattle.base.specs.Base.{choose}
use Rattle.base.specs.Rows.{any_below}
use Rattle.calls.specs.declared.Call.{Call}
use Rattle.calls.specs.declared.Reply.{Reply}
use Rattle.calls.specs.declared.Reply.TheVariants.{Made}
use Rattle.calls.specs.Numbers.{kind_rest, place_idle, place_picked}
use Rattle.calls.specs.Events.{Event}
use Rattle.calls.specs.Events.Event.{◌⇒◌}
use Rattle.layout.specs.Layout.{kind_word, current, reader_at, publisher_at, retirement_at, retired_at}

-- A store with its entries, as they are lent.
pub record State : Type 0 where
  pub words : List ℕ
  pub entries : List ℤ

abbrev pub state : List ℕ → List ℤ → State
state w entries = record { words = w; entries = entries }

-- Each call takes the store and hands it back with a reply.
pub record Outcome : Type 0 where
  pub reply : Reply
  pub after : State

abbrev pub outcome : Reply → State → Outcome
outcome a s = record { reply = a; after = s }

-- What a making is given beside the lent words and entries: three sizes, the first version and the first table.
pub record Given : Type 0 where
  pub readers : ℕ
  pub publishers : ℕ
  pub slots : ℕ
  pub version : ℕ
  pub table : List ℤ

abbrev pub given : ℕ → ℕ → ℕ → ℕ → List ℤ → Given
given readers publishers slots version table = record { readers = readers; publishers = publishers; slots = slots; version = version; table = table }

-- A kind gives its making and its step, and nothing else.
pub record Machine : Type 0 where
  pub making : Given → State → Outcome
  pub step : State → Call → Outcome

-- Fresh from an accepted making: of some arguments, lent words and lent entries.
pub record Fresh (M : Machine) (s : State) : Type 0 where
  pub arguments : Given
  pub lent : State
  pub made : M.making arguments lent ≡ outcome Made s

module _ (M : Machine) where
  -- Each call is given the store and entries as the one before left them.
  abbrev pub after_all : State → List Call → State
  after_all s [] = s
  after_all s (c ∷ cs) = after_all (M.step s c).after cs

  -- The calls of a list with their replies.
  abbrev pub events : State → List Call → List Event
  events s [] = []
  events s (c ∷ cs) = (c ⇒ (M.step s c).reply) ∷ events (M.step s c).after cs

-- What every store records: its current slot, what each publisher holds, what each reader at place 5 picked.
abbrev pub current_slot : State → ℕ
current_slot s = current s.words

-- The kinds whose publishers retire slots: hold some beside the one that their record names, until these are free.
abbrev pub retires : ℕ → Bool
retires kind = eqb kind kind_rest

abbrev pub retired_slot : State → ℕ → ℕ → Bool
retired_slot s p slot = any_below (λ i. eqb (retired_at s.words p i).slot slot) (retirement_at s.words p).count

-- A publisher holds the slots that it has retired, in a kind that retires slots, and at a place other than 0 the slot that its record names.
abbrev pub holds_slot : Bool → State → ℕ → ℕ → Bool
holds_slot retiring s p slot = (retiring && retired_slot s p slot) || (not (eqb (publisher_at s.words p).place place_idle) && eqb (publisher_at s.words p).held slot)

abbrev pub held_slot : State → ℕ → ℕ → Bool
held_slot s p slot = holds_slot (retires (kind_word s.words)) s p slot

abbrev pub picked_slot : State → ℕ → Option ℕ
picked_slot s r = choose (eqb (reader_at s.words r).place place_picked) (some (reader_at s.words r).picked) none
