-- What the code of the rest store asks of an undamaged store, and what its accepted calls give. Assumes nothing.
use Rattle.std.specs.Prelude.{ℕ, ◌+◌, ◌<◌, ◌≤◌, ◌≡◌, Bool, not, ◌&&◌, ◌||◌, List, length, leb, ltb, eqb}
use Rattle.base.specs.Rows.{any_true, any_below, outside}
use Rattle.calls.specs.Numbers.{publishers_max, deferred_max, place_deferring}
use Rattle.layout.specs.Layout.{words_length, readers, publishers, slots, reader_at, publisher_at, retirement_at, retired_at, with_retirement}
use Rattle.statement.specs.Machine.{State}
use Rattle.publication_law.specs.Steps.{publisher}
use Rattle.publication_law.specs.Damage.{head_rows}
use Rattle.qsbr_law.specs.Steps.{damage_rules, retirement, retired, staying}
use Rattle.qsbr_law.specs.KindInvariant.{RetirementFits}

-- The code tests the participants in one pass: of each its reader, its publisher, its step, its count and its retired slots.
abbrev pub eight_deferring : List ℕ → ℕ → Bool
eight_deferring w p = eqb (publisher_at w p).place place_deferring && eqb (retirement_at w p).count deferred_max

abbrev pub retirement_fails : List ℕ → ℕ → ℕ → ℕ → Bool
retirement_fails w n ss p = ltb (n + 1) (retirement_at w p).step || ltb deferred_max (retirement_at w p).count || eight_deferring w p || any_below (λ i. leb ss (retired_at w p i).slot) (retirement_at w p).count

abbrev pub participant_fails : List ℕ → ℕ → ℕ → ℕ → Bool
participant_fails w n ss p = damage_rules.reader_damaged n ss (reader_at w p) || damage_rules.publisher_damaged n ss (publisher_at w p) || retirement_fails w n ss p

-- The pass over the participants, with the tests of the words' length and of their number before it.
abbrev pub participants_fail : List ℕ → ℕ → ℕ → Bool
participants_fail w n ss = not (eqb (length w) words_length) || outside 1 publishers_max n || any_below (participant_fails w n ss) n

-- As many readers as publishers there must be: this the code tests with the head.
abbrev pub head_fails : State → Bool
head_fails s = any_true (head_rows damage_rules s) || not (eqb (readers s.words) (publishers s.words))

-- What an undamaged store gives of a participant: it has words, and its retirement fits.
pub record ParticipantFits (s : State) (p : ℕ) : Type 0 where
  pub long : length s.words ≡ words_length
  pub low : p < publishers_max
  pub step_low : (retirement s p).step ≤ publishers_max + 1
  pub fits : RetirementFits (readers s.words) (slots s.words) (publisher s p) (retirement s p) (retired s p)

-- The words once what is due is freed, of count retired slots, and its owner is outside.
abbrev pub freed : List ℕ → ℕ → ℕ → ℕ → List ℕ
freed w r count least = with_retirement (staying r least count 0 0 w).words r (record { step = 0; count = (staying r least count 0 0 w).count })
