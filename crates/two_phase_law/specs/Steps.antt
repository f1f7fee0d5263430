-- The old store (Two-Phase with one publisher): what it fixes of the damage test and of the ten calls. `fixed` gathers it, and `rules` is the table that this gives.
-- A reader's second and published version and a walk's next have no use here: they stay as the making left them and are not tested.
use Rattle.std.specs.Prelude.{ℕ, ◌+◌, ◌-◌, ◌%◌, Bool, true, not, ◌&&◌, ◌||◌, List, [], ◌∷◌, leb, ltb, eqb}
use Rattle.base.specs.Base.{choose}
use Rattle.base.specs.Rows.{any_true, count_below}
use Rattle.calls.specs.declared.WalkReply.{WalkReply}
use Rattle.calls.specs.declared.WalkReply.TheVariants.{Waiting, Spent, Quiet, Returned}
use Rattle.calls.specs.Numbers.{number_modulus, number_max, not_reading, kind_old, place_out, place_loaded, place_published, place_loaded_again, place_open, place_picked, place_synchronising, place_quiet, place_raised, place_returned}
use Rattle.layout.specs.declared.Reader.{Reader}
use Rattle.layout.specs.declared.Publisher.{Publisher}
use Rattle.layout.specs.declared.WalkResult.{WalkResult}
use Rattle.layout.specs.Layout.{readers, current, version, indicator, reader_at, with_indicator, with_reader, blank_reader}
use Rattle.layout.specs.Records.{◌place≔◌, ◌first≔◌, ◌picked≔◌, ◌looks≔◌, ◌waits≔◌}
use Rattle.statement.specs.Machine.{State, Machine}
use Rattle.publication_law.specs.Steps.{Versions, reader, publisher}
use Rattle.publication_law.specs.Damage.{DamageRules, wrong_pick, publisher_rows}
use Rattle.publication_law.specs.Table.{Table, machine}
use Rattle.publication_law.specs.SectionRules.{SectionRules, table_by}

-- Version and mark run modulo 2^64: no version is too large and none the last, every mark is good, 0 too; mark = version + 1 and one before the mark are modulo 2^64.
-- Definitions have no width: a number above 2^64 - 1, which no word holds, is no version and no mark.
abbrev pub versions : Versions
versions = record {
  too_large = λ ver. ltb number_max ver;
  is_last = λ ver. ltb number_max ver;
  wrong_mark = λ mark. ltb number_max mark;
  mark_at = λ ver. (ver + 1) % number_modulus;
  before_mark = λ mark. (mark + number_modulus - 1) % number_modulus;
}

-- A place that the kind does not have (2 and 3 are the new store's); a picked slot too large.
abbrev pub reader_rows : ℕ → Reader → List Bool
reader_rows slots x = ltb place_picked x.place ∷ eqb x.place place_published ∷ eqb x.place place_loaded_again ∷ wrong_pick slots x ∷ []

abbrev pub damage_rules : DamageRules
damage_rules = record {
  number = kind_old;
  versions = versions;
  reader_damaged = λ readers slots x. any_true (reader_rows slots x);
  -- a place that the kind does not have
  publisher_damaged = λ readers slots y. ltb place_returned y.place || any_true (publisher_rows versions slots y);
}

-- The indicator that a reader adds to is that of the parity (0 or 1) of its loaded version.
abbrev pub parity : ℕ → ℕ
parity n = n % 2

-- A reader at 4 or 5 that added to indicator i.
abbrev pub added_to : ℕ → Reader → Bool
added_to i x = leb place_open x.place && eqb (parity x.first) i

-- An indicator unlike the number of readers at 4 or 5 that added to it; n is how many readers there are.
abbrev pub miscounted_at : List ℕ → ℕ → ℕ → Bool
miscounted_at w n i = not (eqb (indicator w i) (count_below (λ r. added_to i (reader_at w r)) n))

abbrev pub miscounted : State → ℕ → Bool
miscounted s i = miscounted_at s.words (readers s.words) i

-- ENTER r: 0 to 1 loads the version; 1 to 4 adds one to the indicator of its parity; 4 to 5 picks.
unfoldable pub onward : ℕ → ℕ → Reader → Reader
onward version current x =
    choose (eqb x.place place_out) (x place≔ place_loaded first≔ version)
    (choose (eqb x.place place_loaded) (x place≔ place_open)
    (x place≔ place_picked picked≔ current))

-- The place that follows: 1, 4, 5.
abbrev pub next_place : ℕ → ℕ
next_place place = choose (eqb place place_out) place_loaded (choose (eqb place place_loaded) place_open place_picked)

abbrev pub entered : State → ℕ → Reader
entered s r = onward (version s.words) (current s.words) (reader s r)

abbrev pub enter_words : State → ℕ → List ℕ
enter_words s r =
    let w = with_reader s.words r (entered s r) in
    let i = parity (reader s r).first in
    choose (eqb (reader s r).place place_loaded) (with_indicator w i (indicator s.words i + 1)) w

-- LEAVE r goes to 0 and takes one from the indicator that r added to. The slot that was picked stays in its word, and counts no more.
abbrev pub leaving : Reader → Reader
leaving x = x place≔ place_out

abbrev pub leave_words : State → ℕ → List ℕ
leave_words s r =
    let i = parity (reader s r).first in
    with_indicator (with_reader s.words r (leaving (reader s r))) i (indicator s.words i - 1)

-- WALK p b, at most one look. At 35 at indicator (mark mod 2), at 37 at the other.
abbrev pub looked_at : Publisher → ℕ
looked_at y = choose (eqb y.place place_synchronising) (parity y.walk.mark) (1 - parity y.walk.mark)

abbrev pub look_result : Publisher → ℕ → ℕ → WalkReply → WalkResult
look_result y looks waits a = record { walk = y.walk looks≔ looks waits≔ waits; reply = a }

-- At 35 zero gives quiet and place 36; at 37 zero gives returned and place 38. Nonzero: waits rises, waiting with the indicator's number.
-- Spent exactly if b = 0. Every look, passed or not, adds one to looks.
unfoldable pub look_at : ℕ → Publisher → ℕ → WalkResult
look_at count y b =
    choose (eqb b 0) (look_result y y.walk.looks y.walk.waits Spent)
    (choose (eqb count 0)
    (look_result y (y.walk.looks + 1) y.walk.waits (choose (eqb y.place place_synchronising) Quiet (Returned (y.walk.looks + 1) y.walk.waits)))
    (look_result y (y.walk.looks + 1) (y.walk.waits + 1) (Waiting (looked_at y))))

abbrev pub looks_of : State → Publisher → ℕ → WalkResult
looks_of s y b = look_at (indicator s.words (looked_at y)) y b

-- A fresh reader's published version is NOT_READING, in all 64 records.
abbrev pub fresh_reader : Reader
fresh_reader = blank_reader not_reading

-- 31 another publisher not at place 0; RAISE p at 36; WALK p b at 35 and 37.
abbrev pub fixed : SectionRules
fixed = record {
  damage = damage_rules;
  further = λ s. miscounted s 0 || miscounted s 1;
  fresh_reader = fresh_reader;
  entered = entered;
  enter_words = enter_words;
  leave_words = leave_words;
  exclusive = true;
  raises_at = λ place. eqb place place_quiet;
  walks_at = λ place. eqb place place_synchronising || eqb place place_raised;
  looks = λ s p b. looks_of s (publisher s p) b;
}

abbrev pub rules : Table
rules = table_by fixed

abbrev pub TwoPhase : Machine
TwoPhase = machine rules
