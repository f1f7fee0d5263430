-- The new store (GraceVersion): what it fixes of the damage test and of the ten calls. `fixed` gathers it, and `rules` is the table that this gives.
-- The two indicators have no use here: they are 0 from the making on and not tested.
use Rattle.std.specs.Prelude.{ℕ, zero, suc, ◌+◌, Bool, false, not, ◌&&◌, ◌||◌, List, [], ◌∷◌, leb, ltb, eqb}
use Rattle.base.specs.Base.{choose}
use Rattle.base.specs.Rows.{any_true}
use Rattle.calls.specs.declared.WalkReply.{WalkReply}
use Rattle.calls.specs.declared.WalkReply.TheVariants.{Waiting, Spent, Returned}
use Rattle.calls.specs.Numbers.{not_reading, kind_new, place_out, place_loaded, place_published, place_loaded_again, place_open, place_picked, place_synchronising, place_quiet, place_raised, place_returned}
use Rattle.layout.specs.declared.Reader.{Reader}
use Rattle.layout.specs.declared.Publisher.{Publisher}
use Rattle.layout.specs.declared.WalkRecord.{WalkRecord}
use Rattle.layout.specs.declared.WalkResult.{WalkResult}
use Rattle.layout.specs.Layout.{readers, current, version, reader_at, with_reader, blank_reader, no_walk}
use Rattle.layout.specs.Records.{◌place≔◌, ◌first≔◌, ◌second≔◌, ◌published≔◌, ◌picked≔◌, ◌mark≔◌, ◌next≔◌, ◌looks≔◌, ◌waits≔◌}
use Rattle.statement.specs.Machine.{State, Machine}
use Rattle.publication_law.specs.Steps.{Versions, up_to, reader, publisher}
use Rattle.publication_law.specs.Damage.{DamageRules, wrong_pick, publisher_rows}
use Rattle.publication_law.specs.Table.{Table, machine}
use Rattle.publication_law.specs.SectionRules.{SectionRules, table_by}

-- The last version: 2^64 - 2.
abbrev pub last_version : ℕ
last_version = 18446744073709551614

abbrev pub versions : Versions
versions = up_to last_version

-- A place that the kind does not have; a picked slot too large; at 2 or 3 a published version unlike the first loaded.
abbrev pub reader_rows : ℕ → Reader → List Bool
reader_rows slots x =
    ltb place_picked x.place
    ∷ wrong_pick slots x
    ∷ ((eqb x.place place_published || eqb x.place place_loaded_again) && not (eqb x.published x.first))
    ∷ []

-- A place that the kind does not have (36 is the old store's); at 35 or 37 next not below readers.
abbrev pub extra_rows : ℕ → Publisher → List Bool
extra_rows readers y =
    ltb place_returned y.place
    ∷ eqb y.place place_quiet
    ∷ ((eqb y.place place_synchronising || eqb y.place place_raised) && leb readers y.walk.next)
    ∷ []

abbrev pub damage_rules : DamageRules
damage_rules = record {
  number = kind_new;
  versions = versions;
  reader_damaged = λ readers slots x. any_true (reader_rows slots x);
  publisher_damaged = λ readers slots y. any_true (extra_rows readers y) || any_true (publisher_rows versions slots y);
}

-- ENTER r: 0 to 1 loads the version; 1 to 2 publishes it as r's entry in the versions; 2 to 3 loads the version again;
-- 3 to 4 publishes the second if the two differ; 4 to 5 picks the current slot.
unfoldable pub onward : ℕ → ℕ → Reader → Reader
onward version current x =
    choose (eqb x.place place_out) (x place≔ place_loaded first≔ version)
    (choose (eqb x.place place_loaded) (x place≔ place_published published≔ x.first)
    (choose (eqb x.place place_published) (x place≔ place_loaded_again second≔ version)
    (choose (eqb x.place place_loaded_again) (x place≔ place_open published≔ choose (eqb x.first x.second) x.published x.second)
    (x place≔ place_picked picked≔ current))))

abbrev pub entered : State → ℕ → Reader
entered s r = onward (version s.words) (current s.words) (reader s r)

-- LEAVE r goes to 0 and publishes NOT_READING. The slot that was picked stays in its word, and counts no more.
abbrev pub leaving : Reader → Reader
leaving x = x place≔ place_out published≔ not_reading

-- The reader that a walk looks at when i of n readers have passed.
abbrev pub looked_at : ℕ → ℕ → ℕ
looked_at n i = i

abbrev pub walk_result : ℕ → ℕ → ℕ → ℕ → WalkReply → WalkResult
walk_result mark next looks waits a = record { walk = no_walk mark≔ mark next≔ next looks≔ looks waits≔ waits; reply = a }

-- Up to b looks of a walk that has passed `next` of n readers: a look at a reader passes if its published version is at least mark; next then rises.
-- WALK stops at the first reader not passed, adds one to waits and replies waiting with that reader. When next reaches the reader count: returned.
-- Spent is the reply exactly if b looks all passed and next is still below the count. Every look, passed or not, adds one to looks.
unfoldable pub looks_from : List ℕ → ℕ → ℕ → ℕ → ℕ → ℕ → ℕ → WalkResult
looks_from w n mark waits zero next looks = walk_result mark next looks waits Spent
looks_from w n mark waits (suc b) next looks =
    choose (ltb (reader_at w (looked_at n next)).published mark)
    (walk_result mark next (looks + 1) (waits + 1) (Waiting (looked_at n next)))
    (choose (leb n (next + 1))
    (walk_result mark (next + 1) (looks + 1) waits (Returned (looks + 1) waits))
    (looks_from w n mark waits b (next + 1) (looks + 1)))

abbrev pub looks_of : State → WalkRecord → ℕ → WalkResult
looks_of s walk b = looks_from s.words (readers s.words) walk.mark walk.waits b walk.next walk.looks

-- A fresh reader's published version is NOT_READING, in all 64 records.
abbrev pub fresh_reader : Reader
fresh_reader = blank_reader not_reading

-- Nothing else damages it; no 31; RAISE p at 35; WALK p b at 37.
abbrev pub fixed : SectionRules
fixed = record {
  damage = damage_rules;
  further = λ s. false;
  fresh_reader = fresh_reader;
  entered = entered;
  enter_words = λ s r. with_reader s.words r (entered s r);
  leave_words = λ s r. with_reader s.words r (leaving (reader s r));
  exclusive = false;
  raises_at = λ place. eqb place place_synchronising;
  walks_at = λ place. eqb place place_raised;
  looks = λ s p b. looks_of s (publisher s p).walk b;
}

abbrev pub rules : Table
rules = table_by fixed

abbrev pub GraceVersion : Machine
GraceVersion = machine rules
