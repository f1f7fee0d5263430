-- The damage test, as rows: its shared part, and where a kind adds its own.
use Rattle.std.specs.Prelude.{ℕ, ◌*◌, Bool, not, ◌&&◌, ◌||◌, List, [], ◌∷◌, length, leb, ltb, eqb}
use Rattle.base.specs.Rows.{any_true, any_below, outside}
use Rattle.calls.specs.Numbers.{readers_max, publishers_max, slots_min, slots_max, table_length, place_picked, place_idle, place_synchronising}
use Rattle.layout.specs.declared.Reader.{Reader}
use Rattle.layout.specs.declared.Publisher.{Publisher}
use Rattle.layout.specs.Layout.{words_length, kind_word, readers, publishers, slots, current, version}
use Rattle.statement.specs.Machine.{State}
use Rattle.publication_law.specs.Steps.{Versions, reader, publisher}

-- What a kind adds: its number, its versions, and what damages a reader and a publisher (given readers and slots).
pub record DamageRules : Type 0 where
  pub number : ℕ
  pub versions : Versions
  pub reader_damaged : ℕ → ℕ → Reader → Bool
  pub publisher_damaged : ℕ → ℕ → Publisher → Bool

-- Another length of the words, another kind; a size outside the making rules or a wrong entries' length; current slot or version too large.
abbrev pub head_rows : DamageRules → State → List Bool
head_rows K s =
    not (eqb (length s.words) words_length)
    ∷ not (eqb (kind_word s.words) K.number)
    ∷ outside 1 readers_max (readers s.words)
    ∷ outside 1 publishers_max (publishers s.words)
    ∷ outside slots_min slots_max (slots s.words)
    ∷ not (eqb (length s.entries) (slots s.words * table_length))
    ∷ leb (slots s.words) (current s.words)
    ∷ K.versions.too_large (version s.words)
    ∷ []

-- A picked slot (place 5) too large.
abbrev pub wrong_pick : ℕ → Reader → Bool
wrong_pick slots x = eqb x.place place_picked && leb slots x.picked

-- A held slot (place not 0) too large; at 35 to 38 a mark of 0 or above the last, or waits above looks.
abbrev pub publisher_rows : Versions → ℕ → Publisher → List Bool
publisher_rows vs slots y =
    (not (eqb y.place place_idle) && leb slots y.held)
    ∷ (leb place_synchronising y.place && vs.wrong_mark y.walk.mark)
    ∷ (leb place_synchronising y.place && ltb y.walk.looks y.walk.waits)
    ∷ []

-- Numbers of readers and publishers beyond the sizes are not tested.
abbrev pub first_readers_damaged : DamageRules → State → Bool
first_readers_damaged K s = any_below (λ r. K.reader_damaged (readers s.words) (slots s.words) (reader s r)) (readers s.words)

abbrev pub first_publishers_damaged : DamageRules → State → Bool
first_publishers_damaged K s = any_below (λ p. K.publisher_damaged (readers s.words) (slots s.words) (publisher s p)) (publishers s.words)

abbrev pub shared_damage : DamageRules → State → Bool
shared_damage K s = any_true (head_rows K s) || first_readers_damaged K s || first_publishers_damaged K s

-- The same of the readers alone and of the publishers alone, of any words: another length and a count outside the making rules damage here too.
abbrev pub readers_are_damaged : DamageRules → State → Bool
readers_are_damaged K s = not (eqb (length s.words) words_length) || outside 1 readers_max (readers s.words) || first_readers_damaged K s

abbrev pub publishers_are_damaged : DamageRules → State → Bool
publishers_are_damaged K s = not (eqb (length s.words) words_length) || outside 1 publishers_max (publishers s.words) || first_publishers_damaged K s
