-- The rest store's damage test, test by test, for words of any length and any number of participants. Assumes nothing.
use Rattle.std.specs.Prelude.{ℕ, ◌*◌, ◌≤◌, ◌≡◌, ◌≢◌, Bool, true, false, not, ◌||◌, List, length, leb, eqb}
use Rattle.std.proofs.Common.{arith, sym, ◌∙◌}
use Rattle.std.proofs.Math.Path.{refl}
use borrow.Author.Tests.{eq-eqb, ne_eqb, le-ltb}
use Rattle.base.specs.Rows.{any_true, any_below, outside}
use Rattle.base.specs.RowLaws.{or_false, or_left, or_right, or_none, not_both, neither, negated, within, not_outside}
use Rattle.calls.specs.Numbers.{number_max, readers_max, publishers_max, slots_min, slots_max, table_length, kind_rest}
use Rattle.layout.specs.Layout.{words_length, kind_word, readers, publishers, slots, current, version}
use Rattle.statement.specs.Machine.{State}
use Rattle.publication_law.specs.Damage.{head_rows}
use Rattle.publication_law.specs.Table.{damaged}
use Rattle.publication_law.proofs.Calls.{undamaged_facts}
use Rattle.qsbr_law.specs.Steps.{last_version, damage_rules, rules}
use Rattle.qsbr_law.specs.Calls.{participant_fails, head_fails, participants_fail}
use Rattle.qsbr_law.proofs.Calls as calls

module _ (w : List ℕ) (n ss : ℕ) where
  pub wrong_length : length w ≢ words_length → participants_fail w n ss ≡ true
  wrong_length ne = rw (ne_eqb _ _ ne) refl

  pub wrong_number : outside 1 publishers_max n ≡ true → participants_fail w n ss ≡ true
  wrong_number out = or_left _ _ (or_right (not (eqb (length w) words_length)) _ out)

  pub participants_decide : length w ≡ words_length → outside 1 publishers_max n ≡ false → participants_fail w n ss ≡ any_below (participant_fails w n ss) n
  participants_decide long few = rw (eq-eqb _ _ long, few) refl

-- The head, test by test: from the number of publishers that of the readers follows, and no version of 64 bits is above the last.
module _ (s : State) where
  pub head_length : length s.words ≢ words_length → head_fails s ≡ true
  head_length ne = rw (ne_eqb _ _ ne) refl

  pub head_kind : kind_word s.words ≢ kind_rest → head_fails s ≡ true
  head_kind ne = or_left _ _ (or_right (not (eqb (length s.words) words_length)) _ (rw (ne_eqb _ _ ne) refl))

  pub head_number : outside 1 publishers_max (publishers s.words) ≡ true → head_fails s ≡ true
  head_number out = or_left _ _ (or_right (not (eqb (length s.words) words_length)) _ (or_right (not (eqb (kind_word s.words) kind_rest)) _ (or_right (outside 1 readers_max (readers s.words)) _ (or_left _ _ out))))

  pub head_unequal : readers s.words ≢ publishers s.words → head_fails s ≡ true
  head_unequal ne = or_right (any_true (head_rows damage_rules s)) _ (rw (ne_eqb _ _ ne) refl)

  module _ (long : length s.words ≡ words_length) (kind : kind_word s.words ≡ kind_rest) (few : outside 1 publishers_max (publishers s.words) ≡ false) (same : readers s.words ≡ publishers s.words) where
    readers_few : outside 1 readers_max (readers s.words) ≡ false
    readers_few = let size = within 1 publishers_max (publishers s.words) few in not_outside 1 readers_max (readers s.words) (omega (arith, size.0, same)) (omega (arith, size.1, same))

    pub head_slots : outside slots_min slots_max (slots s.words) ≡ true → head_fails s ≡ true
    head_slots out = rw (eq-eqb _ _ long, eq-eqb _ _ kind, readers_few, few, out) refl

    pub head_entries : outside slots_min slots_max (slots s.words) ≡ false → length s.entries ≢ slots s.words * table_length → head_fails s ≡ true
    head_entries sized ne = rw (eq-eqb _ _ long, eq-eqb _ _ kind, readers_few, few, sized, ne_eqb _ _ ne) refl

    pub head_current : outside slots_min slots_max (slots s.words) ≡ false → length s.entries ≡ slots s.words * table_length → version s.words ≤ number_max → leb (slots s.words) (current s.words) ≡ head_fails s
    head_current sized whole low = rw (eq-eqb _ _ long, eq-eqb _ _ kind, readers_few, few, sized, eq-eqb _ _ whole, le-ltb last_version (version s.words) low, eq-eqb _ _ same) (sym (or_none _ ∙ or_none _))

module _ (s : State) where
  pub scan_undamaged : head_fails s ≡ false → participants_fail s.words (publishers s.words) (slots s.words) ≡ false → damaged rules s ≡ false
  scan_undamaged head_ok ok = calls.scan_undamaged s head_ok (or_false (not (eqb (length s.words) words_length) || outside 1 publishers_max (publishers s.words)) _ ok).1

  pub scan_participants : participants_fail s.words (publishers s.words) (slots s.words) ≡ true → damaged rules s ≡ true
  scan_participants e = go (damaged rules s) refl
    where
      go : (b : Bool) → damaged rules s ≡ b → b ≡ true
      go true d = refl
      go false d =
          let head = (undamaged_facts rules s d).head in
          absurd (not_both (participants_fail s.words (publishers s.words) (slots s.words)) e
          (neither _ _ (neither _ _ (negated _ (eq-eqb _ _ head.long)) (not_outside 1 publishers_max _ head.publishers_low head.publishers_high)) (unscanned (any_below (participant_fails s.words (publishers s.words) (slots s.words)) (publishers s.words)) refl d)))
        where
          unscanned : (b : Bool) → any_below (participant_fails s.words (publishers s.words) (slots s.words)) (publishers s.words) ≡ b → damaged rules s ≡ false → any_below (participant_fails s.words (publishers s.words) (slots s.words)) (publishers s.words) ≡ false
          unscanned true f d = absurd (not_both _ (calls.scan_participants s f) d)
          unscanned false f d = f
