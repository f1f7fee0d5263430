-- A text's first line, and one turn of the loop over a card: the next line is a pitch, which joins the entries, or it is none. Assumes nothing.
use Rattle.std.specs.Prelude.{ℕ, ◌+◌, ◌<◌, ◌≤◌, ◌≡◌, refl, Bool, true, false, List, [], ◌∷◌, ◌++◌, ◌==◌, ℤ, eqb, ltb, length, set, take, Option, Some, None, unwrap_or}
use Rattle.std.specs.List.{before_first, after_first}
use Rattle.std.proofs.Common.{arith, add-one, sym, ap, ◌∙◌, append_assoc, append-nil, length-append, length-set, length-take, take_all, drop_of_length-le, ltb-true, ltb-false}
use Rattle.std.proofs.Math.Seq.{take-suc-set}
use Rattle.std.proofs.lemmas.List.{take-append-le}
use Rattle.lines_law.specs.Lines.{newline_byte, lines_from, lines_of, after_lines}
use Rattle.sheet_law.specs.Reading.{angle}
use Rattle.sheet_fields.proofs.Bytes.{before_here, after_here, before_more, after_more}
use Rattle.card_law.specs.Card.{with_line, card_reader, card_lines, card_of, or_line, bad_line}
use Rattle.card_law.proofs.CardLaws.{none_stays}

-- The first line of a text, of which some bytes are read already.
abbrev is_newline : ℕ → Bool
is_newline b = b == newline_byte

abbrev cut : List ℕ → List ℕ → List (List ℕ)
cut begun t = (begun ++ before_first is_newline t) ∷ lines_of (after_first is_newline t)

line_from : (b : ℕ) (begun t : List ℕ) → lines_from (b ∷ begun) t ≡ cut (b ∷ begun) t
unfolding lines_from
line_from b begun [] = ap (λ (l : List ℕ). l ∷ []) (sym (append-nil (b ∷ begun)))
line_from b begun (a ∷ t) = go (eqb a newline_byte) refl (line_from b (begun ++ (a ∷ [])) t)
  where
    go : (x : Bool) → eqb a newline_byte ≡ x → lines_from (b ∷ (begun ++ (a ∷ []))) t ≡ cut (b ∷ (begun ++ (a ∷ []))) t → lines_from (b ∷ begun) (a ∷ t) ≡ cut (b ∷ begun) (a ∷ t)
    go true e _ = rw (before_here is_newline a t e, after_here is_newline a t e, e) (ap (λ (l : List ℕ). l ∷ lines_of t) (sym (append-nil (b ∷ begun))))
    go false e rest = rw (before_more is_newline a t e, after_more is_newline a t e, e) (rest ∙ ap (λ (l : List ℕ). l ∷ lines_of (after_first is_newline t)) (append_assoc (b ∷ begun) (a ∷ []) (before_first is_newline t)))

pub first_line : (t : List ℕ) → 0 < length t → lines_of t ≡ before_first is_newline t ∷ lines_of (after_first is_newline t)
unfolding lines_from
first_line [] h = absurd (omega arith)
first_line (a ∷ t) h = go (eqb a newline_byte) refl
  where
    go : (x : Bool) → eqb a newline_byte ≡ x → lines_of (a ∷ t) ≡ cut [] (a ∷ t)
    go true e = rw (before_here is_newline a t e, after_here is_newline a t e, e) refl
    go false e = rw (before_more is_newline a t e, after_more is_newline a t e, e) (line_from a [] t)

-- The lines before the text that is left are read: their entries, of which `count` stand in the room.
pub record Going (t left : List ℕ) (line : ℕ) (room : List ℤ) (count : ℕ) : Type 0 where
  pub entries : List ℤ
  pub all : card_lines t ≡ after_lines card_reader (Some entries) (lines_of left)
  pub bad : bad_line 0 (lines_of t) ≡ bad_line line (lines_of left)
  pub put : take count room ≡ take (length room) entries
  pub counted : count ≡ length (take (length room) entries)
  pub low : line + length left ≤ length t

pub begins : (t : List ℕ) (room : List ℤ) → Going t t 0 room 0
begins t room = record { entries = []; all = refl; bad = refl; put = sym (take_all (length room) [] (omega arith)); counted = sym (ap length (take_all (length room) [] (omega arith))); low = omega arith }

module _ {t left : List ℕ} {line : ℕ} {room : List ℤ} {count : ℕ} (w : Going t left line room count) where
  pub few : count ≤ length room
  few = omega (arith, w.counted, length-take (length room) w.entries)

  -- The next line, and the text after it.
  module _ (l after : List ℕ) (first : lines_of left ≡ l ∷ lines_of after) where
    -- A line that is no pitch.
    module _ (e : angle l ≡ None) where
      pub no_card : card_of t ≡ []
      unfolding card_of after_lines
      no_card = ap (λ (x : Option (List ℤ)). unwrap_or x [])
          (w.all
          ∙ ap (λ (ls : List (List ℕ)). after_lines card_reader (Some w.entries) ls) first
          ∙ ap (λ (a : Option ℤ). after_lines card_reader (with_line (Some w.entries) a) (lines_of after)) e
          ∙ none_stays (lines_of after))

      pub bad_here : bad_line 0 (lines_of t) ≡ Some (line + 1)
      unfolding bad_line
      bad_here =
          w.bad
          ∙ ap (λ (ls : List (List ℕ)). bad_line line ls) first
          ∙ ap (λ (a : Option ℤ). or_line a (line + 1) (bad_line (line + 1) (lines_of after))) e

    -- A pitch.
    module _ (v : ℤ) (e : angle l ≡ Some v) (less : length after < length left) where
      all_next : card_lines t ≡ after_lines card_reader (Some (w.entries ++ (v ∷ []))) (lines_of after)
      unfolding after_lines
      all_next =
          w.all
          ∙ ap (λ (ls : List (List ℕ)). after_lines card_reader (Some w.entries) ls) first
          ∙ ap (λ (a : Option ℤ). after_lines card_reader (with_line (Some w.entries) a) (lines_of after)) e

      bad_next : bad_line 0 (lines_of t) ≡ bad_line (line + 1) (lines_of after)
      unfolding bad_line
      bad_next =
          w.bad
          ∙ ap (λ (ls : List (List ℕ)). bad_line line ls) first
          ∙ ap (λ (a : Option ℤ). or_line a (line + 1) (bad_line (line + 1) (lines_of after))) e

      -- It is put where there is room.
      put_next : count < length room → Going t after (line + 1) (set room count v) (count + 1)
      put_next space =
          let long : length w.entries ≡ count = omega (arith, w.counted, length-take (length room) w.entries) in
          let same : take (length (set room count v)) (w.entries ++ (v ∷ [])) ≡ w.entries ++ (v ∷ []) =
          take_all (length (set room count v)) (w.entries ++ (v ∷ [])) (omega (arith, length-set room count v, length-append w.entries (v ∷ []))) in
          record {
            entries = w.entries ++ (v ∷ []);
            all = all_next;
            bad = bad_next;
            put = ap (λ (m : ℕ). take m (set room count v)) (add-one count) ∙ take-suc-set room count v space
                ∙ ap (λ (k : List ℤ). k ++ (v ∷ [])) (w.put ∙ take_all (length room) w.entries (omega arith)) ∙ sym same;
            counted = sym (ap length same ∙ (length-append w.entries (v ∷ []) ∙ omega arith));
            low = omega (arith, w.low);
          }

      -- It is left out where there is none.
      left_out : length room ≤ count → Going t after (line + 1) room count
      left_out full =
          let same : take (length room) (w.entries ++ (v ∷ [])) ≡ take (length room) w.entries =
          take-append-le (length room) w.entries (v ∷ []) (omega (arith, w.counted, length-take (length room) w.entries)) in
          record {
            entries = w.entries ++ (v ∷ []);
            all = all_next;
            bad = bad_next;
            put = w.put ∙ sym same;
            counted = w.counted ∙ sym (ap length same);
            low = omega (arith, w.low);
          }

      pub goes_on : (many : ℕ) (filled : List ℤ) → (count < length room → (many ≡ count + 1) × (filled ≡ set room count v)) × (length room ≤ count → (many ≡ count) × (filled ≡ room))
          → Going t after (line + 1) filled many
      goes_on many filled put = go (ltb count (length room)) refl
        where
          go : (b : Bool) → ltb count (length room) ≡ b → Going t after (line + 1) filled many
          go true d = let q = put.0 (ltb-true count (length room) d) in rw (q.0, q.1) (put_next (ltb-true count (length room) d))
          go false d = let q = put.1 (ltb-false count (length room) d) in rw (q.0, q.1) (left_out (ltb-false count (length room) d))

-- At the end all lines are read.
module _ {t left : List ℕ} {line : ℕ} {room : List ℤ} {count : ℕ} (w : Going t left line room count) (over : length left ≤ 0) where
  none_left : lines_of left ≡ []
  unfolding lines_from
  none_left = ap lines_of (drop_of_length-le left over)

  pub all_good : bad_line 0 (lines_of t) ≡ None
  unfolding bad_line
  all_good = w.bad ∙ ap (λ (ls : List (List ℕ)). bad_line line ls) none_left

  pub all_put : (m : ℕ) → length room ≡ m → take count room ≡ take m (card_of t)
  unfolding card_of after_lines
  all_put m e =
      w.put
      ∙ ap (λ (l : List ℤ). take (length room) l) (sym (ap (λ (x : Option (List ℤ)). unwrap_or x []) (w.all ∙ ap (λ (ls : List (List ℕ)). after_lines card_reader (Some w.entries) ls) none_left)))
      ∙ ap (λ (k : ℕ). take k (card_of t)) e
