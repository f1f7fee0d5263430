-- A card is read as entries exactly if it is those entries' own text, the last newline apart; so 32 entries take few bytes, and the first 4096 bytes of a file tell
-- whether it has them. By the lines: each is a pitch's own text, or there are no entries. Assumes nothing.
use Rattle.std.specs.Prelude.{ℕ, suc, ◌+◌, ◌*◌, ◌<◌, ◌≤◌, ◌≡◌, refl, ◌↔◌, ◌⊎◌, Bool, true, false, List, [], ◌∷◌, ◌++◌, eqb, ltb, ℤ, pos, negsuc, length, take, Option, Some, None, unwrap_or}
use Rattle.std.proofs.Common.{arith, sym, ap, subst, ◌∙◌, inl, inr, append_assoc, append-nil, length-append, length-take, take_all, ne_eqb, ltb-true, ltb-false}
use Rattle.std.proofs.lemmas.Option.{none-some, same_Some}
use Rattle.calls.specs.Numbers.{table_length}
use Rattle.lines_law.specs.Lines.{newline_byte, lines_of, after_lines}
use Rattle.lines_law.specs.Joining.{joined_lines, OneLine, OneLineEach, IsJoined}
use Rattle.lines_law.proofs.Joining.{is_joined, lines_joined, lines_ended}
use Rattle.sheet_law.specs.Reading.{angle}
use Rattle.sheet_law.specs.Text.{decimal}
use Rattle.sheet_law.specs.Decimals.{AllDigits}
use Rattle.sheet_law.proofs.Decimals.{all_digits}
use Rattle.sheet_law.specs.Canonical.{angle_text, pitch_text_max}
use Rattle.sheet_law.proofs.Canonical.{angle_back, angle_length}
use Rattle.sheet_law.proofs.Only.{angle_text_lem}
use Rattle.card_law.specs.Card.{with_line, card_reader, card_lines, card_of, card_text, card_read, table_on}
use Rattle.card_law.specs.CardLaws.{FitsEach, angle_texts, ReadBehind}

texts_joined : (vs : List ℤ) → joined_lines (angle_texts vs) ≡ card_text vs
unfolding joined_lines angle_texts card_text
texts_joined [] = refl
texts_joined (v ∷ vs) = ap (λ (t : List ℕ). angle_text v ++ (newline_byte ∷ t)) (texts_joined vs)

-- No byte of a pitch's text is a newline.
digits_one_line : (l : List ℕ) → AllDigits l → OneLine l
digits_one_line [] a = tt
digits_one_line (b ∷ l) a = (λ e. omega (arith, a.0.0, e), digits_one_line l a.1)

angle_one_line : (v : ℤ) → OneLine (angle_text v)
angle_one_line (pos n) = digits_one_line (decimal n) (all_digits n)
angle_one_line (negsuc n) = (λ e. omega (arith, e), digits_one_line (decimal (suc n)) (all_digits (suc n)))

texts_one_line : (vs : List ℤ) → OneLineEach (angle_texts vs)
unfolding angle_texts
texts_one_line [] = tt
texts_one_line (v ∷ vs) = (angle_one_line v, texts_one_line vs)

-- After a line that is no pitch there are no entries, whatever follows.
pub none_stays : (ls : List (List ℕ)) → after_lines card_reader None ls ≡ None
unfolding after_lines
none_stays [] = refl
none_stays (l ∷ ls) = none_stays ls

-- Entries' texts are read back behind those that were read before.
texts_back : (us vs : List ℤ) → FitsEach vs → after_lines card_reader (Some us) (angle_texts vs) ≡ Some (us ++ vs)
unfolding after_lines angle_texts
texts_back us [] f = ap Some (sym (append-nil us))
texts_back us (v ∷ vs) f =
    ap (λ (a : Option ℤ). after_lines card_reader (with_line (Some us) a) (angle_texts vs)) (angle_back v f.0)
    ∙ (texts_back (us ++ (v ∷ [])) vs f.1 ∙ ap Some (append_assoc us (v ∷ []) vs))

texts_only : (us : List ℤ) (ls : List (List ℕ)) (vs : List ℤ) → after_lines card_reader (Some us) ls ≡ Some vs → ReadBehind us ls vs
unfolding after_lines angle_texts
texts_only us [] vs e = record { new = []; behind = sym (same_Some us vs e) ∙ sym (append-nil us); texts = refl; fits = tt }
texts_only us (l ∷ ls) vs e = go (angle l) refl e (λ v z. texts_only (us ++ (v ∷ [])) ls vs z)
  where
    go : (a : Option ℤ) → angle l ≡ a → after_lines card_reader (with_line (Some us) a) ls ≡ Some vs
        → ((v : ℤ) → after_lines card_reader (Some (us ++ (v ∷ []))) ls ≡ Some vs → ReadBehind (us ++ (v ∷ [])) ls vs) → ReadBehind us (l ∷ ls) vs
    go None d z rest = absurd (none-some vs (sym (none_stays ls) ∙ z))
    go (Some v) d z rest =
        let q = angle_text_lem l v d in
        let r = rest v z in
        record {
          new = v ∷ r.new;
          behind = r.behind ∙ append_assoc us (v ∷ []) r.new;
          texts = ap (λ (k : List ℕ). k ∷ ls) (sym q.0) ∙ ap (λ (x : List (List ℕ)). angle_text v ∷ x) r.texts;
          fits = (q.1, r.fits);
        }

-- A blank line behind the others makes it no card.
blank_ends : (x : Option (List ℤ)) (ls : List (List ℕ)) → after_lines card_reader x (ls ++ ([] ∷ [])) ≡ None
unfolding after_lines angle
blank_ends None [] = refl
blank_ends (Some vs) [] = refl
blank_ends x (l ∷ ls) = blank_ends (with_line x (angle l)) ls

-- Entries are read from their text, and from it without its last newline.
read_joined : (vs : List ℤ) → FitsEach vs → card_lines (card_text vs) ≡ Some vs
read_joined vs f = ap (λ (t : List ℕ). card_lines t) (sym (texts_joined vs)) ∙ ap (λ (ls : List (List ℕ)). after_lines card_reader (Some []) ls) (lines_joined (angle_texts vs) (texts_one_line vs)) ∙ texts_back [] vs f

read_unended : (t : List ℕ) (vs : List ℤ) → FitsEach vs → t ++ (newline_byte ∷ []) ≡ card_text vs → card_lines t ≡ Some vs
read_unended t vs f e = go (lines_ended t)
  where
    whole : card_lines (t ++ (newline_byte ∷ [])) ≡ Some vs
    whole = ap (λ (u : List ℕ). card_lines u) e ∙ read_joined vs f

    go : (lines_of (t ++ (newline_byte ∷ [])) ≡ lines_of t) ⊎ (lines_of (t ++ (newline_byte ∷ [])) ≡ lines_of t ++ ([] ∷ [])) → card_lines t ≡ Some vs
    go (inl j) = ap (λ (ls : List (List ℕ)). after_lines card_reader (Some []) ls) (sym j) ∙ whole
    go (inr j) = absurd (none-some vs (sym (blank_ends (Some []) (lines_of t)) ∙ (ap (λ (ls : List (List ℕ)). after_lines card_reader (Some []) ls) (sym j) ∙ whole)))

-- A card is read as these entries exactly if they have their width, and it is their text or lacks but its last newline.
pub read_exactly : (t : List ℕ) (vs : List ℤ) → (card_lines t ≡ Some vs) ↔ (FitsEach vs × IsJoined t (card_text vs))
read_exactly t vs = (only, λ (f, j). back f j)
  where
    only : card_lines t ≡ Some vs → FitsEach vs × IsJoined t (card_text vs)
    only e =
        let r = texts_only [] (lines_of t) vs e in
        let text : joined_lines (lines_of t) ≡ card_text vs = ap joined_lines r.texts ∙ (texts_joined r.new ∙ ap card_text (sym r.behind)) in
        (subst FitsEach (sym r.behind) r.fits, subst (λ (j : List ℕ). IsJoined t j) text (is_joined t))

    back : FitsEach vs → IsJoined t (card_text vs) → card_lines t ≡ Some vs
    back f (inl e) = ap (λ (u : List ℕ). card_lines u) e ∙ read_joined vs f
    back f (inr e) = read_unended t vs f e

pub reads_back : (vs : List ℤ) → FitsEach vs → card_of (card_text vs) ≡ vs
unfolding card_of
reads_back vs f = ap (λ (x : Option (List ℤ)). unwrap_or x []) (read_joined vs f)

-- An entry takes at most the longest text of a pitch, and a newline.
abbrev entry_bytes : ℕ
entry_bytes = pitch_text_max + 1

text_short : (vs : List ℤ) → FitsEach vs → length (card_text vs) ≤ entry_bytes * length vs
unfolding card_text
text_short [] f = omega arith
text_short (v ∷ vs) f = omega (arith, length-append (angle_text v) (newline_byte ∷ card_text vs), angle_length v f.0, text_short vs f.1)

joined_short : (t j : List ℕ) → IsJoined t j → length t ≤ length j
joined_short t j (inl e) = omega (arith, ap length e)
joined_short t j (inr e) = omega (arith, ap length e, length-append t (newline_byte ∷ []))

pub entries_short : (t : List ℕ) (vs : List ℤ) → card_lines t ≡ Some vs → length t ≤ entry_bytes * length vs
entries_short t vs e = let q = (read_exactly t vs).0 e in omega (arith, joined_short t (card_text vs) q.1, text_short vs q.0)

-- A card of more than 384 bytes has not 32 entries.
pub long_card : (t : List ℕ) → entry_bytes * table_length < length t → eqb (length (card_of t)) table_length ≡ false
unfolding card_of
long_card t long = go (card_lines t) refl
  where
    go : (x : Option (List ℤ)) → card_lines t ≡ x → eqb (length (unwrap_or x [])) table_length ≡ false
    go None e = refl
    go (Some vs) e = ne_eqb (length vs) table_length (λ z. omega (arith, entries_short t vs e, z))

-- The first 4096 bytes of a file are 32 entries, and which, exactly if the whole file is.
pub first_bytes : (t : List ℕ) → table_on (take card_read t) ≡ table_on t
first_bytes t = go (ltb card_read (length t)) refl
  where
    go : (b : Bool) → ltb card_read (length t) ≡ b → table_on (take card_read t) ≡ table_on t
    go true e = let l = ltb-true card_read (length t) e in
        rw (long_card (take card_read t) (omega (arith, l, length-take card_read t)), long_card t (omega arith)) refl
    go false e = ap table_on (take_all card_read t (omega (arith, ltb-false card_read (length t) e)))
