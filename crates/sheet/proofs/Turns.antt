-- One turn of the loop: the next byte joins the line, or ends it, and what went on so far goes on by that byte; what is taken in all is what was taken so far and
-- what is taken of the rest. Assumes nothing.
use Rattle.std.proofs.Common.{◌≡◌, ℕ, suc, ◌+◌, ◌-◌, ◌<◌, ◌≤◌, true, false, List, [], ◌∷◌, ◌++◌, length, get_or, take, drop, ℤ, sym, refl, ap, ◌∙◌, append-nil, add-one, arith, length-append, take-append-drop, drop_of_length-le, drop-cons, take-suc, le-ltb, lt-ltb, eq-eqb, ne_eqb}
use Rattle.statement.specs.Machine.{State}
use Rattle.lines_law.specs.Lines.{newline_byte, byte, fed, joined, printed, said_at}
use Rattle.lines_law.proofs.LineLaws.{fed_append, printed_append}
use Rattle.sheet_law.specs.Printing.{printed_line, printed_max}
use Rattle.sheet_law.specs.Sheet.{line_for, said_to, after_line, next_line, SheetState, sheet_reader}
use Rattle.sheet_printing.specs.Buffer.{Added, behind}
use Rattle.sheet.specs.Begun.{Begun, begun}
use Rattle.sheet.specs.Feeds.{kept_state, stops_at, taken, Feeds}

more : (t : List ℕ) (u : ℕ) → u < length t → take (u + 1) t ≡ take u t ++ (get_or t u 0 ∷ [])
more t u h = ap (λ (n : ℕ). take n t) (add-one u) ∙ take-suc t u 0 h

fed_next : (table : List ℤ) (d : SheetState) (t : List ℕ) (u : ℕ) → u < length t → fed (sheet_reader table) d (take (u + 1) t) ≡ byte (sheet_reader table) (fed (sheet_reader table) d (take u t)) (get_or t u 0)
unfolding fed
fed_next table d t u h = ap (λ (k : List ℕ). fed (sheet_reader table) d k) (more t u h) ∙ fed_append (sheet_reader table) d (take u t) (get_or t u 0 ∷ [])

printed_next : (table : List ℤ) (d : SheetState) (t : List ℕ) (u : ℕ) → u < length t → printed (sheet_reader table) d (take (u + 1) t) ≡ printed (sheet_reader table) d (take u t) ++ said_at (sheet_reader table) (fed (sheet_reader table) d (take u t)) (get_or t u 0)
unfolding printed
printed_next table d t u h =
    ap (λ (k : List ℕ). printed (sheet_reader table) d k) (more t u h)
    ∙ printed_append (sheet_reader table) d (take u t) (get_or t u 0 ∷ [])
    ∙ ap (λ (k : List ℕ). printed (sheet_reader table) d (take u t) ++ k) (append-nil (said_at (sheet_reader table) (fed (sheet_reader table) d (take u t)) (get_or t u 0)))

-- The input from a byte on: it is taken, or feeding stops there.
taken_one : (table : List ℤ) (room : ℕ) (e : SheetState) (b : ℕ) (t : List ℕ) → stops_at room b ≡ false → taken table room e (b ∷ t) ≡ suc (taken table (room - length (said_at (sheet_reader table) e b)) (byte (sheet_reader table) e b) t)
unfolding taken
taken_one table room e b t g = rw g refl

taken_none : (table : List ℤ) (room : ℕ) (e : SheetState) (b : ℕ) (t : List ℕ) → stops_at room b ≡ true → taken table room e (b ∷ t) ≡ 0
unfolding taken
taken_none table room e b t g = rw g refl

taken_next : (table : List ℤ) (room : ℕ) (e : SheetState) (t : List ℕ) (u : ℕ) → u < length t → stops_at room (get_or t u 0) ≡ false
    → taken table room e (drop u t) ≡ suc (taken table (room - length (said_at (sheet_reader table) e (get_or t u 0))) (byte (sheet_reader table) e (get_or t u 0)) (drop (u + 1) t))
taken_next table room e t u h g =
    ap (λ (k : List ℕ). taken table room e k) (drop-cons t u 0 h ∙ ap (λ (n : ℕ). get_or t u 0 ∷ drop n t) (sym (add-one u)))
    ∙ taken_one table room e (get_or t u 0) (drop (u + 1) t) g

-- So far u bytes are taken and m bytes printed. What is taken in all is these and, from the state e on and into the room that is left, what is taken of the rest.
pub record Going (table : List ℤ) (d : SheetState) (t : List ℕ) (u : ℕ) (e : SheetState) (before out : List ℕ) (m : ℕ) : Type 0 where
  pub total : taken table (length before) d t ≡ u + taken table (length before - m) e (drop u t)
  pub after : e ≡ fed (sheet_reader table) d (take u t)
  pub prints : m ≡ length (printed (sheet_reader table) d (take u t))
  pub bytes : take m out ≡ printed (sheet_reader table) d (take u t)
  pub rest : drop m out ≡ drop m before

pub begins : (table : List ℤ) (d : SheetState) (t out : List ℕ) → Going table d t 0 d out out 0
unfolding fed printed
begins table d t out = let z : length out - 0 ≡ length out = omega arith in
    record { total = omega (arith, ap (λ (r : ℕ). taken table r d t) z); after = refl; prints = refl; bytes = refl; rest = refl }

-- What goes on by one byte: the state by `byte`, the output by what is said at it.
module _ (table : List ℤ) (d : SheetState) (t : List ℕ) (u : ℕ) (e f : SheetState) (before out new : List ℕ) (m l : ℕ) (x : List ℕ) where
  went_on : Going table d t u e before out m → u < length t → stops_at (length before - m) (get_or t u 0) ≡ false
      → f ≡ byte (sheet_reader table) e (get_or t u 0) → said_at (sheet_reader table) e (get_or t u 0) ≡ x → l ≡ m + length x → take l new ≡ take m out ++ x → drop l new ≡ drop l out → Going table d t (u + 1) f before new l
  went_on w h goes moved said long put rest =
      let left : length before - m - length (said_at (sheet_reader table) e (get_or t u 0)) ≡ length before - l = omega (arith, ap length said) in
      let same : taken table (length before - m - length (said_at (sheet_reader table) e (get_or t u 0))) (byte (sheet_reader table) e (get_or t u 0)) (drop (u + 1) t) ≡ taken table (length before - l) f (drop (u + 1) t) =
      ap (λ (r : ℕ). taken table r (byte (sheet_reader table) e (get_or t u 0)) (drop (u + 1) t)) left ∙ ap (λ (y : SheetState). taken table (length before - l) y (drop (u + 1) t)) (sym moved) in
      let all : printed (sheet_reader table) d (take (u + 1) t) ≡ printed (sheet_reader table) d (take u t) ++ x =
      printed_next table d t u h ∙ ap (λ (y : SheetState). printed (sheet_reader table) d (take u t) ++ said_at (sheet_reader table) y (get_or t u 0)) (sym w.after) ∙ ap (λ (k : List ℕ). printed (sheet_reader table) d (take u t) ++ k) said in
      record {
        total = omega (arith, w.total, taken_next table (length before - m) e t u h goes, same);
        after = moved ∙ ap (λ (y : SheetState). byte (sheet_reader table) y (get_or t u 0)) w.after ∙ sym (fed_next table d t u h);
        prints = omega (arith, long, w.prints, ap length all, length-append (printed (sheet_reader table) d (take u t)) x);
        bytes = put ∙ ap (λ (k : List ℕ). k ++ x) w.bytes ∙ sym all;
        rest = rest ∙ behind before out m l (omega arith) w.rest;
      }

module _ {table : List ℤ} {d : SheetState} {t : List ℕ} {u : ℕ} {k : Begun} {s : State} {before out : List ℕ} {m : ℕ} (w : Going table d t u (kept_state k s) before out m) (h : u < length t) (k' : Begun) where
  -- Every byte but a newline joins the line.
  pub joins : (get_or t u 0 ≡ newline_byte → ⊥) → k' ≡ begun k.lines (joined (sheet_reader table) k.bytes (get_or t u 0)) → Going table d t (u + 1) (kept_state k' s) before out m
  joins ne e =
      rw e (went_on table d t u (kept_state k s) (kept_state (begun k.lines (joined (sheet_reader table) k.bytes (get_or t u 0))) s) before out out m m [] w h
      (rw (ne_eqb (get_or t u 0) newline_byte ne) refl)
      (rw (ne_eqb (get_or t u 0) newline_byte ne) refl)
      (rw (ne_eqb (get_or t u 0) newline_byte ne) refl)
      (omega arith)
      (sym (append-nil (take m out)))
      refl)

  -- A newline ends it, and the next line begins with no byte.
  pub ends : get_or t u 0 ≡ newline_byte → m + printed_max ≤ length before → k' ≡ begun (next_line k.lines) [] → {r : State} → r ≡ after_line table s (line_for s k.bytes)
      → (x : List ℕ) → x ≡ said_to table s (line_for s k.bytes) → {q : ℕ} → q ≡ next_line k.lines → {new : List ℕ} {l : ℕ} → Added printed_max (printed_line q x) out m new l → Going table d t (u + 1) (kept_state k' r) before new l
  ends nl room ended {r} after x said {q} number {new} {l} a =
      went_on table d t u (kept_state k s) (kept_state k' r) before out new m l (printed_line q x) w h
      (rw (eq-eqb (get_or t u 0) newline_byte nl) (le-ltb (length before - m) printed_max (omega arith)))
      (rw (eq-eqb (get_or t u 0) newline_byte nl, ended, after) refl)
      (rw (eq-eqb (get_or t u 0) newline_byte nl, said, number) refl)
      a.length_is
      a.bytes
      a.rest

-- Where nothing of the rest is taken, what went on so far is all.
module _ {table : List ℤ} {d : SheetState} {t : List ℕ} {u : ℕ} {e : SheetState} {before out : List ℕ} {m : ℕ} (w : Going table d t u e before out m) where
  all_taken_lem : taken table (length before - m) e (drop u t) ≡ 0 → Feeds table d t u e before out m
  all_taken_lem none = record {
    takes = omega (arith, w.total, none);
    after = w.after;
    prints = w.prints;
    says = sym (take-append-drop m out) ∙ ap (λ (k : List ℕ). k ++ drop m out) w.bytes ∙ ap (λ (k : List ℕ). printed (sheet_reader table) d (take u t) ++ k) w.rest;
  }

  pub at_the_end : u ≡ length t → Feeds table d t (length t) e before out m
  unfolding taken
  at_the_end h = rw (← h) (all_taken_lem (ap (λ (k : List ℕ). taken table (length before - m) e k) (drop_of_length-le t (omega arith))))

  pub at_a_newline : u < length t → get_or t u 0 ≡ newline_byte → length before < m + printed_max → Feeds table d t u e before out m
  at_a_newline h nl full =
      all_taken_lem
      (ap (λ (k : List ℕ). taken table (length before - m) e k) (drop-cons t u 0 h)
      ∙ taken_none table (length before - m) e (get_or t u 0) (drop (suc u) t) (rw (eq-eqb (get_or t u 0) newline_byte nl) (lt-ltb (length before - m) printed_max (omega arith))))
