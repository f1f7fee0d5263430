-- A line is read as a command exactly if it is that command's own text and its arguments have their widths: every other line is unread, whatever is wrong with
-- it. By going through the reading once: each step is unread, or tells what the bytes are. Assumes nothing.
use Rattle.std.specs.Prelude.{ℕ, zero, suc, ◌-◌, ◌≤◌, ◌≡◌, refl, ◌≢◌, ◌↔◌, ◌⊎◌, Bool, true, false, ◌&&◌, List, [], ◌∷◌, ◌++◌, eqb, ltb, ℤ, pos, negsuc, length, get_or, take, Option, Some, None}
use Rattle.std.proofs.Common.{arith, sym, ap, subst, ◌∙◌, inl, inr, take-suc, ltb-true, eqb-true}
use Rattle.std.proofs.Math.Seq.{take-length}
use Rattle.base.specs.RowLaws.{choose_split, and_true, clash}
use Rattle.calls.specs.declared.Call.{Call}
use Rattle.calls.specs.declared.Call.TheVariants as call
use Rattle.calls.specs.Numbers.{number_max, kind_new, kind_old, kind_rest}
use Rattle.sheet_law.specs.declared.Command.{Command}
use Rattle.sheet_law.specs.declared.Command.TheVariants.{Make, Run}
use Rattle.sheet_law.specs.Text.{text, same_text, space_byte, open_bracket, close_bracket, minus_byte, decimal}
use Rattle.sheet_law.specs.Reading.{pitch_least, pitch_most, line_max, narrow_max, up_to_space, after_space, plain, at_most, narrow, wide, negative, positive, angle, Naming, named_in, keywords, keyword, kinds, kind_named, if_read, one, two, pitched, store_line, command, bracketed, inner, line_of}
use Rattle.sheet_law.specs.Reading.Naming.{◌names◌}
use Rattle.std.proofs.lemmas.Slice.Eq.{bytes_eq-Decides}
use Rattle.std.proofs.lemmas.Option.{none-some, same_Some}
use Rattle.sheet_law.proofs.Widths.{at_most_bound, at_most_is}
use Rattle.sheet_law.proofs.Decimals.{plain_decimal, plain-only}
use Rattle.sheet_law.specs.Canonical.{kind_text, angle_text, inner_text, in_brackets, command_text, FitsNarrow, FitsWide, FitsAngle, FitsKind, CommandFits}
use Rattle.sheet_law.proofs.Canonical.{text_length, reads_back}
use Rattle.sheet_law.specs.Only.{EachNaming}

-- Two texts that are found the same are.
pub same_only : (l l' : List ℕ) → same_text l l' ≡ true → l ≡ l'
same_only l l' e = (bytes_eq-Decides l l').0 e

infixr 10 ◌else◌
pub ◌else◌ : {A B : Type 0} → A → B → A × B
a else b = (a, b)

pub named-only : {A : Type 0} (Q : Option A → Type 0) (word : List ℕ) (rows : List (Naming A)) → EachNaming Q word rows → Q (named_in rows word)
unfolding named_in
named-only Q word [] h = h
named-only Q word ((name names x) ∷ rows) h = choose_split Q (same_text word (text name)) (λ e. h.0 (sym (same_only word (text name) e))) (λ _. named-only Q word rows h.1)

-- What a number that is read tells of its text.
at_most_only : (most : ℕ) (l : List ℕ) (n : ℕ) → at_most most (plain l) ≡ Some n → (decimal n ≡ l) × (n ≤ most)
at_most_only most l n e = (plain-only l n (at_most_is most (plain l) n e), at_most_bound most (plain l) n e)

-- What is read is one pitch, or none.
pub angle_same : (v a : ℤ) → Some v ≡ Some a → v ≡ a
angle_same v a e = same_Some v a e

pub no_angle : (v : ℤ) → None ≡ Some v → ⊥
no_angle v e = none-some v e

-- What a pitch that is read tells of its text.
negative_text : (l : List ℕ) (v : ℤ) → negative (at_most pitch_least (plain l)) ≡ Some v → (angle_text v ≡ minus_byte ∷ l) × FitsAngle v
negative_text l v = go (at_most pitch_least (plain l)) refl
  where
    go : (x : Option ℕ) → at_most pitch_least (plain l) ≡ x → negative x ≡ Some v → (angle_text v ≡ minus_byte ∷ l) × FitsAngle v
    go None e z = absurd (no_angle v z)
    go (Some zero) e z = absurd (no_angle v z)
    go (Some (suc n)) e z = let q = at_most_only pitch_least l (suc n) e in
        subst (λ (a : ℤ). (angle_text a ≡ minus_byte ∷ l) × FitsAngle a) (angle_same (negsuc n) v z) (ap (λ (k : List ℕ). minus_byte ∷ k) q.0, omega arith)

positive_text : (l : List ℕ) (v : ℤ) → positive (at_most pitch_most (plain l)) ≡ Some v → (angle_text v ≡ l) × FitsAngle v
positive_text l v = go (at_most pitch_most (plain l)) refl
  where
    go : (x : Option ℕ) → at_most pitch_most (plain l) ≡ x → positive x ≡ Some v → (angle_text v ≡ l) × FitsAngle v
    go None e z = absurd (no_angle v z)
    go (Some n) e z = let q = at_most_only pitch_most l n e in
        subst (λ (a : ℤ). (angle_text a ≡ l) × FitsAngle a) (angle_same (pos n) v z) (q.0, omega arith)

pub angle_text_lem : (l : List ℕ) (v : ℤ) → angle l ≡ Some v → (angle_text v ≡ l) × FitsAngle v
unfolding angle
angle_text_lem [] v e = absurd (no_angle v e)
angle_text_lem (b ∷ l) v e = choose_split (λ (x : Option ℤ). x ≡ Some v → (angle_text v ≡ b ∷ l) × FitsAngle v) (eqb b minus_byte)
    (λ t z. let q = negative_text l v z in (q.0 ∙ ap (λ (c : ℕ). c ∷ l) (sym (eqb-true b minus_byte t)), q.1))
    (λ _ z. positive_text (b ∷ l) v z)
    e

-- What is read of an argument: nothing, or one whose text it is.
module _ (Q : Option Command → Type 0) (bad : Q None) where
  given_only : {A : Type 0} (x : Option A) (f : A → Option Command) → ((n : A) → x ≡ Some n → Q (f n)) → Q (if_read x f)
  given_only None f h = bad
  given_only (Some n) f h = h n refl

  narrow_only : (l : List ℕ) (f : ℕ → Option Command) → ((n : ℕ) → decimal n ≡ l → FitsNarrow n → Q (f n)) → Q (if_read (narrow l) f)
  narrow_only l f h = given_only (narrow l) f (λ n e. let q = at_most_only narrow_max l n e in h n q.0 (omega arith))

  wide_only : (l : List ℕ) (f : ℕ → Option Command) → ((n : ℕ) → decimal n ≡ l → FitsWide n → Q (f n)) → Q (if_read (wide l) f)
  wide_only l f h = given_only (wide l) f (λ n e. let q = at_most_only number_max l n e in h n q.0 (omega arith))

  kind_only : (l : List ℕ) (f : ℕ → Option Command) → ((kind : ℕ) → kind_text kind ≡ l → FitsKind kind → Q (f kind)) → Q (if_read (kind_named l) f)
  kind_only l f h = named-only (λ x. Q (if_read x f)) l kinds ((λ e. h kind_new e (inl refl)) else (λ e. h kind_old e (inr (inl refl))) else (λ e. h kind_rest e (inr (inr refl))) else bad)

  angle_only : (l : List ℕ) (f : ℤ → Option Command) → ((v : ℤ) → angle_text v ≡ l → FitsAngle v → Q (f v)) → Q (if_read (angle l) f)
  angle_only l f h = given_only (angle l) f (λ v e. let q = angle_text_lem l v e in h v q.0 q.1)

-- A text with something after its first space is what stands before it, the space, and what stands after it.
space_or_none : (l : List ℕ) → (after_space l ≡ []) ⊎ (up_to_space l ++ (space_byte ∷ after_space l) ≡ l)
unfolding up_to_space after_space
space_or_none [] = inl refl
space_or_none (b ∷ l) = go (eqb b space_byte) refl (space_or_none l)
  where
    go : (x : Bool) → eqb b space_byte ≡ x → (after_space l ≡ []) ⊎ (up_to_space l ++ (space_byte ∷ after_space l) ≡ l) → (after_space (b ∷ l) ≡ []) ⊎ (up_to_space (b ∷ l) ++ (space_byte ∷ after_space (b ∷ l)) ≡ b ∷ l)
    go true t r = rw t (inr (ap (λ c. c ∷ l) (sym (eqb-true b space_byte t))))
    go false t (inl e) = rw t (inl e)
    go false t (inr e) = rw t (inr (ap (λ rest. b ∷ rest) e))

rejoined : (before after l : List ℕ) → before ≡ up_to_space l → after ≡ after_space l → after ≢ [] → before ++ (space_byte ∷ after) ≡ l
rejoined before after l e d ne = go (space_or_none l)
  where
    go : (after_space l ≡ []) ⊎ (up_to_space l ++ (space_byte ∷ after_space l) ≡ l) → before ++ (space_byte ∷ after) ≡ l
    go (inl z) = absurd (ne (d ∙ z))
    go (inr z) = rw (e, d) z

-- No argument is the empty text.
cons_some : (b : ℕ) (l : List ℕ) → b ∷ l ≢ []
cons_some b l e = let z : ◌≡◌ {A = ℕ} 0 1 = cc in omega arith

spaced_some : (l l' : List ℕ) → l ++ (space_byte ∷ l') ≢ []
spaced_some [] l' = cons_some space_byte l'
spaced_some (b ∷ l) l' = cons_some b (l ++ (space_byte ∷ l'))

decimal_some : (n : ℕ) → decimal n ≢ []
unfolding plain
decimal_some n e = none-some n (ap plain (sym e) ∙ plain_decimal n)

angle_some : (v : ℤ) → angle_text v ≢ []
angle_some (pos n) = decimal_some n
angle_some (negsuc n) = cons_some minus_byte (decimal (suc n))

-- Between the brackets: unread, or the command's own text.
abbrev Inner : List ℕ → Option Command → Type 0
Inner part None = Unit {0}
Inner part (Some c) = (inner_text c ≡ part) × CommandFits c

module _ (part : List ℕ) where
  -- A word with one number behind it, with two, and with a number and a pitch.
  one_only : (word : List ℕ) → word ≡ up_to_space part → (build : ℕ → Call) → ((n : ℕ) → word ++ (space_byte ∷ decimal n) ≡ part → FitsNarrow n → Inner part (Some (Run (build n)))) → Inner part (one (after_space part) build)
  one_only word e build h = narrow_only (Inner part) tt (after_space part) _ (λ n d fits. h n (rejoined word (decimal n) part e d (decimal_some n)) fits)

  two_only : (word : List ℕ) → word ≡ up_to_space part → (build : ℕ → ℕ → Call)
      → ((n m : ℕ) → word ++ (space_byte ∷ (decimal n ++ (space_byte ∷ decimal m))) ≡ part → FitsNarrow n → FitsNarrow m → Inner part (Some (Run (build n m)))) → Inner part (two (after_space part) build)
  two_only word e build h = narrow_only (Inner part) tt (up_to_space (after_space part)) _ (λ n en fn. narrow_only (Inner part) tt (after_space (after_space part)) _ (λ m em fm.
      h n m (rejoined word (decimal n ++ (space_byte ∷ decimal m)) part e (rejoined (decimal n) (decimal m) (after_space part) en em (decimal_some m)) (spaced_some (decimal n) (decimal m))) fn fm))

  pitched_only : (word : List ℕ) → word ≡ up_to_space part → (build : ℕ → ℤ → Call)
      → ((n : ℕ) (v : ℤ) → word ++ (space_byte ∷ (decimal n ++ (space_byte ∷ angle_text v))) ≡ part → FitsNarrow n → FitsAngle v → Inner part (Some (Run (build n v)))) → Inner part (pitched (after_space part) build)
  pitched_only word e build h = narrow_only (Inner part) tt (up_to_space (after_space part)) _ (λ n en fn. angle_only (Inner part) tt (after_space (after_space part)) _ (λ v ev fv.
      h n v (rejoined word (decimal n ++ (space_byte ∷ angle_text v)) part e (rejoined (decimal n) (angle_text v) (after_space part) en ev (angle_some v)) (spaced_some (decimal n) (angle_text v))) fn fv))

  store_text_lem : (kind rs ps ss version : ℕ) → text "store" ≡ up_to_space part → kind_text kind ≡ up_to_space (after_space part) → decimal rs ≡ up_to_space (after_space (after_space part)) → decimal ps ≡ up_to_space (after_space (after_space (after_space part)))
      → decimal ss ≡ up_to_space (after_space (after_space (after_space (after_space part)))) → decimal version ≡ after_space (after_space (after_space (after_space (after_space part)))) → inner_text (Make kind rs ps ss version) ≡ part
  store_text_lem kind rs ps ss version e ek er ep es ev =
      let l : List ℕ = after_space part in
      let after-publishers : List ℕ = decimal ss ++ (space_byte ∷ decimal version) in
      let after-readers : List ℕ = decimal ps ++ (space_byte ∷ after-publishers) in
      let after-kind : List ℕ = decimal rs ++ (space_byte ∷ after-readers) in
      let e-publishers = rejoined (decimal ss) (decimal version) (after_space (after_space (after_space l))) es ev (decimal_some version) in
      let e-readers = rejoined (decimal ps) after-publishers (after_space (after_space l)) ep e-publishers (spaced_some (decimal ss) (decimal version)) in
      let e-kind = rejoined (decimal rs) after-readers (after_space l) er e-readers (spaced_some (decimal ps) after-publishers) in
      rejoined (text "store") (kind_text kind ++ (space_byte ∷ after-kind)) part e (rejoined (kind_text kind) after-kind l ek e-kind (spaced_some (decimal rs) after-readers)) (spaced_some (kind_text kind) after-kind)

  store_only : text "store" ≡ up_to_space part → Inner part (store_line (after_space part))
  store_only e =
      kind_only (Inner part) tt (up_to_space (after_space part)) _ (λ kind ek fk.
      narrow_only (Inner part) tt (up_to_space (after_space (after_space part))) _ (λ rs er fr.
      narrow_only (Inner part) tt (up_to_space (after_space (after_space (after_space part)))) _ (λ ps ep fp.
      narrow_only (Inner part) tt (up_to_space (after_space (after_space (after_space (after_space part))))) _ (λ ss es fs.
      wide_only (Inner part) tt (after_space (after_space (after_space (after_space (after_space part))))) (λ version. Some (Make kind rs ps ss version)) (λ version ev fv.
      (store_text_lem kind rs ps ss version e ek er ep es ev, (fk, fr, fp, fs, fv)))))))

  command_only : Inner part (if_read (keyword (up_to_space part)) (λ word. command word (after_space part)))
  command_only = named-only (λ x. Inner part (if_read x (λ word. command word (after_space part)))) (up_to_space part) keywords
      (store_only
      else (λ e. one_only _ e call.Enter (λ n d f. (d, f)))
      else (λ e. two_only _ e call.Look (λ n m d f g. (d, (f, g))))
      else (λ e. one_only _ e call.Leave (λ n d f. (d, f)))
      else (λ e. two_only _ e call.Claim (λ n m d f g. (d, (f, g))))
      else (λ e. pitched_only _ e call.Write (λ n v d f g. (d, (f, g))))
      else (λ e. one_only _ e call.Swap (λ n d f. (d, f)))
      else (λ e. one_only _ e call.Sync (λ n d f. (d, f)))
      else (λ e. one_only _ e call.Raise (λ n d f. (d, f)))
      else (λ e. two_only _ e call.Walk (λ n m d f g. (d, (f, g))))
      else (λ e. one_only _ e call.Release (λ n d f. (d, f)))
      else (λ e. one_only _ e call.Pick (λ n d f. (d, f)))
      else (λ e. one_only _ e call.Checkpoint (λ n d f. (d, f)))
      else (λ e. one_only _ e call.Defer (λ n d f. (d, f)))
      else tt)

-- A line in brackets is what stands between them, in brackets.
in_brackets_lem : (l : List ℕ) → bracketed l ≡ true → in_brackets (inner l) ≡ l
in_brackets_lem [] e = clash (sym e)
in_brackets_lem (b ∷ rest) e = go (length rest) refl
  where
    p : (ltb 1 (length (b ∷ rest)) ≡ true) × (eqb b open_bracket && eqb (get_or (b ∷ rest) (length (b ∷ rest) - 1) 0) close_bracket ≡ true)
    p = and_true (ltb 1 (length (b ∷ rest))) (eqb b open_bracket && eqb (get_or (b ∷ rest) (length (b ∷ rest) - 1) 0) close_bracket) e

    q : (eqb b open_bracket ≡ true) × (eqb (get_or (b ∷ rest) (length (b ∷ rest) - 1) 0) close_bracket ≡ true)
    q = and_true (eqb b open_bracket) (eqb (get_or (b ∷ rest) (length (b ∷ rest) - 1) 0) close_bracket) p.1

    go : (n : ℕ) → length rest ≡ n → in_brackets (inner (b ∷ rest)) ≡ b ∷ rest
    go zero z = absurd (omega (arith, ltb-true 1 (length (b ∷ rest)) p.0))
    go (suc j) z =
        let i : length (b ∷ rest) - 1 ≡ suc j = omega arith in
        let m : length (b ∷ rest) - 2 ≡ j = omega arith in
        let last : get_or rest j 0 ≡ close_bracket = rw i at (eqb-true (get_or (b ∷ rest) (length (b ∷ rest) - 1) 0) close_bracket q.1) in
        let all : take (suc j) rest ≡ rest = ap (λ x. take x rest) (sym z) ∙ take-length rest in
        let cut : take j rest ++ (close_bracket ∷ []) ≡ rest = ap (λ x. take j rest ++ (x ∷ [])) (sym last) ∙ (sym (take-suc rest j 0 (omega arith)) ∙ all) in
        rw (m, cut) (ap (λ x. x ∷ rest) (sym (eqb-true b open_bracket q.0)))

-- A whole line: unread, or the command's own text.
abbrev IsText : List ℕ → Option Command → Type 0
IsText l None = Unit {0}
IsText l (Some c) = (command_text c ≡ l) × CommandFits c

is_text_inner : (l part : List ℕ) → in_brackets part ≡ l → (x : Option Command) → Inner part x → IsText l x
is_text_inner l part e None i = tt
is_text_inner l part e (Some c) i = (ap in_brackets i.0 ∙ e, i.1)

is_text_bracketed : (l : List ℕ) → bracketed l ≡ true → IsText l (if_read (keyword (up_to_space (inner l))) (λ word. command word (after_space (inner l))))
is_text_bracketed l e = let part : List ℕ = inner l in is_text_inner l part (in_brackets_lem l e) (if_read (keyword (up_to_space part)) (λ word. command word (after_space part))) (command_only part)

is_text : (l : List ℕ) → IsText l (line_of l)
unfolding line_of
is_text l = choose_split (IsText l) (ltb line_max (length l)) (λ _. tt) (λ _. choose_split (IsText l) (bracketed l) (is_text_bracketed l) (λ _. tt))

-- A line that is read as a command is the command's own text, and the command fits.
pub only_text : (l : List ℕ) (c : Command) → line_of l ≡ Some c → command_text c ≡ l
only_text l c e = (subst (IsText l) e (is_text l)).0

pub read_fits : (l : List ℕ) (c : Command) → line_of l ≡ Some c → CommandFits c
read_fits l c e = (subst (IsText l) e (is_text l)).1

-- So a line is read as a command exactly if it is the text of that command and the command fits; and it is unread exactly if it is the text of none that fits.
pub read_exactly : (l : List ℕ) (c : Command) → (line_of l ≡ Some c) ↔ ((command_text c ≡ l) × CommandFits c)
read_exactly l c = (λ e. (only_text l c e, read_fits l c e), λ p. ap line_of (sym p.0) ∙ reads_back c p.1)

pub unread_exactly : (l : List ℕ) → (line_of l ≡ None) ↔ ((c : Command) → CommandFits c → command_text c ≢ l)
unread_exactly l = (λ e c f z. let q : Some c ≡ None = sym ((read_exactly l c).1 (z, f)) ∙ e in let n : ◌≡◌ {A = ℕ} 0 1 = cc in omega arith, λ h. go h (line_of l) refl)
  where
    go : ((c : Command) → CommandFits c → command_text c ≢ l) → (x : Option Command) → line_of l ≡ x → line_of l ≡ None
    go h None e = e
    go h (Some c) e = absurd (h c (read_fits l c e) (only_text l c e))

-- A line that is read is at most 51 bytes, so that it is never one over 80.
pub read_short : (l : List ℕ) (c : Command) → line_of l ≡ Some c → length l ≤ 51
read_short l c e = rw (sym (only_text l c e)) (text_length c (read_fits l c e))
