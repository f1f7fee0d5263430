-- A command's own text. A command whose arguments have their widths is read back from it, whatever they are: its text is bracketed, its decimals are read back,
-- and it is at most 51 bytes. Assumes nothing.
use Rattle.std.specs.Prelude.{ℕ, suc, ◌+◌, ◌-◌, ◌≤◌, ◌≡◌, refl, List, [], ◌∷◌, ◌++◌, eqb, ℤ, pos, negsuc, length, Some}
use Rattle.std.proofs.Common.{arith, ◌∙◌, inl, inr, length-append, take_at, lt-ltb, le-ltb}
use Rattle.std.proofs.lemmas.List.{get_or_at}
use Rattle.base.specs.RowLaws.{choose_split}
use Rattle.calls.specs.declared.Call.{Call}
use Rattle.calls.specs.declared.Call.TheVariants as call
use Rattle.calls.specs.Numbers.{number_max, kind_new, kind_old}
use Rattle.sheet_law.specs.declared.Command.{Command}
use Rattle.sheet_law.specs.declared.Command.TheVariants.{Make, Run}
use Rattle.sheet_law.specs.Text.{text, space_byte, close_bracket, decimal}
use Rattle.sheet_law.specs.Reading.{pitch_least, pitch_most, line_max, narrow_max, up_to_space, after_space, at_most, narrow, wide, angle, named_in, keyword, kind_named, if_read, one, two, pitched, store_line, command, line_of}
use Rattle.sheet_law.specs.Decimals.{signed}
use Rattle.sheet_law.proofs.Decimals.{plain_decimal, decimal_up_to_space, decimal_after_space, signed_decimal, decimal_length}
use Rattle.sheet_law.specs.Canonical.{kind_text, angle_text, call_text, store_text, inner_text, in_brackets, command_text, FitsNarrow, FitsWide, FitsAngle, FitsCall, FitsKind, CommandFits, pitch_text_max}

-- A bracketed text is read as what stands between the brackets.
bracketed_read : (part : List ℕ) → length part + 2 ≤ line_max → line_of (in_brackets part) ≡ if_read (keyword (up_to_space part)) (λ word. command word (after_space part))
unfolding line_of
bracketed_read part short =
    let l : List ℕ = in_brackets part in
    let long : length (part ++ text ")") ≡ length part + 1 = length-append part (text ")") in
    rw (
      le-ltb line_max (length l) (omega arith),
      lt-ltb 1 (length l) (omega arith),
      get_or_at (text "(" ++ part) close_bracket [] 0 (length l - 1) (omega arith),
      take_at part (text ")") (length l - 2) (omega arith),
    ) refl

-- Arguments are read back.
narrow_back : (n : ℕ) → FitsNarrow n → narrow (decimal n) ≡ Some n
narrow_back n fits = rw (plain_decimal n, le-ltb narrow_max n (omega arith)) refl

wide_back : (n : ℕ) → FitsWide n → wide (decimal n) ≡ Some n
wide_back n fits = rw (plain_decimal n, le-ltb number_max n (omega arith)) refl

kind_back : (kind : ℕ) → FitsKind kind → (l : List ℕ) → (kind_named (up_to_space (kind_text kind ++ (space_byte ∷ l))) ≡ Some kind) × (after_space (kind_text kind ++ (space_byte ∷ l)) ≡ l)
unfolding up_to_space after_space named_in
kind_back kind (inl e) l = rw e (refl, refl)
kind_back kind (inr (inl e)) l = rw e (refl, refl)
kind_back kind (inr (inr e)) l = rw e (refl, refl)

-- A pitch is a decimal that may have a minus before it, either within its width.
angle_signed : (l : List ℕ) → angle l ≡ signed (at_most pitch_least) (at_most pitch_most) l
unfolding angle
angle_signed [] = refl
angle_signed (byte ∷ l) = refl

pub angle_back : (v : ℤ) → FitsAngle v → angle (angle_text v) ≡ Some v
unfolding angle
angle_back (pos n) fits = angle_signed (decimal n) ∙ (signed_decimal (at_most pitch_least) (at_most pitch_most) n ∙ rw (le-ltb pitch_most n (omega arith)) refl)
angle_back (negsuc n) fits = rw (plain_decimal (suc n), le-ltb pitch_least (suc n) (omega arith)) refl

-- What stands between the brackets is read back.
one_back : (build : ℕ → Call) (n : ℕ) → FitsNarrow n → one (decimal n) build ≡ Some (Run (build n))
one_back build n f = rw (narrow_back n f) refl

two_back : (build : ℕ → ℕ → Call) (n m : ℕ) → FitsNarrow n → FitsNarrow m → two (decimal n ++ (space_byte ∷ decimal m)) build ≡ Some (Run (build n m))
two_back build n m f g = rw (decimal_up_to_space n (decimal m), decimal_after_space n (decimal m), narrow_back n f, narrow_back m g) refl

pitched_back : (build : ℕ → ℤ → Call) (n : ℕ) (v : ℤ) → FitsNarrow n → FitsAngle v → pitched (decimal n ++ (space_byte ∷ angle_text v)) build ≡ Some (Run (build n v))
pitched_back build n v f g = rw (decimal_up_to_space n (angle_text v), decimal_after_space n (angle_text v), narrow_back n f, angle_back v g) refl

call_back : (c : Call) → FitsCall c → if_read (keyword (up_to_space (call_text c))) (λ word. command word (after_space (call_text c))) ≡ Some (Run c)
unfolding up_to_space after_space named_in
call_back (call.Enter r) f = one_back call.Enter r f
call_back (call.Look r k) (f, g) = two_back call.Look r k f g
call_back (call.Leave r) f = one_back call.Leave r f
call_back (call.Claim p slot) (f, g) = two_back call.Claim p slot f g
call_back (call.Write p v) (f, g) = pitched_back call.Write p v f g
call_back (call.Swap p) f = one_back call.Swap p f
call_back (call.Sync p) f = one_back call.Sync p f
call_back (call.Raise p) f = one_back call.Raise p f
call_back (call.Walk p b) (f, g) = two_back call.Walk p b f g
call_back (call.Release p) f = one_back call.Release p f
call_back (call.Pick r) f = one_back call.Pick r f
call_back (call.Checkpoint r) f = one_back call.Checkpoint r f
call_back (call.Defer p) f = one_back call.Defer p f

store_back : (kind rs ps ss version : ℕ) → CommandFits (Make kind rs ps ss version) → store_line (store_text kind rs ps ss version) ≡ Some (Make kind rs ps ss version)
store_back kind rs ps ss version (fk, fr, fp, fs, fv) =
    let after-slots : List ℕ = decimal version in
    let after-publishers : List ℕ = decimal ss ++ (space_byte ∷ after-slots) in
    let after-readers : List ℕ = decimal ps ++ (space_byte ∷ after-publishers) in
    let after-kind : List ℕ = decimal rs ++ (space_byte ∷ after-readers) in
    rw (
      (kind_back kind fk after-kind).0,
      (kind_back kind fk after-kind).1,
      decimal_up_to_space rs after-readers,
      decimal_after_space rs after-readers,
      decimal_up_to_space ps after-publishers,
      decimal_after_space ps after-publishers,
      decimal_up_to_space ss after-slots,
      decimal_after_space ss after-slots,
      narrow_back rs fr,
      narrow_back ps fp,
      narrow_back ss fs,
      wide_back version fv,
    ) refl

inner_back : (c : Command) → CommandFits c → if_read (keyword (up_to_space (inner_text c))) (λ word. command word (after_space (inner_text c))) ≡ Some c
unfolding up_to_space after_space named_in
inner_back (Make kind rs ps ss version) f = store_back kind rs ps ss version f
inner_back (Run c) f = call_back c f

-- A command's text is at most 51 bytes.
narrow_length : (n : ℕ) → FitsNarrow n → length (decimal n) ≤ 5
narrow_length n fits = decimal_length 5 n (omega arith) (omega arith)

wide_length : (n : ℕ) → FitsWide n → length (decimal n) ≤ 20
wide_length n fits = decimal_length 20 n (omega arith) (omega arith)

pub angle_length : (v : ℤ) → FitsAngle v → length (angle_text v) ≤ pitch_text_max
angle_length (pos n) fits = let d = decimal_length (pitch_text_max - 1) n (omega arith) (omega arith) in omega arith
angle_length (negsuc n) fits = let d = decimal_length (pitch_text_max - 1) (suc n) (omega arith) (omega arith) in omega arith

kind_length : (kind : ℕ) → length (kind_text kind) ≤ 4
kind_length kind = choose_split (λ x. length x ≤ 4) (eqb kind kind_new) (λ _. omega arith) (λ _. choose_split (λ x. length x ≤ 4) (eqb kind kind_old) (λ _. omega arith) (λ _. omega arith))

spaced_length : (m n : ℕ) (l l' : List ℕ) → length l ≤ m → length l' ≤ n → length (l ++ (space_byte ∷ l')) ≤ m + 1 + n
spaced_length m n l l' le le' = omega (arith, length-append l (space_byte ∷ l'))

pair_length : (n m : ℕ) → FitsNarrow n → FitsNarrow m → length (decimal n ++ (space_byte ∷ decimal m)) ≤ 11
pair_length n m f g = spaced_length 5 5 (decimal n) (decimal m) (narrow_length n f) (narrow_length m g)

call_length : (c : Call) → FitsCall c → length (call_text c) ≤ 49
call_length (call.Enter r) f = omega (arith, narrow_length r f)
call_length (call.Look r k) (f, g) = omega (arith, pair_length r k f g)
call_length (call.Leave r) f = omega (arith, narrow_length r f)
call_length (call.Claim p slot) (f, g) = omega (arith, pair_length p slot f g)
call_length (call.Write p v) (f, g) = omega (arith, spaced_length 5 pitch_text_max (decimal p) (angle_text v) (narrow_length p f) (angle_length v g))
call_length (call.Swap p) f = omega (arith, narrow_length p f)
call_length (call.Sync p) f = omega (arith, narrow_length p f)
call_length (call.Raise p) f = omega (arith, narrow_length p f)
call_length (call.Walk p b) (f, g) = omega (arith, pair_length p b f g)
call_length (call.Release p) f = omega (arith, narrow_length p f)
call_length (call.Pick r) f = omega (arith, narrow_length r f)
call_length (call.Checkpoint r) f = omega (arith, narrow_length r f)
call_length (call.Defer p) f = omega (arith, narrow_length p f)

store_length : (kind rs ps ss version : ℕ) → CommandFits (Make kind rs ps ss version) → length (store_text kind rs ps ss version) ≤ 43
store_length kind rs ps ss version (fk, fr, fp, fs, fv) =
    let after-publishers : List ℕ = decimal ss ++ (space_byte ∷ decimal version) in
    let after-readers : List ℕ = decimal ps ++ (space_byte ∷ after-publishers) in
    let after-kind : List ℕ = decimal rs ++ (space_byte ∷ after-readers) in
    let le-publishers = spaced_length 5 20 (decimal ss) (decimal version) (narrow_length ss fs) (wide_length version fv) in
    let le-readers = spaced_length 5 26 (decimal ps) after-publishers (narrow_length ps fp) le-publishers in
    let le-kind = spaced_length 5 32 (decimal rs) after-readers (narrow_length rs fr) le-readers in
    spaced_length 4 38 (kind_text kind) after-kind (kind_length kind) le-kind

inner_length : (c : Command) → CommandFits c → length (inner_text c) ≤ 49
inner_length (Make kind rs ps ss version) f = omega (arith, store_length kind rs ps ss version f)
inner_length (Run c) f = call_length c f

pub text_length : (c : Command) → CommandFits c → length (command_text c) ≤ 51
text_length c f = omega (arith, inner_length c f, length-append (inner_text c) (text ")"))

-- A command is read back from its text.
pub reads_back : (c : Command) → CommandFits c → line_of (command_text c) ≡ Some c
reads_back c f = bracketed_read (inner_text c) (omega (arith, inner_length c f)) ∙ inner_back c f
