-- What feeding a sheet gives: how many bytes of the input are taken, the state after them, and the output. That fed step by step, the last line at the end,
-- a sheet prints what its definition says. Assumes nothing.
use Rattle.std.specs.Prelude.{◌≡◌, ℕ, suc, ◌-◌, ◌<◌, ◌≤◌, Bool, true, false, ◌&&◌, List, [], ◌∷◌, ◌++◌, length, take, drop, ℤ, ◌==◌, ◌≢◌, nat_lt, refl}
use Rattle.std.proofs.Common.{arith, sym, ap, ◌∙◌, length-append, take_at, le-ltb}
use Rattle.std.proofs.Math.Seq.{take-length}
use Rattle.base.specs.Base.{choose}
use Rattle.base.specs.RowLaws.{choose_split}
use Rattle.sheet.specs.declared.Sheet.{Sheet}
use Rattle.sheet.specs.Begun.{Begun}
use Rattle.lines_law.specs.Lines.{newline_byte, byte, ending, fed, printed, said_at}
use Rattle.lines_law.proofs.LineLaws.{fed_append, printed_append}
use Rattle.sheet_law.specs.Printing.{printed_max}
use Rattle.statement.specs.Machine.{State, state}
use Rattle.sheet_law.specs.Sheet.{sheet, SheetState, sheet_state, start, sheet_reader}
use Rattle.sheet_law.specs.Reads.{kept_max, by_bytes}

-- Between two bytes: what is kept of the sheet, and the store; so for a sheet that is played.
abbrev pub kept_state : Begun → State → SheetState
kept_state kept s = sheet_state kept.lines kept.bytes s

abbrev pub sheet_state_of : Sheet → SheetState
sheet_state_of s = kept_state s.kept (state s.words.now s.room.now)

-- Feeding stops at a newline if the longest line does not fit into the room that is left, and at no other byte.
abbrev pub stops_at : ℕ → ℕ → Bool
stops_at room b = b == newline_byte && nat_lt room printed_max

-- How many bytes of an input are taken, with so much room in the output; what is printed for a byte takes its length of it.
unfoldable pub taken : List ℤ → ℕ → SheetState → List ℕ → ℕ
taken table room d [] = 0
taken table room d (b ∷ t) = choose (stops_at room b) 0 (suc (taken table (room - length (said_at (sheet_reader table) d b)) (byte (sheet_reader table) d b) t))

-- With a first table and from the state d, `used` bytes of the input are taken; e is the state after them, and `made` bytes are printed for them, at the start of the output. Behind
-- those the output is as before.
pub record Feeds (table : List ℤ) (d : SheetState) (input : List ℕ) (used : ℕ) (e : SheetState) (before out : List ℕ) (made : ℕ) : Type 0 where
  pub takes : used ≡ taken table (length before) d input
  pub after : e ≡ fed (sheet_reader table) d (take used input)
  pub prints : made ≡ length (printed (sheet_reader table) d (take used input))
  pub says : out ≡ printed (sheet_reader table) d (take used input) ++ drop made before

-- A state whose line is kept in so many bytes is fed; with any other number of bytes for it nothing is done.
-- Left open are the kept bytes beyond the line's, and how far a count goes above them all.
pub record FeedsIn (table : List ℤ) (size : ℕ) (d : SheetState) (input : List ℕ) (used : ℕ) (e : SheetState) (before out : List ℕ) (made : ℕ) : Type 0 where
  pub right : size ≡ kept_max → Feeds table d input used e before out made
  pub wrong : (size ≢ kept_max) → (used ≡ 0) × (made ≡ 0) × (e ≡ d) × (out ≡ before)

-- What is lent to a sheet stays the same: the words, the room and the table.
abbrev pub SameLent : Sheet → Sheet → Type 0
SameLent before after = (after.words.ghost_name ≡ before.words.ghost_name) × (after.room.ghost_name ≡ before.room.ghost_name) × (after.table ≡ before.table)

-- No more is taken than there is, and into an output that the longest line fits into something of every input.
taken_most : (table : List ℤ) (room : ℕ) (d : SheetState) (t : List ℕ) → taken table room d t ≤ length t
unfolding taken
taken_most table room d [] = omega arith
taken_most table room d (b ∷ t) = choose_split (λ (n : ℕ). n ≤ suc (length t)) (stops_at room b) (λ e. omega arith) (λ e. omega (arith, taken_most table (room - length (said_at (sheet_reader table) d b)) (byte (sheet_reader table) d b) t))

and_with_false : (x : Bool) → (x && false) ≡ false
and_with_false true = refl
and_with_false false = refl

taken_some : (table : List ℤ) (room : ℕ) (d : SheetState) (t : List ℕ) → printed_max ≤ room → 0 < length t → 0 < taken table room d t
unfolding taken
taken_some table room d [] fits some = absurd (omega arith)
taken_some table room d (b ∷ t) fits some = rw (le-ltb room printed_max fits, and_with_false (b == newline_byte)) (omega arith)

-- What is known of a step besides.
module _ {table : List ℤ} {d : SheetState} {input : List ℕ} {used : ℕ} {e : SheetState} {before out : List ℕ} {made : ℕ} (f : Feeds table d input used e before out made) where
  pub used_fits : used ≤ length input
  used_fits = omega (arith, f.takes, taken_most table (length before) d input)

  pub moves : printed_max ≤ length before → 0 < length input → 0 < used
  moves fits some = omega (arith, f.takes, taken_some table (length before) d input fits some)

  pub made_fits : made ≤ length out
  made_fits = omega (arith, f.prints, ap length f.says, length-append (printed (sheet_reader table) d (take used input)) (drop made before))

  pub begins_with : take made out ≡ printed (sheet_reader table) d (take used input)
  begins_with = ap (λ (l : List ℕ). take made l) f.says ∙ take_at (printed (sheet_reader table) d (take used input)) (drop made before) made (sym f.prints)

  -- Where nothing was made the output is as before.
  pub nothing_made : made ≡ 0 → out ≡ before
  nothing_made none = f.says ∙ ap (λ (l : List ℕ). l ++ drop made before) (empty (printed (sheet_reader table) d (take used input)) (omega (arith, f.prints))) ∙ ap (λ (n : ℕ). drop n before) none
    where
      empty : (l : List ℕ) → length l ≡ 0 → l ≡ []
      empty [] h = refl
      empty (b ∷ l) h = absurd (omega arith)

-- One step: what it was given, and what it gave.
pub record Step : Type 0 where
  pub input : List ℕ
  pub used : ℕ
  pub after : SheetState
  pub before : List ℕ
  pub out : List ℕ
  pub made : ℕ

-- Steps after each other with one first table, each from the state as the one before left it.
abbrev pub Chain : List ℤ → SheetState → List Step → Type 0
Chain table d [] = Unit {0}
Chain table d (s ∷ ss) = Feeds table d s.input s.used s.after s.before s.out s.made × Chain table s.after ss

-- The state after them, all that they took and all that they printed.
abbrev pub state_after : SheetState → List Step → SheetState
state_after d [] = d
state_after d (s ∷ ss) = state_after s.after ss

abbrev pub all_taken : List Step → List ℕ
all_taken [] = []
all_taken (s ∷ ss) = take s.used s.input ++ all_taken ss

abbrev pub all_printed : List Step → List ℕ
all_printed [] = []
all_printed (s ∷ ss) = take s.made s.out ++ all_printed ss

chain_after : (table : List ℤ) (d : SheetState) (ss : List Step) → Chain table d ss → state_after d ss ≡ fed (sheet_reader table) d (all_taken ss)
unfolding fed
chain_after table d [] c = refl
chain_after table d (s ∷ ss) (f, c) =
    chain_after table s.after ss c
    ∙ ap (λ (e : SheetState). fed (sheet_reader table) e (all_taken ss)) f.after
    ∙ sym (fed_append (sheet_reader table) d (take s.used s.input) (all_taken ss))

chain_printed : (table : List ℤ) (d : SheetState) (ss : List Step) → Chain table d ss → all_printed ss ≡ printed (sheet_reader table) d (all_taken ss)
unfolding printed
chain_printed table d [] c = refl
chain_printed table d (s ∷ ss) (f, c) =
    ap (λ (k : List ℕ). k ++ all_printed ss) (begins_with f)
    ∙ ap (λ (k : List ℕ). printed (sheet_reader table) d (take s.used s.input) ++ k) (chain_printed table s.after ss c ∙ ap (λ (e : SheetState). printed (sheet_reader table) e (all_taken ss)) f.after)
    ∙ sym (printed_append (sheet_reader table) d (take s.used s.input) (all_taken ss))

-- However the input is cut, and however often the output was full: what all steps printed from the start, and the step that takes the whole ending, is the sheet of all that was taken.
pub fed_sheet : (table : List ℤ) (ss : List Step) → Chain table start ss → (l : Step) → Feeds table (state_after start ss) l.input l.used l.after l.before l.out l.made → l.input ≡ ending (state_after start ss).begun → l.used ≡ length l.input
    → all_printed ss ++ take l.made l.out ≡ sheet table (all_taken ss)
fed_sheet table ss c l f e all =
    ap (λ (k : List ℕ). all_printed ss ++ k) (begins_with f ∙ ap (λ (n : ℕ). printed (sheet_reader table) (state_after start ss) (take n l.input)) all ∙ ap (λ (k : List ℕ). printed (sheet_reader table) (state_after start ss) k) (take-length l.input ∙ e))
    ∙ ap (λ (k : List ℕ). k ++ printed (sheet_reader table) (state_after start ss) (ending (state_after start ss).begun)) (chain_printed table start ss c)
    ∙ ap (λ (x : SheetState). printed (sheet_reader table) start (all_taken ss) ++ printed (sheet_reader table) x (ending x.begun)) (chain_after table start ss c)
    ∙ sym (printed_append (sheet_reader table) start (all_taken ss) (ending (fed (sheet_reader table) start (all_taken ss)).begun))
    ∙ by_bytes table (all_taken ss)
