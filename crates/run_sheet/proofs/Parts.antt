-- What is fed of a read: part by part, each from where the one before ended. Some of it is taken, no more than there is, and what was fed before and then is what was fed in all. Assumes nothing.
use Rattle.std.specs.Prelude.{◌≡◌, ℕ, ◌+◌, ◌-◌, ◌<◌, ◌≤◌, true, false, List, [], ◌++◌, length, take, drop, ℤ, ◌==◌, refl}
use Rattle.std.proofs.Common.{arith, sym, ap, ◌∙◌, length-drop, drop-drop}
use Rattle.std.proofs.lemmas.Bool.{eqb-false}
use Rattle.std.proofs.Math.Seq.{take-add}
use Rattle.base.specs.RowLaws.{clash}
use Rattle.lines_law.specs.Lines.{fed, lines_from, after_lines}
use Rattle.card_law.specs.Card.{card_of}
use Rattle.lines_law.proofs.LineLaws.{fed_append}
use Rattle.sheet_law.specs.Printing.{printed_max}
use Rattle.sheet_law.specs.Sheet.{SheetState, sheet_reader}
use Rattle.sheet_law.proofs.Widths.{tail}
use Rattle.sheet.specs.Feeds.{Feeds, used_fits, moves}
use Rattle.run_sheet.specs.ReadFed.{ReadFed}

-- With a first table and from the state d, the first bytes of a read l were fed; `rest` are those that are left, and e is the state.
pub record FedUpTo (table : List ℤ) (d : SheetState) (l rest : List ℕ) (e : SheetState) : Type 0 where
  pub bytes : ℕ
  pub within : bytes ≤ length l
  pub left : rest ≡ drop bytes l
  pub after : e ≡ fed (sheet_reader table) d (take bytes l)

pub none_fed : (table : List ℤ) (d : SheetState) (l : List ℕ) → FedUpTo table d l l d
unfolding fed
none_fed table d l = record { bytes = 0; within = omega arith; left = refl; after = refl }

module _ {table : List ℤ} {d : SheetState} {l rest : List ℕ} {e : SheetState} (w : FedUpTo table d l rest e) where
  -- Some of what is left is fed.
  pub fed_further : {used : ℕ} {g : SheetState} {before out : List ℕ} {made : ℕ} → Feeds table e rest used g before out made → FedUpTo table d l (take (length rest - used) (drop used rest)) g
  fed_further {used} {g} f = let fits = used_fits f in let long = ap length w.left ∙ length-drop w.bytes l in
      record {
        bytes = w.bytes + used;
        within = omega arith;
        left = tail used rest ∙ ap (λ (k : List ℕ). drop used k) w.left ∙ drop-drop used w.bytes l;
        after = f.after
            ∙ ap (λ (x : SheetState). fed (sheet_reader table) x (take used rest)) w.after
            ∙ sym (fed_append (sheet_reader table) d (take w.bytes l) (take used rest))
            ∙ ap (λ (k : List ℕ). fed (sheet_reader table) d (take w.bytes l ++ take used k)) w.left
            ∙ ap (λ (k : List ℕ). fed (sheet_reader table) d k) (sym (take-add w.bytes used l));
      }

  pub less_left : {used : ℕ} {g : SheetState} {before out : List ℕ} {made : ℕ} → Feeds table e rest used g before out made → printed_max ≤ length before → (length rest == 0) ≡ false → length (take (length rest - used) (drop used rest)) < length rest
  less_left {used} f fits some = let h = eqb-false (length rest) 0 some in omega (arith, moves f fits (omega arith), ap length (tail used rest), length-drop used rest)

  -- What is kept of a read where a write failed, and where all was written.
  pub some_read : ReadFed table d l e false
  some_read = record { bytes = w.bytes; within = w.within; after = w.after; whole = λ t. clash (sym t) }

  pub all_read : length rest ≡ 0 → ReadFed table d l e true
  all_read none = record { bytes = w.bytes; within = w.within; after = w.after; whole = λ t. let long = ap length w.left ∙ length-drop w.bytes l in omega arith }

-- A card of no bytes has no entries.
pub empty_card : card_of [] ≡ []
unfolding card_of lines_from after_lines
empty_card = refl
