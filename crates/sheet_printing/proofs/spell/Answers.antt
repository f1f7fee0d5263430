-- A number of 64 bits has at most twenty digits, and a tenth that is not 0 has one less than the number. Assumes nothing.
use Prim.Native.Nat.{ℕ, ◌-◌}
use native.Mathlib.Omega.{arith}
use Rattle.std.proofs.Common.{rules}
use mathlib.Core.Path.{◌≡◌, ap, ◌∙◌}
use mathlib.Core.List.{List}
use lib.ListN.{length, take, drop, set, length-set, length-drop}
use Rattle.std.proofs.lemmas.List.{drop_all, take_all}
use Rattle.sheet_law.specs.Text.{digits_before, decimal}
use Rattle.sheet_printing.proofs.Spelling.{tenth, room_left, spelled_next, spelled_last}
use Rattle.sheet_printing.proofs.spell.Goals as goal

pub loop-left-init : goal.loop-left-init
unfolding decimal
loop-left-init c = record { more = search rules; within = search rules; fits = omega arith; digits = ap (digits_before _ c.args.n) (drop_all 20 c.args.bytes.now (omega arith)) }

pub loop-left-preserved : goal.loop-left-preserved
loop-left-preserved c = let k = c.loop-left in
    record {
      more = omega (arith, room_left k.at k.left k.invariant.fits c.if-left-eq0.false);
      within = omega arith;
      fits = tenth k.at k.left k.invariant.fits;
      digits = spelled_next c.args.n k.left k.bytes k.at c.digit.result k.invariant.more (omega arith) c.digit.ensures k.invariant.digits c.if-left-eq0.false;
    }

-- the digits stand from a place to the end of the array
the_rest : (l : List ℕ) (n : ℕ) → take (length l - n) (drop n l) ≡ drop n l
the_rest l n = take_all (length l - n) (drop n l) (rw length-drop (omega arith))

pub returns-clause-digits : goal.returns-clause-digits
returns-clause-digits c = let k = c.loop-left in
    ap (λ (n : ℕ). take (n - (k.at - 1)) (drop (k.at - 1) (set k.bytes (k.at - 1) c.digit.result))) (omega (arith, length-set {A = ℕ}))
    ∙ the_rest (set k.bytes (k.at - 1) c.digit.result) (k.at - 1)
    ∙ spelled_last c.args.n k.left k.bytes k.at c.digit.result k.invariant.more (omega arith) c.digit.ensures k.invariant.digits c.if-left-eq0.true
