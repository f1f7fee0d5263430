-- `free_due` meets its contract: what is still to be freed is `staying` from where the loop is. Assumes nothing.
use Rattle.std.proofs.Common.{rules}
use native.Mathlib.Omega.{arith}
use Prim.Native.Nat.{◌-◌}
use mathlib.Core.Path.{◌≡◌, refl, sym, ◌∙◌}
use Rattle.layout.specs.Laws.{length_retired}
use Rattle.qsbr_law.proofs.Freeing.{stays_none, stays_freed, stays_moved}
use Rattle.qsbr_checkpoint.proofs.free_due.Goals as goal
use Rattle.qsbr_checkpoint.proofs.free_due.Goals.{then-d-least, else-d-least}

pub loop-i-init : goal.loop-i-init
loop-i-init c = let e : c.args.n - 0 ≡ c.args.n = omega arith in (omega arith, search rules, rw e refl)

pub loop-i-preserved : goal.loop-i-preserved
loop-i-preserved c = let k = c.loop-i in let e = c.retired_at-d.ensures in
    elim c.if-d-least.branch [
      | then-d-least w ↦ rw (w.words-is, w.kept-is) (
        omega arith,
        rw w.put_retired.ensures (length_retired k.words c.args.p k.kept c.retired_at-d.result ∙ k.invariant.1),
        k.invariant.2 ∙ stays_moved _ _ _ _ _ _ (omega arith) (rw e at w.if-d-least.true) ∙ rw (w.put_retired.ensures, e) refl,
      )
      | else-d-least w ↦ rw (w.words-is, w.kept-is) (omega arith, k.invariant.1, k.invariant.2 ∙ stays_freed _ _ _ _ _ _ (omega arith) (rw e at w.if-d-least.false))
    ]

pub returns : goal.returns
returns c = let k = c.loop-i in sym (k.invariant.2 ∙ stays_none _ _ _ _ _ _ (omega arith))
