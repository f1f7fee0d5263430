-- The slots before s have the table, by its copy. Assumes nothing.
use Rattle.std.proofs.Common.{rules}
use native.Mathlib.Omega.{arith}
use lib.Seq.{take_all}
use Prim.Native.Nat.{◌*◌}
use mathlib.Core.Path.{◌≡◌, refl, sym, ap, ◌∙◌}
use Rattle.calls.specs.FirstTable.{tables}
use Rattle.publication_tables.specs.FillLaws.{fills_next, tables_none}
use Rattle.publication_tables.proofs.fill.Goals as goal

pub loop-s-init : goal.loop-s-init
loop-s-init c = (search rules, refl, tables_none c.args.entries.now c.args.table.now)

pub loop-s-preserved : goal.loop-s-preserved
loop-s-preserved c = let k = c.loop-s in
    (omega (arith, c.loop-s-test.true), c.put_table.ensures.0 ∙ k.invariant.1, fills_next _ _ _ k.s (c.put_table.ensures.1) k.invariant.2)

pub returns : goal.returns
returns c = let k = c.loop-s in let e : k.s ≡ c.args.slots = omega (arith, k.invariant.0, c.loop-s-test.false) in
    sym (take_all (k.s * 32) k.entries (omega (arith, k.invariant.1, c.requires))) ∙ k.invariant.2 ∙ ap (λ n. tables n c.args.table.now) e
