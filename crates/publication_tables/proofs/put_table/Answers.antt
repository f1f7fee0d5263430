-- The first k entries of the table are put. Assumes nothing.
use Rattle.std.proofs.Common.{rules}
use native.Mathlib.Omega.{arith}
use lib.ListN.{length, length-set, take}
use lib.Seq.{take_all}
use Prim.Native.Nat.{◌+◌, ◌<◌}
use mathlib.Core.Path.{◌≡◌, refl, sym, ap, ◌∙◌}
use mathlib.Core.List.{List, ◌++◌, append-nil}
use lib.IntN.{ℤ}
use Rattle.calls.specs.PitchLaws.{pitch_back}
use Rattle.publication_tables.specs.FillLaws.{puts}
use Rattle.calls.specs.FirstTable.{entry_of}
use Rattle.publication_tables.proofs.put_table.Goals as goal

pub loop-k-init : goal.loop-k-init
loop-k-init c = let e : c.args.base + 0 ≡ c.args.base = omega arith in (search rules, refl, rw e (sym (append-nil _)))

pub overflow_add-base : goal.overflow_add-base
overflow_add-base c = omega (arith, c.loop-k-test.true, c.requires)

pub bounds-entries-base : goal.bounds-entries-base
bounds-entries-base c = omega (arith, c.loop-k-test.true, c.requires, c.loop-k.invariant.1)

pub loop-k-preserved : goal.loop-k-preserved
loop-k-preserved c = let k = c.loop-k in
    let room : c.args.base + k.k < length k.entries = omega (arith, c.loop-k-test.true, c.requires, k.invariant.1) in
    let low : k.k < length c.args.table.now = omega (arith, c.loop-k-test.true, c.told-table) in
    (omega (arith, c.loop-k-test.true), simp length-set k.invariant.1, simp (pitch_back (entry_of c.args.table.now k.k) c.entries-1.given) (puts k.entries c.args.entries.now c.args.table.now c.args.base k.k room low k.invariant.2))

pub returns : goal.returns
returns c = let k = c.loop-k in let e : k.k ≡ 32 = omega (arith, k.invariant.0, c.loop-k-test.false) in
    (k.invariant.1, (rw e at k.invariant.2) ∙ ap (λ (t : List ℤ). take c.args.base c.args.entries.now ++ t) (take_all 32 c.args.table.now (omega (arith, c.told-table))))
