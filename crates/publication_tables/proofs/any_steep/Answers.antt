-- `any` says whether two neighbours before entry k are steep. Assumes nothing.
use Rattle.std.proofs.Common.{rules}
use native.Mathlib.Omega.{arith}
use Prim.Native.Nat.{◌+◌, ◌-◌}
use lib.ListN.{length}
use mathlib.Core.Path.{◌≡◌, refl, sym, ap, ◌∙◌}
use Rattle.base.specs.RowLaws.{none_below, none_first}
use Rattle.calls.specs.FirstTable.{entry_of}
use Rattle.publication_tables.specs.Scans.{scan_more, steep_read, out_of_range_read}
use Rattle.publication_tables.proofs.any_steep.Invariants.{steep_at}
use Rattle.publication_tables.proofs.any_steep.Goals as goal

pub loop-k-init : goal.loop-k-init
loop-k-init c = (omega arith, omega arith, sym (none_first _))

pub differ-any-requires : goal.differ-any-requires
differ-any-requires c =
    let table = c.args.table.now in
    let k = c.loop-k.k in (
      out_of_range_read (entry_of table (k - 1)) (entry_of table (k - 1)) (search rules) refl ∙ none_below _ _ (k - 1) c.requires (omega (arith, c.loop-k-test.true, c.loop-k.invariant.0)),
      out_of_range_read (entry_of table k) (entry_of table k) (search rules) refl ∙ none_below _ _ k c.requires (omega (arith, c.loop-k-test.true)),
    )

pub loop-k-preserved : goal.loop-k-preserved
loop-k-preserved c =
    let table = c.args.table.now in
    let k = c.loop-k.k in
    let here : k - 1 + 1 ≡ k = omega (arith, c.loop-k.invariant.0) in
    let next : k + 1 - 1 ≡ k - 1 + 1 = omega (arith, c.loop-k.invariant.0) in
    let said = c.differ-any.ensures ∙ steep_read (entry_of table (k - 1)) (entry_of table k) (entry_of table (k - 1)) (entry_of table (k - 1 + 1)) (search rules) (search rules) refl (ap (entry_of table) (sym here)) in
    (omega arith, omega (arith, c.loop-k-test.true, c.loop-k.invariant.0), rw next (scan_more (steep_at table) (k - 1) _ _ c.loop-k.invariant.2 said))

pub returns : goal.returns
returns c =
    let table = c.args.table.now in
    let done : c.loop-k.k - 1 ≡ length table - 1 = omega (arith, c.loop-k.invariant.1, c.loop-k-test.false) in
    rw done at c.loop-k.invariant.2
