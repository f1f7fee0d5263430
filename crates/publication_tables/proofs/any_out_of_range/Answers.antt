-- `any` says whether an entry so far is out of range. Assumes nothing.
use Rattle.std.proofs.Common.{rules}
use mathlib.Core.Path.{refl, sym, ◌∙◌}
use Rattle.base.specs.RowLaws.{none_first}
use Rattle.calls.specs.FirstTable.{entry_of}
use Rattle.publication_tables.specs.Scans.{scan_more, out_of_range_read}
use Rattle.publication_tables.proofs.any_out_of_range.Goals as goal

pub loop-v-init : goal.loop-v-init
loop-v-init c = sym (none_first _)

pub loop-v-preserved : goal.loop-v-preserved
loop-v-preserved c = let v = entry_of c.args.table.now c.loop-v.v-index in
    scan_more _ _ _ _ c.loop-v.invariant (c.out_of_range-any.ensures ∙ out_of_range_read v v (search rules) refl)
