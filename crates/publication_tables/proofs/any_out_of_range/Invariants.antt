-- `any` says whether an entry so far is out of range. Assumes nothing.
use mathlib.Core.Path.{◌≡◌}
use Rattle.base.specs.Rows.{any_below}
use Rattle.calls.specs.FirstTable.{out_of_range, entry_of}
use Rattle.publication_tables.proofs.any_out_of_range.Given as goal

abbrev pub invariant-loop-v : goal.invariant-loop-v
invariant-loop-v l = l.any ≡ any_below (λ k. out_of_range (entry_of l.table k)) l.v-index
