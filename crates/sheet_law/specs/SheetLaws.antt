-- Laws of the sheet's single line: its number; which calls a kind lacks, and that such a line is unread; what a line that makes nothing leaves: an unread one,
-- a refused `store`, a call before a made store. Assumes nothing.
use Rattle.std.specs.Prelude.{ℕ, Bool, false, ◌||◌}
use Rattle.std.proofs.Math.Dec.{eqb}
use Rattle.calls.specs.declared.Call.{Call}
use Rattle.calls.specs.declared.Call.TheVariants as call
use Rattle.calls.specs.Numbers.{kind_new, kind_old, kind_rest}

-- Which calls the kind with a number lacks: `rest` those of sections and grace periods, `new` and `old` those of loops that never enter a section.
-- A number of no kind lacks none.
abbrev pub lacked_at : ℕ → Call → Bool
lacked_at n (call.Enter r) = eqb n kind_rest
lacked_at n (call.Look r k) = false
lacked_at n (call.Leave r) = eqb n kind_rest
lacked_at n (call.Claim p slot) = false
lacked_at n (call.Write p v) = false
lacked_at n (call.Swap p) = false
lacked_at n (call.Sync p) = eqb n kind_rest
lacked_at n (call.Raise p) = eqb n kind_rest
lacked_at n (call.Walk p b) = eqb n kind_rest
lacked_at n (call.Release p) = eqb n kind_rest
lacked_at n (call.Pick r) = eqb n kind_new || eqb n kind_old
lacked_at n (call.Checkpoint r) = eqb n kind_new || eqb n kind_old
lacked_at n (call.Defer p) = eqb n kind_new || eqb n kind_old
