-- `in_use_lem` meets its contract: the loop has found no publisher before q whose record names the slot; then what is retired decides. Assumes nothing.
use Rattle.std.proofs.Common.{◌≡◌, ℕ, ◌-◌, ◌≤◌, Bool, false, not, ◌&&◌, eqb, List}
use Rattle.base.specs.Rows.{any_below}
use Rattle.calls.specs.Numbers.{place_idle}
use Rattle.layout.specs.Layout.{publisher_at}
use Rattle.publication_slots.proofs.in_use.Given as goal

-- The record of publisher q names the slot.
abbrev pub named : List ℕ → ℕ → ℕ → Bool
named w slot q = not (eqb (publisher_at w q).place place_idle) && eqb (publisher_at w q).held slot

abbrev pub invariant-loop-q : goal.invariant-loop-q
invariant-loop-q l = (l.q ≤ l.n) × (any_below (named l.words l.slot) l.q ≡ false)

abbrev pub decreases-loop-q : goal.decreases-loop-q
decreases-loop-q l = l.n - l.q
