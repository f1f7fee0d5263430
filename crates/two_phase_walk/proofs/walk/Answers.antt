-- `walk` meets its contract: the refusals are rows of the step; an accepted WALK is `walk_is`. Assumes nothing.
use native.Mathlib.Omega.{arith}
use mathlib.Core.Path.{◌≡◌, refl, sym, ◌∙◌}
use mathlib.Core.Bool.{true, false}
use borrow.Author.Tests.{le-leb, lt-leb, lt-ltb}
use Rattle.statement.specs.Machine.{state}
use Rattle.publication_law.specs.Table.{damaged, step}
use Rattle.publication_law.proofs.Calls.{step_damaged, step_wrong_length, walk_is}
use Rattle.publication_law.specs.InBounds.{Synchronising}
use Rattle.publication_law.proofs.InBounds.{in_bounds_of, synchronising_of}
use Rattle.two_phase_law.specs.Steps.{fixed, rules}
use Rattle.two_phase_law.proofs.Safety.{law}
use Rattle.two_phase_law.proofs.Calls.{walks_at_lem, walks_not, watched_low}
use Rattle.two_phase_law.specs.Counts.{turn_low}
use Rattle.calls.specs.declared.Call.TheVariants.{Walk}
use Prim.Native.Nat.{◌+◌, ◌<◌, ◌≤◌}
use Rattle.calls.specs.Numbers.{number_max}
use Rattle.layout.specs.Layout.{publisher_at}
use Rattle.two_phase_walk.proofs.walk.Goals as goal

-- 1 damaged
pub returns-in_default : goal.returns-in_default
returns-in_default c = rw c.into.ensures (step_wrong_length rules _ (Walk c.args.p c.args.b) c.in_default.ensures.cases)

pub returns-then-is_damaged : goal.returns-then-is_damaged
returns-then-is_damaged c = rw (c.into-then-is_damaged.ensures, ← c.in-Some.ensures.cases.same) (step_damaged rules _ (Walk c.args.p c.args.b) (sym (c.is_damaged.ensures _ refl) ∙ c.if-is_damaged.true))

-- 11 no such publisher
pub returns-then-p-publishers_of : goal.returns-then-p-publishers_of
unfolding step
returns-then-p-publishers_of c = rw (c.into-then-p-publishers_of.ensures, ← c.in-Some.ensures.cases.same, (sym (c.is_damaged.ensures c.args.entries.now refl) ∙ c.if-is_damaged.false), le-leb _ _ (rw c.publishers_of.ensures at c.if-p-publishers_of.true)) refl

pub publisher_at-y-requires : goal.publisher_at-y-requires
publisher_at-y-requires c = omega (arith, in_bounds_of rules law _ (sym (c.is_damaged.ensures c.args.entries.now refl) ∙ c.if-is_damaged.false), c.publishers_of.ensures)

-- 33 too many looks
pub returns-then-y-b : goal.returns-then-y-b
unfolding step
returns-then-y-b c = rw (c.into-then-y-b.ensures, ← c.in-Some.ensures.cases.same, (sym (c.is_damaged.ensures c.args.entries.now refl) ∙ c.if-is_damaged.false), lt-leb _ _ (rw c.publishers_of.ensures at c.if-p-publishers_of.false), walks_at_lem _ (rw c.publisher_at-y.ensures at c.in-35.is), lt-ltb _ _ ((let the_full : number_max < (publisher_at c.in-Some.words.now c.args.p).walk.looks + c.args.b = let t = rw c.publisher_at-y.ensures at c.if-y-b.true in omega (arith, c.ranges.b) in the_full))) refl

pub indicator_of-count-requires : goal.indicator_of-count-requires
indicator_of-count-requires c = rw c.looked_at.ensures (watched_low c.publisher_at-y.result)

pub look-requires : goal.look-requires
look-requires c = ((let the_room : c.publisher_at-y.result.walk.looks + c.args.b ≤ number_max = omega (arith, c.if-y-b.false, c.ranges.b) in the_room), ((let the_walker : Synchronising c.publisher_at-y.result = rw c.publisher_at-y.ensures (synchronising_of rules law _ (sym (c.is_damaged.ensures c.args.entries.now refl) ∙ c.if-is_damaged.false) _ (rw c.publishers_of.ensures at c.if-p-publishers_of.false) (turn_low _ (rw c.publisher_at-y.ensures at c.in-35.is))) in the_walker)).waits_low)

pub end_walk-requires : goal.end_walk-requires
end_walk-requires c = (in_bounds_of rules law _ (sym (c.is_damaged.ensures c.args.entries.now refl) ∙ c.if-is_damaged.false), rw c.publishers_of.ensures at c.if-p-publishers_of.false, c.publisher_at-y.ensures)

-- what end_walk replies
pub returns-else-y-b : goal.returns-else-y-b
returns-else-y-b c = rw (← c.in-Some.ensures.cases.same) (walk_is fixed _ (sym (c.is_damaged.ensures c.args.entries.now refl) ∙ c.if-is_damaged.false) _ _ _ (rw c.publishers_of.ensures at c.if-p-publishers_of.false) c.publisher_at-y.ensures _ _ (walks_at_lem _ c.in-35.is) ((let the_room : c.publisher_at-y.result.walk.looks + c.args.b ≤ number_max = omega (arith, c.if-y-b.false, c.ranges.b) in the_room)) (rw (c.indicator_of-count.ensures, c.looked_at.ensures, c.publisher_at-y.ensures) at c.look.ensures) (c.end_walk.ensures c.args.entries.now))

-- 21 not this publisher's turn
pub returns-in_default-place : goal.returns-in_default-place
unfolding step
returns-in_default-place c = rw (c.into-in_default-place.ensures, ← c.in-Some.ensures.cases.same, (sym (c.is_damaged.ensures c.args.entries.now refl) ∙ c.if-is_damaged.false), lt-leb _ _ (rw c.publishers_of.ensures at c.if-p-publishers_of.false), walks_not _ (rw c.publisher_at-y.ensures at c.in_default-place.in_default-place-own.rest.1)) refl
