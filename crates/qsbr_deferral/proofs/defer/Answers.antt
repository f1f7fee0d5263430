-- `defer` meets its contract: the refusals are rows of the step; an accepted DEFER is `defer_raises` at 34 and `defer_queues` at 35. Assumes nothing.
use native.Mathlib.Omega.{arith}
use mathlib.Core.Path.{◌≡◌, refl, sym, ◌∙◌}
use mathlib.Core.Bool.{true, false}
use Rattle.statement.specs.Machine.{state}
use Rattle.publication_law.specs.DamageLaws.{UndamagedHead}
use borrow.Author.Tests.{ne_eqb, le-leb, lt-leb}
use Rattle.publication_law.specs.Table.{damaged, step}
use Rattle.publication_law.proofs.Calls.{step_damaged, step_wrong_length}
use Rattle.publication_law.proofs.InBounds.{in_bounds_of, version_low}
use Rattle.qsbr_law.specs.Steps.{last_version, damage_rules, rules}
use Rattle.qsbr_law.proofs.Safety.{kind_law}
use Rattle.qsbr_law.specs.Calls.{head_fails, ParticipantFits}
use Rattle.qsbr_law.proofs.Calls.{publisher_fits, defer_inside, defer_elsewhere, defer_raises, defer_queues}
use Rattle.calls.specs.declared.Call.TheVariants.{Defer}
use Rattle.qsbr_deferral.proofs.defer.Goals as goal

-- 1 damaged
pub returns-in_default : goal.returns-in_default
returns-in_default c = rw c.into.ensures (step_wrong_length rules _ (Defer c.args.p) c.in_default.ensures.cases)

pub returns-then-is_damaged : goal.returns-then-is_damaged
returns-then-is_damaged c = rw (c.into-then-is_damaged.ensures, ← c.in-Some.ensures.cases.same) (step_damaged rules _ (Defer c.args.p) (sym (c.is_damaged.ensures _ refl) ∙ c.if-is_damaged.true))

-- 11 no such publisher
pub returns-then-p-publishers_of : goal.returns-then-p-publishers_of
unfolding step
returns-then-p-publishers_of c = rw (c.into-then-p-publishers_of.ensures, ← c.in-Some.ensures.cases.same, (sym (c.is_damaged.ensures c.args.entries.now refl) ∙ c.if-is_damaged.false), le-leb _ _ (rw c.publishers_of.ensures at c.if-p-publishers_of.true)) refl

pub retirement_at-t-requires : goal.retirement_at-t-requires
retirement_at-t-requires c = let f = (publisher_fits _ (sym (c.is_damaged.ensures c.args.entries.now refl) ∙ c.if-is_damaged.false) _ (rw c.publishers_of.ensures at c.if-p-publishers_of.false)) in f.low

-- 21 inside a checkpoint
pub returns-then-t-ne0 : goal.returns-then-t-ne0
returns-then-t-ne0 c = rw (c.into-then-t-ne0.ensures, ← c.in-Some.ensures.cases.same) (defer_inside _ (sym (c.is_damaged.ensures c.args.entries.now refl) ∙ c.if-is_damaged.false) _ (rw c.publishers_of.ensures at c.if-p-publishers_of.false) (rw c.retirement_at-t.ensures at c.if-t-ne0.true))

pub publisher_place-place-requires : goal.publisher_place-place-requires
publisher_place-place-requires c = let f = (publisher_fits _ (sym (c.is_damaged.ensures c.args.entries.now refl) ∙ c.if-is_damaged.false) _ (rw c.publishers_of.ensures at c.if-p-publishers_of.false)) in f.low

-- 43 the epoch is the last
pub returns-then-version_of : goal.returns-then-version_of
unfolding step
returns-then-version_of c = rw (c.into-then-version_of.ensures, ← c.in-Some.ensures.cases.same, (sym (c.is_damaged.ensures c.args.entries.now refl) ∙ c.if-is_damaged.false), lt-leb _ _ (rw c.publishers_of.ensures at c.if-p-publishers_of.false), rw c.publisher_place-place.ensures at c.in-34.is, rw c.retirement_at-t.ensures at c.if-t-ne0.false, rw c.version_of.ensures at c.if-version_of.true) refl

-- 44 eight slots are deferred
pub returns-then-t-eq-DEFERRED_MAX : goal.returns-then-t-eq-DEFERRED_MAX
unfolding step
returns-then-t-eq-DEFERRED_MAX c = rw (c.into-then-t-eq-DEFERRED_MAX.ensures, ← c.in-Some.ensures.cases.same, (sym (c.is_damaged.ensures c.args.entries.now refl) ∙ c.if-is_damaged.false), lt-leb _ _ (rw c.publishers_of.ensures at c.if-p-publishers_of.false), rw c.publisher_place-place.ensures at c.in-34.is, rw c.retirement_at-t.ensures at c.if-t-ne0.false, ne_eqb _ last_version (rw c.version_of.ensures at c.if-version_of.false), rw c.retirement_at-t.ensures at c.if-t-eq-DEFERRED_MAX.true) refl

pub raise_epoch-requires : goal.raise_epoch-requires
raise_epoch-requires c = let f = (publisher_fits _ (sym (c.is_damaged.ensures c.args.entries.now refl) ∙ c.if-is_damaged.false) _ (rw c.publishers_of.ensures at c.if-p-publishers_of.false)) in let ne = rw c.version_of.ensures at c.if-version_of.false in let low = version_low rules kind_law _ (sym (c.is_damaged.ensures c.args.entries.now refl) ∙ c.if-is_damaged.false) last_version refl in (f.low, omega arith)

pub queue_slot-requires : goal.queue_slot-requires
queue_slot-requires c = let f = (publisher_fits _ (sym (c.is_damaged.ensures c.args.entries.now refl) ∙ c.if-is_damaged.false) _ (rw c.publishers_of.ensures at c.if-p-publishers_of.false)) in (f.low, f.fits.room (rw c.publisher_place-place.ensures at c.in-35.is))

-- at 35
pub returns-else-t-eq-DEFERRED_MAX : goal.returns-else-t-eq-DEFERRED_MAX
returns-else-t-eq-DEFERRED_MAX c = rw (← c.in-Some.ensures.cases.same) (let es = c.args.entries.now in c.raise_epoch.ensures es ∙ defer_raises _ (sym (c.is_damaged.ensures c.args.entries.now refl) ∙ c.if-is_damaged.false) _ (rw c.publishers_of.ensures at c.if-p-publishers_of.false) (rw c.retirement_at-t.ensures at c.if-t-ne0.false) (rw c.publisher_place-place.ensures at c.in-34.is) (rw c.version_of.ensures at c.if-version_of.false) (rw c.retirement_at-t.ensures at c.if-t-eq-DEFERRED_MAX.false))

-- at 0
pub returns-in-35 : goal.returns-in-35
returns-in-35 c = rw (← c.in-Some.ensures.cases.same) (let es = c.args.entries.now in c.queue_slot.ensures es ∙ defer_queues _ (sym (c.is_damaged.ensures c.args.entries.now refl) ∙ c.if-is_damaged.false) _ (rw c.publishers_of.ensures at c.if-p-publishers_of.false) (rw c.retirement_at-t.ensures at c.if-t-ne0.false) (rw c.publisher_place-place.ensures at c.in-35.is))

-- 21 elsewhere
pub returns-in_default-place : goal.returns-in_default-place
returns-in_default-place c = rw (c.into-in_default-place.ensures, ← c.in-Some.ensures.cases.same) (defer_elsewhere _ (sym (c.is_damaged.ensures c.args.entries.now refl) ∙ c.if-is_damaged.false) _ (rw c.publishers_of.ensures at c.if-p-publishers_of.false) (rw c.publisher_place-place.ensures at c.in_default-place.in_default-place-own.rest.0.1) (rw c.publisher_place-place.ensures at c.in_default-place.in_default-place-own.rest.1))
