-- `checkpoint` meets its contract: the refusals are rows of the step; by the step it does what load_epoch, observe_epoch or read_epoch does. Assumes nothing.
use native.Mathlib.Omega.{arith}
use mathlib.Core.Path.{◌≡◌, refl, sym, ◌∙◌}
use mathlib.Core.Bool.{true, false}
use Rattle.statement.specs.Machine.{state}
use Rattle.publication_law.specs.DamageLaws.{UndamagedHead}
use borrow.Author.Tests.{eq-eqb, le-leb, lt-leb}
use Rattle.publication_law.specs.Table.{damaged, step}
use Rattle.publication_law.proofs.Calls.{step_damaged, step_wrong_length}
use Rattle.publication_law.proofs.InBounds.{in_bounds_of}
use Rattle.qsbr_law.specs.Steps.{damage_rules, rules}
use Rattle.qsbr_law.proofs.Safety.{kind_law}
use Rattle.qsbr_law.specs.Calls.{head_fails, ParticipantFits}
use Rattle.qsbr_law.proofs.Calls.{reader_number, reader_fits, checkpoint_accepted, checkpoint_loads, checkpoint_observes, checkpoint_reads}
use Rattle.calls.specs.declared.Call.TheVariants.{Checkpoint}
use Rattle.qsbr_checkpoint.proofs.checkpoint.Goals as goal

-- 1 damaged
pub returns-in_default : goal.returns-in_default
returns-in_default c = rw c.into.ensures (step_wrong_length rules _ (Checkpoint c.args.r) c.in_default.ensures.cases)

pub returns-then-is_damaged : goal.returns-then-is_damaged
returns-then-is_damaged c = rw (c.into-then-is_damaged.ensures, ← c.in-Some.ensures.cases.same) (step_damaged rules _ (Checkpoint c.args.r) (sym (c.is_damaged.ensures _ refl) ∙ c.if-is_damaged.true))

-- 10 no such reader
pub returns-then-r-n : goal.returns-then-r-n
unfolding step
returns-then-r-n c = rw (c.into-then-r-n.ensures, ← c.in-Some.ensures.cases.same, (sym (c.is_damaged.ensures c.args.entries.now refl) ∙ c.if-is_damaged.false), le-leb _ _ (rw c.readers_of-n.ensures at c.if-r-n.true)) refl

pub publisher_place-requires : goal.publisher_place-requires
publisher_place-requires c = let f = (reader_fits _ (sym (c.is_damaged.ensures c.args.entries.now refl) ∙ c.if-is_damaged.false) _ (rw c.readers_of-n.ensures at c.if-r-n.false)) in f.low

-- 20 its publisher is at 35
pub returns-then-publisher_place-eq-PLACE_DEFERRING : goal.returns-then-publisher_place-eq-PLACE_DEFERRING
unfolding step
returns-then-publisher_place-eq-PLACE_DEFERRING c = rw (c.into-then-publisher_place-eq-PLACE_DEFERRING.ensures, ← c.in-Some.ensures.cases.same, (sym (c.is_damaged.ensures c.args.entries.now refl) ∙ c.if-is_damaged.false), lt-leb _ _ (rw c.readers_of-n.ensures at c.if-r-n.false), eq-eqb _ 35 (rw c.publisher_place.ensures at c.if-publisher_place-eq-PLACE_DEFERRING.true)) refl

pub retirement_at-t-requires : goal.retirement_at-t-requires
retirement_at-t-requires c = let f = (reader_fits _ (sym (c.is_damaged.ensures c.args.entries.now refl) ∙ c.if-is_damaged.false) _ (rw c.readers_of-n.ensures at c.if-r-n.false)) in f.low

pub load_epoch-requires : goal.load_epoch-requires
load_epoch-requires c = let f = (reader_fits _ (sym (c.is_damaged.ensures c.args.entries.now refl) ∙ c.if-is_damaged.false) _ (rw c.readers_of-n.ensures at c.if-r-n.false)) in f.low

pub observe_epoch-requires : goal.observe_epoch-requires
observe_epoch-requires c = let f = (reader_fits _ (sym (c.is_damaged.ensures c.args.entries.now refl) ∙ c.if-is_damaged.false) _ (rw c.readers_of-n.ensures at c.if-r-n.false)) in f.low

pub read_epoch-requires : goal.read_epoch-requires
read_epoch-requires c = let f = (reader_fits _ (sym (c.is_damaged.ensures c.args.entries.now refl) ∙ c.if-is_damaged.false) _ (rw c.readers_of-n.ensures at c.if-r-n.false)) in let e = c.retirement_at-t.ensures in let n0 = c.in_default-step.in_default-step-own.rest.0.1 in let n1 = c.in_default-step.in_default-step-own.rest.1 in let all = (sym (c.is_damaged.ensures c.args.entries.now refl) ∙ c.if-is_damaged.false) in
    (f.low, omega (arith, c.readers_of-n.ensures, reader_number _ all), rw e refl, omega arith, rw e f.step_low, f.fits.count_high)

-- at 1
pub returns-in-0 : goal.returns-in-0
returns-in-0 c = rw (← c.in-Some.ensures.cases.same) (let es = c.args.entries.now in c.load_epoch.ensures es ∙ checkpoint_loads _ _ (rw c.retirement_at-t.ensures at c.in-0.is) ∙ checkpoint_accepted _ _ (sym (c.is_damaged.ensures c.args.entries.now refl) ∙ c.if-is_damaged.false) (rw c.readers_of-n.ensures at c.if-r-n.false) (rw c.publisher_place.ensures at c.if-publisher_place-eq-PLACE_DEFERRING.false))

-- at 2
pub returns-in-1 : goal.returns-in-1
returns-in-1 c = rw (← c.in-Some.ensures.cases.same) (let es = c.args.entries.now in c.observe_epoch.ensures es ∙ checkpoint_observes _ _ (rw c.retirement_at-t.ensures at c.in-1.is) ∙ checkpoint_accepted _ _ (sym (c.is_damaged.ensures c.args.entries.now refl) ∙ c.if-is_damaged.false) (rw c.readers_of-n.ensures at c.if-r-n.false) (rw c.publisher_place.ensures at c.if-publisher_place-eq-PLACE_DEFERRING.false))

-- at a later step
pub returns-in_default-step : goal.returns-in_default-step
returns-in_default-step c = rw (← c.in-Some.ensures.cases.same) (let es = c.args.entries.now in let e = c.retirement_at-t.ensures in rw (c.readers_of-n.ensures, e) at (c.read_epoch.ensures es) ∙ checkpoint_reads _ _ (rw e at c.in_default-step.in_default-step-own.rest.0.1) (rw e at c.in_default-step.in_default-step-own.rest.1) ∙ checkpoint_accepted _ _ (sym (c.is_damaged.ensures c.args.entries.now refl) ∙ c.if-is_damaged.false) (rw c.readers_of-n.ensures at c.if-r-n.false) (rw c.publisher_place.ensures at c.if-publisher_place-eq-PLACE_DEFERRING.false))
