-- `pick` meets its contract: the refusals are rows of the step; an accepted PICK is `pick_is`. Assumes nothing.
use native.Mathlib.Omega.{arith}
use mathlib.Core.Path.{◌≡◌, refl, sym, ◌∙◌}
use mathlib.Core.Bool.{true, false}
use Rattle.statement.specs.Machine.{state}
use Rattle.publication_law.specs.DamageLaws.{UndamagedHead}
use borrow.Author.Tests.{eq-eqb, ne_eqb, le-leb, lt-leb}
use Rattle.publication_law.specs.Table.{damaged, step}
use Rattle.publication_law.proofs.Calls.{step_damaged, step_wrong_length}
use Rattle.publication_law.proofs.InBounds.{in_bounds_of}
use Rattle.qsbr_law.specs.Steps.{damage_rules, rules}
use Rattle.qsbr_law.proofs.Safety.{kind_law}
use Rattle.qsbr_law.specs.Calls.{head_fails}
use Rattle.qsbr_law.proofs.Calls.{reader_fits, pick_is}
use Rattle.calls.specs.declared.Call.TheVariants.{Pick}
use Rattle.qsbr_readers.proofs.pick.Goals as goal

-- 1 damaged
pub returns-in_default : goal.returns-in_default
returns-in_default c = rw c.into.ensures (step_wrong_length rules _ (Pick c.args.r) c.in_default.ensures.cases)

pub returns-then-is_damaged : goal.returns-then-is_damaged
returns-then-is_damaged c = rw (c.into-then-is_damaged.ensures, ← c.in-Some.ensures.cases.same) (step_damaged rules _ (Pick c.args.r) (sym (c.is_damaged.ensures _ refl) ∙ c.if-is_damaged.true))

-- 10 no such reader
pub returns-then-r-readers_of : goal.returns-then-r-readers_of
unfolding step
returns-then-r-readers_of c = rw (c.into-then-r-readers_of.ensures, ← c.in-Some.ensures.cases.same, (sym (c.is_damaged.ensures c.args.entries.now refl) ∙ c.if-is_damaged.false), le-leb _ _ (rw c.readers_of.ensures at c.if-r-readers_of.true)) refl

pub retirement_at-t-requires : goal.retirement_at-t-requires
retirement_at-t-requires c = let f = reader_fits _ (sym (c.is_damaged.ensures c.args.entries.now refl) ∙ c.if-is_damaged.false) _ (rw c.readers_of.ensures at c.if-r-readers_of.false) in f.low

-- 20 inside a checkpoint
pub returns-then-t-ne0 : goal.returns-then-t-ne0
unfolding step
returns-then-t-ne0 c = rw (c.into-then-t-ne0.ensures, ← c.in-Some.ensures.cases.same, (sym (c.is_damaged.ensures c.args.entries.now refl) ∙ c.if-is_damaged.false), lt-leb _ _ (rw c.readers_of.ensures at c.if-r-readers_of.false), ne_eqb _ 0 (rw c.retirement_at-t.ensures at c.if-t-ne0.true)) refl

pub publisher_place-requires : goal.publisher_place-requires
publisher_place-requires c = let f = reader_fits _ (sym (c.is_damaged.ensures c.args.entries.now refl) ∙ c.if-is_damaged.false) _ (rw c.readers_of.ensures at c.if-r-readers_of.false) in f.low

-- 20 its publisher is at 35
pub returns-then-publisher_place-eq-PLACE_DEFERRING : goal.returns-then-publisher_place-eq-PLACE_DEFERRING
unfolding step
returns-then-publisher_place-eq-PLACE_DEFERRING c = rw (c.into-then-publisher_place-eq-PLACE_DEFERRING.ensures, ← c.in-Some.ensures.cases.same, (sym (c.is_damaged.ensures c.args.entries.now refl) ∙ c.if-is_damaged.false), lt-leb _ _ (rw c.readers_of.ensures at c.if-r-readers_of.false), eq-eqb _ 0 (rw c.retirement_at-t.ensures at c.if-t-ne0.false), eq-eqb _ 35 (rw c.publisher_place.ensures at c.if-publisher_place-eq-PLACE_DEFERRING.true)) refl

pub reader_at-x-requires : goal.reader_at-x-requires
reader_at-x-requires c = omega (arith, in_bounds_of rules kind_law _ (sym (c.is_damaged.ensures c.args.entries.now refl) ∙ c.if-is_damaged.false), c.readers_of.ensures)

pub put_reader-requires : goal.put_reader-requires
put_reader-requires c = omega (arith, in_bounds_of rules kind_law _ (sym (c.is_damaged.ensures c.args.entries.now refl) ∙ c.if-is_damaged.false), c.readers_of.ensures)

-- picked
pub returns : goal.returns
returns c = rw (← c.in-Some.ensures.cases.same) (pick_is _ (sym (c.is_damaged.ensures c.args.entries.now refl) ∙ c.if-is_damaged.false) _ _ _ _ (rw c.readers_of.ensures at c.if-r-readers_of.false) (rw c.retirement_at-t.ensures at c.if-t-ne0.false) (rw c.publisher_place.ensures at c.if-publisher_place-eq-PLACE_DEFERRING.false) c.reader_at-x.ensures c.current_of-slot.ensures c.put_reader.ensures)
