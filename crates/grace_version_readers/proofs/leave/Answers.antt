-- `leave` meets its contract: the refusals are rows of the step; an accepted LEAVE is `leave_is`. Assumes nothing.
use Rattle.std.proofs.Common.{arith, refl, sym, ◌∙◌, le-leb, lt-ltb}
use Rattle.std.proofs.lemmas.Bool.{lt-leb}
use Rattle.calls.specs.declared.Call.TheVariants.{Leave}
use Rattle.publication_law.specs.Table.{step}
use Rattle.publication_law.proofs.Calls.{step_damaged, step_wrong_length}
use Rattle.publication_law.proofs.InBounds.{in_bounds_of}
use Rattle.grace_version_law.specs.Steps.{rules}
use Rattle.grace_version_law.proofs.Safety.{law}
use Rattle.grace_version_law.proofs.Calls.{leave_is}
use Rattle.grace_version_readers.proofs.leave.Goals as goal

-- 1 damaged
pub returns-in_default : goal.returns-in_default
returns-in_default c = rw c.into.ensures (step_wrong_length rules _ (Leave c.args.r) c.in_default.ensures.cases)

pub returns-then-is_damaged : goal.returns-then-is_damaged
returns-then-is_damaged c = rw (c.into-then-is_damaged.ensures, ← c.in-Some.ensures.cases.same) (step_damaged rules _ (Leave c.args.r) (sym (c.is_damaged.ensures _ refl) ∙ c.if-is_damaged.true))

-- 10 no such reader
pub returns-then-r-readers_of : goal.returns-then-r-readers_of
unfolding step
returns-then-r-readers_of c = rw (c.into-then-r-readers_of.ensures, ← c.in-Some.ensures.cases.same, sym (c.is_damaged.ensures c.args.entries.now refl) ∙ c.if-is_damaged.false, le-leb _ _ (rw c.readers_of.ensures at c.if-r-readers_of.true)) refl

pub reader_at-x-requires : goal.reader_at-x-requires
reader_at-x-requires c = omega (arith, in_bounds_of rules law _ (sym (c.is_damaged.ensures c.args.entries.now refl) ∙ c.if-is_damaged.false), c.readers_of.ensures)

-- 20 not this reader's turn
pub returns-then-x-lt-PLACE_OPEN : goal.returns-then-x-lt-PLACE_OPEN
unfolding step
returns-then-x-lt-PLACE_OPEN c = rw (c.into-then-x-lt-PLACE_OPEN.ensures, ← c.in-Some.ensures.cases.same, sym (c.is_damaged.ensures c.args.entries.now refl) ∙ c.if-is_damaged.false, lt-leb _ _ (rw c.readers_of.ensures at c.if-r-readers_of.false), lt-ltb _ 4 (rw c.reader_at-x.ensures at c.if-x-lt-PLACE_OPEN.true)) refl

pub put_reader-requires : goal.put_reader-requires
put_reader-requires c = omega (arith, in_bounds_of rules law _ (sym (c.is_damaged.ensures c.args.entries.now refl) ∙ c.if-is_damaged.false), c.readers_of.ensures)

-- left
pub returns : goal.returns
returns c = rw (← c.in-Some.ensures.cases.same) (leave_is _ (sym (c.is_damaged.ensures c.args.entries.now refl) ∙ c.if-is_damaged.false) _ c.args.r _ (rw c.readers_of.ensures at c.if-r-readers_of.false) c.reader_at-x.ensures c.if-x-lt-PLACE_OPEN.false c.put_reader.ensures)
