-- `enter` meets its contract: a damaged store and a reader beyond the store's are rows of the step; the rest is `advance`. Assumes nothing.
use Rattle.std.proofs.Common.{arith, refl, sym, ◌∙◌, le-leb}
use Rattle.calls.specs.declared.Call.TheVariants.{Enter}
use Rattle.publication_law.specs.Table.{step}
use Rattle.publication_law.proofs.Calls.{step_damaged, step_wrong_length}
use Rattle.publication_law.proofs.InBounds.{in_bounds_of}
use Rattle.grace_version_law.specs.Steps.{rules}
use Rattle.grace_version_law.proofs.Safety.{law}
use Rattle.grace_version_readers.proofs.enter.Goals as goal

-- 1 damaged
pub returns-in_default : goal.returns-in_default
returns-in_default c = rw c.into.ensures (step_wrong_length rules _ (Enter c.args.r) c.in_default.ensures.cases)

pub returns-then-is_damaged : goal.returns-then-is_damaged
returns-then-is_damaged c = rw (c.into-then-is_damaged.ensures, ← c.in-Some.ensures.cases.same) (step_damaged rules _ (Enter c.args.r) (sym (c.is_damaged.ensures _ refl) ∙ c.if-is_damaged.true))

-- 10 no such reader
pub returns-then-r-readers_of : goal.returns-then-r-readers_of
unfolding step
returns-then-r-readers_of c = rw (c.into-then-r-readers_of.ensures, ← c.in-Some.ensures.cases.same, sym (c.is_damaged.ensures c.args.entries.now refl) ∙ c.if-is_damaged.false, le-leb _ _ (rw c.readers_of.ensures at c.if-r-readers_of.true)) refl

pub advance-requires : goal.advance-requires
advance-requires c = (rw c.readers_of.ensures at c.if-r-readers_of.false, omega (arith, in_bounds_of rules law _ (sym (c.is_damaged.ensures c.args.entries.now refl) ∙ c.if-is_damaged.false), c.readers_of.ensures))

-- what advance replies
pub returns : goal.returns
returns c = rw (← c.in-Some.ensures.cases.same) (c.advance.ensures _ (sym (c.is_damaged.ensures c.args.entries.now refl) ∙ c.if-is_damaged.false))
