-- `enter` meets its contract: the refusals are rows of the step; an accepted ENTER is `arrive_is` from 1, else `enter_is`. An indicator is at most the number of readers, so one more fits. Assumes nothing.
use native.Mathlib.Omega.{arith}
use Prim.Native.Nat.{◌%◌, ◌≤◌}
use Rattle.calls.specs.Numbers.{readers_max}
use mathlib.Core.Path.{◌≡◌, refl, sym, ◌∙◌}
use mathlib.Core.Bool.{true, false}
use borrow.Author.Tests.{le-leb, lt-leb}
use Rattle.statement.specs.Machine.{state}
use Rattle.publication_law.specs.Table.{damaged, step}
use Rattle.publication_law.proofs.Calls.{step_damaged, step_wrong_length}
use Rattle.publication_law.proofs.InBounds.{in_bounds_of}
use Rattle.two_phase_law.specs.Steps.{rules}
use Rattle.two_phase_law.proofs.Safety.{law}
use Rattle.two_phase_law.proofs.Calls.{indicator_low, arrive_is, enter_is}
use Rattle.calls.specs.declared.Call.TheVariants.{Enter}
use Rattle.two_phase_readers.proofs.enter.Goals as goal

-- 1 damaged
pub returns-in_default : goal.returns-in_default
returns-in_default c = rw c.into.ensures (step_wrong_length rules _ (Enter c.args.r) c.in_default.ensures.cases)

pub returns-then-is_damaged : goal.returns-then-is_damaged
returns-then-is_damaged c = rw (c.into-then-is_damaged.ensures, ← c.in-Some.ensures.cases.same) (step_damaged rules _ (Enter c.args.r) (sym (c.is_damaged.ensures _ refl) ∙ c.if-is_damaged.true))

-- 10 no such reader
pub returns-then-r-readers_of : goal.returns-then-r-readers_of
unfolding step
returns-then-r-readers_of c = rw (
  c.into-then-r-readers_of.ensures,
  ← c.in-Some.ensures.cases.same,
  (sym (c.is_damaged.ensures c.args.entries.now refl) ∙ c.if-is_damaged.false),
  le-leb _ _ (rw c.readers_of.ensures at c.if-r-readers_of.true),
) refl

pub reader_at-x-requires : goal.reader_at-x-requires
reader_at-x-requires c = omega (
  arith,
  in_bounds_of rules law _ (sym (c.is_damaged.ensures c.args.entries.now refl) ∙ c.if-is_damaged.false),
  c.readers_of.ensures,
)

-- 20 not this reader's turn
pub returns-then-x-ge-PLACE_PICKED : goal.returns-then-x-ge-PLACE_PICKED
unfolding step
returns-then-x-ge-PLACE_PICKED c = rw (
  c.into-then-x-ge-PLACE_PICKED.ensures,
  ← c.in-Some.ensures.cases.same,
  (sym (c.is_damaged.ensures c.args.entries.now refl) ∙ c.if-is_damaged.false),
  lt-leb _ _ (rw c.readers_of.ensures at c.if-r-readers_of.false),
  le-leb 5 _ (rw c.reader_at-x.ensures at c.if-x-ge-PLACE_PICKED.true),
) refl

pub advanced-moved-requires : goal.advanced-moved-requires
advanced-moved-requires c = c.if-x-ge-PLACE_PICKED.false

pub put_reader-requires : goal.put_reader-requires
put_reader-requires c = omega (
  arith,
  in_bounds_of rules law _ (sym (c.is_damaged.ensures c.args.entries.now refl) ∙ c.if-is_damaged.false),
  c.readers_of.ensures,
)

pub overflow_add-count : goal.overflow_add-count
overflow_add-count c = let low : c.indicator_of-count.result ≤ readers_max = rw c.indicator_of-count.ensures (indicator_low _ (sym (c.is_damaged.ensures c.args.entries.now refl) ∙ c.if-is_damaged.false) (c.reader_at-x.result.first % 2) (omega arith)) in omega arith

-- at 4
pub returns-then-x-eq-PLACE_LOADED : goal.returns-then-x-eq-PLACE_LOADED
returns-then-x-eq-PLACE_LOADED c = rw (← c.in-Some.ensures.cases.same) (arrive_is _ (sym (c.is_damaged.ensures c.args.entries.now refl) ∙ c.if-is_damaged.false) _ _ _ _ _ _ (rw c.readers_of.ensures at c.if-r-readers_of.false) c.reader_at-x.ensures c.if-x-eq-PLACE_LOADED.true (rw (c.version_of.ensures, c.current_of.ensures) at c.advanced-moved.ensures) refl c.indicator_of-count.ensures
    (rw c.put_reader.ensures at c.put_indicator.ensures))

-- at 1 or 5
pub returns : goal.returns
returns c = rw (← c.in-Some.ensures.cases.same) (enter_is _ (sym (c.is_damaged.ensures c.args.entries.now refl) ∙ c.if-is_damaged.false) _ _ _ _ (rw c.readers_of.ensures at c.if-r-readers_of.false) c.reader_at-x.ensures c.if-x-ge-PLACE_PICKED.false c.if-x-eq-PLACE_LOADED.false (rw (c.version_of.ensures, c.current_of.ensures) at c.advanced-moved.ensures) c.put_reader.ensures)
