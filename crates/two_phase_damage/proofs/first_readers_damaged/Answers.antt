-- `first_readers_damaged` meets its contract: the loop has found no damaged reader before r, and has counted those before r by parity. Assumes nothing.
use Rattle.std.proofs.Common.{arith, ◌≡◌, ◌<◌, ◌%◌, refl, sym, ◌∙◌}
use Rattle.base.specs.RowLaws.{some_below, none_first, none_more, or_left}
use Rattle.layout.specs.Layout.{reader_at}
use Rattle.two_phase_law.specs.Calls.{InSection}
use Rattle.two_phase_law.proofs.Calls.{counts_none, counts_out, counts_in, counts_most, picked_right, picked_wrong, not_picked, outside_fits, no_reader_place}
use Rattle.two_phase_damage.proofs.first_readers_damaged.Goals as goal
use Rattle.two_phase_damage.proofs.first_readers_damaged.Goals.{then-place-eq-PLACE_PICKED+else-reader_at-slots, else-place-eq-PLACE_PICKED+else-place-lt-PLACE_PUBLISHED+else-place-ne-PLACE_OPEN}

pub loop-r-init : goal.loop-r-init
loop-r-init c = (none_first _, counts_none _)

pub overflow_add-counts : goal.overflow_add-counts
overflow_add-counts c = let k = c.loop-r in rw k.invariant.1 (omega (arith, counts_most c.args.words.now k.r (c.reader_at-x.result.first % 2), c.requires, k.auto, c.loop-r-test.true))

pub returns-then-reader_at-slots : goal.returns-then-reader_at-slots
returns-then-reader_at-slots c = let w = c.args.words.now in sym (or_left _ _ (some_below _ _ _ c.loop-r-test.true (picked_wrong c.args.slots (reader_at w c.loop-r.r) (rw c.reader_place-place.ensures at c.if-place-eq-PLACE_PICKED.true) (rw c.reader_at.ensures at c.if-reader_at-slots.true))))

pub loop-r-preserved-then-place-lt-PLACE_PUBLISHED : goal.loop-r-preserved-then-place-lt-PLACE_PUBLISHED
loop-r-preserved-then-place-lt-PLACE_PUBLISHED c = let k = c.loop-r in let w = c.args.words.now in let out : (reader_at w k.r).place < 2 = omega arith in
    (none_more _ _ k.invariant.0 (outside_fits c.args.slots (reader_at w k.r) out), k.invariant.1 ∙ counts_out w k.r (omega (arith, out)))

pub loop-r-preserved : goal.loop-r-preserved
loop-r-preserved c = let k = c.loop-r in let w = c.args.words.now in let ss = c.args.slots in
    let x : InSection ss (reader_at w k.r) = elim c.if-place-eq-PLACE_PICKED.branch [
      | then-place-eq-PLACE_PICKED+else-reader_at-slots v ↦ picked_right ss (reader_at w k.r) (rw c.reader_place-place.ensures at v.if-place-eq-PLACE_PICKED.true) (rw v.reader_at.ensures at v.if-reader_at-slots.false)
      | else-place-eq-PLACE_PICKED+else-place-lt-PLACE_PUBLISHED+else-place-ne-PLACE_OPEN v ↦ not_picked ss (reader_at w k.r) (rw c.reader_place-place.ensures at v.if-place-ne-PLACE_OPEN.false)
    ] in
    (none_more _ _ k.invariant.0 x.fits, rw (k.invariant.1, c.reader_at-x.ensures) (counts_in w k.r ((reader_at w k.r).first % 2) x.arrived refl))

pub returns-then-place-ne-PLACE_OPEN : goal.returns-then-place-ne-PLACE_OPEN
returns-then-place-ne-PLACE_OPEN c = let w = c.args.words.now in sym (or_left _ _ (some_below _ _ _ c.loop-r-test.true (no_reader_place c.args.slots (reader_at w c.loop-r.r) (λ e. omega arith) (omega arith) (λ e. omega arith))))

pub returns : goal.returns
returns c = let k = c.loop-r in let e : k.r ≡ c.args.n = omega (arith, k.auto, c.loop-r-test.false) in rw (c.indicator_of.ensures, c.indicator_of-2.ensures, k.invariant.1, e, rw e at k.invariant.0) refl
