-- The lines before the text that is left are read, and their entries are put as far as there is room: a turn is one line. Assumes nothing.
use Rattle.std.specs.Prelude.{◌≡◌, ◌<◌}
use Rattle.std.proofs.Common.{◌≤◌, w32, to_z, of_z, arith, rules, tests, length, sym, ◌∙◌}
use Rattle.std.proofs.lemmas.Int.{to_z-of_z}
use Rattle.card.proofs.Turns.{few, bad_here, no_card, goes_on, all_good, all_put}
use Rattle.card.proofs.read_card.Goals as goal

-- a line that is no pitch
pub returns-in_default-clause-err : goal.returns-in_default-clause-err
returns-in_default-clause-err c =
    let w = c.loop-rest.invariant in
    let some : 0 < length c.loop-rest.rest.now = search (rules, tests) in
    let first = c.split_line.ensures.lines some in
    let bad = sym c.angle.ensures ∙ c.in_default.is in
    (bad_here w _ _ first bad, no_card w _ _ first bad)

pub loop-rest-preserved : goal.loop-rest-preserved
loop-rest-preserved c =
    let w = c.loop-rest.invariant in
    let some : 0 < length c.loop-rest.rest.now = search (rules, tests) in
    let same : to_z w32 (of_z w32 c.in-Some.v) ≡ c.in-Some.v = search (rules, to_z-of_z) in
    goes_on w _ _ (c.split_line.ensures.lines some) _ (sym c.angle.ensures ∙ c.in-Some.is) (c.split_line.ensures.shorter some) _ _ (rw same at c.put_entry-count.ensures)

-- all lines are pitches
pub returns-clause-ok : goal.returns-clause-ok
returns-clause-ok c =
    let w = c.loop-rest.invariant in
    let none : length c.loop-rest.rest.now ≤ 0 = search (rules, tests) in
    (all_good w none, all_put w none _ c.loop-rest.auto.room, omega (arith, few w, c.loop-rest.auto.room))
