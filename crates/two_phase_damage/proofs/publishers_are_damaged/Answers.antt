-- `publishers_are_damaged` meets its contract: length and count first, then the scan. Assumes nothing.
use Rattle.std.proofs.Common.{rules, ◌≡◌, length, eq-eqb, ◌∙◌}
use Rattle.base.specs.RowLaws.{within, any_in_range}
use Rattle.calls.specs.Numbers.{publishers_max}
use Rattle.layout.specs.Layout.{words_length}
use Rattle.two_phase_damage.proofs.publishers_are_damaged.Goals as goal

pub first_publishers_damaged-requires : goal.first_publishers_damaged-requires
first_publishers_damaged-requires c = (within 1 publishers_max _ c.if-publishers.false).1

-- what first_publishers_damaged says
pub returns : goal.returns
returns c =
    let long : length c.in-Some.words.now ≡ words_length = search rules in
    let found = rw (c.publishers_of-publishers.ensures, c.slots_of.ensures) at c.first_publishers_damaged.ensures in
    rw (← c.in-Some.ensures.cases.same) (λ es. rw (eq-eqb _ _ long, rw c.publishers_of-publishers.ensures at c.if-publishers.false) (found ∙ any_in_range _ _))
