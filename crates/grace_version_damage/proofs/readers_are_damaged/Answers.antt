-- `readers_are_damaged` meets its contract: length and count first, then the scan. Assumes nothing.
use Rattle.std.proofs.Common.{rules, ◌≡◌, length, eq-eqb, ◌∙◌}
use Rattle.base.specs.RowLaws.{within, any_in_range}
use Rattle.calls.specs.Numbers.{readers_max}
use Rattle.layout.specs.Layout.{words_length}
use Rattle.grace_version_damage.proofs.readers_are_damaged.Goals as goal

pub first_readers_damaged-requires : goal.first_readers_damaged-requires
first_readers_damaged-requires c = (within 1 readers_max _ c.if-readers.false).1

-- what first_readers_damaged says
pub returns : goal.returns
returns c =
    let long : length c.in-Some.words.now ≡ words_length = search rules in
    let found = rw (c.readers_of-readers.ensures, c.slots_of.ensures) at c.first_readers_damaged.ensures in
    rw (← c.in-Some.ensures.cases.same) (λ es. rw (eq-eqb _ _ long, rw c.readers_of-readers.ensures at c.if-readers.false) (found ∙ any_in_range _ _))
