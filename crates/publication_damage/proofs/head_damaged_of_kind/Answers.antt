-- `head_damaged_of_kind` meets its contract: what `head_damaged` says of an array it says of words of that length. Assumes nothing.
use Rattle.publication_damage.proofs.head_damaged_of_kind.Goals as goal

pub returns : goal.returns
returns c = rw (← c.in-Some.ensures.cases.same) (λ K es n t l. c.head_damaged.ensures K es n t l)
