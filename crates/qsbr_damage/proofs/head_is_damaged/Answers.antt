-- `head_is_damaged` meets its contract: what `head_damaged` says of an array it says of words of that length. Assumes nothing.
use Rattle.std.proofs.Common.{sym}
use Rattle.statement.specs.Machine.{state}
use Rattle.qsbr_law.proofs.Scans.{head_length}
use Rattle.qsbr_damage.proofs.head_is_damaged.Goals as goal

-- true: the number of words
pub returns-in_default : goal.returns-in_default
returns-in_default c = λ es l. sym (head_length (state c.args.words.now es) c.in_default.ensures.cases)

-- what head_damaged says
pub returns : goal.returns
returns c = rw (← c.in-Some.ensures.cases.same) (λ es l. c.head_damaged.ensures es l)
