-- A number is that of its kind, or of none. Assumes nothing.
use Rattle.std.proofs.Math.Path.{refl}
use Rattle.kinds_law.specs.Kinds.{kind_of_number}
use Rattle.kinds_law.proofs.Calls.{named_none}
use Rattle.kinds_law.proofs.KindTryFromU64.try_from.Goals as goal

pub returns-in-17 : goal.returns-in-17
unfolding kind_of_number
returns-in-17 c = rw c.in-17.is refl

pub returns-in-18 : goal.returns-in-18
unfolding kind_of_number
returns-in-18 c = rw c.in-18.is refl

pub returns-in-19 : goal.returns-in-19
unfolding kind_of_number
returns-in-19 c = rw c.in-19.is refl

pub returns-in_default : goal.returns-in_default
returns-in_default c = let k = c.in_default.in_default-own.rest in named_none c.args.number k.0.0.1 k.0.1 k.1
