-- What C gets of an outcome: the reply's three numbers, and the store and entries after it. Assumes nothing.
use Rattle.std.specs.Prelude.{◌≡◌}
use Rattle.std.proofs.Common.{ap, ◌∙◌}
use Rattle.calls.specs.declared.ReplyNumbers.{ReplyNumbers}
use Rattle.calls.specs.declared.Reply.{Reply}
use Rattle.calls.specs.ReplyNumbers.{numbers_of}
use Rattle.statement.specs.Machine.{State, Outcome, outcome}

pub record OutcomeForC (numbers : ReplyNumbers) (s : State) (o : Outcome) : Type 0 where
  pub numbers_are : numbers ≡ numbers_of o.reply
  pub after_is : s ≡ o.after

pub outcome_for_c : (numbers : ReplyNumbers) (a : Reply) (s : State) (o : Outcome) → numbers ≡ numbers_of a → outcome a s ≡ o → OutcomeForC numbers s o
outcome_for_c numbers a s o e f = record { numbers_are = e ∙ ap (λ (o' : Outcome). numbers_of o'.reply) f; after_is = ap (λ (o' : Outcome). o'.after) f }
