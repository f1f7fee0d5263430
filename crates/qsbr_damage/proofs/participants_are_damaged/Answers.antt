-- `participants_are_damaged` meets its contract: words of another length and a number of participants out of range are damaged; else the loop has found no damaged participant before p. Assumes nothing.
use Rattle.std.proofs.Common.{rules, arith, ◌≡◌, length, sym, ◌∙◌}
use Rattle.base.specs.RowLaws.{some_below, none_first, none_more, within}
use Rattle.calls.specs.Numbers.{publishers_max}
use Rattle.layout.specs.Layout.{words_length}
use Rattle.qsbr_law.proofs.Scans.{wrong_length, wrong_number, participants_decide}
use Rattle.qsbr_damage.proofs.participants_are_damaged.Goals as goal

-- true: the number of words
pub returns-in_default : goal.returns-in_default
returns-in_default c = let a = c.args in sym (wrong_length a.words.now a.n a.slots c.in_default.ensures.cases)

-- true: the number of participants
pub returns-then-n : goal.returns-then-n
returns-then-n c = let a = c.args in sym (wrong_number a.words.now a.n a.slots c.if-n.true)

pub loop-p-init : goal.loop-p-init
loop-p-init c = none_first _

pub participant_fails-requires : goal.participant_fails-requires
participant_fails-requires c = omega (arith, c.loop-p-test.true, within 1 publishers_max c.args.n c.if-n.false)

-- true: participant p is damaged
pub returns-then-participant_fails : goal.returns-then-participant_fails
returns-then-participant_fails c =
    let long : length c.in-Some.words.now ≡ words_length = search rules in
    rw (← c.in-Some.ensures.cases.same) (sym (participants_decide _ c.args.n c.args.slots long c.if-n.false ∙ some_below _ _ _ c.loop-p-test.true (sym c.participant_fails.ensures ∙ c.if-participant_fails.true)))

pub loop-p-preserved : goal.loop-p-preserved
loop-p-preserved c = none_more _ _ c.loop-p.invariant (sym c.participant_fails.ensures ∙ c.if-participant_fails.false)

-- false: none is
pub returns : goal.returns
returns c =
    let long : length c.in-Some.words.now ≡ words_length = search rules in
    let e : c.loop-p.p ≡ c.args.n = omega arith in
    rw (← c.in-Some.ensures.cases.same) (sym (participants_decide _ c.args.n c.args.slots long c.if-n.false ∙ rw e at c.loop-p.invariant))
