-- `retirement_fails` meets its contract: with step and count in order the retired slots decide. Assumes nothing.
use Rattle.std.proofs.Common.{sym, ◌∙◌}
use Rattle.qsbr_law.proofs.Calls.{none_retired, slots_decide}
use Rattle.qsbr_damage.proofs.retirement_fails.Goals as goal

-- false: no slot is retired
pub returns-then-t-eq0 : goal.returns-then-t-eq0
returns-then-t-eq0 c = let a = c.args in let e = c.retirement_at-t.ensures in sym (none_retired a.words.now a.n a.slots a.p (rw e at c.if-t-n.false) (rw e at c.if-t-eq0.true))

-- what retired_damaged says
pub returns : goal.returns
returns c = let a = c.args in let e = c.retirement_at-t.ensures in rw e at c.retired_damaged.ensures ∙ sym (slots_decide a.words.now a.n a.slots a.p (rw e at c.if-t-n.false) (rw e at c.if-t-gt-DEFERRED_MAX.false) (rw (c.publisher_place-place.ensures, e) at c.if-place-t.false))
