-- A damaged store is refused; of one that is not, LOOK is the shared one. Assumes nothing.
use Rattle.std.proofs.Common.{sym, refl, ◌∙◌}
use Rattle.calls.specs.declared.Call.TheVariants.{Look}
use Rattle.shared_calls.proofs.look.Goals as goal

pub returns-then-is_damaged : goal.returns-then-is_damaged
returns-then-is_damaged g c = rw (c.into-then-is_damaged.ensures, ← c.in-Some.ensures.cases.same) (g.met.S.Scheme.refused _ (Look _ _) (sym (c.is_damaged.ensures c.args.entries.now refl) ∙ c.if-is_damaged.true))

pub look_up-requires : goal.look_up-requires
look_up-requires g c = (g.met.S.Scheme.in_bounds _ (sym (c.is_damaged.ensures c.args.entries.now refl) ∙ c.if-is_damaged.false), g.met.S.Scheme.entries_fit _ (sym (c.is_damaged.ensures c.args.entries.now refl) ∙ c.if-is_damaged.false))

-- what look_up replies
pub returns : goal.returns
returns g c = rw (← c.in-Some.ensures.cases.same) (c.look_up.ensures ∙ g.met.S.Scheme.look_step _ _ _ (sym (c.is_damaged.ensures c.args.entries.now refl) ∙ c.if-is_damaged.false))
