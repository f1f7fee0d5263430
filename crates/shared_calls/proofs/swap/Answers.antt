-- A damaged store is refused; of one that is not, SWAP is the shared one. Assumes nothing.
use Rattle.std.proofs.Common.{sym, refl, ◌∙◌}
use Rattle.calls.specs.declared.Call.TheVariants.{Swap}
use Rattle.shared_calls.proofs.swap.Goals as goal

pub returns-then-is_damaged : goal.returns-then-is_damaged
returns-then-is_damaged g c = rw (c.into-then-is_damaged.ensures, ← c.in-Some.ensures.cases.same) (g.met.S.Scheme.refused _ (Swap _) (sym (c.is_damaged.ensures c.args.entries.now refl) ∙ c.if-is_damaged.true))

pub swap_in-requires : goal.swap_in-requires
swap_in-requires g c = g.met.S.Scheme.in_bounds _ (sym (c.is_damaged.ensures c.args.entries.now refl) ∙ c.if-is_damaged.false)

-- what swap_in replies
pub returns : goal.returns
returns g c = rw (← c.in-Some.ensures.cases.same) (c.swap_in.ensures c.args.entries.now ∙ g.met.S.Scheme.swap_step _ _ (sym (c.is_damaged.ensures c.args.entries.now refl) ∙ c.if-is_damaged.false))
