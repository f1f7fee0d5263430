-- A damaged store is refused; of one that is not, CLAIM is the shared one, and no publisher has more retired slots than fit. Assumes nothing.
use Rattle.std.proofs.Common.{sym, refl, ◌∙◌}
use Rattle.calls.specs.declared.Call.TheVariants.{Claim}
use Rattle.shared_calls.proofs.claim.Goals as goal

pub returns-then-is_damaged : goal.returns-then-is_damaged
returns-then-is_damaged g c = rw (c.into-then-is_damaged.ensures, ← c.in-Some.ensures.cases.same) (g.met.S.Scheme.refused _ (Claim _ _) (sym (c.is_damaged.ensures c.args.entries.now refl) ∙ c.if-is_damaged.true))

pub claim_slot-requires : goal.claim_slot-requires
claim_slot-requires g c = (g.met.S.Scheme.in_bounds _ (sym (c.is_damaged.ensures c.args.entries.now refl) ∙ c.if-is_damaged.false), λ e. g.met.S.Scheme.retired_low (sym c.RETIRES.ensures ∙ e) _ (sym (c.is_damaged.ensures c.args.entries.now refl) ∙ c.if-is_damaged.false))

-- what claim_slot replies
pub returns : goal.returns
returns g c = rw (← c.in-Some.ensures.cases.same) (rw (c.EXCLUSIVE.ensures, c.RETIRES.ensures) at c.claim_slot.ensures c.args.entries.now ∙ g.met.S.Scheme.claim_step _ _ _ (sym (c.is_damaged.ensures c.args.entries.now refl) ∙ c.if-is_damaged.false))
