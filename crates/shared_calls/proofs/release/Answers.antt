-- A damaged store is refused; of one that is not, RELEASE is the shared one. Assumes nothing.
use Rattle.std.proofs.Common.{sym, refl, ◌∙◌}
use Rattle.calls.specs.declared.Call.TheVariants.{Release}
use Rattle.shared_calls.proofs.release.Goals as goal

pub returns-then-is_damaged : goal.returns-then-is_damaged
returns-then-is_damaged g c = rw (c.into-then-is_damaged.ensures, ← c.in-Some.ensures.cases.same) (g.met.S.Scheme.refused _ (Release _) (sym (c.is_damaged.ensures c.args.entries.now refl) ∙ c.if-is_damaged.true))

pub release_slot-requires : goal.release_slot-requires
release_slot-requires g c = g.met.S.Scheme.in_bounds _ (sym (c.is_damaged.ensures c.args.entries.now refl) ∙ c.if-is_damaged.false)

-- what release_slot replies
pub returns : goal.returns
returns g c = rw (← c.in-Some.ensures.cases.same) (c.release_slot.ensures c.args.entries.now ∙ g.met.S.SectionScheme.release_step _ _ (sym (c.is_damaged.ensures c.args.entries.now refl) ∙ c.if-is_damaged.false))
