-- A damaged store is refused; of one that is not, WRITE is the shared one. Assumes nothing.
use mir.ValLaws.{to_z-of_z}
use Rattle.std.proofs.Common.{sym, refl, ◌∙◌}
use Rattle.calls.specs.declared.Call.TheVariants.{Write}
use Rattle.shared_calls.proofs.write.Goals as goal

pub returns-then-is_damaged : goal.returns-then-is_damaged
returns-then-is_damaged g c = rw (c.into-then-is_damaged.ensures, ← c.in-Some.ensures.cases.same) (g.met.S.Scheme.refused _ (Write _ _) (sym (c.is_damaged.ensures c.args.entries.now refl) ∙ c.if-is_damaged.true))

pub write_entry-requires : goal.write_entry-requires
write_entry-requires g c = (g.met.S.Scheme.in_bounds _ (sym (c.is_damaged.ensures c.args.entries.now refl) ∙ c.if-is_damaged.false), g.met.S.Scheme.entries_fit _ (sym (c.is_damaged.ensures c.args.entries.now refl) ∙ c.if-is_damaged.false))

-- what write_entry replies
pub returns : goal.returns
returns g c = rw (← c.in-Some.ensures.cases.same) (simp (to_z-of_z _ _ c.ranges.v) at c.write_entry.ensures ∙ g.met.S.Scheme.write_step _ _ _ (sym (c.is_damaged.ensures c.args.entries.now refl) ∙ c.if-is_damaged.false))
