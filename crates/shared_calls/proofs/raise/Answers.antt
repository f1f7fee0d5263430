-- A damaged store is refused; of one that is not, RAISE is the shared one. Assumes nothing.
use Rattle.std.proofs.Common.{◌≡◌, false, sym, refl, ◌∙◌}
use Rattle.calls.specs.declared.Call.TheVariants.{Raise}
use Rattle.statement.specs.Machine.{state}
use Rattle.publication_law.specs.Table.{damaged}
use Rattle.shared_calls.proofs.raise.Goals as goal

pub returns-then-is_damaged : goal.returns-then-is_damaged
returns-then-is_damaged g c = rw (c.into-then-is_damaged.ensures, ← c.in-Some.ensures.cases.same) (g.met.S.Scheme.refused _ (Raise _) (sym (c.is_damaged.ensures c.args.entries.now refl) ∙ c.if-is_damaged.true))

pub raise_at-requires : goal.raise_at-requires
raise_at-requires g c = g.met.S.Scheme.in_bounds _ (sym (c.is_damaged.ensures c.args.entries.now refl) ∙ c.if-is_damaged.false)

-- what raise_at replies
pub returns : goal.returns
returns g c =
    let scheme = g.met.S.SectionScheme in
    let no_damage : damaged g.S.Scheme.rules (state c.in-Some.words.now c.args.entries.now) ≡ false = sym (c.is_damaged.ensures c.args.entries.now refl) ∙ c.if-is_damaged.false in
    rw (← c.in-Some.ensures.cases.same, ← scheme.raise_step (state c.in-Some.words.now c.args.entries.now) c.args.p no_damage, ← c.RAISES_AT.ensures)
    (c.raise_at.ensures g.S.Scheme.rules.damage.versions c.args.entries.now (rw c.RAISES_AT.ensures (scheme.before_is _ _ no_damage)))
