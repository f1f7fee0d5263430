-- A damaged store is refused; of one that is not, SYNC is the shared one. Assumes nothing.
use Rattle.std.proofs.Common.{◌≡◌, false, sym, refl, ◌∙◌}
use Rattle.calls.specs.declared.Call.TheVariants.{Sync}
use Rattle.statement.specs.Machine.{state}
use Rattle.publication_law.specs.Table.{damaged}
use Rattle.shared_calls.proofs.sync.Goals as goal

pub returns-then-is_damaged : goal.returns-then-is_damaged
returns-then-is_damaged g c = rw (c.into-then-is_damaged.ensures, ← c.in-Some.ensures.cases.same) (g.met.S.Scheme.refused _ (Sync _) (sym (c.is_damaged.ensures c.args.entries.now refl) ∙ c.if-is_damaged.true))

pub start_sync-requires : goal.start_sync-requires
start_sync-requires g c = g.met.S.Scheme.in_bounds _ (sym (c.is_damaged.ensures c.args.entries.now refl) ∙ c.if-is_damaged.false)

-- what start_sync replies
pub returns : goal.returns
returns g c =
    let scheme = g.met.S.SectionScheme in
    let no_damage : damaged g.S.Scheme.rules (state c.in-Some.words.now c.args.entries.now) ≡ false = sym (c.is_damaged.ensures c.args.entries.now refl) ∙ c.if-is_damaged.false in
    rw (← c.in-Some.ensures.cases.same, ← scheme.sync_step (state c.in-Some.words.now c.args.entries.now) c.args.p no_damage)
    (c.start_sync.ensures g.S.Scheme.rules.damage.versions c.args.entries.now (rw c.SYNC_LIMIT.ensures (scheme.last_is _ no_damage)) (scheme.mark_is _ no_damage))
