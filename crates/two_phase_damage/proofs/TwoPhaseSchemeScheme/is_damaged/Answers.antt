-- `is_damaged` meets its contract: it asks the three parts, of which one is true exactly if the store is damaged. Assumes nothing.
use Rattle.std.proofs.Common.{Bool, true, false, ◌≡◌, ◌||◌, refl, sym, ◌∙◌}
use Rattle.base.specs.Rows.{any_true}
use Rattle.statement.specs.Machine.{State}
use Rattle.publication_law.specs.Damage.{head_rows, readers_are_damaged, publishers_are_damaged}
use Rattle.publication_law.specs.Table.{damaged}
use Rattle.publication_law.proofs.Calls.{damaged_head, damaged_publishers}
use Rattle.two_phase_law.specs.Steps.{damage_rules, rules}
use Rattle.two_phase_law.proofs.Scans.{scan_undamaged, scan_damaged}
use Rattle.two_phase_damage.proofs.TwoPhaseSchemeScheme.is_damaged.Goals as goal

-- Where head, readers and indicators are in order the publishers decide.
publishers_decide : (s : State) → any_true (head_rows damage_rules s) ≡ false → readers_are_damaged damage_rules s || rules.further s ≡ false → publishers_are_damaged damage_rules s ≡ damaged rules s
publishers_decide s head_ok readers_ok = go (publishers_are_damaged damage_rules s) refl
  where
    go : (test : Bool) → publishers_are_damaged damage_rules s ≡ test → test ≡ damaged rules s
    go true e = sym (damaged_publishers rules s e)
    go false e = sym (scan_undamaged s head_ok readers_ok e)

-- true: the head
pub returns-then-head_is_damaged : goal.returns-then-head_is_damaged
returns-then-head_is_damaged c = λ es l. sym (damaged_head rules _ (sym (c.head_is_damaged.ensures es l) ∙ c.if-head_is_damaged.true))

-- true: a reader or an indicator
pub returns-then-readers_are_damaged : goal.returns-then-readers_are_damaged
returns-then-readers_are_damaged c = λ es l. c.if-readers_are_damaged.true ∙ sym (scan_damaged _ (sym (c.readers_are_damaged.ensures es) ∙ c.if-readers_are_damaged.true))

-- whether a publisher is
pub returns-else-readers_are_damaged : goal.returns-else-readers_are_damaged
returns-else-readers_are_damaged c = λ es l. c.publishers_are_damaged.ensures es ∙ publishers_decide _ (sym (c.head_is_damaged.ensures es l) ∙ c.if-head_is_damaged.false) (sym (c.readers_are_damaged.ensures es) ∙ c.if-readers_are_damaged.false)
