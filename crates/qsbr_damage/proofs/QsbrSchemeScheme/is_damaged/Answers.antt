-- `is_damaged` meets its contract: it asks the two parts, of which one is true exactly if the store is damaged. Assumes nothing.
use Rattle.std.proofs.Common.{Bool, true, false, ◌≡◌, refl, sym, ◌∙◌}
use Rattle.layout.specs.Layout.{publishers, slots}
use Rattle.statement.specs.Machine.{State}
use Rattle.publication_law.specs.Table.{damaged}
use Rattle.qsbr_law.specs.Steps.{rules}
use Rattle.qsbr_law.specs.Calls.{head_fails, participants_fail}
use Rattle.qsbr_law.proofs.Calls.{scan_head}
use Rattle.qsbr_law.proofs.Scans.{scan_undamaged, scan_participants}
use Rattle.qsbr_damage.proofs.QsbrSchemeScheme.is_damaged.Goals as goal

-- Where the head is in order the participants decide.
participants_decide : (s : State) → head_fails s ≡ false → participants_fail s.words (publishers s.words) (slots s.words) ≡ damaged rules s
participants_decide s head_ok = go (participants_fail s.words (publishers s.words) (slots s.words)) refl
  where
    go : (test : Bool) → participants_fail s.words (publishers s.words) (slots s.words) ≡ test → test ≡ damaged rules s
    go true e = sym (scan_participants s e)
    go false e = sym (scan_undamaged s head_ok e)

-- true: the head
pub returns-then-head_is_damaged : goal.returns-then-head_is_damaged
returns-then-head_is_damaged c = λ es l. c.if-head_is_damaged.true ∙ sym (scan_head _ (sym (c.head_is_damaged.ensures es l) ∙ c.if-head_is_damaged.true))

-- whether a participant does
pub returns-else-head_is_damaged : goal.returns-else-head_is_damaged
returns-else-head_is_damaged c = λ es l. (rw (c.publishers_of.ensures, c.slots_of.ensures) at c.participants_are_damaged.ensures) ∙ participants_decide _ (sym (c.head_is_damaged.ensures es l) ∙ c.if-head_is_damaged.false)
