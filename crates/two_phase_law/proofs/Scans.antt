-- The old store's damage test in three parts: the head, the readers and the indicators in one pass, the publishers. Assumes nothing.
use Rattle.std.specs.Prelude.{◌≡◌, Bool, true, false, ◌||◌}
use Rattle.std.proofs.Math.Path.{refl}
use Rattle.base.specs.Rows.{any_true}
use Rattle.base.specs.RowLaws.{or_false}
use Rattle.statement.specs.Machine.{State}
use Rattle.publication_law.specs.Damage.{head_rows, readers_are_damaged, publishers_are_damaged}
use Rattle.publication_law.specs.Table.{damaged}
use Rattle.publication_law.proofs.Calls.{undamaged, damaged_readers, damaged_further}
use Rattle.two_phase_law.specs.Steps.{damage_rules, rules}

module _ (s : State) where
  pub scan_undamaged : any_true (head_rows damage_rules s) ≡ false → readers_are_damaged damage_rules s || rules.further s ≡ false → publishers_are_damaged damage_rules s ≡ false → damaged rules s ≡ false
  scan_undamaged head_ok readers-ok publishers-ok = let parts = or_false (readers_are_damaged damage_rules s) (rules.further s) readers-ok in undamaged rules s head_ok parts.0 parts.1 publishers-ok

  pub scan_damaged : readers_are_damaged damage_rules s || rules.further s ≡ true → damaged rules s ≡ true
  scan_damaged e = go (readers_are_damaged damage_rules s) refl e
    where
      go : (test : Bool) → readers_are_damaged damage_rules s ≡ test → test || rules.further s ≡ true → damaged rules s ≡ true
      go true d e = damaged_readers rules s d
      go false d e = damaged_further rules s e
