-- What counting a look asks of its callers' proofs.
use Rattle.std.specs.Prelude.{ℕ, ◌+◌, ◌≤◌}
use Rattle.calls.specs.Numbers.{number_max}
use Rattle.layout.specs.declared.WalkRecord.{WalkRecord}

-- With one look more the numbers of a walk still have 64 bits.
abbrev pub LookFits : WalkRecord → ℕ → ℕ → Type 0
LookFits k passed waited = (k.next + passed ≤ number_max) × (k.looks + 1 ≤ number_max) × (k.waits + waited ≤ number_max)
