-- What counting a look does to the four numbers of a walk, in the code that the kinds share. Each kind's Calls.antt shows that its own looks do the same.
use Rattle.std.specs.Prelude.{ℕ, ◌+◌}
use Rattle.layout.specs.declared.WalkRecord.{WalkRecord}
use Rattle.layout.specs.Records.{◌next≔◌, ◌looks≔◌, ◌waits≔◌}

-- A walk with one look more. Every look, passed or not, adds one to looks; next rises by the readers that it passed, waits by how often it waited.
abbrev pub with_look : WalkRecord → ℕ → ℕ → WalkRecord
with_look walk passed waited = walk next≔ (walk.next + passed) looks≔ (walk.looks + 1) waits≔ (walk.waits + waited)
