-- Each shared step of a kind with sections and grace periods keeps its invariant. Assumes nothing.
use Rattle.std.specs.Prelude.{ℕ, ◌+◌}
use Rattle.calls.specs.declared.WalkReply.{WalkReply}
use Rattle.calls.specs.declared.WalkReply.TheVariants.{Waiting, Spent, Quiet, Returned}

-- The waits after a walk's reply.
abbrev pub waits_after : ℕ → WalkReply → ℕ
waits_after n (Waiting who) = n + 1
waits_after n Spent = n
waits_after n Quiet = n
waits_after n (Returned looks waits) = n
