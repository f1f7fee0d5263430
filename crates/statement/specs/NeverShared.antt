-- A RAISE is never shared: the statement, and that it holds of machines that are alike. Assumes nothing.
use Rattle.std.specs.Prelude.{ℕ, ◌≢◌, List}
use Rattle.calls.specs.declared.Call.{Call}
use Rattle.calls.specs.declared.Call.TheVariants.{Raise}
use Rattle.calls.specs.declared.Reply.TheVariants.{Shared}
use Rattle.statement.specs.Machine.{State, Machine, Fresh, after_all}
use Rattle.statement.specs.Alike.{Alike, fresh_alike, after_alike}

-- After every list of calls from fresh no RAISE replies shared.
abbrev pub NeverShared : Machine → Type 0
NeverShared M = (s : State) → Fresh M s → (cs : List Call) (p : ℕ) → (M.step (after_all M s cs) (Raise p)).reply ≢ Shared

pub never_shared_alike : (M N : Machine) → Alike M N → NeverShared M → NeverShared N
never_shared_alike M N like promise s f cs p =
    rw (after_alike M N like s f cs, like.steps s (fresh_alike M N like s f) cs (Raise p)) (promise s (fresh_alike M N like s f) cs p)
