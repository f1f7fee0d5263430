-- With more slots than publishers a publisher always finds a free slot: the statement, and that it holds of machines that are alike. Assumes nothing.
use Rattle.std.specs.Prelude.{ℕ, ◌<◌, ◌≡◌, List}
use Rattle.calls.specs.declared.Call.{Call}
use Rattle.calls.specs.declared.Call.TheVariants.{Claim}
use Rattle.calls.specs.declared.Reply.TheVariants.{Claimed}
use Rattle.calls.specs.Told.{Told, told_by, Has}
use Rattle.calls.specs.Told.Role.{free}
use Rattle.calls.specs.Tally.{tally_of}
use Rattle.calls.specs.Tally.Phase.{idle}
use Rattle.statement.specs.Machine.{State, Given, Machine, Fresh, events, after_all}
use Rattle.statement.specs.Alike.{Alike, fresh_alike, after_alike, events_alike}

-- A slot of the store that is told free, and of which a CLAIM by publisher p is accepted.
pub record FreeSlot (M : Machine) (z : Given) (t : Told) (s : State) (p : ℕ) : Type 0 where
  pub slot : ℕ
  pub below : slot < z.slots
  pub is_free : Has t slot free
  pub claimed : (M.step s (Claim p slot)).reply ≡ Claimed slot

-- After every list of calls from fresh: where there are more slots than publishers, an idle publisher has such a slot. Who is told to hold nothing is idle.
abbrev pub FindsFreeSlot : Machine → Type 0
FindsFreeSlot M = (s : State) (f : Fresh M s) (cs : List Call) → f.arguments.publishers < f.arguments.slots
    → (p : ℕ) → p < f.arguments.publishers → (tally_of (events M s cs)).phase p ≡ idle
    → FreeSlot M f.arguments (told_by f.arguments.readers (events M s cs)) (after_all M s cs) p

pub finds_free_slot_alike : (M N : Machine) → Alike M N → FindsFreeSlot M → FindsFreeSlot N
finds_free_slot_alike M N like promise s f cs room p pn idle-now =
    let found = promise s (fresh_alike M N like s f) cs room p pn (rw (events_alike M N like s f cs) at idle-now) in record {
      slot = found.slot;
      below = found.below;
      is_free = rw (events_alike M N like s f cs) found.is_free;
      claimed = rw (after_alike M N like s f cs, like.steps s (fresh_alike M N like s f) cs (Claim p found.slot)) found.claimed;
    }
