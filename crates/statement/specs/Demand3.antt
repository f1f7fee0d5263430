-- Demand 3: one statement about the entire list of calls.
use Rattle.std.specs.Prelude.{ℕ, ◌≡◌, true, List, ◌∷◌, ◌++◌, ℤ}
use Rattle.std.proofs.Math.Option.{some}
use Rattle.calls.specs.declared.Call.{Call}
use Rattle.calls.specs.declared.Call.TheVariants.{Look, Leave, Claim, Sync, Walk}
use Rattle.calls.specs.declared.Reply.{Reply}
use Rattle.calls.specs.declared.Reply.TheVariants.{Pitch, Walked}
use Rattle.calls.specs.declared.WalkReply.TheVariants.{Returned}
use Rattle.calls.specs.Events.{Event, accepted}
use Rattle.calls.specs.Events.Event.{◌⇒◌}
use Rattle.calls.specs.Model.{model_of, entry}
use Rattle.calls.specs.Told.{Told, told_by, holds, Role, Has}
use Rattle.calls.specs.Told.Role.{free}
use Rattle.statement.specs.Machine.{State, Given, Machine, Fresh, events, after_all, current_slot, held_slot, picked_slot}

-- An accepted LEAVE of r is among the events.
pub record LeftIn (r : ℕ) (es : List Event) : Type 0 where
  pub before : List Event
  pub reply : Reply
  pub behind : List Event
  pub here : es ≡ before ++ (Leave r ⇒ reply) ∷ behind
  pub taken : accepted reply ≡ true

-- Each slot is exactly one of current, free, or held by one publisher, and the store records it so;
-- what each reader at place 5 picked is the slot told by the calls.
pub record Slots (t : Told) (s : State) : Type 0 where
  pub role : (slot : ℕ) → (ρ : Role) × Has t slot ρ × ((σ : Role) → Has t slot σ → σ ≡ ρ)
  pub current : t.current ≡ some (current_slot s)
  pub held : (p slot : ℕ) → held_slot s p slot ≡ holds t p slot
  pub picked : (r : ℕ) → picked_slot s r ≡ t.picked r

-- No slot that a reader picked and has not dropped since is free. A pick is dropped when its section is left;
-- a pick without a section by the CHECKPOINT that replies 1 and by the DEFER that replies 35.
abbrev pub Picks : Told → Type 0
Picks t = (r slot : ℕ) → t.picked r ≡ some slot → ¬ Has t slot free

-- Each synchronise that returned did so after every section open at its call had been left.
abbrev pub Returns : Machine → ℕ → State → List Call → Type 0
Returns M n s cs = (pre mid post : List Event) (p b looks waits r : ℕ) (a : Reply)
    → events M s cs ≡ pre ++ (Sync p ⇒ a) ∷ (mid ++ (Walk p b ⇒ Walked (Returned looks waits)) ∷ post) → accepted a ≡ true
    → (told_by n pre).inside r ≡ true → LeftIn r mid

-- What is due after the list cs of calls on the fresh state s, where `first` is the first table and n the number of readers (in a kind of participants, of these).
pub record Due (M : Machine) (first : List ℤ) (n : ℕ) (s : State) (cs : List Call) : Type 0 where
  -- Every accepted look gave the pitch that the plain shelf gives: the entry of the table last swapped in (the first table if none was) before that reader's pick.
  pub looks : (pre post : List Event) (r k : ℕ) (a : Reply) → events M s cs ≡ pre ++ (Look r k ⇒ a) ∷ post → accepted a ≡ true
      → (v : ℤ) × (a ≡ Pitch v) × (entry ((model_of first pre).note r) k ≡ some v)
  pub returns : Returns M n s cs
  pub slots : Slots (told_by n (events M s cs)) (after_all M s cs)
  pub picks : Picks (told_by n (events M s cs))
  -- By the calls alone: no accepted CLAIM is of a slot that a reader has picked and not yet dropped.
  pub claims : (pre post : List Event) (p slot r : ℕ) (a : Reply) → events M s cs ≡ pre ++ (Claim p slot ⇒ a) ∷ post → accepted a ≡ true
      → ¬ ((told_by n pre).picked r ≡ some slot)

-- A store fresh from an accepted making, and any list of its calls, accepted and refused. The first table may depend on the making.
abbrev pub Demand3 : Machine → (Given → List ℤ) → Type 0
Demand3 M first = (s : State) (f : Fresh M s) (cs : List Call) → Due M (first f.arguments) f.arguments.readers s cs
