-- What an accepted LOOK, CLAIM, WRITE and SWAP reply and leave, of every kind and for every state, and why a CLAIM on an undamaged store is refused:
-- on an undamaged store each is decided by the shared rows, and a damaged one accepts nothing. Assumes nothing.
use Rattle.std.specs.Prelude.{ℕ, ◌+◌, ◌%◌, ◌<◌, ◌≤◌, ◌≡◌, ◌≢◌, ◌⊎◌, Bool, true, false, ℤ, pos, get_or}
use Rattle.calls.specs.declared.Call.TheVariants.{Look, Claim, Write, Swap}
use Rattle.calls.specs.declared.Reply.TheVariants.{Pitch, Claimed, Written, Swapped, Freed, Refused}
use Rattle.calls.specs.Numbers.{table_length, number_modulus, place_picked, place_idle, place_claimed, place_written, place_swapped, place_returned}
use Rattle.calls.specs.Events.{accepted}
use Rattle.layout.specs.Layout.{publishers, slots, current, releases, retirement_at, retired_at, entry_at}
use Rattle.layout.specs.Records.{◌at_place◌, ◌held≔◌}
use Rattle.statement.specs.Machine.{State, Outcome, retires}
use Rattle.publication_law.specs.Steps.{reader, publisher}
use Rattle.publication_law.specs.Table.{Table, damaged, step}

-- A publisher at a place other than 0 holds the slot that its record names, and in a kind that retires slots each publisher those that it has retired.
abbrev pub Holds : Bool → State → ℕ → ℕ → Type 0
Holds retiring s q slot = (((publisher s q).place ≢ place_idle) × ((publisher s q).held ≡ slot)) ⊎ ((retiring ≡ true) × (i : ℕ) × (i < (retirement_at s.words q).count) × ((retired_at s.words q i).slot ≡ slot))

-- A slot in use is current, or a publisher holds it.
abbrev pub InUse : Bool → State → ℕ → Type 0
InUse retiring s slot = (current s.words ≡ slot) ⊎ ((q : ℕ) × (q < publishers s.words) × Holds retiring s q slot)

-- A publisher other than p is at a place other than 0.
abbrev pub AnotherBusy : State → ℕ → Type 0
AnotherBusy s p = (q : ℕ) × (q < publishers s.words) × (q ≢ p) × ((publisher s q).place ≢ place_idle)

-- LOOK, at 5: entry k of the slot picked.
pub record LookReplies (s : State) (r k : ℕ) (o : Outcome) : Type 0 where
  pub turn : (reader s r).place ≡ place_picked
  pub reply_is : o.reply ≡ Pitch (get_or s.entries (entry_at (reader s r).picked k) (pos 0))

-- CLAIM, at 0, of a slot that is not in use, in an exclusive kind with no other publisher busy: the slot is held, at 1.
pub record ClaimFacts (exclusive retiring : Bool) (s : State) (p slot : ℕ) (o : Outcome) : Type 0 where
  pub turn : (publisher s p).place ≡ place_idle
  pub alone : exclusive ≡ true → ¬ AnotherBusy s p
  pub free : ¬ InUse retiring s slot
  pub reply_is : o.reply ≡ Claimed slot
  pub record_is : publisher o.after p ≡ publisher s p at_place place_claimed held≔ slot

-- WRITE, at 1 to 32: one place further. The frame says which entry it stores.
pub record WriteFacts (s : State) (p : ℕ) (o : Outcome) : Type 0 where
  pub turn_low : 1 ≤ (publisher s p).place
  pub turn_high : (publisher s p).place ≤ table_length
  pub reply_is : o.reply ≡ Written (publisher s p).place
  pub record_is : publisher o.after p ≡ publisher s p at_place ((publisher s p).place + 1)

-- SWAP, at 33: the slot held becomes current, and the former one is held, at 34.
pub record SwapFacts (s : State) (p : ℕ) (o : Outcome) : Type 0 where
  pub turn : (publisher s p).place ≡ place_written
  pub reply_is : o.reply ≡ Swapped (current s.words)
  pub current_is : current o.after.words ≡ (publisher s p).held
  pub record_is : publisher o.after p ≡ publisher s p at_place place_swapped held≔ current s.words

-- RELEASE, at 38: the publisher is at 0, where it holds nothing; one release more, modulo 2^64. Shown in Promises.antt.
pub record ReleaseFacts (s : State) (p : ℕ) (o : Outcome) : Type 0 where
  pub turn : (publisher s p).place ≡ place_returned
  pub reply_is : o.reply ≡ Freed (publisher s p).held ((releases s.words + 1) % number_modulus)
  pub releases_are : releases o.after.words ≡ (releases s.words + 1) % number_modulus
  pub record_is : publisher o.after p ≡ publisher s p at_place place_idle

-- A CLAIM on an undamaged store is refused only for a wrong name, a wrong turn or a slot in use, in an exclusive kind also beside a busy publisher: each number only on its condition.
pub data ClaimRefusal (exclusive retiring : Bool) (s : State) (p slot : ℕ) : ℕ → Type 0 where
  no_publisher_lem : publishers s.words ≤ p → ClaimRefusal exclusive retiring s p slot 11
  no_slot : slots s.words ≤ slot → ClaimRefusal exclusive retiring s p slot 12
  wrong_turn : (publisher s p).place ≢ place_idle → ClaimRefusal exclusive retiring s p slot 21
  in_use_lem : InUse retiring s slot → ClaimRefusal exclusive retiring s p slot 30
  busy : exclusive ≡ true → AnotherBusy s p → ClaimRefusal exclusive retiring s p slot 31

-- What is promised of the calls that every kind has: on every state what an accepted one does, and on every undamaged one why a CLAIM is refused.
pub record SharedFacts (exclusive : Bool) (T : Table) : Type 0 where
  pub look_facts : (s : State) (r k : ℕ) → accepted (step T s (Look r k)).reply ≡ true → LookReplies s r k (step T s (Look r k))
  pub claim_facts : (s : State) (p slot : ℕ) → accepted (step T s (Claim p slot)).reply ≡ true → ClaimFacts exclusive (retires T.damage.number) s p slot (step T s (Claim p slot))
  pub write_facts : (s : State) (p : ℕ) (v : ℤ) → accepted (step T s (Write p v)).reply ≡ true → WriteFacts s p (step T s (Write p v))
  pub swap_facts : (s : State) (p : ℕ) → accepted (step T s (Swap p)).reply ≡ true → SwapFacts s p (step T s (Swap p))
  pub claim_refusals : (s : State) (p slot n : ℕ) → damaged T s ≡ false → (step T s (Claim p slot)).reply ≡ Refused n → ClaimRefusal exclusive (retires T.damage.number) s p slot n
