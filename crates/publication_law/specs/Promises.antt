-- What is promised of every kind, and of a kind with sections, SYNC and WALK besides, each in one record; and the facts of a WALK that every kind has. Assumes nothing.
use Rattle.std.specs.Prelude.{ℕ, ◌≡◌, ◌≢◌, List, pos, get_or}
use Rattle.std.proofs.Math.Bool.{true, false}
use Rattle.calls.specs.declared.Call.{Call}
use Rattle.calls.specs.declared.Call.TheVariants.{Sync, Raise, Walk, Release}
use Rattle.calls.specs.declared.Reply.TheVariants.{Synced, Raised, Shared, Walked}
use Rattle.calls.specs.declared.WalkReply.TheVariants.{Spent}
use Rattle.calls.specs.Numbers.{place_synchronising, place_raised}
use Rattle.calls.specs.ReplyNumbersLaws.{PitchFitsWord, Representable}
use Rattle.calls.specs.Events.{accepted}
use Rattle.layout.specs.declared.WalkResult.{WalkResult}
use Rattle.layout.specs.Layout.{readers, publishers, slots, version}
use Rattle.layout.specs.Records.{◌at_place◌, ◌walk≔◌, ◌mark≔◌, ◌next≔◌, ◌looks≔◌, ◌waits≔◌}
use Rattle.statement.specs.Machine.{State, Outcome, Given, Fresh, after_all}
use Rattle.statement.specs.Demand3.{Demand3}
use Rattle.statement.specs.Frame.{Frame}
use Rattle.statement.specs.Looks.{LooksInRange, FirstTableUntilSwap}
use Rattle.statement.specs.Companions.{Traits, GraceTraits, MakingAccepts, MakingOnly, MakesFresh, Named, RefusedLeaves, Companions, GraceCompanions}
use Rattle.publication_law.specs.Steps.{publisher, walked}
use Rattle.publication_law.specs.Table.{Table, damaged, step, making, machine}
use Rattle.publication_law.specs.SharedFacts.{ReleaseFacts, SharedFacts}

-- SYNC: the reply is the mark that it stores, the version's successor; next, looks and waits are 0.
pub record SyncFacts (successor : ℕ → ℕ) (s : State) (p : ℕ) (o : Outcome) : Type 0 where
  pub reply_is : o.reply ≡ Synced (successor (version s.words))
  pub record_is : publisher o.after p ≡ publisher s p at_place place_synchronising walk≔ ((publisher s p).walk mark≔ (successor (version s.words)) next≔ 0 looks≔ 0 waits≔ 0)

-- RAISE: raised exactly if the version was one before the mark, and the version then is the mark; else shared, and the version stays. Place 37 either way.
pub record RaiseFacts (successor : ℕ → ℕ) (s : State) (p : ℕ) (o : Outcome) : Type 0 where
  pub raised : successor (version s.words) ≡ (publisher s p).walk.mark → (o.reply ≡ Raised) × (version o.after.words ≡ (publisher s p).walk.mark)
  pub shared : successor (version s.words) ≢ (publisher s p).walk.mark → (o.reply ≡ Shared) × (version o.after.words ≡ version s.words)
  pub record_is : publisher o.after p ≡ publisher s p at_place place_raised

-- What is promised of every kind.
pub record EveryPromises (T : Table) (traits : Traits) : Type 0 where
  pub demand3 : Demand3 (machine T) traits.first_table
  pub companions : Companions (machine T) traits
  -- every accepted look is of a pitch in range, and of the table lent to the making until a SWAP is accepted
  pub looks_in_range : LooksInRange (machine T)
  pub first_table_until_swap : FirstTableUntilSwap (machine T)
  -- the damage test is false after every list from fresh
  pub never_damaged : (s : State) → Fresh (machine T) s → (cs : List Call) → damaged T (after_all (machine T) s cs) ≡ false
  -- a making is accepted exactly if its arguments, what is lent and the table are in order
  pub making_accepts : MakingAccepts (machine T) traits
  pub making_only : MakingOnly (machine T) traits
  pub refused_leaves : RefusedLeaves (machine T)
  pub frame : Frame (λ s. traits.publishes) (machine T)
  -- a fresh store is document 01's, number by number
  pub makes_fresh : MakesFresh (machine T) traits
  -- every reply of a store whose entries are pitches of 64 bits has three numbers for C that no other representable reply has
  pub representable : (s : State) (c : Call) → ((j : ℕ) → PitchFitsWord (get_or s.entries j (pos 0))) → Representable (step T s c).reply
  pub representable_making : (z : Given) (s : State) → Representable (making T z s).reply
  -- for every state: an accepted call names what is there; what LOOK, CLAIM, WRITE and SWAP reply and store; and why a CLAIM is refused, if not for damage
  pub named : (s : State) (c : Call) → accepted (step T s c).reply ≡ true → Named (readers s.words) (publishers s.words) (slots s.words) c
  pub shared_facts : SharedFacts traits.exclusive T

-- .. and of a kind with sections, SYNC and WALK besides.
pub record Promises (T : Table) (traits : GraceTraits) : Type 0 where
  pub every : EveryPromises T traits.every
  pub companions : GraceCompanions (machine T) traits
  -- what an accepted SYNC, RAISE and RELEASE reply and store, for every state
  pub sync_facts : (s : State) (p : ℕ) → accepted (step T s (Sync p)).reply ≡ true → SyncFacts traits.successor s p (step T s (Sync p))
  pub raise_facts : (s : State) (p : ℕ) → accepted (step T s (Raise p)).reply ≡ true → RaiseFacts traits.successor s p (step T s (Raise p))
  pub release_facts : (s : State) (p : ℕ) → accepted (step T s (Release p)).reply ≡ true → ReleaseFacts s p (step T s (Release p))
  -- a WALK with no looks that replies spent leaves the whole state as it was
  pub walk_zero : (s : State) (p : ℕ) → (step T s (Walk p 0)).reply ≡ Walked Spent → (step T s (Walk p 0)).after ≡ s

-- The facts of every accepted WALK, for every state: reply and record are those of the looks made, of which a kind says Looks.
pub record WalkFacts (s : State) (p : ℕ) (result : WalkResult) (Looks : Type 0) (o : Outcome) : Type 0 where
  pub reply_is : o.reply ≡ Walked result.reply
  pub record_is : publisher o.after p ≡ walked (publisher s p) result
  pub looks_are : Looks
