-- What the rest store keeps besides the shared invariant: the definitions. Epochs, ToldEpochs and Safety show that each call keeps it.
-- v is the epoch. Readers, publishers, retirements and retired slots are functions of a number, and so are the slots that a participant has picked and not dropped since.
use Rattle.std.specs.Prelude.{ℕ, ◌+◌, ◌<◌, ◌≤◌, ◌≡◌, ◌≢◌, Bool, true, false, eqb}
use Rattle.std.proofs.Math.Option.{Option, none, some}
use Rattle.base.specs.Rows.{any_below, count_below}
use Rattle.calls.specs.Numbers.{deferred_max, place_picked, place_swapped, place_deferring}
use Rattle.calls.specs.Deferral.{Deferral, is_marked}
use Rattle.layout.specs.declared.Reader.{Reader}
use Rattle.layout.specs.declared.Publisher.{Publisher}
use Rattle.layout.specs.declared.Retirement.{Retirement}
use Rattle.layout.specs.declared.Retired.{Retired}
use Rattle.layout.specs.Layout.{readers, publishers, slots, current, version, reader_at, publisher_at, retirement_at, retired_at}
use Rattle.statement.specs.Machine.{State, Given}
use Rattle.statement.specs.KeptInvariant.{Ghost}
use Rattle.publication_law.specs.Core.{CurrentOrFormer}
use Rattle.publication_law.specs.Invariant.{formers_of, Invariant}
use Rattle.qsbr_law.specs.Steps.{damage_rules}

-- A participant inside a checkpoint has no pick; what it loaded is an epoch that was there, and not below what it has observed.
pub record InsideCheckpoint (v : ℕ) (x : Reader) (picks : ℕ → Bool) : Type 0 where
  pub loaded_low : x.first ≤ v
  pub loaded_high : x.published ≤ x.first
  pub dropped : (slot : ℕ) → picks slot ≢ true

-- A participant at 35 has no pick; its mark is an epoch that was there, and not below what it has observed.
pub record Deferring (v : ℕ) (x : Reader) (y : Publisher) (picks : ℕ → Bool) : Type 0 where
  pub mark_low : y.walk.mark ≤ v
  pub mark_high : x.published ≤ y.walk.mark
  pub dropped : (slot : ℕ) → picks slot ≢ true

pub record Epochs (v : ℕ) (picks : ℕ → ℕ → Bool) (xs : ℕ → Reader) (ys : ℕ → Publisher) (ts : ℕ → Retirement) (ds : ℕ → ℕ → Retired) : Type 0 where
  -- nobody has observed an epoch that was not there
  pub observed_low : (r : ℕ) → (xs r).published ≤ v
  pub inside : (r : ℕ) → 1 ≤ (ts r).step → InsideCheckpoint v (xs r) (picks r)
  pub raised : (p : ℕ) → (ys p).place ≡ place_deferring → Deferring v (xs p) (ys p) (picks p)
  -- a checkpoint at step k has read participants 0 to k - 3, and the least that it has is at most what each of these has observed by now
  pub reads : (r q : ℕ) → q + 2 < (ts r).step → (xs r).second ≤ (xs q).published
  -- the mark of a retired slot is an epoch that was there
  pub marks_low : (p i : ℕ) → i < (ts p).count → (ds p i).mark ≤ v
  -- whoever picked a retired slot, or one that is about to be, has observed only epochs before its mark
  pub later : (p r i : ℕ) → i < (ts p).count → picks r (ds p i).slot ≡ true → (xs r).published < (ds p i).mark
  pub coming : (p r : ℕ) → (ys p).place ≡ place_deferring → picks r (ys p).held ≡ true → (xs r).published < (ys p).walk.mark
  -- the pick at place 5 is one of the slots picked and not dropped
  pub picked_is : (r : ℕ) → (xs r).place ≡ place_picked → picks r (xs r).picked ≡ true
  -- a walk's numbers, which no call moves, are in order
  pub waits_low : (p : ℕ) → (ys p).walk.waits ≤ (ys p).walk.looks
  -- from 34 on the slot that a record names is none of the retired ones
  pub unqueued : (p : ℕ) → place_swapped ≤ (ys p).place → any_below (λ i. eqb (ds p i).slot (ys p).held) (ts p).count ≡ false
  -- no slot is retired twice
  pub once : (p slot : ℕ) → count_below (λ i. eqb (ds p i).slot slot) (ts p).count ≤ 1

-- A mark as told, beside the stored one, where the first version is first.
abbrev pub MarkedAs : ℕ → Option ℕ → ℕ → Type 0
MarkedAs first none mark = ⊥
MarkedAs first (some told) mark = mark ≡ first + told

-- Told and stored agree: each epoch is the first version and as many raises as told; n is how many participants there are.
pub record ToldEpochs (first n : ℕ) (d : Deferral) (v : ℕ) (xs : ℕ → Reader) (ys : ℕ → Publisher) (ts : ℕ → Retirement) (ds : ℕ → ℕ → Retired) : Type 0 where
  pub participants_are : d.participants ≡ n
  pub epoch_is : v ≡ first + d.raises
  pub steps_are : (r : ℕ) → d.step r ≡ (ts r).step
  pub loads_are : (r : ℕ) → 1 ≤ (ts r).step → (xs r).first ≡ first + d.loaded r
  pub observed_are : (r : ℕ) → r < n → (xs r).published ≡ first + d.observed r
  pub leasts_are : (r : ℕ) → 3 ≤ (ts r).step → (xs r).second ≡ first + d.least r
  pub mark_is : (p : ℕ) → (ys p).place ≡ place_deferring → (ys p).walk.mark ≡ first + d.mark p
  -- each retired slot has the mark told, and the slots with a mark told are the retired ones
  pub marks_are : (p i : ℕ) → i < (ts p).count → MarkedAs first (d.marks p (ds p i).slot) (ds p i).mark
  pub queued_are : (p slot : ℕ) → is_marked (d.marks p slot) ≡ any_below (λ i. eqb (ds p i).slot slot) (ts p).count

abbrev pub EpochsOf : Ghost → State → Type 0
EpochsOf g s = Epochs (version s.words) g.told.deferral.picks (reader_at s.words) (publisher_at s.words) (retirement_at s.words) (retired_at s.words)

abbrev pub ToldEpochsOf : Given → Ghost → State → Type 0
ToldEpochsOf z g s = ToldEpochs z.version (readers s.words) g.told.deferral (version s.words) (reader_at s.words) (publisher_at s.words) (retirement_at s.words) (retired_at s.words)

-- A participant's retirement that damages nothing, in a store of n participants and so many slots.
pub record RetirementFits (n slots : ℕ) (y : Publisher) (t : Retirement) (ds : ℕ → Retired) : Type 0 where
  pub step_high : t.step ≤ n + 1
  pub count_high : t.count ≤ deferred_max
  pub room : y.place ≡ place_deferring → t.count < deferred_max
  pub slots_below : (i : ℕ) → i < t.count → (ds i).slot < slots

-- Every slot picked and not dropped since, by a participant of the store, is the current one or a former one of some participant.
abbrev pub Since : (ℕ → ℕ → Bool) → ℕ → ℕ → (ℕ → ℕ → Bool) → Type 0
Since picks n cur formerSlots = (r slot : ℕ) → picks r slot ≡ true → (r < n) × CurrentOrFormer cur formerSlots slot

-- The whole invariant of a rest store made with the arguments z, where the calls told g.
pub record RestInvariant (z : Given) (g : Ghost) (s : State) : Type 0 where
  pub shared : Invariant damage_rules z g s
  -- nothing damages it besides
  pub as_many : readers s.words ≡ publishers s.words
  pub retirements_fit : (p : ℕ) → p < publishers s.words → RetirementFits (readers s.words) (slots s.words) (publisher_at s.words p) (retirement_at s.words p) (retired_at s.words p)
  pub epochs : EpochsOf g s
  -- no slot that a participant picked and has not dropped since is free: it is current, or someone's former one
  pub since : Since g.told.deferral.picks (readers s.words) (current s.words) (λ p. formers_of true s p (publisher_at s.words p))
  pub told_epochs : ToldEpochsOf z g s
