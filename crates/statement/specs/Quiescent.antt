-- The companions of a kind whose loops never enter a section (quiescent states): what it serves besides, and that it holds of machines that are alike.
-- What is told of epochs are counts of raises: `Deferral` in calls. Assumes nothing.
use Rattle.std.specs.Prelude.{ℕ, ◌+◌, ◌<◌, ◌≤◌, ◌≡◌, ◌≢◌, true, false, List, [], ◌∷◌, ◌++◌}
use Rattle.std.proofs.Common.{sym, ◌∙◌}
use Rattle.std.proofs.Math.Option.{some}
use Rattle.calls.specs.declared.Call.{Call}
use Rattle.calls.specs.declared.Call.TheVariants.{Look, Claim, Pick, Checkpoint, Defer}
use Rattle.calls.specs.declared.Reply.TheVariants.{At, Claimed, Picked, Refused}
use Rattle.calls.specs.Numbers.{table_length, deferred_max, place_picked, place_idle, place_deferring, reader_turn_number, publisher_turn_number, slot_in_use_number, epoch_is_last_number, too_many_deferred_number}
use Rattle.calls.specs.Events.{Event}
use Rattle.calls.specs.Events.Event.{◌⇒◌}
use Rattle.calls.specs.Deferral.{deferred_by}
use Rattle.calls.specs.Told.{Told, told_by, holds, Has}
use Rattle.calls.specs.Told.Role.{free}
use Rattle.calls.specs.Tally.{Tally, tally_of}
use Rattle.calls.specs.Tally.Phase.{idle, swapped, synchronising}
use Rattle.layout.specs.Layout.{version, reader_at, publisher_at, retirement_at, retired_at}
use Rattle.statement.specs.Machine.{State, Given, Machine, Fresh, events, after_all}
use Rattle.statement.specs.Companions.{Traits, OutsideCheckpoint, NotDeferring}
use Rattle.statement.specs.Alike.{Alike, fresh_alike, after_alike, events_alike}

-- What holds of a state after a list of calls that told t and u. Inside a checkpoint: the told step is not 0.
pub record QuiescentStateCompanions (M : Machine) (traits : Traits) (z : Given) (t : Told) (u : Tally) (s : State) : Type 0 where
  -- PICK is accepted outside a checkpoint and not at 35, with the current slot; inside one and at 35 it gets 20
  pub picks : (r : ℕ) → r < z.readers → OutsideCheckpoint t r → NotDeferring u r → (slot : ℕ) × (t.current ≡ some slot) × ((M.step s (Pick r)).reply ≡ Picked slot)
  pub picks_not_inside : (r : ℕ) → r < z.readers → t.deferral.step r ≢ 0 → (M.step s (Pick r)).reply ≡ Refused reader_turn_number
  pub picks_not_deferring : (r : ℕ) → r < z.readers → u.phase r ≡ synchronising → (M.step s (Pick r)).reply ≡ Refused reader_turn_number
  -- CHECKPOINT is accepted unless at 35, with the next step; at 35 it gets 20
  pub checkpoints : (r : ℕ) → r < z.readers → NotDeferring u r → (M.step s (Checkpoint r)).reply ≡ At (t.deferral.step r + 1)
  pub checkpoints_not_deferring : (r : ℕ) → r < z.readers → u.phase r ≡ synchronising → (M.step s (Checkpoint r)).reply ≡ Refused reader_turn_number
  -- LOOK without a pick gets 20; an idle participant's CLAIM of a slot that is not told free gets 30
  pub looks_not_before : (r k : ℕ) → r < z.readers → k < table_length → u.place r ≢ place_picked → (M.step s (Look r k)).reply ≡ Refused reader_turn_number
  pub claims_not_in_use : (p slot : ℕ) → p < z.publishers → slot < z.slots → u.phase p ≡ idle → ¬ Has t slot free → (M.step s (Claim p slot)).reply ≡ Refused slot_in_use_number
  -- DEFER after a SWAP, outside a checkpoint: 43 at the last epoch, then 44 with eight slots told deferred, else it replies 35; and after that 0. In every other phase, and inside a checkpoint, it gets 21
  pub defers : (p : ℕ) → p < z.publishers → OutsideCheckpoint t p → u.phase p ≡ swapped → version s.words < traits.greatest → deferred_by t.deferral p z.slots < deferred_max → (M.step s (Defer p)).reply ≡ At place_deferring
  pub defers_not_at_last : (p : ℕ) → p < z.publishers → OutsideCheckpoint t p → u.phase p ≡ swapped → version s.words ≡ traits.greatest → (M.step s (Defer p)).reply ≡ Refused epoch_is_last_number
  pub defers_not_with_eight : (p : ℕ) → p < z.publishers → OutsideCheckpoint t p → u.phase p ≡ swapped → version s.words < traits.greatest → deferred_by t.deferral p z.slots ≡ deferred_max
      → (M.step s (Defer p)).reply ≡ Refused too_many_deferred_number
  pub queues : (p : ℕ) → p < z.publishers → OutsideCheckpoint t p → u.phase p ≡ synchronising → (M.step s (Defer p)).reply ≡ At place_idle
  pub defers_not_before : (p : ℕ) → p < z.publishers → u.phase p ≢ swapped → u.phase p ≢ synchronising → (M.step s (Defer p)).reply ≡ Refused publisher_turn_number
  pub defers_not_inside : (p : ℕ) → p < z.publishers → t.deferral.step p ≢ 0 → (M.step s (Defer p)).reply ≡ Refused publisher_turn_number
  -- no slot is free that some participant picked and has not dropped since, whether or not it has picked another one after it
  pub kept_picks : (r slot : ℕ) → t.deferral.picks r slot ≡ true → ¬ Has t slot free
  -- each epoch in the words is the first version and as many raises as told: the state epoch, what each participant loaded, observed and has read, and the marks
  pub epoch_is : version s.words ≡ z.version + t.deferral.raises
  pub loaded_is : (r : ℕ) → 1 ≤ t.deferral.step r → (reader_at s.words r).first ≡ z.version + t.deferral.loaded r
  pub observed_is : (r : ℕ) → r < z.readers → (reader_at s.words r).published ≡ z.version + t.deferral.observed r
  pub least_is : (r : ℕ) → 3 ≤ t.deferral.step r → (reader_at s.words r).second ≡ z.version + t.deferral.least r
  pub mark_is : (p : ℕ) → u.phase p ≡ synchronising → (publisher_at s.words p).walk.mark ≡ z.version + t.deferral.mark p
  -- and so are the other numbers: the step, how many slots are deferred, and each of them with its mark
  pub step_is : (r : ℕ) → (retirement_at s.words r).step ≡ t.deferral.step r
  pub deferred_are : (p : ℕ) → p < z.publishers → (retirement_at s.words p).count ≡ deferred_by t.deferral p z.slots
  pub marks_are : (p i : ℕ) → i < (retirement_at s.words p).count
      → (mark : ℕ) × (t.deferral.marks p (retired_at s.words p i).slot ≡ some mark) × ((retired_at s.words p i).mark ≡ z.version + mark)

abbrev pub QuiescentCompanions : Machine → Traits → Type 0
QuiescentCompanions M traits = (s : State) (f : Fresh M s) (cs : List Call) → QuiescentStateCompanions M traits f.arguments (told_by f.arguments.readers (events M s cs)) (tally_of (events M s cs)) (after_all M s cs)

-- What a participant has observed never falls.
abbrev pub ObservedNeverFalls : Machine → Type 0
ObservedNeverFalls M = (s : State) (f : Fresh M s) (cs : List Call) (pre post : List Event) → events M s cs ≡ pre ++ post
    → (r : ℕ) → (told_by f.arguments.readers pre).deferral.observed r ≤ (told_by f.arguments.readers (pre ++ post)).deferral.observed r

-- No checkpoint of r began among the events.
abbrev pub NotBegun : ℕ → List Event → Type 0
NotBegun r es = (pre post : List Event) → es ≢ pre ++ (Checkpoint r ⇒ At 1) ∷ post

-- A slot deferred by p with this mark as told, and every other participant has observed the mark or a later epoch. Then p makes a whole checkpoint, whatever stands between its steps:
-- after its last step p holds the slot no more, and a claim of it straight after by an idle participant is accepted.
pub record SurelyFreed (M : Machine) (z : Given) (t : Told) (u : Tally) (s : State) (p slot : ℕ) : Type 0 where
  pub not_held : holds t p slot ≡ false
  pub claimed : (q : ℕ) → q < z.publishers → u.phase q ≡ idle → (M.step s (Claim q slot)).reply ≡ Claimed slot

abbrev pub FreesSurely : Machine → Type 0
FreesSurely M = (s : State) (f : Fresh M s) (cs : List Call) (pre mid : List Event) (p slot mark : ℕ)
    → (told_by f.arguments.readers pre).deferral.marks p slot ≡ some mark → ((q : ℕ) → q < f.arguments.readers → q ≢ p → mark ≤ (told_by f.arguments.readers pre).deferral.observed q)
    → events M s cs ≡ pre ++ (Checkpoint p ⇒ At 1) ∷ (mid ++ (Checkpoint p ⇒ At (f.arguments.readers + 2)) ∷ []) → NotBegun p mid
    → SurelyFreed M f.arguments (told_by f.arguments.readers (events M s cs)) (tally_of (events M s cs)) (after_all M s cs) p slot

-- The same of a machine that is alike.
module _ (M N : Machine) (like : Alike M N) where
  pub quiescent_alike : (traits : Traits) → QuiescentCompanions M traits → QuiescentCompanions N traits
  quiescent_alike traits promise s f cs =
      let known = promise s (fresh_alike M N like s f) cs in
      let same = like.steps s (fresh_alike M N like s f) cs in rw (events_alike M N like s f cs, after_alike M N like s f cs) (record {
        picks = λ r. rw (same (Pick r)) (known.picks r);
        picks_not_inside = λ r. rw (same (Pick r)) (known.picks_not_inside r);
        picks_not_deferring = λ r. rw (same (Pick r)) (known.picks_not_deferring r);
        checkpoints = λ r. rw (same (Checkpoint r)) (known.checkpoints r);
        checkpoints_not_deferring = λ r. rw (same (Checkpoint r)) (known.checkpoints_not_deferring r);
        looks_not_before = λ r k. rw (same (Look r k)) (known.looks_not_before r k);
        claims_not_in_use = λ p slot. rw (same (Claim p slot)) (known.claims_not_in_use p slot);
        defers = λ p. rw (same (Defer p)) (known.defers p);
        defers_not_at_last = λ p. rw (same (Defer p)) (known.defers_not_at_last p);
        defers_not_with_eight = λ p. rw (same (Defer p)) (known.defers_not_with_eight p);
        queues = λ p. rw (same (Defer p)) (known.queues p);
        defers_not_before = λ p. rw (same (Defer p)) (known.defers_not_before p);
        defers_not_inside = λ p. rw (same (Defer p)) (known.defers_not_inside p);
        kept_picks = known.kept_picks;
        epoch_is = known.epoch_is;
        loaded_is = known.loaded_is;
        observed_is = known.observed_is;
        least_is = known.least_is;
        mark_is = known.mark_is;
        step_is = known.step_is;
        deferred_are = known.deferred_are;
        marks_are = known.marks_are;
      })

  pub observed_alike : ObservedNeverFalls M → ObservedNeverFalls N
  observed_alike promise s f cs pre post e = promise s (fresh_alike M N like s f) cs pre post (sym (events_alike M N like s f cs) ∙ e)

  pub frees_surely_alike : FreesSurely M → FreesSurely N
  frees_surely_alike promise s f cs pre mid p slot mark marked observed e whole =
      let known = promise s (fresh_alike M N like s f) cs pre mid p slot mark marked observed (sym (events_alike M N like s f cs) ∙ e) whole in
      rw (events_alike M N like s f cs, after_alike M N like s f cs) (record { not_held = known.not_held; claimed = λ q. rw (like.steps s (fresh_alike M N like s f) cs (Claim q slot)) (known.claimed q) })
