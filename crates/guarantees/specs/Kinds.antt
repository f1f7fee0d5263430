-- Demands 1 and 3 on the steps, and the companions, for words of any kind: `store n` has the making of the kind with number n and the steps that
-- the kind word tells, which are the steps that the contracts of `kinds` cite. Assumes nothing.
use Rattle.std.specs.Prelude.{ℕ, ◌+◌, ◌-◌, ◌*◌, ◌%◌, ◌<◌, ◌≤◌, ◌≡◌, refl, ◌≢◌, true, false, List, ℤ, pos, get_or, replicate}
use Rattle.std.proofs.Common.{arith, sym, ◌∙◌}
use Rattle.calls.specs.declared.Call.{Call}
use Rattle.calls.specs.declared.Call.TheVariants.{Enter, Look, Leave, Claim, Write, Swap, Sync, Raise, Walk, Release, Pick, Checkpoint, Defer}
use Rattle.calls.specs.declared.Reply.TheVariants.{At, Walked, Refused}
use Rattle.calls.specs.declared.WalkReply.TheVariants.{Waiting, Spent}
use Rattle.calls.specs.ReplyNumbersLaws.{PitchFitsWord, Representable}
use Rattle.calls.specs.Numbers.{format_number, number_max, damaged_number, bad_version_number, version_is_last_number, place_published, place_loaded_again, place_open, place_synchronising, place_raised}
use Rattle.calls.specs.Events.{accepted}
use Rattle.calls.specs.Tally.{tally_of}
use Rattle.layout.specs.Layout.{words_length, kind_word, readers, publishers, slots, indicator, with_reader}
use Rattle.layout.specs.Records.{◌place≔◌, ◌published≔◌}
use Rattle.statement.specs.Machine.{State, state, Given, outcome, Fresh, events, after_all, retires}
use Rattle.statement.specs.Demand3.{Demand3}
use Rattle.statement.specs.Frame.{Frame}
use Rattle.statement.specs.Looks.{LooksInRange, FirstTableUntilSwap}
use Rattle.statement.specs.Companions.{MakingAccepts, MakingOnly, MakesFresh, Named, RefusedLeaves, Companions, GraceCompanions}
use Rattle.statement.specs.Quiescent.{QuiescentCompanions, ObservedNeverFalls, FreesSurely, quiescent_alike, observed_alike, frees_surely_alike}
use Rattle.statement.specs.FreeSlot.{FindsFreeSlot, finds_free_slot_alike}
use Rattle.statement.specs.NeverShared.{NeverShared, never_shared_alike}
use Rattle.statement.specs.Alike.{fresh_alike, after_alike, events_alike, demand3_alike, companions_alike, grace_companions_alike, making_accepts_alike, making_only_alike, makes_fresh_alike, looks_in_range_alike, first_table_until_swap_alike}
use Rattle.publication_law.specs.DamageLaws.{zero_damaged}
use Rattle.publication_law.specs.Steps.{reader, publisher}
use Rattle.publication_law.specs.Table.{damaged, step}
use Rattle.publication_law.proofs.TableLaws.{lacked_refused}
use Rattle.publication_law.proofs.Calls.{undamaged_facts}
use Rattle.publication_law.specs.SharedFacts.{LookReplies, ClaimFacts, WriteFacts, SwapFacts, ReleaseFacts, ClaimRefusal}
use Rattle.publication_law.specs.Promises.{SyncFacts, RaiseFacts, WalkFacts}
use Rattle.grace_version_law.specs.Steps as new-store
use Rattle.grace_version_law.specs.Promises as new_promises
use Rattle.grace_version_law.proofs.Promises as new_promises-laws
use Rattle.grace_version_law.specs.Readers as new-readers
use Rattle.grace_version_law.proofs.Readers as new-readers-laws
use Rattle.two_phase_law.specs.Steps as old-store
use Rattle.two_phase_law.specs.Counts.{LookFacts}
use Rattle.two_phase_law.proofs.Promises as old_promises
use Rattle.two_phase_law.proofs.NeverShared.{old_never_shared}
use Rattle.two_phase_law.specs.Readers as old-readers
use Rattle.two_phase_law.proofs.Readers as old-readers-laws
use Rattle.qsbr_law.proofs.Promises as rest_promises
use Rattle.qsbr_law.proofs.Surely as rest-surely
use Rattle.qsbr_law.proofs.Facts as rest-facts
use Rattle.layout.specs.declared.Publisher.{Publisher}
use Rattle.kinds_law.specs.declared.Kind.{Kind}
use Rattle.kinds_law.specs.Kinds.{table_of, kind_number, kind_of_number, any_step, any_making, store}
use Rattle.kinds_law.specs.declared.Kind.TheVariants.{New as new, Old as old, Rest as rest}
use Rattle.kinds_law.proofs.Calls.{number_is, step_named, making_named, step_unknown, making_unknown, any_making_leaves}
use Rattle.guarantees.specs.ByKind.{store_of, traits, kind_promises, kind_demand3, GraceKind, grace_traits, grace_promises, alike, by_number, publishes_of, chosen_leaves, chosen_frame, chosen_representable, chosen_representable_making}

-- Demand 3: after every list of calls from every accepted making, of whatever kind, looks, returns, slots and picks are as document 01 tells them.
pub demand3 : (n : ℕ) → Demand3 (store n) (λ z. z.table)
demand3 = by_number (λ n. Demand3 (store n) (λ z. z.table))
    (λ kind. demand3_alike (store_of kind) (store (kind_number kind)) (alike kind) (λ z. z.table) (kind_demand3 kind))
    (λ n none s f. absurd (none s f))

-- Every accepted look is of a pitch in range, and of the table lent to the making until a SWAP is accepted.
pub looks_in_range : (n : ℕ) → LooksInRange (store n)
looks_in_range = by_number (λ n. LooksInRange (store n))
    (λ kind. looks_in_range_alike (store_of kind) (store (kind_number kind)) (alike kind) (kind_promises kind).looks_in_range)
    (λ n none s f. absurd (none s f))

pub first_table_until_swap : (n : ℕ) → FirstTableUntilSwap (store n)
first_table_until_swap = by_number (λ n. FirstTableUntilSwap (store n))
    (λ kind. first_table_until_swap_alike (store_of kind) (store (kind_number kind)) (alike kind) (kind_promises kind).first_table_until_swap)
    (λ n none s f. absurd (none s f))

-- The numbers of the kinds: 17 new, 18 old, 19 rest; that is 16 times the format, and 1, 2 or 3.
pub kind_numbers : (◌≡◌ {A = ℕ} (kind_number new) 17) × (◌≡◌ {A = ℕ} (kind_number old) 18) × (◌≡◌ {A = ℕ} (kind_number rest) 19)
kind_numbers = (refl, refl, refl)

pub kind_numbers_of_format : (kind_number new ≡ 16 * format_number + 1) × (kind_number old ≡ 16 * format_number + 2) × (kind_number rest ≡ 16 * format_number + 3)
kind_numbers_of_format = (refl, refl, refl)

-- Words of another format, whose kind word is 16 × format + i with i below 16, get 1: such as a store packed by a release before.
-- So does a making for such a kind, as a caller compiled before asks for.
module _ (format i : ℕ) (other : format ≢ format_number) (low : i < 16) where
  pub other_format_refused : (s : State) (c : Call) → kind_word s.words ≡ 16 * format + i → any_step s c ≡ outcome (Refused damaged_number) s
  other_format_refused s c e = sym (step_unknown s c (sym e) (λ new-number. other (omega arith)) (λ old-number. other (omega arith)) (λ rest-number. other (omega arith)))

  pub other_format_not_made : (z : Given) (s : State) → any_making (16 * format + i) z s ≡ outcome (Refused damaged_number) s
  other_format_not_made z s = sym (making_unknown (16 * format + i) z s (λ new-number. other (omega arith)) (λ old-number. other (omega arith)) (λ rest-number. other (omega arith)))

-- A call that the kind lacks gets 1 and changes nothing, whatever else the words hold: of new and old PICK, CHECKPOINT and DEFER, of rest those of sections and grace periods.
pub lacked_calls : (kind : Kind) (s : State) (c : Call) → kind_word s.words ≡ kind_number kind → (traits kind).lacks c ≡ true → any_step s c ≡ outcome (Refused damaged_number) s
lacked_calls kind s c is lacking = step_named kind s c is ∙ lacked_refused (table_of kind) s c (sym (lacks_same kind c) ∙ lacking)
  where
    lacks_same : (kind : Kind) (c : Call) → (traits kind).lacks c ≡ (table_of kind).lacks c
    lacks_same new c = refl
    lacks_same old c = refl
    lacks_same rest c = refl

pub new_lacks : (r : ℕ) → ((traits new).lacks (Pick r) ≡ true) × ((traits new).lacks (Checkpoint r) ≡ true) × ((traits new).lacks (Defer r) ≡ true)
new_lacks r = (refl, refl, refl)

pub old_lacks : (r : ℕ) → ((traits old).lacks (Pick r) ≡ true) × ((traits old).lacks (Checkpoint r) ≡ true) × ((traits old).lacks (Defer r) ≡ true)
old_lacks r = (refl, refl, refl)

pub rest_lacks : (r b : ℕ) → ((traits rest).lacks (Enter r) ≡ true) × ((traits rest).lacks (Leave r) ≡ true) × ((traits rest).lacks (Sync r) ≡ true)
    × ((traits rest).lacks (Raise r) ≡ true) × ((traits rest).lacks (Walk r b) ≡ true) × ((traits rest).lacks (Release r) ≡ true)
rest_lacks r b = (refl, refl, refl, refl, refl, refl)

-- Its companions: never damaged, order, whole tables, looks, claims, writes and swaps.
pub companions : (kind : Kind) → Companions (store (kind_number kind)) (traits kind)
companions kind = companions_alike (store_of kind) (store (kind_number kind)) (alike kind) (traits kind) (kind_promises kind).companions

-- .. and of the kinds with sections and grace periods: counts, readers never wait, publishers make progress, releases.
pub grace_companions : (kind : Kind) (grace : GraceKind kind) → GraceCompanions (store (kind_number kind)) (grace_traits kind grace)
grace_companions kind grace = grace_companions_alike (store_of kind) (store (kind_number kind)) (alike kind) (grace_traits kind grace) (grace_promises kind grace).companions

-- .. and of rest: PICK, CHECKPOINT and DEFER are served, each in its turn alone; what was observed never falls; a deferred slot is surely freed.
pub quiescent_companions : QuiescentCompanions (store (kind_number rest)) (traits rest)
quiescent_companions = quiescent_alike (store_of rest) (store (kind_number rest)) (alike rest) (traits rest) rest_promises.rest_quiescent

pub observed_never_falls : ObservedNeverFalls (store (kind_number rest))
observed_never_falls = observed_alike (store_of rest) (store (kind_number rest)) (alike rest) rest-surely.observed_never_falls

pub frees_surely : FreesSurely (store (kind_number rest))
frees_surely = frees_surely_alike (store_of rest) (store (kind_number rest)) (alike rest) rest-surely.frees_surely

pub never_damaged : (kind : Kind) (s : State) → Fresh (store (kind_number kind)) s → (cs : List Call) → damaged (table_of kind) (after_all (store (kind_number kind)) s cs) ≡ false
never_damaged kind s f cs = rw (after_alike (store_of kind) (store (kind_number kind)) (alike kind) s f cs) ((kind_promises kind).never_damaged s (fresh_alike (store_of kind) (store (kind_number kind)) (alike kind) s f) cs)

-- A making is accepted exactly if arguments, lent slices and table are in order.
pub making_accepts : (kind : Kind) → MakingAccepts (store (kind_number kind)) (traits kind)
making_accepts kind = making_accepts_alike (store_of kind) (store (kind_number kind)) (alike kind) (traits kind) (kind_promises kind).making_accepts

pub making_only : (kind : Kind) → MakingOnly (store (kind_number kind)) (traits kind)
making_only kind = making_only_alike (store_of kind) (store (kind_number kind)) (alike kind) (traits kind) (kind_promises kind).making_only

-- A fresh store is document 01's, number by number.
pub makes_fresh : (kind : Kind) → MakesFresh (store (kind_number kind)) (traits kind)
makes_fresh kind = makes_fresh_alike (store_of kind) (store (kind_number kind)) (alike kind) (traits kind) (kind_promises kind).makes_fresh

-- Demand 1 on the steps: a refused call or making changes nothing, whatever the words hold.
pub refused_leaves : (n : ℕ) → RefusedLeaves (store n)
unfolding any_step
refused_leaves n = record { step = λ s. chosen_leaves (kind_of_number (kind_word s.words)) s; making = any_making_leaves n }

-- A call moves the numbers that its step names, of the record that it names and perhaps one of the head, and nothing else; of the entries a WRITE moves one.
pub frame : (n : ℕ) → Frame (λ s. publishes_of (kind_of_number (kind_word s.words))) (store n)
unfolding any_step
frame n = record {
  words = λ s. (chosen_frame (kind_of_number (kind_word s.words))).words s;
  entries = λ s. (chosen_frame (kind_of_number (kind_word s.words))).entries s;
  writes = λ s. (chosen_frame (kind_of_number (kind_word s.words))).writes s;
}

-- Every reply of a store whose entries are pitches of 64 bits has three numbers for C that no other representable reply has.
pub representable : (s : State) (c : Call) → ((j : ℕ) → PitchFitsWord (get_or s.entries j (pos 0))) → Representable (any_step s c).reply
unfolding any_step
representable s = chosen_representable (kind_of_number (kind_word s.words)) s

pub representable_making : (n : ℕ) (z : Given) (s : State) → Representable (any_making n z s).reply
unfolding any_making
representable_making n = chosen_representable_making (kind_of_number n)

-- A store with every number 0, as a refused making by value hands back, is damaged.
pub zero_store_damaged : (kind : Kind) (entries : List ℤ) → damaged (table_of kind) (state (replicate words_length 0) entries) ≡ true
zero_store_damaged kind entries = zero_damaged (table_of kind) entries

-- A CLAIM on an undamaged store, whether or not a list of calls leads to it, is refused only for a wrong name, a wrong turn or a slot in use; of the old store, which alone is exclusive, also beside a busy publisher.
pub claim_refusals : (kind : Kind) (s : State) (p slot n : ℕ) → damaged (table_of kind) s ≡ false → (any_step s (Claim p slot)).reply ≡ Refused n → ClaimRefusal (traits kind).exclusive (retires (kind_number kind)) s p slot n
claim_refusals kind s p slot n sound e = rw (← number_is kind) ((kind_promises kind).shared_facts.claim_refusals s p slot n sound (rw (step_named kind s (Claim p slot) ((undamaged_facts (table_of kind) s sound).head.kind_is ∙ number_is kind)) at e))

-- With more slots than publishers, an idle publisher of the new store always finds a free slot, and its claim of that slot is accepted.
pub finds_free_slot : FindsFreeSlot (store (kind_number new))
finds_free_slot = finds_free_slot_alike (store_of new) (store (kind_number new)) (alike new) new_promises-laws.new_finds_free_slot

-- In the old store no RAISE is shared, after every list of calls from fresh: each accepted one raises the version.
pub never_shared : NeverShared (store (kind_number old))
never_shared = never_shared_alike (store_of old) (store (kind_number old)) (alike old) old_never_shared

-- Nor does it give 32, on any words of its kind, or 6, to a making with a first version of 64 bits.
pub never_32_old : (s : State) (p : ℕ) → kind_word s.words ≡ kind_number old → (any_step s (Sync p)).reply ≢ Refused version_is_last_number
never_32_old s p is = rw (step_named old s (Sync p) is) (old_promises.old_sync_not_32 s p)

pub never_6_old : (z : Given) (s : State) → z.version ≤ number_max → (any_making (kind_number old) z s).reply ≢ Refused bad_version_number
never_6_old z s low = rw (making_named old z s) (old_promises.old_making_not_6 z s low)

-- What a WALK says, on words of each kind: reply and record are those of the looks made; waiting names the one that did not pass, spent says that all b looks passed.
pub walk_facts_new : (s : State) (p b : ℕ) → kind_word s.words ≡ kind_number new → accepted (any_step s (Walk p b)).reply ≡ true
    → let result = new-store.looks_of s (publisher s p).walk b in WalkFacts s p result (new_promises.WalkLooks s p b result) (any_step s (Walk p b))
walk_facts_new s p b is = rw (step_named new s (Walk p b) is) (new_promises-laws.new_walk_facts s p b)

pub walk_facts_old : (s : State) (p b : ℕ) → kind_word s.words ≡ kind_number old → accepted (any_step s (Walk p b)).reply ≡ true
    → let result = old-store.looks_of s (publisher s p) b in WalkFacts s p result (LookFacts (indicator s.words (old-store.looked_at (publisher s p))) (publisher s p) b result) (any_step s (Walk p b))
walk_facts_old s p b is = rw (step_named old s (Walk p b) is) (old_promises.old_walk_facts s p b)

-- Old: a walk looks at the indicator of its mark's own parity at 35, and at the other one at 37.
pub looked_at_old : (y : Publisher) → (y.place ≡ place_synchronising → old-store.looked_at y ≡ y.walk.mark % 2) × (y.place ≡ place_raised → old-store.looked_at y ≡ 1 - y.walk.mark % 2)
looked_at_old y = (old_promises.old_looks_first y, old_promises.old_looks_second y)

-- What an accepted ENTER and an accepted LEAVE leave of the reader and, old, of the indicators, on words of each kind.
pub enter_facts_new : (s : State) (r : ℕ) → kind_word s.words ≡ kind_number new → accepted (any_step s (Enter r)).reply ≡ true → new-readers.EnterFacts s r (any_step s (Enter r))
enter_facts_new s r is = rw (step_named new s (Enter r) is) (new-readers-laws.new_enter_facts s r)

pub leave_facts_new : (s : State) (r : ℕ) → kind_word s.words ≡ kind_number new → accepted (any_step s (Leave r)).reply ≡ true → new-readers.LeaveFacts s r (any_step s (Leave r))
leave_facts_new s r is = rw (step_named new s (Leave r) is) (new-readers-laws.new_leave_facts s r)

pub enter_facts_old : (s : State) (r : ℕ) → kind_word s.words ≡ kind_number old → accepted (any_step s (Enter r)).reply ≡ true → old-readers.EnterFacts s r (any_step s (Enter r))
enter_facts_old s r is = rw (step_named old s (Enter r) is) (old-readers-laws.old_enter_facts s r)

pub leave_facts_old : (s : State) (r : ℕ) → kind_word s.words ≡ kind_number old → accepted (any_step s (Leave r)).reply ≡ true → old-readers.LeaveFacts s r (any_step s (Leave r))
leave_facts_old s r is = rw (step_named old s (Leave r) is) (old-readers-laws.old_leave_facts s r)

-- Document 02, request 4: on every undamaged new store ENTER of a reader at 3 goes to 4 and publishes the second loaded version, always, and moves nothing else;
-- where the two loaded versions are equal, that is the number that was published, and it stays. An undamaged store's kind word is its kind's.
module _ (s : State) (r : ℕ) (no_damage : damaged (table_of new) s ≡ false) (below : r < readers s.words) (turn : (reader s r).place ≡ place_loaded_again) where
  own_step : any_step s (Enter r) ≡ step (table_of new) s (Enter r)
  own_step = step_named new s (Enter r) ((undamaged_facts (table_of new) s no_damage).head.kind_is ∙ number_is new)

  pub publishes_second : any_step s (Enter r) ≡ outcome (At place_open) (state (with_reader s.words r (reader s r place≔ place_open published≔ (reader s r).second)) s.entries)
  publishes_second = own_step ∙ new-readers-laws.new_publishes_second s r no_damage below turn

  pub equal_same_number : (reader s r).first ≡ (reader s r).second
      → ((reader s r).second ≡ (reader s r).published) × ((reader (any_step s (Enter r)).after r).published ≡ (reader s r).published)
  equal_same_number equal = rw own_step (new-readers-laws.new_equal_same_number s r no_damage below turn equal)

-- What an accepted call names is there, on words of each kind.
pub named : (kind : Kind) (s : State) (c : Call) → kind_word s.words ≡ kind_number kind → accepted (any_step s c).reply ≡ true → Named (readers s.words) (publishers s.words) (slots s.words) c
named kind s c is = rw (step_named kind s c is) ((kind_promises kind).named s c)

-- What an accepted LOOK, CLAIM, WRITE and SWAP reply and store, on words of each kind.
pub look_facts : (kind : Kind) (s : State) (r k : ℕ) → kind_word s.words ≡ kind_number kind → accepted (any_step s (Look r k)).reply ≡ true → LookReplies s r k (any_step s (Look r k))
look_facts kind s r k is = rw (step_named kind s (Look r k) is) ((kind_promises kind).shared_facts.look_facts s r k)

pub claim_facts : (kind : Kind) (s : State) (p slot : ℕ) → kind_word s.words ≡ kind_number kind → accepted (any_step s (Claim p slot)).reply ≡ true → ClaimFacts (traits kind).exclusive (retires (kind_number kind)) s p slot (any_step s (Claim p slot))
claim_facts kind s p slot is = rw (step_named kind s (Claim p slot) is, ← number_is kind) ((kind_promises kind).shared_facts.claim_facts s p slot)

pub write_facts : (kind : Kind) (s : State) (p : ℕ) (v : ℤ) → kind_word s.words ≡ kind_number kind → accepted (any_step s (Write p v)).reply ≡ true → WriteFacts s p (any_step s (Write p v))
write_facts kind s p v is = rw (step_named kind s (Write p v) is) ((kind_promises kind).shared_facts.write_facts s p v)

pub swap_facts : (kind : Kind) (s : State) (p : ℕ) → kind_word s.words ≡ kind_number kind → accepted (any_step s (Swap p)).reply ≡ true → SwapFacts s p (any_step s (Swap p))
swap_facts kind s p is = rw (step_named kind s (Swap p) is) ((kind_promises kind).shared_facts.swap_facts s p)

-- What an accepted SYNC, RAISE and RELEASE reply and store, on words of each kind that has them.
pub sync_facts : (kind : Kind) (grace : GraceKind kind) (s : State) (p : ℕ) → kind_word s.words ≡ kind_number kind → accepted (any_step s (Sync p)).reply ≡ true → SyncFacts (grace_traits kind grace).successor s p (any_step s (Sync p))
sync_facts kind grace s p is = rw (step_named kind s (Sync p) is) ((grace_promises kind grace).sync_facts s p)

pub raise_facts : (kind : Kind) (grace : GraceKind kind) (s : State) (p : ℕ) → kind_word s.words ≡ kind_number kind → accepted (any_step s (Raise p)).reply ≡ true → RaiseFacts (grace_traits kind grace).successor s p (any_step s (Raise p))
raise_facts kind grace s p is = rw (step_named kind s (Raise p) is) ((grace_promises kind grace).raise_facts s p)

pub release_facts : (kind : Kind) (grace : GraceKind kind) (s : State) (p : ℕ) → kind_word s.words ≡ kind_number kind → accepted (any_step s (Release p)).reply ≡ true → ReleaseFacts s p (any_step s (Release p))
release_facts kind grace s p is = rw (step_named kind s (Release p) is) ((grace_promises kind grace).release_facts s p)

-- What an accepted PICK, CHECKPOINT and DEFER reply and leave of the participant and of the epoch, on words of rest.
pub pick_facts : (s : State) (r : ℕ) → kind_word s.words ≡ kind_number rest → accepted (any_step s (Pick r)).reply ≡ true → rest-facts.PickFacts s r (any_step s (Pick r))
pick_facts s r is = rw (step_named rest s (Pick r) is) (rest-facts.rest_pick_facts s r)

pub checkpoint_facts : (s : State) (r : ℕ) → kind_word s.words ≡ kind_number rest → accepted (any_step s (Checkpoint r)).reply ≡ true → rest-facts.CheckpointFacts s r (any_step s (Checkpoint r))
checkpoint_facts s r is = rw (step_named rest s (Checkpoint r) is) (rest-facts.rest_checkpoint_facts s r)

pub defer_facts : (s : State) (p : ℕ) → kind_word s.words ≡ kind_number rest → accepted (any_step s (Defer p)).reply ≡ true → rest-facts.DeferFacts s p (any_step s (Defer p))
defer_facts s p is = rw (step_named rest s (Defer p) is) (rest-facts.rest_defer_facts s p)

-- After every list from a fresh new store a WALK waits only for a reader that has published a version and not left since: never for one that never entered.
pub waits_for : (s : State) (f : Fresh (store (kind_number new)) s) (cs : List Call) (p b r : ℕ)
    → (any_step (after_all (store (kind_number new)) s cs) (Walk p b)).reply ≡ Walked (Waiting r) → place_published ≤ (tally_of (events (store (kind_number new)) s cs)).place r
waits_for s f cs p b r =
    let like = alike new in
    let f' = fresh_alike (store_of new) (store (kind_number new)) like s f in
    rw (after_alike (store_of new) (store (kind_number new)) like s f cs, events_alike (store_of new) (store (kind_number new)) like s f cs, like.steps s f' cs (Walk p b)) (new_promises-laws.new_waits_for s f' cs p b r)

-- A WALK with no looks that replies spent leaves the whole state as it was.
pub walk_zero : (kind : Kind) (grace : GraceKind kind) (s : State) (p : ℕ) → kind_word s.words ≡ kind_number kind → (any_step s (Walk p 0)).reply ≡ Walked Spent → (any_step s (Walk p 0)).after ≡ s
walk_zero kind grace s p is = rw (step_named kind s (Walk p 0) is) ((grace_promises kind grace).walk_zero s p)
