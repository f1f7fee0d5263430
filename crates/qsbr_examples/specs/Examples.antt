-- The bench examples of the rest store, from its making, by computation. Assumes nothing.
use Rattle.std.specs.Prelude.{ℕ, zero, suc, ◌+◌, ◌≡◌, refl, List, [], ◌∷◌, ◌++◌, ℤ, pos, replicate, take, drop}
use Rattle.base.specs.Rows.{any_below}
use Rattle.calls.specs.declared.Call.{Call}
use Rattle.calls.specs.declared.Call.TheVariants.{Enter, Look, Leave, Claim, Write, Swap, Sync, Raise, Walk, Release, Pick, Checkpoint, Defer}
use Rattle.calls.specs.declared.Reply.{Reply}
use Rattle.calls.specs.declared.Reply.TheVariants.{Made, At, Pitch, Claimed, Written, Swapped, Refused, Picked}
use Rattle.calls.specs.Numbers.{table_length}
use Rattle.calls.specs.FirstTable.{tables}
use Rattle.layout.specs.Layout.{reader_at, publisher_at, retirement_at, retired_at, with_reader, with_publisher, with_retirement, with_retired, with_readers, fresh_words}
use Rattle.statement.specs.Machine.{State, state}
use Rattle.statement.specs.Examples.{Example, AllHold, lent_for, lead_to, publication, table_from, P9, P10, given_feathered}
use Rattle.statement.specs.Examples.Example.{shows, unchanged, makes}
use Rattle.statement.specs.Precedence.{fresh_of}
use Rattle.publication_law.specs.Table.{damaged, step, making}
use Rattle.qsbr_law.specs.Steps.{rules, Qsbr, staying}
use Rattle.qsbr_law.proofs.Promises.{rest_promises}

-- n CHECKPOINTs of participant r. A whole checkpoint is two more than there are participants.
abbrev pub checkpoints : ℕ → ℕ → List Call
checkpoints n r = replicate n (Checkpoint r)

-- A whole table of v by participant p into slot x, swapped in, and the former slot deferred.
abbrev pub deferral : ℕ → ℕ → ℤ → List Call
deferral p slot v = publication p slot v ++ (Defer p ∷ Defer p ∷ [])

-- Inside a checkpoint, also between its reads, PICK gets 20 and DEFER 21; outside again both are accepted.
abbrev pub inside_turns : Example
inside_turns = shows Qsbr (given_feathered 2 2 3 0) (publication 0 1 (pos 100))
    (Checkpoint 0 ∷ Pick 0 ∷ Defer 0 ∷ Checkpoint 0 ∷ Pick 0 ∷ Defer 0 ∷ Checkpoint 0 ∷ Pick 0 ∷ Defer 0 ∷ Checkpoint 0 ∷ Pick 0 ∷ Defer 0 ∷ [])
    (Made ∷ At 1 ∷ Refused 20 ∷ Refused 21 ∷ At 2 ∷ Refused 20 ∷ Refused 21 ∷ At 3 ∷ Refused 20 ∷ Refused 21 ∷ At 4 ∷ Picked 1 ∷ At 35 ∷ [])

-- At 35 PICK and CHECKPOINT get 20, and LOOK, since the pick is dropped; CLAIM, WRITE and SWAP get 21. Another participant is not held up. After the second DEFER it picks and checkpoints again.
abbrev pub deferring_turns : Example
deferring_turns = shows Qsbr (given_feathered 2 2 3 0) (Pick 0 ∷ publication 0 1 (pos 100) ++ (Defer 0 ∷ []))
    (Pick 0 ∷ Checkpoint 0 ∷ Look 0 0 ∷ Claim 0 2 ∷ Write 0 (pos 5) ∷ Swap 0 ∷ Pick 1 ∷ Checkpoint 1 ∷ Defer 0 ∷ Pick 0 ∷ Checkpoint 0 ∷ [])
    (Made ∷ Refused 20 ∷ Refused 20 ∷ Refused 20 ∷ Refused 21 ∷ Refused 21 ∷ Refused 21 ∷ Picked 1 ∷ At 1 ∷ At 0 ∷ Picked 1 ∷ At 1 ∷ [])

-- n times a DEFER and then a WRITE, and the replies that are due with i entries written before.
abbrev defers_and_writes : ℕ → List Call
defers_and_writes zero = []
defers_and_writes (suc n) = Defer 0 ∷ Write 0 (pos 5) ∷ defers_and_writes n

abbrev refused_and_written : ℕ → ℕ → List Reply
refused_and_written zero i = []
refused_and_written (suc n) i = Refused 21 ∷ Written (i + 1) ∷ refused_and_written n (i + 1)

-- DEFER at each place from 0 to 33 gets 21, and CLAIM at 34, also of a free slot.
abbrev pub defers_early : Example
defers_early = shows Qsbr (given_feathered 1 1 3 0) []
    (Defer 0 ∷ Claim 0 1 ∷ defers_and_writes table_length ++ (Defer 0 ∷ Swap 0 ∷ Claim 0 2 ∷ Defer 0 ∷ []))
    (Made ∷ Refused 21 ∷ Claimed 1 ∷ refused_and_written table_length 0 ++ (Refused 21 ∷ Swapped 0 ∷ Refused 21 ∷ At 35 ∷ []))

-- LOOK without a pick gets 20. PICK is allowed at 0 and at 5, and replies with the current slot, of which a CLAIM gets 30.
abbrev pub looks_picked : Example
looks_picked = shows Qsbr (given_feathered 1 1 2 0) []
    (Look 0 31 ∷ Pick 0 ∷ Look 0 31 ∷ Pick 0 ∷ Look 0 0 ∷ Claim 0 0 ∷ Claim 0 1 ∷ [])
    (Made ∷ Refused 20 ∷ Picked 0 ∷ Pitch (pos 90000) ∷ Picked 0 ∷ Pitch (pos 90000) ∷ Refused 30 ∷ Claimed 1 ∷ [])

-- One whole publication of 32 different pitches. What was picked before the SWAP has the first table after it; what is picked again has each entry of the new one.
-- The DEFER that replies 35 drops the pick, and so does the CHECKPOINT that replies 1: LOOK then gets 20.
abbrev pub whole : Example
whole = shows Qsbr (given_feathered 1 1 2 0) (Pick 0 ∷ table_from 0 1 100)
    (Swap 0 ∷ Look 0 1 ∷ Pick 0 ∷ Look 0 0 ∷ Look 0 1 ∷ Look 0 30 ∷ Look 0 31 ∷ Defer 0 ∷ Look 0 0 ∷ Defer 0 ∷ Look 0 0 ∷ Pick 0 ∷ Look 0 31 ∷ Checkpoint 0 ∷ Look 0 31 ∷ Checkpoint 0 ∷ Checkpoint 0 ∷ Look 0 31 ∷ [])
    (Made ∷ Swapped 0 ∷ Pitch (pos 90000) ∷ Picked 1 ∷ Pitch (pos 100) ∷ Pitch (pos 101) ∷ Pitch (pos 130) ∷ Pitch (pos 131) ∷ At 35 ∷ Refused 20 ∷ At 0 ∷ Refused 20 ∷ Picked 1 ∷ Pitch (pos 131) ∷ At 1 ∷ Refused 20 ∷ At 2 ∷ At 3 ∷ Refused 20 ∷ [])

-- Inside a checkpoint CLAIM, WRITE and SWAP go on; the DEFER waits for its end.
abbrev pub publishes_inside : Example
publishes_inside = shows Qsbr (given_feathered 1 1 2 0) (Checkpoint 0 ∷ publication 0 1 (pos 100))
    (Defer 0 ∷ Checkpoint 0 ∷ Checkpoint 0 ∷ Defer 0 ∷ [])
    (Made ∷ Refused 21 ∷ At 2 ∷ At 3 ∷ At 35 ∷ [])

-- A deferred slot is held until the last step of its owner's next checkpoint, and then free.
abbrev pub freed : Example
freed = shows Qsbr (given_feathered 1 1 2 0) (deferral 0 1 (pos 100))
    (Claim 0 0 ∷ Checkpoint 0 ∷ Claim 0 0 ∷ Checkpoint 0 ∷ Claim 0 0 ∷ Checkpoint 0 ∷ Claim 0 0 ∷ [])
    (Made ∷ Refused 30 ∷ At 1 ∷ Refused 30 ∷ At 2 ∷ Refused 30 ∷ At 3 ∷ Claimed 0 ∷ [])

-- A checkpoint frees its own participant's slots alone: participant 1's reads least 1, the mark of participant 0's slot.
abbrev pub own_alone : Example
own_alone = shows Qsbr (given_feathered 2 2 3 0) (deferral 0 1 (pos 100))
    (checkpoints 4 1 ++ (Claim 1 0 ∷ checkpoints 4 0 ++ (Claim 1 0 ∷ [])))
    (Made ∷ At 1 ∷ At 2 ∷ At 3 ∷ At 4 ∷ Refused 30 ∷ At 1 ∷ At 2 ∷ At 3 ∷ At 4 ∷ Claimed 0 ∷ [])

-- Participant 1 has a pick and has not observed the mark: the owner's checkpoint frees nothing, and the look is still right.
-- Once participant 1 has observed it, by the second step of its checkpoint, the owner's next one frees the slot.
abbrev pub not_observed : Example
not_observed = shows Qsbr (given_feathered 2 2 3 0) (Pick 1 ∷ deferral 0 1 (pos 100))
    (checkpoints 4 0 ++ (Claim 0 0 ∷ Look 1 31 ∷ Checkpoint 1 ∷ Look 1 31 ∷ Checkpoint 1 ∷ checkpoints 4 0 ++ (Claim 0 0 ∷ [])))
    (Made ∷ At 1 ∷ At 2 ∷ At 3 ∷ At 4 ∷ Refused 30 ∷ Pitch (pos 90000) ∷ At 1 ∷ Refused 20 ∷ At 2 ∷ At 1 ∷ At 2 ∷ At 3 ∷ At 4 ∷ Claimed 0 ∷ [])

-- Participant 1 picks again, the table swapped in: that observes nothing, and the slot that it had picked before stays held.
abbrev pub picked_again : Example
picked_again = shows Qsbr (given_feathered 2 2 3 0) (Pick 1 ∷ publication 0 1 (pos 100))
    (Pick 1 ∷ Defer 0 ∷ Defer 0 ∷ checkpoints 4 0 ++ (Claim 0 0 ∷ Look 1 31 ∷ []))
    (Made ∷ Picked 1 ∷ At 35 ∷ At 0 ∷ At 1 ∷ At 2 ∷ At 3 ∷ At 4 ∷ Refused 30 ∷ Pitch (pos 100) ∷ [])

-- Participant 1's checkpoint reads participant 0 at its third step. Before participant 0 has observed the mark that is too early, whatever it observes then; after it, it is in time.
abbrev pub read_too_early : Example
read_too_early = shows Qsbr (given_feathered 2 2 3 0) (deferral 1 1 (pos 100))
    (checkpoints 3 1 ++ (checkpoints 2 0 ++ (Checkpoint 1 ∷ Claim 1 0 ∷ checkpoints 4 1 ++ (Claim 1 0 ∷ []))))
    (Made ∷ At 1 ∷ At 2 ∷ At 3 ∷ At 1 ∷ At 2 ∷ At 4 ∷ Refused 30 ∷ At 1 ∷ At 2 ∷ At 3 ∷ At 4 ∷ Claimed 0 ∷ [])

abbrev pub read_in_time : Example
read_in_time = shows Qsbr (given_feathered 2 2 3 0) (deferral 1 1 (pos 100))
    (checkpoints 2 1 ++ (checkpoints 2 0 ++ (checkpoints 2 1 ++ (Claim 1 0 ∷ []))))
    (Made ∷ At 1 ∷ At 2 ∷ At 1 ∷ At 2 ∷ At 3 ∷ At 4 ∷ Claimed 0 ∷ [])

-- What is observed is the epoch that the first step loaded. Participant 1 loads before the raise and observes after it: that does not count.
abbrev pub loaded_before : Example
loaded_before = shows Qsbr (given_feathered 2 2 3 0) (publication 0 1 (pos 100) ++ (Checkpoint 1 ∷ []))
    (Defer 0 ∷ Defer 0 ∷ Checkpoint 1 ∷ checkpoints 4 0 ++ (Claim 0 0 ∷ checkpoints 4 1 ++ (checkpoints 4 0 ++ (Claim 0 0 ∷ []))))
    (Made ∷ At 35 ∷ At 0 ∷ At 2 ∷ At 1 ∷ At 2 ∷ At 3 ∷ At 4 ∷ Refused 30 ∷ At 3 ∷ At 4 ∷ At 1 ∷ At 2 ∷ At 1 ∷ At 2 ∷ At 3 ∷ At 4 ∷ Claimed 0 ∷ [])

-- Two participants publish side by side: no 31. Each has a mark of its own, and each frees its own slot.
abbrev pub side_by_side : Example
side_by_side = shows Qsbr (given_feathered 2 2 3 0) (Claim 0 1 ∷ publication 1 2 (pos 200) ++ replicate table_length (Write 0 (pos 100)))
    (Swap 0 ∷ Defer 1 ∷ Defer 0 ∷ Defer 0 ∷ Defer 1 ∷ Claim 1 0 ∷ Claim 1 2 ∷ checkpoints 4 1 ++ (Claim 1 2 ∷ Claim 1 0 ∷ checkpoints 4 0 ++ (Claim 0 2 ∷ [])))
    (Made ∷ Swapped 2 ∷ At 35 ∷ At 35 ∷ At 0 ∷ At 0 ∷ Refused 30 ∷ Refused 30 ∷ At 1 ∷ At 2 ∷ At 3 ∷ At 4 ∷ Refused 30 ∷ Claimed 0 ∷ At 1 ∷ At 2 ∷ At 3 ∷ At 4 ∷ Claimed 2 ∷ [])

-- A participant at 35 has raised the epoch and not yet observed it: a checkpoint that reads it then frees nothing. Its second DEFER observes its mark, and no CHECKPOINT of its own is needed.
abbrev pub observes_at_second : Example
observes_at_second = shows Qsbr (given_feathered 2 2 3 0) (deferral 0 1 (pos 100) ++ (publication 1 2 (pos 200) ++ (Defer 1 ∷ [])))
    (checkpoints 4 0 ++ (Claim 0 0 ∷ Defer 1 ∷ checkpoints 4 0 ++ (Claim 0 0 ∷ [])))
    (Made ∷ At 1 ∷ At 2 ∷ At 3 ∷ At 4 ∷ Refused 30 ∷ At 0 ∷ At 1 ∷ At 2 ∷ At 3 ∷ At 4 ∷ Claimed 0 ∷ [])

-- Participant 0 has deferred slot 0 with mark 1 and slot 1 with mark 2; participant 1 has observed 1.
abbrev pub to_two_deferred : List Call
to_two_deferred = deferral 0 1 (pos 100) ++ (checkpoints 2 1 ++ deferral 0 2 (pos 200))

-- Its checkpoint frees the first and not the second, which its next one frees once participant 1 has observed 2.
abbrev pub freed_in_part : Example
freed_in_part = shows Qsbr (given_feathered 2 2 3 0) to_two_deferred
    (Claim 1 0 ∷ Claim 1 1 ∷ checkpoints 4 0 ++ (Claim 1 1 ∷ Claim 1 0 ∷ checkpoints 4 1 ++ (checkpoints 4 0 ++ (Claim 0 1 ∷ []))))
    (Made ∷ Refused 30 ∷ Refused 30 ∷ At 1 ∷ At 2 ∷ At 3 ∷ At 4 ∷ Refused 30 ∷ Claimed 0 ∷ At 3 ∷ At 4 ∷ At 1 ∷ At 2 ∷ At 1 ∷ At 2 ∷ At 3 ∷ At 4 ∷ Claimed 1 ∷ [])

-- The epoch at its end: a DEFER at 34 gets 43 and changes nothing.
abbrev pub epoch_is_last : Example
epoch_is_last = unchanged Qsbr (given_feathered 1 1 2 18446744073709551615) (publication 0 1 (pos 100)) (Defer 0) (Refused 43)

-- One before it a deferral runs to its end; the next gets 43. CHECKPOINT and PICK go on.
abbrev pub epoch_before_last : Example
epoch_before_last = shows Qsbr (given_feathered 1 1 3 18446744073709551614) (deferral 0 1 (pos 100) ++ publication 0 2 (pos 200))
    (Defer 0 ∷ checkpoints 3 0 ++ (Pick 0 ∷ Defer 0 ∷ []))
    (Made ∷ Refused 43 ∷ At 1 ∷ At 2 ∷ At 3 ∷ Picked 2 ∷ Refused 43 ∷ [])

-- A call that the kind lacks gets 1 and changes nothing, also where it would be in turn in other kinds: LEAVE with a pick, SYNC at 34.
abbrev pub lacking : Example
lacking = shows Qsbr (given_feathered 1 1 2 0) (Pick 0 ∷ publication 0 1 (pos 100))
    (Enter 0 ∷ Leave 0 ∷ Sync 0 ∷ Raise 0 ∷ Walk 0 1 ∷ Release 0 ∷ Look 0 0 ∷ Defer 0 ∷ Raise 0 ∷ Walk 0 1 ∷ Defer 0 ∷ [])
    (Made ∷ Refused 1 ∷ Refused 1 ∷ Refused 1 ∷ Refused 1 ∷ Refused 1 ∷ Refused 1 ∷ Pitch (pos 90000) ∷ At 35 ∷ Refused 1 ∷ Refused 1 ∷ At 0 ∷ [])

-- Making: as many readers as publishers, else 3; 16 of each and the first version 2^64 - 1 are made, 17 of each get 3, 65 of each get 2.
abbrev made_of : ℕ → ℕ → ℕ → Reply → Example
made_of readers publishers version a = makes Qsbr (given_feathered readers publishers 2 version) (lent_for (given_feathered readers publishers 2 version)) a

abbrev pub makings : List Example
makings = made_of 16 16 18446744073709551615 Made ∷ made_of 3 2 0 (Refused 3) ∷ made_of 2 3 0 (Refused 3) ∷ made_of 17 17 0 (Refused 3) ∷ made_of 65 65 0 (Refused 2) ∷ []

-- Turns; what is looked up; when a deferred slot is free; the epoch's end; the calls that are lacking; makings; and the examples of document 01 that name no kind.
unfoldable pub examples : List Example
examples =
    inside_turns ∷ deferring_turns ∷ defers_early ∷ looks_picked ∷ whole ∷ publishes_inside
    ∷ freed ∷ own_alone ∷ not_observed ∷ picked_again ∷ read_too_early ∷ read_in_time ∷ loaded_before ∷ side_by_side ∷ observes_at_second ∷ freed_in_part
    ∷ epoch_is_last ∷ epoch_before_last ∷ lacking ∷ P9 Qsbr ∷ P10 Qsbr ∷ makings

-- The reply of epochIsLast's call, at the state that it starts from.
last_epoch_refused : (step rules (lead_to Qsbr (given_feathered 1 1 2 18446744073709551615) (publication 0 1 (pos 100))) (Defer 0)).reply ≡ Refused 43
unfolding reader_at publisher_at retirement_at retired_at with_reader with_publisher with_retirement with_retired with_readers fresh_words any_below damaged staying step making tables
last_epoch_refused = refl

last_epoch_same : (step rules (lead_to Qsbr (given_feathered 1 1 2 18446744073709551615) (publication 0 1 (pos 100))) (Defer 0)).after ≡ lead_to Qsbr (given_feathered 1 1 2 18446744073709551615) (publication 0 1 (pos 100))
last_epoch_same = rest_promises.refused_leaves.step _ (Defer 0) 43 last_epoch_refused

-- Each by computation, and that epochIsLast's call changes nothing by what is promised of every refused call.
pub bench : AllHold examples
unfolding examples reader_at publisher_at retirement_at retired_at with_reader with_publisher with_retirement with_retired with_readers fresh_words any_below damaged staying step making tables
bench = (refl, (refl, (refl, (refl, (refl, (refl, (refl, (refl, (refl, (refl, (refl, (refl, (refl, (refl, (refl, (refl, ((refl, last_epoch_same), (refl, (refl, (refl, (refl, (refl, (refl, (refl, (refl, (refl, tt))))))))))))))))))))))))))

-- Participant 0's step and count (words 425 and 426), and its first three pairs of slot and mark (from word 457 on).
abbrev pub queue_words : State → List ℕ
queue_words s = take 2 (drop 425 s.words) ++ take 6 (drop 457 s.words)

-- The words of freedInPart's queue: two slots deferred; after the checkpoint one, the second pair moved down to the first. The pair behind the count is as it was.
pub queue_before : queue_words (lead_to Qsbr (given_feathered 2 2 3 0) to_two_deferred) ≡ 0 ∷ 2 ∷ 0 ∷ 1 ∷ 1 ∷ 2 ∷ 0 ∷ 0 ∷ []
unfolding reader_at publisher_at retirement_at retired_at with_reader with_publisher with_retirement with_retired with_readers fresh_words any_below damaged staying step making tables
queue_before = refl

pub queue_after : queue_words (lead_to Qsbr (given_feathered 2 2 3 0) (to_two_deferred ++ checkpoints 4 0)) ≡ 0 ∷ 1 ∷ 1 ∷ 2 ∷ 1 ∷ 2 ∷ 0 ∷ 0 ∷ []
unfolding reader_at publisher_at retirement_at retired_at with_reader with_publisher with_retirement with_retired with_readers fresh_words any_below damaged staying step making tables
queue_after = refl

-- A queue put together by hand, of participant 0 before its last step, that reads 1: of three pairs the second has that mark and is freed, the two that stay keep their order.
abbrev three_deferred : List ℕ → List ℕ
three_deferred w = with_retirement (with_retired (with_retired (with_retired w 0 0 (record { slot = 1; mark = 3 })) 0 1 (record { slot = 2; mark = 1 })) 0 2 (record { slot = 3; mark = 2 })) 0 (record { step = 2; count = 3 })

pub queue_in_order : let start : State = fresh_of Qsbr (given_feathered 1 1 4 1) in queue_words (step rules (state (three_deferred start.words) start.entries) (Checkpoint 0)).after ≡ 0 ∷ 2 ∷ 1 ∷ 3 ∷ 3 ∷ 2 ∷ 3 ∷ 2 ∷ []
unfolding reader_at publisher_at retirement_at retired_at with_reader with_publisher with_retirement with_retired with_readers fresh_words any_below damaged staying step making tables
queue_in_order = refl

-- The first version is observed by all: words 9 to 13 are reader 0, words 324 to 328 reader 63.
pub first_version_observed : let w : List ℕ = (fresh_of Qsbr (given_feathered 1 1 2 7)).words in take 5 (drop 9 w) ++ take 5 (drop 324 w) ≡ 0 ∷ 0 ∷ 0 ∷ 7 ∷ 0 ∷ 0 ∷ 0 ∷ 0 ∷ 7 ∷ 0 ∷ []
unfolding with_reader with_readers fresh_words any_below making tables
first_version_observed = refl
