-- The bench examples of the old store, from its making, by computation. Assumes nothing.
use Rattle.std.specs.Prelude.{ℕ, zero, suc, ◌+◌, ◌≡◌, refl, List, [], ◌∷◌, ◌++◌, pos}
use Rattle.base.specs.Rows.{any_below, count_below}
use Rattle.calls.specs.declared.Call.{Call}
use Rattle.calls.specs.declared.Call.TheVariants.{Enter, Look, Leave, Claim, Swap, Sync, Raise, Walk, Release}
use Rattle.calls.specs.declared.Reply.{Reply}
use Rattle.calls.specs.declared.Reply.TheVariants.{Made, At, Pitch, Left, Claimed, Written, Swapped, Synced, Raised, Walked, Freed, Refused}
use Rattle.calls.specs.declared.WalkReply.TheVariants.{Waiting, Spent, Quiet, Returned}
use Rattle.calls.specs.FirstTable.{tables}
use Rattle.layout.specs.Layout.{indicator, reader_at, publisher_at, with_reader, with_publisher, with_readers, fresh_words}
use Rattle.statement.specs.Examples.{Example, AllHold, lead_to, enters, publication, table_from, P9, P10, given_feathered}
use Rattle.statement.specs.Examples.Example.{shows, unchanged}
use Rattle.publication_law.specs.Table.{damaged, step, making}
use Rattle.two_phase_law.specs.Steps.{rules, TwoPhase, onward, look_at}
use Rattle.two_phase_law.proofs.Promises.{old_walk_zero}

-- P5: reader loads 0; a whole publication runs; reader arrives at indicator 0; next SYNC has mark 2, WALK 1: waiting 0.
abbrev pub P5 : Example
P5 = shows TwoPhase (given_feathered 1 1 2 0)
    (Enter 0 ∷ publication 0 1 (pos 100) ++ (Sync 0 ∷ Walk 0 1 ∷ Raise 0 ∷ Walk 0 1 ∷ Release 0 ∷ Enter 0 ∷ publication 0 0 (pos 200)))
    (Sync 0 ∷ Walk 0 1 ∷ [])
    (Made ∷ Synced 2 ∷ Walked (Waiting 0) ∷ [])

-- P6: WALK 0 at 37: spent, all unchanged.
abbrev pub to37 : List Call
to37 = publication 0 1 (pos 100) ++ (Sync 0 ∷ Walk 0 1 ∷ Raise 0 ∷ [])

abbrev pub P6 : Example
P6 = unchanged TwoPhase (given_feathered 1 1 2 0) to37 (Walk 0 0) (Walked Spent)

-- P11: another publisher's CLAIM of a free slot during a wait: old 31.
abbrev pub P11 : Example
P11 = shows TwoPhase (given_feathered 1 2 3 0) (enters 2 0 ++ publication 0 1 (pos 100))
    (Sync 0 ∷ Walk 0 9 ∷ Raise 0 ∷ Walk 0 9 ∷ Claim 1 2 ∷ [])
    (Made ∷ Synced 1 ∷ Walked Quiet ∷ Raised ∷ Walked (Waiting 0) ∷ Refused 31 ∷ [])

-- One whole publication of 32 different pitches, with every reply from SWAP on: SWAP and RELEASE reply with the former slot.
-- What was picked before the SWAP has the first table after it; what is picked after the RELEASE has each entry of the new one.
abbrev pub whole : Example
whole = shows TwoPhase (given_feathered 1 1 2 0) (enters 3 0 ++ table_from 0 1 100)
    (Swap 0 ∷ Look 0 1 ∷ Leave 0 ∷ Sync 0 ∷ Walk 0 1 ∷ Raise 0 ∷ Walk 0 1 ∷ Release 0 ∷ enters 3 0 ++ (Look 0 0 ∷ Look 0 1 ∷ Look 0 30 ∷ Look 0 31 ∷ []))
    (Made ∷ Swapped 0 ∷ Pitch (pos 90000) ∷ Left ∷ Synced 1 ∷ Walked Quiet ∷ Raised ∷ Walked (Returned 2 0) ∷ Freed 0 1 ∷ At 1 ∷ At 4 ∷ At 5
    ∷ Pitch (pos 100) ∷ Pitch (pos 101) ∷ Pitch (pos 130) ∷ Pitch (pos 131) ∷ [])

-- A reader that enters after the RAISE loads the version raised and adds to its indicator: the walk does not wait for it.
abbrev pub loads_raised : Example
loads_raised = shows TwoPhase (given_feathered 1 1 2 0) (publication 0 1 (pos 100))
    (Sync 0 ∷ Walk 0 1 ∷ Raise 0 ∷ Enter 0 ∷ Enter 0 ∷ Walk 0 1 ∷ [])
    (Made ∷ Synced 1 ∷ Walked Quiet ∷ Raised ∷ At 1 ∷ At 4 ∷ Walked (Returned 2 0) ∷ [])

-- The replies of n WRITEs from this one on.
abbrev written_from : ℕ → ℕ → List Reply
written_from k zero = []
written_from k (suc n) = Written k ∷ written_from (k + 1) n

-- Request 5: the version runs past 2^64 - 1 under a reader. Its mark is 0, so the first look is at indicator 0 and the second at 1, where the reader of version 2^64 - 1 is counted.
-- After the return the reader reads the new table, counted at 0; the next publication has mark 1 and waits for it there.
abbrev pub endurance : Example
endurance = shows TwoPhase (given_feathered 1 1 2 18446744073709551615) (enters 3 0 ++ publication 0 1 (pos 100))
    (Sync 0 ∷ Walk 0 1 ∷ Raise 0 ∷ Walk 0 1 ∷ Leave 0 ∷ Walk 0 1 ∷ Release 0 ∷ enters 3 0 ++ (Look 0 0 ∷ publication 0 0 (pos 200) ++ (Sync 0 ∷ Walk 0 1 ∷ Raise 0 ∷ Walk 0 1 ∷ Leave 0 ∷ Walk 0 1 ∷ Release 0 ∷ [])))
    (Made ∷ Synced 0 ∷ Walked Quiet ∷ Raised ∷ Walked (Waiting 1) ∷ Left ∷ Walked (Returned 3 1) ∷ Freed 0 1 ∷ At 1 ∷ At 4 ∷ At 5 ∷ Pitch (pos 100)
    ∷ Claimed 0 ∷ written_from 1 32 ++ (Swapped 1 ∷ Synced 1 ∷ Walked Quiet ∷ Raised ∷ Walked (Waiting 0) ∷ Left ∷ Walked (Returned 3 1) ∷ Freed 1 2 ∷ []))

-- The examples of document 01 that are about the old store or name no kind; one whole publication; what ENTER loads; and a version that runs past 2^64 - 1.
unfoldable pub examples : List Example
examples = P5 ∷ P6 ∷ P9 TwoPhase ∷ P10 TwoPhase ∷ P11 ∷ whole ∷ loads_raised ∷ endurance ∷ []

-- The reply of P6's call, at the state that it starts from.
p6_spent : (step rules (lead_to TwoPhase (given_feathered 1 1 2 0) to37) (Walk 0 0)).reply ≡ Walked Spent
unfolding indicator reader_at publisher_at with_reader with_publisher with_readers fresh_words any_below count_below damaged onward look_at step making tables
p6_spent = refl

p6_same : (step rules (lead_to TwoPhase (given_feathered 1 1 2 0) to37) (Walk 0 0)).after ≡ lead_to TwoPhase (given_feathered 1 1 2 0) to37
p6_same = old_walk_zero _ 0 p6_spent

-- Each by computation, and that P6's call changes nothing by what is promised of every such call.
pub bench : AllHold examples
unfolding examples indicator reader_at publisher_at with_reader with_publisher with_readers fresh_words any_below count_below damaged onward look_at step making tables
bench = (refl, ((refl, p6_same), (refl, (refl, (refl, (refl, (refl, (refl, tt))))))))
