-- The bench examples of the new store, from its making, by computation. Assumes nothing.
use Rattle.std.specs.Prelude.{◌≡◌, refl, List, [], ◌∷◌, ◌++◌, pos}
use Rattle.base.specs.Rows.{any_below}
use Rattle.calls.specs.declared.Call.{Call}
use Rattle.calls.specs.declared.Call.TheVariants.{Enter, Look, Leave, Claim, Swap, Sync, Raise, Walk, Release}
use Rattle.calls.specs.declared.Reply.TheVariants.{Made, At, Pitch, Left, Claimed, Swapped, Synced, Raised, Shared, Walked, Freed, Refused}
use Rattle.calls.specs.declared.WalkReply.TheVariants.{Waiting, Spent, Returned}
use Rattle.calls.specs.FirstTable.{tables}
use Rattle.layout.specs.Layout.{reader_at, publisher_at, with_reader, with_publisher, with_readers, fresh_words}
use Rattle.statement.specs.Examples.{Example, AllHold, lead_to, enters, publication, table_from, P9, P10, given_feathered}
use Rattle.statement.specs.Examples.Example.{shows, unchanged}
use Rattle.publication_law.specs.Table.{damaged, step, making}
use Rattle.grace_version_law.specs.Steps.{rules, GraceVersion, onward, looks_from}
use Rattle.grace_version_law.proofs.Promises.{new_walk_zero}

-- P1: the sheet of document 01.
abbrev pub P1 : Example
P1 = shows GraceVersion (given_feathered 1 1 2 0) []
    (Enter 0 ∷ Enter 0 ∷ Enter 0 ∷ Enter 0 ∷ Enter 0 ∷ Look 0 31 ∷ Claim 0 0 ∷ Claim 0 1 ∷ Leave 0 ∷ [])
    (Made ∷ At 1 ∷ At 2 ∷ At 3 ∷ At 4 ∷ At 5 ∷ Pitch (pos 90000) ∷ Refused 30 ∷ Claimed 1 ∷ Left ∷ [])

-- P2: two publishers SYNC at version 0, both marks 1; first RAISE raised, second shared.
abbrev pub P2 : Example
P2 = shows GraceVersion (given_feathered 1 2 3 0) (publication 0 1 (pos 100) ++ publication 1 2 (pos 200))
    (Sync 0 ∷ Sync 1 ∷ Raise 0 ∷ Raise 1 ∷ [])
    (Made ∷ Synced 1 ∷ Synced 1 ∷ Raised ∷ Shared ∷ [])

-- P3: 2 readers, reader 1 open at 0: SYNC, RAISE, WALK 10: waiting 1. After LEAVE, WALK 10: returned 3 1.
abbrev pub P3 : Example
P3 = shows GraceVersion (given_feathered 2 1 2 0) (enters 4 1 ++ publication 0 1 (pos 100))
    (Sync 0 ∷ Raise 0 ∷ Walk 0 10 ∷ Leave 1 ∷ Walk 0 10 ∷ [])
    (Made ∷ Synced 1 ∷ Raised ∷ Walked (Waiting 1) ∷ Left ∷ Walked (Returned 3 1) ∷ [])

-- P4: 1 reader at place 2 with 0: SYNC, RAISE, two ENTERs, WALK 1: returned 1 0; its pick is the new table.
abbrev pub P4 : Example
P4 = shows GraceVersion (given_feathered 1 1 2 0) (enters 2 0 ++ publication 0 1 (pos 100))
    (Sync 0 ∷ Raise 0 ∷ Enter 0 ∷ Enter 0 ∷ Walk 0 1 ∷ Enter 0 ∷ Look 0 0 ∷ Look 0 31 ∷ [])
    (Made ∷ Synced 1 ∷ Raised ∷ At 3 ∷ At 4 ∷ Walked (Returned 1 0) ∷ At 5 ∷ Pitch (pos 100) ∷ Pitch (pos 100) ∷ [])

-- P6: WALK 0 at 37: spent, all unchanged.
abbrev pub to37 : List Call
to37 = publication 0 1 (pos 100) ++ (Sync 0 ∷ Raise 0 ∷ [])

abbrev pub P6 : Example
P6 = unchanged GraceVersion (given_feathered 1 1 2 0) to37 (Walk 0 0) (Walked Spent)

-- P7: 3 readers out: WALK 2 spent, WALK 1 returned 3 0.
abbrev pub P7 : Example
P7 = shows GraceVersion (given_feathered 3 1 2 0) (publication 0 1 (pos 100))
    (Sync 0 ∷ Raise 0 ∷ Walk 0 2 ∷ Walk 0 1 ∷ [])
    (Made ∷ Synced 1 ∷ Raised ∷ Walked Spent ∷ Walked (Returned 3 0) ∷ [])

-- P8: SYNC at 2^64 - 2 is 32, at 2^64 - 3 accepted.
abbrev pub P8 : Example
P8 = shows GraceVersion (given_feathered 1 1 2 18446744073709551614) (publication 0 1 (pos 100)) (Sync 0 ∷ []) (Made ∷ Refused 32 ∷ [])

abbrev pub P8_below : Example
P8_below = shows GraceVersion (given_feathered 1 1 2 18446744073709551613) (publication 0 1 (pos 100)) (Sync 0 ∷ []) (Made ∷ Synced 18446744073709551614 ∷ [])

-- P11: another publisher's CLAIM of a free slot during a wait: new accepted.
abbrev pub P11 : Example
P11 = shows GraceVersion (given_feathered 1 2 3 0) (enters 4 0 ++ publication 0 1 (pos 100))
    (Sync 0 ∷ Raise 0 ∷ Walk 0 9 ∷ Claim 1 2 ∷ [])
    (Made ∷ Synced 1 ∷ Raised ∷ Walked (Waiting 0) ∷ Claimed 2 ∷ [])

-- P12: LEAVE at 3 gets 20, at 4 (new) accepted.
abbrev pub P12 : Example
P12 = shows GraceVersion (given_feathered 1 1 2 0) (enters 3 0) (Leave 0 ∷ Enter 0 ∷ Leave 0 ∷ []) (Made ∷ Refused 20 ∷ At 4 ∷ Left ∷ [])

-- One whole publication of 32 different pitches, with every reply from SWAP on: SWAP and RELEASE reply with the former slot.
-- What was picked before the SWAP has the first table after it; what is picked after the RELEASE has each entry of the new one.
abbrev pub whole : Example
whole = shows GraceVersion (given_feathered 1 1 2 0) (enters 5 0 ++ table_from 0 1 100)
    (Swap 0 ∷ Look 0 1 ∷ Leave 0 ∷ Sync 0 ∷ Raise 0 ∷ Walk 0 1 ∷ Release 0 ∷ enters 5 0 ++ (Look 0 0 ∷ Look 0 1 ∷ Look 0 30 ∷ Look 0 31 ∷ []))
    (Made ∷ Swapped 0 ∷ Pitch (pos 90000) ∷ Left ∷ Synced 1 ∷ Raised ∷ Walked (Returned 1 0) ∷ Freed 0 1 ∷ At 1 ∷ At 2 ∷ At 3 ∷ At 4 ∷ At 5
    ∷ Pitch (pos 100) ∷ Pitch (pos 101) ∷ Pitch (pos 130) ∷ Pitch (pos 131) ∷ [])

-- A reader that enters after the RAISE loads and publishes the version raised: the walk does not wait for it.
abbrev pub loads_raised : Example
loads_raised = shows GraceVersion (given_feathered 1 1 2 0) (publication 0 1 (pos 100))
    (Sync 0 ∷ Raise 0 ∷ Enter 0 ∷ Enter 0 ∷ Walk 0 1 ∷ [])
    (Made ∷ Synced 1 ∷ Raised ∷ At 1 ∷ At 2 ∷ Walked (Returned 1 0) ∷ [])

-- A walk looks at reader 0 first: of two readers open at 0 it waits for 0, and after LEAVE 0 for 1.
abbrev pub readers_in_order : Example
readers_in_order = shows GraceVersion (given_feathered 2 1 2 0) (enters 4 0 ++ enters 4 1 ++ publication 0 1 (pos 100))
    (Sync 0 ∷ Raise 0 ∷ Walk 0 10 ∷ Leave 0 ∷ Walk 0 10 ∷ Leave 1 ∷ Walk 0 10 ∷ [])
    (Made ∷ Synced 1 ∷ Raised ∷ Walked (Waiting 0) ∷ Left ∷ Walked (Waiting 1) ∷ Left ∷ Walked (Returned 4 2) ∷ [])

-- The examples of document 01 that are about the new store or name no kind; one whole publication; what ENTER loads; and the order of a walk's readers.
unfoldable pub examples : List Example
examples = P1 ∷ P2 ∷ P3 ∷ P4 ∷ P6 ∷ P7 ∷ P8 ∷ P8_below ∷ P9 GraceVersion ∷ P10 GraceVersion ∷ P11 ∷ P12 ∷ whole ∷ loads_raised ∷ readers_in_order ∷ []

-- The reply of P6's call, at the state that it starts from.
p6_spent : (step rules (lead_to GraceVersion (given_feathered 1 1 2 0) to37) (Walk 0 0)).reply ≡ Walked Spent
unfolding reader_at publisher_at with_reader with_publisher with_readers fresh_words any_below damaged onward looks_from step making tables
p6_spent = refl

p6_same : (step rules (lead_to GraceVersion (given_feathered 1 1 2 0) to37) (Walk 0 0)).after ≡ lead_to GraceVersion (given_feathered 1 1 2 0) to37
p6_same = new_walk_zero _ 0 p6_spent

-- Each by computation, and that P6's call changes nothing by what is promised of every such call.
pub bench : AllHold examples
unfolding examples reader_at publisher_at with_reader with_publisher with_readers fresh_words any_below damaged onward looks_from step making tables
bench = (refl, (refl, (refl, (refl, ((refl, p6_same), (refl, (refl, (refl, (refl, (refl, (refl, (refl, (refl, (refl, (refl, tt)))))))))))))))
