-- The order of the refusals, by examples that name no kind. Where a call or making but the last gets a number, the next row of document 01's table applies to it too:
-- the one after it differs in one thing, so that the first row no longer applies, and gets the number of the next.
-- `table_ends`, `making_ends`, `enter_rows` and the last of `walk_rows` are not about the order: they show where a number begins.
use Rattle.std.specs.Prelude.{ℕ, zero, suc, ◌+◌, List, [], ◌∷◌, ◌++◌, ℤ, pos, neg_ℤ, replicate}
use Rattle.calls.specs.declared.Call.TheVariants.{Enter, Look, Leave, Claim, Write, Swap, Sync, Raise, Walk, Release}
use Rattle.calls.specs.declared.Reply.{Reply}
use Rattle.calls.specs.declared.Reply.TheVariants.{Made, Swapped, Walked, Freed, Refused}
use Rattle.calls.specs.declared.WalkReply.TheVariants.{Spent, Returned}
use Rattle.layout.specs.declared.Publisher.{Publisher}
use Rattle.layout.specs.Layout.{words_length, with_current, with_publisher, no_publisher, no_walk}
use Rattle.layout.specs.Records.{◌at_place◌, ◌held≔◌, ◌walk≔◌, ◌mark≔◌, ◌looks≔◌}
use Rattle.statement.specs.Machine.{State, state, Given, given, Machine}
use Rattle.statement.specs.Examples.{Example, given_feathered, lent_for, enters, claim_and_write}
use Rattle.statement.specs.Examples.Example.{shows, makes, each}

-- Words and entries lent to a making, all 0.
abbrev lent : ℕ → ℕ → State
lent words entries = state (replicate words 0) (replicate entries (pos 0))

-- A first table: v, and n times v' after it.
abbrev then_all : ℤ → ℤ → ℕ → List ℤ
then_all v v' n = v ∷ replicate n v'

-- Making: 1 before 2, 2 before 3, 3 before 4, 4 before 5, 5 before 6, 6 before 40, 40 before 41, 41 before 42.
-- At first nothing is as it must be: words, readers, publishers, slots, entries, version, and a table of 31 entries with one out of range and far from its neighbour.
abbrev pub making_rows : Machine → ℕ → List Example
making_rows M greatest =
    let short = then_all (pos 95001) (pos 0) 30 in
    makes M (given 0 0 1 (greatest + 1) short) (lent 712 31) (Refused 1)
    ∷ makes M (given 0 0 1 (greatest + 1) short) (lent words_length 31) (Refused 2)
    ∷ makes M (given 1 0 1 (greatest + 1) short) (lent words_length 31) (Refused 3)
    ∷ makes M (given 1 1 1 (greatest + 1) short) (lent words_length 31) (Refused 4)
    ∷ makes M (given 1 1 2 (greatest + 1) short) (lent words_length 31) (Refused 5)
    ∷ makes M (given 1 1 2 (greatest + 1) short) (lent words_length 64) (Refused 6)
    ∷ makes M (given 1 1 2 greatest short) (lent words_length 64) (Refused 40)
    ∷ makes M (given 1 1 2 greatest (then_all (pos 95001) (pos 0) 31)) (lent words_length 64) (Refused 41)
    ∷ makes M (given 1 1 2 greatest (then_all (pos 95000) (pos 0) 31)) (lent words_length 64) (Refused 42)
    ∷ makes M (given 1 1 2 greatest (then_all (pos 15000) (pos 0) 31)) (lent words_length 64) Made
    ∷ []

-- A first table of n pairs v, v'; and one of n entries from v up by steps.
abbrev pairs : ℕ → ℤ → ℤ → List ℤ
pairs zero v v' = []
pairs (suc n) v v' = v ∷ v' ∷ pairs n v v'

abbrev ramp : ℕ → ℕ → ℕ → List ℤ
ramp zero v by = []
ramp (suc n) v by = pos v ∷ ramp n (v + by) by

-- The ends of a first table. No entries get 40, and 33; with a first version above the greatest they get 6. -5001 as the last entry and 95001 as entry 16 get 41.
-- Steps of 15000 are made, up and down; 15001 gets 42, up between entries 15 and 16 and down at the last pair. Entries 31 and 0 are no neighbours.
abbrev pub table_ends : Machine → ℕ → List Example
table_ends M greatest =
    makes M (given 1 1 2 greatest []) (lent words_length 64) (Refused 40)
    ∷ makes M (given 1 1 2 greatest (replicate 33 (pos 0))) (lent words_length 64) (Refused 40)
    ∷ makes M (given 1 1 2 (greatest + 1) []) (lent words_length 64) (Refused 6)
    ∷ makes M (given 1 1 2 greatest (replicate 31 (neg_ℤ (pos 5000)) ++ (neg_ℤ (pos 5001) ∷ []))) (lent words_length 64) (Refused 41)
    ∷ makes M (given 1 1 2 greatest (replicate 16 (pos 95000) ++ then_all (pos 95001) (pos 95000) 15)) (lent words_length 64) (Refused 41)
    ∷ makes M (given 1 1 2 greatest (replicate 32 (neg_ℤ (pos 5000)))) (lent words_length 64) Made
    ∷ makes M (given 1 1 2 greatest (replicate 32 (pos 95000))) (lent words_length 64) Made
    ∷ makes M (given 1 1 2 greatest (pairs 16 (neg_ℤ (pos 5000)) (pos 10000))) (lent words_length 64) Made
    ∷ makes M (given 1 1 2 greatest (replicate 16 (neg_ℤ (pos 5000)) ++ replicate 16 (pos 10001))) (lent words_length 64) (Refused 42)
    ∷ makes M (given 1 1 2 greatest (replicate 31 (pos 15001) ++ (pos 0 ∷ []))) (lent words_length 64) (Refused 42)
    ∷ makes M (given 1 1 2 greatest (ramp 32 0 3000)) (lent words_length 64) Made
    ∷ []

-- The ends of making: 64 readers, 16 publishers and 32 slots on 713 words and 1024 entries are made; one more of each gets 2, 3, 4 and 1; the 425 words of 0.3.0 get 1.
abbrev pub making_ends : Machine → List Example
making_ends M =
    makes M (given_feathered 64 16 32 0) (lent 713 1024) Made
    ∷ makes M (given_feathered 65 16 32 0) (lent 713 1024) (Refused 2)
    ∷ makes M (given_feathered 64 17 32 0) (lent 713 1024) (Refused 3)
    ∷ makes M (given_feathered 64 16 33 0) (lent 713 1056) (Refused 4)
    ∷ makes M (given_feathered 64 16 32 0) (lent 714 1024) (Refused 1)
    ∷ makes M (given_feathered 64 16 32 0) (lent 425 1024) (Refused 1)
    ∷ []

-- The calls that are not allowed at place 0 and have no second argument to test, on a fresh store: 10 before 20, 11 before 21, a pair for each call.
abbrev pub name_rows : Machine → Example
name_rows M = shows M (given_feathered 1 1 2 0) []
    (Leave 1 ∷ Leave 0 ∷ Swap 1 ∷ Swap 0 ∷ Sync 1 ∷ Sync 0 ∷ Raise 1 ∷ Raise 0 ∷ Walk 1 1 ∷ Walk 0 1 ∷ Release 1 ∷ Release 0 ∷ [])
    (Made ∷ Refused 10 ∷ Refused 20 ∷ Refused 11 ∷ Refused 21 ∷ Refused 11 ∷ Refused 21 ∷ Refused 11 ∷ Refused 21 ∷ Refused 11 ∷ Refused 21 ∷ Refused 11 ∷ Refused 21 ∷ [])

-- ENTER of a reader beyond the store's: 10; and at place 5, to which n ENTERs lead: 20.
abbrev pub enter_rows : Machine → ℕ → Example
enter_rows M n = shows M (given_feathered 1 1 2 0) (enters n 0) (Enter 1 ∷ Enter 0 ∷ []) (Made ∷ Refused 10 ∷ Refused 20 ∷ [])

-- LOOK at place 0: 10 before 13, 13 before 20.
abbrev pub look_rows : Machine → Example
look_rows M = shows M (given_feathered 1 1 2 0) [] (Look 1 32 ∷ Look 0 32 ∷ Look 0 31 ∷ []) (Made ∷ Refused 10 ∷ Refused 13 ∷ Refused 20 ∷ [])

-- CLAIM when publisher 0 holds slot 1: 11 before 12, 12 before 21.
abbrev pub claim_rows : Machine → Example
claim_rows M = shows M (given_feathered 1 2 3 0) (Claim 0 1 ∷ []) (Claim 2 3 ∷ Claim 0 3 ∷ Claim 0 2 ∷ []) (Made ∷ Refused 11 ∷ Refused 12 ∷ Refused 21 ∷ [])

-- WRITE at place 0: 11 before 14, 14 before 21.
abbrev pub write_rows : Machine → Example
write_rows M = shows M (given_feathered 1 1 2 0) []
    (Write 1 (pos 95001) ∷ Write 0 (pos 95001) ∷ Write 0 (pos 95000) ∷ [])
    (Made ∷ Refused 11 ∷ Refused 14 ∷ Refused 21 ∷ [])

-- SYNC at the greatest version, at place 33 and at 34: 21 before 32, or before it is synced.
abbrev pub sync_rows : Machine → ℕ → Reply → Example
sync_rows M greatest atGreatest = shows M (given_feathered 1 1 2 greatest) (claim_and_write 0 1 (pos 100)) (Sync 0 ∷ Swap 0 ∷ Sync 0 ∷ []) (Made ∷ Refused 21 ∷ Swapped 0 ∷ atGreatest ∷ [])

-- States put together by hand: a fresh store, and what is changed in it.
abbrev pub fresh_of : Machine → Given → State
fresh_of M z = (M.making z (lent_for z)).after

abbrev pub with_publisher_as : State → ℕ → Publisher → State
with_publisher_as s p y = state (with_publisher s.words p y) s.entries

abbrev pub with_current_as : State → ℕ → State
with_current_as s slot = state (with_current s.words slot) s.entries

abbrev pub small : Given
small = given_feathered 1 1 2 0

-- A current slot beyond the two of a store, and then slot 0: 1 before 10, 1 before 11.
abbrev pub damaged_rows : Machine → List Example
damaged_rows M =
    each M (with_current_as (fresh_of M small) 2) (Enter 1 ∷ Swap 1 ∷ []) (Refused 1 ∷ Refused 1 ∷ [])
    ∷ shows M small [] (Enter 1 ∷ Swap 1 ∷ []) (Made ∷ Refused 10 ∷ Refused 11 ∷ [])
    ∷ []

-- WALK of a publisher that has made 2^64 - 1 looks, at place 38 and at 37: 21 before 33. Neither store is damaged: a RELEASE and a WALK 0 are accepted.
-- With 2^64 - 2 looks made a WALK 2 gets 33, and a WALK 1 is accepted.
abbrev pub looked : ℕ → ℕ → Publisher
looked place looks = no_publisher at_place place held≔ 1 walk≔ (no_walk mark≔ 1 looks≔ looks)

abbrev pub walk_rows : Machine → List Example
walk_rows M =
    each M (with_publisher_as (fresh_of M small) 0 (looked 38 18446744073709551615)) (Walk 0 1 ∷ Release 0 ∷ []) (Refused 21 ∷ Freed 1 1 ∷ [])
    ∷ each M (with_publisher_as (fresh_of M small) 0 (looked 37 18446744073709551615)) (Walk 0 1 ∷ Walk 0 0 ∷ []) (Refused 33 ∷ Walked Spent ∷ [])
    ∷ each M (with_publisher_as (fresh_of M small) 0 (looked 37 18446744073709551614)) (Walk 0 2 ∷ Walk 0 1 ∷ []) (Refused 33 ∷ Walked (Returned 18446744073709551615 0) ∷ [])
    ∷ []

-- All of them, of a kind with this greatest version, this reply to a SYNC at it and so many ENTERs to place 5.
abbrev pub shared_rows : Machine → ℕ → Reply → ℕ → List Example
shared_rows M greatest atGreatest n =
    making_rows M greatest ++ (table_ends M greatest ++ (making_ends M ++ (damaged_rows M ++ (walk_rows M ++ (look_rows M ∷ claim_rows M ∷ write_rows M ∷ sync_rows M greatest atGreatest ∷ name_rows M ∷ enter_rows M n ∷ [])))))
