-- The order of the rest store's refusals, by computation: the examples that name no kind where it has their calls, and its own. Assumes nothing.
-- Where a call or making but the last gets a number, the next row applies to it too; the one after it differs in one thing, and gets the number of the next.
use Rattle.std.specs.Prelude.{ℕ, refl, List, [], ◌∷◌, ◌++◌, pos, replicate}
use Rattle.base.specs.Rows.{any_below}
use Rattle.calls.specs.declared.Call.TheVariants.{Enter, Leave, Claim, Swap, Sync, Raise, Walk, Release, Pick, Checkpoint, Defer}
use Rattle.calls.specs.declared.Reply.TheVariants.{Made, At, Claimed, Swapped, Refused}
use Rattle.calls.specs.FirstTable.{tables}
use Rattle.layout.specs.declared.Publisher.{Publisher}
use Rattle.layout.specs.declared.Retirement.{Retirement}
use Rattle.layout.specs.Layout.{reader_at, publisher_at, retirement_at, retired_at, with_reader, with_publisher, with_retirement, with_retired, with_readers, fresh_words, no_publisher, no_retirement, no_walk}
use Rattle.layout.specs.Records.{◌at_place◌, ◌held≔◌, ◌walk≔◌, ◌mark≔◌, ◌step≔◌, ◌count≔◌}
use Rattle.statement.specs.Machine.{State, state}
use Rattle.statement.specs.Examples.{Example, AllHold, claim_and_write, given_feathered}
use Rattle.statement.specs.Examples.Example.{shows, makes, each}
use Rattle.statement.specs.Precedence.{fresh_of, with_publisher_as, with_current_as, small, making_rows, table_ends, look_rows, write_rows}
use Rattle.publication_law.specs.Table.{damaged, step, making}
use Rattle.qsbr_law.specs.Steps.{Qsbr, staying}
use Rattle.qsbr_examples.specs.Examples.{deferral}

-- Words and entries lent to a making, all 0.
abbrev lent : ℕ → ℕ → State
lent words entries = state (replicate words 0) (replicate entries (pos 0))

-- The ends of making: 16 participants and 32 slots on 713 words and 1024 entries are made; 33 slots get 4, 714 words get 1, and so do the 425 words of 0.3.0.
-- 65 readers beside 17 publishers: 2 before 3. 64 beside 17 and beside 16, with one slot: 3 before 4.
abbrev pub making_ends : List Example
making_ends =
    makes Qsbr (given_feathered 16 16 32 0) (lent 713 1024) Made
    ∷ makes Qsbr (given_feathered 16 16 33 0) (lent 713 1056) (Refused 4)
    ∷ makes Qsbr (given_feathered 16 16 32 0) (lent 714 1024) (Refused 1)
    ∷ makes Qsbr (given_feathered 16 16 32 0) (lent 425 1024) (Refused 1)
    ∷ makes Qsbr (given_feathered 65 17 1 0) (lent 713 32) (Refused 2)
    ∷ makes Qsbr (given_feathered 64 17 1 0) (lent 713 32) (Refused 3)
    ∷ makes Qsbr (given_feathered 64 16 1 0) (lent 713 32) (Refused 3)
    ∷ makes Qsbr (given_feathered 16 16 1 0) (lent 713 32) (Refused 4)
    ∷ []

-- A current slot beyond the two of a store, and then slot 0: 1 before 10, 1 before 11. A call that the kind lacks gets 1 before these.
abbrev pub damaged_rows : List Example
damaged_rows =
    each Qsbr (with_current_as (fresh_of Qsbr small) 2) (Pick 1 ∷ Checkpoint 1 ∷ Defer 1 ∷ Swap 1 ∷ []) (Refused 1 ∷ Refused 1 ∷ Refused 1 ∷ Refused 1 ∷ [])
    ∷ shows Qsbr small [] (Pick 1 ∷ Checkpoint 1 ∷ Defer 1 ∷ Swap 1 ∷ []) (Made ∷ Refused 10 ∷ Refused 10 ∷ Refused 11 ∷ Refused 11 ∷ [])
    ∷ shows Qsbr small [] (Enter 1 ∷ Leave 1 ∷ Sync 1 ∷ Raise 1 ∷ Walk 1 1 ∷ Release 1 ∷ []) (Made ∷ Refused 1 ∷ Refused 1 ∷ Refused 1 ∷ Refused 1 ∷ Refused 1 ∷ Refused 1 ∷ [])
    ∷ []

-- States put together by hand besides: a participant's retirement.
abbrev pub with_retirement_as : State → ℕ → Retirement → State
with_retirement_as s p t = state (with_retirement s.words p t) s.entries

-- Inside a checkpoint, at 35, and at 34.
abbrev pub inside_one : Retirement
inside_one = no_retirement step≔ 1

abbrev pub deferring : Publisher
deferring = no_publisher at_place 35 held≔ 1 walk≔ (no_walk mark≔ 1)

abbrev pub swapped_out : Publisher
swapped_out = no_publisher at_place 34 held≔ 1

-- Participant 0 of one, and participant 1 beyond it, are both inside a checkpoint, and then both at 35: 10 before 20.
abbrev pub both_inside : State
both_inside = with_retirement_as (with_retirement_as (fresh_of Qsbr small) 0 inside_one) 1 inside_one

abbrev pub both_deferring : State
both_deferring = with_publisher_as (with_publisher_as (fresh_of Qsbr small) 0 deferring) 1 deferring

abbrev pub pick_rows : List Example
pick_rows =
    each Qsbr both_inside (Pick 1 ∷ Pick 0 ∷ []) (Refused 10 ∷ Refused 20 ∷ [])
    ∷ each Qsbr both_deferring (Pick 1 ∷ Pick 0 ∷ Checkpoint 1 ∷ Checkpoint 0 ∷ []) (Refused 10 ∷ Refused 20 ∷ Refused 10 ∷ Refused 20 ∷ [])
    ∷ []

-- SWAP and DEFER at place 0: 11 before 21.
abbrev pub name_rows : Example
name_rows = shows Qsbr small [] (Swap 1 ∷ Swap 0 ∷ Defer 1 ∷ Defer 0 ∷ []) (Made ∷ Refused 11 ∷ Refused 21 ∷ Refused 11 ∷ Refused 21 ∷ [])

-- CLAIM when participant 0 has claimed slot 1: 11 before 12, 12 before 21, 21 before 30.
abbrev pub claim_rows : Example
claim_rows = shows Qsbr (given_feathered 2 2 3 0) (Claim 0 1 ∷ [])
    (Claim 2 3 ∷ Claim 0 3 ∷ Claim 0 1 ∷ Claim 1 1 ∷ Claim 1 2 ∷ [])
    (Made ∷ Refused 11 ∷ Refused 12 ∷ Refused 21 ∷ Refused 30 ∷ Claimed 2 ∷ [])

-- CLAIM of the slot that participant 0 has deferred, by participant 1 at 1 and by participant 0 at 0: 21 before 30.
abbrev pub deferred_rows : Example
deferred_rows = shows Qsbr (given_feathered 2 2 3 0) (deferral 0 1 (pos 100) ++ (Claim 1 2 ∷ [])) (Claim 1 0 ∷ Claim 0 0 ∷ []) (Made ∷ Refused 21 ∷ Refused 30 ∷ [])

-- DEFER at the last epoch, at 33 and at 34, and there inside a checkpoint and outside: 21 before 43.
abbrev pub epoch_rows : Example
epoch_rows = shows Qsbr (given_feathered 1 1 2 18446744073709551615) (claim_and_write 0 1 (pos 100))
    (Defer 0 ∷ Swap 0 ∷ Defer 0 ∷ Checkpoint 0 ∷ Defer 0 ∷ Checkpoint 0 ∷ Checkpoint 0 ∷ Defer 0 ∷ [])
    (Made ∷ Refused 21 ∷ Swapped 0 ∷ Refused 43 ∷ At 1 ∷ Refused 21 ∷ At 2 ∷ At 3 ∷ Refused 43 ∷ [])

-- A store of this epoch, put together by hand: its participant is at 34, at this step of a checkpoint, with so many deferred slots.
abbrev pub deferred_as : ℕ → ℕ → ℕ → State
deferred_as epoch at n = with_retirement_as (with_publisher_as (fresh_of Qsbr (given_feathered 1 1 2 epoch)) 0 swapped_out) 0 (no_retirement step≔ at count≔ n)

-- DEFER there with eight at the last epoch, inside a checkpoint and outside, and at the epoch before: 21 before 43, 43 before 44. With seven it is accepted.
abbrev pub room_rows : List Example
room_rows =
    each Qsbr (deferred_as 18446744073709551615 1 8) (Defer 0 ∷ []) (Refused 21 ∷ [])
    ∷ each Qsbr (deferred_as 18446744073709551615 0 8) (Defer 0 ∷ []) (Refused 43 ∷ [])
    ∷ each Qsbr (deferred_as 18446744073709551614 0 8) (Defer 0 ∷ []) (Refused 44 ∷ [])
    ∷ each Qsbr (deferred_as 18446744073709551614 0 7) (Defer 0 ∷ []) (At 35 ∷ [])
    ∷ []

unfoldable pub in_order : List Example
in_order = making_rows Qsbr 18446744073709551615 ++ (table_ends Qsbr 18446744073709551615 ++ (making_ends ++ (damaged_rows ++ (pick_rows ++ (room_rows ++ (look_rows Qsbr ∷ name_rows ∷ claim_rows ∷ deferred_rows ∷ write_rows Qsbr ∷ epoch_rows ∷ []))))))

pub precedence : AllHold in_order
unfolding in_order reader_at publisher_at retirement_at retired_at with_reader with_publisher with_retirement with_retired with_readers fresh_words any_below damaged staying step making tables
precedence = (refl, (refl, (refl, (refl, (refl, (refl, (refl, (refl, (refl, (refl, (refl, (refl, (refl, (refl, (refl, (refl, (refl, (refl, (refl, (refl, (refl, (refl, (refl, (refl, (refl, (refl, (refl, (refl, (refl, (refl, (refl, (refl, (refl, (refl, (refl, (refl, (refl, (refl, (refl, (refl, (refl, (refl, (refl, (refl, tt))))))))))))))))))))))))))))))))))))))))))))
