-- The order of the old store's refusals, by computation: the examples that name no kind, 31 before 30, and 21 before 31. Assumes nothing.
use Rattle.std.specs.Prelude.{ℕ, ◌≡◌, refl, false, List, [], ◌∷◌}
use Rattle.base.specs.Rows.{any_below, count_below}
use Rattle.calls.specs.declared.Call.TheVariants.{Claim}
use Rattle.calls.specs.declared.Reply.TheVariants.{Made, Claimed, Synced, Refused}
use Rattle.calls.specs.Numbers.{place_claimed}
use Rattle.calls.specs.FirstTable.{tables}
use Rattle.layout.specs.declared.Publisher.{Publisher}
use Rattle.layout.specs.Layout.{indicator, reader_at, publisher_at, with_reader, with_publisher, with_readers, no_publisher, fresh_words}
use Rattle.layout.specs.Records.{◌at_place◌, ◌held≔◌}
use Rattle.statement.specs.Machine.{State}
use Rattle.statement.specs.Examples.{Example, AllHold, given_feathered}
use Rattle.statement.specs.Examples.Example.{shows, each}
use Rattle.statement.specs.Precedence.{fresh_of, with_publisher_as, shared_rows}
use Rattle.publication_law.specs.Table.{damaged, step, making}
use Rattle.two_phase_law.specs.Steps.{rules, TwoPhase, onward, look_at}

-- CLAIM of the current slot, while all are idle and when publisher 0 holds slot 1: 31 before 30.
abbrev pub busy_rows : Example
busy_rows = shows TwoPhase (given_feathered 1 2 3 0) [] (Claim 1 0 ∷ Claim 0 1 ∷ Claim 1 0 ∷ []) (Made ∷ Refused 30 ∷ Claimed 1 ∷ Refused 31 ∷ [])

-- A publisher that has claimed this slot.
abbrev pub claimed : ℕ → Publisher
claimed slot = no_publisher at_place place_claimed held≔ slot

-- An old store of 3 publishers and 4 slots, put together by hand since 31 keeps calls from leading there: publishers 0 and 1 have both claimed.
-- It is not damaged.
abbrev pub one_claimed : State
one_claimed = with_publisher_as (fresh_of TwoPhase (given_feathered 1 3 4 0)) 0 (claimed 1)

abbrev pub both_claimed : State
both_claimed = with_publisher_as one_claimed 1 (claimed 2)

pub both_claimed_undamaged : damaged rules both_claimed ≡ false
unfolding indicator reader_at publisher_at with_reader with_publisher with_readers fresh_words any_below count_below damaged making tables
both_claimed_undamaged = refl

-- CLAIM of the free slot there, by a publisher that has claimed and by the idle one: 21 before 31.
abbrev pub turn_rows : Example
turn_rows = each TwoPhase both_claimed (Claim 0 3 ∷ Claim 2 3 ∷ []) (Refused 21 ∷ Refused 31 ∷ [])

unfoldable pub in_order : List Example
in_order = busy_rows ∷ turn_rows ∷ shared_rows TwoPhase 18446744073709551615 (Synced 0) 3

pub precedence : AllHold in_order
unfolding in_order indicator reader_at publisher_at with_reader with_publisher with_readers fresh_words any_below count_below damaged onward look_at step making tables
precedence = (refl, (refl, (refl, (refl, (refl, (refl, (refl, (refl, (refl, (refl, (refl, (refl, (refl, (refl, (refl, (refl, (refl, (refl, (refl, (refl, (refl, (refl, (refl, (refl, (refl, (refl, (refl, (refl, (refl, (refl, (refl, (refl, (refl, (refl, (refl, (refl, (refl, (refl, (refl, (refl, tt))))))))))))))))))))))))))))))))))))))))
