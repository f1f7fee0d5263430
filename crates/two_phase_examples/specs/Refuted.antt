-- Two-Phase as published, with several publishers, breaks demand 3: document 01's trap as a run. Assumes nothing.
-- `Published` is the old store without 31 and with line 21's break; lines 20, 23 and 28 make no difference in this run.
use Rattle.std.specs.Prelude.{ℕ, ◌≡◌, refl, Bool, true, false, not, ◌&&◌, List, [], ◌∷◌, ◌++◌, pos, ltb, eqb}
use Rattle.std.proofs.Common.{ap, ◌∙◌}
use Rattle.base.specs.Base.{choose}
use Rattle.base.specs.Rows.{any_below, count_below}
use Rattle.calls.specs.declared.Call.{Call}
use Rattle.calls.specs.declared.Call.TheVariants.{Enter, Look, Leave, Claim, Write, Swap, Sync, Raise, Walk, Release, Pick, Checkpoint, Defer}
use Rattle.calls.specs.declared.Reply.TheVariants.{Synced, Raised, Walked}
use Rattle.calls.specs.declared.WalkReply.TheVariants.{Spent, Returned}
use Rattle.calls.specs.Numbers.{place_synchronising, place_raised}
use Rattle.calls.specs.Events.{Event}
use Rattle.calls.specs.Events.Event.{◌⇒◌}
use Rattle.calls.specs.Told.{told_by}
use Rattle.calls.specs.FirstTable.{tables}
use Rattle.layout.specs.Layout.{publishers, version, indicator, reader_at, publisher_at, with_reader, with_publisher, with_readers, fresh_words}
use Rattle.layout.specs.Records.{◌at_place◌}
use Rattle.statement.specs.Machine.{State, Outcome, outcome, Given, Machine, Fresh, events, after_all}
use Rattle.statement.specs.Demand3.{Demand3}
use Rattle.statement.specs.Examples.{lent_for, claim_and_write, publication, given_feathered}
use Rattle.statement.specs.Refute.{some_leave, not_left, events_append}
use Rattle.publication_law.specs.Steps.{publisher, put_publisher}
use Rattle.publication_law.specs.Table.{damaged, step, making}
use Rattle.publication_law.specs.SectionRules.{SectionRules, table_by}
use Rattle.publication_law.specs.Varied.{varied}
use Rattle.two_phase_law.specs.Steps.{onward, looked_at, look_at, fixed}

-- Several publishers: no 31.
several : SectionRules
several = varied fixed false fixed.looks

-- Line 21: while the first indicator is not empty, a walk whose version has become its mark breaks off the first wait; the second one follows.
breaks_off : State → ℕ → Bool
unfolding several
breaks_off s p = not (damaged (table_by several) s) && (ltb p (publishers s.words) && (eqb (publisher s p).place place_synchronising
    && (not (eqb (indicator s.words (looked_at (publisher s p))) 0) && eqb (version s.words) (publisher s p).walk.mark)))

published_step : State → Call → Outcome
unfolding several breaks_off
published_step s (Enter r) = step (table_by several) s (Enter r)
published_step s (Look r k) = step (table_by several) s (Look r k)
published_step s (Leave r) = step (table_by several) s (Leave r)
published_step s (Claim p slot) = step (table_by several) s (Claim p slot)
published_step s (Write p v) = step (table_by several) s (Write p v)
published_step s (Swap p) = step (table_by several) s (Swap p)
published_step s (Sync p) = step (table_by several) s (Sync p)
published_step s (Raise p) = step (table_by several) s (Raise p)
published_step s (Walk p b) = choose (breaks_off s p) (outcome (Walked Spent) (put_publisher s p (publisher s p at_place place_raised))) (step (table_by several) s (Walk p b))
published_step s (Release p) = step (table_by several) s (Release p)
published_step s (Pick r) = step (table_by several) s (Pick r)
published_step s (Checkpoint r) = step (table_by several) s (Checkpoint r)
published_step s (Defer p) = step (table_by several) s (Defer p)

pub Published : Machine
unfolding several breaks_off published_step
Published = record { making = making (table_by several); step = published_step }

-- One reader, two publishers, three slots, version 0.
small : Given
small = given_feathered 1 2 3 0

start : State
unfolding small several
start = (making (table_by several) small (lent_for small)).after

-- V is publisher 0, U publisher 1. The reader loads 0; V publishes at version 0 and at version 1, where it sees indicator 0 empty;
-- the reader arrives there and picks; U swaps ..
before : List Call
before = Enter 0 ∷ (publication 0 1 (pos 100) ++ (Sync 0 ∷ Walk 0 1 ∷ Raise 0 ∷ Walk 0 1 ∷ Release 0 ∷ (publication 0 0 (pos 200) ++ (Sync 0 ∷ Walk 0 1 ∷ (claim_and_write 1 2 (pos 300)
    ++ (Enter 0 ∷ Enter 0 ∷ Swap 1 ∷ []))))))

-- .. and synchronises with mark 2; V raises; U takes line 21's break, finds indicator 1 empty and returns.
trap : List Call
trap = Sync 1 ∷ Raise 0 ∷ Walk 1 1 ∷ Walk 1 1 ∷ []

trapped : List Event
trapped = (Sync 1 ⇒ Synced 2) ∷ (Raise 0 ⇒ Raised) ∷ (Walk 1 1 ⇒ Walked Spent) ∷ (Walk 1 1 ⇒ Walked (Returned 1 0)) ∷ []

trap_events : events Published (after_all Published start before) trap ≡ trapped
unfolding Published published_step breaks_off several start small before trap trapped indicator reader_at publisher_at with_reader with_publisher with_readers fresh_words any_below count_below damaged onward look_at step making tables
trap_events = refl

-- The reader's section is open then ..
reader_inside : (told_by 1 (events Published start before)).inside 0 ≡ true
unfolding Published published_step breaks_off several start small before indicator reader_at publisher_at with_reader with_publisher with_readers fresh_words any_below count_below damaged onward look_at step making tables
reader_inside = refl

start_fresh : Fresh Published start
unfolding Published several start small any_below making tables
start_fresh = record { arguments = small; lent = lent_for small; made = refl }

-- .. and nobody leaves before U returns.
pub published_refuted : Demand3 Published (λ z. z.table) → ⊥
unfolding some_leave trapped start_fresh
published_refuted promise =
    let mid : List Event = (Raise 0 ⇒ Raised) ∷ (Walk 1 1 ⇒ Walked Spent) ∷ [] in
    not_left 0 mid refl
    ((promise start start_fresh (before ++ trap)).returns (events Published start before) mid [] 1 1 1 0 0 (Synced 2)
    (events_append Published start before trap ∙ ap (λ (es : List Event). events Published start before ++ es) trap_events) refl reader_inside)
