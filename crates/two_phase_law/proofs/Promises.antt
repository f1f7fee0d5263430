-- The theorems about the old store. Assumes nothing.
use Rattle.std.specs.Prelude.{ℕ, ◌-◌, ◌*◌, ◌%◌, ◌≤◌, ◌≡◌, refl, ◌≢◌, true, false, not, length, leb, eqb}
use Rattle.std.proofs.Common.{arith, le-ltb}
use Rattle.base.specs.Rows.{first_of, outside}
use Rattle.base.specs.RowLaws.{choose_split}
use Rattle.calls.specs.declared.Call.TheVariants.{Sync, Walk}
use Rattle.calls.specs.declared.Reply.TheVariants.{Made, Walked, Refused}
use Rattle.calls.specs.declared.WalkReply.TheVariants.{Spent}
use Rattle.calls.specs.Numbers.{readers_max, publishers_max, slots_min, slots_max, table_length, number_max, kind_old, place_swapped, place_synchronising, place_raised, bad_version_number, version_is_last_number}
use Rattle.calls.specs.FirstTable.{any_out_of_range, any_steep}
use Rattle.calls.specs.Events.{accepted}
use Rattle.layout.specs.declared.Publisher.{Publisher}
use Rattle.layout.specs.Layout.{words_length, publishers, indicator}
use Rattle.statement.specs.Machine.{State, Outcome, outcome, Given}
use Rattle.statement.specs.Demand3.{Demand3}
use Rattle.publication_law.specs.Steps.{publisher, making_tests, made}
use Rattle.publication_law.specs.Table.{damaged, rows, step, making}
use Rattle.publication_law.proofs.Calls.{undamaged_facts}
use Rattle.publication_law.specs.Decide.{decided}
use Rattle.publication_law.specs.Promises.{Promises, WalkFacts}
use Rattle.publication_law.proofs.Promises.{promises_of, walk_facts}
use Rattle.two_phase_law.specs.Steps.{versions, looked_at, looks_of, fresh_reader, fixed, rules, TwoPhase}
use Rattle.two_phase_law.specs.Traits.{traits}
use Rattle.two_phase_law.specs.Counts.{LookFacts, walk_places, look_facts}
use Rattle.two_phase_law.proofs.Safety.{kind_shows}

pub old_promises : Promises rules traits
old_promises = promises_of fixed traits kind_shows

pub old_demand3 : Demand3 TwoPhase (λ z. z.table)
old_demand3 = old_promises.every.demand3

pub old_walk_zero : (s : State) (p : ℕ) → (step rules s (Walk p 0)).reply ≡ Walked Spent → (step rules s (Walk p 0)).after ≡ s
old_walk_zero = old_promises.walk_zero

-- An accepted WALK says waiting, spent, quiet and returned of the look made.
pub old_walk_facts : (s : State) (p b : ℕ) → accepted (step rules s (Walk p b)).reply ≡ true
    → let result = looks_of s (publisher s p) b in WalkFacts s p result (LookFacts (indicator s.words (looked_at (publisher s p))) (publisher s p) b result) (step rules s (Walk p b))
old_walk_facts s p b = walk_facts fixed s p b _ (λ no_damage lt turn. look_facts (indicator s.words (looked_at (publisher s p))) (publisher s p) b (walk_places (publisher s p).place turn))

-- 32 is not given, for every state: a version above 2^64 - 1, which no word holds, damages the store. Nor is 6 given, for every making with a first version of 64 bits.
pub old_sync_not_32 : (s : State) (p : ℕ) → (step rules s (Sync p)).reply ≢ Refused version_is_last_number
unfolding step
old_sync_not_32 s p = decided (λ (o : Outcome). o.reply ≢ Refused version_is_last_number) (rows rules s (Sync p)) (rules.act s (Sync p)) s refl
    (λ _ e. absurd (let d : ◌≡◌ {A = ℕ} 0 1 = cc in omega arith))
    (λ e. not_32 (let is : first_of (rows rules s (Sync p)) ≡ version_is_last_number = cc in is))
  where
    not_32 : first_of (rows rules s (Sync p)) ≢ version_is_last_number
    not_32 = choose_split (λ (n : ℕ). n ≢ version_is_last_number) (damaged rules s) (λ _ e. omega arith)
        (λ sound. rw (undamaged_facts rules s sound).head.version_fits
        (choose_split (λ (n : ℕ). n ≢ version_is_last_number) (leb (publishers s.words) p) (λ _ e. omega arith)
        (λ _. choose_split (λ (n : ℕ). n ≢ version_is_last_number) (not (eqb (publisher s p).place place_swapped)) (λ _ e. omega arith) (λ _ e. omega arith))))

pub old_making_not_6 : (z : Given) (s : State) → z.version ≤ number_max → (making rules z s).reply ≢ Refused bad_version_number
unfolding making
old_making_not_6 z s low = decided (λ (o : Outcome). o.reply ≢ Refused bad_version_number) (making_tests false versions z s) (outcome Made (made kind_old fresh_reader z s)) s refl
    (λ _ e. absurd (let d : ◌≡◌ {A = ℕ} 0 1 = cc in omega arith))
    (λ e. not_6 (let is : first_of (making_tests false versions z s) ≡ bad_version_number = cc in is))
  where
    not_6 : first_of (making_tests false versions z s) ≢ bad_version_number
    not_6 = rw (le-ltb number_max z.version low)
        (choose_split (λ (n : ℕ). n ≢ bad_version_number) (not (eqb (length s.words) words_length)) (λ _ e. omega arith)
        (λ _. choose_split (λ (n : ℕ). n ≢ bad_version_number) (outside 1 readers_max z.readers) (λ _ e. omega arith)
        (λ _. choose_split (λ (n : ℕ). n ≢ bad_version_number) (outside 1 publishers_max z.publishers) (λ _ e. omega arith)
        (λ _. choose_split (λ (n : ℕ). n ≢ bad_version_number) (outside slots_min slots_max z.slots) (λ _ e. omega arith)
        (λ _. choose_split (λ (n : ℕ). n ≢ bad_version_number) (not (eqb (length s.entries) (z.slots * table_length))) (λ _ e. omega arith)
        (λ _. choose_split (λ (n : ℕ). n ≢ bad_version_number) (not (eqb (length z.table) table_length)) (λ _ e. omega arith)
        (λ _. choose_split (λ (n : ℕ). n ≢ bad_version_number) (any_out_of_range z.table) (λ _ e. omega arith)
        (λ _. choose_split (λ (n : ℕ). n ≢ bad_version_number) (any_steep z.table) (λ _ e. omega arith) (λ _ e. omega arith)))))))))

-- A look is at the indicator of the mark's own parity at 35, and at the other one at 37.
pub old_looks_first : (y : Publisher) → y.place ≡ place_synchronising → looked_at y ≡ y.walk.mark % 2
old_looks_first y e = rw e refl

pub old_looks_second : (y : Publisher) → y.place ≡ place_raised → looked_at y ≡ 1 - y.walk.mark % 2
old_looks_second y e = rw e refl
