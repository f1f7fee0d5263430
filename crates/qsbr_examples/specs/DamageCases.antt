-- 'Spoiled means' of the rest store, clause by clause, by computation: what is changed by hand in a fresh store, one call there, and its reply. Assumes nothing.
-- Most calls are PICK 0 and CLAIM 0 1, which the fresh store accepts; one that gets 20 or 21, and not 1, shows too that a state is not damaged. Each state here that gets 1 is damaged by one clause alone, but for no participants;
-- beside each clause stands a near state that is not damaged.
use Rattle.std.specs.Prelude.{ℕ, ◌≡◌, refl, List, [], ◌∷◌, ◌++◌}
use Rattle.std.proofs.Common.{sym, subst}
use Rattle.base.specs.Rows.{any_below}
use Rattle.calls.specs.declared.Call.TheVariants.{Claim, Pick, Checkpoint, Defer}
use Rattle.calls.specs.declared.Reply.TheVariants.{At, Claimed, Picked, Refused}
use Rattle.calls.specs.Numbers.{kind_rest}
use Rattle.calls.specs.FirstTable.{tables}
use Rattle.layout.specs.Layout.{reader_at, publisher_at, retirement_at, retired_at, with_reader, with_publisher, with_retirement, with_retired, with_readers, fresh_words}
use Rattle.statement.specs.Machine.{State}
use Rattle.statement.specs.Examples.{AllHold}
use Rattle.statement.specs.Precedence.{fresh_of, small}
use Rattle.statement.specs.DamageCases.{Change, Case, cases_on, cases, spelled, reader_as, publisher_as, retirement_as, retired_as}
use Rattle.statement.specs.DamageCases.Case.{on}
use Rattle.statement.specs.DamageCases.Change.{readers_to, publishers_to, slots_to, current_to, version_to, releases_to, indicator_to, entries_to, reader_to, publisher_to, retirement_to, retired_to}
use Rattle.publication_law.specs.Table.{damaged, step, making}
use Rattle.qsbr_law.specs.Steps.{Qsbr, staying}

-- As many participants, as readers and as publishers.
abbrev participants_to : ℕ → List Change → List Change
participants_to n ds = readers_to n ∷ publishers_to n ∷ ds

-- Readers and publishers unequal, each in its range; two of both are good. A size outside the making rules: no participants and 17, 1 slot and 33; the largest sizes.
abbrev pub sizes : List Case
sizes =
    on (readers_to 2 ∷ []) (Claim 0 1) (Refused 1)
    ∷ on (publishers_to 2 ∷ []) (Pick 0) (Refused 1)
    ∷ on (participants_to 2 []) (Claim 0 1) (Claimed 1)
    ∷ on (participants_to 0 []) (Claim 0 1) (Refused 1)
    ∷ on (participants_to 17 []) (Pick 0) (Refused 1)
    ∷ on (slots_to 1 ∷ entries_to 32 ∷ []) (Pick 0) (Refused 1)
    ∷ on (slots_to 33 ∷ entries_to 1056 ∷ []) (Pick 0) (Refused 1)
    ∷ on (participants_to 16 (slots_to 32 ∷ entries_to 1024 ∷ [])) (Pick 0) (Picked 0)
    ∷ []

-- A wrong entries' length; current slot or version too large (2^64, which no word holds); the last slot and the last version. Releases and indicators are not tested.
abbrev pub head_numbers : List Case
head_numbers =
    on (entries_to 63 ∷ []) (Pick 0) (Refused 1)
    ∷ on (entries_to 65 ∷ []) (Pick 0) (Refused 1)
    ∷ on (current_to 2 ∷ []) (Pick 0) (Refused 1)
    ∷ on (version_to 18446744073709551616 ∷ []) (Pick 0) (Refused 1)
    ∷ on (current_to 1 ∷ version_to 18446744073709551615 ∷ []) (Pick 0) (Picked 1)
    ∷ on (releases_to 18446744073709551615 ∷ indicator_to 0 1 ∷ indicator_to 1 1 ∷ []) (Pick 0) (Picked 0)
    ∷ []

-- A reader's place other than 0 and 5. A picked slot too large at 5; the last slot, and the number at 0. Loaded, least and observed epochs are not tested.
abbrev pub reader_cases : List Case
reader_cases =
    on (reader_to 0 (reader_as 1 0 0 0 0) ∷ []) (Claim 0 1) (Refused 1)
    ∷ on (reader_to 0 (reader_as 4 0 0 0 0) ∷ []) (Claim 0 1) (Refused 1)
    ∷ on (reader_to 0 (reader_as 6 0 0 0 0) ∷ []) (Claim 0 1) (Refused 1)
    ∷ on (reader_to 0 (reader_as 5 0 0 0 2) ∷ []) (Claim 0 1) (Refused 1)
    ∷ on (reader_to 0 (reader_as 5 0 0 0 1) ∷ []) (Claim 0 1) (Claimed 1)
    ∷ on (reader_to 0 (reader_as 0 0 0 0 2) ∷ []) (Claim 0 1) (Claimed 1)
    ∷ on (reader_to 0 (reader_as 0 18446744073709551615 18446744073709551615 18446744073709551615 0) ∷ []) (Claim 0 1) (Claimed 1)
    ∷ []

-- A publisher's place above 35. A held slot too large at a place other than 0; the number at 0. At 35 a mark of 0 or above the last (2^64), or waits above looks;
-- the last mark with as many waits as looks. At 34 neither is tested, and next never.
abbrev pub publisher_cases : List Case
publisher_cases =
    on (publisher_to 0 (publisher_as 36 1 1 0 0 0) ∷ []) (Pick 0) (Refused 1)
    ∷ on (publisher_to 0 (publisher_as 38 1 1 0 0 0) ∷ []) (Pick 0) (Refused 1)
    ∷ on (publisher_to 0 (publisher_as 1 2 0 0 0 0) ∷ []) (Pick 0) (Refused 1)
    ∷ on (publisher_to 0 (publisher_as 35 2 1 0 0 0) ∷ []) (Pick 0) (Refused 1)
    ∷ on (publisher_to 0 (publisher_as 0 2 0 0 0 0) ∷ []) (Pick 0) (Picked 0)
    ∷ on (publisher_to 0 (publisher_as 35 1 0 0 0 0) ∷ []) (Pick 0) (Refused 1)
    ∷ on (publisher_to 0 (publisher_as 35 1 18446744073709551616 0 0 0) ∷ []) (Pick 0) (Refused 1)
    ∷ on (publisher_to 0 (publisher_as 35 1 1 0 4 5) ∷ []) (Pick 0) (Refused 1)
    ∷ on (publisher_to 0 (publisher_as 35 1 18446744073709551615 9 5 5) ∷ []) (Pick 0) (Refused 20)
    ∷ on (publisher_to 0 (publisher_as 34 1 0 9 4 5) ∷ []) (Pick 0) (Picked 0)
    ∷ []

-- Step n + 1 is good and n + 2 is not, of one participant and of the second of two.
abbrev pub step_cases : List Case
step_cases =
    on (retirement_to 0 (retirement_as 2 0) ∷ []) (Claim 0 1) (Claimed 1)
    ∷ on (retirement_to 0 (retirement_as 3 0) ∷ []) (Claim 0 1) (Refused 1)
    ∷ on (participants_to 2 (retirement_to 1 (retirement_as 3 0) ∷ [])) (Claim 0 1) (Claimed 1)
    ∷ on (participants_to 2 (retirement_to 1 (retirement_as 4 0) ∷ [])) (Claim 0 1) (Refused 1)
    ∷ []

-- Eight deferred are good, nine are not; eight at 34 are good, at 35 seven are good and eight are not.
abbrev pub count_cases : List Case
count_cases =
    on (retirement_to 0 (retirement_as 0 8) ∷ []) (Claim 0 1) (Claimed 1)
    ∷ on (retirement_to 0 (retirement_as 0 9) ∷ []) (Claim 0 1) (Refused 1)
    ∷ on (publisher_to 0 (publisher_as 34 1 0 0 0 0) ∷ retirement_to 0 (retirement_as 0 8) ∷ []) (Pick 0) (Picked 0)
    ∷ on (publisher_to 0 (publisher_as 35 1 1 0 0 0) ∷ retirement_to 0 (retirement_as 0 7) ∷ []) (Pick 0) (Refused 20)
    ∷ on (publisher_to 0 (publisher_as 35 1 1 0 0 0) ∷ retirement_to 0 (retirement_as 0 8) ∷ []) (Pick 0) (Refused 1)
    ∷ []

-- A pick inside a checkpoint, and 35 inside one, are good: no paper has them as spoiled. There PICK gets 20 and CHECKPOINT goes on; at 35 CHECKPOINT gets 20 and DEFER 21.
abbrev pub inside_cases : List Case
inside_cases =
    on (reader_to 0 (reader_as 5 0 0 0 0) ∷ retirement_to 0 (retirement_as 1 0) ∷ []) (Pick 0) (Refused 20)
    ∷ on (reader_to 0 (reader_as 5 0 0 0 0) ∷ retirement_to 0 (retirement_as 1 0) ∷ []) (Checkpoint 0) (At 2)
    ∷ on (publisher_to 0 (publisher_as 35 1 1 0 0 0) ∷ retirement_to 0 (retirement_as 1 0) ∷ []) (Checkpoint 0) (Refused 20)
    ∷ on (publisher_to 0 (publisher_as 35 1 1 0 0 0) ∷ retirement_to 0 (retirement_as 1 0) ∷ []) (Defer 0) (Refused 21)
    ∷ []

-- A deferred slot not below slots, the first and the last of eight; the last slot; the pair behind the count, which is not tested. Marks of pairs are not tested.
abbrev pub deferred_cases : List Case
deferred_cases =
    on (retired_to 0 0 (retired_as 2 1) ∷ retirement_to 0 (retirement_as 0 1) ∷ []) (Pick 0) (Refused 1)
    ∷ on (retired_to 0 0 (retired_as 1 1) ∷ retirement_to 0 (retirement_as 0 1) ∷ []) (Pick 0) (Picked 0)
    ∷ on (retired_to 0 7 (retired_as 2 1) ∷ retirement_to 0 (retirement_as 0 8) ∷ []) (Pick 0) (Refused 1)
    ∷ on (retired_to 0 7 (retired_as 2 1) ∷ retirement_to 0 (retirement_as 0 7) ∷ []) (Pick 0) (Picked 0)
    ∷ on (retired_to 0 0 (retired_as 1 0) ∷ retired_to 0 1 (retired_as 1 18446744073709551615) ∷ retirement_to 0 (retirement_as 0 2) ∷ []) (Pick 0) (Picked 0)
    ∷ []

-- Numbers of participants beyond the sizes are not tested: of participant 1 a reader's place and picked slot, a publisher's place and held slot, a step and a count, a pair.
abbrev pub beyond : List Case
beyond =
    on (reader_to 1 (reader_as 6 0 0 0 0) ∷ []) (Claim 0 1) (Claimed 1)
    ∷ on (reader_to 1 (reader_as 5 0 0 0 2) ∷ []) (Claim 0 1) (Claimed 1)
    ∷ on (publisher_to 1 (publisher_as 36 2 0 0 4 5) ∷ []) (Pick 0) (Picked 0)
    ∷ on (retirement_to 1 (retirement_as 9 9) ∷ []) (Claim 0 1) (Claimed 1)
    ∷ on (retired_to 1 0 (retired_as 2 0) ∷ retirement_to 1 (retirement_as 0 1) ∷ []) (Claim 0 1) (Claimed 1)
    ∷ []

unfoldable pub clauses : List Case
clauses = sizes ++ (head_numbers ++ (reader_cases ++ (publisher_cases ++ (step_cases ++ (count_cases ++ (inside_cases ++ (deferred_cases ++ beyond)))))))

-- Everybody has observed the first version, 0.
pub fresh_spelled : fresh_of Qsbr small ≡ spelled kind_rest 0
unfolding with_reader with_readers fresh_words any_below making tables
fresh_spelled = refl

on_spelled : AllHold (cases_on Qsbr (spelled kind_rest 0) clauses)
unfolding clauses reader_at publisher_at retirement_at retired_at with_reader with_publisher with_retirement with_retired with_readers fresh_words any_below damaged staying step making tables
on_spelled = (refl, (refl, (refl, (refl, (refl, (refl, (refl, (refl, (refl, (refl, (refl, (refl, (refl, (refl, (refl, (refl, (refl, (refl, (refl, (refl, (refl, (refl, (refl, (refl, (refl, (refl, (refl, (refl, (refl, (refl, (refl, (refl, (refl, (refl, (refl, (refl, (refl, (refl, (refl, (refl, (refl, (refl, (refl, (refl, (refl, (refl, (refl, (refl, (refl, (refl, (refl, (refl, (refl, (refl, tt))))))))))))))))))))))))))))))))))))))))))))))))))))))

pub damage_cases : AllHold (cases Qsbr clauses)
damage_cases = subst (λ (s : State). AllHold (cases_on Qsbr s clauses)) (sym fresh_spelled) on_spelled
