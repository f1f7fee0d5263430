-- 'Spoiled means' of the old store, clause by clause, by computation: the cases that name no kind, and its own. Assumes nothing.
use Rattle.std.specs.Prelude.{◌≡◌, refl, List, [], ◌∷◌, ◌++◌}
use Rattle.std.proofs.Common.{sym, subst}
use Rattle.base.specs.Rows.{any_below, count_below}
use Rattle.calls.specs.declared.Call.TheVariants.{Enter, Claim}
use Rattle.calls.specs.declared.Reply.TheVariants.{At, Claimed, Refused}
use Rattle.calls.specs.Numbers.{kind_old, not_reading}
use Rattle.calls.specs.FirstTable.{tables}
use Rattle.layout.specs.Layout.{indicator, reader_at, publisher_at, with_reader, with_publisher, with_retirement, with_retired, with_readers, fresh_words}
use Rattle.statement.specs.Machine.{State}
use Rattle.statement.specs.Examples.{AllHold}
use Rattle.statement.specs.Precedence.{fresh_of, small}
use Rattle.statement.specs.DamageCases.{Case, cases_on, cases, spelled, reader_as, publisher_as, walking, shared_cases}
use Rattle.statement.specs.DamageCases.Case.{on}
use Rattle.statement.specs.DamageCases.Change.{indicator_to, reader_to, publisher_to}
use Rattle.publication_law.specs.Table.{damaged, step, making}
use Rattle.two_phase_law.specs.Steps.{TwoPhase, onward, look_at}

-- A place that the kind does not have: 2, 3; and 6 once more, with an indicator that counts that reader, so that the count does not refuse in place of the test.
-- Next is not tested.
abbrev pub own_places : List Case
own_places =
    on (reader_to 0 (reader_as 2 0 0 0 0) ∷ []) (Claim 0 1) (Refused 1)
    ∷ on (reader_to 0 (reader_as 3 0 0 0 0) ∷ []) (Claim 0 1) (Refused 1)
    ∷ on (indicator_to 0 1 ∷ reader_to 0 (reader_as 6 0 0 0 0) ∷ []) (Claim 0 1) (Refused 1)
    ∷ on (publisher_to 0 (publisher_as 37 1 1 1 0 0) ∷ []) (Enter 0) (At 1)
    ∷ []

-- An indicator unlike the number of readers at 4 or 5 that added to it: 1 with no such reader, 0 with one; and as many as there are.
abbrev pub indicators : List Case
indicators =
    on (indicator_to 0 1 ∷ []) (Claim 0 1) (Refused 1)
    ∷ on (indicator_to 1 1 ∷ []) (Claim 0 1) (Refused 1)
    ∷ on (reader_to 0 (reader_as 4 0 0 0 0) ∷ []) (Claim 0 1) (Refused 1)
    ∷ on (reader_to 0 (reader_as 5 1 0 0 0) ∷ []) (Claim 0 1) (Refused 1)
    ∷ on (indicator_to 1 1 ∷ reader_to 0 (reader_as 5 1 0 0 0) ∷ []) (Claim 0 1) (Claimed 1)
    ∷ []

unfoldable pub clauses : List Case
clauses = own_places ++ (indicators ++ (walking 18446744073709551615 (At 1) 36 ++ shared_cases 18446744073709551615 (At 1)))

pub fresh_spelled : fresh_of TwoPhase small ≡ spelled kind_old not_reading
unfolding with_reader with_readers fresh_words any_below making tables
fresh_spelled = refl

on_spelled : AllHold (cases_on TwoPhase (spelled kind_old not_reading) clauses)
unfolding clauses indicator reader_at publisher_at with_reader with_publisher with_retirement with_retired with_readers fresh_words any_below count_below damaged onward look_at step making tables
on_spelled = (refl, (refl, (refl, (refl, (refl, (refl, (refl, (refl, (refl, (refl, (refl, (refl, (refl, (refl, (refl, (refl, (refl, (refl, (refl, (refl, (refl, (refl, (refl, (refl, (refl, (refl, (refl, (refl, (refl, (refl, (refl, (refl, (refl, (refl, (refl, (refl, (refl, (refl, (refl, (refl, (refl, (refl, (refl, (refl, (refl, (refl, (refl, (refl, (refl, (refl, (refl, (refl, tt))))))))))))))))))))))))))))))))))))))))))))))))))))

pub damage_cases : AllHold (cases TwoPhase clauses)
damage_cases = subst (λ (s : State). AllHold (cases_on TwoPhase s clauses)) (sym fresh_spelled) on_spelled
