-- 'Spoiled means' of the new store, clause by clause, by computation: the cases that name no kind, and its own. Assumes nothing.
use Rattle.std.specs.Prelude.{◌≡◌, refl, List, [], ◌∷◌, ◌++◌}
use Rattle.std.proofs.Common.{sym, subst}
use Rattle.base.specs.Rows.{any_below}
use Rattle.calls.specs.declared.Call.TheVariants.{Enter, Claim}
use Rattle.calls.specs.declared.Reply.TheVariants.{At, Refused}
use Rattle.calls.specs.Numbers.{kind_new, not_reading}
use Rattle.calls.specs.FirstTable.{tables}
use Rattle.layout.specs.Layout.{reader_at, publisher_at, with_reader, with_publisher, with_retirement, with_retired, with_readers, fresh_words}
use Rattle.statement.specs.Machine.{State}
use Rattle.statement.specs.Examples.{AllHold}
use Rattle.statement.specs.Precedence.{fresh_of, small}
use Rattle.statement.specs.DamageCases.{Case, cases_on, cases, spelled, reader_as, publisher_as, shared_cases}
use Rattle.statement.specs.DamageCases.Case.{on}
use Rattle.statement.specs.DamageCases.Change.{reader_to, publisher_to}
use Rattle.publication_law.specs.Table.{damaged, step, making}
use Rattle.grace_version_law.specs.Steps.{GraceVersion, onward, looks_from}

-- A place that the kind does not have: 36. At 35 or 37 next not below readers; at 38 it is not tested.
-- At 2 or 3 a published version unlike the first loaded.
abbrev pub kind_cases : List Case
kind_cases =
    on (publisher_to 0 (publisher_as 36 1 1 0 0 0) ∷ []) (Enter 0) (Refused 1)
    ∷ on (publisher_to 0 (publisher_as 35 1 1 1 0 0) ∷ []) (Enter 0) (Refused 1)
    ∷ on (publisher_to 0 (publisher_as 37 1 1 1 0 0) ∷ []) (Enter 0) (Refused 1)
    ∷ on (publisher_to 0 (publisher_as 38 1 1 1 0 0) ∷ []) (Enter 0) (At 1)
    ∷ on (reader_to 0 (reader_as 2 0 0 1 0) ∷ []) (Claim 0 1) (Refused 1)
    ∷ on (reader_to 0 (reader_as 3 0 0 1 0) ∷ []) (Claim 0 1) (Refused 1)
    ∷ []

unfoldable pub clauses : List Case
clauses = kind_cases ++ shared_cases 18446744073709551614 (Refused 1)

pub fresh_spelled : fresh_of GraceVersion small ≡ spelled kind_new not_reading
unfolding with_reader with_readers fresh_words any_below making tables
fresh_spelled = refl

on_spelled : AllHold (cases_on GraceVersion (spelled kind_new not_reading) clauses)
unfolding clauses reader_at publisher_at with_reader with_publisher with_retirement with_retired with_readers fresh_words any_below damaged onward looks_from step making tables
on_spelled = (refl, (refl, (refl, (refl, (refl, (refl, (refl, (refl, (refl, (refl, (refl, (refl, (refl, (refl, (refl, (refl, (refl, (refl, (refl, (refl, (refl, (refl, (refl, (refl, (refl, (refl, (refl, (refl, (refl, (refl, (refl, (refl, (refl, (refl, (refl, (refl, (refl, (refl, (refl, (refl, (refl, (refl, (refl, (refl, (refl, tt)))))))))))))))))))))))))))))))))))))))))))))

pub damage_cases : AllHold (cases GraceVersion clauses)
damage_cases = subst (λ (s : State). AllHold (cases_on GraceVersion s clauses)) (sym fresh_spelled) on_spelled
