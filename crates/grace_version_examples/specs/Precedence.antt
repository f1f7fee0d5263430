-- The order of the new store's refusals, by computation: the examples that name no kind, and 21 before 30. Assumes nothing.
use Rattle.std.specs.Prelude.{refl, List, [], ◌∷◌}
use Rattle.base.specs.Rows.{any_below}
use Rattle.calls.specs.declared.Call.TheVariants.{Claim}
use Rattle.calls.specs.declared.Reply.TheVariants.{Made, Claimed, Refused}
use Rattle.calls.specs.FirstTable.{tables}
use Rattle.layout.specs.Layout.{reader_at, publisher_at, with_reader, with_publisher, with_readers, fresh_words}
use Rattle.statement.specs.Examples.{Example, AllHold, given_feathered}
use Rattle.statement.specs.Examples.Example.{shows}
use Rattle.statement.specs.Precedence.{shared_rows}
use Rattle.publication_law.specs.Table.{damaged, step, making}
use Rattle.grace_version_law.specs.Steps.{GraceVersion, onward, looks_from}

-- CLAIM when publisher 0 holds slot 1, new: 21 before 30.
abbrev pub free_rows : Example
free_rows = shows GraceVersion (given_feathered 1 2 3 0) (Claim 0 1 ∷ []) (Claim 0 1 ∷ Claim 1 1 ∷ Claim 1 2 ∷ []) (Made ∷ Refused 21 ∷ Refused 30 ∷ Claimed 2 ∷ [])

unfoldable pub in_order : List Example
in_order = free_rows ∷ shared_rows GraceVersion 18446744073709551614 (Refused 32) 5

pub precedence : AllHold in_order
unfolding in_order reader_at publisher_at with_reader with_publisher with_readers fresh_words any_below damaged onward looks_from step making tables
precedence = (refl, (refl, (refl, (refl, (refl, (refl, (refl, (refl, (refl, (refl, (refl, (refl, (refl, (refl, (refl, (refl, (refl, (refl, (refl, (refl, (refl, (refl, (refl, (refl, (refl, (refl, (refl, (refl, (refl, (refl, (refl, (refl, (refl, (refl, (refl, (refl, (refl, (refl, (refl, tt)))))))))))))))))))))))))))))))))))))))
