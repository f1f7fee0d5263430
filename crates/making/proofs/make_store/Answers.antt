-- `make_store` meets its contract: it answers what `check_making` gives, and if no row applies the words are fresh and the slots filled. Assumes nothing.
use Rattle.std.proofs.Common.{rules, Err}
use mathlib.Core.Path.{◌≡◌, refl, sym}
use mathlib.Core.Bool.{Bool, false}
use Rattle.statement.specs.Machine.{state, given}
use Rattle.publication_law.specs.Steps.{Versions}
use Rattle.publication_law.specs.Clear.{MakingClear}
use Rattle.publication_law.proofs.Clear.{making_unrefused}
use Rattle.making.specs.Answer.{numbered}
use Rattle.making.proofs.make_store.Goals as goal

-- Some versions of which the first is too large or not.
some : Bool → Versions
some large = record { too_large = λ v. large; is_last = λ v. large; wrong_mark = λ m. large; mark_at = λ v. v; before_mark = λ m. m }

-- the number of the first row that applies
pub returns-in_err-check_making : goal.returns-in_err-check_making
returns-in_err-check_making c = λ vs e. let a = c.args in
    let said = rw c.in_err-check_making.was at (c.check_making.ensures vs a.words.now a.entries.now a.version c.in-Some.ensures.cases.long refl e) in
    let kept : c.from_residual.result ≡ Err c.in_err-check_making.field-0.0 = search rules in
    (rw kept said, rw (kept, numbered c.in_err-check_making.field-0.0, c.in-Some.ensures.cases.same) refl)

pub fill-requires : goal.fill-requires
unfolding some
fill-requires c = let a = c.args in let said = rw c.in_ok-check_making.was at (c.check_making.ensures (some a.large) a.words.now a.entries.now a.version c.in-Some.ensures.cases.long refl refl) in
    (let clear : MakingClear false (some a.large) (given a.sizes.readers a.sizes.publishers a.sizes.slots a.version a.table.now) (state a.words.now a.entries.now) = making_unrefused _ _ _ _ (sym said) in clear.entries_are)

pub unwrap-requires : goal.unwrap-requires
unfolding some
unwrap-requires c = let a = c.args in let said = rw c.in_ok-check_making.was at (c.check_making.ensures (some a.large) a.words.now a.entries.now a.version c.in-Some.ensures.cases.long refl refl) in
    (let clear : MakingClear false (some a.large) (given a.sizes.readers a.sizes.publishers a.sizes.slots a.version a.table.now) (state a.words.now a.entries.now) = making_unrefused _ _ _ _ (sym said) in c.as_array.ensures.variant.1 clear.table_long)

-- made
pub returns : goal.returns
returns c = λ vs e. let a = c.args in let said = rw c.in_ok-check_making.was at (c.check_making.ensures vs a.words.now a.entries.now a.version c.in-Some.ensures.cases.long refl e) in
    let table = (rw c.unwrap.ensures at c.as_array.ensures.cases).same in
    (said, rw (c.put_fresh.ensures, c.fill.ensures, table) refl)
