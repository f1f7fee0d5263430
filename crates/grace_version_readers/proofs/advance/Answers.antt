-- `advance` meets its contract: by the place, each arm a case of `onward`, and an accepted ENTER is `enter_is`. Assumes nothing.
use native.Mathlib.Omega.{arith}
use mathlib.Core.Path.{refl}
use borrow.Author.Tests.{le-leb, lt-leb}
use Rattle.publication_law.specs.Table.{step}
use Rattle.statement.specs.Machine.{state}
use Rattle.grace_version_law.proofs.Calls.{published_of, enter_is, past_enter, onward_loads, onward_publishes, onward_loads_again, onward_publishes_second, onward_picks}
use Rattle.grace_version_readers.proofs.advance.Goals as goal

-- at 1
pub returns-in-0 : goal.returns-in-0
returns-in-0 c = λ es no_damage. enter_is (state c.args.words.now es) no_damage _ _ c.reader_at-x.result _ c.requires.0 c.reader_at-x.ensures (omega (arith, c.in-0.is)) (onward_loads _ _ c.reader_at-x.result c.version_of.result c.version_of.ensures c.in-0.is) c.put_reader.ensures

-- at 2
pub returns-in-1 : goal.returns-in-1
returns-in-1 c = λ es no_damage. enter_is (state c.args.words.now es) no_damage _ _ c.reader_at-x.result _ c.requires.0 c.reader_at-x.ensures (omega (arith, c.in-1.is)) (onward_publishes _ _ c.reader_at-x.result c.in-1.is) c.put_reader-in-1.ensures

-- at 3
pub returns-in-2 : goal.returns-in-2
returns-in-2 c = λ es no_damage. enter_is (state c.args.words.now es) no_damage _ _ c.reader_at-x.result _ c.requires.0 c.reader_at-x.ensures (omega (arith, c.in-2.is)) (onward_loads_again _ _ c.reader_at-x.result c.version_of-in-2.result c.version_of-in-2.ensures c.in-2.is) c.put_reader-in-2.ensures

-- at 4
pub returns-in-3 : goal.returns-in-3
returns-in-3 c = λ es no_damage. let s = state c.args.words.now es in enter_is s no_damage _ _ c.reader_at-x.result _ c.requires.0 c.reader_at-x.ensures (omega (arith, c.in-3.is)) (onward_publishes_second _ _ c.reader_at-x.result c.in-3.is (rw c.reader_at-x.ensures (published_of s no_damage c.args.r c.requires.0 (rw c.reader_at-x.ensures at c.in-3.is)))) c.put_reader-in-3.ensures

-- at 5
pub returns-in-4 : goal.returns-in-4
returns-in-4 c = λ es no_damage. enter_is (state c.args.words.now es) no_damage _ _ c.reader_at-x.result _ c.requires.0 c.reader_at-x.ensures (omega (arith, c.in-4.is)) (onward_picks _ _ c.reader_at-x.result c.current_of.result c.current_of.ensures c.in-4.is) c.put_reader-in-4.ensures

-- 20 not this reader's turn
pub returns-in_default : goal.returns-in_default
unfolding step
returns-in_default c = λ es no_damage. let k = c.in_default.in_default-own.rest in let high = past_enter c.reader_at-x.result.place k.0.0.0.0.1 k.0.0.0.1 k.0.0.1 k.0.1 k.1 in rw (c.into.ensures, no_damage, lt-leb _ _ c.requires.0, le-leb 5 _ (rw c.reader_at-x.ensures at high)) refl
