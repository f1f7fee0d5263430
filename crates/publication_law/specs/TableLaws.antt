-- What holds of every table: a row that applies refuses and changes nothing, a call that the kind lacks gets 1, a refused making leaves what was lent.
-- And of a table whose acts show it of themselves: refused calls change nothing, only what is named moves, replies are representable. Assumes nothing.
use Rattle.std.specs.Prelude.{ℕ, ◌≡◌, ◌≢◌, Bool, ℤ, pos, get_or}
use Rattle.std.proofs.Math.Bool.{true, false}
use Rattle.base.specs.RowLaws.{AllClear, all_above}
use Rattle.calls.specs.declared.Call.{Call}
use Rattle.calls.specs.declared.Call.TheVariants.{Write}
use Rattle.calls.specs.Numbers.{damaged_number}
use Rattle.calls.specs.ReplyNumbersLaws.{PitchFitsWord, Representable}
use Rattle.calls.specs.Events.{accepted}
use Rattle.statement.specs.Machine.{State, Outcome, Given}
use Rattle.statement.specs.Frame.{Framed, Writes}
use Rattle.publication_law.specs.Table.{Table, rows}

-- What a call to which no row applies shows of itself.
pub record ActFacts (publishes : Bool) (s : State) (c : Call) (o : Outcome) : Type 0 where
  -- it is accepted, and a pitch that it replies is an entry
  pub accepts : accepted o.reply ≡ true
  pub representable : ((j : ℕ) → PitchFitsWord (get_or s.entries j (pos 0))) → Representable o.reply
  -- it moves what it names and nothing else, and the entries only if it is a WRITE
  pub framed : Framed publishes c s.words o.after.words
  pub entries_stay : ((p : ℕ) (v : ℤ) → c ≢ Write p v) → o.after.entries ≡ s.entries

-- What a kind shows of its rows and acts, each by itself; of a call that it lacks it shows nothing.
pub record ActLaws (publishes : State → Bool) (T : Table) : Type 0 where
  -- a call's numbers are above 1, and all are below 100
  pub numbers_above_1 : (s : State) (c : Call) → T.lacks c ≡ false → all_above damaged_number (T.tests s c) ≡ true
  pub making_numbers : (z : Given) (s : State) → all_above 0 (T.making_tests z s) ≡ true
  pub acts : (s : State) (c : Call) → AllClear (rows T s c) → ActFacts (publishes s) s c (T.act s c)
  pub writes : (s : State) (p : ℕ) (v : ℤ) → AllClear (rows T s (Write p v)) → Writes s p v (T.act s (Write p v))
