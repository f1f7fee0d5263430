-- What an accepted ENTER and an accepted LEAVE of the old store leave of the reader and of the indicators, for every state and number by number. Assumes nothing.
use Rattle.std.specs.Prelude.{ℕ, ◌+◌, ◌-◌, ◌%◌, ◌≡◌, ◌&&◌, eqb}
use Rattle.base.specs.Base.{choose}
use Rattle.calls.specs.declared.Reply.TheVariants.{At, Left}
use Rattle.calls.specs.Numbers.{place_out, place_loaded, place_open, place_picked}
use Rattle.layout.specs.Layout.{current, version, indicator}
use Rattle.layout.specs.Records.{◌place≔◌, ◌first≔◌, ◌picked≔◌}
use Rattle.statement.specs.Machine.{State, Outcome}
use Rattle.publication_law.specs.Steps.{reader}

-- ENTER: 0 to 1 loads the version; 1 to 4 adds one to the indicator of its parity (0 or 1); 4 to 5 picks.
pub record EnterFacts (s : State) (r : ℕ) (o : Outcome) : Type 0 where
  pub reply_is : o.reply ≡ At (reader o.after r).place
  pub from_0 : (reader s r).place ≡ place_out
      → reader o.after r ≡ reader s r place≔ place_loaded first≔ version s.words
  pub from_1 : (reader s r).place ≡ place_loaded
      → reader o.after r ≡ reader s r place≔ place_open
  pub from_4 : (reader s r).place ≡ place_open
      → reader o.after r ≡ reader s r place≔ place_picked picked≔ current s.words
  pub counts : (i : ℕ) → indicator o.after.words i ≡ choose (eqb (reader s r).place place_loaded && eqb ((reader s r).first % 2) i) (indicator s.words i + 1) (indicator s.words i)

-- LEAVE goes to 0 and takes one from the indicator that r added to.
pub record LeaveFacts (s : State) (r : ℕ) (o : Outcome) : Type 0 where
  pub reply_is : o.reply ≡ Left
  pub record_is : reader o.after r ≡ reader s r place≔ place_out
  pub counts : (i : ℕ) → indicator o.after.words i ≡ choose (eqb ((reader s r).first % 2) i) (indicator s.words i - 1) (indicator s.words i)
