-- What an accepted ENTER and an accepted LEAVE of the new store leave of the reader, for every state and number by number;
-- and the fourth step of entering, which publishes the second version straight through. Assumes nothing.
use Rattle.std.specs.Prelude.{ℕ, ◌≡◌}
use Rattle.calls.specs.declared.Reply.TheVariants.{At, Left}
use Rattle.calls.specs.Numbers.{not_reading, place_out, place_loaded, place_published, place_loaded_again, place_open, place_picked}
use Rattle.layout.specs.Layout.{current, version}
use Rattle.layout.specs.Records.{◌place≔◌, ◌first≔◌, ◌second≔◌, ◌published≔◌, ◌picked≔◌}
use Rattle.statement.specs.Machine.{State, Outcome}
use Rattle.publication_law.specs.Steps.{reader}

-- ENTER: 0 to 1 loads the version; 1 to 2 publishes it; 2 to 3 loads the version again; 3 to 4 publishes the second if the two differ:
-- where they are equal it is published already; 4 to 5 picks the current slot.
pub record EnterFacts (s : State) (r : ℕ) (o : Outcome) : Type 0 where
  pub reply_is : o.reply ≡ At (reader o.after r).place
  pub from_0 : (reader s r).place ≡ place_out
      → reader o.after r ≡ reader s r place≔ place_loaded first≔ version s.words
  pub from_1 : (reader s r).place ≡ place_loaded
      → reader o.after r ≡ reader s r place≔ place_published published≔ (reader s r).first
  pub from_2 : (reader s r).place ≡ place_published
      → reader o.after r ≡ reader s r place≔ place_loaded_again second≔ version s.words
  pub from_3 : (reader s r).place ≡ place_loaded_again
      → reader o.after r ≡ reader s r place≔ place_open published≔ (reader s r).second
  pub from_4 : (reader s r).place ≡ place_open
      → reader o.after r ≡ reader s r place≔ place_picked picked≔ current s.words

-- LEAVE goes to 0 and publishes NOT_READING.
pub record LeaveFacts (s : State) (r : ℕ) (o : Outcome) : Type 0 where
  pub reply_is : o.reply ≡ Left
  pub record_is : reader o.after r ≡ reader s r place≔ place_out published≔ not_reading
