-- In what the new store differs for the companions of demand 3.
use Rattle.std.specs.Prelude.{suc, ◌+◌, true, false, eqb}
use Rattle.calls.specs.Numbers.{not_reading}
use Rattle.calls.specs.Tally.{in_phase}
use Rattle.calls.specs.Tally.Phase.{synchronising, raised}
use Rattle.statement.specs.Companions.{GraceTraits}
use Rattle.publication_law.specs.SectionRules.{without_sections}

-- The last version is 2^64 - 2; a return passes each reader once; a mark is one above the version; RAISE follows SYNC and WALK follows RAISE;
-- the calls without sections are lacking; ENTER goes 1, 2, 3, 4, 5; readers publish versions, and a fresh one NOT_READING; a claim may stand beside others.
abbrev pub traits : GraceTraits
traits = record {
  every = record {
    first_table = λ z. z.table;
    greatest = 18446744073709551614;
    lacks = without_sections;
    exclusive = false;
    of_participants = false;
    fresh_published = λ z. not_reading;
    publishes = true;
    raises_in = in_phase synchronising;
    walks_in = in_phase raised;
  };
  passes = λ z. z.readers;
  is_last = λ ver. eqb ver 18446744073709551614;
  successor = λ ver. ver + 1;
  next_place = suc;
}
