-- In what the old store differs for the companions of demand 3.
use Rattle.std.specs.Prelude.{◌+◌, ◌%◌, true, false, ◌||◌, eqb}
use Rattle.base.specs.Base.{choose}
use Rattle.calls.specs.Numbers.{not_reading, place_out, place_loaded, place_open, place_picked}
use Rattle.calls.specs.Tally.{in_phase}
use Rattle.calls.specs.Tally.Phase.{synchronising, quiet, raised}
use Rattle.statement.specs.Companions.{GraceTraits}
use Rattle.publication_law.specs.SectionRules.{without_sections}

-- Versions run modulo 2^64: the greatest is 2^64 - 1, none is the last, and a mark is one above the version modulo 2^64. A return passes two looks; WALK follows SYNC, RAISE follows a quiet and WALK follows RAISE;
-- the calls without sections are lacking; ENTER goes 1, 4, 5; readers publish no version, and a fresh one has NOT_READING; a claim needs that every other publisher is idle.
abbrev pub traits : GraceTraits
traits = record {
  every = record {
    first_table = λ z. z.table;
    greatest = 18446744073709551615;
    lacks = without_sections;
    exclusive = true;
    of_participants = false;
    fresh_published = λ z. not_reading;
    publishes = false;
    raises_in = in_phase quiet;
    walks_in = λ phase. in_phase synchronising phase || in_phase raised phase;
  };
  passes = λ z. 2;
  is_last = λ ver. false;
  successor = λ ver. (ver + 1) % 18446744073709551616;
  next_place = λ place. choose (eqb place place_out) place_loaded (choose (eqb place place_loaded) place_open place_picked);
}
