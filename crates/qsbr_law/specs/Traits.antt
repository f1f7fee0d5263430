-- In what the rest store differs for the companions of demand 3.
use Rattle.std.specs.Prelude.{true, false}
use Rattle.statement.specs.Companions.{Traits}
use Rattle.qsbr_law.specs.Steps.{lacks}

-- The last version is 2^64 - 1; the calls of sections and grace periods are lacking; reader and publisher of one number are one participant;
-- a fresh reader has observed the first version; a claim may stand beside others.
abbrev pub traits : Traits
traits = record {
  first_table = λ z. z.table;
  greatest = 18446744073709551615;
  lacks = lacks;
  exclusive = false;
  of_participants = true;
  fresh_published = λ z. z.version;
  publishes = true;
  raises_in = λ phase. false;
  walks_in = λ phase. false;
}
