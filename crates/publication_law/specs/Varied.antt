-- Rules that differ from a kind's own, for stores that are refuted.
use Rattle.std.specs.Prelude.{ℕ, Bool}
use Rattle.layout.specs.declared.WalkResult.{WalkResult}
use Rattle.statement.specs.Machine.{State}
use Rattle.publication_law.specs.SectionRules.{SectionRules}

-- Other rules that differ from R in number 31 and in the looks of a walk.
abbrev pub varied : SectionRules → Bool → (State → ℕ → ℕ → WalkResult) → SectionRules
varied R exclusive looks = record {
  damage = R.damage;
  further = R.further;
  fresh_reader = R.fresh_reader;
  entered = R.entered;
  enter_words = R.enter_words;
  leave_words = R.leave_words;
  exclusive = exclusive;
  raises_at = R.raises_at;
  walks_at = R.walks_at;
  looks = looks;
}
