-- A step of the rest store writes what is of one participant, and perhaps the epoch: what the words then hold, by the laws of the layout. Assumes nothing.
use Rattle.std.specs.Prelude.{ℕ, ◌<◌, ◌≡◌, ◌≢◌, List, get_or, length}
use Rattle.base.specs.Base.{upd}
use Rattle.layout.specs.declared.Reader.{Reader}
use Rattle.layout.specs.declared.Publisher.{Publisher}
use Rattle.layout.specs.declared.Retirement.{Retirement}
use Rattle.layout.specs.declared.Retired.{Retired}
use Rattle.layout.specs.Layout.{head_word_count, version_at, version, reader_at, publisher_at, retirement_at, retired_at}

-- w' is w with reader, publisher, retirement and retired slots of participant p replaced, and this version.
pub record Moves (w w' : List ℕ) (p : ℕ) (x : Reader) (y : Publisher) (t : Retirement) (d : ℕ → Retired) (ver : ℕ) : Type 0 where
  pub long : length w' ≡ length w
  pub head : (j : ℕ) → j < head_word_count → j ≢ version_at → get_or w' j 0 ≡ get_or w j 0
  pub version_is : version w' ≡ ver
  pub readers_are : reader_at w' ≡ upd (reader_at w) p x
  pub publishers_are : publisher_at w' ≡ upd (publisher_at w) p y
  pub retirements_are : retirement_at w' ≡ upd (retirement_at w) p t
  pub retired_are : retired_at w' ≡ upd (retired_at w) p d
