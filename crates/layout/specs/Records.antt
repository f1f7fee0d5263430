-- A record with one number replaced: `x place≔ place_loaded first≔ version` is the reader x at place 1, with that version as its first and every other number as it was.
-- A reader's place is set by place≔, a publisher's by at_place.
use Rattle.std.specs.Prelude.{ℕ}
use Rattle.layout.specs.declared.Reader.{Reader}
use Rattle.layout.specs.declared.Publisher.{Publisher}
use Rattle.layout.specs.declared.WalkRecord.{WalkRecord}
use Rattle.layout.specs.declared.Retirement.{Retirement}

-- Readers.
infixl 20 ◌place≔◌
abbrev pub ◌place≔◌ : Reader → ℕ → Reader
x place≔ n = record { place = n; first = x.first; second = x.second; published = x.published; picked = x.picked }

infixl 20 ◌first≔◌
abbrev pub ◌first≔◌ : Reader → ℕ → Reader
x first≔ n = record { place = x.place; first = n; second = x.second; published = x.published; picked = x.picked }

infixl 20 ◌second≔◌
abbrev pub ◌second≔◌ : Reader → ℕ → Reader
x second≔ n = record { place = x.place; first = x.first; second = n; published = x.published; picked = x.picked }

infixl 20 ◌published≔◌
abbrev pub ◌published≔◌ : Reader → ℕ → Reader
x published≔ n = record { place = x.place; first = x.first; second = x.second; published = n; picked = x.picked }

infixl 20 ◌picked≔◌
abbrev pub ◌picked≔◌ : Reader → ℕ → Reader
x picked≔ n = record { place = x.place; first = x.first; second = x.second; published = x.published; picked = n }

-- Publishers.
infixl 20 ◌at_place◌
abbrev pub ◌at_place◌ : Publisher → ℕ → Publisher
y at_place n = record { place = n; held = y.held; walk = y.walk }

infixl 20 ◌held≔◌
abbrev pub ◌held≔◌ : Publisher → ℕ → Publisher
y held≔ n = record { place = y.place; held = n; walk = y.walk }

infixl 20 ◌walk≔◌
abbrev pub ◌walk≔◌ : Publisher → WalkRecord → Publisher
y walk≔ walk = record { place = y.place; held = y.held; walk = walk }

-- Walks.
infixl 20 ◌mark≔◌
abbrev pub ◌mark≔◌ : WalkRecord → ℕ → WalkRecord
walk mark≔ n = record { mark = n; next = walk.next; looks = walk.looks; waits = walk.waits }

infixl 20 ◌next≔◌
abbrev pub ◌next≔◌ : WalkRecord → ℕ → WalkRecord
walk next≔ n = record { mark = walk.mark; next = n; looks = walk.looks; waits = walk.waits }

infixl 20 ◌looks≔◌
abbrev pub ◌looks≔◌ : WalkRecord → ℕ → WalkRecord
walk looks≔ n = record { mark = walk.mark; next = walk.next; looks = n; waits = walk.waits }

infixl 20 ◌waits≔◌
abbrev pub ◌waits≔◌ : WalkRecord → ℕ → WalkRecord
walk waits≔ n = record { mark = walk.mark; next = walk.next; looks = walk.looks; waits = n }

-- Retirements.
infixl 20 ◌step≔◌
abbrev pub ◌step≔◌ : Retirement → ℕ → Retirement
t step≔ n = record { step = n; count = t.count }

infixl 20 ◌count≔◌
abbrev pub ◌count≔◌ : Retirement → ℕ → Retirement
t count≔ n = record { step = t.step; count = n }
