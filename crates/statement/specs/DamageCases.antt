-- 'Spoiled means' of document 01, clause by clause, by examples that name no kind: what is changed by hand in a fresh store, one call there, and its reply.
-- The calls are ENTER 0 and CLAIM 0 1, which the fresh store accepts. Each state here that gets 1 is damaged by one clause alone;
-- beside most clauses stands a near state that is not damaged.
use Rattle.std.specs.Prelude.{ℕ, zero, suc, ◌+◌, List, [], ◌∷◌, ◌++◌, pos, set, replicate}
use Rattle.calls.specs.declared.Call.{Call}
use Rattle.calls.specs.declared.Call.TheVariants.{Enter, Claim}
use Rattle.calls.specs.declared.Reply.{Reply}
use Rattle.calls.specs.declared.Reply.TheVariants.{At, Claimed, Refused}
use Rattle.layout.specs.declared.Reader.{Reader}
use Rattle.layout.specs.declared.Publisher.{Publisher}
use Rattle.layout.specs.declared.Retirement.{Retirement}
use Rattle.layout.specs.declared.Retired.{Retired}
use Rattle.layout.specs.Layout.{readers_at, publishers_at, slots_at, with_current, with_version, with_releases, with_indicator, with_reader, with_publisher, with_retirement, with_retired, no_reader, no_publisher, no_walk, no_retirement}
use Rattle.layout.specs.Records.{◌place≔◌, ◌first≔◌, ◌second≔◌, ◌published≔◌, ◌picked≔◌, ◌at_place◌, ◌held≔◌, ◌walk≔◌, ◌mark≔◌, ◌next≔◌, ◌looks≔◌, ◌waits≔◌, ◌step≔◌, ◌count≔◌}
use Rattle.statement.specs.Machine.{State, state, Machine}
use Rattle.statement.specs.Examples.{Example}
use Rattle.statement.specs.Examples.Example.{each}
use Rattle.statement.specs.Precedence.{fresh_of, small}

-- What is changed: a size, the current slot, the version, the releases, an indicator, how many entries are lent, a reader, a publisher, its retirement, one of its retired slots.
pub data Change : Type 0 where
  readers_to : ℕ → Change
  publishers_to : ℕ → Change
  slots_to : ℕ → Change
  current_to : ℕ → Change
  version_to : ℕ → Change
  releases_to : ℕ → Change
  indicator_to : ℕ → ℕ → Change
  entries_to : ℕ → Change
  reader_to : ℕ → Reader → Change
  publisher_to : ℕ → Publisher → Change
  retirement_to : ℕ → Retirement → Change
  retired_to : ℕ → ℕ → Retired → Change

abbrev pub change : Change → State → State
change (readers_to n) s = state (set s.words readers_at n) s.entries
change (publishers_to n) s = state (set s.words publishers_at n) s.entries
change (slots_to n) s = state (set s.words slots_at n) s.entries
change (current_to n) s = state (with_current s.words n) s.entries
change (version_to n) s = state (with_version s.words n) s.entries
change (releases_to n) s = state (with_releases s.words n) s.entries
change (indicator_to i n) s = state (with_indicator s.words i n) s.entries
change (entries_to n) s = state s.words (replicate n (pos 0))
change (reader_to r reader) s = state (with_reader s.words r reader) s.entries
change (publisher_to p y) s = state (with_publisher s.words p y) s.entries
change (retirement_to p t) s = state (with_retirement s.words p t) s.entries
change (retired_to p i d) s = state (with_retired s.words p i d) s.entries

abbrev pub changed : List Change → State → State
changed [] s = s
changed (d ∷ ds) s = changed ds (change d s)

-- A case: what is changed in a fresh store of 1 reader, 1 publisher and 2 slots, the call, and its reply.
pub data Case : Type 0 where
  on : List Change → Call → Reply → Case

-- Cases as examples: of changes to one state, and to the fresh one.
abbrev pub cases_on : Machine → State → List Case → List Example
cases_on M s [] = []
cases_on M s (on ds c a ∷ rest) = each M (changed ds s) (c ∷ []) (a ∷ []) ∷ cases_on M s rest

abbrev pub cases : Machine → List Case → List Example
cases M list = cases_on M (fresh_of M small) list

-- That fresh store, with its kind word, written out: the head, 64 readers, 16 publishers, the 288 words behind them; and its entries. It is quicker to compute with.
abbrev times : ℕ → List ℕ → List ℕ
times zero l = []
times (suc n) l = l ++ times n l

abbrev pub spelled : ℕ → ℕ → State
spelled kind published = state (kind ∷ 1 ∷ 1 ∷ 2 ∷ 0 ∷ 0 ∷ 0 ∷ 0 ∷ 0 ∷ times 64 (0 ∷ 0 ∷ 0 ∷ published ∷ 0 ∷ []) ++ times 16 (0 ∷ 0 ∷ 0 ∷ 0 ∷ 0 ∷ 0 ∷ []) ++ times 288 (0 ∷ [])) (replicate 64 (pos 90000))

-- The five numbers of a reader, the six of a publisher, the two of a retirement and of a retired slot, in the layout's order.
abbrev pub reader_as : (place first second published picked : ℕ) → Reader
reader_as place first second published picked = no_reader place≔ place first≔ first second≔ second published≔ published picked≔ picked

abbrev pub publisher_as : (place held mark next looks waits : ℕ) → Publisher
publisher_as place held mark next looks waits = no_publisher at_place place held≔ held walk≔ (no_walk mark≔ mark next≔ next looks≔ looks waits≔ waits)

abbrev pub retirement_as : (step count : ℕ) → Retirement
retirement_as step count = no_retirement step≔ step count≔ count

abbrev pub retired_as : (slot mark : ℕ) → Retired
retired_as slot mark = record { slot = slot; mark = mark }

-- A size outside the making rules (the slots with as many entries as they need); the largest sizes.
abbrev pub sizes : List Case
sizes =
    on (readers_to 0 ∷ []) (Claim 0 1) (Refused 1)
    ∷ on (readers_to 65 ∷ []) (Claim 0 1) (Refused 1)
    ∷ on (publishers_to 0 ∷ []) (Enter 0) (Refused 1)
    ∷ on (publishers_to 17 ∷ []) (Enter 0) (Refused 1)
    ∷ on (slots_to 1 ∷ entries_to 32 ∷ []) (Enter 0) (Refused 1)
    ∷ on (slots_to 33 ∷ entries_to 1056 ∷ []) (Enter 0) (Refused 1)
    ∷ on (readers_to 64 ∷ publishers_to 16 ∷ slots_to 32 ∷ entries_to 1024 ∷ []) (Enter 0) (At 1)
    ∷ []

-- A wrong entries' length; current slot or version too large; the last slot and the greatest version.
abbrev pub head_numbers : ℕ → List Case
head_numbers greatest =
    on (entries_to 63 ∷ []) (Enter 0) (Refused 1)
    ∷ on (entries_to 65 ∷ []) (Enter 0) (Refused 1)
    ∷ on (current_to 2 ∷ []) (Enter 0) (Refused 1)
    ∷ on (version_to (greatest + 1) ∷ []) (Enter 0) (Refused 1)
    ∷ on (current_to 1 ∷ version_to greatest ∷ []) (Enter 0) (At 1)
    ∷ []

-- A place that no kind has: 6 of a reader, 39 of a publisher.
abbrev pub place_cases : List Case
place_cases =
    on (reader_to 0 (reader_as 6 0 0 0 0) ∷ []) (Claim 0 1) (Refused 1)
    ∷ on (publisher_to 0 (publisher_as 39 1 1 0 0 0) ∷ []) (Enter 0) (Refused 1)
    ∷ []

-- A picked slot (place 5) too large; the last slot, and the number at place 4. Indicator 0 counts the reader: only the old store tests that.
-- A held slot (place not 0) too large; the number at place 0.
abbrev pub held_slots : List Case
held_slots =
    on (indicator_to 0 1 ∷ reader_to 0 (reader_as 5 0 0 0 2) ∷ []) (Claim 0 1) (Refused 1)
    ∷ on (indicator_to 0 1 ∷ reader_to 0 (reader_as 5 0 0 0 1) ∷ []) (Claim 0 1) (Claimed 1)
    ∷ on (indicator_to 0 1 ∷ reader_to 0 (reader_as 4 0 0 0 2) ∷ []) (Claim 0 1) (Claimed 1)
    ∷ on (publisher_to 0 (publisher_as 1 2 0 0 0 0) ∷ []) (Enter 0) (Refused 1)
    ∷ on (publisher_to 0 (publisher_as 38 2 1 0 0 0) ∷ []) (Enter 0) (Refused 1)
    ∷ on (publisher_to 0 (publisher_as 0 2 0 0 0 0) ∷ []) (Enter 0) (At 1)
    ∷ []

-- At a place from 35 to 38 a mark of 0, which gets this reply; a mark above the greatest, or waits above looks; the greatest mark with as many waits as looks.
abbrev pub walking : ℕ → Reply → ℕ → List Case
walking greatest atZero place =
    on (publisher_to 0 (publisher_as place 1 0 0 0 0) ∷ []) (Enter 0) atZero
    ∷ on (publisher_to 0 (publisher_as place 1 (greatest + 1) 0 0 0) ∷ []) (Enter 0) (Refused 1)
    ∷ on (publisher_to 0 (publisher_as place 1 1 0 4 5) ∷ []) (Enter 0) (Refused 1)
    ∷ on (publisher_to 0 (publisher_as place 1 greatest 0 5 5) ∷ []) (Enter 0) (At 1)
    ∷ []

-- At 34 neither is tested.
abbrev pub before35 : Case
before35 = on (publisher_to 0 (publisher_as 34 1 0 0 4 5) ∷ []) (Enter 0) (At 1)

-- Numbers of readers and publishers beyond the sizes are not tested: place, picked slot and count of reader 1, place and held slot of publisher 1.
abbrev pub beyond : List Case
beyond =
    on (reader_to 1 (reader_as 6 0 0 0 0) ∷ []) (Claim 0 1) (Claimed 1)
    ∷ on (reader_to 1 (reader_as 5 0 0 0 2) ∷ []) (Claim 0 1) (Claimed 1)
    ∷ on (publisher_to 1 (publisher_as 39 2 0 0 4 5) ∷ []) (Enter 0) (At 1)
    ∷ []

-- A kind that retires no slots neither tests nor reads a step, a count or a retired slot; nor are releases tested.
abbrev pub unread : List Case
unread =
    on (retirement_to 0 (retirement_as 9 9) ∷ retired_to 0 0 (retired_as 2 1) ∷ []) (Enter 0) (At 1)
    ∷ on (retirement_to 0 (retirement_as 0 1) ∷ retired_to 0 0 (retired_as 1 1) ∷ []) (Claim 0 1) (Claimed 1)
    ∷ on (releases_to 18446744073709551615 ∷ []) (Enter 0) (At 1)
    ∷ []

-- All of them, of a kind with this greatest version and this reply at a mark of 0 that retires no slots.
abbrev pub shared_cases : ℕ → Reply → List Case
shared_cases greatest atZero = sizes ++ (head_numbers greatest ++ (place_cases ++ (held_slots ++ (walking greatest atZero 35 ++ (walking greatest atZero 37 ++ (walking greatest atZero 38 ++ (before35 ∷ (beyond ++ unread))))))))
