-- The companions of demand 3, without which a store of no use would meet it: what every kind serves, and what a kind with sections and grace periods serves besides.
use Rattle.std.specs.Prelude.{ℕ, ◌+◌, ◌*◌, ◌%◌, ◌<◌, ◌≤◌, ◌≡◌, ◌≢◌, ◌⊎◌, Bool, true, false, List, ◌∷◌, ◌++◌, ℤ, length}
use Rattle.std.proofs.Math.Option.{some}
use Rattle.calls.specs.declared.Call.{Call}
use Rattle.calls.specs.declared.Call.TheVariants.{Enter, Look, Leave, Claim, Write, Swap, Sync, Raise, Walk, Release, Pick, Checkpoint, Defer}
use Rattle.calls.specs.declared.Reply.{Reply}
use Rattle.calls.specs.declared.Reply.TheVariants.{Made, At, Left, Claimed, Written, Swapped, Walked, Freed, Refused}
use Rattle.calls.specs.declared.WalkReply.TheVariants.{Returned}
use Rattle.calls.specs.Numbers.{readers_max, publishers_max, slots_min, slots_max, table_length, number_max, number_modulus, place_open, place_picked, damaged_number, busy_number, version_is_last_number}
use Rattle.calls.specs.FirstTable.{out_of_range, steep, entry_of}
use Rattle.calls.specs.Events.{Event, accepted}
use Rattle.calls.specs.Events.Event.{◌⇒◌}
use Rattle.calls.specs.Model.{Model, model_of}
use Rattle.calls.specs.Told.{Told, told_by, holds, Has}
use Rattle.calls.specs.Told.Role.{free}
use Rattle.calls.specs.Tally.{Phase, first_place, Tally, tally_of}
use Rattle.calls.specs.Tally.Phase.{idle, writing, swapped, synchronising, raised, returned}
use Rattle.layout.specs.Layout.{words_length, readers, publishers, slots, current, version, releases, indicator, no_publisher, no_retirement, no_retired, blank_reader, reader_at, publisher_at, retirement_at, retired_at, entry_at}
use Rattle.statement.specs.Machine.{State, outcome, Given, Machine, Fresh, events, after_all}

-- In what the kinds differ here.
pub record Traits : Type 0 where
  -- the first table of a store made so
  pub first_table : Given → List ℤ
  -- the greatest version; of rest it is the last epoch
  pub greatest : ℕ
  -- the calls that it lacks
  pub lacks : Call → Bool
  -- whether a claim needs that every other publisher is idle
  pub exclusive : Bool
  -- whether reader and publisher of one number are one participant, so that there are as many of one as of the other
  pub of_participants : Bool
  -- what each reader of a fresh store has published
  pub fresh_published : Given → ℕ
  -- whether readers publish versions, so that a LEAVE publishes too; a kind that does not counts readers in its indicators
  pub publishes : Bool
  -- the phases in which RAISE and WALK are in turn; a kind without them has none
  pub raises_in : Phase → Bool
  pub walks_in : Phase → Bool

-- In what the kinds with sections and grace periods differ besides.
pub record GraceTraits : Type 0 where
  pub every : Traits
  -- how many looks of a walk pass before it returns
  pub passes : Given → ℕ
  -- the last version, at which no SYNC is accepted; where versions run modulo 2^64 none is
  pub is_last : ℕ → Bool
  -- the mark of a synchronise at a version: the version's successor
  pub successor : ℕ → ℕ
  -- the place that follows a reader's place
  pub next_place : ℕ → ℕ

-- A table that a store may start with: 32 entries, each in range, and no two neighbours more than step_max apart.
pub record GoodTable (table : List ℤ) : Type 0 where
  pub long : length table ≡ table_length
  pub in_range : (k : ℕ) → k < table_length → out_of_range (entry_of table k) ≡ false
  pub steps_bounded : (k : ℕ) → k + 1 < table_length → steep (entry_of table k) (entry_of table (k + 1)) ≡ false

-- What making asks, in a kind of participants or not and with this greatest version: lent words and entries of the right lengths, sizes and version in range, a good table.
pub record MakingFits (of_participants : Bool) (greatest : ℕ) (z : Given) (s : State) : Type 0 where
  pub words_long : length s.words ≡ words_length
  pub readers_low : 1 ≤ z.readers
  pub readers_high : z.readers ≤ readers_max
  pub publishers_low : 1 ≤ z.publishers
  pub publishers_high : z.publishers ≤ publishers_max
  pub as_many : of_participants ≡ true → z.publishers ≡ z.readers
  pub slots_low : slots_min ≤ z.slots
  pub slots_high : z.slots ≤ slots_max
  pub entries_long : length s.entries ≡ z.slots * table_length
  pub version_high : z.version ≤ greatest
  pub table_good : GoodTable z.table

-- Such a making is accepted, and no other.
abbrev pub MakingAccepts : Machine → Traits → Type 0
MakingAccepts M traits = (z : Given) (s : State) → MakingFits traits.of_participants traits.greatest z s → (M.making z s).reply ≡ Made

abbrev pub MakingOnly : Machine → Traits → Type 0
MakingOnly M traits = (z : Given) (s : State) → accepted (M.making z s).reply ≡ true → MakingFits traits.of_participants traits.greatest z s

-- A fresh store, to the letter: entry k of every slot is entry k of the lent table, which is a good one; sizes and version as given; slot 0 current, readers and publishers at place 0, published versions as the kind's fresh readers have them,
-- and every other number 0.
pub record IsFresh (traits : Traits) (z : Given) (s : State) : Type 0 where
  pub long : length s.words ≡ words_length
  pub readers_given : readers s.words ≡ z.readers
  pub publishers_given : publishers s.words ≡ z.publishers
  pub slots_given : slots s.words ≡ z.slots
  pub version_given : version s.words ≡ z.version
  pub current_is : current s.words ≡ 0
  pub releases_are : releases s.words ≡ 0
  pub indicators_are : (i : ℕ) → indicator s.words i ≡ 0
  pub readers_are : (r : ℕ) → r < readers_max → reader_at s.words r ≡ blank_reader (traits.fresh_published z)
  pub publishers_are : (p : ℕ) → publisher_at s.words p ≡ no_publisher
  pub retirements_are : (p : ℕ) → retirement_at s.words p ≡ no_retirement
  pub retired_are : (p i : ℕ) → retired_at s.words p i ≡ no_retired
  pub table_good : GoodTable z.table
  pub entries_long : length s.entries ≡ z.slots * table_length
  pub entries_are : (slot k : ℕ) → slot < z.slots → k < table_length → entry_of s.entries (entry_at slot k) ≡ entry_of z.table k

abbrev pub MakesFresh : Machine → Traits → Type 0
MakesFresh M traits = (s : State) (f : Fresh M s) → IsFresh traits f.arguments s

-- A refused call changes neither the store nor the entries, and a refused making leaves both as lent.
pub record RefusedLeaves (M : Machine) : Type 0 where
  pub step : (s : State) (c : Call) (n : ℕ) → (M.step s c).reply ≡ Refused n → (M.step s c).after ≡ s
  pub making : (z : Given) (s : State) (n : ℕ) → (M.making z s).reply ≡ Refused n → (M.making z s).after ≡ s

-- Outside a checkpoint, and not between the two DEFERs of a deferral, as told.
abbrev pub OutsideCheckpoint : Told → ℕ → Type 0
OutsideCheckpoint t r = t.deferral.step r ≡ 0

abbrev pub NotDeferring : Tally → ℕ → Type 0
NotDeferring u p = u.phase p ≢ synchronising

-- The turn of each call, by what the calls told: a reader's place, a publisher's phase and its draft, a participant's checkpoint.
abbrev pub InTurn : Traits → Model → Told → Tally → Call → Type 0
InTurn traits h t u (Enter r) = u.place r < place_picked
InTurn traits h t u (Look r k) = u.place r ≡ place_picked
InTurn traits h t u (Leave r) = place_open ≤ u.place r
InTurn traits h t u (Claim p slot) = u.phase p ≡ idle
InTurn traits h t u (Write p v) = (u.phase p ≡ writing) × (length (h.draft p) < table_length)
InTurn traits h t u (Swap p) = (u.phase p ≡ writing) × (length (h.draft p) ≡ table_length)
InTurn traits h t u (Sync p) = u.phase p ≡ swapped
InTurn traits h t u (Raise p) = traits.raises_in (u.phase p) ≡ true
InTurn traits h t u (Walk p b) = traits.walks_in (u.phase p) ≡ true
InTurn traits h t u (Release p) = u.phase p ≡ returned
InTurn traits h t u (Pick r) = OutsideCheckpoint t r × NotDeferring u r
InTurn traits h t u (Checkpoint r) = NotDeferring u r
InTurn traits h t u (Defer p) = OutsideCheckpoint t p × ((u.phase p ≡ swapped) ⊎ (u.phase p ≡ synchronising))

-- What a call names is there, in a store of so many readers, publishers and slots: the reader, the publisher, the slot, the entry of a table; and a pitch is in range.
abbrev pub Named : (readers publishers slots : ℕ) → Call → Type 0
Named rs ps ss (Enter r) = r < rs
Named rs ps ss (Look r k) = (r < rs) × (k < table_length)
Named rs ps ss (Leave r) = r < rs
Named rs ps ss (Claim p slot) = (p < ps) × (slot < ss)
Named rs ps ss (Write p v) = (p < ps) × (out_of_range v ≡ false)
Named rs ps ss (Swap p) = p < ps
Named rs ps ss (Sync p) = p < ps
Named rs ps ss (Raise p) = p < ps
Named rs ps ss (Walk p b) = p < ps
Named rs ps ss (Release p) = p < ps
Named rs ps ss (Pick r) = r < rs
Named rs ps ss (Checkpoint r) = r < rs
Named rs ps ss (Defer p) = p < ps

-- What holds of a state after a list of calls that told h, t and u.
pub record StateCompanions (M : Machine) (traits : Traits) (z : Given) (h : Model) (t : Told) (u : Tally) (s : State) : Type 0 where
  -- never damaged: no call that the kind has is refused with 1, and every call that it lacks is, and changes nothing
  pub undamaged : (c : Call) → traits.lacks c ≡ false → (M.step s c).reply ≢ Refused damaged_number
  pub lacked : (c : Call) → traits.lacks c ≡ true → M.step s c ≡ outcome (Refused damaged_number) s
  -- an accepted call names what the store has
  pub named : (c : Call) → accepted (M.step s c).reply ≡ true → Named z.readers z.publishers z.slots c
  -- order: a call is accepted in its turn alone
  pub in_turn : (c : Call) → accepted (M.step s c).reply ≡ true → InTurn traits h t u c
  -- the places in the words are those told: a reader's, and that of each publisher of the store by its phase; while it writes it is one further than it has written
  pub reader_placed : (r : ℕ) → (reader_at s.words r).place ≡ u.place r
  pub publisher_placed : (p : ℕ) → p < z.publishers → u.phase p ≢ writing → (publisher_at s.words p).place ≡ first_place (u.phase p)
  pub writer_placed : (p : ℕ) → u.phase p ≡ writing → (publisher_at s.words p).place ≡ length (h.draft p) + 1
  -- LOOK is accepted after the pick
  pub looks : (r k : ℕ) → r < z.readers → k < table_length → u.place r ≡ place_picked → accepted (M.step s (Look r k)).reply ≡ true
  -- an idle publisher's CLAIM of a slot told free, both in range, is accepted (exclusive: if every other one is idle too, else 31)
  pub claims : (p slot : ℕ) → p < z.publishers → slot < z.slots → Has t slot free → u.phase p ≡ idle
      → (traits.exclusive ≡ true → (q : ℕ) → q ≢ p → u.phase q ≡ idle) → (M.step s (Claim p slot)).reply ≡ Claimed slot
  pub busy : traits.exclusive ≡ true → (p slot q : ℕ) → p < z.publishers → slot < z.slots → u.phase p ≡ idle → q ≢ p → u.phase q ≢ idle
      → (M.step s (Claim p slot)).reply ≡ Refused busy_number
  -- who is told to hold nothing is idle: so claims speaks of every publisher that holds nothing
  pub idle_if : (p : ℕ) → ((slot : ℕ) → holds t p slot ≡ false) → u.phase p ≡ idle
  -- a publisher's next call is accepted: it writes 32 entries, then swaps
  pub writes : (p : ℕ) (v : ℤ) → p < z.publishers → u.phase p ≡ writing → length (h.draft p) < table_length → out_of_range v ≡ false
      → (M.step s (Write p v)).reply ≡ Written (length (h.draft p) + 1)
  pub swaps : (p : ℕ) → p < z.publishers → u.phase p ≡ writing → length (h.draft p) ≡ table_length → (slot : ℕ) × (t.current ≡ some slot) × ((M.step s (Swap p)).reply ≡ Swapped slot)

-- What holds of it besides, in a kind with sections and grace periods.
pub record GraceStateCompanions (M : Machine) (traits : GraceTraits) (z : Given) (h : Model) (t : Told) (u : Tally) (s : State) : Type 0 where
  -- readers never wait: the next ENTER replies the next place, whatever stands between; LEAVE is accepted in an open section
  pub enters : (r : ℕ) → r < z.readers → u.place r < place_picked → (M.step s (Enter r)).reply ≡ At (traits.next_place (u.place r))
  pub leaves : (r : ℕ) → r < z.readers → place_open ≤ u.place r → (M.step s (Leave r)).reply ≡ Left
  -- who is told idle is told to hold nothing; with idle_if the two are one
  pub idle_only_if : (p : ℕ) → u.phase p ≡ idle → (slot : ℕ) → holds t p slot ≡ false
  -- its next call is accepted after its SWAP too: it synchronises unless the version is the last (32),
  -- raises and walks each in its phases, a WALK unless its looks could pass 2^64 - 1 (33), and releases what it held
  pub syncs : (p : ℕ) → p < z.publishers → u.phase p ≡ swapped → traits.is_last (version s.words) ≡ false → accepted (M.step s (Sync p)).reply ≡ true
  pub syncs_not_at_last : (p : ℕ) → p < z.publishers → u.phase p ≡ swapped → traits.is_last (version s.words) ≡ true → (M.step s (Sync p)).reply ≡ Refused version_is_last_number
  pub raises : (p : ℕ) → p < z.publishers → traits.every.raises_in (u.phase p) ≡ true → accepted (M.step s (Raise p)).reply ≡ true
  pub walks : (p b : ℕ) → p < z.publishers → traits.every.walks_in (u.phase p) ≡ true → (publisher_at s.words p).walk.looks + b ≤ number_max → accepted (M.step s (Walk p b)).reply ≡ true
  pub frees : (p : ℕ) → p < z.publishers → u.phase p ≡ returned
      → (slot : ℕ) × (t.former p slot ≡ true) × ((M.step s (Release p)).reply ≡ Freed slot ((u.releases + 1) % number_modulus))
  -- releases is the number of accepted RELEASEs modulo 2^64
  pub counted : releases s.words ≡ u.releases % number_modulus

-- What stands beside demand 3 after every list of calls on a fresh state ..
pub record ListCompanions (M : Machine) (traits : Traits) (z : Given) (s : State) (cs : List Call) : Type 0 where
  pub state_companions : StateCompanions M traits z (model_of (traits.first_table z) (events M s cs)) (told_by z.readers (events M s cs)) (tally_of (events M s cs)) (after_all M s cs)
  -- whole tables: the model's table always has 32 entries
  pub tables : length (model_of (traits.first_table z) (events M s cs)).table ≡ table_length

-- .. and in a kind with sections and grace periods.
pub record GraceListCompanions (M : Machine) (traits : GraceTraits) (z : Given) (s : State) (cs : List Call) : Type 0 where
  pub every : ListCompanions M traits.every z s cs
  pub state_companions : GraceStateCompanions M traits z (model_of (traits.every.first_table z) (events M s cs)) (told_by z.readers (events M s cs)) (tally_of (events M s cs)) (after_all M s cs)
  -- order: of a publisher's CLAIM, SWAP, SYNC, quiet, RAISE, return and RELEASE the last one before a return is a RAISE ..
  pub returns_after : (pre post : List Event) (p b looks waits : ℕ) → events M s cs ≡ pre ++ (Walk p b ⇒ Walked (Returned looks waits)) ∷ post → (tally_of pre).phase p ≡ raised
  -- .. and the last one before an accepted RELEASE is a return
  pub releases_after : (pre post : List Event) (p : ℕ) (a : Reply) → events M s cs ≡ pre ++ (Release p ⇒ a) ∷ post → accepted a ≡ true → (tally_of pre).phase p ≡ returned
  -- counts: a return has looks = readers + waits (new) or 2 + waits (old); waits is how often p's WALK replied waiting since its SYNC
  pub looks_are : (pre post : List Event) (p b looks waits : ℕ) → events M s cs ≡ pre ++ (Walk p b ⇒ Walked (Returned looks waits)) ∷ post → looks ≡ traits.passes z + waits
  pub waits_are : (pre post : List Event) (p b looks waits : ℕ) → events M s cs ≡ pre ++ (Walk p b ⇒ Walked (Returned looks waits)) ∷ post → waits ≡ (tally_of pre).waits p

abbrev pub Companions : Machine → Traits → Type 0
Companions M traits = (s : State) (f : Fresh M s) (cs : List Call) → ListCompanions M traits f.arguments s cs

abbrev pub GraceCompanions : Machine → GraceTraits → Type 0
GraceCompanions M traits = (s : State) (f : Fresh M s) (cs : List Call) → GraceListCompanions M traits f.arguments s cs
