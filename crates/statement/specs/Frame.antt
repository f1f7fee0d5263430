-- What a call may move, for every state: document 01's 'A step leaves every number that it doesn't name'.
use Rattle.std.specs.Prelude.{ℕ, ◌-◌, ◌<◌, ◌≡◌, ◌≢◌, Bool, true, false, not, ◌&&◌, List, ℤ, pos, get_or, length, eqb}
use Rattle.std.proofs.Math.Option.{Option, none, some}
use Rattle.calls.specs.declared.Call.{Call}
use Rattle.calls.specs.declared.Call.TheVariants.{Enter, Look, Leave, Claim, Write, Swap, Sync, Raise, Walk, Release, Pick, Checkpoint, Defer}
use Rattle.calls.specs.Events.{accepted}
use Rattle.layout.specs.declared.Reader.{Reader}
use Rattle.layout.specs.declared.Publisher.{Publisher}
use Rattle.layout.specs.Layout.{head_word_count, current_at, version_at, releases_at, is_indicator_at, reader_words, reader_at, publisher_at, retirement_at, retired_at, entry_at}
use Rattle.statement.specs.Machine.{State, Outcome, Machine}

-- The reader, the publisher, and the publisher's retired slots that a call names. DEFER p names participant p, as reader and as publisher.
abbrev pub reader_named : Call → Option ℕ
reader_named (Enter r) = some r
reader_named (Look r k) = some r
reader_named (Leave r) = some r
reader_named (Claim p slot) = none
reader_named (Write p v) = none
reader_named (Swap p) = none
reader_named (Sync p) = none
reader_named (Raise p) = none
reader_named (Walk p b) = none
reader_named (Release p) = none
reader_named (Pick r) = some r
reader_named (Checkpoint r) = some r
reader_named (Defer p) = some p

abbrev pub publisher_named : Call → Option ℕ
publisher_named (Enter r) = none
publisher_named (Look r k) = none
publisher_named (Leave r) = none
publisher_named (Claim p slot) = some p
publisher_named (Write p v) = some p
publisher_named (Swap p) = some p
publisher_named (Sync p) = some p
publisher_named (Raise p) = some p
publisher_named (Walk p b) = some p
publisher_named (Release p) = some p
publisher_named (Pick r) = none
publisher_named (Checkpoint r) = none
publisher_named (Defer p) = some p

abbrev pub retirement_named : Call → Option ℕ
retirement_named (Enter r) = none
retirement_named (Look r k) = none
retirement_named (Leave r) = none
retirement_named (Claim p slot) = none
retirement_named (Write p v) = none
retirement_named (Swap p) = none
retirement_named (Sync p) = none
retirement_named (Raise p) = none
retirement_named (Walk p b) = none
retirement_named (Release p) = none
retirement_named (Pick r) = none
retirement_named (Checkpoint r) = some r
retirement_named (Defer p) = some p

-- The words of the head that a call may move: SWAP the current slot, RAISE and DEFER the version, RELEASE the releases;
-- ENTER and LEAVE an indicator, in a kind that does not publish readers' versions but counts readers there.
abbrev pub head_named : Bool → Call → ℕ → Bool
head_named publishes (Enter r) i = not publishes && is_indicator_at i
head_named publishes (Look r k) i = false
head_named publishes (Leave r) i = not publishes && is_indicator_at i
head_named publishes (Claim p slot) i = false
head_named publishes (Write p v) i = false
head_named publishes (Swap p) i = eqb i current_at
head_named publishes (Sync p) i = false
head_named publishes (Raise p) i = eqb i version_at
head_named publishes (Walk p b) i = false
head_named publishes (Release p) i = eqb i releases_at
head_named publishes (Pick r) i = false
head_named publishes (Checkpoint r) i = false
head_named publishes (Defer p) i = eqb i version_at

-- Of the head at most one word moved.
abbrev pub One : List ℕ → List ℕ → Type 0
One w w' = (j : ℕ) × ((i : ℕ) → i < head_word_count → i ≢ j → get_or w' i 0 ≡ get_or w i 0)

-- Of a reader's numbers its place, which is its first word, and at most one more moved.
abbrev pub PlaceAndOne : Reader → Reader → Type 0
PlaceAndOne reader reader' = (j : ℕ) × ((i : ℕ) → i ≢ 0 → i ≢ j → get_or (reader_words reader') i 0 ≡ get_or (reader_words reader) i 0)

-- LEAVE, in a kind that publishes readers' versions or does not.
pub record LeaveStays (publishes : Bool) (reader reader' : Reader) : Type 0 where
  pub first : reader'.first ≡ reader.first
  pub second : reader'.second ≡ reader.second
  pub published : publishes ≡ false → reader'.published ≡ reader.published
  pub picked : reader'.picked ≡ reader.picked

-- A publisher of which only the place moved.
pub record HeldAndWalkStay (y y' : Publisher) : Type 0 where
  pub held : y'.held ≡ y.held
  pub walk : y'.walk ≡ y.walk

-- PICK: the place and the picked slot may move.
pub record PickStays (reader reader' : Reader) : Type 0 where
  pub first : reader'.first ≡ reader.first
  pub second : reader'.second ≡ reader.second
  pub published : reader'.published ≡ reader.published

-- CHECKPOINT r: of the reader the place and at most one of the loaded, the least and the observed epoch may move; of r's retirement step and count, and its retired slots.
pub record CheckpointStays (reader reader' : Reader) : Type 0 where
  pub picked : reader'.picked ≡ reader.picked
  pub one : PlaceAndOne reader reader'

-- DEFER p: of reader p the place and the observed epoch may move, of publisher p the place and the mark, of its retirement the count, and the first pair behind its retired slots.
pub record DeferStays (p : ℕ) (w w' : List ℕ) : Type 0 where
  pub first : (reader_at w' p).first ≡ (reader_at w p).first
  pub second : (reader_at w' p).second ≡ (reader_at w p).second
  pub picked : (reader_at w' p).picked ≡ (reader_at w p).picked
  pub held : (publisher_at w' p).held ≡ (publisher_at w p).held
  pub next : (publisher_at w' p).walk.next ≡ (publisher_at w p).walk.next
  pub looks : (publisher_at w' p).walk.looks ≡ (publisher_at w p).walk.looks
  pub waits : (publisher_at w' p).walk.waits ≡ (publisher_at w p).walk.waits
  pub step : (retirement_at w' p).step ≡ (retirement_at w p).step
  pub retired : (i : ℕ) → i ≢ (retirement_at w p).count → retired_at w' p i ≡ retired_at w p i

-- What stays of the record that a call names, in a kind that publishes readers' versions or does not: of LOOK all; CLAIM may move place and held,
-- WRITE, RAISE and RELEASE the place, SWAP place and held, SYNC place and walk, WALK place, next, looks and waits,
-- ENTER the place and at most one more, LEAVE the place and, where it publishes, the published version; PICK, CHECKPOINT and DEFER as above.
abbrev pub NamedStays : Bool → Call → List ℕ → List ℕ → Type 0
NamedStays publishes (Enter r) w w' = PlaceAndOne (reader_at w r) (reader_at w' r)
NamedStays publishes (Look r k) w w' = reader_at w' r ≡ reader_at w r
NamedStays publishes (Leave r) w w' = LeaveStays publishes (reader_at w r) (reader_at w' r)
NamedStays publishes (Claim p slot) w w' = (publisher_at w' p).walk ≡ (publisher_at w p).walk
NamedStays publishes (Write p v) w w' = HeldAndWalkStay (publisher_at w p) (publisher_at w' p)
NamedStays publishes (Swap p) w w' = (publisher_at w' p).walk ≡ (publisher_at w p).walk
NamedStays publishes (Sync p) w w' = (publisher_at w' p).held ≡ (publisher_at w p).held
NamedStays publishes (Raise p) w w' = HeldAndWalkStay (publisher_at w p) (publisher_at w' p)
NamedStays publishes (Walk p b) w w' = ((publisher_at w' p).held ≡ (publisher_at w p).held) × ((publisher_at w' p).walk.mark ≡ (publisher_at w p).walk.mark)
NamedStays publishes (Release p) w w' = HeldAndWalkStay (publisher_at w p) (publisher_at w' p)
NamedStays publishes (Pick r) w w' = PickStays (reader_at w r) (reader_at w' r)
NamedStays publishes (Checkpoint r) w w' = CheckpointStays (reader_at w r) (reader_at w' r)
NamedStays publishes (Defer p) w w' = DeferStays p w w'

-- Only what is named moved.
pub record Framed (publishes : Bool) (c : Call) (w w' : List ℕ) : Type 0 where
  pub long : length w' ≡ length w
  pub readers : (r : ℕ) → reader_named c ≢ some r → reader_at w' r ≡ reader_at w r
  pub publishers : (p : ℕ) → publisher_named c ≢ some p → publisher_at w' p ≡ publisher_at w p
  pub retirements : (p : ℕ) → retirement_named c ≢ some p → retirement_at w' p ≡ retirement_at w p
  pub retired : (p : ℕ) → retirement_named c ≢ some p → retired_at w' p ≡ retired_at w p
  pub own_stays : NamedStays publishes c w w'
  pub head : (i : ℕ) → i < head_word_count → head_named publishes c i ≡ false → get_or w' i 0 ≡ get_or w i 0
  pub one : One w w'

-- The entry that a WRITE of publisher p stores: the next one of the slot held.
abbrev pub next_entry : State → ℕ → ℕ
next_entry s p = entry_at (publisher_at s.words p).held ((publisher_at s.words p).place - 1)

-- Of the entries an accepted WRITE stores that one, and no other moves.
pub record Writes (s : State) (p : ℕ) (v : ℤ) (o : Outcome) : Type 0 where
  pub stored : accepted o.reply ≡ true → get_or o.after.entries (next_entry s p) (pos 0) ≡ v
  pub others : (j : ℕ) → j ≢ next_entry s p → get_or o.after.entries j (pos 0) ≡ get_or s.entries j (pos 0)
  pub long : length o.after.entries ≡ length s.entries

-- For every state: a call moves the numbers that its step names of the record of the reader or publisher named (CHECKPOINT of the reader and its retirement, DEFER of publisher, reader and retirement),
-- perhaps one number of the head, which its step names too, and nothing else; a WALK that record alone. Only WRITE moves the entries, and one of them.
pub record Frame (publishes : State → Bool) (M : Machine) : Type 0 where
  pub words : (s : State) (c : Call) → Framed (publishes s) c s.words (M.step s c).after.words
  pub entries : (s : State) (c : Call) → ((p : ℕ) (v : ℤ) → c ≢ Write p v) → (M.step s c).after.entries ≡ s.entries
  pub writes : (s : State) (p : ℕ) (v : ℤ) → Writes s p v (M.step s (Write p v))
