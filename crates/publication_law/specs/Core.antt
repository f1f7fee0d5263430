-- What every kind of store keeps of its slots, beside what the calls told and the model's tables: the definitions. CoreLaws shows that each call keeps it.
-- Readers, publishers, slots and entries are functions of a number. It names no version, no mark, no indicator and no section, and nothing that a synchronise waits for.
use Rattle.std.specs.Prelude.{ℕ, ◌+◌, ◌<◌, ◌≤◌, ◌≡◌, ◌≢◌, Bool, true, ◌&&◌, List, ℤ, length, leb, eqb}
use Rattle.std.proofs.Math.Option.{Option, none, some}
use Rattle.base.specs.Base.{choose}
use Rattle.calls.specs.Numbers.{table_length, place_out, place_picked, place_claimed, place_written}
use Rattle.calls.specs.Model.{Model, entry}
use Rattle.calls.specs.Told.{Told}

-- A publisher holds a slot: the one that it claimed, while it writes it (places 1 to 33), and its former ones, which were current before its swaps.
pub data Hold (place claimedSlot : ℕ) (formerSlots : ℕ → Bool) (slot : ℕ) : Type 0 where
  by_claim : place_claimed ≤ place → place ≤ place_written → claimedSlot ≡ slot → Hold place claimedSlot formerSlots slot
  by_swap : formerSlots slot ≡ true → Hold place claimedSlot formerSlots slot

-- A picked slot is the current one, or a former slot of some publisher.
pub data CurrentOrFormer (current : ℕ) (formerSlots : ℕ → ℕ → Bool) (slot : ℕ) : Type 0 where
  is_current : slot ≡ current → CurrentOrFormer current formerSlots slot
  is_former : (p : ℕ) → formerSlots p slot ≡ true → CurrentOrFormer current formerSlots slot

-- Of reader r: its place and its picked slot as stored, its picked slot as told, and its note in the model.
pub record ReaderAgrees (readerCount current : ℕ) (formerSlots : ℕ → ℕ → Bool) (entries : ℕ → ℕ → ℤ) (r place picked_slot : ℕ) (toldPick : Option ℕ) (note : List ℤ) : Type 0 where
  -- who is not at place 0 is a reader of the store
  pub bound : place_out < place → r < readerCount
  -- at place 5 the slot told picked is the stored one, at every other place none is
  pub picked_is : toldPick ≡ choose (eqb place place_picked) (some picked_slot) none
  -- the picked slot is the current one or someone's former one
  pub current_or_former : place ≡ place_picked → CurrentOrFormer current formerSlots picked_slot
  -- the picked slot's entries are the note
  pub noted : place ≡ place_picked → (k : ℕ) → k < table_length → entry note k ≡ some (entries picked_slot k)

-- Of publisher p: its place, claimed slot and former slots as stored; the slots that it writes, its last claim and its former slots as told; and its draft in the model.
pub record PublisherAgrees (publisherCount current : ℕ) (entries : ℕ → ℕ → ℤ) (p place claimedSlot : ℕ) (formerSlots : ℕ → Bool)
    (toldWriting : ℕ → Bool) (toldClaim : Option ℕ) (toldFormer : ℕ → Bool) (draft : List ℤ) : Type 0 where
  -- who holds a slot is a publisher of the store
  pub bound : (slot : ℕ) → Hold place claimedSlot formerSlots slot → p < publisherCount
  -- told and stored agree on the slot being written: the claimed one, at places 1 to 33
  pub writing_is : (slot : ℕ) → toldWriting slot ≡ (leb place_claimed place && leb place place_written) && eqb claimedSlot slot
  -- told and stored agree on the former slots
  pub former_is : (slot : ℕ) → toldFormer slot ≡ formerSlots slot
  -- a held slot is not current
  pub apart : (slot : ℕ) → Hold place claimedSlot formerSlots slot → slot ≢ current
  -- the slot being written is the one of the last claim
  pub claim_is : place_claimed ≤ place → place ≤ place_written → toldClaim ≡ some claimedSlot
  -- the slot being written is no former one of its own
  pub not_former : place_claimed ≤ place → place ≤ place_written → formerSlots claimedSlot ≢ true
  -- the draft has as many entries as were written ..
  pub drafted : place_claimed ≤ place → place ≤ place_written → length draft + 1 ≡ place
  -- .. and is the beginning of the claimed slot's entries
  pub written : place_claimed ≤ place → place ≤ place_written → (k : ℕ) → k + 1 < place → entry draft k ≡ some (entries claimedSlot k)

-- Of the store: each reader and publisher as above, and the current slot beside the model's table.
pub record Core (model : Model) (told : Told) (readerCount publisherCount current : ℕ) (readerPlace readerPick publisherPlace claimedSlot : ℕ → ℕ)
    (formerSlots : ℕ → ℕ → Bool) (entries : ℕ → ℕ → ℤ) : Type 0 where
  pub readers : (r : ℕ) → ReaderAgrees readerCount current formerSlots entries r (readerPlace r) (readerPick r) (told.picked r) (model.note r)
  pub publishers : (p : ℕ)
      → PublisherAgrees publisherCount current entries p (publisherPlace p) (claimedSlot p) (formerSlots p) (told.claimed p) (told.last_claim p) (told.former p) (model.draft p)
  -- two publishers never hold one slot
  pub distinct : (p q slot : ℕ) → Hold (publisherPlace p) (claimedSlot p) (formerSlots p) slot → Hold (publisherPlace q) (claimedSlot q) (formerSlots q) slot → p ≡ q
  -- told and stored agree on the current slot
  pub current_is : told.current ≡ some current
  -- the current slot's entries are the model's table ..
  pub table : (k : ℕ) → k < table_length → entry model.table k ≡ some (entries current k)
  -- .. which has an entry for each
  pub whole : length model.table ≡ table_length
