-- The reference model, document 01's plain shelf: it sees the calls' arguments and replies and none of the store's numbers.
use Rattle.std.specs.Prelude.{ℕ, zero, suc, List, [], ◌∷◌, ◌++◌, ℤ}
use Rattle.std.proofs.Math.Option.{Option, none, some}
use Rattle.base.specs.Base.{choose, upd, is}
use Rattle.calls.specs.declared.Call.{Call}
use Rattle.calls.specs.declared.Call.TheVariants.{Enter, Look, Leave, Claim, Write, Swap, Sync, Raise, Walk, Release, Pick, Checkpoint, Defer}
use Rattle.calls.specs.declared.Reply.{Reply}
use Rattle.calls.specs.Numbers.{place_picked}
use Rattle.calls.specs.Events.{Event, place_of, fold_events}

-- It has one table, a note per reader and a draft per publisher.
pub record Model : Type 0 where
  pub table : List ℤ
  pub note : ℕ → List ℤ
  pub draft : ℕ → List ℤ

-- At first: the table lent to the making, no notes and no drafts.
abbrev pub model₀ : List ℤ → Model
model₀ first = record { table = first; note = λ r. []; draft = λ p. [] }

abbrev pub with_note : Model → ℕ → List ℤ → Model
with_note h r table = record { table = h.table; note = upd h.note r table; draft = h.draft }

abbrev pub with_draft : Model → ℕ → List ℤ → Model
with_draft h p draft = record { table = h.table; note = h.note; draft = upd h.draft p draft }

abbrev pub with_table : Model → List ℤ → Model
with_table h table = record { table = table; note = h.note; draft = h.draft }

-- CLAIM empties p's draft; WRITE appends v; SWAP makes the draft the table; an ENTER that replies place 5, and a PICK, copies the table into r's note.
abbrev pub model_step : Model → Call → Reply → Model
model_step h (Enter r) a = choose (is (place_of a) place_picked) (with_note h r h.table) h
model_step h (Look r k) a = h
model_step h (Leave r) a = h
model_step h (Claim p slot) a = with_draft h p []
model_step h (Write p v) a = with_draft h p (h.draft p ++ (v ∷ []))
model_step h (Swap p) a = with_table h (h.draft p)
model_step h (Sync p) a = h
model_step h (Raise p) a = h
model_step h (Walk p b) a = h
model_step h (Release p) a = h
model_step h (Pick r) a = with_note h r h.table
model_step h (Checkpoint r) a = h
model_step h (Defer p) a = h

-- The model after some events, from its first table.
abbrev pub model_of : List ℤ → List Event → Model
model_of first es = fold_events model_step (model₀ first) es

-- Entry k of a table, if it has one: LOOK replies with entry k of the note.
abbrev pub entry : List ℤ → ℕ → Option ℤ
entry [] k = none
entry (v ∷ rest) zero = some v
entry (v ∷ rest) (suc k) = entry rest k
