-- What is promised of looks beside demand 3, by the first table: every accepted one is of a pitch in range, and until a SWAP is accepted it is the first table's.
-- Each follows from demand 3: what holds of the entries of the first table and of every WRITE holds of the entries of the shelf's table, notes and drafts. Assumes nothing.
use Rattle.std.specs.Prelude.{ℕ, ◌≡◌, refl, true, false, List, [], ◌∷◌, ◌++◌, ℤ}
use Rattle.std.proofs.Common.{sym, ap, ◌∙◌}
use Rattle.std.proofs.Math.Option.{some}
use Rattle.base.specs.Base.{is}
use Rattle.base.specs.Options.{none_some}
use Rattle.base.specs.RowLaws.{clash, choose_split, same, at_or}
use Rattle.calls.specs.declared.Call.{Call}
use Rattle.calls.specs.declared.Call.TheVariants.{Enter, Look, Leave, Claim, Write, Swap, Sync, Raise, Walk, Release, Pick, Checkpoint, Defer}
use Rattle.calls.specs.declared.Reply.{Reply}
use Rattle.calls.specs.declared.Reply.TheVariants.{Pitch}
use Rattle.calls.specs.Numbers.{place_picked}
use Rattle.calls.specs.FirstTable.{out_of_range, entry_of}
use Rattle.calls.specs.Events.{Event, accepted, place_of, moved_by, fold_events}
use Rattle.calls.specs.Events.Event.{◌⇒◌}
use Rattle.calls.specs.Model.{Model, model₀, model_step, entry, with_note}
use Rattle.calls.specs.ModelLaws.{entry_is, appended_entries}
use Rattle.statement.specs.Machine.{State, Machine, Fresh, events}
use Rattle.statement.specs.Demand3.{Demand3}
use Rattle.statement.specs.Companions.{Traits, MakesFresh}

-- Every accepted LOOK gave a pitch in range.
abbrev pub LooksInRange : Machine → Type 0
LooksInRange M = (s : State) (f : Fresh M s) (cs : List Call) (pre post : List Event) (r k : ℕ) (a : Reply) → events M s cs ≡ pre ++ (Look r k ⇒ a) ∷ post → accepted a ≡ true
    → (v : ℤ) × (a ≡ Pitch v) × (out_of_range v ≡ false)

-- No SWAP among the events was accepted.
abbrev pub Unswapped : List Event → Type 0
Unswapped es = (pre post : List Event) (p : ℕ) (a : Reply) → es ≡ pre ++ (Swap p ⇒ a) ∷ post → accepted a ≡ false

-- Until a SWAP is accepted, LOOK k gives entry k of the table lent to the making.
abbrev pub FirstTableUntilSwap : Machine → Type 0
FirstTableUntilSwap M = (s : State) (f : Fresh M s) (cs : List Call) (pre post : List Event) (r k : ℕ) (a : Reply) → events M s cs ≡ pre ++ (Look r k ⇒ a) ∷ post → accepted a ≡ true
    → Unswapped pre → a ≡ Pitch (entry_of f.arguments.table k)

-- A WRITE is accepted of a pitch in range alone, on every state.
abbrev pub WritesInRange : Machine → Type 0
WritesInRange M = (s : State) (p : ℕ) (v : ℤ) → accepted (M.step s (Write p v)).reply ≡ true → out_of_range v ≡ false

-- P of every entry of the shelf's table and of its notes, Q of every entry of its drafts.
module _ (P Q : ℕ → ℤ → Type 0) where
  record ShelfHas (h : Model) : Type 0 where
    table : (k : ℕ) (v : ℤ) → entry h.table k ≡ some v → P k v
    note : (r k : ℕ) (v : ℤ) → entry (h.note r) k ≡ some v → P k v
    draft : (p k : ℕ) (v : ℤ) → entry (h.draft p) k ≡ some v → Q k v

  -- What an accepted call must bring for that.
  abbrev Brings : Call → Type 0
  Brings (Enter r) = Unit {0}
  Brings (Look r k) = Unit {0}
  Brings (Leave r) = Unit {0}
  Brings (Claim p slot) = Unit {0}
  Brings (Write p v) = (k : ℕ) → Q k v
  Brings (Swap p) = (k : ℕ) (v : ℤ) → Q k v → P k v
  Brings (Sync p) = Unit {0}
  Brings (Raise p) = Unit {0}
  Brings (Walk p b) = Unit {0}
  Brings (Release p) = Unit {0}
  Brings (Pick r) = Unit {0}
  Brings (Checkpoint r) = Unit {0}
  Brings (Defer p) = Unit {0}

  abbrev AllBring : List Event → Type 0
  AllBring [] = Unit {0}
  AllBring ((c ⇒ a) ∷ es) = (accepted a ≡ true → Brings c) × AllBring es

  brings_before : (pre post : List Event) → AllBring (pre ++ post) → AllBring pre
  brings_before [] post f = tt
  brings_before ((c ⇒ a) ∷ pre) post f = (f.0, brings_before pre post f.1)

  noted : (h : Model) (r : ℕ) → ShelfHas h → ShelfHas (with_note h r h.table)
  noted h r f = record { table = f.table; note = at_or r (rw (same r) f.table) (λ r' d. rw d (f.note r')); draft = f.draft }

  step_has : (h : Model) (c : Call) (a : Reply) → ShelfHas h → Brings c → ShelfHas (model_step h c a)
  step_has h (Enter r) a f b = choose_split ShelfHas (is (place_of a) place_picked) (λ _. noted h r f) (λ _. f)
  step_has h (Look r k) a f b = f
  step_has h (Leave r) a f b = f
  step_has h (Claim p slot) a f b = record { table = f.table; note = f.note; draft = at_or p (rw (same p) (λ k v e. absurd (none_some v e))) (λ p' d. rw d (f.draft p')) }
  step_has h (Write p v) a f b = record { table = f.table; note = f.note; draft = at_or p (rw (same p) (appended_entries Q (h.draft p) v (f.draft p) b)) (λ p' d. rw d (f.draft p')) }
  step_has h (Swap p) a f b = record { table = λ k v e. b k v (f.draft p k v e); note = f.note; draft = f.draft }
  step_has h (Sync p) a f b = f
  step_has h (Raise p) a f b = f
  step_has h (Walk p n) a f b = f
  step_has h (Release p) a f b = f
  step_has h (Pick r) a f b = noted h r f
  step_has h (Checkpoint r) a f b = f
  step_has h (Defer p) a f b = f

  shelf_has : (h : Model) (es : List Event) → ShelfHas h → AllBring es → ShelfHas (fold_events model_step h es)
  shelf_has h [] f b = f
  shelf_has h ((c ⇒ a) ∷ es) f b = shelf_has (moved_by model_step h (c ⇒ a)) es (choose_split ShelfHas (accepted a) (λ ok. step_has h c a f (b.0 ok)) (λ _. f)) b.1

  first_has : (first : List ℤ) → ((k : ℕ) (v : ℤ) → entry first k ≡ some v → P k v) → ShelfHas (model₀ first)
  first_has first f = record { table = f; note = λ r k v e. absurd (none_some v e); draft = λ p k v e. absurd (none_some v e) }

-- In range: every WRITE brings a pitch in range, and so does every SWAP.
abbrev InRange : ℕ → ℤ → Type 0
InRange k v = out_of_range v ≡ false

module _ (M : Machine) (writes : WritesInRange M) where
  brings_range : (s : State) (c : Call) → accepted (M.step s c).reply ≡ true → Brings InRange InRange c
  brings_range s (Enter r) ok = tt
  brings_range s (Look r k) ok = tt
  brings_range s (Leave r) ok = tt
  brings_range s (Claim p slot) ok = tt
  brings_range s (Write p v) ok = λ k. writes s p v ok
  brings_range s (Swap p) ok = λ k v e. e
  brings_range s (Sync p) ok = tt
  brings_range s (Raise p) ok = tt
  brings_range s (Walk p b) ok = tt
  brings_range s (Release p) ok = tt
  brings_range s (Pick r) ok = tt
  brings_range s (Checkpoint r) ok = tt
  brings_range s (Defer p) ok = tt

  all_bring_range : (s : State) (cs : List Call) → AllBring InRange InRange (events M s cs)
  all_bring_range s [] = tt
  all_bring_range s (c ∷ cs) = (brings_range s c, all_bring_range (M.step s c).after cs)

  pub looks_in_range : Demand3 M (λ z. z.table) → (traits : Traits) → MakesFresh M traits → LooksInRange M
  looks_in_range promise traits fresh s f cs pre post r k a e ok =
      let found = (promise s f cs).looks pre post r k a e ok in
      let good = (fresh s f).table_good in
      let has = shelf_has InRange InRange (model₀ f.arguments.table) pre
      (first_has InRange InRange f.arguments.table (λ k v e. let there = entry_is f.arguments.table k v e in rw there.1 at (good.in_range k (rw good.long at there.0))))
      (brings_before InRange InRange pre ((Look r k ⇒ a) ∷ post) (rw e at (all_bring_range s cs))) in
      (found.0, found.1, has.note r k found.0 found.2)

-- The first table's: nothing is asked of drafts, of which no SWAP makes the table.
abbrev Anything : ℕ → ℤ → Type 0
Anything k v = Unit {0}

unswapped_bring : (P : ℕ → ℤ → Type 0) (es : List Event) → Unswapped es → AllBring P Anything es
unswapped_bring P [] none = tt
unswapped_bring P ((c ⇒ a) ∷ es) none = (brings c none, unswapped_bring P es (λ pre post p a' e. none ((c ⇒ a) ∷ pre) post p a' (ap (λ (es' : List Event). (c ⇒ a) ∷ es') e)))
  where
    brings : (c : Call) → Unswapped ((c ⇒ a) ∷ es) → accepted a ≡ true → Brings P Anything c
    brings (Enter r) none ok = tt
    brings (Look r k) none ok = tt
    brings (Leave r) none ok = tt
    brings (Claim p slot) none ok = tt
    brings (Write p v) none ok = λ k. tt
    brings (Swap p) none ok = absurd (clash (sym ok ∙ none [] es p a refl))
    brings (Sync p) none ok = tt
    brings (Raise p) none ok = tt
    brings (Walk p b) none ok = tt
    brings (Release p) none ok = tt
    brings (Pick r) none ok = tt
    brings (Checkpoint r) none ok = tt
    brings (Defer p) none ok = tt

pub first_table_until_swap : (M : Machine) → Demand3 M (λ z. z.table) → FirstTableUntilSwap M
first_table_until_swap M promise s f cs pre post r k a e ok none =
    let first = f.arguments.table in
    let found = (promise s f cs).looks pre post r k a e ok in
    let has = shelf_has (λ k v. entry_of first k ≡ v) Anything (model₀ first) pre (first_has (λ k v. entry_of first k ≡ v) Anything first (λ k v e. (entry_is first k v e).1)) (unswapped_bring (λ k v. entry_of first k ≡ v) pre none) in
    found.1 ∙ ap Pitch (sym (has.note r k found.0 found.2))
