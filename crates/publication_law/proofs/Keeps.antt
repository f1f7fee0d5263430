-- CLAIM, WRITE and SWAP keep what every kind keeps, where the slot held is one of the store; and what that gives at the end of a list. Assumes nothing.
use Rattle.std.specs.Prelude.{ℕ, ◌+◌, ◌-◌, ◌*◌, ◌<◌, ◌≤◌, ◌≡◌, ◌≢◌, Bool, true, ◌&&◌, ◌||◌, List, ℤ, pos, get_or, set, length, ltb, eqb}
use Rattle.std.proofs.Common.{arith, sym, ◌∙◌, subst, length-set}
use Rattle.std.proofs.Math.Path.{refl, ap, fun_ext}
use Rattle.std.proofs.Math.Bool.{false}
use Rattle.std.proofs.Math.Option.{some}
use borrow.Author.Tests.{eqb-true, eqb-false, leb-false, le-leb, ltb-false, lt-ltb, not-false}
use Rattle.base.specs.Base.{choose}
use Rattle.base.specs.Rows.{any_below}
use Rattle.base.specs.RowLaws.{not_both, or_false, or_right, within, none_below, no_below, choose_split, same, AllClear, by_test}
use Rattle.calls.specs.declared.Call.TheVariants.{Claim, Write, Swap}
use Rattle.calls.specs.declared.Reply.TheVariants.{Claimed, Written, Swapped}
use Rattle.calls.specs.Numbers.{readers_max, table_length, place_out, place_idle, place_claimed, place_swapped}
use Rattle.calls.specs.FirstTable.{tables}
use Rattle.calls.specs.Model.{entry}
use Rattle.calls.specs.ModelLaws.{entry_within}
use Rattle.calls.specs.Told.{holds, Has}
use Rattle.calls.specs.Told.Role.{free}
use Rattle.calls.specs.Tally.{Phase}
use Rattle.calls.specs.Tally.Phase.{idle, writing, swapped}
use Rattle.layout.specs.declared.Reader.{Reader}
use Rattle.layout.specs.declared.Publisher.{Publisher}
use Rattle.layout.specs.Layout.{head_word_count, kind_at, readers_at, publishers_at, slots_at, current_at, version_at, kind_word, readers, publishers, slots, current, entry_at, fresh_words, no_reader, no_publisher, slot_entry}
use Rattle.layout.specs.Entries.{set_entry}
use Rattle.layout.specs.Records.{◌at_place◌, ◌held≔◌}
use Rattle.layout.specs.Laws.{fresh_long, fresh_head, fresh_reader_lem, fresh_publisher, fresh_retirement}
use Rattle.publication_tables.specs.FillLaws.{tables_long, tables_entry}
use Rattle.statement.specs.Machine.{State, Given, retires, retired_slot, holds_slot, held_slot}
use Rattle.statement.specs.Demand3.{Slots, Picks}
use Rattle.statement.specs.KeptInvariant.{Ghost, ghost₀, ghost_step}
use Rattle.publication_law.specs.Steps.{reader, publisher, look_tests, claim, in_use, write_tests, write, swap_tests, swap, made}
use Rattle.publication_law.specs.Clear.{MakingClear, ClaimClear}
use Rattle.publication_law.specs.Damage.{DamageRules}
use Rattle.publication_law.specs.DamageLaws.{Undamaged}
use Rattle.publication_law.specs.Core.{Hold}
use Rattle.publication_law.specs.CoreLaws.{claim_core, swap_core, write_core, held_is, held_bound, role_core, current_or_former_core, free_core, fresh_core}
use Rattle.publication_law.specs.Single.{formers_early, formers_swap, single, single_free}
use Rattle.publication_law.specs.PhaseLaws.{phase_writing, InPhase, in_phase_lem, move_phases, stay_phases, fresh_phases}
use Rattle.publication_law.specs.Moves.{publisher_moves, publisher_moves_head}
use Rattle.publication_law.specs.Invariant.{formers_of, Invariant}
use Rattle.publication_law.specs.InvariantLaws.{publisher_moved}

module _ (K : DamageRules) (z : Given) (g : Ghost) (s : State) (i : Invariant K z g s) where
  -- A slot that is not in use is held by nobody.
  unheld : (slot : ℕ) → in_use (retires K.number) s slot ≡ false → (q : ℕ) → Hold (publisher s q).place (publisher s q).held (formers_of (retires K.number) s q (publisher s q)) slot → ⊥
  unheld slot e q held = single_free (λ x. retires K.number && retired_slot s q x) _ _ slot
      (none_below (λ q. holds_slot (retires K.number) s q slot) (publishers s.words) q (or_false (eqb (current s.words) slot) _ e).1 ((i.core.publishers q).bound slot held)) held

  not_current : (slot : ℕ) → in_use (retires K.number) s slot ≡ false → current s.words ≢ slot
  not_current slot e = eqb-false _ _ (or_false (eqb (current s.words) slot) _ e).0

  pub claim_keeps : (exclusive : Bool) (p slot : ℕ) → ClaimClear exclusive (retires K.number) s p slot
      → K.publisher_damaged (readers s.words) (slots s.words) (publisher s p at_place place_claimed held≔ slot) ≡ false
      → Invariant K z (ghost_step g (Claim p slot) (Claimed slot)) (claim s p slot).after
  claim_keeps exclusive p slot f ok =
      let lt = f.publisher_named_lem in
      let at-place-0 = f.in_turn in
      let free-slot = f.unused in
      publisher_moved K z g s i _ _ _ p _ _ _ _ (publisher_moves i.no_damage p _ lt) refl i.no_damage.head.current_below i.no_damage.head.version_fits ok
      (claim_core _ _ _ _ _ _ _ _ _ _ _ i.core p slot (Claimed slot) _ lt (λ low high. omega arith) (not_current slot free-slot) (unheld slot free-slot)
      (λ slot'. formers_early (retires K.number && retired_slot s p slot') (publisher s p).place (publisher s p).held 1 slot slot' (omega arith) (omega arith)))
      (move_phases _ _ _ _ i.phases p 1 writing refl)

  -- No accepted CLAIM is of a picked slot.
  pub claim_unpicked : (exclusive : Bool) (p slot : ℕ) → ClaimClear exclusive (retires K.number) s p slot → (r : ℕ) → ¬ (g.told.picked r ≡ some slot)
  claim_unpicked exclusive p slot f r d = let free-slot = f.unused in
      current_or_former_core _ _ _ _ _ _ _ _ _ _ _ i.core r slot d (free_core _ _ _ _ _ _ _ _ _ _ _ i.core slot (not_current slot free-slot) (unheld slot free-slot))

  pub write_keeps : (p : ℕ) (v : ℤ) → AllClear (write_tests s p v) → (publisher s p).held < slots s.words
      → K.publisher_damaged (readers s.words) (slots s.words) (publisher s p at_place ((publisher s p).place + 1)) ≡ false
      → Invariant K z (ghost_step g (Write p v) (Written (publisher s p).place)) (write s p v).after
  write_keeps p v f held_below ok =
      let lt = leb-false (publishers s.words) p f.0 in
      let range = within 1 32 (publisher s p).place f.1.1.0 in
      let low : place_claimed ≤ (publisher s p).place = range.0 in
      let high : (publisher s p).place ≤ 32 = range.1 in
      let room : entry_at (publisher s p).held ((publisher s p).place - 1) < length s.entries = omega (arith, i.no_damage.head.entries_are) in
      publisher_moved K z g s i _ _ (set s.entries (entry_at (publisher s p).held ((publisher s p).place - 1)) v) p _ _ _ _ (publisher_moves i.no_damage p _ lt) (length-set s.entries _ v)
      i.no_damage.head.current_below i.no_damage.head.version_fits ok
      (rw (set_entry s.entries (publisher s p).held ((publisher s p).place - 1) v (omega arith) room)
      (write_core _ _ _ _ _ _ _ _ _ _ _ i.core p v (Written (publisher s p).place) _ low high
      (λ slot. formers_early (retires K.number && retired_slot s p slot) (publisher s p).place (publisher s p).held ((publisher s p).place + 1) (publisher s p).held slot (omega arith) (omega arith))))
      (stay_phases _ _ _ _ i.phases p ((publisher s p).place + 1) (phase_writing ((publisher s p).place + 1) (omega arith) (omega arith) ∙ sym (phase_writing (publisher s p).place low (omega arith))))

  pub swap_keeps : (p : ℕ) → AllClear (swap_tests s p) → (publisher s p).held < slots s.words
      → K.publisher_damaged (readers s.words) (slots s.words) (publisher s p at_place place_swapped held≔ current s.words) ≡ false
      → Invariant K z (ghost_step g (Swap p) (Swapped (current s.words))) (swap s p).after
  swap_keeps p f held_below ok =
      let lt = leb-false (publishers s.words) p f.0 in
      let at33 = eqb-true (publisher s p).place 33 (not-false _ f.1.0) in
      publisher_moved K z g s i _ _ _ p _ _ _ _
      (publisher_moves_head i.no_damage p _ lt current_at (publisher s p).held (omega arith) (omega arith)) refl held_below i.no_damage.head.version_fits ok
      (swap_core _ _ _ _ _ _ _ _ _ _ _ i.core p _ (Swapped (current s.words)) _ at33 (λ slot. formers_swap (retires K.number && retired_slot s p slot) (publisher s p).place (publisher s p).held (current s.words) slot (omega arith)))
      (move_phases _ _ _ _ i.phases p 34 swapped refl)

  -- What an accepted LOOK gives is the model's entry.
  pub look_right : (r k : ℕ) → AllClear (look_tests s r k) → entry (g.model.note r) k ≡ some (get_or s.entries (entry_at (reader s r).picked k) (pos 0))
  look_right r k f =
      let k32 : k < table_length = let not-less = ltb-false 31 k f.1.0 in omega arith in
      rw (lt-ltb k table_length k32) at ((i.core.readers r).noted (eqb-true _ _ (not-false _ f.1.1.0)) k k32)

  -- The kind word says whether slots are retired.
  held_of_kind : (p slot : ℕ) → held_slot s p slot ≡ holds_slot (retires K.number) s p slot
  held_of_kind p slot = ap (λ (kind : ℕ). holds_slot (retires kind) s p slot) i.no_damage.head.kind_is

  pub held_told : (p slot : ℕ) → held_slot s p slot ≡ holds g.told p slot
  held_told p slot = held_of_kind p slot ∙ single (retires K.number && retired_slot s p slot) (publisher s p).place (publisher s p).held slot ∙ sym (held_is _ _ _ _ _ _ _ _ _ _ _ i.core p slot)

  pub slots_right : Slots g.told s
  slots_right = record {
    role = role_core _ _ _ _ _ _ _ _ _ _ _ i.core;
    current = i.core.current_is;
    held = held_told;
    picked = λ r. sym (i.core.readers r).picked_is;
  }

  pub picks_right : Picks g.told
  picks_right r slot e = current_or_former_core _ _ _ _ _ _ _ _ _ _ _ i.core r slot e

  pub table_right : length g.model.table ≡ table_length
  table_right = i.core.whole

  -- A publisher's place, by its phase.
  pub placed : (p : ℕ) (phase : Phase) → g.tally.phase p ≡ phase → InPhase (publisher s p).place phase
  placed p phase e = subst (InPhase (publisher s p).place) (sym (i.phases.phases p) ∙ e) (in_phase_lem (publisher s p).place)

  -- Who is at a place other than 0 is told to hold a slot.
  holding : (p : ℕ) → eqb (publisher s p).place place_idle ≡ false → holds g.told p (publisher s p).held ≡ true
  holding p e = sym (held_told p (publisher s p).held) ∙ or_right (retires (kind_word s.words) && retired_slot s p (publisher s p).held) _ (rw (e, same (publisher s p).held) refl)

  at_0 : (p : ℕ) → eqb (publisher s p).place place_idle ≡ true → g.tally.phase p ≡ idle
  at_0 p e = i.phases.phases p ∙ rw e refl

  -- Who is told to hold nothing is idle; and who is not idle is a publisher of the store, at a place other than 0.
  pub idle_told : (p : ℕ) → ((slot : ℕ) → holds g.told p slot ≡ false) → g.tally.phase p ≡ idle
  idle_told p f = go (eqb (publisher s p).place place_idle) refl
    where
      go : (b : Bool) → eqb (publisher s p).place place_idle ≡ b → g.tally.phase p ≡ idle
      go true e = at_0 p e
      go false e = absurd (not_both _ (holding p e) (f (publisher s p).held))

  pub busy_told : (p : ℕ) → g.tally.phase p ≢ idle → (p < publishers s.words) × (eqb (publisher s p).place place_idle ≡ false)
  busy_told p ne = go (eqb (publisher s p).place place_idle) refl
    where
      go : (b : Bool) → eqb (publisher s p).place place_idle ≡ b → (p < publishers s.words) × (eqb (publisher s p).place place_idle ≡ false)
      go true e = absurd (ne (at_0 p e))
      go false e = (held_bound _ _ _ _ _ _ _ _ _ _ _ i.core p (publisher s p).held (holding p e), e)

  -- The slot that a publisher at 34 to 38 holds is told to be a former one of its.
  pub former_told : (p : ℕ) → place_swapped ≤ (publisher s p).place → g.told.former p (publisher s p).held ≡ true
  former_told p l = (i.core.publishers p).former_is (publisher s p).held ∙ or_right (retires K.number && retired_slot s p (publisher s p).held) _ (rw (le-leb 34 (publisher s p).place l, same (publisher s p).held) refl)

  -- A slot that is told free is not in use.
  pub free_told : (slot : ℕ) → Has g.told slot free → in_use (retires K.number) s slot ≡ false
  free_told slot f = rw (current_not, no_below (λ q. holds_slot (retires K.number) s q slot) (publishers s.words) (λ q l. sym (held_of_kind q slot) ∙ (held_told q slot ∙ f.1 q))) refl
    where
      current_not : eqb (current s.words) slot ≡ false
      current_not = rw i.core.current_is at f.0

  -- A slot that is not in use is told free.
  pub unused_told : (slot : ℕ) → in_use (retires K.number) s slot ≡ false → Has g.told slot free
  unused_told slot unused =
      let parts = or_false (eqb (current s.words) slot) _ unused in (
        rw i.core.current_is parts.0,
        λ p. by_test (holds g.told p slot) (λ held. not_both (holds g.told p slot) held
            (sym (held_told p slot) ∙ (held_of_kind p slot ∙ none_below _ (publishers s.words) p parts.1 (held_bound _ _ _ _ _ _ _ _ _ _ _ i.core p slot held)))),
      )

-- A fresh store: what holds of every reader and every publisher ..
module _ (number : ℕ) (x : Reader) (z : Given) (s : State) where
  pub readers_fresh : (f : Reader → ℕ) → f x ≡ 0 → f no_reader ≡ 0 → ◌≡◌ {A = ℕ → ℕ} (λ r. f (reader (made number x z s) r)) (λ r. 0)
  readers_fresh f out none = fun_ext (λ r. ap f (fresh_reader_lem number z.readers z.publishers z.slots z.version x r) ∙ choose_split (λ (x' : Reader). f x' ≡ 0) (ltb r readers_max) (λ _. out) (λ _. none))

  pub publishers_fresh : {B : Type 0} (f : Publisher → B) → ◌≡◌ {A = ℕ → B} (λ p. f (publisher (made number x z s) p)) (λ p. f no_publisher)
  publishers_fresh f = fun_ext (λ p. ap f (fresh_publisher number z.readers z.publishers z.slots z.version x p))

-- .. and that it has the invariant.
module _ (K : DamageRules) (of_participants : Bool) (x : Reader) (z : Given) (s : State) (f : MakingClear of_participants K.versions z s) where
  w : List ℕ
  w = fresh_words K.number z.readers z.publishers z.slots z.version x

  head : (j : ℕ) → j < head_word_count → get_or w j 0 ≡ choose (eqb j version_at) z.version (choose (eqb j slots_at) z.slots (choose (eqb j publishers_at) z.publishers (choose (eqb j readers_at) z.readers (choose (eqb j kind_at) K.number 0))))
  unfolding w
  head j l = fresh_head K.number z.readers z.publishers z.slots z.version x j l

  entries_long : length (tables z.slots z.table) ≡ z.slots * table_length
  entries_long = tables_long z.table f.table_long z.slots

  made_undamaged : K.reader_damaged z.readers z.slots x ≡ false → K.publisher_damaged z.readers z.slots no_publisher ≡ false → Undamaged K (made K.number x z s)
  unfolding w
  made_undamaged reader-ok publisher-ok = record {
    head = record {
      long = fresh_long K.number z.readers z.publishers z.slots z.version x;
      kind_is = head kind_at (omega arith);
      readers_low = rw (head readers_at (omega arith)) f.readers_low;
      readers_high = rw (head readers_at (omega arith)) f.readers_high;
      publishers_low = rw (head publishers_at (omega arith)) f.publishers_low;
      publishers_high = rw (head publishers_at (omega arith)) f.publishers_high;
      slots_low = rw (head slots_at (omega arith)) f.slots_low;
      slots_high = rw (head slots_at (omega arith)) f.slots_high;
      entries_are = rw (head slots_at (omega arith)) entries_long;
      current_below = rw (head slots_at (omega arith), head current_at (omega arith)) (omega (arith, f.slots_low));
      version_fits = rw (head version_at (omega arith)) f.version_fits;
    };
    readers_undamaged = rw (head readers_at (omega arith), head slots_at (omega arith))
        (λ r l. rw (fresh_reader_lem K.number z.readers z.publishers z.slots z.version x r, lt-ltb r readers_max (omega (arith, f.readers_high))) reader-ok);
    publishers_undamaged = rw (head readers_at (omega arith), head publishers_at (omega arith), head slots_at (omega arith))
        (λ p l. rw (fresh_publisher K.number z.readers z.publishers z.slots z.version x p) publisher-ok);
  }

  -- Nothing is retired.
  formers_fresh : ◌≡◌ {A = ℕ → ℕ → Bool} (λ p. formers_of (retires K.number) (made K.number x z s) p (publisher (made K.number x z s) p)) (λ p slot. false)
  unfolding any_below
  formers_fresh = fun_ext (λ p. fun_ext (λ slot. rw (fresh_publisher K.number z.readers z.publishers z.slots z.version x p, none_retired p slot) (and_none (retires K.number))))
    where
      none_retired : (p slot : ℕ) → retired_slot (made K.number x z s) p slot ≡ false
      none_retired p slot = rw (fresh_retirement K.number z.readers z.publishers z.slots z.version x p) refl

      and_none : (retiring : Bool) → (retiring && false) || false ≡ false
      and_none true = refl
      and_none false = refl

  pub made_invariant : x.place ≡ place_out → x.picked ≡ 0 → K.reader_damaged z.readers z.slots x ≡ false → K.publisher_damaged z.readers z.slots no_publisher ≡ false
      → Invariant K z (ghost₀ z.readers z.table) (made K.number x z s)
  unfolding w
  made_invariant out none reader-ok publisher-ok = record {
    no_damage = made_undamaged reader-ok publisher-ok;
    sized = record { readers_are = head readers_at (omega arith); publishers_are = head publishers_at (omega arith); slots_are = head slots_at (omega arith) };
    core = rw (
      head readers_at (omega arith),
      head publishers_at (omega arith),
      head current_at (omega arith),
      readers_fresh K.number x z s (λ (x' : Reader). x'.place) out refl,
      readers_fresh K.number x z s (λ (x' : Reader). x'.picked) none refl,
      publishers_fresh K.number x z s (λ (y : Publisher). y.place),
      publishers_fresh K.number x z s (λ (y : Publisher). y.held),
      formers_fresh,
    )
        (fresh_core z.table _ _ (slot_entry (tables z.slots z.table)) f.table_long
        (λ k l. entry_within z.table k (omega (arith, f.table_long)) ∙ ap some (rw (lt-ltb k table_length l) (sym (tables_entry z.table f.table_long z.slots 0 k (omega (arith, f.slots_low)) l)))));
    phases = rw (readers_fresh K.number x z s (λ (x' : Reader). x'.place) out refl, publishers_fresh K.number x z s (λ (y : Publisher). y.place)) fresh_phases;
  }
