-- Demand 3 and its companions from an invariant that each step keeps, once for every kind of store; what grace periods add, once for every kind that has them.
-- The ghost is what the calls told so far; one lemma carries an invariant of ghost and state to any split of the events. Assumes nothing.
use Rattle.std.specs.Prelude.{ℕ, ◌+◌, ◌≡◌, refl, ◌⊎◌, Bool, true, false, List, [], ◌∷◌, ◌++◌, ℤ, length, eqb}
use Rattle.std.proofs.Common.{arith, sym, ap, ◌∙◌, subst, inl, inr, eqb-true}
use Rattle.std.proofs.Math.Option.{Option, none, some}
use Rattle.base.specs.Base.{choose, upd, is}
use Rattle.base.specs.RowLaws.{not_both, same, choose_split}
use Rattle.calls.specs.declared.Call.{Call}
use Rattle.calls.specs.declared.Call.TheVariants.{Enter, Look, Leave, Claim, Write, Swap, Sync, Raise, Walk, Release, Pick, Checkpoint, Defer}
use Rattle.calls.specs.declared.Reply.{Reply}
use Rattle.calls.specs.declared.Reply.TheVariants.{Pitch, Walked}
use Rattle.calls.specs.declared.WalkReply.TheVariants.{Returned}
use Rattle.calls.specs.Numbers.{table_length, place_open, place_picked}
use Rattle.calls.specs.Events.{Event, accepted, place_of, moved_by, fold_events}
use Rattle.calls.specs.Events.Event.{◌⇒◌}
use Rattle.calls.specs.Model.{Model, model₀, model_step, entry}
use Rattle.calls.specs.Told.{Told, told₀, tell, after_enter, after_checkpoint}
use Rattle.calls.specs.Tally.{Tally, tally₀, tally}
use Rattle.calls.specs.Tally.Phase.{raised, returned}
use Rattle.statement.specs.Machine.{State, Given, Machine, Fresh, events, after_all}
use Rattle.statement.specs.Demand3.{LeftIn, Slots, Picks, Returns, Due, Demand3}
use Rattle.statement.specs.Companions.{Traits, GraceTraits, StateCompanions, GraceStateCompanions, ListCompanions, GraceListCompanions, Companions, GraceCompanions}

-- For which readers the last synchronise of a publisher has still to wait: open at it, and not left since.
abbrev pub Pend : Type 0
Pend = ℕ → ℕ → Bool

abbrev pub pending : Pend → Told → Call → Pend
pending pend t (Enter r) = pend
pending pend t (Look r k) = pend
pending pend t (Leave r) = λ q. upd (pend q) r false
pending pend t (Claim p slot) = pend
pending pend t (Write p v) = pend
pending pend t (Swap p) = pend
pending pend t (Sync p) = upd pend p t.inside
pending pend t (Raise p) = pend
pending pend t (Walk p b) = pend
pending pend t (Release p) = pend
pending pend t (Pick r) = pend
pending pend t (Checkpoint r) = pend
pending pend t (Defer p) = pend

-- All that the calls told, with what is pending.
pub record Ghost : Type 0 where
  pub model : Model
  pub told : Told
  pub pend : Pend
  pub tally : Tally

abbrev pub ghost₀ : ℕ → List ℤ → Ghost
ghost₀ n first = record { model = model₀ first; told = told₀ n; pend = λ p r. false; tally = tally₀ }

-- After an accepted call, and after any call.
abbrev pub ghost_step : Ghost → Call → Reply → Ghost
ghost_step g c a = record { model = model_step g.model c a; told = tell g.told c a; pend = pending g.pend g.told c; tally = tally g.tally c a }

abbrev pub after_event : Ghost → Event → Ghost
after_event g e = moved_by ghost_step g e

abbrev pub after_events : Ghost → List Event → Ghost
after_events g es = fold_events ghost_step g es

-- The parts of the ghost are the folds of the statement.
all_part : {A : Type 0} (part : Ghost → A) (fold : A → Call → Reply → A) → ((g : Ghost) (c : Call) (a : Reply) → part (ghost_step g c a) ≡ fold (part g) c a)
    → (g : Ghost) (es : List Event) → part (after_events g es) ≡ fold_events fold (part g) es
all_part part fold along g [] = refl
all_part part fold along g ((c ⇒ a) ∷ es) = all_part part fold along (after_event g (c ⇒ a)) es ∙ ap (λ value. fold_events fold value es) (go (accepted a))
  where
    go : (test : Bool) → part (choose test (ghost_step g c a) g) ≡ choose test (fold (part g) c a) (part g)
    go true = along g c a
    go false = refl

all_model : (g : Ghost) (es : List Event) → (after_events g es).model ≡ fold_events model_step g.model es
all_model = all_part (λ g. g.model) model_step (λ g c a. refl)

pub all_told : (g : Ghost) (es : List Event) → (after_events g es).told ≡ fold_events tell g.told es
all_told = all_part (λ g. g.told) tell (λ g c a. refl)

pub all_tally : (g : Ghost) (es : List Event) → (after_events g es).tally ≡ fold_events tally g.tally es
all_tally = all_part (λ g. g.tally) tally (λ g c a. refl)

-- What a return shows.
pub record Back (traits : GraceTraits) (z : Given) (g : Ghost) (p looks waits : ℕ) : Type 0 where
  pub none_pending : (r : ℕ) → g.pend p r ≡ false
  pub in_order_lem : g.tally.phase p ≡ raised
  pub looks_are : looks ≡ traits.passes z + waits
  pub waits_are : waits ≡ g.tally.waits p

-- An invariant of a kind, which holds of every fresh state and is kept by every step, and what it gives.
pub record KeptInvariant (M : Machine) (traits : Traits) : Type 1 where
  pub Inv : Given → Ghost → State → Type 0
  pub start : (s : State) (f : Fresh M s) → Inv f.arguments (ghost₀ f.arguments.readers (traits.first_table f.arguments)) s
  pub keep : (z : Given) (g : Ghost) (s : State) → Inv z g s → (c : Call) → Inv z (after_event g (c ⇒ (M.step s c).reply)) (M.step s c).after
  pub look : (z : Given) (g : Ghost) (s : State) → Inv z g s → (r k : ℕ)
      → accepted (M.step s (Look r k)).reply ≡ true → (v : ℤ) × ((M.step s (Look r k)).reply ≡ Pitch v) × (entry (g.model.note r) k ≡ some v)
  pub claim : (z : Given) (g : Ghost) (s : State) → Inv z g s → (p slot r : ℕ)
      → accepted (M.step s (Claim p slot)).reply ≡ true → ¬ (g.told.picked r ≡ some slot)
  pub slots : (z : Given) (g : Ghost) (s : State) → Inv z g s → Slots g.told s
  pub picks : (z : Given) (g : Ghost) (s : State) → Inv z g s → Picks g.told
  pub table : (z : Given) (g : Ghost) (s : State) → Inv z g s → length g.model.table ≡ table_length
  pub state_companions : (z : Given) (g : Ghost) (s : State) → Inv z g s → StateCompanions M traits z g.model g.told g.tally s

-- What it gives besides of a kind with sections and grace periods.
pub record GraceKeptInvariant (M : Machine) (traits : GraceTraits) : Type 1 where
  pub every : KeptInvariant M traits.every
  pub back : (z : Given) (g : Ghost) (s : State) → every.Inv z g s → (p b looks waits : ℕ) → (M.step s (Walk p b)).reply ≡ Walked (Returned looks waits) → Back traits z g p looks waits
  pub release : (z : Given) (g : Ghost) (s : State) → every.Inv z g s → (p : ℕ) → accepted (M.step s (Release p)).reply ≡ true → g.tally.phase p ≡ returned
  pub state_companions : (z : Given) (g : Ghost) (s : State) → every.Inv z g s → GraceStateCompanions M traits z g.model g.told g.tally s

no_cons : {A : Type 0} (x : A) (l : List A) → [] ≡ x ∷ l → ⊥
no_cons x l e = let no : ◌≡◌ {A = ℕ} 0 1 = cc in omega arith

module _ (M : Machine) (traits : Traits) (kept : KeptInvariant M traits) (z : Given) where
  -- At a split of the events before a call: the state there, with the invariant.
  record Reach (g : Ghost) (pre : List Event) (c : Call) (a : Reply) (post : List Event) : Type 0 where
    at_state : State
    inv : kept.Inv z (after_events g pre) at_state
    reply_is : a ≡ (M.step at_state c).reply
    rest : List Call
    post_is : events M (M.step at_state c).after rest ≡ post

  reach : (g : Ghost) (s : State) → kept.Inv z g s → (cs : List Call) (pre : List Event) (c : Call) (a : Reply) (post : List Event)
      → events M s cs ≡ pre ++ (c ⇒ a) ∷ post → Reach g pre c a post
  reach g s i [] [] c a post e = absurd (no_cons _ _ e)
  reach g s i [] (event ∷ pre) c a post e = absurd (no_cons _ _ e)
  reach g s i (d ∷ cs) [] c a post e =
      let same-call : d ≡ c = cc in
      record { at_state = s; inv = i; reply_is = cc; rest = cs; post_is = cc }
  reach g s i (d ∷ cs) (event ∷ pre) c a post e =
      let reply = (M.step s d).reply in
      let later = reach (after_event g (d ⇒ reply)) (M.step s d).after (kept.keep z g s i d) cs pre c a post (cc) in
      let now : Reach g ((d ⇒ reply) ∷ pre) c a post = record { at_state = later.at_state; inv = later.inv; reply_is = later.reply_is; rest = later.rest; post_is = later.post_is } in
      subst (λ (event : Event). Reach g (event ∷ pre) c a post) (cc) now

  pub kept_after : (g : Ghost) (s : State) → kept.Inv z g s → (cs : List Call) → kept.Inv z (after_events g (events M s cs)) (after_all M s cs)
  kept_after g s i [] = i
  kept_after g s i (d ∷ cs) = kept_after (after_event g (d ⇒ (M.step s d).reply)) (M.step s d).after (kept.keep z g s i d) cs

-- A reader that a synchronise waits for is waited for until it leaves.
record Still (g : Ghost) (p r : ℕ) : Type 0 where
  awaited : g.pend p r ≡ true
  opened : g.told.inside r ≡ true

choose_true : (test one other : Bool) → one ≡ true → other ≡ true → choose test one other ≡ true
choose_true true one other e d = e
choose_true false one other e d = d

-- ENTER closes no section.
entered_inside : (t : Told) (r' r : ℕ) (place : Option ℕ) → t.inside r ≡ true → (after_enter t r' place).inside r ≡ true
entered_inside t r' r place e = choose_split (λ (t' : Told). t'.inside r ≡ true) (is place place_open)
    (λ _. choose_true (eqb r r') true (t.inside r) refl e)
    (λ _. choose_split (λ (t' : Told). t'.inside r ≡ true) (is place place_picked) (λ _. there (eqb r r') refl) (λ _. e))
  where
    there : (test : Bool) → eqb r r' ≡ test → choose (eqb r r') (t.inside r') (t.inside r) ≡ true
    there true d = rw (d, ← eqb-true r r' d) e
    there false d = rw d e

-- Nor does a CHECKPOINT.
checked_inside : (t : Told) (r' r : ℕ) (step : Option ℕ) → t.inside r ≡ true → (after_checkpoint t r' step).inside r ≡ true
checked_inside t r' r none e = e
checked_inside t r' r (some k) e = e

still_call : (g : Ghost) (p r : ℕ) → Still g p r → (c : Call) (a : Reply) → (c ≡ Leave r) ⊎ Still (ghost_step g c a) p r
still_call g p r awaits (Enter r') a = inr (record { awaited = awaits.awaited; opened = entered_inside g.told r' r (place_of a) awaits.opened })
still_call g p r awaits (Look r' k) a = inr (record { awaited = awaits.awaited; opened = awaits.opened })
still_call g p r awaits (Leave r') a = go (eqb r r') refl
  where
    go : (test : Bool) → eqb r r' ≡ test → (Leave r' ≡ Leave r) ⊎ Still (ghost_step g (Leave r') a) p r
    go true e = inl (ap Leave (sym (eqb-true r r' e)))
    go false e = inr (record { awaited = rw e awaits.awaited; opened = rw e awaits.opened })
still_call g p r awaits (Claim q slot) a = inr (record { awaited = awaits.awaited; opened = awaits.opened })
still_call g p r awaits (Write q v) a = inr (record { awaited = awaits.awaited; opened = awaits.opened })
still_call g p r awaits (Swap q) a = inr (record { awaited = awaits.awaited; opened = awaits.opened })
still_call g p r awaits (Sync q) a = inr (record { awaited = go (eqb p q); opened = awaits.opened })
  where
    go : (test : Bool) → choose test g.told.inside (g.pend p) r ≡ true
    go true = awaits.opened
    go false = awaits.awaited
still_call g p r awaits (Raise q) a = inr (record { awaited = awaits.awaited; opened = awaits.opened })
still_call g p r awaits (Walk q b) a = inr (record { awaited = awaits.awaited; opened = awaits.opened })
still_call g p r awaits (Release q) a = inr (record { awaited = awaits.awaited; opened = awaits.opened })
still_call g p r awaits (Pick r') a = inr (record { awaited = awaits.awaited; opened = awaits.opened })
still_call g p r awaits (Checkpoint r') a = inr (record { awaited = awaits.awaited; opened = checked_inside g.told r' r (place_of a) awaits.opened })
still_call g p r awaits (Defer q) a = inr (record { awaited = awaits.awaited; opened = awaits.opened })

still_one : (g : Ghost) (p r : ℕ) → Still g p r → (c : Call) (a : Reply) → ((c ≡ Leave r) × (accepted a ≡ true)) ⊎ Still (after_event g (c ⇒ a)) p r
still_one g p r awaits c a = go (accepted a) refl (still_call g p r awaits c a)
  where
    go : (test : Bool) → accepted a ≡ test → (c ≡ Leave r) ⊎ Still (ghost_step g c a) p r → ((c ≡ Leave r) × (accepted a ≡ true)) ⊎ Still (after_event g (c ⇒ a)) p r
    go true e (inl leaves) = inl (leaves, e)
    go true e (inr after) = inr (rw e after)
    go false e either = inr (rw e awaits)

still_next : (g : Ghost) (p r : ℕ) (c : Call) (a : Reply) (es : List Event) → ((c ≡ Leave r) × (accepted a ≡ true)) ⊎ Still (after_event g (c ⇒ a)) p r
    → (Still (after_event g (c ⇒ a)) p r → LeftIn r es ⊎ ((after_events (after_event g (c ⇒ a)) es).pend p r ≡ true))
    → LeftIn r ((c ⇒ a) ∷ es) ⊎ ((after_events (after_event g (c ⇒ a)) es).pend p r ≡ true)
still_next g p r c a es (inl leaves) onward = inl (record { before = []; reply = a; behind = es; here = ap (λ call. (call ⇒ a) ∷ es) leaves.0; taken = leaves.1 })
still_next g p r c a es (inr awaits) onward = go (onward awaits)
  where
    go : LeftIn r es ⊎ ((after_events (after_event g (c ⇒ a)) es).pend p r ≡ true) → LeftIn r ((c ⇒ a) ∷ es) ⊎ ((after_events (after_event g (c ⇒ a)) es).pend p r ≡ true)
    go (inl left) = inl (record { before = (c ⇒ a) ∷ left.before; reply = left.reply; behind = left.behind; here = ap (λ rest. (c ⇒ a) ∷ rest) left.here; taken = left.taken })
    go (inr e) = inr e

still : (g : Ghost) (p r : ℕ) → Still g p r → (es : List Event) → LeftIn r es ⊎ ((after_events g es).pend p r ≡ true)
still g p r awaits [] = inr awaits.awaited
still g p r awaits ((c ⇒ a) ∷ es) = still_next g p r c a es (still_one g p r awaits c a) (λ after. still (after_event g (c ⇒ a)) p r after es)

or_left : (A : Type 0) (test : Bool) → A ⊎ (test ≡ true) → test ≡ false → A
or_left A test (inl value) e = value
or_left A test (inr d) e = absurd (not_both test d e)

still_synced : (g : Ghost) (p r : ℕ) (a : Reply) → accepted a ≡ true → g.told.inside r ≡ true → Still (after_event g (Sync p ⇒ a)) p r
still_synced g p r a ok e = rw ok (record { awaited = rw (same p) e; opened = e })

-- What an invariant gives after every list from fresh.
module _ (M : Machine) (traits : Traits) (kept : KeptInvariant M traits) (s : State) (f : Fresh M s) (cs : List Call) where
  to : (pre : List Event) (c : Call) (a : Reply) (post : List Event) → events M s cs ≡ pre ++ (c ⇒ a) ∷ post → Reach M traits kept f.arguments (ghost₀ f.arguments.readers (traits.first_table f.arguments)) pre c a post
  to pre c a post e = reach M traits kept f.arguments (ghost₀ f.arguments.readers (traits.first_table f.arguments)) s (kept.start s f) cs pre c a post e

  ending : kept.Inv f.arguments (after_events (ghost₀ f.arguments.readers (traits.first_table f.arguments)) (events M s cs)) (after_all M s cs)
  ending = kept_after M traits kept f.arguments (ghost₀ f.arguments.readers (traits.first_table f.arguments)) s (kept.start s f) cs

  due : Returns M f.arguments.readers s cs → Due M (traits.first_table f.arguments) f.arguments.readers s cs
  due returns = record {
    looks = λ pre post r k a e ok.
        let there = to pre (Look r k) a post e in
        let found = kept.look _ _ there.at_state there.inv r k (rw there.reply_is at ok) in
        (found.0, there.reply_is ∙ found.1, rw (← all_model (ghost₀ f.arguments.readers (traits.first_table f.arguments)) pre) found.2);
    returns = returns;
    slots = rw (← all_told (ghost₀ f.arguments.readers (traits.first_table f.arguments)) (events M s cs)) (kept.slots _ _ _ ending);
    picks = rw (← all_told (ghost₀ f.arguments.readers (traits.first_table f.arguments)) (events M s cs)) (kept.picks _ _ _ ending);
    claims = λ pre post p slot r a e ok picked.
        let there = to pre (Claim p slot) a post e in
        kept.claim _ _ there.at_state there.inv p slot r (rw there.reply_is at ok) (rw (all_told (ghost₀ f.arguments.readers (traits.first_table f.arguments)) pre) picked);
  }

  list_companions : ListCompanions M traits f.arguments s cs
  list_companions = record {
    state_companions = rw (← all_model (ghost₀ f.arguments.readers (traits.first_table f.arguments)) (events M s cs), ← all_told (ghost₀ f.arguments.readers (traits.first_table f.arguments)) (events M s cs), ← all_tally (ghost₀ f.arguments.readers (traits.first_table f.arguments)) (events M s cs)) (kept.state_companions _ _ _ ending);
    tables = rw (← all_model (ghost₀ f.arguments.readers (traits.first_table f.arguments)) (events M s cs)) (kept.table _ _ _ ending);
  }

  -- Returns, where a return shows that nobody is waited for any more; and of a machine that accepts no SYNC.
  pub returns_waited : ((z : Given) (g : Ghost) (s : State) → kept.Inv z g s → (p b looks waits : ℕ) → (M.step s (Walk p b)).reply ≡ Walked (Returned looks waits) → (r : ℕ) → g.pend p r ≡ false) → Returns M f.arguments.readers s cs
  returns_waited none_pending pre mid post p b looks waits r a e ok inside =
      let there = to pre (Sync p) a (mid ++ (Walk p b ⇒ Walked (Returned looks waits)) ∷ post) e in
      let reply = (M.step there.at_state (Sync p)).reply in
      let later = reach M traits kept f.arguments _ (M.step there.at_state (Sync p)).after (kept.keep _ _ there.at_state there.inv (Sync p)) there.rest mid (Walk p b) (Walked (Returned looks waits)) post there.post_is in
      or_left (LeftIn r mid) _
      (still _ p r (still_synced (after_events (ghost₀ f.arguments.readers (traits.first_table f.arguments)) pre) p r reply (rw there.reply_is at ok) (rw (all_told (ghost₀ f.arguments.readers (traits.first_table f.arguments)) pre) inside)) mid)
      (none_pending _ _ later.at_state later.inv p b looks waits (sym later.reply_is) r)

  pub returns_never : ((s : State) (p : ℕ) → accepted (M.step s (Sync p)).reply ≡ false) → Returns M f.arguments.readers s cs
  returns_never no_sync pre mid post p b looks waits r a e ok inside =
      let there = to pre (Sync p) a (mid ++ (Walk p b ⇒ Walked (Returned looks waits)) ∷ post) e in
      absurd (not_both _ (rw there.reply_is at ok) (no_sync there.at_state p))

-- The theorems. Demand 3 asks, beside what every kind keeps, for its returns.
pub demand3 : (M : Machine) (traits : Traits) → KeptInvariant M traits → ((s : State) (f : Fresh M s) (cs : List Call) → Returns M f.arguments.readers s cs) → Demand3 M traits.first_table
demand3 M traits kept returns s f cs = due M traits kept s f cs (returns s f cs)

pub companions : (M : Machine) (traits : Traits) → KeptInvariant M traits → Companions M traits
companions M traits kept s f cs = list_companions M traits kept s f cs

-- .. and of a kind with sections and grace periods.
module _ (M : Machine) (traits : GraceTraits) (kept : GraceKeptInvariant M traits) (s : State) (f : Fresh M s) (cs : List Call) where
  waited : Returns M f.arguments.readers s cs
  waited = returns_waited M traits.every kept.every s f cs (λ z g s i p b looks waits e. (kept.back z g s i p b looks waits e).none_pending)

  grace_list_companions : GraceListCompanions M traits f.arguments s cs
  grace_list_companions = record {
    every = companions M traits.every kept.every s f cs;
    state_companions = rw (← all_model (ghost₀ f.arguments.readers (traits.every.first_table f.arguments)) (events M s cs), ← all_told (ghost₀ f.arguments.readers (traits.every.first_table f.arguments)) (events M s cs), ← all_tally (ghost₀ f.arguments.readers (traits.every.first_table f.arguments)) (events M s cs)) (kept.state_companions _ _ _ (ending M traits.every kept.every s f cs));
    returns_after = λ pre post p b looks waits e. let there = to M traits.every kept.every s f cs pre (Walk p b) (Walked (Returned looks waits)) post e in
        rw (← all_tally (ghost₀ f.arguments.readers (traits.every.first_table f.arguments)) pre) (kept.back _ _ there.at_state there.inv p b looks waits (sym there.reply_is)).in_order_lem;
    releases_after = λ pre post p a e ok. let there = to M traits.every kept.every s f cs pre (Release p) a post e in
        rw (← all_tally (ghost₀ f.arguments.readers (traits.every.first_table f.arguments)) pre) (kept.release _ _ there.at_state there.inv p (rw there.reply_is at ok));
    looks_are = λ pre post p b looks waits e. let there = to M traits.every kept.every s f cs pre (Walk p b) (Walked (Returned looks waits)) post e in
        (kept.back _ _ there.at_state there.inv p b looks waits (sym there.reply_is)).looks_are;
    waits_are = λ pre post p b looks waits e. let there = to M traits.every kept.every s f cs pre (Walk p b) (Walked (Returned looks waits)) post e in
        rw (← all_tally (ghost₀ f.arguments.readers (traits.every.first_table f.arguments)) pre) (kept.back _ _ there.at_state there.inv p b looks waits (sym there.reply_is)).waits_are;
  }

pub grace_demand3 : (M : Machine) (traits : GraceTraits) → GraceKeptInvariant M traits → Demand3 M traits.every.first_table
grace_demand3 M traits kept = demand3 M traits.every kept.every (waited M traits kept)

pub grace_companions : (M : Machine) (traits : GraceTraits) → GraceKeptInvariant M traits → GraceCompanions M traits
grace_companions M traits kept s f cs = grace_list_companions M traits kept s f cs
