-- What a participant has observed never falls; and a deferred slot is surely freed: once every other participant has observed its mark, the owner's next whole checkpoint frees it.
-- During that checkpoint everything that it loads, observes and reads is at or above the mark. Assumes nothing.
use Prim.Native.Nat.{ℕ, ◌+◌, ◌-◌, ◌<◌, ◌≤◌, min}
use native.Mathlib.Omega.{arith}
use Rattle.std.proofs.Math.Path.{◌≡◌, refl, sym}
use Rattle.std.proofs.Common.{ap, ◌∙◌, subst}
use Rattle.std.specs.Prelude.{◌≢◌, Bool, not, ◌&&◌, ◌||◌, List, [], ◌∷◌, ◌++◌, leb}
use Rattle.std.proofs.Math.Bool.{true, false}
use Rattle.std.proofs.Math.Option.{Option, some}
use Rattle.std.proofs.Math.Dec.{eqb}
use borrow.Author.Tests.{eqb-true, eqb-false, eq-eqb, ne_eqb, leb-true, leb-false, le-leb, not-false}
use Rattle.base.specs.Base.{choose, is}
use Rattle.base.specs.Rows.{any_below}
use Rattle.base.specs.RowLaws.{clash, by_test, or_false, or_left, or_right, neither, same, at_or, and_true, any_below_lem, choose_split, AllClear}
use Rattle.calls.specs.declared.Call.{Call}
use Rattle.calls.specs.declared.Call.TheVariants.{Enter, Look, Leave, Claim, Write, Swap, Sync, Raise, Walk, Release, Pick, Checkpoint, Defer}
use Rattle.calls.specs.declared.Reply.{Reply}
use Rattle.calls.specs.declared.Reply.TheVariants.{At}
use Rattle.calls.specs.Numbers.{place_claimed, place_written, place_swapped, place_deferring}
use Rattle.calls.specs.Events.{Event, accepted}
use Rattle.calls.specs.Events.Event.{◌⇒◌}
use Rattle.calls.specs.Deferral.{Deferral, is_last_step, least_after, freed_by, after_step, after_queue}
use Rattle.calls.specs.Told.{holds, Role, Has}
use Rattle.calls.specs.Told.Role.{current, held_by, free}
use Rattle.layout.specs.Layout.{readers, publishers, retirement_at, retired_at}
use Rattle.statement.specs.Machine.{State, Outcome, Given, events, after_all, retired_slot}
use Rattle.statement.specs.Quiescent.{ObservedNeverFalls, NotBegun, SurelyFreed, FreesSurely}
use Rattle.statement.specs.KeptInvariant.{Ghost, ghost₀, ghost_step, after_event, after_events, all_told, all_tally}
use Rattle.publication_law.specs.Steps.{publisher}
use Rattle.publication_law.specs.Table.{rows, step}
use Rattle.publication_law.specs.Decide.{decided}
use Rattle.publication_law.specs.Core.Hold.{by_swap}
use Rattle.publication_law.proofs.Keeps.{slots_right}
use Rattle.qsbr_law.specs.Steps.{damage_rules, retirement, act, checkpoint, defer, rules, Qsbr}
use Rattle.qsbr_law.specs.KindInvariant.{MarkedAs, RestInvariant}
use Rattle.qsbr_law.proofs.Promises.{all_numbers, next_step, stepped, state_companions, start_rest}

no_cons : {A : Type 0} (x : A) (l : List A) → [] ≡ x ∷ l → ⊥
no_cons x l e = let no : ◌≡◌ {A = ℕ} 0 1 = cc in omega arith

-- Of the replies of CHECKPOINT and DEFER.
module _ (z : Given) (g : Ghost) (s : State) (i : RestInvariant z g s) where
  d : Deferral
  d = g.told.deferral

  -- An accepted CHECKPOINT of r: what is loaded is not below what r has observed, where it observes.
  observes_more : (r : ℕ) → r < readers s.words → d.step r ≡ 1 → d.observed r ≤ d.loaded r
  unfolding d
  observes_more r lt one =
      let inside : 1 ≤ (retirement_at s.words r).step = omega (arith, i.told_epochs.steps_are r) in
      omega (arith, (i.epochs.inside r inside).loaded_high, i.told_epochs.loads_are r inside, i.told_epochs.observed_are r lt)

  -- A DEFER at 35: the mark is not below what p has observed.
  marks_more : (p : ℕ) → p < readers s.words → (publisher s p).place ≡ place_deferring → d.observed p ≤ d.mark p
  unfolding d
  marks_more p lt at35 = omega (arith, (i.epochs.raised p at35).mark_high, i.told_epochs.mark_is p at35, i.told_epochs.observed_are p lt)

  -- One call: nothing observed falls.
  Up : Call → Outcome → Type 0
  Up c o = (r : ℕ) → d.observed r ≤ (after_event g (c ⇒ o.reply)).told.deferral.observed r

  stays_up : (c : Call) → ((r : ℕ) → (ghost_step g c (act s c).reply).told.deferral.observed r ≡ d.observed r) → Up c (act s c)
  unfolding Up d
  stays_up c e r = choose_split (λ (g' : Ghost). g.told.deferral.observed r ≤ g'.told.deferral.observed r) (accepted (act s c).reply) (λ _. omega (arith, e r)) (λ _. omega arith)

  checkpoint_up : (r : ℕ) → r < readers s.words → Up (Checkpoint r) (checkpoint s r)
  unfolding Up d
  checkpoint_up r lt = rw (next_step s r) (at_or r (rw (same r) (choose_split (λ (n : ℕ). g.told.deferral.observed r ≤ n) (eqb ((retirement s r).step + 1) 2) (λ e. observes_more r lt (let two = eqb-true ((retirement s r).step + 1) 2 e in omega (arith, i.told_epochs.steps_are r))) (λ _. omega arith)))
      (λ j e. rw e (omega arith)))

  defer_up : (p : ℕ) → p < readers s.words → ((publisher s p).place ≢ place_swapped → (publisher s p).place ≡ place_deferring) → Up (Defer p) (defer s p)
  unfolding Up d
  defer_up p lt at35 = choose_split (λ (o : Outcome). (r : ℕ) → g.told.deferral.observed r ≤ (after_event g (Defer p ⇒ o.reply)).told.deferral.observed r) (eqb (publisher s p).place place_swapped) (λ _ r. omega arith)
      (λ ne. at_or p (rw (same p) (marks_more p lt (at35 (eqb-false _ _ ne)))) (λ j e. rw e (omega arith)))

  act_up : (c : Call) → AllClear (rows rules s c) → Up c (act s c)
  unfolding d
  act_up (Enter r) f = absurd (clash f.0)
  act_up (Look r k) f = stays_up (Look r k) (λ r. refl)
  act_up (Leave r) f = absurd (clash f.0)
  act_up (Claim p slot) f = stays_up (Claim p slot) (λ r. refl)
  act_up (Write p v) f = stays_up (Write p v) (λ r. refl)
  act_up (Swap p) f = stays_up (Swap p) (λ r. refl)
  act_up (Sync p) f = absurd (clash f.0)
  act_up (Raise p) f = absurd (clash f.0)
  act_up (Walk p b) f = absurd (clash f.0)
  act_up (Release p) f = absurd (clash f.0)
  act_up (Pick r) f = stays_up (Pick r) (λ r. refl)
  act_up (Checkpoint r) f = checkpoint_up r (leb-false _ _ f.1.0)
  act_up (Defer p) f = defer_up p (omega (arith, i.as_many, leb-false (publishers s.words) p f.1.0)) (λ ne. eqb-true _ _ (rw (ne_eqb (publisher s p).place 34 ne) at turn))
    where
      turn : eqb (publisher s p).place place_swapped || eqb (publisher s p).place place_deferring ≡ true
      turn = not-false _ (or_false (not (eqb (publisher s p).place place_swapped || eqb (publisher s p).place place_deferring)) (not (eqb (retirement s p).step 0)) f.1.1.0).0

  pub up : (c : Call) (r : ℕ) → g.told.deferral.observed r ≤ (after_event g (c ⇒ (step rules s c).reply)).told.deferral.observed r
  unfolding Up d step
  up c = decided (Up c) (rows rules s c) (act s c) s (all_numbers s c) (act_up c) (λ r. omega arith)

  -- The reply of an accepted CHECKPOINT tells the step.
  pub step_told : (r k : ℕ) → (step rules s (Checkpoint r)).reply ≡ At k → k ≡ g.told.deferral.step r + 1
  unfolding step
  step_told r k = decided (λ (o : Outcome). o.reply ≡ At k → k ≡ g.told.deferral.step r + 1) (rows rules s (Checkpoint r)) (act s (Checkpoint r)) s refl
      (λ f e. let same-reply : At ((retirement s r).step + 1) ≡ At k = sym (next_step s r) ∙ e in let is-k : (retirement s r).step + 1 ≡ k = cc in omega (arith, i.told_epochs.steps_are r))
      (λ e. absurd (let no : ◌≡◌ {A = ℕ} 0 1 = cc in omega arith))

-- A state in the middle of a list: after the events pre the invariant holds there, and the events post follow.
record Middle (z : Given) (g : Ghost) (s : State) (cs : List Call) (pre post : List Event) : Type 0 where
  at_state : State
  rest : List Call
  inv : RestInvariant z (after_events g pre) at_state
  post_is : events Qsbr at_state rest ≡ post
  ends_same : after_all Qsbr at_state rest ≡ after_all Qsbr s cs

middle : (z : Given) (g : Ghost) (s : State) → RestInvariant z g s → (cs : List Call) (pre post : List Event) → events Qsbr s cs ≡ pre ++ post → Middle z g s cs pre post
middle z g s i cs [] post e = record { at_state = s; rest = cs; inv = i; post_is = e; ends_same = refl }
middle z g s i [] (event ∷ pre) post e = absurd (no_cons _ _ e)
middle z g s i (c ∷ cs) (event ∷ pre) post e =
    let reply = (step rules s c).reply in
    let later = middle z (after_event g (c ⇒ reply)) (step rules s c).after (stepped z g s i c) cs pre post (cc) in
    let now : Middle z g s (c ∷ cs) ((c ⇒ reply) ∷ pre) post = record { at_state = later.at_state; rest = later.rest; inv = later.inv; post_is = later.post_is; ends_same = later.ends_same } in
    subst (λ (event : Event). Middle z g s (c ∷ cs) (event ∷ pre) post) (cc) now

-- The ghost along two parts of a list.
after_append : (g : Ghost) (pre post : List Event) → after_events g (pre ++ post) ≡ after_events (after_events g pre) post
after_append g [] post = refl
after_append g (e ∷ pre) post = after_append (after_event g e) pre post

observed_along : (z : Given) (g : Ghost) (s : State) → RestInvariant z g s → (cs : List Call) (r : ℕ) → g.told.deferral.observed r ≤ (after_events g (events Qsbr s cs)).told.deferral.observed r
observed_along z g s i [] r = omega arith
observed_along z g s i (c ∷ cs) r = omega (arith, up z g s i c r, observed_along z (after_event g (c ⇒ (step rules s c).reply)) (step rules s c).after (stepped z g s i c) cs r)

pub observed_never_falls : ObservedNeverFalls Qsbr
observed_never_falls s f cs pre post e r =
    let g = ghost₀ f.arguments.readers f.arguments.table in
    let there = middle f.arguments g s (start_rest s f) cs pre post e in
    let along = observed_along f.arguments (after_events g pre) there.at_state there.inv there.rest r in
    rw (← all_told g pre, ← all_told g (pre ++ post), after_append g pre post) (rw there.post_is at along)

-- During a checkpoint of p, with the mark of one of its deferred slots: everything that it has loaded, observed and read is at or above the mark, and so is what the others have observed. Or the checkpoint is over.
record Going (n p slot mark : ℕ) (d : Deferral) : Type 0 where
  marked : d.marks p slot ≡ some mark
  begun : 1 ≤ d.step p
  loaded_high : mark ≤ d.loaded p
  own_high : 2 ≤ d.step p → mark ≤ d.observed p
  others_high : (q : ℕ) → q < n → q ≢ p → mark ≤ d.observed q
  least_high : 3 ≤ d.step p → mark ≤ d.least p

data Stage (n p slot mark : ℕ) (d : Deferral) : Type 0 where
  going : Going n p slot mark d → Stage n p slot mark d
  over : d.step p ≡ 0 → Stage n p slot mark d

-- What the next read of a checkpoint gives is at or above the mark too.
least_above : (n p slot mark k : ℕ) (d : Deferral) → Going n p slot mark d → k ≡ d.step p + 1 → 3 ≤ k → k < n + 3 → mark ≤ least_after d p k
least_above n p slot mark k d now is low high = go (eqb k 3) refl
  where
    read : (q : ℕ) → q < n → 2 ≤ d.step p → mark ≤ d.observed q
    read q l two = at (eqb q p) refl
      where
        at : (b : Bool) → eqb q p ≡ b → mark ≤ d.observed q
        at true e = rw (eqb-true q p e) (now.own_high two)
        at false e = now.others_high q l (eqb-false q p e)

    go : (b : Bool) → eqb k 3 ≡ b → mark ≤ choose b (d.observed 0) (choose (leb 4 k) (min (d.least p) (d.observed (k - 3))) (d.least p))
    go true e = let three = eqb-true k 3 e in read 0 (omega arith) (omega arith)
    go false e =
        let ne = eqb-false k 3 e in
        rw (le-leb 4 k (omega arith)) (let there = read (k - 3) (omega arith) (omega arith) in let least = now.least_high (omega arith) in omega arith)

module _ (z : Given) (g : Ghost) (s : State) (i : RestInvariant z g s) (p slot mark : ℕ) where
  n : ℕ
  n = readers s.words

  -- One event, which is not the beginning of another checkpoint of p: d and e are what was told before and after it.
  Onto : Call → Outcome → Type 0
  Onto c o = (o.reply ≡ At 1 → c ≢ Checkpoint p) → Stage n p slot mark g.told.deferral → Stage n p slot mark (after_event g (c ⇒ o.reply)).told.deferral

  -- A call after which steps, loads, leasts and marks of p are as they were.
  same_stage : (e : Deferral) → ((r : ℕ) → g.told.deferral.observed r ≤ e.observed r) → (g.told.deferral.marks p slot ≡ some mark → e.marks p slot ≡ some mark) → e.step p ≡ g.told.deferral.step p → e.loaded p ≡ g.told.deferral.loaded p → e.least p ≡ g.told.deferral.least p
      → Stage n p slot mark g.told.deferral → Stage n p slot mark e
  same_stage e more marks steps loads leasts (going now) = going (record {
    marked = marks now.marked;
    begun = omega (arith, now.begun);
    loaded_high = omega (arith, now.loaded_high);
    own_high = λ l. omega (arith, now.own_high (omega arith), more p);
    others_high = λ q l ne. omega (arith, now.others_high q l ne, more q);
    least_high = λ l. omega (arith, now.least_high (omega arith));
  })
  same_stage e more marks steps loads leasts (over out) = over (steps ∙ out)

  -- A step of p's own.
  own_step : (k : ℕ) → k ≡ g.told.deferral.step p + 1 → k ≢ 1 → k < n + 3 → ((r : ℕ) → g.told.deferral.observed r ≤ (after_step g.told.deferral p k).observed r)
      → Stage n p slot mark g.told.deferral → Stage n p slot mark (after_step g.told.deferral p k)
  own_step k is ne high more (over out) = absurd (ne (omega arith))
  own_step k is ne high more (going now) = go (is_last_step g.told.deferral k) refl
    where
      go : (b : Bool) → is_last_step g.told.deferral k ≡ b → Stage n p slot mark (after_step g.told.deferral p k)
      go true last = over (rw (same p, last) refl)
      go false last = going (record {
        marked = rw (same p, last) now.marked;
        begun = rw (same p, last) (omega arith);
        loaded_high = rw (same p, ne_eqb k 1 ne) now.loaded_high;
        own_high = rw (same p, last) (λ l. choose_split (λ (observed : ℕ). mark ≤ observed) (eqb k 2) (λ _. now.loaded_high) (λ not-2. let unequal = eqb-false k 2 not-2 in now.own_high (omega arith)));
        others_high = λ q l other. rw (ne_eqb q p other) (now.others_high q l other);
        least_high = rw (same p, last) (λ l. least_above n p slot mark k g.told.deferral now is l high);
      })

  stage_step : (r : ℕ) → r < readers s.words → Onto (Checkpoint r) (checkpoint s r)
  unfolding Onto n Up d
  stage_step r lt = rw (next_step s r) (λ fresh now. go (eqb p r) refl fresh now)
    where
      k : ℕ
      k = (retirement s r).step + 1

      more : (j : ℕ) → g.told.deferral.observed j ≤ (after_step g.told.deferral r k).observed j
      more = rw (next_step s r) at (checkpoint_up z g s i r lt)

      go : (b : Bool) → eqb p r ≡ b → (At k ≡ At 1 → Checkpoint r ≢ Checkpoint p) → Stage (readers s.words) p slot mark g.told.deferral → Stage (readers s.words) p slot mark (after_step g.told.deferral r k)
      go true e fresh now =
          let is-p = eqb-true p r e in
          let high = (i.retirements_fit r (omega (arith, i.as_many))).step_high in
          subst (λ (q : ℕ). Stage (readers s.words) p slot mark (after_step g.told.deferral q k)) is-p
          (own_step k (omega (arith, i.told_epochs.steps_are p, is-p, ap (λ (q : ℕ). (retirement s q).step) is-p)) (λ one. fresh (ap At one) (ap Checkpoint (sym is-p))) (omega arith) (subst (λ (q : ℕ). (j : ℕ) → g.told.deferral.observed j ≤ (after_step g.told.deferral q k).observed j) (sym is-p) more) now)
      go false e fresh now = same_stage (after_step g.told.deferral r k) more (λ marked. rw e marked) (rw e refl) (rw e refl) (rw e refl) now

  stage_defer : (q : ℕ) → q < readers s.words → ((publisher s q).place ≢ place_swapped → (publisher s q).place ≡ place_deferring) → Onto (Defer q) (defer s q)
  unfolding Onto n d
  stage_defer q lt at35 = choose_split (λ (o : Outcome). (o.reply ≡ At 1 → Defer q ≢ Checkpoint p) → Stage (readers s.words) p slot mark g.told.deferral → Stage (readers s.words) p slot mark (after_event g (Defer q ⇒ o.reply)).told.deferral)
      (eqb (publisher s q).place place_swapped) (λ _ _ now. same_stage _ (λ r. omega arith) (λ marked. marked) refl refl refl now)
      (λ ne _ now. same_stage _ (at_or q (rw (same q) (marks_more z g s i q lt (at35 (eqb-false _ _ ne)))) (λ j e. rw e (omega arith))) (still (eqb p q) refl) refl refl refl now)
    where
      still : (b : Bool) → eqb p q ≡ b → g.told.deferral.marks p slot ≡ some mark → (after_queue g.told.deferral q (g.told.former q)).marks p slot ≡ some mark
      still true e marked = rw (e, ← eqb-true p q e, marked) (choose_split (λ (told : Option ℕ). told ≡ some mark) (g.told.former p slot) (λ _. refl) (λ _. refl))
      still false e marked = rw e marked

  act_stage : (c : Call) → AllClear (rows rules s c) → Onto c (act s c)
  unfolding Onto n
  act_stage (Enter r) f = absurd (clash f.0)
  act_stage (Look r k) f = λ _ now. now
  act_stage (Leave r) f = absurd (clash f.0)
  act_stage (Claim q x) f = λ _ now. now
  act_stage (Write q v) f = λ _ now. now
  act_stage (Swap q) f = λ _ now. now
  act_stage (Sync q) f = absurd (clash f.0)
  act_stage (Raise q) f = absurd (clash f.0)
  act_stage (Walk q b) f = absurd (clash f.0)
  act_stage (Release q) f = absurd (clash f.0)
  act_stage (Pick r) f = λ _ now. same_stage _ (λ j. omega arith) (λ marked. marked) refl refl refl now
  act_stage (Checkpoint r) f = stage_step r (leb-false _ _ f.1.0)
  act_stage (Defer q) f = stage_defer q (omega (arith, i.as_many, leb-false (publishers s.words) q f.1.0)) (λ ne. eqb-true _ _ (rw (ne_eqb (publisher s q).place 34 ne) at turn))
    where
      turn : eqb (publisher s q).place place_swapped || eqb (publisher s q).place place_deferring ≡ true
      turn = not-false _ (or_false (not (eqb (publisher s q).place place_swapped || eqb (publisher s q).place place_deferring)) (not (eqb (retirement s q).step 0)) f.1.1.0).0

  stage_kept : (c : Call) → ((step rules s c).reply ≡ At 1 → c ≢ Checkpoint p) → Stage (readers s.words) p slot mark g.told.deferral → Stage (readers s.words) p slot mark (after_event g (c ⇒ (step rules s c).reply)).told.deferral
  unfolding Onto n step
  stage_kept c = decided (Onto c) (rows rules s c) (act s c) s (all_numbers s c) (act_stage c) (λ _ now. now)

-- The stage along the events of the checkpoint.
along : (z : Given) (p slot mark : ℕ) (g : Ghost) (s : State) → RestInvariant z g s → (cs : List Call) (mid post : List Event) → events Qsbr s cs ≡ mid ++ post → NotBegun p mid
    → Stage z.readers p slot mark g.told.deferral → Stage z.readers p slot mark (after_events g mid).told.deferral
along z p slot mark g s i cs [] post e whole now = now
along z p slot mark g s i [] (event ∷ mid) post e whole now = absurd (no_cons _ _ e)
along z p slot mark g s i (c ∷ cs) (event ∷ mid) post e whole now =
    let reply = (step rules s c).reply in
    let is-event : (c ⇒ reply) ≡ event = cc in
    let kept-now = rw i.shared.sized.readers_are at (stage_kept z g s i p slot mark c (λ one is-p. whole [] mid (ap (λ (event : Event). event ∷ mid) (sym is-event ∙ (ap (λ (c' : Call). c' ⇒ reply) is-p ∙ ap (λ (a : Reply). Checkpoint p ⇒ a) one)))) (rw (← i.shared.sized.readers_are) at now)) in
    let later = along z p slot mark (after_event g (c ⇒ reply)) (step rules s c).after (stepped z g s i c) cs mid post (cc) (λ pre post' d. whole (event ∷ pre) post' (ap (λ (es : List Event). event ∷ es) d)) kept-now in
    subst (λ (event : Event). Stage z.readers p slot mark (after_events g (event ∷ mid)).told.deferral) is-event later

last_event : (s : State) (cs : List Call) (c : Call) (a : Reply) → events Qsbr s cs ≡ (c ⇒ a) ∷ [] → ((step rules s c).reply ≡ a) × (after_all Qsbr s cs ≡ (step rules s c).after)
last_event s [] c a e = absurd (no_cons _ _ e)
last_event s (d ∷ []) c a e = let same-call : d ≡ c = cc in (cc, ap (λ (c' : Call). (step rules s c').after) same-call)
last_event s (d ∷ d' ∷ cs) c a e = absurd (no_cons (d' ⇒ (step rules (step rules s d).after d').reply) (events Qsbr (step rules (step rules s d).after d').after cs) (cc))

-- The last step of that checkpoint: the slot is told free, and so a claim of it is accepted.
module _ (z : Given) (g : Ghost) (s : State) (i : RestInvariant z g s) (p slot mark : ℕ) (now : Going z.readers p slot mark g.told.deferral) (is_last : z.readers + 2 ≡ g.told.deferral.step p + 1) where
  queued : any_below (λ j. eqb (retired_at s.words p j).slot slot) (retirement_at s.words p).count ≡ true
  queued = sym (i.told_epochs.queued_are p slot) ∙ rw now.marked refl

  former_now : g.told.former p slot ≡ true
  former_now = (i.shared.core.publishers p).former_is slot ∙ or_left (retired_slot s p slot) _ queued

  p_low : p < publishers s.words
  p_low = (i.shared.core.publishers p).bound slot (by_swap (or_left (retired_slot s p slot) _ queued))

  slot_low : slot < z.slots
  slot_low =
      let found = any_below_lem (λ j. eqb (retired_at s.words p j).slot slot) (retirement_at s.words p).count queued in
      omega (arith, (i.retirements_fit p p_low).slots_below found.0 found.1, eqb-true (retired_at s.words p found.0).slot slot found.2, i.shared.sized.slots_are)

  unclaimed : g.told.claimed p slot ≡ false
  unclaimed = by_test _ (λ claimed.
      let at_p = i.shared.core.publishers p in
      let parts = and_true (leb place_claimed (publisher s p).place && leb (publisher s p).place place_written) (eqb (publisher s p).held slot) (sym (at_p.writing_is slot) ∙ claimed) in
      let places = and_true (leb place_claimed (publisher s p).place) (leb (publisher s p).place place_written) parts.0 in
      at_p.not_former (leb-true 1 (publisher s p).place places.0) (leb-true (publisher s p).place 33 places.1) (rw (eqb-true (publisher s p).held slot parts.1) (or_left (retired_slot s p slot) _ queued)))

  -- Nobody else holds it, and it is not current.
  only_p : (σ : Role) → Has g.told slot σ → σ ≡ held_by p
  only_p σ has =
      let role = (slots_right damage_rules z g s i.shared).role slot in
      role.2 σ has ∙ sym (role.2 (held_by p) (or_right (g.told.claimed p slot) _ former_now))

  freed : freed_by g.told.deferral p (z.readers + 2) slot ≡ true
  freed =
      let participants : g.told.deferral.participants ≡ z.readers = i.told_epochs.participants_are ∙ i.shared.sized.readers_are in
      rw (now.marked, eq-eqb (z.readers + 2) (g.told.deferral.participants + 2) (omega (arith, participants)))
      (le-leb mark _ (least_above z.readers p slot mark (z.readers + 2) g.told.deferral now is_last (omega (arith, i.shared.no_damage.head.readers_low, i.shared.sized.readers_are)) (omega arith)))

  after : Ghost
  after = ghost_step g (Checkpoint p) (At (z.readers + 2))

  now_free : Has after.told slot free
  unfolding after
  now_free = (by_test _ (λ e. let no = only_p current e in not_held_by no), at_or p (rw (same p, freed) (neither (g.told.claimed p slot) _ unclaimed refl)) (λ q ne. rw ne (by_test _ (λ e. let held = only_p (held_by q) e in let is-p : q ≡ p = cc in eqb-false q p ne is-p))))
    where
      not_held_by : current ≡ held_by p → ⊥
      not_held_by e = let no : ◌≡◌ {A = ℕ} 0 1 = cc in omega arith

  not_held_now : holds after.told p slot ≡ false
  not_held_now = now_free.1 p

  freed_now : (step rules s (Checkpoint p)).reply ≡ At (z.readers + 2) → SurelyFreed Qsbr z after.told after.tally (step rules s (Checkpoint p)).after p slot
  unfolding after
  freed_now is =
      let i' = rw is at (stepped z g s i (Checkpoint p)) in record {
        not_held = not_held_now;
        claimed = λ q qn idle-now. (state_companions z _ _ i').claims q slot qn slot_low now_free idle-now (λ exclusive. absurd (clash (sym exclusive)));
      }

-- The mark of a deferred slot is not above the raises so far.
mark_raised : (z : Given) (g : Ghost) (s : State) → RestInvariant z g s → (p slot mark : ℕ) → g.told.deferral.marks p slot ≡ some mark → mark ≤ g.told.deferral.raises
mark_raised z g s i p slot mark marked =
    let there : any_below (λ j. eqb (retired_at s.words p j).slot slot) (retirement_at s.words p).count ≡ true = sym (i.told_epochs.queued_are p slot) ∙ rw marked refl in
    let found = any_below_lem (λ j. eqb (retired_at s.words p j).slot slot) (retirement_at s.words p).count there in
    at_slot found.0 found.1 (eqb-true _ _ found.2)
  where
    at_slot : (j : ℕ) → j < (retirement_at s.words p).count → (retired_at s.words p j).slot ≡ slot → mark ≤ g.told.deferral.raises
    at_slot j l same-slot =
        let is : (retired_at s.words p j).mark ≡ z.version + mark = subst (λ (told : Option ℕ). MarkedAs z.version told (retired_at s.words p j).mark) (ap (g.told.deferral.marks p) same-slot ∙ marked) (i.told_epochs.marks_are p j l) in
        omega (arith, i.epochs.marks_low p j l, i.told_epochs.epoch_is)

-- Its first step: what it loads is the number of raises.
begins : (z : Given) (g : Ghost) (s : State) → RestInvariant z g s → (p slot mark : ℕ) → g.told.deferral.marks p slot ≡ some mark → ((q : ℕ) → q < z.readers → q ≢ p → mark ≤ g.told.deferral.observed q)
    → Stage z.readers p slot mark (ghost_step g (Checkpoint p) (At 1)).told.deferral
begins z g s i p slot mark marked observed =
    let not_last : is_last_step g.told.deferral 1 ≡ false = ne_eqb 1 (g.told.deferral.participants + 2) (λ e. omega arith) in
    going (record {
      marked = rw (same p, not_last) marked;
      begun = rw (same p, not_last) (omega arith);
      loaded_high = rw (same p) (mark_raised z g s i p slot mark marked);
      own_high = rw (same p, not_last) (λ l. absurd (omega arith));
      others_high = λ q l ne. rw (ne_eqb q p ne) (observed q l ne);
      least_high = rw (same p, not_last) (λ l. absurd (omega arith));
    })

pub frees_surely : FreesSurely Qsbr
unfolding after
frees_surely s f cs pre mid p slot mark marked observed e whole =
    let z = f.arguments in
    let g = ghost₀ z.readers z.table in
    let first : Event = Checkpoint p ⇒ At 1 in
    let last : Event = Checkpoint p ⇒ At (z.readers + 2) in
    let before = middle z g s (start_rest s f) cs pre (first ∷ (mid ++ last ∷ [])) e in
    let begun = middle z (after_events g pre) before.at_state before.inv before.rest (first ∷ []) (mid ++ last ∷ []) before.post_is in
    let stage = begins z (after_events g pre) before.at_state before.inv p slot mark (rw (all_told g pre) marked) (rw (all_told g pre) observed) in
    let over-mid = along z p slot mark (after_events (after_events g pre) (first ∷ [])) begun.at_state begun.inv begun.rest mid (last ∷ []) begun.post_is whole stage in
    let there = middle z (after_events (after_events g pre) (first ∷ [])) begun.at_state begun.inv begun.rest mid (last ∷ []) begun.post_is in
    let ended = last_event there.at_state there.rest (Checkpoint p) (At (z.readers + 2)) there.post_is in
    let is_last = step_told z _ there.at_state there.inv p (z.readers + 2) ended.0 in
    let ghosts : after_events g (events Qsbr s cs) ≡ after_event (after_events (after_events (after_events g pre) (first ∷ [])) mid) last =
    ap (after_events g) e ∙ (after_append g pre (first ∷ (mid ++ last ∷ [])) ∙ after_append (after_event (after_events g pre) first) mid (last ∷ [])) in
    let same_end : after_all Qsbr s cs ≡ (step rules there.at_state (Checkpoint p)).after = sym before.ends_same ∙ (sym begun.ends_same ∙ (sym there.ends_same ∙ ended.1)) in
    rw (← all_told g (events Qsbr s cs), ← all_tally g (events Qsbr s cs), ghosts, same_end) (finish z (after_events (after_events (after_events g pre) (first ∷ [])) mid) there.at_state there.inv p slot mark over-mid is_last ended.0)
  where
    finish : (z : Given) (g : Ghost) (s : State) (i : RestInvariant z g s) (p slot mark : ℕ) → Stage z.readers p slot mark g.told.deferral → z.readers + 2 ≡ g.told.deferral.step p + 1 → (step rules s (Checkpoint p)).reply ≡ At (z.readers + 2)
        → SurelyFreed Qsbr z (ghost_step g (Checkpoint p) (At (z.readers + 2))).told (ghost_step g (Checkpoint p) (At (z.readers + 2))).tally (step rules s (Checkpoint p)).after p slot
    finish z g s i p slot mark (over out) is_last said = absurd (omega arith)
    finish z g s i p slot mark (going now) is_last said = freed_now z g s i p slot mark now is_last said
