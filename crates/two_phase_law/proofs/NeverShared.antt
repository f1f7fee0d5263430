-- In the old store an accepted RAISE is never shared, after every list of calls from fresh.
-- Why: one publisher at most is out of place 0, and at 35 and 36 its mark is the successor of the version, which no other publisher can raise. Assumes nothing.
use Rattle.std.specs.Prelude.{ℕ, ◌<◌, ◌≤◌, ◌≢◌, ◌⊎◌, Bool, true, false, not, ◌&&◌, List, [], ◌∷◌, ℤ, eqb}
use Rattle.std.proofs.Common.{arith, sym, ◌∙◌, inl, inr}
use Rattle.std.proofs.Math.Path.{◌≡◌, refl, ap}
use borrow.Author.Tests.{eqb-true, eqb-false, eq-eqb, ne_eqb, leb-false, not-false}
use Rattle.base.specs.Rows.{any_below}
use Rattle.base.specs.RowLaws.{clash, and_false, within, none_below, AllClear}
use Rattle.calls.specs.declared.Call.{Call}
use Rattle.calls.specs.declared.Call.TheVariants.{Enter, Look, Leave, Claim, Write, Swap, Sync, Raise, Walk, Release, Pick, Checkpoint, Defer}
use Rattle.calls.specs.declared.Reply.TheVariants.{Shared}
use Rattle.calls.specs.declared.WalkReply.{WalkReply}
use Rattle.calls.specs.declared.WalkReply.TheVariants.{Waiting, Spent, Quiet, Returned}
use Rattle.calls.specs.Numbers.{place_idle, place_claimed, place_synchronising, place_quiet, place_raised}
use Rattle.layout.specs.declared.Reader.{Reader}
use Rattle.layout.specs.declared.Publisher.{Publisher}
use Rattle.layout.specs.Layout.{publishers_at, version_at, current_at, releases_at, publishers, version, indicator, publisher_at}
use Rattle.statement.specs.Machine.{State, state, Outcome, Fresh, after_all}
use Rattle.statement.specs.NeverShared.{NeverShared}
use Rattle.publication_law.specs.Steps.{publisher, walk, walked, place_after}
use Rattle.publication_law.specs.DamageLaws.{Undamaged}
use Rattle.publication_law.specs.Moves.{MovesReader, MovesPublisher, publisher_moves, publisher_moves_head, publisher_written}
use Rattle.publication_law.proofs.Clear.{claim_clear}
use Rattle.publication_law.proofs.Calls.{undamaged_facts}
use Rattle.publication_law.specs.Decide.{decided, raise_split}
use Rattle.publication_law.specs.Table.{rows, step}
use Rattle.publication_law.proofs.KindShows.{all_numbers}
use Rattle.two_phase_law.specs.Steps.{versions, damage_rules, looked_at, looks_of, fixed, rules, TwoPhase}
use Rattle.two_phase_law.specs.Traits.{traits}
use Rattle.two_phase_law.specs.Counts.{LookFacts, walk_places, turn_low, look_facts}
use Rattle.two_phase_law.proofs.Safety.{law, enter_moves, leave_moves, kind_shows}
use Rattle.two_phase_law.proofs.Promises.{old_promises}
use Rattle.two_phase_law.specs.NeverShared.{OneBusy}

module _ (s : State) (i : OneBusy s) where
  -- A reader's step leaves the publishers and the version.
  reader_keeps : (w' : List ℕ) (es' : List ℤ) (r : ℕ) (x : Reader) → MovesReader s.words w' r x → OneBusy (state w' es')
  reader_keeps w' es' r x m = record {
    others_idle = rw (m.publishers_stay, m.head publishers_at (omega arith)) i.others_idle;
    mark_next = rw (m.publishers_stay, m.head publishers_at (omega arith), m.head version_at (omega arith)) i.mark_next;
  }

  -- A publisher's step, while every other one is idle, at a mark that is the successor of the version then wherever it comes to 35 or 36.
  module _ (w' : List ℕ) (es' : List ℤ) (p : ℕ) (y : Publisher) (cur ver rel : ℕ) (m : MovesPublisher s.words w' p y cur ver rel) where
    at_other : (q : ℕ) → q ≢ p → publisher_at w' q ≡ publisher s q
    at_other q ne = ap (λ (f : ℕ → Publisher). f q) m.publishers_are ∙ rw (ne_eqb q p ne) refl

    publisher_keeps : ((q : ℕ) → q < publishers s.words → q ≢ p → (publisher s q).place ≡ place_idle)
        → (place_synchronising ≤ y.place → y.place ≤ place_quiet → y.walk.mark ≡ versions.mark_at ver) → OneBusy (state w' es')
    publisher_keeps idle next = record {
      others_idle = rw (m.head publishers_at (omega arith)) (λ a b an bn ne busy. others a b an bn ne busy (eqb a p) refl);
      mark_next = rw (m.head publishers_at (omega arith), m.version_is) (λ a an low high. marked a an low high (eqb a p) refl);
    }
      where
        others : (a b : ℕ) → a < publishers s.words → b < publishers s.words → b ≢ a → (publisher_at w' a).place ≢ place_idle → (test : Bool) → eqb a p ≡ test → (publisher_at w' b).place ≡ place_idle
        others a b an bn ne busy true e = let ne' : b ≢ p = λ eq. ne (eq ∙ sym (eqb-true a p e)) in rw (at_other b ne') (idle b bn ne')
        others a b an bn ne busy false e = absurd (busy (rw (at_other a (eqb-false a p e)) (idle a an (eqb-false a p e))))

        marked : (a : ℕ) → a < publishers s.words → place_synchronising ≤ (publisher_at w' a).place → (publisher_at w' a).place ≤ place_quiet → (test : Bool) → eqb a p ≡ test → (publisher_at w' a).walk.mark ≡ versions.mark_at ver
        marked a an low high true e = let is : publisher_at w' a ≡ y = ap (publisher_at w') (eqb-true a p e) ∙ publisher_written m in rw is (next (rw is at low) (rw is at high))
        marked a an low high false e = let none : (publisher_at w' a).place ≡ place_idle = rw (at_other a (eqb-false a p e)) (idle a an (eqb-false a p e)) in absurd (omega arith)

  -- Beside a publisher that is busy, and beside one that may claim, every other one is idle.
  busy_alone : (p : ℕ) → p < publishers s.words → place_claimed ≤ (publisher s p).place → (q : ℕ) → q < publishers s.words → q ≢ p → (publisher s q).place ≡ place_idle
  busy_alone p pn busy q qn ne = i.others_idle p q pn qn ne (λ e. omega arith)

  claims_alone : (p : ℕ) → any_below (λ q. not (eqb q p) && not (eqb (publisher s q).place place_idle)) (publishers s.words) ≡ false → (q : ℕ) → q < publishers s.words → q ≢ p → (publisher s q).place ≡ place_idle
  claims_alone p e q qn ne = eqb-true _ _ (not-false _ (and_false (not (eqb q p)) _ (none_below _ _ q e qn) (rw (ne_eqb q p ne) refl)))

  -- A WALK keeps its mark, and comes to 35 or 36 from 35 alone.
  module _ (p b : ℕ) (turn : ((publisher s p).place ≡ place_synchronising) ⊎ ((publisher s p).place ≡ place_raised)) where
    came : LookFacts (indicator s.words (looked_at (publisher s p))) (publisher s p) b (looks_of s (publisher s p) b)
    came = look_facts (indicator s.words (looked_at (publisher s p))) (publisher s p) b turn

    from_35 : place_after (publisher s p).place (looks_of s (publisher s p) b).reply ≤ place_quiet → (publisher s p).place ≤ place_quiet
    from_35 high = go turn (looks_of s (publisher s p) b).reply refl high
      where
        go : ((publisher s p).place ≡ place_synchronising) ⊎ ((publisher s p).place ≡ place_raised) → (a : WalkReply) → (looks_of s (publisher s p) b).reply ≡ a → place_after (publisher s p).place a ≤ place_quiet → (publisher s p).place ≤ place_quiet
        go (inl at35) a e l = omega arith
        go (inr at37) (Waiting who) e l = l
        go (inr at37) Spent e l = l
        go (inr at37) Quiet e l = let at35 = came.quiets e in omega arith
        go (inr at37) (Returned looks waits) e l = absurd (omega arith)

    walk_keeps : (pn : p < publishers s.words) → Undamaged damage_rules s → OneBusy (walk s p (looks_of s (publisher s p) b)).after
    walk_keeps pn no_damage = publisher_keeps _ _ p _ _ _ _ (publisher_moves no_damage p (walked (publisher s p) (looks_of s (publisher s p) b)) pn)
        (busy_alone p pn (let low = turn_low (publisher s p).place turn in omega arith))
        (λ low high. came.mark_same ∙ i.mark_next p pn (turn_low (publisher s p).place turn) (from_35 high))

  act_keeps : (c : Call) → AllClear (rows rules s c) → OneBusy (rules.act s c).after
  act_keeps (Enter r) f = reader_keeps _ _ r _ (enter_moves s (undamaged_facts rules s f.0) r (leb-false _ _ f.1.0))
  act_keeps (Look r k) f = i
  act_keeps (Leave r) f = reader_keeps _ _ r _ (leave_moves s (undamaged_facts rules s f.0) r (leb-false _ _ f.1.0))
  act_keeps (Claim p slot) f = let clear = claim_clear true false s p slot f.1 in
      publisher_keeps _ _ p _ _ _ _ (publisher_moves (undamaged_facts rules s f.0) p _ clear.publisher_named_lem) (claims_alone p clear.nobody_busy) (λ l l'. absurd (omega arith))
  act_keeps (Write p v) f = let range = within 1 32 (publisher s p).place f.1.1.1.0 in let pn = leb-false _ _ f.1.0 in
      publisher_keeps _ _ p _ _ _ _ (publisher_moves (undamaged_facts rules s f.0) p _ pn) (busy_alone p pn range.0) (λ l l'. absurd (omega (arith, range.1)))
  act_keeps (Swap p) f = let at33 = eqb-true (publisher s p).place 33 (not-false _ f.1.1.0) in let pn = leb-false _ _ f.1.0 in
      publisher_keeps _ _ p _ _ _ _ (publisher_moves_head (undamaged_facts rules s f.0) p _ pn current_at _ (omega arith) (omega arith)) (busy_alone p pn (omega arith)) (λ l l'. absurd (omega arith))
  act_keeps (Sync p) f = let at34 = eqb-true (publisher s p).place 34 (not-false _ f.1.1.0) in let pn = leb-false _ _ f.1.0 in
      publisher_keeps _ _ p _ _ _ _ (publisher_moves (undamaged_facts rules s f.0) p _ pn) (busy_alone p pn (omega arith)) (λ l l'. refl)
  act_keeps (Raise p) f = let at36 = eqb-true (publisher s p).place 36 (not-false _ f.1.1.0) in let pn = leb-false _ _ f.1.0 in
      raise_split (λ (o : Outcome). OneBusy o.after) versions s p
      (λ _. publisher_keeps _ _ p _ _ _ _ (publisher_moves_head (undamaged_facts rules s f.0) p _ pn version_at _ (omega arith) (omega arith)) (busy_alone p pn (omega arith)) (λ l l'. absurd (omega arith)))
      (publisher_keeps _ _ p _ _ _ _ (publisher_moves (undamaged_facts rules s f.0) p _ pn) (busy_alone p pn (omega arith)) (λ l l'. absurd (omega arith)))
  act_keeps (Walk p b) f = walk_keeps p b (walk_places (publisher s p).place (not-false _ f.1.1.0)) (leb-false _ _ f.1.0) (undamaged_facts rules s f.0)
  act_keeps (Release p) f = let at38 = eqb-true (publisher s p).place 38 (not-false _ f.1.1.0) in let pn = leb-false _ _ f.1.0 in
      publisher_keeps _ _ p _ _ _ _ (publisher_moves_head (undamaged_facts rules s f.0) p _ pn releases_at _ (omega arith) (omega arith)) (busy_alone p pn (omega arith)) (λ l l'. absurd (omega arith))
  act_keeps (Pick r) f = absurd (clash f.0)
  act_keeps (Checkpoint r) f = absurd (clash f.0)
  act_keeps (Defer p) f = absurd (clash f.0)

  step_keeps : (c : Call) → OneBusy (step rules s c).after
  unfolding step
  step_keeps c = decided (λ (o : Outcome). OneBusy o.after) (rows rules s c) (rules.act s c) s (all_numbers fixed traits kind_shows s c) (act_keeps c) i

  -- So the version is one before the mark of a RAISE.
  raise_not_shared : (p : ℕ) → (step rules s (Raise p)).reply ≢ Shared
  unfolding step
  raise_not_shared p = decided (λ (o : Outcome). o.reply ≢ Shared) (rows rules s (Raise p)) (rules.act s (Raise p)) s refl
      (λ f. let at36 = eqb-true (publisher s p).place 36 (not-false _ f.1.1.0) in
      let next = i.mark_next p (leb-false _ _ f.1.0) (omega arith) (omega arith) in
      let before : versions.before_mark (publisher s p).walk.mark ≡ version s.words = ap versions.before_mark next ∙ law.versions_law.before_mark_lem (version s.words) (undamaged_facts rules s f.0).head.version_fits in
      rw (eq-eqb (version s.words) (versions.before_mark (publisher s p).walk.mark) (sym before)) (λ e. absurd (let d : ◌≡◌ {A = ℕ} 0 1 = cc in omega arith)))
      (λ e. absurd (let d : ◌≡◌ {A = ℕ} 0 1 = cc in omega arith))

-- A fresh store has every publisher at place 0.
fresh_idle : (s : State) → Fresh TwoPhase s → OneBusy s
fresh_idle s f = let at0 = (old_promises.every.makes_fresh s f).publishers_are in
    record { others_idle = λ p q pn qn ne busy. absurd (busy (rw (at0 p) refl)); mark_next = λ p pn low high. absurd (let none : (publisher s p).place ≡ place_idle = rw (at0 p) refl in omega arith) }

pub one_busy : (s : State) → Fresh TwoPhase s → (cs : List Call) → OneBusy (after_all TwoPhase s cs)
one_busy s f cs = go s (fresh_idle s f) cs
  where
    go : (s : State) → OneBusy s → (cs : List Call) → OneBusy (after_all TwoPhase s cs)
    go s i [] = i
    go s i (c ∷ cs) = go (step rules s c).after (step_keeps s i c) cs

pub old_never_shared : NeverShared TwoPhase
old_never_shared s f cs p = raise_not_shared _ (one_busy s f cs) p
