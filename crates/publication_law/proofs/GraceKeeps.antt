-- Each shared step of a kind with sections and grace periods keeps its invariant. Assumes nothing.
use Rattle.std.specs.Prelude.{ℕ, ◌<◌, ◌≤◌, ◌≡◌, refl, Bool, false, ◌&&◌, List, ℤ}
use Rattle.std.proofs.Common.{arith, sym, ◌∙◌, eqb-true, eq-eqb, leb-false}
use Rattle.std.proofs.lemmas.Bool.{not-false}
use Rattle.base.specs.Base.{upd}
use Rattle.base.specs.RowLaws.{AllClear, or_right}
use Rattle.calls.specs.declared.Call.TheVariants.{Enter, Leave, Sync, Raise, Walk, Release}
use Rattle.calls.specs.declared.Reply.TheVariants.{At, Left, Synced, Walked, Freed}
use Rattle.calls.specs.declared.WalkReply.{WalkReply}
use Rattle.calls.specs.declared.WalkReply.TheVariants.{Waiting, Spent, Quiet, Returned}
use Rattle.calls.specs.Numbers.{place_out, place_idle, place_swapped, place_synchronising, place_quiet, place_raised, place_returned}
use Rattle.calls.specs.Told.{holds}
use Rattle.calls.specs.Tally.{with_phase}
use Rattle.calls.specs.Tally.Phase.{idle, synchronising, quiet, raised, returned}
use Rattle.layout.specs.declared.Reader.{Reader}
use Rattle.layout.specs.declared.Publisher.{Publisher}
use Rattle.layout.specs.declared.WalkResult.{WalkResult}
use Rattle.layout.specs.Layout.{version_at, releases_at, readers, publishers, slots, current, version, releases, no_publisher, slot_entry}
use Rattle.layout.specs.Records.{◌at_place◌, ◌walk≔◌}
use Rattle.layout.specs.Laws.{fresh_head}
use Rattle.statement.specs.Machine.{State, state, Outcome, Given, retires, retired_slot}
use Rattle.statement.specs.KeptInvariant.{Ghost, ghost₀, ghost_step}
use Rattle.publication_law.specs.Steps.{reader, publisher, sync_tests, sync, new_walk, raise, place_after, walked, walk, release_tests, release, one_more, made}
use Rattle.publication_law.specs.Clear.{MakingClear}
use Rattle.publication_law.specs.Damage.{DamageRules}
use Rattle.publication_law.specs.DamageLaws.{UndamagedPublisher}
use Rattle.publication_law.specs.KindLaw.{KindLaw, undamaged_publisher, publisher_undamaged}
use Rattle.publication_law.specs.Core.{Core}
use Rattle.publication_law.specs.CoreLaws.{enter_core, leave_core, late_core, release_core}
use Rattle.publication_law.specs.Onward.{Onward}
use Rattle.publication_law.specs.Core.Hold.{by_swap}
use Rattle.publication_law.specs.GraceLaws.{enter_grace, leave_grace, early_grace, wait_grace, sync_grace, nobody, release_grace, fresh_grace}
use Rattle.publication_law.specs.Single.{former_same, formers_same}
use Rattle.publication_law.specs.Phases.{Phases}
use Rattle.publication_law.specs.PhaseLaws.{place_phases, move_phases, stay_phases}
use Rattle.publication_law.specs.Tallied.{Tallied}
use Rattle.publication_law.specs.TallyLaws.{early_tallied, sync_tallied, wait_tallied, late_tallied, release_tallied, fresh_tallied}
use Rattle.publication_law.specs.Decide.{raise_split}
use Rattle.publication_law.specs.Moves.{MovesPublisher, MovesReader, publisher_moves, publisher_moves_head}
use Rattle.publication_law.specs.Invariant.{formers, formers_of, Invariant}
use Rattle.publication_law.specs.InvariantLaws.{reader_moved, publisher_moved}
use Rattle.publication_law.specs.GraceInvariant.{GraceInvariant}
use Rattle.publication_law.specs.GraceInvariantLaws.{reader_moved_grace, publisher_moved_grace}
use Rattle.publication_law.proofs.Keeps.{held_told, placed, readers_fresh, publishers_fresh}
use Rattle.publication_law.proofs.Keeps as every
use Rattle.publication_law.specs.GraceKeeps.{waits_after}

module _ (K : DamageRules) (z : Given) (g : Ghost) (s : State) (i : GraceInvariant K z g s) where
  -- ENTER and LEAVE, whatever else of the reader and of the head a kind changes.
  module _ (w' : List ℕ) (r : ℕ) (x : Reader) (m : MovesReader s.words w' r x) (ok : K.reader_damaged (readers s.words) (slots s.words) x ≡ false) where
    pub enter_keeps : r < readers s.words → Onward (current s.words) (reader s r).place (reader s r).picked x.place x.picked
        → GraceInvariant K z (ghost_step g (Enter r) (At x.place)) (state w' s.entries)
    enter_keeps rn on = reader_moved_grace K z s _ w' r x m
        (reader_moved K z g s i.every _ w' r x m ok (enter_core _ _ _ _ _ _ _ _ _ _ _ i.every.core r _ _ rn on) (place_phases _ _ _ _ i.every.phases r x.place))
        (enter_grace g.told _ _ _ _ _ i.grace _ r _ _ on (λ p e. (i.every.core.publishers p).apart _ (by_swap (or_right (retires K.number && retired_slot s p (current s.words)) _ e)) refl)) i.tallied

    pub leave_keeps : x.place ≡ place_out → GraceInvariant K z (ghost_step g (Leave r) Left) (state w' s.entries)
    leave_keeps out = reader_moved_grace K z s _ w' r x m
        (reader_moved K z g s i.every _ w' r x m ok (rw out (leave_core _ _ _ _ _ _ _ _ _ _ _ i.every.core r _ Left)) (rw out (place_phases _ _ _ _ i.every.phases r 0)))
        (rw out (leave_grace g.told _ _ _ _ _ i.grace r _ Left)) i.tallied

  -- CLAIM, WRITE and SWAP: a publisher below 35 before and after, where the same is told of sections, waits and releases. What every kind keeps is shown in Keeps.
  pub early_keeps : (g' : Ghost) (w' : List ℕ) (es' : List ℤ) (p : ℕ) (y : Publisher) (cur ver : ℕ) → MovesPublisher s.words w' p y cur ver (releases s.words) → Invariant K z g' (state w' es')
      → g'.told.inside ≡ g.told.inside → g'.pend ≡ g.pend → g'.tally.waits ≡ g.tally.waits → g'.tally.releases ≡ g.tally.releases
      → (publisher s p).place ≤ place_swapped → y.place ≤ place_swapped → GraceInvariant K z g' (state w' es')
  early_keeps g' w' es' p y cur ver m j same-inside same-pend same-waits same-releases old new = publisher_moved_grace K z s g' w' es' p y cur ver _ m j
      (rw (same-inside, same-pend) (early_grace g.told _ _ _ _ _ i.grace p _ _ old new)) (rw (same-waits, same-releases) (early_tallied _ _ _ _ _ i.tallied p _ _ new))

  pub release_keeps : retires K.number ≡ false → (p : ℕ) → AllClear (release_tests s p)
      → K.publisher_damaged (readers s.words) (slots s.words) (publisher s p at_place place_idle) ≡ false
      → GraceInvariant K z (ghost_step g (Release p) (Freed (publisher s p).held (one_more s))) (release s p).after
  release_keeps none_retired p f ok =
      let lt = leb-false (publishers s.words) p f.0 in
      let at38 = eqb-true (publisher s p).place 38 (not-false _ f.1.0) in
      let m = publisher_moves_head i.every.no_damage p (publisher s p at_place place_idle) lt releases_at (one_more s) (omega arith) (omega arith) in
      publisher_moved_grace K z s _ _ _ p _ _ _ _ m
      (publisher_moved K z g s i.every _ _ _ p _ _ _ _ m refl i.every.no_damage.head.current_below i.every.no_damage.head.version_fits ok
      (release_core _ _ _ _ _ _ _ _ _ _ _ i.every.core p _ (Freed (publisher s p).held (one_more s)) _ (omega arith) (λ r five e. nobody g.told _ _ _ _ _ i.grace p at38 r five (rw none_retired at e)) (λ slot. rw none_retired refl))
      (move_phases _ _ _ _ i.every.phases p 0 idle refl))
      (release_grace g.told _ _ _ _ _ i.grace p _ at38) (release_tallied _ _ _ _ _ i.tallied p _)

  -- A publisher's phase at an accepted RELEASE, and at 37.
  pub released_in_order : (p : ℕ) → AllClear (release_tests s p) → g.tally.phase p ≡ returned
  released_in_order p f = i.every.phases.phases p ∙ rw (eqb-true (publisher s p).place 38 (not-false _ f.1.0)) refl

  pub raised_in_order : (p : ℕ) → (publisher s p).place ≡ place_raised → g.tally.phase p ≡ raised
  raised_in_order p e = i.every.phases.phases p ∙ rw e refl

  -- Who is idle is told to hold nothing.
  pub idle_empty : retires K.number ≡ false → (p : ℕ) → g.tally.phase p ≡ idle → (slot : ℕ) → holds g.told p slot ≡ false
  idle_empty none_retired p e slot = sym (held_told K z g s i.every p slot) ∙ rw (i.every.no_damage.head.kind_is, none_retired, eq-eqb (publisher s p).place 0 (placed K z g s i.every p idle e)) refl

-- SYNC, RAISE and WALK, from what the shared steps need of a kind.
module _ (K : DamageRules) (law : KindLaw K) (z : Given) (g : Ghost) (s : State) (i : GraceInvariant K z g s) where
  pub moved_publisher_undamaged : (p : ℕ) → p < publishers s.words → UndamagedPublisher K.versions (slots s.words) (publisher s p)
  moved_publisher_undamaged p l = undamaged_publisher law (readers s.words) (slots s.words) (publisher s p) (i.every.no_damage.publishers_undamaged p l)

  -- A publisher that holds its former slot before and after.
  late_slots : (p pl : ℕ) → place_swapped ≤ (publisher s p).place → place_swapped ≤ pl
      → Core g.model g.told (readers s.words) (publishers s.words) (current s.words) (λ j. (reader s j).place) (λ j. (reader s j).picked)
      (upd (λ q. (publisher s q).place) p pl) (upd (λ q. (publisher s q).held) p (publisher s p).held) (upd (λ q. formers_of (retires K.number) s q (publisher s q)) p (formers_of (retires K.number) s p (publisher s p at_place pl))) (slot_entry s.entries)
  late_slots p pl low new = late_core _ _ _ _ _ _ _ _ _ _ _ i.every.core p pl _ _ (λ l l'. omega arith) (λ l l'. omega arith) (λ slot. formers_same (retires K.number && retired_slot s p slot) (publisher s p).place pl (publisher s p).held slot low new)

  pub sync_keeps : (p : ℕ) → AllClear (sync_tests K.versions s p)
      → law.extra_damage (readers s.words) (publisher s p at_place place_synchronising walk≔ new_walk (publisher s p).walk (K.versions.mark_at (version s.words))) ≡ false
      → GraceInvariant K z (ghost_step g (Sync p) (Synced (K.versions.mark_at (version s.words)))) (sync K.versions s p).after
  sync_keeps p f clear =
      let lt = leb-false (publishers s.words) p f.0 in
      let at34 = eqb-true (publisher s p).place 34 (not-false _ f.1.0) in
      let y : Publisher = publisher s p at_place place_synchronising walk≔ new_walk (publisher s p).walk (K.versions.mark_at (version s.words)) in
      let ok = publisher_undamaged law (readers s.words) (slots s.words) y clear (record {
        held_below = λ _. (moved_publisher_undamaged p lt).held_below (omega arith);
        mark_fits = λ _. law.versions_law.mark_fits (version s.words) i.every.no_damage.head.version_fits f.1.1.0;
        waits_low = λ _. omega arith;
      }) in
      let m = publisher_moves i.every.no_damage p y lt in
      publisher_moved_grace K z s _ _ _ p _ _ _ _ m
      (publisher_moved K z g s i.every _ _ _ p _ _ _ _ m refl i.every.no_damage.head.current_below i.every.no_damage.head.version_fits ok
      (late_slots p 35 (omega arith) (omega arith)) (move_phases _ _ _ _ i.every.phases p 35 synchronising refl))
      (sync_grace g.told _ _ _ _ _ i.grace p _) (sync_tallied _ _ _ _ _ i.tallied p)

  -- RAISE, at 35 or 36.
  module _ (p : ℕ) (lt : p < publishers s.words) (low : place_synchronising ≤ (publisher s p).place) (high : (publisher s p).place ≤ place_quiet) where
    pub raise_keeps : law.extra_damage (readers s.words) (publisher s p at_place place_raised) ≡ false
        → GraceInvariant K z (ghost_step g (Raise p) (raise K.versions s p).reply) (raise K.versions s p).after
    raise_keeps clear =
        let pf = moved_publisher_undamaged p lt in
        let ok = publisher_undamaged law (readers s.words) (slots s.words) (publisher s p at_place place_raised) clear (record { held_below = λ _. pf.held_below (omega arith); mark_fits = λ _. pf.mark_fits low; waits_low = λ _. pf.waits_low low }) in
        raise_split (λ (o : Outcome). GraceInvariant K z (ghost_step g (Raise p) o.reply) o.after) K.versions s p
        (λ e. to _ _ (publisher_moves_head i.every.no_damage p _ lt version_at (publisher s p).walk.mark (omega arith) (omega arith)) (law.versions_law.raised_fits _ (pf.mark_fits low)) ok)
        (to _ _ (publisher_moves i.every.no_damage p _ lt) i.every.no_damage.head.version_fits ok)
      where
        to : (w' : List ℕ) (ver : ℕ) → MovesPublisher s.words w' p (publisher s p at_place place_raised) (current s.words) ver (releases s.words) → K.versions.too_large ver ≡ false
            → K.publisher_damaged (readers s.words) (slots s.words) (publisher s p at_place place_raised) ≡ false → GraceInvariant K z (record { model = g.model; told = g.told; pend = g.pend; tally = with_phase g.tally p raised }) (state w' s.entries)
        to w' ver m fits ok = publisher_moved_grace K z s _ w' _ p _ _ ver _ m
            (publisher_moved K z g s i.every _ w' _ p _ _ ver _ m refl i.every.no_damage.head.current_below fits ok (late_slots p 37 (omega arith) (omega arith)) (move_phases _ _ _ _ i.every.phases p 37 raised refl))
            (wait_grace g.told _ _ _ _ _ i.grace p 37 _ low (omega arith) (omega arith) (λ e. absurd (omega arith)) (λ slot. former_same (publisher s p).place 37 (publisher s p).held slot (omega arith) (omega arith)))
            (late_tallied _ _ _ _ _ i.tallied p 37 _ low refl)

  -- WALK, at 35 to 37: its result keeps the mark and the waits, and where it returns nobody is waited for.
  module _ (p b : ℕ) (lt : p < publishers s.words) (low : place_synchronising ≤ (publisher s p).place) (high : (publisher s p).place ≤ place_raised) where
    walk_phases : (a : WalkReply)
        → Phases (ghost_step g (Walk p b) (Walked a)).tally.place (ghost_step g (Walk p b) (Walked a)).tally.phase (λ j. (reader s j).place) (upd (λ q. (publisher s q).place) p (place_after (publisher s p).place a))
    walk_phases (Waiting who) = stay_phases _ _ _ _ i.every.phases p (publisher s p).place refl
    walk_phases Spent = stay_phases _ _ _ _ i.every.phases p (publisher s p).place refl
    walk_phases Quiet = move_phases _ _ _ _ i.every.phases p 36 quiet refl
    walk_phases (Returned looks waits) = move_phases _ _ _ _ i.every.phases p 38 returned refl

    walk_tallied : (a : WalkReply) (ws : ℕ) → ws ≡ waits_after (publisher s p).walk.waits a
        → Tallied (ghost_step g (Walk p b) (Walked a)).tally.waits (ghost_step g (Walk p b) (Walked a)).tally.releases (upd (λ q. (publisher s q).place) p (place_after (publisher s p).place a)) (upd (λ q. (publisher s q).walk.waits) p ws) (releases s.words)
    walk_tallied (Waiting who) ws e = rw e (wait_tallied _ _ _ _ _ i.tallied p (publisher s p).place low)
    walk_tallied Spent ws e = late_tallied _ _ _ _ _ i.tallied p (publisher s p).place ws low e
    walk_tallied Quiet ws e = late_tallied _ _ _ _ _ i.tallied p 36 ws low e
    walk_tallied (Returned looks waits) ws e = late_tallied _ _ _ _ _ i.tallied p 38 ws low e

    after_low : (a : WalkReply) → place_synchronising ≤ place_after (publisher s p).place a
    after_low (Waiting who) = low
    after_low Spent = low
    after_low Quiet = omega arith
    after_low (Returned looks waits) = omega arith

    after_high : (a : WalkReply) → place_after (publisher s p).place a ≤ place_returned
    after_high (Waiting who) = omega arith
    after_high Spent = omega arith
    after_high Quiet = omega arith
    after_high (Returned looks waits) = omega arith

    pub walk_keeps : (result : WalkResult) → (place_after (publisher s p).place result.reply ≡ place_returned → (r : ℕ) → g.pend p r ≡ false) → result.walk.waits ≡ waits_after (publisher s p).walk.waits result.reply
        → result.walk.mark ≡ (publisher s p).walk.mark → result.walk.waits ≤ result.walk.looks → law.extra_damage (readers s.words) (walked (publisher s p) result) ≡ false
        → GraceInvariant K z (ghost_step g (Walk p b) (Walked result.reply)) (walk s p result).after
    walk_keeps result done ws same-mark enough clear =
        let pf = moved_publisher_undamaged p lt in
        let ok = publisher_undamaged law (readers s.words) (slots s.words) (walked (publisher s p) result) clear (record { held_below = λ _. pf.held_below (omega (arith, low)); mark_fits = λ _. rw same-mark (pf.mark_fits low); waits_low = λ _. enough }) in
        let l : place_synchronising ≤ place_after (publisher s p).place result.reply = after_low result.reply in
        let m = publisher_moves i.every.no_damage p (walked (publisher s p) result) lt in
        publisher_moved_grace K z s _ _ _ p _ _ _ _ m
        (publisher_moved K z g s i.every _ _ _ p _ _ _ _ m refl i.every.no_damage.head.current_below i.every.no_damage.head.version_fits ok
        (late_slots p (place_after (publisher s p).place result.reply) (omega arith) (omega arith)) (walk_phases result.reply))
        (wait_grace g.told _ _ _ _ _ i.grace p _ _ low l (after_high result.reply) done (λ slot. former_same (publisher s p).place (place_after (publisher s p).place result.reply) (publisher s p).held slot (omega arith) (omega arith)))
        (walk_tallied result.reply _ ws)

-- A fresh store.
pub made_grace_invariant : (K : DamageRules) (of_participants : Bool) (x : Reader) (z : Given) (s : State) → MakingClear of_participants K.versions z s → x.place ≡ place_out → x.picked ≡ 0
    → K.reader_damaged z.readers z.slots x ≡ false → K.publisher_damaged z.readers z.slots no_publisher ≡ false → GraceInvariant K z (ghost₀ z.readers z.table) (made K.number x z s)
made_grace_invariant K of_participants x z s f out none reader-ok publisher-ok = record {
  every = every.made_invariant K of_participants x z s f out none reader-ok publisher-ok;
  grace = rw (
    readers_fresh K.number x z s (λ (x' : Reader). x'.place) out refl,
    readers_fresh K.number x z s (λ (x' : Reader). x'.picked) none refl,
    publishers_fresh K.number x z s (λ (y : Publisher). y.place),
    publishers_fresh K.number x z s formers,
  ) (fresh_grace z.readers);
  tallied = rw (fresh_head K.number z.readers z.publishers z.slots z.version x releases_at (omega arith), publishers_fresh K.number x z s (λ (y : Publisher). y.place), publishers_fresh K.number x z s (λ (y : Publisher). y.walk.waits)) fresh_tallied;
}
