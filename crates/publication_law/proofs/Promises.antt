-- What is promised of every kind, and of a kind with sections, SYNC and WALK besides, each in one record; and the facts of a WALK that every kind has. Assumes nothing.
use Rattle.std.specs.Prelude.{ℕ, ◌<◌, ◌≤◌, ◌≡◌, Bool, eqb}
use Rattle.std.proofs.Common.{arith, sym, ap, ◌∙◌}
use Rattle.std.proofs.Math.Path.{refl}
use Rattle.std.proofs.Math.Bool.{true, false}
use Rattle.std.proofs.Math.Dec.{leb}
use borrow.Author.Tests.{eqb-true, eqb-false, leb-true, leb-false, not-false}
use Rattle.base.specs.RowLaws.{clash, not_both, choose_split}
use Rattle.calls.specs.declared.Call.TheVariants.{Write, Sync, Raise, Walk, Release}
use Rattle.calls.specs.Numbers.{place_idle, place_synchronising, place_raised}
use Rattle.calls.specs.FirstTable.{out_of_range}
use Rattle.calls.specs.Events.{accepted}
use Rattle.layout.specs.Layout.{version_at, releases_at, publishers, version}
use Rattle.layout.specs.Records.{◌at_place◌}
use Rattle.statement.specs.Machine.{State, Outcome}
use Rattle.statement.specs.Demand3.{Demand3}
use Rattle.statement.specs.Looks.{WritesInRange, looks_in_range, first_table_until_swap}
use Rattle.statement.specs.Companions.{GraceTraits}
use Rattle.publication_law.specs.Steps.{publisher, raise}
use Rattle.publication_law.specs.Table.{rows, step, machine}
use Rattle.publication_law.specs.SectionRules.{SectionRules, table_by}
use Rattle.publication_law.specs.DamageLaws.{Undamaged}
use Rattle.publication_law.proofs.Calls.{undamaged_facts}
use Rattle.publication_law.specs.KindLaw.{undamaged_publisher}
use Rattle.publication_law.specs.Moves.{publisher_moves, publisher_moves_head, publisher_written}
use Rattle.publication_law.proofs.Frames.{walk_record}
use Rattle.publication_law.specs.Decide.{decided}
use Rattle.publication_law.proofs.TableLaws.{refused_leaves_of_acts, frame_of_table, representable_of_table, representable_making_of_table}
use Rattle.publication_law.specs.SharedFacts.{ReleaseFacts}
use Rattle.publication_law.proofs.SharedFacts.{shared_facts_of}
use Rattle.publication_law.specs.KindShows.{KindShows}
use Rattle.publication_law.proofs.KindShows.{shared_calls_of, demand3_of, companions_of, never_damaged_of, act_laws_of, making_accepts_of, making_only_of, makes_fresh_of, named_of, walk_zero_of}
use Rattle.publication_law.specs.Promises.{SyncFacts, RaiseFacts, Promises, WalkFacts}

module _ (R : SectionRules) (traits : GraceTraits) (L : KindShows R traits) where
  sync_facts_of : (s : State) (p : ℕ) → accepted (step (table_by R) s (Sync p)).reply ≡ true → SyncFacts traits.successor s p (step (table_by R) s (Sync p))
  unfolding step
  sync_facts_of s p = decided (λ (o : Outcome). accepted o.reply ≡ true → SyncFacts traits.successor s p o) (rows (table_by R) s (Sync p)) ((table_by R).act s (Sync p)) s refl
      (λ f _. rw L.successor_is (record { reply_is = refl; record_is = publisher_written (publisher_moves (undamaged_facts (table_by R) s f.0) p _ (leb-false _ _ f.1.0)) }))
      (λ ok. clash (sym ok))

  release_facts_of : (s : State) (p : ℕ) → accepted (step (table_by R) s (Release p)).reply ≡ true → ReleaseFacts s p (step (table_by R) s (Release p))
  unfolding step
  release_facts_of s p = decided (λ (o : Outcome). accepted o.reply ≡ true → ReleaseFacts s p o) (rows (table_by R) s (Release p)) ((table_by R).act s (Release p)) s refl
      (λ f _. let m = publisher_moves_head (undamaged_facts (table_by R) s f.0) p (publisher s p at_place place_idle) (leb-false _ _ f.1.0) releases_at _ (omega arith) (omega arith) in
      record { turn = eqb-true _ _ (not-false _ f.1.1.0); reply_is = refl; releases_are = m.releases_is; record_is = publisher_written m })
      (λ ok. clash (sym ok))

  own_table : Demand3 (machine (table_by R)) (λ z. z.table)
  own_table = rw L.first_is at (demand3_of R traits L)

  writes_in_range : WritesInRange (machine (table_by R))
  unfolding step
  writes_in_range s p v = decided (λ (o : Outcome). accepted o.reply ≡ true → out_of_range v ≡ false) (rows (table_by R) s (Write p v)) ((table_by R).act s (Write p v)) s refl
      (λ f _. f.1.1.0)
      (λ ok. clash (sym ok))

  -- A RAISE of a publisher whose mark fits.
  raise_acts : (s : State) (p : ℕ) → Undamaged R.damage s → p < publishers s.words → R.damage.versions.wrong_mark (publisher s p).walk.mark ≡ false → RaiseFacts traits.successor s p (raise R.damage.versions s p)
  raise_acts s p no_damage lt fits = rw L.successor_is (choose_split (λ (o : Outcome). RaiseFacts R.damage.versions.mark_at s p o) (eqb (version s.words) (R.damage.versions.before_mark (publisher s p).walk.mark))
      (λ e. let m = publisher_moves_head no_damage p (publisher s p at_place place_raised) lt version_at (publisher s p).walk.mark (omega arith) (omega arith) in
      record {
        raised = λ _. (refl, m.version_is);
        shared = λ ne. absurd (ne (ap R.damage.versions.mark_at (eqb-true _ _ e) ∙ L.kind_law.versions_law.mark_after _ fits));
        record_is = publisher_written m;
      })
      (λ e. let m = publisher_moves no_damage p (publisher s p at_place place_raised) lt in
      record {
        raised = λ q. absurd (eqb-false _ _ e (sym (L.kind_law.versions_law.before_mark_lem (version s.words) no_damage.head.version_fits) ∙ ap R.damage.versions.before_mark q));
        shared = λ ne. (refl, m.version_is);
        record_is = publisher_written m;
      }))

  raise_facts_of : (s : State) (p : ℕ) → accepted (step (table_by R) s (Raise p)).reply ≡ true → RaiseFacts traits.successor s p (step (table_by R) s (Raise p))
  unfolding step
  raise_facts_of s p = decided (λ (o : Outcome). accepted o.reply ≡ true → RaiseFacts traits.successor s p o) (rows (table_by R) s (Raise p)) ((table_by R).act s (Raise p)) s refl
      (λ f _.
      let no_damage = undamaged_facts (table_by R) s f.0 in
      let lt = leb-false (publishers s.words) p f.1.0 in
      raise_acts s p no_damage lt ((undamaged_publisher L.kind_law _ _ (publisher s p) (no_damage.publishers_undamaged p lt)).mark_fits (late_turn (publisher s p).place (not-false _ f.1.1.0))))
      (λ ok. clash (sym ok))
    where
      late_turn : (pl : ℕ) → R.raises_at pl ≡ true → place_synchronising ≤ pl
      late_turn pl e = go (leb 35 pl) refl
        where
          go : (test : Bool) → leb place_synchronising pl ≡ test → place_synchronising ≤ pl
          go true d = leb-true 35 pl d
          go false d = absurd (not_both _ e (L.raises_late pl (let less = leb-false 35 pl d in omega arith)))

pub promises_of : (R : SectionRules) (traits : GraceTraits) → KindShows R traits → Promises (table_by R) traits
promises_of R traits L = record {
  every = record {
    demand3 = demand3_of R traits L;
    companions = λ s f cs. (companions_of R traits L s f cs).every;
    looks_in_range = looks_in_range (machine (table_by R)) (writes_in_range R traits L) (own_table R traits L) traits.every (makes_fresh_of R traits L);
    first_table_until_swap = first_table_until_swap (machine (table_by R)) (own_table R traits L);
    never_damaged = never_damaged_of R traits L;
    making_accepts = making_accepts_of R traits L;
    making_only = making_only_of R traits L;
    refused_leaves = refused_leaves_of_acts (λ s. traits.every.publishes) (table_by R) (act_laws_of R traits L);
    frame = frame_of_table (λ s. traits.every.publishes) (table_by R) (act_laws_of R traits L);
    makes_fresh = makes_fresh_of R traits L;
    representable = representable_of_table (λ s. traits.every.publishes) (table_by R) (act_laws_of R traits L);
    representable_making = representable_making_of_table (λ s. traits.every.publishes) (table_by R) (act_laws_of R traits L);
    named = named_of R traits L;
    shared_facts = rw L.exclusive_is (shared_facts_of R.exclusive (table_by R) (shared_calls_of R));
  };
  companions = companions_of R traits L;
  sync_facts = sync_facts_of R traits L;
  raise_facts = raise_facts_of R traits L;
  release_facts = release_facts_of R traits L;
  walk_zero = walk_zero_of R traits L;
}

pub walk_facts : (R : SectionRules) (s : State) (p b : ℕ) (Looks : Type 0) → (Undamaged R.damage s → p < publishers s.words → R.walks_at (publisher s p).place ≡ true → Looks)
    → accepted (step (table_by R) s (Walk p b)).reply ≡ true → WalkFacts s p (R.looks s p b) Looks (step (table_by R) s (Walk p b))
unfolding step
walk_facts R s p b Looks looks = decided (λ (o : Outcome). accepted o.reply ≡ true → WalkFacts s p (R.looks s p b) Looks o) (rows (table_by R) s (Walk p b)) ((table_by R).act s (Walk p b)) s refl
    (λ f _.
    let no_damage = undamaged_facts (table_by R) s f.0 in
    let lt = leb-false (publishers s.words) p f.1.0 in
    record { reply_is = refl; record_is = walk_record R.damage s no_damage p lt (R.looks s p b); looks_are = looks no_damage lt (not-false _ f.1.1.0) })
    (λ ok. clash (sym ok))
