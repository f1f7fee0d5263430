-- Each call keeps what Epochs says: a participant anew leaves the others as they are, what it has observed never falls, and a pick is of the current slot, which nobody has retired. Assumes nothing.
-- v is the epoch; S are the slots picked and not dropped since; xs, ys, ts and ds are the readers, publishers, retirements and retired slots; x, y, t and e are new ones of one participant.
use Rattle.std.specs.Prelude.{ℕ, ◌+◌, ◌-◌, ◌<◌, ◌≤◌, ◌≡◌, refl, ◌≢◌, Bool, true, false, not, ◌&&◌, ◌||◌, leb, ltb, eqb}
use Rattle.std.proofs.Common.{arith, sym, eqb-true, ne_eqb, leb-true, leb-false, le-leb, ltb-true, ltb-false}
use Rattle.std.proofs.lemmas.Bool.{eqb-false, not-false}
use Rattle.base.specs.Base.{choose, upd}
use Rattle.base.specs.Rows.{any_below, count_below}
use Rattle.base.specs.RowLaws.{clash, same, at_or, negated, and_not, none_below, no_below, by_test, choose_split, count_none, count_more, count_like}
use Rattle.calls.specs.Numbers.{place_out, place_picked, place_idle, place_swapped, place_deferring}
use Rattle.layout.specs.declared.Reader.{Reader}
use Rattle.layout.specs.declared.Publisher.{Publisher}
use Rattle.layout.specs.declared.Retirement.{Retirement}
use Rattle.layout.specs.declared.Retired.{Retired}
use Rattle.layout.specs.Records.{◌place≔◌, ◌first≔◌, ◌second≔◌, ◌published≔◌, ◌picked≔◌, ◌at_place◌, ◌walk≔◌, ◌mark≔◌, ◌step≔◌, ◌count≔◌}
use Rattle.qsbr_law.specs.Steps.{least_of}
use Rattle.qsbr_law.specs.KindInvariant.{InsideCheckpoint, Deferring, Epochs}

-- At a fresh store: nobody is inside a checkpoint, at 35, or has a pick or a retired slot.
pub fresh_epochs : (v : ℕ) (xs : ℕ → Reader) (ys : ℕ → Publisher) (ts : ℕ → Retirement) (ds : ℕ → ℕ → Retired) → ((r : ℕ) → ((xs r).place ≡ 0) × ((xs r).published ≤ v)) → ((p : ℕ) → ((ys p).place ≡ 0) × ((ys p).walk.waits ≤ (ys p).walk.looks))
    → ((p : ℕ) → ((ts p).step ≡ 0) × ((ts p).count ≡ 0)) → Epochs v (λ r slot. false) xs ys ts ds
fresh_epochs v xs ys ts ds readers publishers retirements = record {
  observed_low = λ r. (readers r).1;
  inside = λ r l. absurd (omega (arith, (retirements r).0));
  raised = λ p e. absurd (omega (arith, (publishers p).0));
  reads = λ r q l. absurd (omega (arith, (retirements r).0));
  marks_low = λ p i l. absurd (omega (arith, (retirements p).1));
  later = λ p r i l e. clash (sym e);
  coming = λ p r l e. clash (sym e);
  picked_is = λ r e. absurd (omega (arith, (readers r).0));
  waits_low = λ p. (publishers p).1;
  unqueued = λ p l. absurd (omega (arith, (publishers p).0));
  once = λ p slot. rw (retirements p).1 (omega (arith, count_none (λ i. eqb (ds p i).slot slot) 0 (λ i l. absurd (omega arith))));
}

module _ (v : ℕ) (S : ℕ → ℕ → Bool) (xs : ℕ → Reader) (ys : ℕ → Publisher) (ts : ℕ → Retirement) (ds : ℕ → ℕ → Retired) (k : Epochs v S xs ys ts ds) where
  -- What others have observed does not fall.
  more : (r : ℕ) (x : Reader) → (xs r).published ≤ x.published → (n q : ℕ) → n ≤ (xs q).published → n ≤ (upd xs r x q).published
  more r x up n q = at_or r {Q = λ q. n ≤ (xs q).published → n ≤ (upd xs r x q).published} (rw (same r) (λ l. omega arith)) (λ j e. rw e (λ l. l)) q

  count_kept : (r : ℕ) (t : Retirement) → t.count ≡ (ts r).count → (p : ℕ) → (upd ts r t p).count ≡ (ts p).count
  count_kept r t e = at_or r (rw (same r) e) (λ j d. rw d refl)

  -- A participant's reader, picks and step anew.
  reader_epochs : (r : ℕ) (x : Reader) (picks : ℕ → Bool) (t : Retirement) → t.count ≡ (ts r).count → (xs r).published ≤ x.published → x.published ≤ v → (1 ≤ t.step → InsideCheckpoint v x picks)
      → ((ys r).place ≡ place_deferring → Deferring v x (ys r) picks) → ((q : ℕ) → q + 2 < t.step → x.second ≤ (xs q).published)
      → ((p i : ℕ) → i < (ts p).count → picks (ds p i).slot ≡ true → x.published < (ds p i).mark)
      → ((p : ℕ) → (ys p).place ≡ place_deferring → picks (ys p).held ≡ true → x.published < (ys p).walk.mark)
      → (x.place ≡ place_picked → picks x.picked ≡ true)
      → Epochs v (upd S r picks) (upd xs r x) ys (upd ts r t) ds
  reader_epochs r x picks t same_count up low inside-so raised-so reads_so later-so coming-so picked-so = record {
    observed_low = at_or r (rw (same r) low) (λ j e. rw e (k.observed_low j));
    inside = at_or r (rw (same r) inside-so) (λ j e. rw e (k.inside j));
    raised = at_or r (rw (same r) raised-so) (λ j e. rw e (k.raised j));
    reads = at_or r (λ q. rw (same r) (λ l. more r x up x.second q (reads_so q l))) (λ j e q. rw e (λ l. more r x up (xs j).second q (k.reads j q l)));
    marks_low = λ p. rw (count_kept r t same_count p) (k.marks_low p);
    later = λ p. rw (count_kept r t same_count p) (at_or r (λ i. rw (same r) (later-so p i)) (λ j e i. rw e (k.later p j i)));
    coming = λ p. at_or r (rw (same r) (coming-so p)) (λ j e. rw e (k.coming p j));
    picked_is = at_or r (rw (same r) picked-so) (λ j e. rw e (k.picked_is j));
    waits_low = k.waits_low;
    unqueued = λ p. rw (count_kept r t same_count p) (k.unqueued p);
    once = λ p. rw (count_kept r t same_count p) (k.once p);
  }

  -- PICK, outside a checkpoint and not at 35, of the current slot, which is none of the retired ones and none that a publisher from 34 on holds.
  pub pick_epochs : (r cur : ℕ) → (ts r).step ≡ 0 → (ys r).place ≢ place_deferring → ((p i : ℕ) → i < (ts p).count → (ds p i).slot ≢ cur) → ((p : ℕ) → (ys p).place ≡ place_deferring → (ys p).held ≢ cur)
      → Epochs v (upd S r (λ slot. eqb cur slot || S r slot)) (upd xs r (xs r place≔ place_picked picked≔ cur)) ys (upd ts r (ts r)) ds
  pick_epochs r cur out apart unretired unheld = reader_epochs r _ _ (ts r) refl (omega arith) (k.observed_low r) (λ l. absurd (omega arith)) (λ e. absurd (apart e)) (λ q l. absurd (omega arith))
      (λ p i l. rw (ne_eqb cur (ds p i).slot (λ e. unretired p i l (sym e))) (k.later p r i l)) (λ p e. rw (ne_eqb cur (ys p).held (λ d. unheld p e (sym d))) (k.coming p r e)) (λ _. rw (same cur) refl)

  -- CHECKPOINT, not at 35: the first step drops the picks and loads, the second observes, each later one reads.
  pub load_epochs : (r : ℕ) → (ys r).place ≢ place_deferring → Epochs v (upd S r (λ slot. false)) (upd xs r (xs r place≔ place_out first≔ v)) ys (upd ts r (ts r step≔ 1)) ds
  load_epochs r apart = reader_epochs r _ _ _ refl (omega arith) (k.observed_low r) (λ _. record { loaded_low = omega arith; loaded_high = k.observed_low r; dropped = λ slot e. clash (sym e) }) (λ e. absurd (apart e))
      (λ q l. absurd (omega arith)) (λ p i l e. clash (sym e)) (λ p l e. clash (sym e)) (λ e. absurd (omega arith))

  pub observe_epochs : (r : ℕ) → (ys r).place ≢ place_deferring → (ts r).step ≡ 1 → Epochs v (upd S r (S r)) (upd xs r (xs r published≔ (xs r).first)) ys (upd ts r (ts r step≔ 2)) ds
  observe_epochs r apart one = let at-r = k.inside r (omega arith) in
      reader_epochs r _ (S r) _ refl at-r.loaded_high at-r.loaded_low (λ _. record { loaded_low = at-r.loaded_low; loaded_high = omega arith; dropped = at-r.dropped }) (λ e. absurd (apart e))
      (λ q l. absurd (omega arith)) (λ p i l e. absurd (at-r.dropped _ e)) (λ p l e. absurd (at-r.dropped _ e)) (k.picked_is r)

  -- The least after a read is at most what each participant read so far has observed.
  pub least_low : (r q : ℕ) → 2 ≤ (ts r).step → q + 2 < (ts r).step + 1 → least_of (ts r).step (xs ((ts r).step - 2)).published (xs r).second ≤ (xs q).published
  least_low r q two l = go (eqb (ts r).step 2) refl (eqb q ((ts r).step - 2)) refl (ltb (xs ((ts r).step - 2)).published (xs r).second) refl
    where
      go : (first : Bool) → eqb (ts r).step 2 ≡ first → (here : Bool) → eqb q ((ts r).step - 2) ≡ here → (less : Bool) → ltb (xs ((ts r).step - 2)).published (xs r).second ≡ less
          → choose first (xs ((ts r).step - 2)).published (choose less (xs ((ts r).step - 2)).published (xs r).second) ≤ (xs q).published
      go true d true e less f = rw (← eqb-true q ((ts r).step - 2) e) (omega arith)
      go true d false e less f = absurd (omega (arith, eqb-false q ((ts r).step - 2) e, eqb-true (ts r).step 2 d))
      go false d true e true f = rw (← eqb-true q ((ts r).step - 2) e) (omega arith)
      go false d true e false f = rw (← eqb-true q ((ts r).step - 2) e) at (ltb-false (xs ((ts r).step - 2)).published (xs r).second f)
      go false d false e true f = let ne = eqb-false q ((ts r).step - 2) e in let l' = k.reads r q (omega arith) in let less = ltb-true (xs ((ts r).step - 2)).published (xs r).second f in omega arith
      go false d false e false f = let ne = eqb-false q ((ts r).step - 2) e in k.reads r q (omega arith)

  pub read_epochs : (r : ℕ) → (ys r).place ≢ place_deferring → 2 ≤ (ts r).step
      → Epochs v (upd S r (S r)) (upd xs r (xs r second≔ least_of (ts r).step (xs ((ts r).step - 2)).published (xs r).second)) ys (upd ts r (ts r step≔ (ts r).step + 1)) ds
  read_epochs r apart two = let at-r = k.inside r (omega arith) in
      reader_epochs r _ (S r) _ refl (omega arith) (k.observed_low r) (λ _. record { loaded_low = at-r.loaded_low; loaded_high = at-r.loaded_high; dropped = at-r.dropped }) (λ e. absurd (apart e))
      (λ q l. least_low r q two l) (λ p i l e. absurd (at-r.dropped _ e)) (λ p l e. absurd (at-r.dropped _ e)) (k.picked_is r)

  -- The last step: outside again, and of the retired slots e each one that stays was there.
  pub last_epochs : (r n : ℕ) (e : ℕ → Retired) → (ys r).place ≢ place_deferring → 2 ≤ (ts r).step
      → ((g : Retired → Bool) → any_below (λ i. g (ds r i)) (ts r).count ≡ false → any_below (λ i. g (e i)) n ≡ false)
      → ((g : Retired → Bool) → count_below (λ i. g (e i)) n ≤ count_below (λ i. g (ds r i)) (ts r).count)
      → Epochs v S (upd xs r (xs r second≔ least_of (ts r).step (xs ((ts r).step - 2)).published (xs r).second)) ys (upd ts r (ts r step≔ 0 count≔ n)) (upd ds r e)
  last_epochs r n e apart two stays fewer = let at-r = k.inside r (omega arith) in record {
    observed_low = at_or r (rw (same r) (k.observed_low r)) (λ j d. rw d (k.observed_low j));
    inside = at_or r (rw (same r) (λ l. absurd (omega arith))) (λ j d. rw d (k.inside j));
    raised = at_or r (rw (same r) (λ d. absurd (apart d))) (λ j d. rw d (k.raised j));
    reads = at_or r (λ q. rw (same r) (λ l. absurd (omega arith))) (λ j d q. rw d (λ l. more r _ (omega arith) (xs j).second q (k.reads j q l)));
    marks_low = at_or r (λ i. rw (same r) (λ l. leb-true _ _ (still_low i l))) (λ p d i. rw d (k.marks_low p i));
    later = at_or r (at_or r (λ i. rw (same r) (λ l e'. absurd (at-r.dropped _ e'))) (λ j d i. rw (same r, d) (was_later j i))) (λ p d. at_or r (λ i. rw (same r, d) (λ l e'. absurd (at-r.dropped _ e'))) (λ j d' i. rw (d, d') (k.later p j i)));
    coming = λ p. at_or r (rw (same r) (λ l e'. absurd (at-r.dropped _ e'))) (λ j d. rw d (k.coming p j));
    picked_is = at_or r (rw (same r) (k.picked_is r)) (λ j d. rw d (k.picked_is j));
    waits_low = k.waits_low;
    unqueued = at_or r (rw (same r) (λ l. stays (λ d. eqb d.slot (ys r).held) (k.unqueued r l))) (λ p d. rw d (k.unqueued p));
    once = at_or r (λ slot. rw (same r) (omega (arith, fewer (λ d. eqb d.slot slot), k.once r slot))) (λ p d slot. rw d (k.once p slot));
  }
    where
      still_low : (i : ℕ) → i < n → leb (e i).mark v ≡ true
      still_low i l = not-false _ (none_below (λ i. not (leb (e i).mark v)) n i (stays (λ d. not (leb d.mark v)) (no_below (λ i. not (leb (ds r i).mark v)) (ts r).count (λ i l. negated _ (le-leb _ _ (k.marks_low r i l))))) l)

      -- whoever picked one that stays: none that was there has a mark that it has reached
      was_later : (j i : ℕ) → i < n → S j (e i).slot ≡ true → (xs j).published < (e i).mark
      was_later j i l there =
          let none-reached = no_below (λ i. S j (ds r i).slot && leb (ds r i).mark (xs j).published) (ts r).count
          (λ i l. and_not (S j (ds r i).slot) (leb (ds r i).mark (xs j).published) (λ d. not_reached i l d)) in
          let none-now = none_below (λ i. S j (e i).slot && leb (e i).mark (xs j).published) n i (stays (λ d. S j d.slot && leb d.mark (xs j).published) none-reached) l in
          leb-false (e i).mark (xs j).published (rw there at none-now)
        where
          not_reached : (i : ℕ) → i < (ts r).count → S j (ds r i).slot ≡ true → leb (ds r i).mark (xs j).published ≡ false
          not_reached i l d = by_test _ (λ t. let reached = leb-true (ds r i).mark (xs j).published t in let above-now = k.later r j i l d in omega arith)

  -- DEFER at 34: the picks are dropped, the epoch rises, and the raised value is the mark.
  pub raise_epochs : (p : ℕ) → (ts p).step ≡ 0 → (ys p).place ≡ place_swapped
      → Epochs (v + 1) (upd S p (λ slot. false)) (upd xs p (xs p place≔ place_out)) (upd ys p (ys p at_place place_deferring walk≔ ((ys p).walk mark≔ (v + 1)))) (upd ts p (ts p)) ds
  raise_epochs p out at34 = record {
    observed_low = at_or p (rw (same p) (omega (arith, k.observed_low p))) (λ j e. rw e (omega (arith, k.observed_low j)));
    inside = at_or p (rw (same p) (λ l. absurd (omega arith))) (λ j e. rw e (λ l. let at_j = k.inside j l in record { loaded_low = omega (arith, at_j.loaded_low); loaded_high = at_j.loaded_high; dropped = at_j.dropped }));
    raised = at_or p (rw (same p) (λ _. record { mark_low = omega arith; mark_high = omega (arith, k.observed_low p); dropped = λ slot e. clash (sym e) }))
        (λ j e. rw e (λ d. let at_j = k.raised j d in record { mark_low = omega (arith, at_j.mark_low); mark_high = at_j.mark_high; dropped = at_j.dropped }));
    reads = at_or p (λ q. rw (same p) (λ l. absurd (omega arith))) (λ j e q. rw e (λ l. more p _ (omega arith) (xs j).second q (k.reads j q l)));
    marks_low = λ q. rw (count_kept p (ts p) refl q) (λ i l. omega (arith, k.marks_low q i l));
    later = λ q. rw (count_kept p (ts p) refl q) (at_or p (λ i. rw (same p) (λ l e. clash (sym e))) (λ j e i. rw e (k.later q j i)));
    coming = at_or p (at_or p (rw (same p) (λ l e. clash (sym e))) (λ j e. rw (same p, e) (λ _ _. omega (arith, k.observed_low j))))
        (λ q d. at_or p (rw (same p) (λ l e. clash (sym e))) (λ j e. rw (d, e) (k.coming q j)));
    picked_is = at_or p (rw (same p) (λ five. absurd (omega arith))) (λ j e. rw e (k.picked_is j));
    waits_low = at_or p (rw (same p) (k.waits_low p)) (λ q d. rw d (k.waits_low q));
    unqueued = λ q. rw (count_kept p (ts p) refl q) (at_or p {Q = λ q. place_swapped ≤ (upd ys p (ys p at_place place_deferring walk≔ ((ys p).walk mark≔ (v + 1))) q).place → any_below (λ i. eqb (ds q i).slot (upd ys p (ys p at_place place_deferring walk≔ ((ys p).walk mark≔ (v + 1))) q).held) (ts q).count ≡ false}
        (rw (same p) (λ _. k.unqueued p (omega arith))) (λ j e. rw e (k.unqueued j)) q);
    once = λ q. rw (count_kept p (ts p) refl q) (k.once q);
  }

  -- DEFER at 35: it observes its mark, and the slot held is retired with it.
  pub queue_epochs : (p : ℕ) → (ts p).step ≡ 0 → (ys p).place ≡ place_deferring
      → Epochs v S (upd xs p (xs p published≔ (ys p).walk.mark)) (upd ys p (ys p at_place place_idle)) (upd ts p (ts p count≔ (ts p).count + 1)) (upd ds p (upd (ds p) (ts p).count (record { slot = (ys p).held; mark = (ys p).walk.mark })))
  queue_epochs p out at35 = let at_p = k.raised p at35 in record {
    observed_low = at_or p (rw (same p) at_p.mark_low) (λ j e. rw e (k.observed_low j));
    inside = at_or p (rw (same p) (λ l. absurd (omega arith))) (λ j e. rw e (k.inside j));
    raised = at_or p (rw (same p) (λ e. absurd (omega arith))) (λ j e. rw e (k.raised j));
    reads = at_or p (λ q. rw (same p) (λ l. absurd (omega arith))) (λ j e q. rw e (λ l. more p _ at_p.mark_high (xs j).second q (k.reads j q l)));
    marks_low = at_or p (λ i. rw (same p) (λ l. choose_split (λ (d : Retired). d.mark ≤ v) (eqb i (ts p).count) (λ _. at_p.mark_low) (λ ne. let unequal = eqb-false i (ts p).count ne in k.marks_low p i (omega arith)))) (λ q d i. rw d (k.marks_low q i));
    later = at_or p (at_or p (λ i. rw (same p) (λ l e. absurd (at_p.dropped _ e))) (λ j e. rw (same p, e) (queued_later j)))
        (λ q d. at_or p (λ i. rw (same p, d) (λ l e. absurd (at_p.dropped _ e))) (λ j e i. rw (d, e) (k.later q j i)));
    coming = at_or p (λ r. rw (same p) (λ e. absurd (omega arith))) (λ q d. at_or p (rw (same p, d) (λ l e. absurd (at_p.dropped _ e))) (λ j e. rw (d, e) (k.coming q j)));
    picked_is = at_or p (rw (same p) (k.picked_is p)) (λ j e. rw e (k.picked_is j));
    waits_low = at_or p (rw (same p) (k.waits_low p)) (λ q d. rw d (k.waits_low q));
    unqueued = at_or p (rw (same p) (λ l. absurd (omega arith))) (λ q d. rw d (k.unqueued q));
    once = at_or p (λ slot. rw (same p) (queued_once slot)) (λ q d slot. rw d (k.once q slot));
  }
    where
      queued : ℕ → Retired
      queued = upd (ds p) (ts p).count (record { slot = (ys p).held; mark = (ys p).walk.mark })

      queued_once : (slot : ℕ) → count_below (λ i. eqb (queued i).slot slot) ((ts p).count + 1) ≤ 1
      queued_once slot = go (eqb (ys p).held slot) refl
        where
          before : count_below (λ i. eqb (queued i).slot slot) (ts p).count ≡ count_below (λ i. eqb (ds p i).slot slot) (ts p).count
          before = count_like (λ i. eqb (queued i).slot slot) (λ i. eqb (ds p i).slot slot) (ts p).count (λ i l. rw (ne_eqb i (ts p).count (λ e. omega arith)) refl)

          go : (b : Bool) → eqb (ys p).held slot ≡ b → count_below (λ i. eqb (queued i).slot slot) ((ts p).count + 1) ≤ 1
          go true d =
              let none-was : count_below (λ i. eqb (ds p i).slot slot) (ts p).count ≡ 0 =
              rw (← eqb-true (ys p).held slot d) (count_none (λ i. eqb (ds p i).slot (ys p).held) (ts p).count (λ i l. none_below (λ i. eqb (ds p i).slot (ys p).held) (ts p).count i (k.unqueued p (omega arith)) l)) in
              omega (arith, rw (same (ts p).count, d) at (count_more (λ i. eqb (queued i).slot slot) (ts p).count), before, none-was)
          go false d = omega (arith, rw (same (ts p).count, d) at (count_more (λ i. eqb (queued i).slot slot) (ts p).count), before, k.once p slot)

      queued_later : (j i : ℕ) → i < (ts p).count + 1 → S j (upd (ds p) (ts p).count (record { slot = (ys p).held; mark = (ys p).walk.mark }) i).slot ≡ true
          → (xs j).published < (upd (ds p) (ts p).count (record { slot = (ys p).held; mark = (ys p).walk.mark }) i).mark
      queued_later j i l = go (eqb i (ts p).count) refl
        where
          go : (b : Bool) → eqb i (ts p).count ≡ b → S j (choose b (record { slot = (ys p).held; mark = (ys p).walk.mark }) (ds p i)).slot ≡ true → (xs j).published < (choose b (record { slot = (ys p).held; mark = (ys p).walk.mark }) (ds p i)).mark
          go true d e = k.coming p j at35 e
          go false d e = let ne = eqb-false i (ts p).count d in k.later p j i (omega arith) e

  -- CLAIM, WRITE and SWAP: a publisher below 35.
  pub early_epochs : (p : ℕ) (y : Publisher) → y.place ≤ place_swapped → (place_swapped ≤ y.place → any_below (λ i. eqb (ds p i).slot y.held) (ts p).count ≡ false) → y.walk.waits ≤ y.walk.looks → Epochs v S xs (upd ys p y) ts ds
  early_epochs p y low unretired waits = record {
    observed_low = k.observed_low;
    inside = k.inside;
    raised = at_or p (rw (same p) (λ e. absurd (omega arith))) (λ q d. rw d (k.raised q));
    reads = k.reads;
    marks_low = k.marks_low;
    later = k.later;
    coming = at_or p (λ r. rw (same p) (λ e. absurd (omega arith))) (λ q d r. rw d (k.coming q r));
    picked_is = k.picked_is;
    waits_low = at_or p (rw (same p) waits) (λ q d. rw d (k.waits_low q));
    unqueued = at_or p (rw (same p) unretired) (λ q d. rw d (k.unqueued q));
    once = k.once;
  }
