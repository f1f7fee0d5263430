-- Each call keeps that told and stored agree on epochs, steps and marks: what one participant moves is told of it, and of no other. Assumes nothing.
-- first is the first version, n the number of participants, d what was told; v is the epoch; xs, ys, ts and ds are the readers, publishers, retirements and retired slots.
use Prim.Native.Nat.{ℕ, zero, suc, ◌+◌, ◌-◌, ◌<◌, ◌≤◌, min}
use Rattle.std.proofs.Common.{arith, add-one, sym, ap, ◌∙◌, subst}
use Rattle.std.specs.Prelude.{◌≡◌, refl, Bool, true, false, not, ◌&&◌, ◌||◌, leb, ltb, eqb}
use Rattle.std.proofs.Math.Option.{Option, none, some}
use borrow.Author.Tests.{eqb-true, eqb-false, eq-eqb, ne_eqb, leb-true, leb-false, le-leb, lt-ltb, le-ltb, ltb-true, ltb-false, not-false}
use Rattle.base.specs.Base.{choose, upd}
use Rattle.base.specs.Rows.{any_below}
use Rattle.base.specs.RowLaws.{clash, same, at_or, negated, and_not, none_below, no_below, some_below, none_first, any_more, or_none}
use Rattle.calls.specs.Numbers.{place_out, place_idle, place_swapped, place_deferring}
use Rattle.calls.specs.Deferral.{Deferral, deferral₀, after_pick_of, is_last_step, least_after, reached, after_step, after_raise, marked_by, after_queue, is_marked}
use Rattle.layout.specs.declared.Reader.{Reader}
use Rattle.layout.specs.declared.Publisher.{Publisher}
use Rattle.layout.specs.declared.Retirement.{Retirement}
use Rattle.layout.specs.declared.Retired.{Retired}
use Rattle.layout.specs.Records.{◌place≔◌, ◌published≔◌, ◌at_place◌, ◌walk≔◌, ◌mark≔◌, ◌step≔◌, ◌count≔◌}
use Rattle.qsbr_law.specs.Steps.{lesser, least_of}
use Rattle.qsbr_law.specs.KindInvariant.{MarkedAs, ToldEpochs}

pub fresh_told : (first n : ℕ) (xs : ℕ → Reader) (ys : ℕ → Publisher) (ts : ℕ → Retirement) (ds : ℕ → ℕ → Retired) → ((r : ℕ) → r < n → (xs r).published ≡ first) → ((p : ℕ) → (ys p).place ≡ 0)
    → ((p : ℕ) → ((ts p).step ≡ 0) × ((ts p).count ≡ 0)) → ToldEpochs first n (deferral₀ n) first xs ys ts ds
fresh_told first n xs ys ts ds readers publishers retirements = record {
  participants_are = refl;
  epoch_is = omega arith;
  steps_are = λ r. sym (retirements r).0;
  loads_are = λ r l. absurd (omega (arith, (retirements r).0));
  observed_are = λ r l. readers r l ∙ (omega arith);
  leasts_are = λ r l. absurd (omega (arith, (retirements r).0));
  mark_is = λ p e. absurd (omega (arith, publishers p));
  marks_are = λ p i l. absurd (omega (arith, (retirements p).1));
  queued_are = λ p slot. rw (retirements p).1 (sym (none_first (λ i. eqb (ds p i).slot slot)));
}

-- A test that comes out alike of every one of the first n for which another holds.
alike_below : (f g : ℕ → Bool) (b : Bool) (n : ℕ) → ((i : ℕ) → i < n → g i ≡ true → f i ≡ b) → any_below (λ i. f i && g i) n ≡ b && any_below g n
alike_below f g true zero e = none_first (λ i. f i && g i) ∙ sym (none_first g)
alike_below f g false zero e = none_first (λ i. f i && g i)
alike_below f g b (suc n) e = rw (← add-one n) (any_more (λ i. f i && g i) n ∙ (rw (alike_below f g b n (λ i l. e i (omega arith))) (go (g n) refl) ∙ ap (λ (found : Bool). b && found) (sym (any_more g n))))
  where
    go : (here : Bool) → g n ≡ here → (b && any_below g n) || (f n && here) ≡ b && (any_below g n || here)
    go true d = rw (e n (omega arith) d) (distributes b (any_below g n))
      where
        distributes : (b found : Bool) → (b && found) || (b && true) ≡ b && (found || true)
        distributes true found = refl
        distributes false found = refl
    go false d = no_more (f n) b (any_below g n)
      where
        no_more : (here b found : Bool) → (b && found) || (here && false) ≡ b && (found || false)
        no_more true b found = or_none (b && found) ∙ ap (λ (found' : Bool). b && found') (sym (or_none found))
        no_more false b found = or_none (b && found) ∙ ap (λ (found' : Bool). b && found') (sym (or_none found))

pub below_same : (f g : ℕ → Bool) (n : ℕ) → ((i : ℕ) → i < n → f i ≡ g i) → any_below f n ≡ any_below g n
below_same f g zero e = none_first f ∙ sym (none_first g)
below_same f g (suc n) e = rw (← add-one n) (any_more f n ∙ (rw (below_same f g n (λ i l. e i (omega arith)), e n (omega arith)) refl ∙ sym (any_more g n)))

module _ (first n : ℕ) (d : Deferral) (v : ℕ) (xs : ℕ → Reader) (ys : ℕ → Publisher) (ts : ℕ → Retirement) (ds : ℕ → ℕ → Retired) (k : ToldEpochs first n d v xs ys ts ds) where
  -- A mark told, as a test.
  agrees : Option ℕ → ℕ → Bool
  agrees none mark = false
  agrees (some told) mark = eqb mark (first + told)

  agreed : (told : Option ℕ) (mark : ℕ) → agrees told mark ≡ true → MarkedAs first told mark
  unfolding agrees
  agreed none mark e = clash (sym e)
  agreed (some told) mark e = eqb-true mark (first + told) e

  -- A reader of which only place and pick are new.
  same_told : (r : ℕ) (x : Reader) → x.first ≡ (xs r).first → x.second ≡ (xs r).second → x.published ≡ (xs r).published → ToldEpochs first n d v (upd xs r x) ys (upd ts r (ts r)) ds
  same_told r x same_first same_second same-published = record {
    participants_are = k.participants_are;
    epoch_is = k.epoch_is;
    steps_are = at_or r (rw (same r) (k.steps_are r)) (λ j e. rw e (k.steps_are j));
    loads_are = at_or r (rw (same r) (λ l. same_first ∙ k.loads_are r l)) (λ j e. rw e (k.loads_are j));
    observed_are = at_or r (rw (same r) (λ l. same-published ∙ k.observed_are r l)) (λ j e. rw e (k.observed_are j));
    leasts_are = at_or r (rw (same r) (λ l. same_second ∙ k.leasts_are r l)) (λ j e. rw e (k.leasts_are j));
    mark_is = k.mark_is;
    marks_are = λ p. rw (count_kept p) (k.marks_are p);
    queued_are = λ p. rw (count_kept p) (k.queued_are p);
  }
    where
      count_kept : (p : ℕ) → (upd ts r (ts r) p).count ≡ (ts p).count
      count_kept = at_or r (rw (same r) refl) (λ j e. rw e refl)

  -- PICK: only picks are told otherwise.
  pub pick_told : (r : ℕ) (x : Reader) (picked : Option ℕ) → x.first ≡ (xs r).first → x.second ≡ (xs r).second → x.published ≡ (xs r).published → ToldEpochs first n (after_pick_of d r picked) v (upd xs r x) ys (upd ts r (ts r)) ds
  pick_told r x picked same_first same_second same-published = let now = same_told r x same_first same_second same-published in record {
    participants_are = now.participants_are;
    epoch_is = now.epoch_is;
    steps_are = now.steps_are;
    loads_are = now.loads_are;
    observed_are = now.observed_are;
    leasts_are = now.leasts_are;
    mark_is = now.mark_is;
    marks_are = now.marks_are;
    queued_are = now.queued_are;
  }

  -- A step of a checkpoint that is not the last.
  pub step_told : (r m : ℕ) (x : Reader) → is_last_step d m ≡ false → x.first ≡ first + choose (eqb m 1) d.raises (d.loaded r) → (r < n → x.published ≡ first + choose (eqb m 2) (d.loaded r) (d.observed r))
      → (3 ≤ m → x.second ≡ first + least_after d r m) → ToldEpochs first n (after_step d r m) v (upd xs r x) ys (upd ts r (ts r step≔ m)) ds
  step_told r m x not_last first_is published-is second_is = record {
    participants_are = k.participants_are;
    epoch_is = k.epoch_is;
    steps_are = at_or r (rw (same r, not_last) refl) (λ j e. rw e (k.steps_are j));
    loads_are = at_or r (rw (same r) (λ l. first_is)) (λ j e. rw e (k.loads_are j));
    observed_are = at_or r (rw (same r) published-is) (λ j e. rw e (k.observed_are j));
    leasts_are = at_or r (rw (same r) second_is) (λ j e. rw e (k.leasts_are j));
    mark_is = k.mark_is;
    marks_are = at_or r (λ i. rw (same r, not_last) (k.marks_are r i)) (λ p e i. rw e (k.marks_are p i));
    queued_are = at_or r (λ slot. rw (same r, not_last) (k.queued_are r slot)) (λ p e slot. rw e (k.queued_are p slot));
  }

  -- The least read, as told and as stored.
  pub least_told : (r : ℕ) → 2 ≤ (ts r).step → (ts r).step - 2 < n → least_of (ts r).step (xs ((ts r).step - 2)).published (xs r).second ≡ first + least_after d r ((ts r).step + 1)
  least_told r two low = go (eqb (ts r).step 2) refl
    where
      go : (starts : Bool) → eqb (ts r).step 2 ≡ starts → choose starts (xs ((ts r).step - 2)).published (lesser (xs r).second (xs ((ts r).step - 2)).published) ≡ first + least_after d r ((ts r).step + 1)
      go true e = let is_2 : (ts r).step ≡ 2 = eqb-true _ 2 e in rw is_2 (k.observed_are 0 (omega arith))
      go false e =
          let ne = eqb-false (ts r).step 2 e in
          let three : 3 ≤ (ts r).step = omega arith in
          let there : (ts r).step + 1 - 3 ≡ (ts r).step - 2 = omega arith in
          rw (ne_eqb ((ts r).step + 1) 3 (λ eq. omega arith), le-leb 4 ((ts r).step + 1) (omega arith), there, k.leasts_are r three, k.observed_are ((ts r).step - 2) low)
          (choose_split' (ltb (first + d.observed ((ts r).step - 2)) (first + d.least r)) refl)
        where
          choose_split' : (less : Bool) → ltb (first + d.observed ((ts r).step - 2)) (first + d.least r) ≡ less
              → choose less (first + d.observed ((ts r).step - 2)) (first + d.least r) ≡ first + min (d.least r) (d.observed ((ts r).step - 2))
          choose_split' true f = let l = ltb-true (first + d.observed ((ts r).step - 2)) (first + d.least r) f in omega arith
          choose_split' false f = let l = ltb-false (first + d.observed ((ts r).step - 2)) (first + d.least r) f in omega arith

  -- The last step: outside again; of the retired slots e those stay that have a mark above the least, and no other mark is told any more.
  pub last_told : (r m : ℕ) (x : Reader) (e : ℕ → Retired) → is_last_step d ((ts r).step + 1) ≡ true → 2 ≤ (ts r).step → x.published ≡ (xs r).published → x.second ≡ first + least_after d r ((ts r).step + 1)
      → ((g : Retired → Bool) → any_below (λ i. g (e i)) m ≡ any_below (λ i. ltb x.second (ds r i).mark && g (ds r i)) (ts r).count)
      → ToldEpochs first n (after_step d r ((ts r).step + 1)) v (upd xs r x) ys (upd ts r (ts r step≔ 0 count≔ m)) (upd ds r e)
  unfolding agrees
  last_told r m x e is_last two same-published least_is stays = record {
    participants_are = k.participants_are;
    epoch_is = k.epoch_is;
    steps_are = at_or r (rw (same r, is_last) refl) (λ j ne. rw ne (k.steps_are j));
    loads_are = at_or r (rw (same r) (λ l. absurd (omega arith))) (λ j ne. rw ne (k.loads_are j));
    observed_are = at_or r (rw (same r, ne_eqb ((ts r).step + 1) 2 (λ eq. omega arith)) (λ l. same-published ∙ k.observed_are r l)) (λ j ne. rw ne (k.observed_are j));
    leasts_are = at_or r (rw (same r) (λ l. absurd (omega arith))) (λ j ne. rw ne (k.leasts_are j));
    mark_is = k.mark_is;
    marks_are = at_or r (λ i. rw (same r, is_last) (still_marked i)) (λ p ne i. rw ne (k.marks_are p i));
    queued_are = at_or r (λ slot. rw (same r, is_last) (still_queued slot)) (λ p ne slot. rw ne (k.queued_are p slot));
  }
    where
      least : ℕ
      least = least_after d r ((ts r).step + 1)

      -- each retired slot whose mark is told has a mark above the stored least exactly if the mark told is above the least told
      above_alike : (told : Option ℕ) (mark : ℕ) → MarkedAs first told mark → ltb x.second mark ≡ is_marked (choose (reached least told) none told)
      above_alike none mark is = absurd is
      above_alike (some told) mark is = go (leb told least) refl
        where
          go : (b : Bool) → leb told least ≡ b → ltb x.second mark ≡ is_marked (choose b none (some told))
          go true f = let l = leb-true told least f in le-ltb x.second mark (omega arith)
          go false f = let l = leb-false told least f in lt-ltb x.second mark (omega arith)

      still_queued : (slot : ℕ) → is_marked (choose (reached least (d.marks r slot)) none (d.marks r slot)) ≡ any_below (λ i. eqb (e i).slot slot) m
      still_queued slot = go (d.marks r slot) refl
        where
          here : (i : ℕ) → i < (ts r).count → eqb (ds r i).slot slot ≡ true → ltb x.second (ds r i).mark ≡ is_marked (choose (reached least (d.marks r slot)) none (d.marks r slot))
          here i l same-slot = above_alike (d.marks r slot) (ds r i).mark (subst (λ (slot' : ℕ). MarkedAs first (d.marks r slot') (ds r i).mark) (eqb-true _ _ same-slot) (k.marks_are r i l))

          stays_so : any_below (λ i. eqb (e i).slot slot) m ≡ is_marked (choose (reached least (d.marks r slot)) none (d.marks r slot)) && any_below (λ i. eqb (ds r i).slot slot) (ts r).count
          stays_so = stays (λ d'. eqb d'.slot slot) ∙ alike_below (λ i. ltb x.second (ds r i).mark) (λ i. eqb (ds r i).slot slot) _ (ts r).count here

          join : (told : Option ℕ) (b : Bool) → is_marked (choose b none told) ≡ is_marked (choose b none told) && is_marked told
          join none true = refl
          join none false = refl
          join (some told) true = refl
          join (some told) false = refl

          go : (told : Option ℕ) → d.marks r slot ≡ told → is_marked (choose (reached least (d.marks r slot)) none (d.marks r slot)) ≡ any_below (λ i. eqb (e i).slot slot) m
          go told _ = join (d.marks r slot) (reached least (d.marks r slot)) ∙ (ap (λ (queued : Bool). is_marked (choose (reached least (d.marks r slot)) none (d.marks r slot)) && queued) (k.queued_are r slot) ∙ sym stays_so)

      -- a slot that stays is one that was there, with a mark above the least, and so its mark is still told
      mark_of : Retired → Option ℕ
      mark_of d' = choose (reached least (d.marks r d'.slot)) none (d.marks r d'.slot)

      still_agrees : (told : Option ℕ) (mark : ℕ) → MarkedAs first told mark → ltb x.second mark ≡ true → agrees (choose (reached least told) none told) mark ≡ true
      still_agrees none mark is above = absurd is
      still_agrees (some told) mark is above = go (leb told least) refl
        where
          go : (b : Bool) → leb told least ≡ b → agrees (choose b none (some told)) mark ≡ true
          go true f = let l = leb-true told least f in let l' = ltb-true x.second mark above in absurd (omega arith)
          go false f = eq-eqb mark (first + told) is

      still_marked : (i : ℕ) → i < m → MarkedAs first (mark_of (e i)) (e i).mark
      still_marked i l = agreed (mark_of (e i)) (e i).mark (not-false _ (none_below (λ i. not (agrees (mark_of (e i)) (e i).mark)) m i
          (stays (λ d'. not (agrees (mark_of d') d'.mark)) ∙ no_below (λ i. ltb x.second (ds r i).mark && not (agrees (mark_of (ds r i)) (ds r i).mark)) (ts r).count
          (λ i l. and_not (ltb x.second (ds r i).mark) _ (λ above. negated _ (still_agrees (d.marks r (ds r i).slot) (ds r i).mark (k.marks_are r i l) above)))) l))

  -- DEFER at 34: one more raise, which is the mark.
  pub raise_told : (p : ℕ) → (ts p).step ≡ 0 → ToldEpochs first n (after_raise d p) (v + 1) (upd xs p (xs p place≔ place_out)) (upd ys p (ys p at_place place_deferring walk≔ ((ys p).walk mark≔ (v + 1)))) (upd ts p (ts p)) ds
  raise_told p out = let now = same_told p (xs p place≔ place_out) refl refl refl in record {
    participants_are = k.participants_are;
    epoch_is = omega (arith, k.epoch_is);
    steps_are = now.steps_are;
    loads_are = now.loads_are;
    observed_are = now.observed_are;
    leasts_are = now.leasts_are;
    mark_is = at_or p (rw (same p) (λ _. omega (arith, k.epoch_is))) (λ q e. rw e (k.mark_is q));
    marks_are = now.marks_are;
    queued_are = now.queued_are;
  }

  -- DEFER at 35: it observes its mark; the slot held, which had no mark, gets it; former says which slots are told former.
  pub queue_told : (p : ℕ) (former : ℕ → Bool) → (ts p).step ≡ 0 → (ys p).place ≡ place_deferring → any_below (λ i. eqb (ds p i).slot (ys p).held) (ts p).count ≡ false
      → ((slot : ℕ) → former slot ≡ any_below (λ i. eqb (ds p i).slot slot) (ts p).count || eqb (ys p).held slot)
      → ToldEpochs first n (after_queue d p former) v (upd xs p (xs p published≔ (ys p).walk.mark)) (upd ys p (ys p at_place place_idle)) (upd ts p (ts p count≔ (ts p).count + 1)) (upd ds p (upd (ds p) (ts p).count (record { slot = (ys p).held; mark = (ys p).walk.mark })))
  queue_told p former out at35 unqueued former_is = record {
    participants_are = k.participants_are;
    epoch_is = k.epoch_is;
    steps_are = at_or p (rw (same p) (k.steps_are p)) (λ j e. rw e (k.steps_are j));
    loads_are = at_or p (rw (same p) (λ l. absurd (omega arith))) (λ j e. rw e (k.loads_are j));
    observed_are = at_or p (rw (same p) (λ l. k.mark_is p at35)) (λ j e. rw e (k.observed_are j));
    leasts_are = at_or p (rw (same p) (λ l. absurd (omega arith))) (λ j e. rw e (k.leasts_are j));
    mark_is = at_or p (rw (same p) (λ e. absurd (omega arith))) (λ q e. rw e (k.mark_is q));
    marks_are = at_or p (λ i. rw (same p) (now_marked i)) (λ q e i. rw e (k.marks_are q i));
    queued_are = at_or p (λ slot. rw (same p) (now_queued slot)) (λ q e slot. rw e (k.queued_are q slot));
  }
    where
      queued : ℕ → Bool
      queued slot = any_below (λ i. eqb (ds p i).slot slot) (ts p).count

      new : ℕ → Retired
      new = upd (ds p) (ts p).count (record { slot = (ys p).held; mark = (ys p).walk.mark })

      -- the mark told of a slot then: the one that it had; of the slot held this one
      mark_of : ℕ → Option ℕ
      mark_of slot = choose (former slot) (marked_by (d.mark p) (d.marks p slot)) (d.marks p slot)

      kept_mark : (slot : ℕ) → queued slot ≡ true → mark_of slot ≡ d.marks p slot
      kept_mark slot e = go (d.marks p slot) (k.queued_are p slot ∙ e) (former slot)
        where
          go : (told : Option ℕ) → is_marked told ≡ true → (b : Bool) → choose b (marked_by (d.mark p) told) told ≡ told
          go none f b = clash (sym f)
          go (some mark) f true = refl
          go (some mark) f false = refl

      held_mark : mark_of (ys p).held ≡ some (d.mark p)
      held_mark = rw (former_is (ys p).held, unqueued, same (ys p).held) (go (d.marks p (ys p).held) (k.queued_are p (ys p).held ∙ unqueued))
        where
          go : (told : Option ℕ) → is_marked told ≡ false → marked_by (d.mark p) told ≡ some (d.mark p)
          go none f = refl
          go (some mark) f = clash f

      now_marked : (i : ℕ) → i < (ts p).count + 1 → MarkedAs first (mark_of (new i).slot) (new i).mark
      now_marked i l = go (eqb i (ts p).count) refl
        where
          go : (b : Bool) → eqb i (ts p).count ≡ b → MarkedAs first (mark_of (choose b (record { slot = (ys p).held; mark = (ys p).walk.mark }) (ds p i)).slot) (choose b (record { slot = (ys p).held; mark = (ys p).walk.mark }) (ds p i)).mark
          go true e = rw held_mark (k.mark_is p at35)
          go false e = let ne = eqb-false i (ts p).count e in let below : i < (ts p).count = omega arith in
              rw (kept_mark (ds p i).slot (some_below (λ j. eqb (ds p j).slot (ds p i).slot) (ts p).count i below (same (ds p i).slot))) (k.marks_are p i below)

      now_queued : (slot : ℕ) → is_marked (mark_of slot) ≡ any_below (λ i. eqb (new i).slot slot) ((ts p).count + 1)
      now_queued slot = marked_so ∙ sym (any_more (λ i. eqb (new i).slot slot) (ts p).count ∙ rw (same (ts p).count, before) refl)
        where
          before : any_below (λ i. eqb (new i).slot slot) (ts p).count ≡ queued slot
          before = below_same (λ i. eqb (new i).slot slot) (λ i. eqb (ds p i).slot slot) (ts p).count (λ i l. rw (ne_eqb i (ts p).count (λ eq. omega arith)) refl)

          go : (told : Option ℕ) → is_marked told ≡ queued slot → (held : Bool) → is_marked (choose (queued slot || held) (marked_by (d.mark p) told) told) ≡ queued slot || held
          go none e true = rw (← e) refl
          go none e false = rw (← e) refl
          go (some mark) e held = rw (← e) refl

          marked_so : is_marked (mark_of slot) ≡ queued slot || eqb (ys p).held slot
          marked_so = rw (former_is slot) (go (d.marks p slot) (k.queued_are p slot) (eqb (ys p).held slot))

  -- CLAIM, WRITE and SWAP: a publisher below 35.
  pub early_told : (p : ℕ) (y : Publisher) → y.place ≤ place_swapped → ToldEpochs first n d v xs (upd ys p y) ts ds
  early_told p y low = record {
    participants_are = k.participants_are;
    epoch_is = k.epoch_is;
    steps_are = k.steps_are;
    loads_are = k.loads_are;
    observed_are = k.observed_are;
    leasts_are = k.leasts_are;
    mark_is = at_or p (rw (same p) (λ e. absurd (omega arith))) (λ q e. rw e (k.mark_is q));
    marks_are = k.marks_are;
    queued_are = k.queued_are;
  }
