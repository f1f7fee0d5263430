-- Each call keeps what Core says of slots, and what it gives: each slot has one role, and a picked slot is not free.
-- A move of one reader or publisher leaves the others as they are, and the slot that it takes nobody held. Assumes nothing.
-- h is the model, t what is told, n and m the numbers of readers and publishers, cur the current slot; rpl and rpk are the readers' places and picks,
-- ppl and pcl the publishers' places and claimed slots, F their former slots, E the entries; pl, pk, cl and G are new ones of one reader or publisher.
use Rattle.std.specs.Prelude.{ℕ, ◌+◌, ◌-◌, ◌<◌, ◌≤◌, ◌≡◌, refl, ◌≢◌, ◌⊎◌, Bool, true, false, ◌&&◌, ◌||◌, List, [], ◌∷◌, ◌++◌, ℤ, length, leb, eqb}
use Rattle.std.proofs.Common.{arith, sym, ap, ◌∙◌, inl, inr, length-append, eqb-true, eq-eqb, ne_eqb, leb-true, le-leb}
use Rattle.std.proofs.Math.Option.{Option, none, some}
use Rattle.std.proofs.lemmas.Bool.{eqb-false, lt-leb}
use Rattle.base.specs.Base.{upd, is}
use Rattle.base.specs.RowLaws.{clash, not_both, or_left, or_right, or_none, or_either, same, at_or, found_below}
use Rattle.calls.specs.declared.Call.TheVariants.{Enter, Leave, Claim, Write, Swap, Release}
use Rattle.calls.specs.declared.Reply.{Reply}
use Rattle.calls.specs.declared.Reply.TheVariants.{At}
use Rattle.calls.specs.Numbers.{table_length, place_out, place_loaded_again, place_open, place_picked, place_idle, place_claimed, place_written, place_swapped}
use Rattle.calls.specs.Model.{Model, model₀, model_step, entry, with_note}
use Rattle.calls.specs.ModelLaws.{entry_old, entry_new}
use Rattle.calls.specs.Deferral.{Deferral}
use Rattle.calls.specs.Told.{Told, told₀, tell, with_deferral, after_pick, holds, Role, Has}
use Rattle.calls.specs.Told.Role.{current, held_by, free}
use Rattle.publication_law.specs.Core.{Hold, CurrentOrFormer, ReaderAgrees, PublisherAgrees, Core}
use Rattle.publication_law.specs.Core.Hold.{by_claim, by_swap}
use Rattle.publication_law.specs.Core.CurrentOrFormer.{is_current, is_former}
use Rattle.publication_law.specs.Onward.{Onward}
use Rattle.publication_law.specs.Onward.Onward.{stays_out, opens, picks}

current_or_former_map : (cur cur' : ℕ) (F F' : ℕ → ℕ → Bool) (slot : ℕ) → CurrentOrFormer cur F slot → (slot ≡ cur → CurrentOrFormer cur' F' slot)
    → ((q : ℕ) → F q slot ≡ true → CurrentOrFormer cur' F' slot) → CurrentOrFormer cur' F' slot
current_or_former_map cur cur' F F' slot (is_current e) f f' = f e
current_or_former_map cur cur' F F' slot (is_former q e) f f' = f' q e

pub hold_map : {A : Type 0} (pl cl : ℕ) (F : ℕ → Bool) (x : ℕ) → Hold pl cl F x → (place_claimed ≤ pl → pl ≤ place_written → cl ≡ x → A) → (F x ≡ true → A) → A
hold_map pl cl F x (by_claim low high e) f f' = f low high e
hold_map pl cl F x (by_swap e) f f' = f' e

-- A publisher that is not writing holds its former slots only.
hold_late : (pl cl : ℕ) (F F' : ℕ → Bool) (pl' cl' x : ℕ) → (place_claimed ≤ pl → pl ≤ place_written → ⊥) → ((x' : ℕ) → F x' ≡ true → F' x' ≡ true) → Hold pl cl F x → Hold pl' cl' F' x
hold_late pl cl F F' pl' cl' x late sub held = hold_map pl cl F x held (λ low high e. absurd (late low high)) (λ e. by_swap (sub x e))

-- A draft with one entry more.
appended : (d : List ℤ) (v : ℤ) (pl : ℕ) → length d + 1 ≡ pl → (f : ℕ → ℤ) → ((k : ℕ) → k + 1 < pl → entry d k ≡ some (f k))
    → (k : ℕ) → k + 1 < pl + 1 → entry (d ++ (v ∷ [])) k ≡ some (upd f (pl - 1) v k)
appended d v pl len f old k l = go (eqb k (pl - 1)) refl
  where
    go : (b : Bool) → eqb k (pl - 1) ≡ b → entry (d ++ (v ∷ [])) k ≡ some (upd f (pl - 1) v k)
    go true e = rw e (entry_new d v k (omega (arith, eqb-true k (pl - 1) e)))
    go false e = let ne = eqb-false k (pl - 1) e in rw e (entry_old d (v ∷ []) k (omega arith) ∙ old k (omega arith))

-- A place from 1 to 33, as a test.
writing_true : (pl : ℕ) → place_claimed ≤ pl → pl ≤ place_written → (leb place_claimed pl && leb pl place_written) ≡ true
writing_true pl low high = rw (le-leb 1 pl low, le-leb pl 33 high) refl

writing_late : (pl : ℕ) → place_swapped ≤ pl → (leb place_claimed pl && leb pl place_written) ≡ false
writing_late pl l = rw (lt-leb pl 33 (omega arith), le-leb 1 pl (omega arith)) refl

writing_not : (pl : ℕ) → (place_claimed ≤ pl → pl ≤ place_written → ⊥) → (leb place_claimed pl && leb pl place_written) ≡ false
writing_not pl f = go (leb 1 pl) refl (leb pl 33) refl
  where
    go : (low : Bool) → leb place_claimed pl ≡ low → (high : Bool) → leb pl place_written ≡ high → low && high ≡ false
    go true d true e = absurd (f (leb-true _ _ d) (leb-true _ _ e))
    go true d false e = refl
    go false d high e = refl

module _ (h : Model) (t : Told) (n m cur : ℕ) (rpl rpk ppl pcl : ℕ → ℕ) (F : ℕ → ℕ → Bool) (E : ℕ → ℕ → ℤ) (i : Core h t n m cur rpl rpk ppl pcl F E) where
  -- A reader moves, with what is told of the readers and their notes.
  reader_core : (r pl pk : ℕ) (inside : ℕ → Bool) (picked : ℕ → Option ℕ) (deferral : Deferral) (note : ℕ → List ℤ) → ((j : ℕ) → ReaderAgrees n cur F E j (upd rpl r pl j) (upd rpk r pk j) (picked j) (note j))
      → Core (record { table = h.table; note = note; draft = h.draft }) (record { inside = inside; picked = picked; current = t.current; last_claim = t.last_claim; claimed = t.claimed; former = t.former; deferral = deferral })
      n m cur (upd rpl r pl) (upd rpk r pk) ppl pcl F E
  reader_core r pl pk inside picked deferral note ok = record { readers = ok; publishers = i.publishers; distinct = i.distinct; current_is = i.current_is; table = i.table; whole = i.whole }

  -- ENTER to a place below 4, to 4, and to 5.
  enter_below_4 : (r pl : ℕ) → r < n → rpl r ≤ place_loaded_again → pl ≤ place_loaded_again
      → Core (model_step h (Enter r) (At pl)) (tell t (Enter r) (At pl)) n m cur (upd rpl r pl) (upd rpk r (rpk r)) ppl pcl F E
  enter_below_4 r pl rn old new = rw (ne_eqb pl 4 (λ eq. omega arith), ne_eqb pl 5 (λ eq. omega arith)) (reader_core r pl _ _ _ _ _ (at_or r (rw (same r) (let at-r = i.readers r in record {
    bound = λ _. rn;
    picked_is = at-r.picked_is ∙ rw (ne_eqb (rpl r) 5 (λ eq. omega arith), ne_eqb pl 5 (λ eq. omega arith)) refl;
    current_or_former = λ e. absurd (omega arith);
    noted = λ e. absurd (omega arith);
  })) (λ j e. rw e (i.readers j))))

  enter_at_4 : (r : ℕ) → r < n
      → Core (model_step h (Enter r) (At place_open)) (tell t (Enter r) (At place_open)) n m cur (upd rpl r place_open) (upd rpk r (rpk r)) ppl pcl F E
  enter_at_4 r rn = reader_core r 4 _ _ _ _ _ (at_or r (rw (same r) (record {
    bound = λ _. rn;
    picked_is = refl;
    current_or_former = λ e. absurd (omega arith);
    noted = λ e. absurd (omega arith);
  })) (λ j e. rw e (i.readers j)))

  enter_at_5 : (r : ℕ) → r < n
      → Core (model_step h (Enter r) (At place_picked)) (tell t (Enter r) (At place_picked)) n m cur (upd rpl r place_picked) (upd rpk r cur) ppl pcl F E
  enter_at_5 r rn = reader_core r 5 _ _ _ _ _ (at_or r (rw (same r, i.current_is) (record {
    bound = λ _. rn;
    picked_is = refl;
    current_or_former = λ e. is_current refl;
    noted = λ e. i.table;
  })) (λ j e. rw e (i.readers j)))

  pub enter_core : (r pl pk : ℕ) → r < n → Onward cur (rpl r) (rpk r) pl pk → Core (model_step h (Enter r) (At pl)) (tell t (Enter r) (At pl)) n m cur (upd rpl r pl) (upd rpk r pk) ppl pcl F E
  enter_core r pl pk rn (stays_out old new e) = rw e (enter_below_4 r pl rn old new)
  enter_core r pl pk rn (opens old new e) = rw (new, e) (enter_at_4 r rn)
  enter_core r pl pk rn (picks old new e) = rw (new, e) (enter_at_5 r rn)

  pub leave_core : (r pk : ℕ) (a : Reply) → Core h (tell t (Leave r) a) n m cur (upd rpl r place_out) (upd rpk r pk) ppl pcl F E
  leave_core r pk a = reader_core r 0 pk _ _ _ _ (at_or r (rw (same r) (record {
    bound = λ e. absurd (omega arith);
    picked_is = refl;
    current_or_former = λ e. absurd (omega arith);
    noted = λ e. absurd (omega arith);
  })) (λ j e. rw e (i.readers j)))

  -- A pick without a section, and its drop.
  pub pick_core : (r : ℕ) → r < n → Core (with_note h r h.table) (after_pick t r) n m cur (upd rpl r place_picked) (upd rpk r cur) ppl pcl F E
  pick_core r rn = reader_core r 5 cur _ _ _ _ (at_or r (rw (same r, i.current_is) (record {
    bound = λ _. rn;
    picked_is = refl;
    current_or_former = λ e. is_current refl;
    noted = λ e. i.table;
  })) (λ j e. rw e (i.readers j)))

  pub drop_core : (r pk : ℕ) (deferral : Deferral) → Core h (with_deferral t (upd t.picked r none) t.former deferral) n m cur (upd rpl r place_out) (upd rpk r pk) ppl pcl F E
  drop_core r pk deferral = reader_core r 0 pk _ _ deferral _ (at_or r (rw (same r) (record {
    bound = λ e. absurd (omega arith);
    picked_is = refl;
    current_or_former = λ e. absurd (omega arith);
    noted = λ e. absurd (omega arith);
  })) (λ j e. rw e (i.readers j)))

  -- Told otherwise of deferred slots.
  pub told_core : (deferral : Deferral) → Core h (with_deferral t t.picked t.former deferral) n m cur rpl rpk ppl pcl F E
  told_core deferral = record { readers = i.readers; publishers = i.publishers; distinct = i.distinct; current_is = i.current_is; table = i.table; whole = i.whole }

  -- One publisher moves: each slot that it holds then it held before, or nobody did.
  distinct_moved : (p pl cl : ℕ) (G : ℕ → Bool) → ((x : ℕ) → Hold pl cl G x → Hold (ppl p) (pcl p) (F p) x ⊎ ((q : ℕ) → Hold (ppl q) (pcl q) (F q) x → ⊥))
      → (q q' x : ℕ) → Hold (upd ppl p pl q) (upd pcl p cl q) (upd F p G q) x → Hold (upd ppl p pl q') (upd pcl p cl q') (upd F p G q') x → q ≡ q'
  distinct_moved p pl cl G old = at_or p
      (at_or p (λ x _ _. refl) (λ q' e x. rw (same p, e) (λ held held'. absurd (other q' e x held' (old x held)))))
      (λ q e. at_or p (λ x. rw (same p, e) (λ held held'. absurd (other q e x held (old x held')))) (λ q' d x. rw (e, d) (i.distinct q q' x)))
    where
      other : (q : ℕ) → eqb q p ≡ false → (x : ℕ) → Hold (ppl q) (pcl q) (F q) x → Hold (ppl p) (pcl p) (F p) x ⊎ ((q : ℕ) → Hold (ppl q) (pcl q) (F q) x → ⊥) → ⊥
      other q e x held (inl held') = eqb-false q p e (i.distinct q p x held held')
      other q e x held (inr f) = f q held

  readers_moved : (p : ℕ) (G : ℕ → Bool) → ((r : ℕ) → rpl r ≡ place_picked → F p (rpk r) ≡ true → G (rpk r) ≡ true)
      → (r : ℕ) → ReaderAgrees n cur (upd F p G) E r (rpl r) (rpk r) (t.picked r) (h.note r)
  readers_moved p G kept r = let at-r = i.readers r in record {
    bound = at-r.bound;
    picked_is = at-r.picked_is;
    current_or_former = λ five. current_or_former_map cur cur F (upd F p G) _ (at-r.current_or_former five) is_current
        (at_or p (λ e. is_former p (rw (same p) (kept r five e))) (λ q d e. is_former q (rw d e)));
    noted = at-r.noted;
  }

  -- CLAIM, of a slot that nobody holds, by a publisher that is not writing; its former slots stay.
  pub claim_core : (p x : ℕ) (a : Reply) (G : ℕ → Bool) → p < m → (place_claimed ≤ ppl p → ppl p ≤ place_written → ⊥) → cur ≢ x → ((q : ℕ) → Hold (ppl q) (pcl q) (F q) x → ⊥) → ((x' : ℕ) → G x' ≡ F p x')
      → Core (model_step h (Claim p x) a) (tell t (Claim p x) a) n m cur rpl rpk (upd ppl p place_claimed) (upd pcl p x) (upd F p G) E
  claim_core p x a G pm late nc nh G-is = record {
    readers = readers_moved p G (λ r five e. G-is _ ∙ e);
    publishers = at_or p (rw (same p) (let at_p = i.publishers p in record {
      bound = λ _ _. pm;
      writing_is = λ x'. rw (at_p.writing_is x', writing_not (ppl p) late) (or_none (eqb x x'));
      former_is = λ x'. at_p.former_is x' ∙ sym (G-is x');
      apart = λ x' held. hold_map _ _ _ _ held (λ _ _ e e'. nc (sym (e ∙ e'))) (λ e. at_p.apart x' (by_swap (sym (G-is x') ∙ e)));
      claim_is = λ _ _. refl;
      not_former = λ _ _ e. nh p (by_swap (sym (G-is x) ∙ e));
      drafted = λ _ _. refl;
      written = λ _ _ k l. absurd (omega arith);
    }))
        (λ q e. rw e (i.publishers q));
    distinct = distinct_moved p 1 x G (λ x' held. hold_map _ _ _ _ held (λ _ _ e. inr (λ q. rw (← e) (nh q))) (λ e. inl (by_swap (sym (G-is x') ∙ e))));
    current_is = i.current_is;
    table = i.table;
    whole = i.whole;
  }

  -- A publisher that writes neither before nor after: only its place moves.
  pub late_core : (p pl cl : ℕ) (G : ℕ → Bool) → (place_claimed ≤ ppl p → ppl p ≤ place_written → ⊥) → (place_claimed ≤ pl → pl ≤ place_written → ⊥) → ((x' : ℕ) → G x' ≡ F p x')
      → Core h t n m cur rpl rpk (upd ppl p pl) (upd pcl p cl) (upd F p G) E
  late_core p pl cl G old new G-is = record {
    readers = readers_moved p G (λ r five e. G-is _ ∙ e);
    publishers = at_or p (rw (same p) (let at_p = i.publishers p in record {
      bound = λ x held. at_p.bound x (before x held);
      writing_is = λ x'. at_p.writing_is x' ∙ rw (writing_not (ppl p) old, writing_not pl new) refl;
      former_is = λ x'. at_p.former_is x' ∙ sym (G-is x');
      apart = λ x held. at_p.apart x (before x held);
      claim_is = λ low high. absurd (new low high);
      not_former = λ low high. absurd (new low high);
      drafted = λ low high. absurd (new low high);
      written = λ low high. absurd (new low high);
    }))
        (λ q e. rw e (i.publishers q));
    distinct = distinct_moved p pl cl G (λ x held. inl (before x held));
    current_is = i.current_is;
    table = i.table;
    whole = i.whole;
  }
    where
      before : (x : ℕ) → Hold pl cl G x → Hold (ppl p) (pcl p) (F p) x
      before x held = hold_late pl cl G (F p) _ _ x new (λ x' e. sym (G-is x') ∙ e) held

  -- SWAP: the claimed slot becomes current, the one that was current is one of the former slots.
  pub swap_core : (p cl : ℕ) (a : Reply) (G : ℕ → Bool) → ppl p ≡ place_written → ((x' : ℕ) → G x' ≡ eqb cur x' || F p x')
      → Core (model_step h (Swap p) a) (tell t (Swap p) a) n m (pcl p) rpl rpk (upd ppl p place_swapped) (upd pcl p cl) (upd F p G) E
  swap_core p cl a G at33 G-is = record {
    readers = λ r. let at-r = i.readers r in record {
      bound = at-r.bound;
      picked_is = at-r.picked_is;
      current_or_former = λ five. current_or_former_map cur (pcl p) F (upd F p G) _ (at-r.current_or_former five)
          (λ e. is_former p (rw (same p) (G-is (rpk r) ∙ or_left (eqb cur (rpk r)) (F p (rpk r)) (eq-eqb cur (rpk r) (sym e)))))
          (at_or p (λ e. is_former p (rw (same p) (G-is (rpk r) ∙ or_right (eqb cur (rpk r)) (F p (rpk r)) e))) (λ q d e. is_former q (rw d e)));
      noted = at-r.noted;
    };
    publishers = at_or p
        (rw (same p, i.current_is) (record {
          bound = λ _ _. at_p.bound (pcl p) mine;
          writing_is = λ x'. refl;
          former_is = λ x'. rw (at_p.former_is x') (sym (G-is x'));
          apart = λ x held e. hold_map _ _ _ _ held (λ _ l _. omega arith) (λ f. not_mine x (or_either (eqb cur x) (F p x) (sym (G-is x) ∙ f)) e);
          claim_is = λ _ l. absurd (omega arith);
          not_former = λ _ l. absurd (omega arith);
          drafted = λ _ l. absurd (omega arith);
          written = λ _ l. absurd (omega arith);
        }))
        (λ q e. rw e (let at_q = i.publishers q in record {
          bound = at_q.bound;
          writing_is = at_q.writing_is;
          former_is = at_q.former_is;
          apart = λ x held e'. eqb-false q p e (i.distinct q p x held (by_claim (omega arith) (omega arith) (sym e')));
          claim_is = at_q.claim_is;
          not_former = at_q.not_former;
          drafted = at_q.drafted;
          written = at_q.written;
        }));
    distinct = distinct_moved p 34 cl G (λ x held. hold_map _ _ _ _ held (λ _ l _. absurd (omega arith)) (λ f. came x (or_either (eqb cur x) (F p x) (sym (G-is x) ∙ f))));
    current_is = at_p.claim_is (omega arith) (omega arith);
    table = λ k l. at_p.written (omega arith) (omega arith) k (omega arith);
    whole = omega (arith, at_p.drafted (omega arith) (omega arith));
  }
    where
      at_p : PublisherAgrees m cur E p (ppl p) (pcl p) (F p) (t.claimed p) (t.last_claim p) (t.former p) (h.draft p)
      at_p = i.publishers p

      mine : Hold (ppl p) (pcl p) (F p) (pcl p)
      mine = by_claim (omega arith) (omega arith) refl

      not_mine : (x : ℕ) → (eqb cur x ≡ true) ⊎ (F p x ≡ true) → x ≡ pcl p → ⊥
      not_mine x (inl d) e = at_p.apart (pcl p) mine (sym e ∙ sym (eqb-true cur x d))
      not_mine x (inr d) e = at_p.not_former (omega arith) (omega arith) (rw (← e) d)

      came : (x : ℕ) → (eqb cur x ≡ true) ⊎ (F p x ≡ true) → Hold (ppl p) (pcl p) (F p) x ⊎ ((q : ℕ) → Hold (ppl q) (pcl q) (F q) x → ⊥)
      came x (inl d) = inr (λ q held. (i.publishers q).apart x held (sym (eqb-true cur x d)))
      came x (inr d) = inl (by_swap d)

  -- RELEASE, where no reader picked a former slot of the publisher.
  pub release_core : (p cl : ℕ) (a : Reply) (G : ℕ → Bool) → place_swapped ≤ ppl p → ((r : ℕ) → rpl r ≡ place_picked → F p (rpk r) ≡ true → ⊥) → ((x' : ℕ) → G x' ≡ false)
      → Core h (tell t (Release p) a) n m cur rpl rpk (upd ppl p place_idle) (upd pcl p cl) (upd F p G) E
  release_core p cl a G late nobody G-is = record {
    readers = readers_moved p G (λ r five e. absurd (nobody r five e));
    publishers = at_or p (rw (same p) (let at_p = i.publishers p in record {
      bound = λ x held. absurd (none_held x held);
      writing_is = λ x'. at_p.writing_is x' ∙ rw (writing_late (ppl p) late) refl;
      former_is = λ x'. sym (G-is x');
      apart = λ x held. absurd (none_held x held);
      claim_is = λ l. absurd (omega arith);
      not_former = λ l. absurd (omega arith);
      drafted = λ l. absurd (omega arith);
      written = λ l. absurd (omega arith);
    }))
        (λ q e. rw e (i.publishers q));
    distinct = distinct_moved p 0 cl G (λ x held. absurd (none_held x held));
    current_is = i.current_is;
    table = i.table;
    whole = i.whole;
  }
    where
      none_held : (x : ℕ) → Hold 0 cl G x → ⊥
      none_held x held = hold_map 0 cl G x held (λ l _ _. omega arith) (λ e. not_both _ e (G-is x))

  -- Some former slots of a publisher are freed, of which no reader has picked one; f is what is told of former slots then.
  pub shrink_core : (p : ℕ) (G : ℕ → Bool) (f : ℕ → ℕ → Bool) (deferral : Deferral) → ((x : ℕ) → G x ≡ true → F p x ≡ true) → ((r : ℕ) → rpl r ≡ place_picked → F p (rpk r) ≡ true → G (rpk r) ≡ true)
      → ((q x : ℕ) → f q x ≡ upd F p G q x) → Core h (with_deferral t t.picked f deferral) n m cur rpl rpk ppl pcl (upd F p G) E
  shrink_core p G f deferral fewer kept told = record {
    readers = readers_moved p G kept;
    publishers = λ q. let at_q = i.publishers q in record {
      bound = λ x held. at_q.bound x (before q x held);
      writing_is = at_q.writing_is;
      former_is = told q;
      apart = λ x held. at_q.apart x (before q x held);
      claim_is = at_q.claim_is;
      not_former = λ low high e. at_q.not_former low high (was_former q _ e);
      drafted = at_q.drafted;
      written = at_q.written;
    };
    distinct = λ q q' x held held'. i.distinct q q' x (before q x held) (before q' x held');
    current_is = i.current_is;
    table = i.table;
    whole = i.whole;
  }
    where
      was_former : (q x : ℕ) → upd F p G q x ≡ true → F q x ≡ true
      was_former q x = at_or p {Q = λ q. upd F p G q x ≡ true → F q x ≡ true} (rw (same p) (fewer x)) (λ j d. rw d (λ e. e)) q

      before : (q x : ℕ) → Hold (ppl q) (pcl q) (upd F p G q) x → Hold (ppl q) (pcl q) (F q) x
      before q x held = hold_map _ _ _ _ held (λ low high e. by_claim low high e) (λ e. by_swap (was_former q x e))

  -- WRITE of the next entry into the claimed slot.
  pub write_core : (p : ℕ) (v : ℤ) (a : Reply) (G : ℕ → Bool) → place_claimed ≤ ppl p → ppl p ≤ 32 → ((x' : ℕ) → G x' ≡ F p x')
      → Core (model_step h (Write p v) a) t n m cur rpl rpk (upd ppl p (ppl p + 1)) (upd pcl p (pcl p)) (upd F p G) (upd E (pcl p) (upd (E (pcl p)) (ppl p - 1) v))
  write_core p v a G low high G-is = record {
    readers = λ r. let at-r = readers_moved p G (λ r five e. G-is _ ∙ e) r in record {
      bound = at-r.bound;
      picked_is = at-r.picked_is;
      current_or_former = at-r.current_or_former;
      noted = λ five k l. rw (ne_eqb (rpk r) (pcl p) (unpicked r ((i.readers r).current_or_former five))) (at-r.noted five k l);
    };
    publishers = at_or p
        (rw (same p) (record {
          bound = λ x held. at_p.bound x (before x held);
          writing_is = λ x'. at_p.writing_is x' ∙ rw (writing_true (ppl p) low (omega arith), writing_true (ppl p + 1) (omega arith) (omega arith)) refl;
          former_is = λ x'. at_p.former_is x' ∙ sym (G-is x');
          apart = λ x held. at_p.apart x (before x held);
          claim_is = λ _ _. at_p.claim_is low (omega arith);
          not_former = λ _ _ e. at_p.not_former low (omega arith) (sym (G-is _) ∙ e);
          drafted = λ _ _. omega (arith, length-append (h.draft p) (v ∷ []), at_p.drafted low (omega arith));
          written = λ _ _ k l. rw (same (pcl p)) (appended (h.draft p) v (ppl p) (at_p.drafted low (omega arith)) (E (pcl p)) (at_p.written low (omega arith)) k l);
        }))
        (λ q e. rw e (let at_q = i.publishers q in record {
          bound = at_q.bound;
          writing_is = at_q.writing_is;
          former_is = at_q.former_is;
          apart = at_q.apart;
          claim_is = at_q.claim_is;
          not_former = at_q.not_former;
          drafted = at_q.drafted;
          written = λ low' high' k l. rw (ne_eqb (pcl q) (pcl p) (λ e'. eqb-false q p e (i.distinct q p _ (by_claim low' high' refl) (by_claim low (omega arith) (sym e'))))) (at_q.written low' high' k l);
        }));
    distinct = distinct_moved p (ppl p + 1) (pcl p) G (λ x held. inl (before x held));
    current_is = i.current_is;
    table = λ k l. rw (ne_eqb cur (pcl p) (λ e'. at_p.apart (pcl p) mine (sym e'))) (i.table k l);
    whole = i.whole;
  }
    where
      at_p : PublisherAgrees m cur E p (ppl p) (pcl p) (F p) (t.claimed p) (t.last_claim p) (t.former p) (h.draft p)
      at_p = i.publishers p

      mine : Hold (ppl p) (pcl p) (F p) (pcl p)
      mine = by_claim low (omega arith) refl

      before : (x : ℕ) → Hold (ppl p + 1) (pcl p) G x → Hold (ppl p) (pcl p) (F p) x
      before x held = hold_map _ _ _ _ held (λ _ _ e. by_claim low (omega arith) e) (λ e. by_swap (sym (G-is x) ∙ e))

      unpicked : (r : ℕ) → CurrentOrFormer cur F (rpk r) → rpk r ≡ pcl p → ⊥
      unpicked r (is_current e) e' = at_p.apart (pcl p) mine (sym e' ∙ e)
      unpicked r (is_former q e) e' =
          let f : F q (pcl p) ≡ true = rw (← e') e in
          at_p.not_former low (omega arith) (rw (i.distinct q p (pcl p) (by_swap f) mine) at f)

  -- What is told of a publisher's slots, by its place, claim and former slots.
  pub held_is : (p x : ℕ) → holds t p x ≡ ((leb place_claimed (ppl p) && leb (ppl p) place_written) && eqb (pcl p) x) || F p x
  held_is p x = let at_p = i.publishers p in rw (at_p.writing_is x, at_p.former_is x) refl

  hold_of : (p x : ℕ) → holds t p x ≡ true → Hold (ppl p) (pcl p) (F p) x
  hold_of p x e = go (leb place_claimed (ppl p)) refl (leb (ppl p) place_written) refl (eqb (pcl p) x) refl (sym (held_is p x) ∙ e)
    where
      go : (low : Bool) → leb place_claimed (ppl p) ≡ low → (high : Bool) → leb (ppl p) place_written ≡ high → (claimed : Bool) → eqb (pcl p) x ≡ claimed → ((low && high) && claimed) || F p x ≡ true → Hold (ppl p) (pcl p) (F p) x
      go true d true e true f held = by_claim (leb-true _ _ d) (leb-true _ _ e) (eqb-true _ _ f)
      go true d true e false f held = by_swap held
      go true d false e claimed f held = by_swap held
      go false d high e claimed f held = by_swap held

  -- Who is told to hold a slot is a publisher of the store.
  pub held_bound : (p x : ℕ) → holds t p x ≡ true → p < m
  held_bound p x e = (i.publishers p).bound x (hold_of p x e)

  picked_some : (r x : ℕ) → t.picked r ≡ some x → (rpl r ≡ place_picked) × (rpk r ≡ x)
  picked_some r x e = go (eqb (rpl r) place_picked) refl
    where
      go : (b : Bool) → eqb (rpl r) place_picked ≡ b → (rpl r ≡ place_picked) × (rpk r ≡ x)
      go true d = (eqb-true _ _ d, cc (rw d at (i.readers r).picked_is))
      go false d = absurd (let no : ◌≡◌ {A = ℕ} 0 1 = cc (rw d at (i.readers r).picked_is) in omega arith)

  -- The current slot and the held ones, as told.
  told_current : (x : ℕ) → is t.current x ≡ eqb cur x
  told_current x = rw i.current_is refl

  -- Each slot has exactly one role.
  pub role_core : (x : ℕ) → (ρ : Role) × Has t x ρ × ((σ : Role) → Has t x σ → σ ≡ ρ)
  role_core x = go (eqb cur x) refl (found_below (λ p. holds t p x) m)
    where
      apart : (q : ℕ) → holds t q x ≡ true → eqb cur x ≡ true → ⊥
      apart q e d = (i.publishers q).apart x (hold_of q x e) (sym (eqb-true cur x d))

      was_current : eqb cur x ≡ true → (σ : Role) → Has t x σ → σ ≡ current
      was_current e current d = refl
      was_current e (held_by q) d = absurd (apart q d e)
      was_current e free d = absurd (not_both _ e (sym (told_current x) ∙ d.0))

      was_held : (p : ℕ) → holds t p x ≡ true → (σ : Role) → Has t x σ → σ ≡ held_by p
      was_held p e current d = absurd (apart p e (sym (told_current x) ∙ d))
      was_held p e (held_by q) d = ap held_by (i.distinct q p x (hold_of q x d) (hold_of p x e))
      was_held p e free d = absurd (not_both _ e (d.1 p))

      was_free : eqb cur x ≡ false → ((p : ℕ) → holds t p x ≡ false) → (σ : Role) → Has t x σ → σ ≡ free
      was_free e f current d = absurd (not_both _ (sym (told_current x) ∙ d) e)
      was_free e f (held_by q) d = absurd (not_both _ d (f q))
      was_free e f free d = refl

      nobody_holds : ((p : ℕ) → p < m → holds t p x ≡ false) → (p : ℕ) → holds t p x ≡ false
      nobody_holds f p = within (holds t p x) refl
        where
          within : (b : Bool) → holds t p x ≡ b → holds t p x ≡ false
          within true d = f p ((i.publishers p).bound x (hold_of p x d))
          within false d = d

      go : (b : Bool) → eqb cur x ≡ b → ((p : ℕ) × (holds t p x ≡ true)) ⊎ ((p : ℕ) → p < m → holds t p x ≡ false)
          → (ρ : Role) × Has t x ρ × ((σ : Role) → Has t x σ → σ ≡ ρ)
      go true e found = (current, told_current x ∙ e, was_current e)
      go false e (inl found) = (held_by found.0, found.1, was_held found.0 found.1)
      go false e (inr found) = (free, (told_current x ∙ e, nobody_holds found), was_free e (nobody_holds found))

  -- A picked slot is not free.
  pub current_or_former_core : (r x : ℕ) → t.picked r ≡ some x → ¬ Has t x free
  current_or_former_core r x e f = let at5 = picked_some r x e in not_free at5.1 ((i.readers r).current_or_former at5.0)
    where
      not_free : rpk r ≡ x → CurrentOrFormer cur F (rpk r) → ⊥
      not_free e (is_current d) = not_both _ (told_current x ∙ eq-eqb cur x (sym d ∙ e)) f.0
      not_free e (is_former q d) = not_both (holds t q x) (or_right (t.claimed q x) (t.former q x) ((i.publishers q).former_is x ∙ rw (← e) d)) (f.1 q)

  -- A slot that nobody holds and that is not current is told free.
  pub free_core : (x : ℕ) → cur ≢ x → ((q : ℕ) → Hold (ppl q) (pcl q) (F q) x → ⊥) → Has t x free
  free_core x nc nh = (told_current x ∙ ne_eqb cur x nc, λ q. none_told q (holds t q x) refl)
    where
      none_told : (q : ℕ) (b : Bool) → holds t q x ≡ b → holds t q x ≡ false
      none_told q true d = absurd (nh q (hold_of q x d))
      none_told q false d = d

-- At the start: nothing picked, nothing held, and the entries of slot 0 are the first table.
pub fresh_core : (first : List ℤ) (n m : ℕ) (E : ℕ → ℕ → ℤ) → length first ≡ table_length → ((k : ℕ) → k < table_length → entry first k ≡ some (E 0 k))
    → Core (model₀ first) (told₀ n) n m 0 (λ r. 0) (λ r. 0) (λ p. 0) (λ p. 0) (λ p x. false) E
fresh_core first n m E len table = record {
  readers = λ r. record { bound = λ l. absurd (omega arith); picked_is = refl; current_or_former = λ l. absurd (omega arith); noted = λ l. absurd (omega arith) };
  publishers = λ p. record {
    bound = λ x held. absurd (none_held x held);
    writing_is = λ x. refl;
    former_is = λ x. refl;
    apart = λ x held. absurd (none_held x held);
    claim_is = λ l. absurd (omega arith);
    not_former = λ l. absurd (omega arith);
    drafted = λ l. absurd (omega arith);
    written = λ l. absurd (omega arith);
  };
  distinct = λ p q x held. absurd (none_held x held);
  current_is = refl;
  table = table;
  whole = len;
}
  where
    none_held : (x : ℕ) → Hold 0 0 (λ x'. false) x → ⊥
    none_held x held = hold_map 0 0 (λ x'. false) x held (λ l _ _. omega arith) (λ e. clash (sym e))
