-- What an accepted PICK, CHECKPOINT or DEFER does, number by number, of every state; the frame says that nothing else moves. Assumes nothing.
use Prim.Native.Nat.{ℕ, zero, suc, ◌+◌, ◌-◌, ◌<◌, ◌≤◌, min}
use Rattle.std.proofs.Common.{arith, add-one, sym, ◌∙◌, inl, inr, eqb-true, eq-eqb, ne_eqb, leb-false, ltb-true, ltb-false}
use Rattle.std.specs.Prelude.{◌≡◌, refl, ◌≢◌, ◌⊎◌, Bool, true, false, not, ◌||◌, List, [], ◌∷◌, ◌++◌, leb, ltb, eqb}
use Rattle.std.proofs.Math.Path.{ap}
use Rattle.std.proofs.Math.ListN.{length}
use Rattle.std.proofs.lemmas.Bool.{eqb-false, not-false}
use Rattle.base.specs.Base.{choose, upd}
use Rattle.base.specs.RowLaws.{clash, or_false, or_either, choose_split}
use Rattle.calls.specs.declared.Call.TheVariants.{Pick, Checkpoint, Defer}
use Rattle.calls.specs.declared.Reply.{Reply}
use Rattle.calls.specs.declared.Reply.TheVariants.{At, Picked}
use Rattle.calls.specs.Numbers.{publishers_max, deferred_max, place_out, place_picked, place_idle, place_swapped, place_deferring}
use Rattle.calls.specs.Events.{accepted}
use Rattle.layout.specs.declared.Reader.{Reader}
use Rattle.layout.specs.declared.Publisher.{Publisher}
use Rattle.layout.specs.declared.Retirement.{Retirement}
use Rattle.layout.specs.declared.Retired.{Retired}
use Rattle.layout.specs.Layout.{words_length, readers, publishers, current, version, retired_at, with_reader, with_retired}
use Rattle.layout.specs.Laws.{length_reader, length_retired, retired_reader}
use Rattle.layout.specs.Records.{◌place≔◌, ◌first≔◌, ◌second≔◌, ◌published≔◌, ◌picked≔◌, ◌at_place◌, ◌walk≔◌, ◌mark≔◌, ◌step≔◌, ◌count≔◌}
use Rattle.statement.specs.Machine.{State, state, Outcome, outcome}
use Rattle.publication_law.specs.Steps.{reader, publisher}
use Rattle.publication_law.specs.DamageLaws.{publisher_below}
use Rattle.publication_law.specs.Table.{rows, step}
use Rattle.publication_law.proofs.Calls.{undamaged_facts}
use Rattle.publication_law.specs.Decide.{decided}
use Rattle.qsbr_law.specs.Steps.{damage_rules, retirement, load, observe, least_read, read, Stay, staying, after_freeing, read_last, checkpoint, defer, act, rules}
use Rattle.qsbr_law.proofs.Freeing.{put_same, put_other}
use Rattle.qsbr_law.specs.Moves.{Moves}
use Rattle.qsbr_law.proofs.Frames.{reader_is, publisher_is, retirement_is, retired_is, pick_moves, step_moves, last_moves, raise_moves, queue_moves}
use Rattle.qsbr_law.proofs.Promises.{as_many_of, fits_of}
use Rattle.qsbr_law.specs.Facts.{IsLeast, retired_from, waiting, Freed}

-- A call of participant p with this reply leaves these records of its: the reader, the publisher, the retirement and the retired slots; and this epoch.
pub record Leaves (p : ℕ) (a : Reply) (x : Reader) (y : Publisher) (t : Retirement) (ds : ℕ → Retired) (epoch : ℕ) (o : Outcome) : Type 0 where
  pub reply_is : o.reply ≡ a
  pub reader_is : reader o.after p ≡ x
  pub publisher_is : publisher o.after p ≡ y
  pub retirement_is : retirement o.after p ≡ t
  pub retired_are : retired_at o.after.words p ≡ ds
  pub epoch_is : version o.after.words ≡ epoch

-- PICK, outside a checkpoint and not at 35: the current slot, at place 5.
pub record PickFacts (s : State) (r : ℕ) (o : Outcome) : Type 0 where
  pub outside : (retirement s r).step ≡ 0
  pub apart : (publisher s r).place ≢ place_deferring
  pub leaves : Leaves r (Picked (current s.words)) (reader s r place≔ place_picked picked≔ current s.words) (publisher s r) (retirement s r) (retired_at s.words r) (version s.words) o

-- CHECKPOINT, not at 35: step 1 drops the pick and loads the epoch, step 2 observes it, each later one reads; the last one frees, and the participant is outside again.
pub record CheckpointFacts (s : State) (r : ℕ) (o : Outcome) : Type 0 where
  pub apart : (publisher s r).place ≢ place_deferring
  pub loads : (retirement s r).step ≡ 0 → Leaves r (At 1) (reader s r place≔ place_out first≔ version s.words) (publisher s r) (retirement s r step≔ 1) (retired_at s.words r) (version s.words) o
  pub observes : (retirement s r).step ≡ 1 → Leaves r (At 2) (reader s r published≔ (reader s r).first) (publisher s r) (retirement s r step≔ 2) (retired_at s.words r) (version s.words) o
  pub reads : 2 ≤ (retirement s r).step → (retirement s r).step ≢ readers s.words + 1 → (least : ℕ) × IsLeast s r least
      × Leaves r (At ((retirement s r).step + 1)) (reader s r second≔ least) (publisher s r) (retirement s r step≔ (retirement s r).step + 1) (retired_at s.words r) (version s.words) o
  pub ends : 2 ≤ (retirement s r).step → (retirement s r).step ≡ readers s.words + 1 → (least : ℕ) × IsLeast s r least × (count : ℕ) × Freed s r least count o
      × Leaves r (At ((retirement s r).step + 1)) (reader s r second≔ least) (publisher s r) (retirement s r step≔ 0 count≔ count) (retired_at o.after.words r) (version s.words) o

-- DEFER, outside a checkpoint: at 34 it drops the pick and raises the epoch, which is its mark; at 35 it observes the mark, and the slot held is the last retired one.
pub record DeferFacts (s : State) (p : ℕ) (o : Outcome) : Type 0 where
  pub outside : (retirement s p).step ≡ 0
  pub turn : ((publisher s p).place ≡ place_swapped) ⊎ ((publisher s p).place ≡ place_deferring)
  pub raises : (publisher s p).place ≡ place_swapped → Leaves p (At place_deferring) (reader s p place≔ place_out) (publisher s p at_place place_deferring walk≔ ((publisher s p).walk mark≔ (version s.words + 1)))
      (retirement s p) (retired_at s.words p) (version s.words + 1) o
  pub queues : (publisher s p).place ≡ place_deferring → Leaves p (At place_idle) (reader s p published≔ (publisher s p).walk.mark) (publisher s p at_place place_idle) (retirement s p count≔ (retirement s p).count + 1)
      (upd (retired_at s.words p) (retirement s p).count (record { slot = (publisher s p).held; mark = (publisher s p).walk.mark })) (version s.words) o

leaves_by : (s : State) (w' : List ℕ) (p : ℕ) (a : Reply) (x : Reader) (y : Publisher) (t : Retirement) (ds : ℕ → Retired) (epoch : ℕ) → Moves s.words w' p x y t ds epoch
    → Leaves p a x y t ds epoch (outcome a (state w' s.entries))
leaves_by s w' p a x y t ds epoch m = record {
  reply_is = refl;
  reader_is = reader_is true (Pick p) _ _ p _ _ _ _ _ m;
  publisher_is = publisher_is true (Pick p) _ _ p _ _ _ _ _ m;
  retirement_is = retirement_is true (Pick p) _ _ p _ _ _ _ _ m;
  retired_are = retired_is true (Pick p) _ _ p _ _ _ _ _ m;
  epoch_is = m.version_is;
}

least_is : (s : State) (r : ℕ) → 2 ≤ (retirement s r).step → IsLeast s r (least_read s r)
least_is s r two = record {
  starts = λ e. rw e refl;
  lowers = λ l. rw (ne_eqb (retirement s r).step 2 (λ e. omega arith)) (lesser_is (ltb (reader s ((retirement s r).step - 2)).published (reader s r).second) refl);
}
  where
    lesser_is : (b : Bool) → ltb (reader s ((retirement s r).step - 2)).published (reader s r).second ≡ b
        → choose b (reader s ((retirement s r).step - 2)).published (reader s r).second ≡ min (reader s r).second (reader s ((retirement s r).step - 2)).published
    lesser_is true f = let l = ltb-true (reader s ((retirement s r).step - 2)).published (reader s r).second f in omega arith
    lesser_is false f = let l = ltb-false (reader s ((retirement s r).step - 2)).published (reader s r).second f in omega arith

-- What stays, in its order.
one_more_lem : (w : List ℕ) (p i n : ℕ) → retired_from w p i (suc n) ≡ retired_from w p i n ++ (retired_at w p (i + n) ∷ [])
unfolding retired_from
one_more_lem w p i zero = let e : i + 0 ≡ i = omega arith in rw e refl
one_more_lem w p i (suc n) = let e : i + suc n ≡ i + 1 + n = omega arith in rw e (ap (λ (ds : List Retired). retired_at w p i ∷ ds) (one_more_lem w p (i + 1) n))

from_like : (v w : List ℕ) (p i n : ℕ) → ((k : ℕ) → i ≤ k → k < i + n → retired_at v p k ≡ retired_at w p k) → retired_from v p i n ≡ retired_from w p i n
unfolding retired_from
from_like v w p i zero e = refl
from_like v w p i (suc n) e = rw (e i (omega arith) (omega arith), from_like v w p (i + 1) n (λ k l h. e k (omega arith) (omega arith))) refl

append_assoc : (ds es fs : List Retired) → (ds ++ es) ++ fs ≡ ds ++ (es ++ fs)
append_assoc [] es fs = refl
append_assoc (d ∷ ds) es fs = ap (λ (others : List Retired). d ∷ others) (append_assoc ds es fs)

append_none : (ds : List Retired) → ds ++ [] ≡ ds
append_none [] = refl
append_none (d ∷ ds) = ap (λ (others : List Retired). d ∷ others) (append_none ds)

waiting_none : (least : ℕ) → waiting least [] ≡ []
unfolding waiting
waiting_none least = refl

count_low : (p least n i j : ℕ) (w : List ℕ) → j ≤ (staying p least n i j w).count
unfolding staying
count_low p least zero i j w = omega arith
count_low p least (suc n) i j w = choose_split (λ (after : Stay). j ≤ after.count) (leb (retired_at w p i).mark least) (λ _. count_low p least n (i + 1) j w)
    (λ _. omega (arith, count_low p least n (i + 1) (j + 1) (with_retired w p j (retired_at w p i))))

stay_in_order : (p least n i j : ℕ) (w : List ℕ) → j ≤ i → i + n ≤ deferred_max → p < publishers_max → length w ≡ words_length
    → retired_from (staying p least n i j w).words p 0 (staying p least n i j w).count ≡ retired_from w p 0 j ++ waiting least (retired_from w p i n)
unfolding staying retired_from waiting
stay_in_order p least zero i j w le room low long = rw (waiting_none least) (sym (append_none (retired_from w p 0 j)))
stay_in_order p least (suc n) i j w le room low long =
    go (leb (retired_at w p i).mark least) refl (stay_in_order p least n (i + 1) j w (omega arith) (omega arith) low long)
    (stay_in_order p least n (i + 1) (j + 1) (with_retired w p j (retired_at w p i)) (omega arith) (omega arith) low (length_retired w p j (retired_at w p i) ∙ long))
  where
    After : Stay → List Retired → Type 0
    After after ds = retired_from after.words p 0 after.count ≡ ds

    first_more : retired_from (with_retired w p j (retired_at w p i)) p 0 (j + 1) ≡ retired_from w p 0 j ++ (retired_at w p i ∷ [])
    first_more = let e : 0 + j ≡ j = omega arith in rw (
      add-one j,
      one_more_lem (with_retired w p j (retired_at w p i)) p 0 j,
      e,
      put_same w p j (retired_at w p i) long low (omega arith),
      from_like (with_retired w p j (retired_at w p i)) w p 0 j (λ k l h. put_other w p j (retired_at w p i) long low (omega arith) k (λ z. omega arith)),
    ) refl

    go : (b : Bool) → leb (retired_at w p i).mark least ≡ b → After (staying p least n (i + 1) j w) (retired_from w p 0 j ++ waiting least (retired_from w p (i + 1) n))
        → After (staying p least n (i + 1) (j + 1) (with_retired w p j (retired_at w p i))) (retired_from (with_retired w p j (retired_at w p i)) p 0 (j + 1) ++ waiting least (retired_from (with_retired w p j (retired_at w p i)) p (i + 1) n))
        → After (choose b (staying p least n (i + 1) j w) (staying p least n (i + 1) (j + 1) (with_retired w p j (retired_at w p i))))
        (retired_from w p 0 j ++ choose b (waiting least (retired_from w p (i + 1) n)) (retired_at w p i ∷ waiting least (retired_from w p (i + 1) n)))
    go true e freed moved = freed
    go false e freed moved = moved
        ∙ rw (first_more, from_like (with_retired w p j (retired_at w p i)) w p (i + 1) n (λ k l h. put_other w p j (retired_at w p i) long low (omega arith) k (λ z. omega arith)))
        (append_assoc (retired_from w p 0 j) (retired_at w p i ∷ []) (waiting least (retired_from w p (i + 1) n)))

stay_behind : (p least n i j : ℕ) (w : List ℕ) → j ≤ i → i + n ≤ deferred_max → p < publishers_max → length w ≡ words_length
    → (k : ℕ) → (staying p least n i j w).count ≤ k → retired_at (staying p least n i j w).words p k ≡ retired_at w p k
unfolding staying
stay_behind p least zero i j w le room low long k = λ high. refl
stay_behind p least (suc n) i j w le room low long k = choose_split (λ (after : Stay). after.count ≤ k → retired_at after.words p k ≡ retired_at w p k) (leb (retired_at w p i).mark least)
    (λ _. stay_behind p least n (i + 1) j w (omega arith) (omega arith) low long k)
    (λ _ high. let d = retired_at w p i in stay_behind p least n (i + 1) (j + 1) (with_retired w p j d) (omega arith) (omega arith) low (length_retired w p j d ∙ long) k high
    ∙ put_other w p j d long low (omega arith) k (λ e. omega (arith, count_low p least n (i + 1) (j + 1) (with_retired w p j d))))

module _ (s : State) (r : ℕ) (long : length s.words ≡ words_length) (low : r < publishers_max) where
  load_leaves : Leaves r (At 1) (reader s r place≔ place_out first≔ version s.words) (publisher s r) (retirement s r step≔ 1) (retired_at s.words r) (version s.words) (load s r)
  load_leaves = leaves_by s _ r _ _ _ _ _ _ (step_moves true s r long low 1 _)

  observe_leaves : Leaves r (At 2) (reader s r published≔ (reader s r).first) (publisher s r) (retirement s r step≔ 2) (retired_at s.words r) (version s.words) (observe s r)
  observe_leaves = leaves_by s _ r _ _ _ _ _ _ (step_moves true s r long low 2 _)

  read_leaves : Leaves r (At ((retirement s r).step + 1)) (reader s r second≔ least_read s r) (publisher s r) (retirement s r step≔ (retirement s r).step + 1) (retired_at s.words r) (version s.words) (read s r)
  read_leaves = leaves_by s _ r _ _ _ _ _ _ (step_moves true s r long low ((retirement s r).step + 1) _)

  module _ (few : (retirement s r).count < deferred_max + 1) where
    last_leaves : Leaves r (At ((retirement s r).step + 1)) (reader s r second≔ least_read s r) (publisher s r) (retirement s r step≔ 0 count≔ (after_freeing s r).count) (retired_at (after_freeing s r).words r) (version s.words) (read_last s r)
    last_leaves = leaves_by s _ r _ _ _ _ _ _ (last_moves true s r long low few)

    freed : Freed s r (least_read s r) (after_freeing s r).count (read_last s r)
    unfolding retired_from
    freed =
        let w = with_reader s.words r (reader s r second≔ least_read s r) in
        let kept : (k : ℕ) → retired_at w r k ≡ retired_at s.words r k = λ k. ap (λ (f : ℕ → ℕ → Retired). f r k) (retired_reader s.words r (reader s r second≔ least_read s r) (omega arith)) in
        let after : (k : ℕ) → retired_at (read_last s r).after.words r k ≡ retired_at (after_freeing s r).words r k = λ k. ap (λ (f : ℕ → Retired). f k) last_leaves.retired_are in
        let w-long : length w ≡ words_length = length_reader s.words r (reader s r second≔ least_read s r) ∙ long in record {
          stay = from_like _ _ r 0 (after_freeing s r).count (λ k l h. after k)
              ∙ (stay_in_order r (least_read s r) (retirement s r).count 0 0 w (omega arith) (omega arith) low w-long ∙ ap (waiting (least_read s r)) (from_like w s.words r 0 (retirement s r).count (λ k l h. kept k)));
          behind = λ k high. after k ∙ (stay_behind r (least_read s r) (retirement s r).count 0 0 w (omega arith) (omega arith) low w-long k high ∙ kept k);
        }

    checkpoint_facts : (publisher s r).place ≢ place_deferring → CheckpointFacts s r (checkpoint s r)
    checkpoint_facts not_deferring = record {
      apart = not_deferring;
      loads = λ e. rw (eq-eqb (retirement s r).step 0 e) load_leaves;
      observes = λ e. rw (ne_eqb (retirement s r).step 0 (λ d. omega arith), eq-eqb (retirement s r).step 1 e) observe_leaves;
      reads = λ two ne. (least_read s r, least_is s r two, rw (ne_eqb (retirement s r).step 0 (λ d. omega arith), ne_eqb (retirement s r).step 1 (λ d. omega arith), ne_eqb (retirement s r).step (readers s.words + 1) ne) read_leaves);
      ends = λ two e. (
        least_read s r,
        least_is s r two,
        (after_freeing s r).count,
        rw (ne_eqb (retirement s r).step 0 (λ d. omega arith), ne_eqb (retirement s r).step 1 (λ d. omega arith), eq-eqb (retirement s r).step (readers s.words + 1) e) freed,
        rw (ne_eqb (retirement s r).step 0 (λ d. omega arith), ne_eqb (retirement s r).step 1 (λ d. omega arith), eq-eqb (retirement s r).step (readers s.words + 1) e)
            (record { reply_is = refl; reader_is = last_leaves.reader_is; publisher_is = last_leaves.publisher_is; retirement_is = last_leaves.retirement_is; retired_are = refl; epoch_is = last_leaves.epoch_is }),
      );
    }

  defer_facts : ((publisher s r).place ≡ place_deferring → (retirement s r).count < deferred_max) → (retirement s r).step ≡ 0 → ((publisher s r).place ≡ place_swapped) ⊎ ((publisher s r).place ≡ place_deferring) → DeferFacts s r (defer s r)
  defer_facts room out in_turn = record {
    outside = out;
    turn = in_turn;
    raises = λ e. rw (eq-eqb (publisher s r).place place_swapped e) (leaves_by s _ r _ _ _ _ _ _ (raise_moves true s r long low));
    queues = λ e. rw (ne_eqb (publisher s r).place place_swapped (λ d. omega arith)) (leaves_by s _ r _ _ _ _ _ _ (queue_moves true s r long low (room e)));
  }

-- The theorems: of every state, whatever led to it.
pub rest_pick_facts : (s : State) (r : ℕ) → accepted (step rules s (Pick r)).reply ≡ true → PickFacts s r (step rules s (Pick r))
unfolding step
rest_pick_facts s r = decided (λ (o : Outcome). accepted o.reply ≡ true → PickFacts s r o) (rows rules s (Pick r)) (act s (Pick r)) s refl
    (λ f ok. let no_damage = undamaged_facts rules s f.0 in
    let turn = or_false (not (eqb (retirement s r).step 0)) (eqb (publisher s r).place place_deferring) f.1.1.0 in record {
      outside = eqb-true _ _ (not-false _ turn.0);
      apart = eqb-false _ _ turn.1;
      leaves = leaves_by s _ r _ _ _ _ _ _ (pick_moves true s r no_damage.head.long (publisher_below damage_rules s no_damage r (omega (arith, leb-false (readers s.words) r f.1.0, as_many_of s f.0))));
    })
    (λ ok. clash (sym ok))

pub rest_checkpoint_facts : (s : State) (r : ℕ) → accepted (step rules s (Checkpoint r)).reply ≡ true → CheckpointFacts s r (step rules s (Checkpoint r))
unfolding step
rest_checkpoint_facts s r = decided (λ (o : Outcome). accepted o.reply ≡ true → CheckpointFacts s r o) (rows rules s (Checkpoint r)) (act s (Checkpoint r)) s refl
    (λ f ok. let no_damage = undamaged_facts rules s f.0 in
    let lt : r < publishers s.words = omega (arith, leb-false (readers s.words) r f.1.0, as_many_of s f.0) in
    checkpoint_facts s r no_damage.head.long (publisher_below damage_rules s no_damage r lt) (omega (arith, (fits_of s f.0 r lt).count_high)) (eqb-false _ _ f.1.1.0))
    (λ ok. clash (sym ok))

either_place : {a b : ℕ} → (eqb a place_swapped ≡ true) ⊎ (eqb b place_deferring ≡ true) → (a ≡ place_swapped) ⊎ (b ≡ place_deferring)
either_place (inl e) = inl (eqb-true _ _ e)
either_place (inr e) = inr (eqb-true _ _ e)

pub rest_defer_facts : (s : State) (p : ℕ) → accepted (step rules s (Defer p)).reply ≡ true → DeferFacts s p (step rules s (Defer p))
unfolding step
rest_defer_facts s p = decided (λ (o : Outcome). accepted o.reply ≡ true → DeferFacts s p o) (rows rules s (Defer p)) (act s (Defer p)) s refl
    (λ f ok. let no_damage = undamaged_facts rules s f.0 in
    let lt : p < publishers s.words = leb-false (publishers s.words) p f.1.0 in
    let turn = or_false (not (eqb (publisher s p).place place_swapped || eqb (publisher s p).place place_deferring)) (not (eqb (retirement s p).step 0)) f.1.1.0 in
    defer_facts s p no_damage.head.long (publisher_below damage_rules s no_damage p lt) (fits_of s f.0 p lt).room (eqb-true _ _ (not-false _ turn.1))
    (either_place (or_either _ _ (not-false (eqb (publisher s p).place place_swapped || eqb (publisher s p).place place_deferring) turn.0))))
    (λ ok. clash (sym ok))
