-- What an accepted LOOK, CLAIM, WRITE and SWAP reply and leave, of every kind and for every state, and why a CLAIM on an undamaged store is refused:
-- on an undamaged store each is decided by the shared rows, and a damaged one accepts nothing. Assumes nothing.
use Rattle.std.specs.Prelude.{ℕ, ◌≡◌, refl, ◌≢◌, Bool, true, false, not, ◌&&◌, [], ◌∷◌, leb, eqb}
use Rattle.std.proofs.Common.{arith, sym, subst, inl, inr, ⊎_elim, eqb-true, eq-eqb, ne_eqb, leb-true, leb-false}
use Rattle.std.proofs.lemmas.Bool.{eqb-false, not-true, not-false}
use Rattle.base.specs.Rows.{first_of, any_below}
use Rattle.base.specs.Rows.Test.{◌gives◌}
use Rattle.base.specs.RowLaws.{clash, not_both, and_true, and_false, or_left, or_right, or_false, or_either, within, some_below, any_below_lem, none_below}
use Rattle.calls.specs.declared.Call.{Call}
use Rattle.calls.specs.declared.Call.TheVariants.{Look, Claim, Write, Swap}
use Rattle.calls.specs.Numbers.{place_idle, place_swapped, no_such_publisher_number, no_such_slot_number, publisher_turn_number, busy_number, slot_in_use_number}
use Rattle.calls.specs.Events.{accepted}
use Rattle.layout.specs.Layout.{current_at, publishers, slots, current, retirement_at, retired_at}
use Rattle.layout.specs.Records.{◌at_place◌, ◌held≔◌}
use Rattle.statement.specs.Machine.{State, Outcome, retires, retired_slot, holds_slot}
use Rattle.publication_law.specs.Steps.{publisher, another_busy, in_use, look_tests, look, claim_tests, claim, write_tests, write, swap_tests, swap}
use Rattle.publication_law.specs.Table.{Table, damaged, step, machine}
use Rattle.publication_law.proofs.Clear.{claim_clear}
use Rattle.publication_law.proofs.Calls.{step_damaged, undamaged_facts}
use Rattle.publication_law.specs.Moves.{publisher_moves, publisher_moves_head, publisher_written}
use Rattle.publication_law.specs.Decide.{decided, decide_why}
use Rattle.publication_law.specs.Served.{SharedCalls}
use Rattle.publication_law.specs.SharedFacts.{Holds, InUse, AnotherBusy, LookReplies, ClaimFacts, WriteFacts, SwapFacts, ClaimRefusal, SharedFacts}
use Rattle.publication_law.specs.SharedFacts.ClaimRefusal.{no_publisher_lem, no_slot, wrong_turn, in_use_lem, busy}

module _ (retiring : Bool) (s : State) where
  holds_why : (q slot : ℕ) → holds_slot retiring s q slot ≡ true → Holds retiring s q slot
  holds_why q slot e = ⊎_elim
      (λ mine. let parts = and_true retiring _ mine in let found = any_below_lem (λ i. eqb (retired_at s.words q i).slot slot) (retirement_at s.words q).count parts.1 in inr (parts.0, found.0, found.1, eqb-true _ _ found.2))
      (λ own. let parts = and_true (not (eqb (publisher s q).place place_idle)) (eqb (publisher s q).held slot) own in inl (eqb-false _ _ (not-true _ parts.0), eqb-true _ _ parts.1))
      (or_either _ _ e)

  holds_so : (q slot : ℕ) → Holds retiring s q slot → holds_slot retiring s q slot ≡ true
  holds_so q slot (inl (away, own)) = or_right (retiring && retired_slot s q slot) _ (rw (ne_eqb (publisher s q).place place_idle away, eq-eqb (publisher s q).held slot own) refl)
  holds_so q slot (inr (kind, i, low, own)) = or_left (retiring && retired_slot s q slot) _ (rw (kind, some_below (λ i. eqb (retired_at s.words q i).slot slot) (retirement_at s.words q).count i low (eq-eqb (retired_at s.words q i).slot slot own)) refl)

  in_use_why : (slot : ℕ) → in_use retiring s slot ≡ true → InUse retiring s slot
  in_use_why slot e = ⊎_elim (λ d. inl (eqb-true _ _ d))
      (λ some. let found = any_below_lem (λ q. holds_slot retiring s q slot) (publishers s.words) some in inr (found.0, found.1, holds_why found.0 slot found.2))
      (or_either (eqb (current s.words) slot) _ e)

  not_in_use : (slot : ℕ) → in_use retiring s slot ≡ false → ¬ InUse retiring s slot
  not_in_use slot e (inl is_current) = eqb-false (current s.words) slot (or_false (eqb (current s.words) slot) (any_below (λ q. holds_slot retiring s q slot) (publishers s.words)) e).0 is_current
  not_in_use slot e (inr (q, low, held)) = not_both (holds_slot retiring s q slot) (holds_so q slot held) (none_below (λ q. holds_slot retiring s q slot) (publishers s.words) q (or_false (eqb (current s.words) slot) (any_below (λ q. holds_slot retiring s q slot) (publishers s.words)) e).1 low)

module _ (s : State) (p : ℕ) where
  busy_why : another_busy s p ≡ true → AnotherBusy s p
  busy_why e =
      let found = any_below_lem (λ q. not (eqb q p) && not (eqb (publisher s q).place place_idle)) (publishers s.words) e in
      let parts = and_true (not (eqb found.0 p)) _ found.2 in
      (found.0, found.1, eqb-false _ _ (not-true _ parts.0), eqb-false _ _ (not-true _ parts.1))

  not_busy : another_busy s p ≡ false → ¬ AnotherBusy s p
  not_busy e (q, low, other, away) = not_both (not (eqb q p) && not (eqb (publisher s q).place place_idle)) (rw (ne_eqb q p other, ne_eqb (publisher s q).place place_idle away) refl) (none_below (λ q. not (eqb q p) && not (eqb (publisher s q).place place_idle)) (publishers s.words) q e low)

-- The rows of CLAIM, one after another.
module _ (exclusive retiring : Bool) (s : State) (p slot n : ℕ) (ne : n ≢ 0) where
  claim_first : (unnamed no-slot-so late taken used : Bool) → leb (publishers s.words) p ≡ unnamed → leb (slots s.words) slot ≡ no-slot-so → not (eqb (publisher s p).place place_idle) ≡ late
      → exclusive && another_busy s p ≡ taken → in_use retiring s slot ≡ used
      → first_of ((unnamed gives no_such_publisher_number) ∷ (no-slot-so gives no_such_slot_number) ∷ (late gives publisher_turn_number) ∷ (taken gives busy_number) ∷ (used gives slot_in_use_number) ∷ []) ≡ n → ClaimRefusal exclusive retiring s p slot n
  claim_first true no-slot-so late taken used ea eb ec ed ee e = subst (ClaimRefusal exclusive retiring s p slot) e (no_publisher_lem (leb-true _ _ ea))
  claim_first false true late taken used ea eb ec ed ee e = subst (ClaimRefusal exclusive retiring s p slot) e (no_slot (leb-true _ _ eb))
  claim_first false false true taken used ea eb ec ed ee e = subst (ClaimRefusal exclusive retiring s p slot) e (wrong_turn (eqb-false _ _ (not-true _ ec)))
  claim_first false false false true used ea eb ec ed ee e = let parts = and_true exclusive _ ed in subst (ClaimRefusal exclusive retiring s p slot) e (busy parts.0 (busy_why s p parts.1))
  claim_first false false false false true ea eb ec ed ee e = subst (ClaimRefusal exclusive retiring s p slot) e (in_use_lem (in_use_why retiring s slot ee))
  claim_first false false false false false ea eb ec ed ee e = absurd (ne (sym e))

module _ (exclusive : Bool) (T : Table) (served : (s : State) → damaged T s ≡ false → SharedCalls exclusive (retires T.damage.number) (machine T) s) where
  -- A damaged store accepts nothing.
  where_undamaged : (s : State) (c : Call) (Q : Outcome → Type 0) → (damaged T s ≡ false → accepted (step T s c).reply ≡ true → Q (step T s c)) → accepted (step T s c).reply ≡ true → Q (step T s c)
  where_undamaged s c Q f = go (damaged T s) refl
    where
      go : (d : Bool) → damaged T s ≡ d → accepted (step T s c).reply ≡ true → Q (step T s c)
      go true e = rw (← step_damaged T s c e) (λ ok. clash (sym ok))
      go false e = f e

  pub shared_facts_of : SharedFacts exclusive T
  shared_facts_of = record {
    look_facts = λ s r k. where_undamaged s (Look r k) (λ (o : Outcome). LookReplies s r k o) (λ sound. rw ((served s sound).looks r k) (decided (λ (o : Outcome). accepted o.reply ≡ true → LookReplies s r k o) (look_tests s r k) (look s r k) s refl
        (λ f _. record { turn = eqb-true _ _ (not-false _ f.1.1.0); reply_is = refl })
        (λ ok. clash (sym ok))));
    claim_facts = λ s p slot. where_undamaged s (Claim p slot) (λ (o : Outcome). ClaimFacts exclusive (retires T.damage.number) s p slot o) (λ sound. rw ((served s sound).claims p slot) (decided (λ (o : Outcome). accepted o.reply ≡ true → ClaimFacts exclusive (retires T.damage.number) s p slot o)
        (claim_tests exclusive (retires T.damage.number) s p slot) (claim s p slot) s refl
        (λ f _.
        let no_damage = undamaged_facts T s sound in
        let clear = claim_clear exclusive (retires T.damage.number) s p slot f in
        record {
          turn = clear.in_turn;
          alone = λ one. not_busy s p (and_false exclusive _ clear.nobody_busy one);
          free = not_in_use (retires T.damage.number) s slot clear.unused;
          reply_is = refl;
          record_is = publisher_written (publisher_moves no_damage p _ clear.publisher_named_lem);
        })
        (λ ok. clash (sym ok))));
    write_facts = λ s p v. where_undamaged s (Write p v) (λ (o : Outcome). WriteFacts s p o) (λ sound. rw ((served s sound).writes p v) (decided (λ (o : Outcome). accepted o.reply ≡ true → WriteFacts s p o) (write_tests s p v) (write s p v) s refl
        (λ f _. let turn = within 1 32 (publisher s p).place f.1.1.0 in
        record { turn_low = turn.0; turn_high = turn.1; reply_is = refl; record_is = publisher_written (publisher_moves (undamaged_facts T s sound) p _ (leb-false _ _ f.0)) })
        (λ ok. clash (sym ok))));
    swap_facts = λ s p. where_undamaged s (Swap p) (λ (o : Outcome). SwapFacts s p o) (λ sound. rw ((served s sound).swaps p) (decided (λ (o : Outcome). accepted o.reply ≡ true → SwapFacts s p o) (swap_tests s p) (swap s p) s refl
        (λ f _. let m = publisher_moves_head (undamaged_facts T s sound) p (publisher s p at_place place_swapped held≔ current s.words) (leb-false _ _ f.0) current_at (publisher s p).held (omega arith) (omega arith) in
        record { turn = eqb-true _ _ (not-false _ f.1.0); reply_is = refl; current_is = m.current_is; record_is = publisher_written m })
        (λ ok. clash (sym ok))));
    claim_refusals = λ s p slot n sound e.
        let why = decide_why (claim_tests exclusive (retires T.damage.number) s p slot) (claim s p slot) s n refl (rw ((served s sound).claims p slot) at e) in
        claim_first exclusive (retires T.damage.number) s p slot n why.1 _ _ _ _ _ refl refl refl refl refl why.0;
  }
