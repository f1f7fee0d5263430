-- `in_use_lem` meets its contract: the loop has found no publisher before q whose record names the slot; then what is retired decides. Assumes nothing.
use Rattle.std.proofs.Common.{◌≡◌, ℕ, zero, suc, ◌<◌, Bool, true, false, ◌&&◌, ◌||◌, eqb, List, ℤ, sym, refl, ap, ◌∙◌, arith, rules, eq-eqb, ne_eqb}
use Rattle.base.specs.Rows.{any_below}
use Rattle.base.specs.RowLaws.{or_false, or_right, or_none, some_below, none_first, none_more}
use Rattle.layout.specs.Layout.{publishers, current}
use Rattle.statement.specs.Machine.{state, retired_slot, holds_slot}
use Rattle.publication_law.specs.Steps.{in_use}
use Rattle.publication_slots.proofs.in_use.Goals as goal
use Rattle.publication_slots.proofs.in_use.Invariants.{named}

-- Where the second of two tests holds of no number, one of them holds of some number exactly if the first does.
first_below : (f g : ℕ → Bool) (n : ℕ) → any_below g n ≡ false → any_below (λ q. f q || g q) n ≡ any_below f n
unfolding any_below
first_below f g zero e = refl
first_below f g (suc n) e = let q = or_false (any_below g n) (g n) e in rw (first_below f g n q.0, q.1) (ap (λ (b : Bool). any_below f n || b) (or_none (f n)))

-- Of a slot that is not current.
module _ (w : List ℕ) (es : List ℤ) (slot : ℕ) (other : eqb (current w) slot ≡ false) where
  held_is : (retiring : Bool) (q : ℕ) → q < publishers w → named w slot q ≡ true → true ≡ in_use retiring (state w es) slot
  held_is retiring q low e = rw other (sym (some_below (λ q. holds_slot retiring (state w es) q slot) (publishers w) q low (or_right (retiring && retired_slot (state w es) q slot) (named w slot q) e)))

  retired_is : (retiring b : Bool) → retiring ≡ true → any_below (named w slot) (publishers w) ≡ false → b ≡ any_below (λ q. retired_slot (state w es) q slot) (publishers w)
      → b ≡ in_use retiring (state w es) slot
  retired_is retiring b so none e = rw (other, so) (e ∙ sym (first_below (λ q. retired_slot (state w es) q slot) (named w slot) (publishers w) none))

  free-is : (retiring : Bool) → retiring ≡ false → any_below (named w slot) (publishers w) ≡ false → false ≡ in_use retiring (state w es) slot
  free-is retiring so none = rw (other, so) (sym none)

-- true: the slot is current
pub returns-then-current_of-slot : goal.returns-then-current_of-slot
returns-then-current_of-slot c = λ es. rw (eq-eqb _ _ (sym c.current_of.ensures ∙ c.if-current_of-slot.true)) refl

pub loop-q-init : goal.loop-q-init
loop-q-init c = (search rules, none_first _)

pub publisher_at-y-requires : goal.publisher_at-y-requires
publisher_at-y-requires c = omega (arith, c.requires.0, c.publishers_of-n.ensures)

-- true: publisher q holds it
pub returns-then-y-slot : goal.returns-then-y-slot
returns-then-y-slot c = λ es. held_is _ es _ (ne_eqb _ _ (rw c.current_of.ensures at c.if-current_of-slot.false)) c.args.retiring _ (rw c.publishers_of-n.ensures at c.loop-q-test.true) (rw c.publisher_at-y.ensures at c.if-y-slot.true)

pub loop-q-preserved : goal.loop-q-preserved
loop-q-preserved c = (search rules, none_more _ _ c.loop-q.invariant.1 (rw c.publisher_at-y.ensures at c.if-y-slot.false))

pub any_retired-requires : goal.any_retired-requires
any_retired-requires c = (c.requires.0, c.requires.1 c.if-retiring.true)

-- what any_retired says
pub returns-then-retiring : goal.returns-then-retiring
returns-then-retiring c = λ es. let e : c.loop-q.q ≡ c.publishers_of-n.result = omega arith in
    retired_is _ es _ (ne_eqb _ _ (rw c.current_of.ensures at c.if-current_of-slot.false)) _ _ c.if-retiring.true (rw (e, c.publishers_of-n.ensures) at c.loop-q.invariant.1) (c.any_retired.ensures es)

-- false: the kind does not retire slots
pub returns : goal.returns
returns c = λ es. let e : c.loop-q.q ≡ c.publishers_of-n.result = omega arith in
    free-is _ es _ (ne_eqb _ _ (rw c.current_of.ensures at c.if-current_of-slot.false)) _ c.if-retiring.false (rw (e, c.publishers_of-n.ensures) at c.loop-q.invariant.1)
