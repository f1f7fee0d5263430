-- A publisher that holds one slot: claimed at places 1 to 33, former from 34 on. Assumes nothing.
use Rattle.std.specs.Prelude.{ℕ, ◌≤◌, ◌≡◌, refl, Bool, true, false, not, ◌&&◌, ◌||◌, leb, eqb}
use Rattle.std.proofs.Common.{arith, sym, eqb-true, eq-eqb, ne_eqb, leb-true, leb-false, le-leb}
use Rattle.std.proofs.lemmas.Bool.{eqb-false, lt-leb}
use Rattle.base.specs.RowLaws.{clash, not_both, or_none, or_false, or_right}
use Rattle.calls.specs.Numbers.{place_idle, place_claimed, place_written, place_swapped}
use Rattle.publication_law.specs.Core.{Hold}
use Rattle.publication_law.specs.CoreLaws.{hold_map}
use Rattle.publication_law.specs.Invariant.{former_at}

pub former_early : (pl hd x : ℕ) → pl ≤ place_written → former_at pl hd x ≡ false
former_early pl hd x l = rw (lt-leb 34 pl (omega arith)) refl

pub former_same : (pl pl' hd x : ℕ) → place_swapped ≤ pl → place_swapped ≤ pl' → former_at pl' hd x ≡ former_at pl hd x
former_same pl pl' hd x l l' = rw (le-leb 34 pl l, le-leb 34 pl' l') refl

pub former_swap : (pl hd cur x : ℕ) → pl ≤ place_written → former_at place_swapped cur x ≡ eqb cur x || former_at pl hd x
former_swap pl hd cur x l = rw (former_early pl hd x l) (sym (or_none (eqb cur x)))

-- The same beside retired slots.
pub formers_early : (retired : Bool) (pl hd pl' hd' x : ℕ) → pl ≤ place_written → pl' ≤ place_written → retired || former_at pl' hd' x ≡ retired || former_at pl hd x
formers_early retired pl hd pl' hd' x l l' = rw (former_early pl hd x l, former_early pl' hd' x l') refl

pub formers_same : (retired : Bool) (pl pl' hd x : ℕ) → place_swapped ≤ pl → place_swapped ≤ pl' → retired || former_at pl' hd x ≡ retired || former_at pl hd x
formers_same retired pl pl' hd x l l' = rw (former_same pl pl' hd x l l') refl

pub formers_swap : (retired : Bool) (pl hd cur x : ℕ) → pl ≤ place_written → retired || former_at place_swapped cur x ≡ eqb cur x || (retired || former_at pl hd x)
formers_swap retired pl hd cur x l = rw (former_early pl hd x l) (go retired (eqb cur x))
  where
    go : (a b : Bool) → a || b ≡ b || (a || false)
    go true true = refl
    go true false = refl
    go false true = refl
    go false false = refl

single_one : (pl hd x : ℕ) → (not (eqb pl place_idle) && eqb hd x) ≡ ((leb place_claimed pl && leb pl place_written) && eqb hd x) || former_at pl hd x
single_one pl hd x = go (eqb pl 0) refl (leb 34 pl) refl (eqb hd x)
  where
    go : (a : Bool) → eqb pl place_idle ≡ a → (b : Bool) → leb place_swapped pl ≡ b → (c : Bool) → (not a && c) ≡ ((leb place_claimed pl && leb pl place_written) && c) || (b && c)
    go true d true e c = absurd (omega (arith, eqb-true pl 0 d, leb-true 34 pl e))
    go true d false e c = rw (lt-leb 1 pl (omega (arith, eqb-true pl 0 d))) refl
    go false d true e c = rw (lt-leb pl 33 (omega (arith, leb-true 34 pl e)), le-leb 1 pl (omega (arith, leb-true 34 pl e))) refl
    go false d false e true = rw (le-leb 1 pl (let unequal = eqb-false pl 0 d in omega arith), le-leb pl 33 (let less = leb-false 34 pl e in omega arith)) refl
    go false d false e false = rw (le-leb 1 pl (let unequal = eqb-false pl 0 d in omega arith), le-leb pl 33 (let less = leb-false 34 pl e in omega arith)) refl

-- The store's own test for a slot that a publisher holds; retired says whether it has retired that slot.
pub single : (retired : Bool) (pl hd x : ℕ) → retired || (not (eqb pl place_idle) && eqb hd x) ≡ ((leb place_claimed pl && leb pl place_written) && eqb hd x) || (retired || former_at pl hd x)
single true pl hd x = sym (or_right ((leb place_claimed pl && leb pl place_written) && eqb hd x) true refl)
single false pl hd x = single_one pl hd x

pub single_free : (F : ℕ → Bool) (pl hd x : ℕ) → F x || (not (eqb pl place_idle) && eqb hd x) ≡ false → Hold pl hd (λ x'. F x' || former_at pl hd x') x → ⊥
single_free F pl hd x not_held held = hold_map pl hd (λ x'. F x' || former_at pl hd x') x held
    (λ low high e. not_both (not (eqb pl 0) && eqb hd x) (rw (ne_eqb pl 0 (λ eq. omega arith), eq-eqb hd x e) refl) free)
    (λ e. go (leb 34 pl) refl (rw (or_false (F x) _ not_held).0 at e))
  where
    free : (not (eqb pl place_idle) && eqb hd x) ≡ false
    free = (or_false (F x) _ not_held).1

    go : (b : Bool) → leb place_swapped pl ≡ b → (b && eqb hd x) ≡ true → ⊥
    go true d e = not_both (not (eqb pl 0) && eqb hd x) (rw (ne_eqb pl 0 (λ eq. omega (arith, leb-true 34 pl d)), e) refl) free
    go false d e = clash (sym e)
