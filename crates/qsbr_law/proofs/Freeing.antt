-- What stays of a participant's retired slots, for any test of one: those with a mark above the least, in their order; and nothing else of the words moves. Assumes nothing.
use Rattle.std.specs.Prelude.{ℕ, zero, suc, ◌+◌, ◌-◌, ◌<◌, ◌≤◌, ◌≡◌, refl, ◌≢◌, Bool, true, false, ◌&&◌, ◌||◌, List, length, leb, ltb}
use Rattle.std.proofs.Common.{arith, add-one, sym, ap, ◌∙◌, ne_eqb, leb-true, leb-false, le-leb, lt-ltb, le-ltb}
use Rattle.std.proofs.lemmas.Bool.{lt-leb}
use Rattle.base.specs.Base.{choose}
use Rattle.base.specs.Rows.{any_below}
use Rattle.base.specs.RowLaws.{same, or_none, none_first, any_more, choose_split, count_more, count_like}
use Rattle.calls.specs.Numbers.{publishers_max, deferred_max}
use Rattle.layout.specs.declared.Retired.{Retired}
use Rattle.layout.specs.Layout.{words_length, retired_at, with_retired}
use Rattle.layout.specs.Laws.{length_retired, head_retired, reader_retired, publisher_retired, retirement_retired, retired_put}
use Rattle.qsbr_law.specs.Steps.{Stay, stay, staying}
use Rattle.qsbr_law.specs.Freeing.{any_first, count_first, Frees}

unfoldable any_from : (Retired → Bool) → List ℕ → ℕ → ℕ → ℕ → Bool
any_from f w p i zero = false
any_from f w p i (suc n) = f (retired_at w p i) || any_from f w p (i + 1) n

unfoldable count_from : (Retired → Bool) → List ℕ → ℕ → ℕ → ℕ → ℕ
count_from f w p i zero = 0
count_from f w p i (suc n) = choose (f (retired_at w p i)) 1 0 + count_from f w p (i + 1) n

or_assoc : (a b c : Bool) → (a || b) || c ≡ a || (b || c)
or_assoc true b c = refl
or_assoc false b c = refl

-- One written at j is read there, and every other one stays.
module _ (w : List ℕ) (p j : ℕ) (d : Retired) (long : length w ≡ words_length) (low : p < publishers_max) (room : j < deferred_max) where
  pub put_same : retired_at (with_retired w p j d) p j ≡ d
  put_same = ap (λ (f : ℕ → ℕ → Retired). f p j) (retired_put w p j d long low room) ∙ rw (same p, same j) refl

  pub put_other : (i : ℕ) → i ≢ j → retired_at (with_retired w p j d) p i ≡ retired_at w p i
  put_other i ne = ap (λ (f : ℕ → ℕ → Retired). f p i) (retired_put w p j d long low room) ∙ rw (same p, ne_eqb i j ne) refl

  -- One that moves down to j is the last of the first j + 1.
  first_more : (f : Retired → Bool) → any_first f (with_retired w p j d) p (j + 1) ≡ any_first f w p j || f d
  first_more f = any_more (λ i. f (retired_at (with_retired w p j d) p i)) j
      ∙ rw (put_same, below_same (λ i. f (retired_at (with_retired w p j d) p i)) (λ i. f (retired_at w p i)) j (λ i l. ap f (put_other i (λ e. omega arith)))) refl
    where
      below_same : (f g : ℕ → Bool) (n : ℕ) → ((i : ℕ) → i < n → f i ≡ g i) → any_below f n ≡ any_below g n
      below_same f g zero e = none_first f ∙ sym (none_first g)
      below_same f g (suc n) e = rw (← add-one n) (any_more f n ∙ (rw (below_same f g n (λ i l. e i (omega arith)), e n (omega arith)) refl ∙ sym (any_more g n)))

  count_first_more : (f : Retired → Bool) → count_first f (with_retired w p j d) p (j + 1) ≡ choose (f d) 1 0 + count_first f w p j
  count_first_more f = count_more (λ i. f (retired_at (with_retired w p j d) p i)) j
      ∙ rw (put_same, count_like (λ i. f (retired_at (with_retired w p j d) p i)) (λ i. f (retired_at w p i)) j (λ i l. ap f (put_other i (λ e. omega arith)))) refl

count_from_same : (f : Retired → Bool) (v w : List ℕ) (p i n : ℕ) → ((k : ℕ) → i ≤ k → retired_at v p k ≡ retired_at w p k) → count_from f v p i n ≡ count_from f w p i n
unfolding count_from
count_from_same f v w p i zero e = refl
count_from_same f v w p i (suc n) e = rw (e i (omega arith), count_from_same f v w p (i + 1) n (λ k l. e k (omega arith))) refl

from_same : (f : Retired → Bool) (v w : List ℕ) (p i n : ℕ) → ((k : ℕ) → i ≤ k → retired_at v p k ≡ retired_at w p k) → any_from f v p i n ≡ any_from f w p i n
unfolding any_from
from_same f v w p i zero e = refl
from_same f v w p i (suc n) e = rw (e i (omega arith), from_same f v w p (i + 1) n (λ k l. e k (omega arith))) refl

-- Whether a test holds of one that stays: of one of the first j, or of one from i on with a mark above the least.
any_stays_from : (f : Retired → Bool) (p least n i j : ℕ) (w : List ℕ) → j ≤ i → i + n ≤ deferred_max → p < publishers_max → length w ≡ words_length
    → any_first f (staying p least n i j w).words p (staying p least n i j w).count ≡ any_first f w p j || any_from (λ d. ltb least d.mark && f d) w p i n
unfolding staying any_from
any_stays_from f p least zero i j w le room low long = sym (or_none _)
any_stays_from f p least (suc n) i j w le room low long =
    go (leb (retired_at w p i).mark least) refl (any_stays_from f p least n (i + 1) j w (omega arith) (omega arith) low long)
    (any_stays_from f p least n (i + 1) (j + 1) (with_retired w p j (retired_at w p i)) (omega arith) (omega arith) low (length_retired w p j (retired_at w p i) ∙ long))
  where
    After : Stay → Bool → Type 0
    After r b = any_first f r.words p r.count ≡ b

    go : (b : Bool) → leb (retired_at w p i).mark least ≡ b
        → After (staying p least n (i + 1) j w) (any_first f w p j || any_from (λ d. ltb least d.mark && f d) w p (i + 1) n)
        → After (staying p least n (i + 1) (j + 1) (with_retired w p j (retired_at w p i))) (any_first f (with_retired w p j (retired_at w p i)) p (j + 1) || any_from (λ d. ltb least d.mark && f d) (with_retired w p j (retired_at w p i)) p (i + 1) n)
        → After (choose b (staying p least n (i + 1) j w) (staying p least n (i + 1) (j + 1) (with_retired w p j (retired_at w p i))))
        (any_first f w p j || ((ltb least (retired_at w p i).mark && f (retired_at w p i)) || any_from (λ d. ltb least d.mark && f d) w p (i + 1) n))
    go true e freed moved = rw (le-ltb least (retired_at w p i).mark (leb-true _ _ e)) freed
    go false e freed moved =
        rw (lt-ltb least (retired_at w p i).mark (leb-false _ _ e))
        (moved
        ∙ rw (first_more w p j (retired_at w p i) long low (omega arith) f, from_same (λ d. ltb least d.mark && f d) (with_retired w p j (retired_at w p i)) w p (i + 1) n (λ k l. put_other w p j (retired_at w p i) long low (omega arith) k (λ z. omega arith)))
        (or_assoc (any_first f w p j) (f (retired_at w p i)) (any_from (λ d. ltb least d.mark && f d) w p (i + 1) n)))

-- From the first on: the two ways of going over them.
from_first : (f : Retired → Bool) (w : List ℕ) (p j n : ℕ) → any_first f w p j || any_from f w p j n ≡ any_first f w p (j + n)
unfolding any_from
from_first f w p j zero = let e : j + 0 ≡ j = omega arith in rw e (or_none _)
from_first f w p j (suc n) =
    let e : j + suc n ≡ j + 1 + n = omega arith in
    rw (e, ← from_first f w p (j + 1) n, any_more (λ i. f (retired_at w p i)) j) (sym (or_assoc (any_first f w p j) (f (retired_at w p j)) (any_from f w p (j + 1) n)))

-- The law: of the slots that stay a test holds of one exactly if it held of one with a mark above the least.
pub any_stays : (f : Retired → Bool) (p least n : ℕ) (w : List ℕ) → n ≤ deferred_max → p < publishers_max → length w ≡ words_length
    → any_first f (staying p least n 0 0 w).words p (staying p least n 0 0 w).count ≡ any_first (λ d. ltb least d.mark && f d) w p n
any_stays f p least n w room low long =
    let e : 0 + n ≡ n = omega arith in
    any_stays_from f p least n 0 0 w (omega arith) (omega arith) low long
    ∙ rw (none_first (λ i. f (retired_at w p i)))
    (rw (none_first (λ i. ltb least (retired_at w p i).mark && f (retired_at w p i)), e) at (from_first (λ d. ltb least d.mark && f d) w p 0 n))

-- A test holds of no more of those that stay than it held of.
count_stays_from : (f : Retired → Bool) (p least n i j : ℕ) (w : List ℕ) → j ≤ i → i + n ≤ deferred_max → p < publishers_max → length w ≡ words_length
    → count_first f (staying p least n i j w).words p (staying p least n i j w).count ≤ count_first f w p j + count_from f w p i n
unfolding staying count_from
count_stays_from f p least zero i j w le room low long = omega arith
count_stays_from f p least (suc n) i j w le room low long =
    let d = retired_at w p i in choose_split (λ (after : Stay). count_first f after.words p after.count ≤ count_first f w p j + (choose (f d) 1 0 + count_from f w p (i + 1) n)) (leb d.mark least)
    (λ _. omega (arith, count_stays_from f p least n (i + 1) j w (omega arith) (omega arith) low long))
    (λ _. omega (
      arith,
      count_stays_from f p least n (i + 1) (j + 1) (with_retired w p j d) (omega arith) (omega arith) low (length_retired w p j d ∙ long),
      count_first_more w p j d long low (omega arith) f,
      count_from_same f (with_retired w p j d) w p (i + 1) n (λ k l. put_other w p j d long low (omega arith) k (λ z. omega arith)),
    ))

count_from_first : (f : Retired → Bool) (w : List ℕ) (p j n : ℕ) → count_first f w p j + count_from f w p j n ≡ count_first f w p (j + n)
unfolding count_from
count_from_first f w p j zero = let e : j + 0 ≡ j = omega arith in rw e (omega arith)
count_from_first f w p j (suc n) =
    let e : j + suc n ≡ j + 1 + n = omega arith in
    rw (e, ← count_from_first f w p (j + 1) n, count_more (λ i. f (retired_at w p i)) j) (omega arith)

pub count_stays : (f : Retired → Bool) (p least n : ℕ) (w : List ℕ) → n ≤ deferred_max → p < publishers_max → length w ≡ words_length
    → count_first f (staying p least n 0 0 w).words p (staying p least n 0 0 w).count ≤ count_first f w p n
count_stays f p least n w room low long =
    let e : 0 + n ≡ n = omega arith in
    omega (arith, count_stays_from f p least n 0 0 w (omega arith) (omega arith) low long, rw e at (count_from_first f w p 0 n))

pub frees : (p least n i j : ℕ) (w : List ℕ) → j ≤ i → i + n ≤ deferred_max → p < publishers_max → length w ≡ words_length → Frees p j n w (staying p least n i j w)
unfolding staying
frees p least zero i j w le room low long = record { long = refl; head = λ i l. refl; readers_stay = refl; publishers_stay = refl; retirements_stay = refl; others_stay = λ q e. refl; count_high = omega arith }
frees p least (suc n) i j w le room low long = choose_split (Frees p j (suc n) w) (leb (retired_at w p i).mark least)
    (λ _. let k = frees p least n (i + 1) j w (omega arith) (omega arith) low long in record {
      long = k.long;
      head = k.head;
      readers_stay = k.readers_stay;
      publishers_stay = k.publishers_stay;
      retirements_stay = k.retirements_stay;
      others_stay = k.others_stay;
      count_high = omega (arith, k.count_high);
    })
    (λ _. let d = retired_at w p i in
    let k = frees p least n (i + 1) (j + 1) (with_retired w p j d) (omega arith) (omega arith) low (length_retired w p j d ∙ long) in record {
      long = k.long ∙ length_retired w p j d;
      head = λ i l. k.head i l ∙ head_retired w p j d i l;
      readers_stay = k.readers_stay ∙ reader_retired w p j d;
      publishers_stay = k.publishers_stay ∙ publisher_retired w p j d;
      retirements_stay = k.retirements_stay ∙ retirement_retired w p j d;
      others_stay = λ q e. k.others_stay q e ∙ (ap (λ (f : ℕ → ℕ → Retired). f q) (retired_put w p j d long low (omega arith)) ∙ rw e refl);
      count_high = omega (arith, k.count_high);
    })

-- One turn of the loop that frees: what is still to come from i on.
pub stays_none : (p least count i j : ℕ) (w : List ℕ) → count ≤ i → staying p least (count - i) i j w ≡ stay w j
unfolding staying
stays_none p least count i j w le = let e : count - i ≡ 0 = omega arith in rw e refl

pub stays_freed : (p least count i j : ℕ) (w : List ℕ) → i < count → (retired_at w p i).mark ≤ least → staying p least (count - i) i j w ≡ staying p least (count - (i + 1)) (i + 1) j w
unfolding staying
stays_freed p least count i j w lt le = let e : count - i ≡ suc (count - (i + 1)) = omega arith in rw (e, le-leb _ _ le) refl

pub stays_moved : (p least count i j : ℕ) (w : List ℕ) → i < count → least < (retired_at w p i).mark
    → staying p least (count - i) i j w ≡ staying p least (count - (i + 1)) (i + 1) (j + 1) (with_retired w p j (retired_at w p i))
unfolding staying
stays_moved p least count i j w lt le = let e : count - i ≡ suc (count - (i + 1)) = omega arith in rw (e, lt-leb _ _ le) refl
