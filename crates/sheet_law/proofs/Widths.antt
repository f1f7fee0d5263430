-- Laws of the numbers that are read: of `at_most`, and of what was read of a part of a text. Assumes nothing.
use Rattle.std.specs.Prelude.{ℕ, ◌-◌, ◌<◌, ◌≤◌, ◌≡◌, refl, Bool, true, false, ltb, List, length, take, drop, Option, Some, None}
use Rattle.std.proofs.Common.{arith, sym, ◌∙◌, ap, length-drop, take_all, lt-ltb, le-ltb, ltb-false, ltb-true}
use Rattle.std.proofs.lemmas.Option.{none-some, same_Some}
use Rattle.base.specs.Base.{choose}
use Rattle.sheet_law.specs.Reading.{at_most}

-- What is at most a number, and what is not.
pub at_most_decimal : (most n : ℕ) → n ≤ most → at_most most (Some n) ≡ Some n
at_most_decimal most n h = rw (le-ltb most n h) refl

pub at_most_bad : (most n : ℕ) → most < n → at_most most (Some n) ≡ None
at_most_bad most n h = rw (lt-ltb most n h) refl

pub at_most_bound : (most : ℕ) (x : Option ℕ) (n : ℕ) → at_most most x ≡ Some n → n ≤ most
at_most_bound most None n e = absurd (none-some n e)
at_most_bound most (Some m) n e = go (ltb most m) refl e
  where
    go : (test : Bool) → test ≡ ltb most m → choose test None (Some m) ≡ Some n → n ≤ most
    go true d f = absurd (none-some n f)
    go false d f = let a : m ≤ most = ltb-false most m (sym d) in omega (arith, a, same_Some m n f)

pub at_most_is : (most : ℕ) (x : Option ℕ) (n : ℕ) → at_most most x ≡ Some n → x ≡ Some n
at_most_is most None n e = e
at_most_is most (Some m) n e = go (ltb most m) e
  where
    go : (test : Bool) → choose test None (Some m) ≡ Some n → Some m ≡ Some n
    go true f = absurd (none-some n f)
    go false f = f

-- Of two bounds the less is enough.
pub at_most_within : (less more : ℕ) (x : Option ℕ) → less ≤ more → at_most less (at_most more x) ≡ at_most less x
at_most_within less more None h = refl
at_most_within less more (Some m) h = go (ltb more m) refl
  where
    go : (test : Bool) → ltb more m ≡ test → at_most less (choose test None (Some m)) ≡ at_most less (Some m)
    go true d = let a : more < m = ltb-true more m d in sym (at_most_bad less m (omega arith))
    go false d = refl

-- a part that reaches the end
pub tail : (n : ℕ) (l : List ℕ) → take (length l - n) (drop n l) ≡ drop n l
tail n l = take_all (length l - n) (drop n l) (rw length-drop (omega arith))

-- What is read is one number, or none.
pub decimal_same : (n m : ℕ) → Some n ≡ Some m → n ≡ m
decimal_same n m e = same_Some n m e

pub no_decimal : (n : ℕ) → None ≡ Some n → ⊥
no_decimal n e = none-some n e

-- What is too wide for the greater bound is too wide for the less.
pub at_most_less : (less more : ℕ) (x : Option ℕ) → less ≤ more → at_most more x ≡ None → at_most less x ≡ None
at_most_less less more x h e = sym (at_most_within less more x h) ∙ rw e refl

pub tail_is : (n : ℕ) (l k : List ℕ) → drop n l ≡ k → take (length l - n) (drop n l) ≡ k
tail_is n l k e = tail n l ∙ e

-- What was read of a part, of the whole that the part is equal to.
pub read_part : (f : List ℕ → Option ℕ) (x : Option ℕ) (l k : List ℕ) (y : Option ℕ) → x ≡ f l → l ≡ k → x ≡ y → f k ≡ y
read_part f x l k y e p q = ap f (sym p) ∙ sym e ∙ q
