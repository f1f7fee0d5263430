-- Laws of tests, of rows and of scans: all that proofs use of them. Assumes nothing.
use Rattle.std.specs.Prelude.{ℕ, zero, suc, ◌+◌, ◌<◌, ◌≤◌, ◌≡◌, refl, ◌≢◌, ◌⊎◌, Bool, true, false, not, ◌&&◌, ◌||◌, List, [], ◌∷◌, ◌++◌, ltb, eqb}
use Rattle.std.proofs.Common.{arith, add-one, add-zero, zero-add, ap, ◌∙◌, sym, subst, inl, inr, eqb-true, eq-eqb, ne_eqb, ltb-true, ltb-false, lt-ltb, le-ltb}
use Rattle.std.proofs.lemmas.Bool.{eqb-false}
use Rattle.std.specs.List.{list_any, range_with_len}
use Rattle.std.proofs.lemmas.List.Folds.{list_any-append}
use Rattle.base.specs.Base.{choose, upd}
use Rattle.base.specs.Rows.{Test, first_of, any_true, any_below, count_below, outside}
use Rattle.base.specs.Rows.Test.{◌gives◌}

-- Tests.
pub clash : {A : Type 0} → true ≡ false → A
clash e = absurd (let z : ◌≡◌ {A = ℕ} 0 1 = cc in omega arith)

pub not_both : (b : Bool) → b ≡ true → b ≡ false → ⊥
not_both b e h = let z : ◌≡◌ {A = ℕ} 0 1 = cc in omega arith

pub by_test : (b : Bool) → (b ≡ true → ⊥) → b ≡ false
by_test true h = absurd (h refl)
by_test false h = refl

pub and_true : (a b : Bool) → a && b ≡ true → (a ≡ true) × (b ≡ true)
and_true true b e = (refl, e)
and_true false b e = clash (sym e)

pub and_false : (a b : Bool) → a && b ≡ false → a ≡ true → b ≡ false
and_false true b e q = e
and_false false b e q = clash (sym q)

pub and_not : (a b : Bool) → (a ≡ true → b ≡ false) → a && b ≡ false
and_not true b h = h refl
and_not false b h = refl

pub or_false : (a b : Bool) → a || b ≡ false → (a ≡ false) × (b ≡ false)
or_false true b e = clash e
or_false false b e = (refl, e)

pub or_left : (a b : Bool) → a ≡ true → a || b ≡ true
or_left true b e = refl
or_left false b e = clash (sym e)

pub or_right : (a b : Bool) → b ≡ true → a || b ≡ true
or_right true b e = refl
or_right false b e = e

pub or_either : (a b : Bool) → a || b ≡ true → (a ≡ true) ⊎ (b ≡ true)
or_either true b e = inl refl
or_either false b e = inr e

pub neither : (a b : Bool) → a ≡ false → b ≡ false → a || b ≡ false
neither true b e h = e
neither false b e h = h

pub or_none : (b : Bool) → b || false ≡ b
or_none true = refl
or_none false = refl

pub negated : (b : Bool) → b ≡ true → not b ≡ false
negated true e = refl
negated false e = clash (sym e)

-- Choices.
pub choose_split : {A : Type 0} (Q : A → Type 0) (b : Bool) {x y : A} → (b ≡ true → Q x) → (b ≡ false → Q y) → Q (choose b x y)
choose_split Q true one other = one refl
choose_split Q false one other = other refl

pub same : (r : ℕ) → eqb r r ≡ true
same r = eq-eqb r r refl

-- What holds at r, and at every other number.
pub at_or : (r : ℕ) {Q : ℕ → Type 0} → Q r → ((j : ℕ) → eqb j r ≡ false → Q j) → (j : ℕ) → Q j
at_or r {Q} here there j = go (eqb j r) refl
  where
    go : (b : Bool) → eqb j r ≡ b → Q j
    go true e = subst Q (sym (eqb-true j r e)) here
    go false e = there j e

pub upd_other : {A : Type 0} (f : ℕ → A) (i : ℕ) (a : A) (j : ℕ) → i ≢ j → upd f i a j ≡ f j
upd_other f i a j ne = rw (ne_eqb j i (λ z. ne (sym z))) refl

-- Rows of which none applies.
abbrev pub AllClear : List Test → Type 0
AllClear [] = Unit {0}
AllClear ((b gives n) ∷ l) = (b ≡ false) × AllClear l

-- Each number is above low and below 100.
abbrev pub all_above : ℕ → List Test → Bool
all_above low [] = true
all_above low ((b gives n) ∷ l) = (ltb low n && ltb n 100) && all_above low l

pub all_above_lem : (low m : ℕ) → m ≤ low → (l : List Test) → all_above low l ≡ true → all_above m l ≡ true
all_above_lem low m le [] above = refl
all_above_lem low m le ((b gives n) ∷ l) above =
    let row = and_true (ltb low n && ltb n 100) (all_above low l) above in
    let both = and_true (ltb low n) (ltb n 100) row.0 in
    rw (lt-ltb m n (omega (arith, ltb-true low n both.0)), both.1) (all_above_lem low m le l row.1)

pub clear : (l : List Test) → all_above 0 l ≡ true → first_of l ≡ 0 → AllClear l
clear [] above e = tt
clear ((true gives n) ∷ l) above e = absurd (omega (arith, ltb-true 0 n (and_true (ltb 0 n) (ltb n 100) (and_true (ltb 0 n && ltb n 100) (all_above 0 l) above).0).0))
clear ((false gives n) ∷ l) above e = (refl, clear l (and_true (ltb 0 n && ltb n 100) (all_above 0 l) above).1 e)

pub none_applies : (l : List Test) → AllClear l → first_of l ≡ 0
none_applies [] h = refl
none_applies ((b gives n) ∷ l) h = rw h.0 (none_applies l h.1)

-- A number that is given is one of the rows'.
pub first_within : (low : ℕ) (l : List Test) → all_above low l ≡ true → first_of l ≢ 0 → (low < first_of l) × (first_of l < 100)
first_within low [] above ne = absurd (ne refl)
first_within low ((true gives n) ∷ l) above ne = let q = and_true (ltb low n) (ltb n 100) (and_true (ltb low n && ltb n 100) (all_above low l) above).0 in (ltb-true low n q.0, ltb-true n 100 q.1)
first_within low ((false gives n) ∷ l) above ne = first_within low l (and_true (ltb low n && ltb n 100) (all_above low l) above).1 ne

abbrev pub AllFalse : List Bool → Type 0
AllFalse [] = Unit {0}
AllFalse (b ∷ l) = (b ≡ false) × AllFalse l

pub all_false : (l : List Bool) → any_true l ≡ false → AllFalse l
all_false [] e = tt
all_false (true ∷ l) e = clash e
all_false (false ∷ l) e = (refl, all_false l e)

pub none_true : (l : List Bool) → AllFalse l → any_true l ≡ false
none_true [] h = refl
none_true (b ∷ l) h = rw h.0 (none_true l h.1)

pub within : (low high n : ℕ) → outside low high n ≡ false → (low ≤ n) × (n ≤ high)
within low high n e = let q = or_false (ltb n low) (ltb high n) e in (ltb-false n low q.0, ltb-false high n q.1)

pub not_outside : (low high n : ℕ) → low ≤ n → n ≤ high → outside low high n ≡ false
not_outside low high n from to = rw (le-ltb n low from) (le-ltb high n to)

-- Scans.
below_suc : (i n : ℕ) → i < suc n → eqb i n ≡ false → i < n
below_suc i n lt e = let ne = eqb-false i n e in omega arith

pub none_below : (f : ℕ → Bool) (n i : ℕ) → any_below f n ≡ false → i < n → f i ≡ false
unfolding any_below
none_below f zero i e lt = absurd (omega arith)
none_below f (suc n) i e lt = let q = or_false (any_below f n) (f n) e in go (eqb i n) refl q.1 (λ less. none_below f n i q.0 less)
  where
    go : (b : Bool) → eqb i n ≡ b → f n ≡ false → (i < n → f i ≡ false) → f i ≡ false
    go true d here there = rw (eqb-true i n d) here
    go false d here there = there (below_suc i n lt d)

pub some_below : (f : ℕ → Bool) (n i : ℕ) → i < n → f i ≡ true → any_below f n ≡ true
some_below f n i lt e = go (any_below f n) refl
  where
    go : (b : Bool) → any_below f n ≡ b → any_below f n ≡ true
    go true d = d
    go false d = absurd (not_both (f i) e (none_below f n i d lt))

pub no_below : (f : ℕ → Bool) (n : ℕ) → ((i : ℕ) → i < n → f i ≡ false) → any_below f n ≡ false
unfolding any_below
no_below f zero h = refl
no_below f (suc n) h = rw (no_below f n (λ i lt. h i (omega arith))) (h n (omega arith))

pub any_below_lem : (f : ℕ → Bool) (n : ℕ) → any_below f n ≡ true → (i : ℕ) × (i < n) × (f i ≡ true)
unfolding any_below
any_below_lem f zero e = clash (sym e)
any_below_lem f (suc n) e = go (any_below f n) refl (f n) refl (λ d. any_below_lem f n d)
  where
    go : (a : Bool) → any_below f n ≡ a → (b : Bool) → f n ≡ b → (any_below f n ≡ true → (i : ℕ) × (i < n) × (f i ≡ true)) → (i : ℕ) × (i < suc n) × (f i ≡ true)
    go true d b q rec = let found = rec d in (found.0, omega (arith, found.1), found.2)
    go false d true q rec = (n, omega arith, q)
    go false d false q rec = clash (sym (rw (d, q) at e))

-- A test holds of some number, or of none below n.
pub found_below : (f : ℕ → Bool) (n : ℕ) → ((i : ℕ) × (f i ≡ true)) ⊎ ((i : ℕ) → i < n → f i ≡ false)
found_below f n = go (any_below f n) refl
  where
    go : (b : Bool) → any_below f n ≡ b → ((i : ℕ) × (f i ≡ true)) ⊎ ((i : ℕ) → i < n → f i ≡ false)
    go true e = let found = any_below_lem f n e in inl (found.0, found.2)
    go false e = inr (λ i lt. none_below f n i e lt)

-- A scan as a loop makes it: of no number, and of one more.
pub none_first : (f : ℕ → Bool) → any_below f 0 ≡ false
unfolding any_below
none_first f = refl

-- One number more.
pub any_more : (f : ℕ → Bool) (i : ℕ) → any_below f (i + 1) ≡ (any_below f i || f i)
unfolding any_below
any_more f i = rw (add-one i) refl

pub none_more : (f : ℕ → Bool) (i : ℕ) → any_below f i ≡ false → f i ≡ false → any_below f (i + 1) ≡ false
unfolding any_below
none_more f i h e = rw (add-one i, h) e

-- A scan of the numbers in a range is one of those below its end.
range_more : (a n : ℕ) → range_with_len a (suc n) ≡ range_with_len a n ++ (a + n) ∷ []
range_more a zero = rw add-zero refl
range_more a (suc n) = let at : (a + 1) + n ≡ a + suc n = omega arith in rw (range_more (a + 1) n, at) refl

pub any_in_range : (f : ℕ → Bool) (n : ℕ) → list_any f (range_with_len 0 n) ≡ any_below f n
unfolding any_below
any_in_range f zero = refl
any_in_range f (suc n) =
    ap (list_any f) (range_more 0 n) ∙ rw list_any-append (rw (any_in_range f n, or_none, zero-add) refl)

pub count_zero : (f : ℕ → Bool) (n i : ℕ) → count_below f n ≡ 0 → i < n → f i ≡ false
unfolding count_below
count_zero f zero i e lt = absurd (omega arith)
count_zero f (suc n) i e lt = go (f n) refl (eqb i n) refl (λ q less. count_zero f n i q less)
  where
    go : (a : Bool) → f n ≡ a → (b : Bool) → eqb i n ≡ b → (count_below f n ≡ 0 → i < n → f i ≡ false) → f i ≡ false
    go true q b d rec = absurd (let z : suc (count_below f n) ≡ 0 = rw q at e in omega arith)
    go false q true d rec = rw (eqb-true i n d) q
    go false q false d rec = rec (rw q at e) (below_suc i n lt d)

pub count_none : (f : ℕ → Bool) (n : ℕ) → ((i : ℕ) → i < n → f i ≡ false) → count_below f n ≡ 0
unfolding count_below
count_none f zero h = refl
count_none f (suc n) h = rw (h n (omega arith)) (count_none f n (λ i lt. h i (omega arith)))

-- A count follows one changed number.
pub count_upd : (f g : ℕ → Bool) (n r : ℕ) → r < n → ((j : ℕ) → eqb j r ≡ false → g j ≡ f j)
    → count_below g n + choose (f r) 1 0 ≡ count_below f n + choose (g r) 1 0
unfolding count_below
count_upd f g zero r lt h = absurd (omega arith)
count_upd f g (suc n) r lt h = go (eqb n r) refl (λ less. count_upd f g n r less h)
  where
    alike : (m : ℕ) → m ≤ r → count_below g m ≡ count_below f m
    alike zero le = refl
    alike (suc m) le = rw (alike m (omega arith), h m (go_ne m (omega arith))) refl
      where
        go_ne : (m : ℕ) → m < r → eqb m r ≡ false
        go_ne m lt = by_test (eqb m r) (λ e. omega (arith, eqb-true m r e))

    one : (b : Bool) (k : ℕ) → choose b (suc k) k ≡ k + choose b 1 0
    one true k = omega arith
    one false k = omega arith

    go : (b : Bool) → eqb n r ≡ b → (r < n → count_below g n + choose (f r) 1 0 ≡ count_below f n + choose (g r) 1 0)
        → choose (g n) (suc (count_below g n)) (count_below g n) + choose (f r) 1 0 ≡ choose (f n) (suc (count_below f n)) (count_below f n) + choose (g r) 1 0
    go true d rec = let e = eqb-true n r d in
        rw (one (g n) (count_below g n), one (f n) (count_below f n), e, alike r (omega arith)) (omega arith)
    go false d rec = let q = eqb-false n r d in let z = rec (omega arith) in
        rw (one (g n) (count_below g n), one (f n) (count_below f n), h n d) (omega arith)

-- One or the other of two tests holds of at most as many numbers as each by itself, taken together.
count_or : (f g : ℕ → Bool) (n : ℕ) → count_below (λ i. f i || g i) n ≤ count_below f n + count_below g n
unfolding count_below
count_or f g zero = omega arith
count_or f g (suc n) = go (f n) (g n) (count_or f g n)
  where
    go : (a b : Bool) → count_below (λ i. f i || g i) n ≤ count_below f n + count_below g n
        → choose (a || b) (suc (count_below (λ i. f i || g i) n)) (count_below (λ i. f i || g i) n) ≤ choose a (suc (count_below f n)) (count_below f n) + choose b (suc (count_below g n)) (count_below g n)
    go true true le = omega arith
    go true false le = omega arith
    go false true le = omega arith
    go false false le = le

-- At most one number is a.
count_one : (a n : ℕ) → count_below (λ i. eqb a i) n ≤ 1
unfolding count_below
count_one a zero = omega arith
count_one a (suc n) = go (eqb a n) refl (count_one a n)
  where
    go : (b : Bool) → eqb a n ≡ b → count_below (λ i. eqb a i) n ≤ 1 → choose b (suc (count_below (λ i. eqb a i) n)) (count_below (λ i. eqb a i) n) ≤ 1
    go true d le = omega (arith, count_none (λ i. eqb a i) n (λ i lt. by_test (eqb a i) (λ e. omega (arith, eqb-true a n d, eqb-true a i e))))
    go false d le = le

-- A test that holds of fewer than n numbers below n fails at one of them.
count_short : (f : ℕ → Bool) (n : ℕ) → count_below f n < n → (i : ℕ) × (i < n) × (f i ≡ false)
unfolding count_below
count_short f zero lt = absurd (omega arith)
count_short f (suc n) lt = go (f n) refl (λ less. count_short f n less)
  where
    go : (b : Bool) → f n ≡ b → (count_below f n < n → (i : ℕ) × (i < n) × (f i ≡ false)) → (i : ℕ) × (i < suc n) × (f i ≡ false)
    go true d rec = let less : suc (count_below f n) < suc n = rw d at lt in let z = rec (omega arith) in (z.0, omega (arith, z.1), z.2)
    go false d rec = (n, omega arith, d)

-- m numbers hit at most m of those below n; if m is less than n, they miss one.
count_hit : (c : ℕ → ℕ) (m n : ℕ) → count_below (λ i. any_below (λ j. eqb (c j) i) m) n ≤ m
unfolding any_below
count_hit c zero n = omega (arith, count_none (λ i. false) n (λ i lt. refl))
count_hit c (suc m) n = omega (arith, count_or (λ i. any_below (λ j. eqb (c j) i) m) (λ i. eqb (c m) i) n, count_hit c m n, count_one (c m) n)

-- One number more is counted, or is not.
pub count_more : (f : ℕ → Bool) (i : ℕ) → count_below f (i + 1) ≡ choose (f i) 1 0 + count_below f i
unfolding count_below
count_more f i = rw (add-one i) (go (f i))
  where
    go : (b : Bool) → choose b (suc (count_below f i)) (count_below f i) ≡ choose b 1 0 + count_below f i
    go true = omega arith
    go false = omega arith

-- Tests that agree below n hold of as many numbers below it.
pub count_like : (f g : ℕ → Bool) (n : ℕ) → ((i : ℕ) → i < n → f i ≡ g i) → count_below f n ≡ count_below g n
unfolding count_below
count_like f g zero e = refl
count_like f g (suc n) e = rw (e n (omega arith), count_like f g n (λ i lt. e i (omega arith))) refl

-- m numbers below n, each of which stands there once, hit m of those below n.
pub count_each : (c : ℕ → ℕ) (m n : ℕ) → ((j : ℕ) → j < m → c j < n) → ((i : ℕ) → count_below (λ j. eqb (c j) i) m ≤ 1) → count_below (λ i. any_below (λ j. eqb (c j) i) m) n ≡ m
unfolding any_below
count_each c zero n low once = count_none (λ i. false) n (λ i lt. refl)
count_each c (suc m) n low once =
    let more : (i : ℕ) → count_below (λ j. eqb (c j) i) (suc m) ≡ choose (eqb (c m) i) 1 0 + count_below (λ j. eqb (c j) i) m = λ i. rw (← add-one m) (count_more (λ j. eqb (c j) i) m) in
    let rest = count_each c m n (λ j lt. low j (omega arith)) (λ i. omega (arith, once i, more i)) in
    let here : eqb (c m) (c m) ≡ true = eq-eqb (c m) (c m) refl in
    let none_before : count_below (λ j. eqb (c j) (c m)) m ≡ 0 = omega (arith, once (c m), rw here at (more (c m))) in
    let unhit : any_below (λ j. eqb (c j) (c m)) m ≡ false = no_below (λ j. eqb (c j) (c m)) m (λ j lt. count_zero (λ j. eqb (c j) (c m)) m j none_before lt) in
    let one = count_upd (λ i. any_below (λ j. eqb (c j) i) m) (λ i. any_below (λ j. eqb (c j) i) m || eqb (c m) i) n (c m) (low m (omega arith))
    (λ j ne. rw (by_test (eqb (c m) j) (λ e. not_both (eqb j (c m)) (eq-eqb j (c m) (sym (eqb-true (c m) j e))) ne)) (or_none _)) in
    omega (arith, rest, rw (unhit, here) at one)

pub missed : (c : ℕ → ℕ) (m n : ℕ) → m < n → (i : ℕ) × (i < n) × ((j : ℕ) → j < m → eqb (c j) i ≡ false)
missed c m n lt =
    let z = count_short (λ i. any_below (λ j. eqb (c j) i) m) n (omega (arith, count_hit c m n)) in
    (z.0, z.1, λ j lt. none_below (λ j. eqb (c j) z.0) m j z.2 lt)
