-- The walk's facts, once over the reader count: a walk passes only readers that published its mark or more, and counts its looks. Assumes nothing.
use Prim.Native.Nat.{ℕ, zero, suc, ◌+◌, ◌<◌, ◌≤◌}
use Rattle.std.proofs.Common.{arith, sym, subst, eqb-true, leb-true, leb-false, ltb-true, ltb-false}
use Rattle.std.specs.Prelude.{◌≡◌, Bool, true, false, List, leb, ltb, eqb}
use Rattle.std.proofs.Math.Path.{refl}
use Rattle.std.proofs.lemmas.Bool.{eqb-false}
use Rattle.base.specs.Base.{choose}
use Rattle.base.specs.RowLaws.{choose_split}
use Rattle.calls.specs.declared.WalkReply.{WalkReply}
use Rattle.calls.specs.declared.WalkReply.TheVariants.{Waiting, Spent, Quiet, Returned}
use Rattle.layout.specs.declared.WalkResult.{WalkResult}
use Rattle.layout.specs.Layout.{reader_at}
use Rattle.grace_version_law.specs.Steps.{looked_at, walk_result, looks_from}
use Rattle.grace_version_law.specs.Walks.{Ends, LooksFacts}

-- A walk looks at each reader.
pub looked_at_all : (n r : ℕ) → r < n → (i : ℕ) × (i < n) × (looked_at n i ≡ r)
looked_at_all n r l = (r, l, refl)

not_below : (i j n : ℕ) → n ≤ j → ltb i j ≡ false → n ≤ i
not_below i j n l e = omega (arith, ltb-false i j e)

module _ (w : List ℕ) (n mark waits : ℕ) where
  ends_later : (start b nx lk wt : ℕ) (a : WalkReply) → Ends w n mark (start + 1) b nx lk wt a → Ends w n mark start (suc b) nx lk wt a
  ends_later start b nx lk wt (Waiting r) e = (e.0, omega (arith, e.1), e.2, e.3)
  ends_later start b nx lk wt Spent e = (e.0, omega (arith, e.1))
  ends_later start b nx lk wt Quiet e = e
  ends_later start b nx lk wt (Returned looks' waits') e = (e.0, omega (arith, e.1), e.2, e.3)

  passed_one : (b next looks : ℕ) (result : WalkResult) → mark ≤ (reader_at w (looked_at n next)).published → LooksFacts w n mark b (next + 1) (looks + 1) waits result → LooksFacts w n mark (suc b) next looks waits result
  passed_one b next looks result e facts = record {
    mark_same = facts.mark_same;
    ahead = omega (arith, facts.ahead);
    passed = λ i low high. go i high (eqb i next) refl low;
    ends = ends_later next b result.walk.next result.walk.looks result.walk.waits result.reply facts.ends;
    counted = omega (arith, facts.counted);
    waits_are = facts.waits_are;
  }
    where
      go : (i : ℕ) → i < result.walk.next → (d : Bool) → eqb i next ≡ d → next ≤ i → mark ≤ (reader_at w (looked_at n i)).published
      go i high true d low = rw (eqb-true i next d) e
      go i high false d low = facts.passed i (let ne = eqb-false i next d in omega arith) high

  -- A look that does not pass ends the walk's slice; one that passes goes on with progress.
  one_look : (waiting : Bool) (b next looks : ℕ) (result : WalkResult) → next < n → (waiting ≡ true → (reader_at w (looked_at n next)).published < mark) → (waiting ≡ false → mark ≤ (reader_at w (looked_at n next)).published)
      → LooksFacts w n mark b (next + 1) (looks + 1) waits result → LooksFacts w n mark (suc b) next looks waits (choose waiting (walk_result mark next (looks + 1) (waits + 1) (Waiting (looked_at n next))) result)
  one_look true b next looks result l d e facts = record { mark_same = refl; ahead = omega arith; passed = λ i low high. absurd (omega arith); ends = (l, omega arith, refl, d refl); counted = omega arith; waits_are = refl }
  one_look false b next looks result l d e facts = passed_one b next looks result (e refl) facts

  -- The last reader passed.
  last_passed : (b next looks : ℕ) → next < n → n ≤ next + 1 → LooksFacts w n mark b (next + 1) (looks + 1) waits (walk_result mark (next + 1) (looks + 1) waits (Returned (looks + 1) waits))
  last_passed b next looks l le = record {
    mark_same = refl;
    ahead = omega arith;
    passed = λ i low high. absurd (omega arith);
    ends = (omega arith, omega arith, refl, refl);
    counted = omega arith;
    waits_are = refl;
  }

  -- A walk keeps its mark.
  pub looks_mark : (b next looks : ℕ) → (looks_from w n mark waits b next looks).walk.mark ≡ mark
  unfolding looks_from
  looks_mark zero next looks = refl
  looks_mark (suc b) next looks = choose_split (λ (result : WalkResult). result.walk.mark ≡ mark) (ltb (reader_at w (looked_at n next)).published mark) (λ _. refl)
      (λ _. choose_split (λ (result : WalkResult). result.walk.mark ≡ mark) (leb n (next + 1)) (λ _. refl) (λ _. looks_mark b (next + 1) (looks + 1)))

  pub looks_facts : (b next looks : ℕ) → next < n → LooksFacts w n mark b next looks waits (looks_from w n mark waits b next looks)
  unfolding looks_from
  looks_facts zero next looks l = record { mark_same = refl; ahead = omega arith; passed = λ i low high. absurd (omega arith); ends = (l, omega arith); counted = refl; waits_are = refl }
  looks_facts (suc b) next looks l = one_look _ b next looks _ l (ltb-true _ _) (not_below _ _ mark (omega arith))
      (choose_split (LooksFacts w n mark b (next + 1) (looks + 1) waits) (leb n (next + 1))
      (λ d. last_passed b next looks l (leb-true n (next + 1) d))
      (λ d. looks_facts b (next + 1) (looks + 1) (leb-false n (next + 1) d)))

  -- Spent is the reply exactly if b looks all passed and next is still below the count: `Ends` is one half, this the other.
  all_spent : (b next nx lk wt : ℕ) (a : WalkReply) → Ends w n mark next b nx lk wt a → next ≤ nx → next + b < n
      → ((i : ℕ) → next ≤ i → i < next + b → mark ≤ (reader_at w (looked_at n i)).published) → a ≡ Spent
  all_spent b next nx lk wt (Waiting r) e ahead l all = absurd (omega (arith, e.3, subst (λ (r' : ℕ). mark ≤ (reader_at w r').published) (sym e.2) (all nx ahead e.1)))
  all_spent b next nx lk wt Spent e ahead l all = refl
  all_spent b next nx lk wt Quiet e ahead l all = absurd e
  all_spent b next nx lk wt (Returned looks' waits') e ahead l all = absurd (omega (arith, e.0, e.1))

  pub spent_if : (b next looks : ℕ) → next + b < n → ((i : ℕ) → next ≤ i → i < next + b → mark ≤ (reader_at w (looked_at n i)).published) → (looks_from w n mark waits b next looks).reply ≡ Spent
  spent_if b next looks l all = let facts = looks_facts b next looks (omega arith) in all_spent b next _ _ _ (looks_from w n mark waits b next looks).reply facts.ends facts.ahead l all
