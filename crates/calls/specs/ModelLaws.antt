-- Laws of a table's entries, and of one that is appended to. Assumes nothing.
use Rattle.std.specs.Prelude.{ℕ, zero, suc, ◌<◌, ◌≡◌, refl, List, [], ◌∷◌, ◌++◌, ℤ, length}
use Rattle.std.proofs.Common.{arith, subst}
use Rattle.std.proofs.Math.Option.{some}
use Rattle.base.specs.Options.{none_some, some_same}
use Rattle.calls.specs.FirstTable.{entry_of}
use Rattle.calls.specs.Model.{entry}

pub entry_old : (draft more : List ℤ) (k : ℕ) → k < length draft → entry (draft ++ more) k ≡ entry draft k
entry_old [] more k lt = absurd (omega arith)
entry_old (v ∷ draft) more zero lt = refl
entry_old (v ∷ draft) more (suc k) lt = entry_old draft more k (omega arith)

pub entry_new : (draft : List ℤ) (v : ℤ) (k : ℕ) → length draft ≡ k → entry (draft ++ (v ∷ [])) k ≡ some v
entry_new [] v zero long = refl
entry_new [] v (suc k) long = absurd (omega arith)
entry_new (first ∷ draft) v zero long = absurd (omega arith)
entry_new (first ∷ draft) v (suc k) long = entry_new draft v k (omega arith)

-- Entry k of a table that has one.
pub entry_within : (table : List ℤ) (k : ℕ) → k < length table → entry table k ≡ some (entry_of table k)
entry_within [] k lt = absurd (omega arith)
entry_within (v ∷ table) zero lt = refl
entry_within (v ∷ table) (suc k) lt = entry_within table k (omega arith)

pub entry_is : (table : List ℤ) (k : ℕ) (v : ℤ) → entry table k ≡ some v → (k < length table) × (entry_of table k ≡ v)
entry_is [] k v e = absurd (none_some v e)
entry_is (v' ∷ table) zero v e = (omega arith, some_same v' v e)
entry_is (v' ∷ table) (suc k) v e = let found = entry_is table k v e in (omega (arith, found.0), found.1)

-- What holds of a table's entries and of v holds of the entries of the table with v appended.
pub appended_entries : (Q : ℕ → ℤ → Type 0) (draft : List ℤ) (v : ℤ) → ((k : ℕ) (v' : ℤ) → entry draft k ≡ some v' → Q k v') → ((k : ℕ) → Q k v)
    → (k : ℕ) (v' : ℤ) → entry (draft ++ (v ∷ [])) k ≡ some v' → Q k v'
appended_entries Q [] v old new zero v' e = subst (Q 0) (some_same v v' e) (new 0)
appended_entries Q [] v old new (suc k) v' e = absurd (none_some v' e)
appended_entries Q (first ∷ draft) v old new zero v' e = old 0 v' e
appended_entries Q (first ∷ draft) v old new (suc k) v' e = appended_entries (λ k. Q (suc k)) draft v (λ k. old (suc k)) (λ k. new (suc k)) k v' e
