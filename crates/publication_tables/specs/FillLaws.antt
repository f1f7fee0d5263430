-- Laws of tables that fill a store: their length, each slot's entries, and one slot more. Assumes nothing.
use Prim.Native.Nat.{ℕ, zero, suc, ◌+◌, ◌*◌, ◌<◌}
use native.Mathlib.Omega.{arith}
use Rattle.std.proofs.Common.{add-one, ◌∙◌, take-suc, take-suc-set}
use Rattle.std.specs.Prelude.{◌≡◌, ℤ, pos, set, take}
use Rattle.std.proofs.Math.Path.{refl, sym, ap}
use mathlib.Core.List.{List, [], ◌∷◌, ◌++◌, append_assoc, append-nil}
use Rattle.std.proofs.Math.ListN.{length, length-append, get_or-append}
use Rattle.std.proofs.Math.Seq.{get_or-append-add}
use Rattle.calls.specs.Numbers.{table_length}
use Rattle.calls.specs.FirstTable.{entry_of, tables}

module _ (l : List ℤ) where
  pub tables_more : (n : ℕ) → tables n l ++ l ≡ tables (suc n) l
  unfolding tables
  tables_more zero = sym (append-nil l)
  tables_more (suc n) = append_assoc l (tables n l) l ∙ ap (λ (t : List ℤ). l ++ t) (tables_more n)

  module _ (long : length l ≡ table_length) where
    pub tables_long : (n : ℕ) → length (tables n l) ≡ n * table_length
    unfolding tables
    tables_long zero = refl
    tables_long (suc n) = omega (arith, length-append l (tables n l), tables_long n)

    -- Entry k of each slot is entry k of the table.
    pub tables_entry : (n s k : ℕ) → s < n → k < table_length → entry_of (tables n l) (s * table_length + k) ≡ entry_of l k
    unfolding tables
    tables_entry zero s k less low = absurd (omega arith)
    tables_entry (suc n) zero k less low = let same : 0 * table_length + k ≡ k = omega arith in
        ap (λ (i : ℕ). entry_of (l ++ tables n l) i) same ∙ get_or-append l (tables n l) (pos 0) k (omega arith)
    tables_entry (suc n) (suc s) k less low = let same : suc s * table_length + k ≡ length l + (s * table_length + k) = omega (arith, long) in
        ap (λ (i : ℕ). entry_of (l ++ tables n l) i) same ∙ get_or-append-add l (tables n l) (s * table_length + k) (pos 0) ∙ tables_entry n s k (omega arith) low

-- One entry more of a table is copied.
pub copies : (copy l : List ℤ) (k : ℕ) → k < length copy → k < length l → take k copy ≡ take k l → take (k + 1) (set copy k (entry_of l k)) ≡ take (k + 1) l
copies copy l k room low e =
    ap (λ (n : ℕ). take n (set copy k (entry_of l k))) (add-one k)
    ∙ take-suc-set copy k (entry_of l k) room
    ∙ ap (λ (t : List ℤ). t ++ (entry_of l k ∷ [])) e
    ∙ sym (take-suc l k (pos 0) low)
    ∙ ap (λ (n : ℕ). take n l) (sym (add-one k))

-- One entry more of a table is put, and all of them.
module _ (es es₀ l : List ℤ) (base k : ℕ) where
  pub puts : base + k < length es → k < length l → take (base + k) es ≡ take base es₀ ++ take k l
      → take (base + (k + 1)) (set es (base + k) (entry_of l k)) ≡ take base es₀ ++ take (k + 1) l
  puts room low e =
      let same : base + (k + 1) ≡ suc (base + k) = omega arith in
      ap (λ (n : ℕ). take n (set es (base + k) (entry_of l k))) same
      ∙ take-suc-set es (base + k) (entry_of l k) room
      ∙ ap (λ (t : List ℤ). t ++ (entry_of l k ∷ [])) e
      ∙ append_assoc (take base es₀) (take k l) (entry_of l k ∷ [])
      ∙ ap (λ (t : List ℤ). take base es₀ ++ t) (sym (take-suc l k (pos 0) low) ∙ ap (λ (n : ℕ). take n l) (sym (add-one k)))

-- A slot more is filled: of n slots that have the table, the entries are those of n + 1.
pub fills_next : (es es₀ l : List ℤ) (n : ℕ) → take (n * table_length + table_length) es ≡ take (n * table_length) es₀ ++ l → take (n * table_length) es₀ ≡ tables n l → take ((n + 1) * table_length) es ≡ tables (n + 1) l
fills_next es es₀ l n put was =
    let same : (n + 1) * table_length ≡ n * table_length + table_length = omega arith in
    ap (λ (m : ℕ). take m es) same ∙ put ∙ ap (λ (t : List ℤ). t ++ l) was ∙ tables_more l n ∙ ap (λ (m : ℕ). tables m l) (sym (add-one n))

-- No slot is filled at first.
pub tables_none : (es l : List ℤ) → take (0 * table_length) es ≡ tables 0 l
unfolding tables
tables_none es l = refl
