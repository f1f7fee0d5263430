-- Laws of the entries by slot and number. Assumes nothing.
use Rattle.std.specs.Prelude.{ℕ, ◌<◌, ◌≡◌, refl, Bool, true, false, List, ℤ, set, length, ltb, eqb}
use Rattle.std.proofs.Common.{arith, get_or-set_same, get_or-set_other, eqb-true, ltb-true, ltb-false}
use Rattle.std.proofs.Math.Path.{fun_ext}
use Rattle.std.proofs.lemmas.Bool.{eqb-false}
use Rattle.base.specs.Base.{upd}
use Rattle.calls.specs.Numbers.{table_length}
use Rattle.layout.specs.Layout.{entry_at, slot_entry}

-- One entry stored.
pub set_entry : (es : List ℤ) (slot k : ℕ) (v : ℤ) → k < table_length → entry_at slot k < length es
    → slot_entry (set es (entry_at slot k) v) ≡ upd (slot_entry es) slot (upd (slot_entry es slot) k v)
set_entry es slot k v k32 lt = fun_ext (λ slot'. fun_ext (λ k'. go slot' k' (ltb k' table_length) refl (eqb slot' slot) refl (eqb k' k) refl))
  where
    go : (slot' k' : ℕ) (a : Bool) → ltb k' table_length ≡ a → (b : Bool) → eqb slot' slot ≡ b → (c : Bool) → eqb k' k ≡ c
        → slot_entry (set es (entry_at slot k) v) slot' k' ≡ upd (slot_entry es) slot (upd (slot_entry es slot) k v) slot' k'
    go slot' k' true d true e true f =
        let same : entry_at slot' k' ≡ entry_at slot k = omega (arith, eqb-true slot' slot e, eqb-true k' k f) in
        rw (e, f, d, same) (get_or-set_same es (entry_at slot k) v _ lt)
    go slot' k' true d true e false f = rw (e, f, d, eqb-true slot' slot e) (get_or-set_other es (entry_at slot k) (entry_at slot k') v _ (λ z. eqb-false k' k f (omega arith)))
    go slot' k' true d false e c f =
        let j32 : k' < table_length = ltb-true k' table_length d in
        rw (e, d) (get_or-set_other es (entry_at slot k) (entry_at slot' k') v _ (λ z. eqb-false slot' slot e (omega arith)))
    go slot' k' false d true e true f = absurd (omega (arith, ltb-false k' table_length d, eqb-true k' k f))
    go slot' k' false d true e false f = rw (e, f, d) refl
    go slot' k' false d false e c f = rw (e, d) refl
