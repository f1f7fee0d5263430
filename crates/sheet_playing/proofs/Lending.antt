-- A call on the first entries of a room is the definition's: the part that is lent is the same, and the rest is joined to it again. Assumes nothing.
use Rattle.std.specs.Prelude.{ℕ, ◌*◌, ◌≡◌, refl, ◌≢◌, Bool, true, false, List, ◌++◌, ℤ, leb, length, take, drop, min}
use Rattle.std.proofs.Common.{arith, sym, ◌∙◌, ap, drop_of_length-le, take-append-drop, leb-true, leb-false}
use Rattle.std.proofs.lemmas.List.{take_min}
use Rattle.calls.specs.declared.Call.{Call}
use Rattle.calls.specs.declared.Reply.{Reply}
use Rattle.calls.specs.declared.Reply.TheVariants.{Refused}
use Rattle.calls.specs.Numbers.{damaged_number, table_length}
use Rattle.layout.specs.Layout.{words_length, slots}
use Rattle.statement.specs.Machine.{State, state, Outcome, outcome, given}
use Rattle.kinds_law.specs.Kinds.{any_step, any_making}
use Rattle.kinds_law.proofs.Calls.{step_length}
use Rattle.sheet_law.specs.declared.Command.TheVariants.{Make, Run}
use Rattle.sheet_law.specs.Sheet.{rejoined, lent, played}

drop_min : (m : ℕ) (es : List ℤ) → drop (min m (length es)) es ≡ drop m es
drop_min m es = go (leb m (length es)) refl
  where
    go : (x : Bool) → leb m (length es) ≡ x → drop (min m (length es)) es ≡ drop m es
    go true e = let some = leb-true m (length es) e in ap (λ (k : ℕ). drop k es) (omega arith)
    go false e = let all = leb-false m (length es) e in drop_of_length-le es (omega arith) ∙ sym (drop_of_length-le es (omega arith))

-- The first n entries, where n is m or all of them.
pub lent_is : (es : List ℤ) (n m : ℕ) → n ≡ min m (length es) → (f : State → Outcome) (w v : List ℕ) (a : Reply) (p : List ℤ) → outcome a (state v p) ≡ f (state w (take n es)) → outcome a (state v (p ++ drop n es)) ≡ lent m f (state w es)
lent_is es n m h f w v a p e =
    ap (λ (o : Outcome). rejoined o (drop n es)) e
    ∙ ap (λ (k : List ℤ). rejoined (f (state w k)) (drop n es)) (ap (λ (k : ℕ). take k es) h ∙ take_min m es)
    ∙ ap (λ (k : List ℤ). rejoined (f (state w (take m es))) k) (ap (λ (k : ℕ). drop k es) h ∙ drop_min m es)

-- Words of another length: 1, and the room is as it was.
pub played_length : (table : List ℤ) (w : List ℕ) (es : List ℤ) (c : Call) → length w ≢ words_length → outcome (Refused damaged_number) (state w es) ≡ played table (state w es) (Run c)
unfolding played
played_length table w es c ne =
    ap (λ (k : List ℤ). outcome (Refused damaged_number) (state w k)) (sym (take-append-drop (slots w * table_length) es))
    ∙ ap (λ (o : Outcome). rejoined o (drop (slots w * table_length) es)) (step_length (state w (take (slots w * table_length) es)) c ne)

pub played_make : (table : List ℤ) (w : List ℕ) (es : List ℤ) (k rs ps ss v : ℕ) → lent (ss * table_length) (any_making k (given rs ps ss v table)) (state w es) ≡ played table (state w es) (Make k rs ps ss v)
unfolding played
played_make table w es k rs ps ss v = refl

pub played_run : (table : List ℤ) (w : List ℕ) (es : List ℤ) (c : Call) → lent (slots w * table_length) (λ (t : State). any_step t c) (state w es) ≡ played table (state w es) (Run c)
unfolding played
played_run table w es c = refl
