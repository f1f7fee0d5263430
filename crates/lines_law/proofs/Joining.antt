-- A text and its lines: a text is its lines, each with a newline behind it; the last one's may be missing. Assumes nothing.
use Rattle.std.specs.Prelude.{ℕ, ◌≡◌, refl, ◌⊎◌, Bool, true, false, List, [], ◌∷◌, ◌++◌, eqb}
use Rattle.std.proofs.Common.{sym, ap, ◌∙◌, inl, inr, append_assoc, append-nil, ne_eqb, eqb-true}
use Rattle.lines_law.specs.Lines.{newline_byte, lines_from, lines_of}
use Rattle.lines_law.specs.Joining.{joined_lines, OneLine, OneLineEach, IsJoined}

begun_joined : (begun t : List ℕ) → IsJoined (begun ++ t) (joined_lines (lines_from begun t))
unfolding lines_from joined_lines
begun_joined [] [] = inl refl
begun_joined (b ∷ begun) [] = inr (ap (λ (l : List ℕ). l ++ (newline_byte ∷ [])) (append-nil (b ∷ begun)))
begun_joined begun (b ∷ t) = go (eqb b newline_byte) refl (begun_joined [] t) (begun_joined (begun ++ (b ∷ [])) t)
  where
    ends : b ≡ newline_byte → IsJoined t (joined_lines (lines_from [] t)) → IsJoined (begun ++ (b ∷ t)) (begun ++ (newline_byte ∷ joined_lines (lines_from [] t)))
    ends e (inl j) = inl (ap (λ (c : ℕ). begun ++ (c ∷ t)) e ∙ ap (λ (u : List ℕ). begun ++ (newline_byte ∷ u)) j)
    ends e (inr j) = inr (append_assoc begun (b ∷ t) (newline_byte ∷ []) ∙ ap (λ (c : ℕ). begun ++ (c ∷ (t ++ (newline_byte ∷ [])))) e ∙ ap (λ (u : List ℕ). begun ++ (newline_byte ∷ u)) j)

    go : (n : Bool) → eqb b newline_byte ≡ n → IsJoined t (joined_lines (lines_from [] t)) → IsJoined ((begun ++ (b ∷ [])) ++ t) (joined_lines (lines_from (begun ++ (b ∷ [])) t))
        → IsJoined (begun ++ (b ∷ t)) (joined_lines (lines_from begun (b ∷ t)))
    go true e after joins = rw e (ends (eqb-true b newline_byte e) after)
    go false e after joins = rw (e, sym (append_assoc begun (b ∷ []) t)) joins

pub is_joined : (t : List ℕ) → IsJoined t (joined_lines (lines_of t))
is_joined t = begun_joined [] t

-- Joined lines are those lines again.
first_line : (begun l t : List ℕ) → OneLine l → lines_from begun (l ++ (newline_byte ∷ t)) ≡ (begun ++ l) ∷ lines_of t
unfolding lines_from
first_line begun [] t o = ap (λ (x : List ℕ). x ∷ lines_of t) (sym (append-nil begun))
first_line begun (b ∷ l) t o = rw (ne_eqb b newline_byte o.0) (first_line (begun ++ (b ∷ [])) l t o.1 ∙ ap (λ (x : List ℕ). x ∷ lines_of t) (append_assoc begun (b ∷ []) l))

pub lines_joined : (ls : List (List ℕ)) → OneLineEach ls → lines_of (joined_lines ls) ≡ ls
unfolding lines_from joined_lines
lines_joined [] o = refl
lines_joined (l ∷ ls) o = first_line [] l (joined_lines ls) o.0 ∙ ap (λ (x : List (List ℕ)). l ∷ x) (lines_joined ls o.1)

-- One newline more at the end: the same lines, or an empty one behind them.
abbrev Ended : List ℕ → List ℕ → Type 0
Ended begun t = (lines_from begun (t ++ (newline_byte ∷ [])) ≡ lines_from begun t) ⊎ (lines_from begun (t ++ (newline_byte ∷ [])) ≡ lines_from begun t ++ ([] ∷ []))

begun_ended : (begun t : List ℕ) → Ended begun t
unfolding lines_from
begun_ended [] [] = inr refl
begun_ended (b ∷ begun) [] = inl refl
begun_ended begun (b ∷ t) = go (eqb b newline_byte) refl (begun_ended [] t) (begun_ended (begun ++ (b ∷ [])) t)
  where
    go : (n : Bool) → eqb b newline_byte ≡ n → Ended [] t → Ended (begun ++ (b ∷ [])) t → Ended begun (b ∷ t)
    go true e (inl j) joins = rw e (inl (ap (λ (ls : List (List ℕ)). begun ∷ ls) j))
    go true e (inr j) joins = rw e (inr (ap (λ (ls : List (List ℕ)). begun ∷ ls) j))
    go false e after joins = rw e joins

pub lines_ended : (t : List ℕ) → (lines_of (t ++ (newline_byte ∷ [])) ≡ lines_of t) ⊎ (lines_of (t ++ (newline_byte ∷ [])) ≡ lines_of t ++ ([] ∷ []))
lines_ended t = begun_ended [] t
