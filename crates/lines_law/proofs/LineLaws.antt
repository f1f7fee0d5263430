-- However a text is cut into reads, a reader of lines prints what it prints for the whole text, if the first bytes of a line tell what the line is. Assumes nothing.
use Rattle.std.specs.Prelude.{ℕ, suc, ◌≤◌, ◌≡◌, Bool, ltb, length, take}
use Rattle.std.proofs.Common.{arith, ◌∙◌, length-append, length-take, take_all, ltb-true, ltb-false}
use Rattle.std.proofs.Math.Path.{refl, sym, ap}
use Rattle.std.proofs.Math.Bool.{true, false}
use mathlib.Core.List.{List, [], ◌∷◌, ◌++◌, flatten, append_assoc}
use Rattle.std.proofs.Math.Dec.{eqb}
use Rattle.std.proofs.lemmas.List.{take-append-le}
use Rattle.base.specs.RowLaws.{choose_split}
use Rattle.lines_law.specs.Lines.{newline_byte, lines_from, lines_of, LineReader, printed_for, Midway, midway, joined, byte, said_at, fed, printed, ending}

module _ (L : LineReader) where
  -- Two texts after each other.
  pub fed_append : (d : Midway L.Kept) (t u : List ℕ) → fed L d (t ++ u) ≡ fed L (fed L d t) u
  unfolding fed
  fed_append d [] u = refl
  fed_append d (b ∷ t) u = fed_append (byte L d b) t u

  pub printed_append : (d : Midway L.Kept) (t u : List ℕ) → printed L d (t ++ u) ≡ printed L d t ++ printed L (fed L d t) u
  unfolding fed printed
  printed_append d [] u = refl
  printed_append d (b ∷ t) u =
      ap (λ (l : List ℕ). said_at L d b ++ l) (printed_append (byte L d b) t u)
      ∙ sym (append_assoc (said_at L d b) (printed L (byte L d b) t) (printed L (fed L (byte L d b) t) u))

  -- What is kept of a line.
  abbrev pub first : List ℕ → List ℕ
  first l = take (suc L.longest) l

  -- A line is told by what is kept of it.
  pub record ToldByFirst : Type 0 where
    pub after_told : (kept : L.Kept) (l : List ℕ) → L.after kept (first l) ≡ L.after kept l
    pub says_told : (kept : L.Kept) (l : List ℕ) → L.says kept (first l) ≡ L.says kept l

  first_joined : (begun : List ℕ) (b : ℕ) → joined L (first begun) b ≡ first (begun ++ (b ∷ []))
  first_joined begun b = choose_split (λ (l : List ℕ). l ≡ first (begun ++ (b ∷ []))) (ltb L.longest (length (first begun)))
      (λ e. sym (take-append-le (suc L.longest) begun (b ∷ []) (omega (arith, ltb-true L.longest (length (first begun)) e, length-take (suc L.longest) begun))))
      (λ e. let short : length begun ≤ L.longest = omega (arith, ltb-false L.longest (length (first begun)) e, length-take (suc L.longest) begun) in
      ap (λ (l : List ℕ). l ++ (b ∷ [])) (take_all (suc L.longest) begun (omega arith)) ∙ sym (take_all (suc L.longest) (begun ++ (b ∷ [])) (omega (arith, length-append begun (b ∷ [])))))

  -- All that is printed for the rest of the input.
  abbrev pub printed_to_end : Midway L.Kept → List ℕ → List ℕ
  printed_to_end d t = printed L d t ++ printed L (fed L d t) (ending (fed L d t).begun)

  module _ (told : ToldByFirst) where
    -- The next byte ends the line or joins it.
    next_byte : (b : ℕ) (t begun : List ℕ) (kept : L.Kept) → printed_to_end (midway [] (L.after kept begun)) t ≡ printed_for L (L.after kept begun) (lines_from [] t)
        → printed_to_end (midway (first (begun ++ (b ∷ []))) kept) t ≡ printed_for L kept (lines_from (begun ++ (b ∷ [])) t)
        → said_at L (midway (first begun) kept) b ++ printed_to_end (byte L (midway (first begun) kept) b) t ≡ printed_for L kept (lines_from begun (b ∷ t))
    unfolding printed_for lines_from
    next_byte b t begun kept ends joins = go (eqb b newline_byte) refl
      where
        go : (n : Bool) → eqb b newline_byte ≡ n → said_at L (midway (first begun) kept) b ++ printed_to_end (byte L (midway (first begun) kept) b) t ≡ printed_for L kept (lines_from begun (b ∷ t))
        go true e = rw (e, told.says_told kept begun, told.after_told kept begun, ends) refl
        go false e = rw (e, first_joined begun b) joins

    pub from_midway : (t begun : List ℕ) (kept : L.Kept) → printed_to_end (midway (first begun) kept) t ≡ printed_for L kept (lines_from begun t)
    unfolding fed printed printed_for lines_from
    from_midway [] [] kept = refl
    from_midway [] (b ∷ begun) kept = rw (told.says_told kept (b ∷ begun)) refl
    from_midway (b ∷ t) begun kept =
        append_assoc (said_at L (midway (first begun) kept) b) _ _
        ∙ next_byte b t begun kept (from_midway t [] (L.after kept begun)) (from_midway t (begun ++ (b ∷ [])) kept)

    -- Read byte by byte, a text gets what its lines get.
    pub fed_whole : (kept : L.Kept) (t : List ℕ) → printed L (midway [] kept) (t ++ ending (fed L (midway [] kept) t).begun) ≡ printed_for L kept (lines_of t)
    fed_whole kept t = printed_append (midway [] kept) t (ending (fed L (midway [] kept) t).begun) ∙ from_midway t [] kept

  -- Read by read, each from where the one before left off; at the end of the input the line that was begun, if any, is the last line.
  abbrev pub printed_reads : Midway L.Kept → List (List ℕ) → List ℕ
  printed_reads d [] = printed L d (ending d.begun)
  printed_reads d (r ∷ rs) = printed L d r ++ printed_reads (fed L d r) rs

  reads_from : (d : Midway L.Kept) (rs : List (List ℕ)) → printed_reads d rs ≡ printed_to_end d (flatten rs)
  unfolding flatten fed printed
  reads_from d [] = refl
  reads_from d (r ∷ rs) =
      rw (reads_from (fed L d r) rs, printed_append d r (flatten rs), fed_append d r (flatten rs))
      (sym (append_assoc (printed L d r) (printed L (fed L d r) (flatten rs)) (printed L (fed L (fed L d r) (flatten rs)) (ending (fed L (fed L d r) (flatten rs)).begun))))

  -- However the input is cut into reads, what is printed is that for its lines.
  pub reads_join : ToldByFirst → (kept : L.Kept) (rs : List (List ℕ)) → printed_reads (midway [] kept) rs ≡ printed_for L kept (lines_of (flatten rs))
  reads_join told kept rs = reads_from (midway [] kept) rs ∙ from_midway told (flatten rs) [] kept
