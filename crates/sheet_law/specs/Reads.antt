-- However the input is cut into reads, the output is that of the whole sheet. What is kept between two bytes is enough: of the line that was begun its first
-- 81 bytes, which tell a line over 80 bytes from every other. Assumes nothing.
use Rattle.std.specs.Prelude.{ℕ, ◌+◌, ◌<◌, ◌≡◌, refl, Bool, true, false, ltb, ℤ, length, take, None}
use Rattle.std.proofs.Common.{arith, sym, ap, ◌∙◌, length-take, take_all, lt-ltb, ltb-true, ltb-false}
use mathlib.Core.List.{List, ◌++◌, flatten}
use Rattle.lines_law.specs.Lines.{fed, printed, ending}
use Rattle.lines_law.proofs.LineLaws as lines
use Rattle.sheet_law.specs.Reading.{line_max, line_of}
use Rattle.sheet_law.specs.Sheet.{unmade, lines_played, sheet_reader, sheet, start}

-- A line over 80 bytes is unread.
pub over_80 : (l : List ℕ) → line_max < length l → line_of l ≡ None
unfolding line_of
over_80 l long = rw (lt-ltb line_max (length l) long) refl

-- Of a line that was begun at most its first 81 bytes are kept; they are read as all its bytes would be.
abbrev pub kept_max : ℕ
kept_max = line_max + 1

kept_read : (k : List ℕ) → line_of (take kept_max k) ≡ line_of k
kept_read k = go (ltb line_max (length k)) refl
  where
    go : (long : Bool) → ltb line_max (length k) ≡ long → line_of (take kept_max k) ≡ line_of k
    go true e = let l = ltb-true line_max (length k) e in over_80 (take kept_max k) (omega (arith, length-take kept_max k)) ∙ sym (over_80 k l)
    go false e = ap line_of (take_all kept_max k (omega (arith, ltb-false line_max (length k) e)))

module _ (table : List ℤ) where
  told_by_first : lines.ToldByFirst (sheet_reader table)
  told_by_first = record { after_told = λ x l. rw (kept_read l) refl; says_told = λ x l. rw (kept_read l) refl }

  -- The reading byte by byte prints what the whole sheet's definition says.
  pub by_bytes : (t : List ℕ) → printed (sheet_reader table) start (t ++ ending (fed (sheet_reader table) start t).begun) ≡ sheet table t
  unfolding sheet
  by_bytes t = lines.fed_whole (sheet_reader table) told_by_first (lines_played 0 unmade) t

  -- However the input is cut into reads, the output is that of the whole sheet.
  pub reads_join : (rs : List (List ℕ)) → lines.printed_reads (sheet_reader table) start rs ≡ sheet table (flatten rs)
  unfolding sheet
  reads_join rs = lines.reads_join (sheet_reader table) told_by_first (lines_played 0 unmade) rs
