-- A line in brackets, as a pattern of the code takes it. Assumes nothing.
use Rattle.std.specs.Prelude.{ℕ, ◌-◌, ◌≤◌, ◌≡◌, List, length, get_or, take, drop, Option}
use Rattle.std.proofs.Common.{arith, ap, lt-ltb, le-ltb, eq-eqb}
use Rattle.sheet_law.specs.declared.Command.{Command}
use Rattle.sheet_law.specs.Text.{open_bracket, close_bracket}
use Rattle.sheet_law.specs.Reading.{line_max, up_to_space, after_space, if_read, keyword, command, inner, line_of}

-- what stands between the brackets
abbrev pub between : List ℕ → List ℕ
between l = take (length l - 1 - 1) (drop 1 l)

between_is : (l : List ℕ) → inner l ≡ between l
between_is l = ap (λ (n : ℕ). take n (drop 1 l)) (let e : length l - 2 ≡ length l - 1 - 1 = omega arith in e)

abbrev read_of : List ℕ → Option Command
read_of part = if_read (keyword (up_to_space part)) (λ word. command word (after_space part))

pub line_whole : (l : List ℕ) → length l ≤ line_max → 2 ≤ length l → get_or l 0 0 ≡ open_bracket → get_or l (length l - 1) 0 ≡ close_bracket → line_of l ≡ read_of (between l)
unfolding line_of
line_whole l short more o h = rw (le-ltb line_max (length l) short, lt-ltb 1 (length l) (omega arith), eq-eqb (get_or l 0 0) open_bracket o, eq-eqb (get_or l (length l - 1) 0) close_bracket h) (ap read_of (between_is l))
