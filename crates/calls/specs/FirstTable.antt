-- The table that a store starts with: what is wrong with one, and the entries of a store in which every slot has it.
use Rattle.std.specs.Prelude.{ℕ, zero, suc, ◌+◌, ◌-◌, Bool, ◌||◌, List, [], ◌++◌, ℤ, pos, ◌-ℤ◌, get_or, length}
use Rattle.std.specs.Int.Signed.{lt_z}
use Rattle.base.specs.Rows.{any_below}
use Rattle.calls.specs.Numbers.{pitch_low, pitch_high, step_max}

-- A pitch out of range.
abbrev pub out_of_range : ℤ → Bool
out_of_range v = lt_z v pitch_low || lt_z pitch_high v

-- Entry k of a table.
abbrev pub entry_of : List ℤ → ℕ → ℤ
entry_of l k = get_or l k (pos 0)

-- 41 an entry is out of range.
abbrev pub any_out_of_range : List ℤ → Bool
any_out_of_range l = any_below (λ k. out_of_range (entry_of l k)) (length l)

-- 42 two neighbours, entries k and k + 1, differ by more than step_max.
abbrev pub steep : ℤ → ℤ → Bool
steep v v' = lt_z step_max (v -ℤ v') || lt_z step_max (v' -ℤ v)

abbrev pub any_steep : List ℤ → Bool
any_steep l = any_below (λ k. steep (entry_of l k) (entry_of l (k + 1))) (length l - 1)

-- The entries of n slots that all have one table.
unfoldable pub tables : ℕ → List ℤ → List ℤ
tables zero l = []
tables (suc n) l = l ++ tables n l
