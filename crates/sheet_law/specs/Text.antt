-- Texts as lists of bytes, and plain decimals.
use Rattle.std.specs.Prelude.{ℕ, zero, suc, ◌+◌, ◌/◌, ◌%◌, Bool, List, [], ◌∷◌, eqb}
use Prim.Native.Char.{code}
use Prim.Native.String.{String, [] as none, ◌∷◌ as ◌before◌}
use Rattle.std.specs.Str.{bytes_eq}
use Rattle.base.specs.Base.{choose}

-- The bytes of a quoted text, in ASCII.
abbrev pub text : String → List ℕ
text none = []
text (c before rest) = code c ∷ text rest

-- Bytes with a name.
abbrev pub space_byte : ℕ
space_byte = 32

abbrev pub open_bracket : ℕ
open_bracket = 40

abbrev pub close_bracket : ℕ
close_bracket = 41

abbrev pub minus_byte : ℕ
minus_byte = 45

abbrev pub digit_0 : ℕ
digit_0 = 48

abbrev pub digit_9 : ℕ
digit_9 = 57

-- Whether two texts are the same.
abbrev pub same_text : List ℕ → List ℕ → Bool
same_text l l' = bytes_eq l l'

-- The last digit of a number.
abbrev pub last_digit : ℕ → ℕ
last_digit n = digit_0 + n % 10

-- A number's digits before the text l: its last digit, and before that the digits of a tenth of the number, if there are any. Each tenth is less than the number, so the fuel lasts.
unfoldable pub digits_before : ℕ → ℕ → List ℕ → List ℕ
digits_before zero n l = l
digits_before (suc fuel) n l = choose (eqb (n / 10) 0) (last_digit n ∷ l) (digits_before fuel (n / 10) (last_digit n ∷ l))

-- A plain decimal without leading zeros.
unfoldable pub decimal : ℕ → List ℕ
decimal n = digits_before (suc n) n []
