-- Texts that are put one after another. Assumes nothing.
use Prim.Native.Nat.{ℕ, ◌+◌, ◌≤◌}
use native.Mathlib.Omega.{arith}
use mathlib.Core.Path.{◌≡◌, ap, ◌∙◌}
use mathlib.Core.List.{List, ◌++◌, append_assoc}
use lib.ListN.{take, length-append}
use Rattle.sheet_printing.specs.Buffer.{Added, behind}

-- A text, and a text after it; the buffer before, between and after.
module _ {n m : ℕ} {one other before between after : List ℕ} {from mid to : ℕ} where
  pub then : Added n one before from between mid → Added m other between mid after to → Added (n + m) (one ++ other) before from after to
  then p q =
      record {
        small = rw length-append (omega (arith, p.small, q.small));
        length_is = rw length-append (omega (arith, p.length_is, q.length_is));
        bytes = q.bytes ∙ ap (λ (l : List ℕ). l ++ other) p.bytes ∙ append_assoc (take from before) one other;
        rest = q.rest ∙ behind before between mid to (omega (arith, q.length_is)) p.rest;
      }

-- The same text, known by another name and by a bound that is not less.
pub known_as : {n : ℕ} (m : ℕ) {text other before after : List ℕ} {from to : ℕ} → n ≤ m → text ≡ other → Added n text before from after to → Added m other before from after to
known_as m h same put = rw (← same) (record { small = omega (arith, put.small); length_is = put.length_is; bytes = put.bytes; rest = put.rest })
