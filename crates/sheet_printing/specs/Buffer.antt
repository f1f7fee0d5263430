-- What it is to put a text into a buffer, at an offset.
use Rattle.std.specs.Prelude.{ℕ, ◌+◌, ◌-◌, ◌≤◌, ◌<◌, ◌≡◌, List, ◌++◌, length, take, drop}
use Rattle.std.proofs.Common.{arith, sym, ap, ◌∙◌, drop-drop}
use Rattle.sheet_law.specs.Printing.{printed_max}

-- A text of at most n bytes is put: the buffer up to `to` is what it was up to `from`, and then the text; at `to` and behind it is what it was.
pub record Added (n : ℕ) (text before : List ℕ) (from : ℕ) (after : List ℕ) (to : ℕ) : Type 0 where
  pub small : length text ≤ n
  pub length_is : to ≡ from + length text
  pub bytes : take to after ≡ take from before ++ text
  pub rest : drop to after ≡ drop to before

-- A line is put where there is room for the longest; elsewhere nothing is written.
pub record Printed (line before : List ℕ) (from : ℕ) (after : List ℕ) (to : ℕ) : Type 0 where
  pub put : from + printed_max ≤ length before → Added printed_max line before from after to
  pub full : length before < from + printed_max → (to ≡ from) × (after ≡ before)

-- What is as it was from an offset on is so from every later offset on.
pub behind : (before after : List ℕ) (a b : ℕ) → a ≤ b → drop a after ≡ drop a before → drop b after ≡ drop b before
behind before after a b h e =
    let m : a + (b - a) ≡ b = omega arith in
    ap (λ (n : ℕ). drop n after) (sym m)
    ∙ sym (drop-drop (b - a) a after)
    ∙ ap (λ (l : List ℕ). drop (b - a) l) e
    ∙ drop-drop (b - a) a before
    ∙ ap (λ (n : ℕ). drop n before) m
