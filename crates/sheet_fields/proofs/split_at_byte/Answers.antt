-- The parts before and after the byte, or all and nothing. Assumes nothing.
use Rattle.std.specs.Prelude.{◌≡◌, ◌==◌, ℕ}
use Rattle.std.specs.List.{position}
use Rattle.std.proofs.Common.{rules, tests, sym, ◌∙◌}
use Rattle.std.proofs.lemmas.Iterator.{YieldsList-from_slice}
use Rattle.std.proofs.lemmas.Iterator.Search.{position_from_yields_List}
use Rattle.sheet_law.proofs.Widths.{tail}
use Rattle.sheet_fields.proofs.Bytes.{cut_at, no_cut}
use Rattle.sheet_fields.proofs.split_at_byte.Goals as goal

-- at the byte
pub returns-in-Some : goal.returns-in-Some
returns-in-Some c =
    let s = c.args.s.now in
    let is_b = λ (x : ℕ). x == c.args.b in
    let found : c.position.result ≡ position is_b s = position_from_yields_List is_b _ _ _ c.position.ensures.ran (YieldsList-from_slice s cc) (λ x b q k. search (rules, tests)) in
    let parts = cut_at is_b s c.in-Some.i (sym found ∙ c.in-Some.is) in
    record { before = parts.0; after = tail _ s ∙ parts.1 }

-- no such byte
pub returns-in-None : goal.returns-in-None
returns-in-None c =
    let s = c.args.s.now in
    let is_b = λ (x : ℕ). x == c.args.b in
    let found : c.position.result ≡ position is_b s = position_from_yields_List is_b _ _ _ c.position.ensures.ran (YieldsList-from_slice s cc) (λ x b q k. search (rules, tests)) in
    let parts = no_cut is_b s (sym found ∙ c.in-None.is) in
    record { before = parts.0; after = parts.1 }
