-- What a step that is decided by rows does: the refused case, once for every call. Assumes nothing.
use Rattle.std.specs.Prelude.{ℕ, ◌≡◌, refl, ◌≢◌, true, List, eqb}
use Rattle.std.proofs.Common.{◌∙◌, eqb-true}
use Rattle.std.proofs.lemmas.Bool.{eqb-false}
use Rattle.base.specs.Rows.{Test, first_of}
use Rattle.base.specs.RowLaws.{AllClear, all_above, clear, none_applies, not_both, choose_split}
use Rattle.calls.specs.declared.Reply.TheVariants.{Raised, Shared, Refused}
use Rattle.calls.specs.Numbers.{place_raised}
use Rattle.calls.specs.Events.{accepted}
use Rattle.layout.specs.Layout.{version, with_version, with_publisher}
use Rattle.layout.specs.Records.{◌at_place◌}
use Rattle.statement.specs.Machine.{State, state, Outcome, outcome}
use Rattle.publication_law.specs.Steps.{Versions, publisher, put_publisher, raise, decide}

-- Accepted, with no row that applies; or refused, with the state as it was.
pub decided : (Q : Outcome → Type 0) (rows : List Test) (o : Outcome) (s : State) → all_above 0 rows ≡ true
    → (AllClear rows → Q o) → Q (outcome (Refused (first_of rows)) s) → Q (decide rows o s)
decided Q rows o s numbered f f' = choose_split Q (eqb (first_of rows) 0) (λ e. f (clear rows numbered (eqb-true (first_of rows) 0 e))) (λ e. f')

pub decide_accepts : (rows : List Test) (o : Outcome) (s : State) → AllClear rows → decide rows o s ≡ o
decide_accepts rows o s f = rw (none_applies rows f) refl

pub decide_leaves : (rows : List Test) (o : Outcome) (s : State) (n : ℕ) → accepted o.reply ≡ true → (decide rows o s).reply ≡ Refused n → (decide rows o s).after ≡ s
decide_leaves rows o s n ok = choose_split (λ (o' : Outcome). o'.reply ≡ Refused n → o'.after ≡ s) (eqb (first_of rows) 0)
    (λ _ e. absurd (not_both _ ok (rw e refl))) (λ _ _. refl)

-- The number of a refusal is the first row's that applies, and it is not 0.
pub decide_why : (rows : List Test) (o : Outcome) (s : State) (n : ℕ) → accepted o.reply ≡ true → (decide rows o s).reply ≡ Refused n → (first_of rows ≡ n) × (n ≢ 0)
decide_why rows o s n ok = choose_split (λ (o' : Outcome). o'.reply ≡ Refused n → (first_of rows ≡ n) × (n ≢ 0)) (eqb (first_of rows) 0)
    (λ _ e. absurd (not_both _ ok (rw e refl)))
    (λ d e. let is : first_of rows ≡ n = cc in (is, λ e'. eqb-false _ _ d (is ∙ e')))

-- A RAISE, by whether it raises the version or shares it.
pub raise_split : (Q : Outcome → Type 0) (vs : Versions) (s : State) (p : ℕ)
    → (version s.words ≡ vs.before_mark (publisher s p).walk.mark → Q (outcome Raised (state (with_version (with_publisher s.words p (publisher s p at_place place_raised)) (publisher s p).walk.mark) s.entries)))
    → Q (outcome Shared (put_publisher s p (publisher s p at_place place_raised))) → Q (raise vs s p)
raise_split Q vs s p f f' = choose_split Q (eqb (version s.words) (vs.before_mark (publisher s p).walk.mark)) (λ e. f (eqb-true _ _ e)) (λ _. f')
