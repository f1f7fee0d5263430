-- What a call and a making for words of any kind are, from what is known of the kind word, of the kind's number or of the words' length.
-- Assumes nothing.
use Rattle.std.specs.Prelude.{ℕ, ◌≡◌, ◌≢◌, length}
use Rattle.std.proofs.Math.Path.{refl}
use Rattle.std.proofs.Common.{sym, ◌∙◌, ne_eqb}
use Rattle.std.specs.Prelude.{Option, Some as some, None as none}
use Rattle.calls.specs.declared.Call.{Call}
use Rattle.calls.specs.declared.Reply.TheVariants.{Refused}
use Rattle.calls.specs.Numbers.{kind_new, kind_old, kind_rest, damaged_number}
use Rattle.layout.specs.Layout.{words_length, kind_word}
use Rattle.statement.specs.Machine.{State, outcome, Given}
use Rattle.publication_law.specs.Table.{step, making}
use Rattle.publication_law.proofs.TableLaws.{making_leaves}
use Rattle.publication_law.proofs.Calls.{step_damaged, damaged_head}
use Rattle.grace_version_law.specs.Steps as new-store
use Rattle.two_phase_law.specs.Steps as old-store
use Rattle.qsbr_law.specs.Steps as rest-store
use Rattle.kinds_law.specs.declared.Kind.{Kind}
use Rattle.kinds_law.specs.Kinds.{table_of, kind_number, kind_of_number, step_of, any_step, making_of, any_making}
use Rattle.kinds_law.specs.declared.Kind.TheVariants.{New as new, Old as old, Rest as rest}

-- A kind's number names it, and it is the number in the kind's own damage test.
pub number_named : (kind : Kind) → kind_of_number (kind_number kind) ≡ some kind
unfolding kind_of_number
number_named new = refl
number_named old = refl
number_named rest = refl

pub number_is : (kind : Kind) → (table_of kind).damage.number ≡ kind_number kind
number_is new = refl
number_is old = refl
number_is rest = refl

-- No other number names a kind.
pub named_none : (n : ℕ) → n ≢ kind_new → n ≢ kind_old → n ≢ kind_rest → kind_of_number n ≡ none
unfolding kind_of_number
named_none n not_new not-old not-rest = rw (ne_eqb n kind_new not_new, ne_eqb n kind_old not-old, ne_eqb n kind_rest not-rest) refl

-- Words of a known kind: that kind's own step.
pub step_named : (kind : Kind) (s : State) (c : Call) → kind_word s.words ≡ kind_number kind → any_step s c ≡ step (table_of kind) s c
unfolding any_step
step_named kind s c e = rw (e, number_named kind) refl

-- The same by the number that was read as kind word; a number of no kind: 1.
module _ (s : State) (c : Call) {n : ℕ} (read : n ≡ kind_word s.words) where
  pub step_new : n ≡ kind_new → step new-store.rules s c ≡ any_step s c
  step_new e = sym (step_named new s c (sym read ∙ e))

  pub step_old : n ≡ kind_old → step old-store.rules s c ≡ any_step s c
  step_old e = sym (step_named old s c (sym read ∙ e))

  pub step_rest : n ≡ kind_rest → step rest-store.rules s c ≡ any_step s c
  step_rest e = sym (step_named rest s c (sym read ∙ e))

  pub step_unknown : n ≢ kind_new → n ≢ kind_old → n ≢ kind_rest → outcome (Refused damaged_number) s ≡ any_step s c
  unfolding any_step
  step_unknown not_new not-old not-rest = rw (← read, named_none n not_new not-old not-rest) refl

-- Words of another length: 1, whatever the kind word says.
pub step_length : (s : State) (c : Call) → length s.words ≢ words_length → outcome (Refused damaged_number) s ≡ any_step s c
unfolding any_step
step_length s c ne = go (kind_of_number (kind_word s.words))
  where
    go : (chosen : Option Kind) → outcome (Refused damaged_number) s ≡ step_of chosen s c
    go none = refl
    go (some kind) = step_damaged (table_of kind) s c (damaged_head (table_of kind) s (rw (ne_eqb (length s.words) words_length ne) refl))

-- Making a known kind is that kind's own, and making another gets 1.
pub making_named : (kind : Kind) (z : Given) (s : State) → any_making (kind_number kind) z s ≡ making (table_of kind) z s
unfolding any_making
making_named kind z s = rw (number_named kind) refl

pub making_new : (n : ℕ) (z : Given) (s : State) → n ≡ kind_new → making new-store.rules z s ≡ any_making n z s
making_new n z s e = rw e (sym (making_named new z s))

pub making_old : (n : ℕ) (z : Given) (s : State) → n ≡ kind_old → making old-store.rules z s ≡ any_making n z s
making_old n z s e = rw e (sym (making_named old z s))

pub making_rest : (n : ℕ) (z : Given) (s : State) → n ≡ kind_rest → making rest-store.rules z s ≡ any_making n z s
making_rest n z s e = rw e (sym (making_named rest z s))

pub making_unknown : (n : ℕ) (z : Given) (s : State) → n ≢ kind_new → n ≢ kind_old → n ≢ kind_rest → outcome (Refused damaged_number) s ≡ any_making n z s
unfolding any_making
making_unknown n z s not_new not-old not-rest = rw (named_none n not_new not-old not-rest) refl

-- A refused making leaves words and entries as they were lent, of whatever kind.
pub any_making_leaves : (number : ℕ) (z : Given) (s : State) (n : ℕ) → (any_making number z s).reply ≡ Refused n → (any_making number z s).after ≡ s
unfolding any_making
any_making_leaves number z s n = go (kind_of_number number)
  where
    go : (chosen : Option Kind) → (making_of chosen z s).reply ≡ Refused n → (making_of chosen z s).after ≡ s
    go none e = refl
    go (some kind) e = making_leaves (table_of kind) z s n e
