-- P1 to P12 as one list of words of any kind, with one proof that all hold, and P1 as a card's and a run sheet's bytes beside them; each starts at its making. They are proved of each kind's own steps;
-- each begins with an accepted making, so that the store of the kind's number gives the same replies. The order of the refusals and what damages a store are shown
-- likewise, as lists of their own; where such an example is of a state put together by hand, that state has the kind's number as kind word. Assumes nothing.
use Rattle.std.specs.Prelude.{ℕ, ◌+◌, ◌≡◌, refl, List, [], ◌∷◌, ◌++◌}
use Rattle.std.proofs.Common.{arith, ◌∙◌, get_or-set_other}
use Rattle.base.specs.Rows.{any_below}
use Rattle.calls.specs.Numbers.{kind_new, kind_old, kind_rest}
use Rattle.layout.specs.declared.Publisher.{Publisher}
use Rattle.layout.specs.Layout.{readers_at, publishers_at, slots_at, current_at, version_at, releases_at, indicators_at, kind_word}
use Rattle.layout.specs.Laws.{head_reader, head_publisher, head_retirement, head_retired, fresh_head}
use Rattle.statement.specs.Machine.{State}
use Rattle.statement.specs.Examples.{Example, AllHold, all_hold_append}
use Rattle.statement.specs.Precedence.{fresh_of, with_publisher_as, with_current_as, small, looked}
use Rattle.statement.specs.DamageCases.{Change, change, changed, Case, cases_on, cases}
use Rattle.statement.specs.DamageCases.Change.{readers_to, publishers_to, slots_to, current_to, version_to, releases_to, indicator_to, entries_to, reader_to, publisher_to, retirement_to, retired_to}
use Rattle.statement.specs.DamageCases.Case.{on}
use Rattle.statement.specs.Alike.{SameAt, all_by, AllCarry, all_hold_alike}
use Rattle.publication_law.specs.Table.{making}
use Rattle.grace_version_examples.specs.Examples as new-store
use Rattle.grace_version_examples.specs.Precedence as new-order
use Rattle.grace_version_examples.specs.DamageCases as new-cases
use Rattle.two_phase_examples.specs.Examples as old-store
use Rattle.two_phase_examples.specs.Precedence as old-order
use Rattle.two_phase_examples.specs.DamageCases as old-cases
use Rattle.qsbr_examples.specs.Examples as rest-store
use Rattle.qsbr_examples.specs.Precedence as rest-order
use Rattle.qsbr_examples.specs.DamageCases as rest-cases
use Rattle.qsbr_examples.specs.Carried as carried
use Rattle.kinds_law.specs.declared.Kind.{Kind}
use Rattle.kinds_law.specs.Kinds.{kind_number, store}
use Rattle.kinds_law.specs.declared.Kind.TheVariants.{New as new, Old as old, Rest as rest}
use Rattle.kinds_law.proofs.Calls.{step_named}
use Rattle.sheet_law.specs.Example.{P1_sheet, P1_printed}
use Rattle.card_law.specs.Card.{sheet_on}
use Rattle.card_law.specs.CardSheet.{P1_card}
use Rattle.card_law.proofs.CardSheet.{p1_from_bytes}
use Rattle.guarantees.specs.ByKind.{store_of, alike}

-- P1 to P4, P6 to P12 of the new store; P5, P6 and P9 to P11 of the old; of each one whole publication and what ENTER loads; the order of a new walk's readers; and the examples of rest.
abbrev pub examples : List Example
examples = all_by (store kind_new) new-store.examples ++ (all_by (store kind_old) old-store.examples ++ all_by (store kind_rest) rest-store.examples)

new_begin : AllCarry (store_of new) (store kind_new) new-store.examples
unfolding new-store.examples
new_begin = ((refl, refl), ((refl, refl), ((refl, refl), ((refl, refl), (refl, ((refl, refl), ((refl, refl), ((refl, refl), ((refl, refl), ((refl, refl), ((refl, refl), ((refl, refl), ((refl, refl), ((refl, refl), ((refl, refl), tt)))))))))))))))

old_begin : AllCarry (store_of old) (store kind_old) old-store.examples
unfolding old-store.examples
old_begin = ((refl, refl), (refl, ((refl, refl), ((refl, refl), ((refl, refl), ((refl, refl), ((refl, refl), ((refl, refl), tt))))))))

-- Words with the number of rest have its steps.
rest_named : (s : State) → kind_word s.words ≡ kind_rest → SameAt (store_of rest) (store kind_rest) s
rest_named s e c = step_named rest s c e

replies : AllHold examples
replies = all_hold_append (all_by (store kind_new) new-store.examples) (all_by (store kind_old) old-store.examples ++ all_by (store kind_rest) rest-store.examples)
    (all_hold_alike (store_of new) (store kind_new) (alike new) new-store.examples new_begin new-store.bench)
    (all_hold_append (all_by (store kind_old) old-store.examples) (all_by (store kind_rest) rest-store.examples)
    (all_hold_alike (store_of old) (store kind_old) (alike old) old-store.examples old_begin old-store.bench)
    (all_hold_alike (store_of rest) (store kind_rest) (alike rest) rest-store.examples (carried.examples_carry (store kind_rest) rest_named) rest-store.bench))

-- All of them hold, and the sheet of P1 with its card prints what document 01 says, byte for byte.
pub bench : AllHold examples × (sheet_on P1_card P1_sheet ≡ P1_printed)
bench = (replies, p1_from_bytes)

-- The order of the refusals.
abbrev pub in_order : List Example
in_order = all_by (store kind_new) new-order.in_order ++ (all_by (store kind_old) old-order.in_order ++ all_by (store kind_rest) rest-order.in_order)

-- The kind word of a fresh store; a state put together from one by hand has it too, and so its kind's own steps.
new_kind : kind_word (fresh_of (store_of new) small).words ≡ kind_number new
unfolding any_below making
new_kind = fresh_head kind_new 1 1 2 0 _ 0 (omega arith)

old_kind : kind_word (fresh_of (store_of old) small).words ≡ kind_number old
unfolding any_below making
old_kind = fresh_head kind_old 1 1 2 0 _ 0 (omega arith)

one_claimed_kind : kind_word (old-order.one_claimed).words ≡ kind_number old
unfolding any_below making
one_claimed_kind = head_publisher _ 0 (old-order.claimed 1) 0 (omega arith) ∙ fresh_head kind_old 1 3 4 0 _ 0 (omega arith)

module _ (kind : Kind) (s : State) (e : kind_word s.words ≡ kind_number kind) where
  put_publisher_lem : (p : ℕ) (y : Publisher) → SameAt (store_of kind) (store (kind_number kind)) (with_publisher_as s p y)
  put_publisher_lem p y c = step_named kind (with_publisher_as s p y) c (head_publisher s.words p y 0 (omega arith) ∙ e)

  put_current : (slot : ℕ) → SameAt (store_of kind) (store (kind_number kind)) (with_current_as s slot)
  put_current slot c = step_named kind (with_current_as s slot) c (get_or-set_other s.words current_at 0 slot 0 (λ same. omega arith) ∙ e)

new_in_order : AllCarry (store_of new) (store kind_new) new-order.in_order
unfolding new-order.in_order
new_in_order =
    let s = fresh_of (store_of new) small in
    ((refl, refl), (refl, (refl, (refl, (refl, (refl, (refl, (refl, (refl, (refl, (refl, (refl, (refl, (refl, (refl, (refl, (refl, (refl, (refl, (refl, (refl, (refl, (refl, (refl, (refl, (refl, (refl, (refl, ((refl, put_current new s new_kind 2), ((refl, refl), ((refl, put_publisher_lem new s new_kind 0 (looked 38 18446744073709551615)), ((refl, put_publisher_lem new s new_kind 0 (looked 37 18446744073709551615)), ((refl, put_publisher_lem new s new_kind 0 (looked 37 18446744073709551614)), ((refl, refl), ((refl, refl), ((refl, refl), ((refl, refl), ((refl, refl), ((refl, refl), tt)))))))))))))))))))))))))))))))))))))))

old_in_order : AllCarry (store_of old) (store kind_old) old-order.in_order
unfolding old-order.in_order
old_in_order =
    let s = fresh_of (store_of old) small in
    ((refl, refl), ((refl, put_publisher_lem old old-order.one_claimed one_claimed_kind 1 (old-order.claimed 2)), (refl, (refl, (refl, (refl, (refl, (refl, (refl, (refl, (refl, (refl, (refl, (refl, (refl, (refl, (refl, (refl, (refl, (refl, (refl, (refl, (refl, (refl, (refl, (refl, (refl, (refl, (refl, ((refl, put_current old s old_kind 2), ((refl, refl), ((refl, put_publisher_lem old s old_kind 0 (looked 38 18446744073709551615)), ((refl, put_publisher_lem old s old_kind 0 (looked 37 18446744073709551615)), ((refl, put_publisher_lem old s old_kind 0 (looked 37 18446744073709551614)), ((refl, refl), ((refl, refl), ((refl, refl), ((refl, refl), ((refl, refl), ((refl, refl), tt))))))))))))))))))))))))))))))))))))))))

pub precedence : AllHold in_order
precedence = all_hold_append (all_by (store kind_new) new-order.in_order) (all_by (store kind_old) old-order.in_order ++ all_by (store kind_rest) rest-order.in_order)
    (all_hold_alike (store_of new) (store kind_new) (alike new) new-order.in_order new_in_order new-order.precedence)
    (all_hold_append (all_by (store kind_old) old-order.in_order) (all_by (store kind_rest) rest-order.in_order)
    (all_hold_alike (store_of old) (store kind_old) (alike old) old-order.in_order old_in_order old-order.precedence)
    (all_hold_alike (store_of rest) (store kind_rest) (alike rest) rest-order.in_order (carried.in_order_carry (store kind_rest) rest_named) rest-order.precedence))

-- What damages a store, clause by clause.
abbrev pub clause_examples : List Example
clause_examples = all_by (store kind_new) (cases (store_of new) new-cases.clauses) ++ (all_by (store kind_old) (cases (store_of old) old-cases.clauses) ++ all_by (store kind_rest) (cases (store_of rest) rest-cases.clauses))

-- No change by hand is one of the kind word.
change_kind : (d : Change) (s : State) → kind_word (change d s).words ≡ kind_word s.words
change_kind (readers_to n) s = get_or-set_other s.words readers_at 0 n 0 (λ same. omega arith)
change_kind (publishers_to n) s = get_or-set_other s.words publishers_at 0 n 0 (λ same. omega arith)
change_kind (slots_to n) s = get_or-set_other s.words slots_at 0 n 0 (λ same. omega arith)
change_kind (current_to n) s = get_or-set_other s.words current_at 0 n 0 (λ same. omega arith)
change_kind (version_to n) s = get_or-set_other s.words version_at 0 n 0 (λ same. omega arith)
change_kind (releases_to n) s = get_or-set_other s.words releases_at 0 n 0 (λ same. omega arith)
change_kind (indicator_to i n) s = get_or-set_other s.words (indicators_at + i) 0 n 0 (λ same. omega arith)
change_kind (entries_to n) s = refl
change_kind (reader_to r reader) s = head_reader s.words r reader 0 (omega arith)
change_kind (publisher_to p y) s = head_publisher s.words p y 0 (omega arith)
change_kind (retirement_to p t) s = head_retirement s.words p t 0 (omega arith)
change_kind (retired_to p i d) s = head_retired s.words p i d 0 (omega arith)

changed_kind : (ds : List Change) (s : State) → kind_word (changed ds s).words ≡ kind_word s.words
changed_kind [] s = refl
changed_kind (d ∷ ds) s = changed_kind ds (change d s) ∙ change_kind d s

cases_carry : (kind : Kind) (s : State) → kind_word s.words ≡ kind_number kind → (list : List Case) → AllCarry (store_of kind) (store (kind_number kind)) (cases_on (store_of kind) s list)
cases_carry kind s e [] = tt
cases_carry kind s e (on ds c a ∷ list) = ((refl, λ call. step_named kind (changed ds s) call (changed_kind ds s ∙ e)), cases_carry kind s e list)

pub damage_cases : AllHold clause_examples
damage_cases = all_hold_append (all_by (store kind_new) (cases (store_of new) new-cases.clauses)) (all_by (store kind_old) (cases (store_of old) old-cases.clauses) ++ all_by (store kind_rest) (cases (store_of rest) rest-cases.clauses))
    (all_hold_alike (store_of new) (store kind_new) (alike new) (cases (store_of new) new-cases.clauses) (cases_carry new (fresh_of (store_of new) small) new_kind new-cases.clauses) new-cases.damage_cases)
    (all_hold_append (all_by (store kind_old) (cases (store_of old) old-cases.clauses)) (all_by (store kind_rest) (cases (store_of rest) rest-cases.clauses))
    (all_hold_alike (store_of old) (store kind_old) (alike old) (cases (store_of old) old-cases.clauses) (cases_carry old (fresh_of (store_of old) small) old_kind old-cases.clauses) old-cases.damage_cases)
    (all_hold_alike (store_of rest) (store kind_rest) (alike rest) (cases (store_of rest) rest-cases.clauses) (cases_carry rest (fresh_of (store_of rest) small) carried.small_kind rest-cases.clauses) rest-cases.damage_cases))
