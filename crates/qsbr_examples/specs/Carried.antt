-- The lists of examples and of rows in their order are true of words of any kind too: of each machine N whose steps are the rest store's wherever the kind word is the rest store's number.
-- Each example begins with an accepted making, is a making, or is of a state put together by hand whose kind word is the fresh store's. Assumes nothing.
use Rattle.std.specs.Prelude.{ℕ, ◌≡◌, refl}
use Rattle.std.proofs.Common.{arith, ◌∙◌, get_or-set_other}
use Rattle.base.specs.Rows.{any_below}
use Rattle.calls.specs.Numbers.{kind_rest}
use Rattle.layout.specs.declared.Publisher.{Publisher}
use Rattle.layout.specs.declared.Retirement.{Retirement}
use Rattle.layout.specs.Layout.{current_at, kind_word, no_retirement}
use Rattle.layout.specs.Records.{◌step≔◌, ◌count≔◌}
use Rattle.layout.specs.Laws.{head_publisher, head_retirement, fresh_head}
use Rattle.statement.specs.Machine.{State, Machine}
use Rattle.statement.specs.Examples.{given_feathered}
use Rattle.statement.specs.Precedence.{fresh_of, with_publisher_as, with_current_as, small}
use Rattle.statement.specs.Alike.{SameAt, AllCarry}
use Rattle.publication_law.specs.Table.{making}
use Rattle.qsbr_law.specs.Steps.{Qsbr}
use Rattle.qsbr_examples.specs.Examples.{examples}
use Rattle.qsbr_examples.specs.Precedence.{with_retirement_as, inside_one, deferring, swapped_out, deferred_as, in_order}

-- The kind word of a fresh store, and of one with a participant's record put.
pub small_kind : kind_word (fresh_of Qsbr small).words ≡ kind_rest
unfolding any_below making
small_kind = fresh_head kind_rest 1 1 2 0 _ 0 (omega arith)

inside_kind : kind_word (with_retirement_as (fresh_of Qsbr small) 0 inside_one).words ≡ kind_rest
inside_kind = head_retirement _ 0 inside_one 0 (omega arith) ∙ small_kind

deferring_kind : kind_word (with_publisher_as (fresh_of Qsbr small) 0 deferring).words ≡ kind_rest
deferring_kind = head_publisher _ 0 deferring 0 (omega arith) ∙ small_kind

last_kind : kind_word (fresh_of Qsbr (given_feathered 1 1 2 18446744073709551615)).words ≡ kind_rest
unfolding any_below making
last_kind = fresh_head kind_rest 1 1 2 18446744073709551615 _ 0 (omega arith)

before_last_kind : kind_word (fresh_of Qsbr (given_feathered 1 1 2 18446744073709551614)).words ≡ kind_rest
unfolding any_below making
before_last_kind = fresh_head kind_rest 1 1 2 18446744073709551614 _ 0 (omega arith)

module _ (N : Machine) (named : (s : State) → kind_word s.words ≡ kind_rest → SameAt Qsbr N s) where
  module _ (s : State) (e : kind_word s.words ≡ kind_rest) where
    put_current : (slot : ℕ) → SameAt Qsbr N (with_current_as s slot)
    put_current slot = named (with_current_as s slot) (get_or-set_other s.words current_at 0 slot 0 (λ same. omega arith) ∙ e)

    put_publisher_lem : (p : ℕ) (y : Publisher) → SameAt Qsbr N (with_publisher_as s p y)
    put_publisher_lem p y = named (with_publisher_as s p y) (head_publisher s.words p y 0 (omega arith) ∙ e)

    put_retirement : (p : ℕ) (t : Retirement) → SameAt Qsbr N (with_retirement_as s p t)
    put_retirement p t = named (with_retirement_as s p t) (head_retirement s.words p t 0 (omega arith) ∙ e)

  put_deferred : (epoch at n : ℕ) → kind_word (fresh_of Qsbr (given_feathered 1 1 2 epoch)).words ≡ kind_rest → SameAt Qsbr N (deferred_as epoch at n)
  put_deferred epoch at n e = put_retirement _ (head_publisher _ 0 swapped_out 0 (omega arith) ∙ e) 0 (no_retirement step≔ at count≔ n)

  pub examples_carry : AllCarry Qsbr N examples
  unfolding examples
  examples_carry = ((refl, refl), ((refl, refl), ((refl, refl), ((refl, refl), ((refl, refl), ((refl, refl), ((refl, refl), ((refl, refl), ((refl, refl), ((refl, refl), ((refl, refl), ((refl, refl), ((refl, refl), ((refl, refl), ((refl, refl), ((refl, refl), (refl, ((refl, refl), ((refl, refl), ((refl, refl), ((refl, refl), (refl, (refl, (refl, (refl, (refl, tt))))))))))))))))))))))))))

  pub in_order_carry : AllCarry Qsbr N in_order
  unfolding in_order
  in_order_carry = (refl, (refl, (refl, (refl, (refl, (refl, (refl, (refl, (refl, (refl, (refl, (refl, (refl, (refl, (refl, (refl, (refl, (refl, (refl, (refl, (refl, (refl, (refl, (refl, (refl, (refl, (refl, (refl, (refl, ((refl, put_current (fresh_of Qsbr small) small_kind 2), ((refl, refl), ((refl, refl), ((refl, put_retirement (with_retirement_as (fresh_of Qsbr small) 0 inside_one) inside_kind 1 inside_one), ((refl, put_publisher_lem (with_publisher_as (fresh_of Qsbr small) 0 deferring) deferring_kind 1 deferring), ((refl, put_deferred 18446744073709551615 1 8 last_kind), ((refl, put_deferred 18446744073709551615 0 8 last_kind), ((refl, put_deferred 18446744073709551614 0 8 before_last_kind), ((refl, put_deferred 18446744073709551614 0 7 before_last_kind), ((refl, refl), ((refl, refl), ((refl, refl), ((refl, refl), ((refl, refl), ((refl, refl), tt))))))))))))))))))))))))))))))))))))))))))))
