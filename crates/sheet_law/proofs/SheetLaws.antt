-- Laws of the sheet's single line: its number; which calls a kind lacks, and that such a line is unread; what a line that makes nothing leaves: an unread one,
-- a refused `store`, a call before a made store. Assumes nothing.
use Rattle.std.specs.Prelude.{ℕ, ◌+◌, ◌*◌, ◌<◌, ◌≡◌, refl, Bool, true, false, ◌||◌, ◌≢◌, List, ℤ, take, Some, None}
use Rattle.std.proofs.Common.{arith, sym, subst, take-append-drop}
use Rattle.std.proofs.Math.Dec.{eqb}
use borrow.Author.Tests.{ne_eqb, eqb-true, eqb-false}
use Rattle.base.specs.Rows.{first_of}
use Rattle.base.specs.RowLaws.{choose_split}
use Rattle.calls.specs.declared.Call.{Call}
use Rattle.calls.specs.declared.Call.TheVariants as call
use Rattle.calls.specs.declared.Reply.TheVariants.{Made, Refused}
use Rattle.calls.specs.Numbers.{table_length, number_max, kind_new, kind_old, kind_rest, damaged_number}
use Rattle.layout.specs.Layout.{kind_at, kind_word}
use Rattle.layout.specs.Laws.{fresh_head}
use Rattle.statement.specs.Machine.{State, state, Outcome, outcome, Given, given}
use Rattle.publication_law.specs.Table.{making}
use Rattle.grace_version_law.specs.Steps as new-store
use Rattle.two_phase_law.specs.Steps as old-store
use Rattle.qsbr_law.specs.Steps as rest-store
use Rattle.kinds_law.specs.declared.Kind.{Kind}
use Rattle.kinds_law.specs.Kinds.{table_of, kind_number, kind_of_number, any_step, lacked_by, any_making}
use Rattle.kinds_law.specs.declared.Kind.TheVariants.{New as new, Old as old, Rest as rest}
use Rattle.kinds_law.proofs.Calls.{number_named, named_none, any_making_leaves}
use Rattle.sheet_law.specs.declared.Command.TheVariants.{Make, Run}
use Rattle.sheet_law.specs.Text.{text, digits_before, decimal}
use Rattle.sheet_law.specs.Reading.{line_of}
use Rattle.sheet_law.specs.Sheet.{unmade, played, line_for, after_line, said_to, next_line}
use Rattle.sheet_law.specs.SheetLaws.{lacked_at}

-- Below 2 ^ 64 - 1 the number of the next line is one more.
pub next_is : (n : ℕ) → n < number_max → next_line n ≡ n + 1
next_is n l = omega arith

-- To show something of every number, it is shown of each kind's and of one that no kind has.
each_kind : (Q : ℕ → Type 0) → Q kind_new → Q kind_old → Q kind_rest → ((n : ℕ) → n ≢ kind_new → n ≢ kind_old → n ≢ kind_rest → Q n) → (n : ℕ) → Q n
each_kind Q of-new of-old of-rest other n = go (eqb n kind_new) refl (eqb n kind_old) refl (eqb n kind_rest) refl
  where
    go : (a : Bool) → eqb n kind_new ≡ a → (b : Bool) → eqb n kind_old ≡ b → (d : Bool) → eqb n kind_rest ≡ d → Q n
    go true e b f d g = subst Q (sym (eqb-true n kind_new e)) of-new
    go false e true f d g = subst Q (sym (eqb-true n kind_old f)) of-old
    go false e false f true g = subst Q (sym (eqb-true n kind_rest g)) of-rest
    go false e false f false g = other n (eqb-false n kind_new e) (eqb-false n kind_old f) (eqb-false n kind_rest g)

module _ (n : ℕ) (c : Call) where
  -- A call that every kind has, that `rest` alone lacks, that it alone has.
  abbrev Answers : Bool → Bool → Bool → Type 0
  Answers of-new of-old of-rest = ((table_of new).lacks c ≡ of-new) × ((table_of old).lacks c ≡ of-old) × ((table_of rest).lacks c ≡ of-rest)

  had_by_all : Answers false false false → lacked_by (kind_of_number n) c ≡ false
  unfolding kind_of_number
  had_by_all (x, y, z) = each_kind (λ m. lacked_by (kind_of_number m) c ≡ false) x y z (λ m a b d. rw (named_none m a b d) refl) n

  lacked_by_rest : Answers false false true → lacked_by (kind_of_number n) c ≡ eqb n kind_rest
  unfolding kind_of_number
  lacked_by_rest (x, y, z) = each_kind (λ m. lacked_by (kind_of_number m) c ≡ eqb m kind_rest) x y z (λ m a b d. rw (named_none m a b d, ne_eqb m kind_rest d) refl) n

  had_by_rest : Answers true true false → lacked_by (kind_of_number n) c ≡ (eqb n kind_new || eqb n kind_old)
  unfolding kind_of_number
  had_by_rest (x, y, z) = each_kind (λ m. lacked_by (kind_of_number m) c ≡ (eqb m kind_new || eqb m kind_old)) x y z (λ m a b d. rw (named_none m a b d, ne_eqb m kind_new a, ne_eqb m kind_old b) refl) n

pub lacks_exactly : (n : ℕ) (c : Call) → lacked_by (kind_of_number n) c ≡ lacked_at n c
lacks_exactly n (call.Enter r) = lacked_by_rest n (call.Enter r) (refl, refl, refl)
lacks_exactly n (call.Look r k) = had_by_all n (call.Look r k) (refl, refl, refl)
lacks_exactly n (call.Leave r) = lacked_by_rest n (call.Leave r) (refl, refl, refl)
lacks_exactly n (call.Claim p slot) = had_by_all n (call.Claim p slot) (refl, refl, refl)
lacks_exactly n (call.Write p v) = had_by_all n (call.Write p v) (refl, refl, refl)
lacks_exactly n (call.Swap p) = had_by_all n (call.Swap p) (refl, refl, refl)
lacks_exactly n (call.Sync p) = lacked_by_rest n (call.Sync p) (refl, refl, refl)
lacks_exactly n (call.Raise p) = lacked_by_rest n (call.Raise p) (refl, refl, refl)
lacks_exactly n (call.Walk p b) = lacked_by_rest n (call.Walk p b) (refl, refl, refl)
lacks_exactly n (call.Release p) = lacked_by_rest n (call.Release p) (refl, refl, refl)
lacks_exactly n (call.Pick r) = had_by_rest n (call.Pick r) (refl, refl, refl)
lacks_exactly n (call.Checkpoint r) = had_by_rest n (call.Checkpoint r) (refl, refl, refl)
lacks_exactly n (call.Defer p) = had_by_rest n (call.Defer p) (refl, refl, refl)

-- A store that is made has its kind's number as kind word.
module _ (z : Given) (s : State) where
  fresh_kind : (kind : Kind) → kind_word ((table_of kind).fresh_store z s).words ≡ kind_number kind
  fresh_kind new = fresh_head kind_new z.readers z.publishers z.slots z.version new-store.fresh_reader kind_at (omega arith)
  fresh_kind old = fresh_head kind_old z.readers z.publishers z.slots z.version old-store.fresh_reader kind_at (omega arith)
  fresh_kind rest = fresh_head kind_rest z.readers z.publishers z.slots z.version (rest-store.fresh_reader z) kind_at (omega arith)

  not_made : (n : ℕ) → Refused n ≡ Made → ⊥
  not_made n e = let q : ◌≡◌ {A = ℕ} 0 1 = cc in omega arith

  accepted_kind : (kind : Kind) → (making (table_of kind) z s).reply ≡ Made → kind_word (making (table_of kind) z s).after.words ≡ kind_number kind
  unfolding making
  accepted_kind kind = choose_split (λ (o : Outcome). o.reply ≡ Made → kind_word o.after.words ≡ kind_number kind) (eqb (first_of ((table_of kind).making_tests z s)) 0)
      (λ _ _. fresh_kind kind) (λ _ e. absurd (not_made (first_of ((table_of kind).making_tests z s)) e))

  any_accepted_kind : (n : ℕ) → (any_making n z s).reply ≡ Made → kind_word (any_making n z s).after.words ≡ n
  unfolding any_making kind_of_number
  any_accepted_kind = each_kind (λ n. (any_making n z s).reply ≡ Made → kind_word (any_making n z s).after.words ≡ n)
      (accepted_kind new) (accepted_kind old) (accepted_kind rest)
      (λ n a b d. rw (named_none n a b d) (λ e. absurd (not_made damaged_number e)))

pub made_kind : (table : List ℤ) (s : State) (n rs ps ss version : ℕ) → (played table s (Make n rs ps ss version)).reply ≡ Made → kind_word (played table s (Make n rs ps ss version)).after.words ≡ n
unfolding played
made_kind table s n rs ps ss version = any_accepted_kind (given rs ps ss version table) (state s.words (take (ss * table_length) s.entries)) n

-- A line that reads as a call which the made store's kind lacks is unread: it says `unread`, and the store is the one before.
pub lacked_unread : (table : List ℤ) (s : State) (kind : Kind) (l : List ℕ) (c : Call) → kind_word s.words ≡ kind_number kind → line_of l ≡ Some (Run c) → (table_of kind).lacks c ≡ true
    → (line_for s l ≡ None) × (said_to table s (line_for s l) ≡ text "unread") × (after_line table s (line_for s l) ≡ s)
lacked_unread table s kind l c e reads lacks = rw (reads, e, number_named kind, lacks) (refl, refl, refl)

-- An unread line makes no call: it says `unread`, and the store is the one before.
pub unread_makes_no_call : (table : List ℤ) (s : State) (l : List ℕ) → line_of l ≡ None → (said_to table s (line_for s l) ≡ text "unread") × (after_line table s (line_for s l) ≡ s)
unread_makes_no_call table s l e = rw e (refl, refl)

-- Before a made store a call gets 1, and there is still none.
pub before_made : (table : List ℤ) (c : Call) → played table unmade (Run c) ≡ outcome (Refused damaged_number) unmade
unfolding played any_step kind_of_number
before_made table c = refl

-- So a line that reads as a call, whichever, says `refused 1` there.
pub call_before_made : (table : List ℤ) (l : List ℕ) (c : Call) → line_of l ≡ Some (Run c)
    → (said_to table unmade (line_for unmade l) ≡ text "refused 1") × (after_line table unmade (line_for unmade l) ≡ unmade)
unfolding played any_step kind_of_number digits_before decimal
call_before_made table l c reads = rw reads (refl, refl)

-- A refused `store` leaves the one before, since a refused making leaves what was lent.
pub refused_store : (table : List ℤ) (s : State) (kind rs ps ss version n : ℕ) → (played table s (Make kind rs ps ss version)).reply ≡ Refused n → (played table s (Make kind rs ps ss version)).after ≡ s
unfolding played
refused_store table s kind rs ps ss version n e =
    let q = any_making_leaves kind (given rs ps ss version table) (state s.words (take (ss * table_length) s.entries)) n e in
    rw (q, take-append-drop (ss * table_length) s.entries) refl
