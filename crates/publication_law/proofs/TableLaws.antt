-- What holds of every table: a row that applies refuses and changes nothing, a call that the kind lacks gets 1, a refused making leaves what was lent.
-- And of a table whose acts show it of themselves: refused calls change nothing, only what is named moves, replies are representable. Assumes nothing.
use Rattle.std.specs.Prelude.{ℕ, ◌<◌, ◌≡◌, ◌≢◌, Bool, ◌∷◌, pos, get_or, eqb}
use Rattle.std.proofs.Common.{arith, sym}
use Rattle.std.proofs.Math.Path.{refl, ap}
use Rattle.std.proofs.Math.Bool.{true, false}
use borrow.Author.Tests.{eqb-true, eqb-false, ne_eqb}
use Rattle.base.specs.Rows.{first_of}
use Rattle.base.specs.Rows.Test.{◌gives◌}
use Rattle.base.specs.RowLaws.{clash, not_both, or_left, choose_split, AllClear, all_above, all_above_lem, clear, first_within}
use Rattle.calls.specs.declared.Call.{Call}
use Rattle.calls.specs.declared.Call.TheVariants.{Write}
use Rattle.calls.specs.declared.Reply.TheVariants.{Made, Refused}
use Rattle.calls.specs.Numbers.{damaged_number}
use Rattle.calls.specs.ReplyNumbersLaws.{PitchFitsWord, Representable}
use Rattle.calls.specs.Events.{accepted}
use Rattle.statement.specs.Machine.{State, Outcome, outcome, Given}
use Rattle.statement.specs.Frame.{Framed, Writes, Frame}
use Rattle.statement.specs.Companions.{RefusedLeaves}
use Rattle.publication_law.specs.Steps.{decide}
use Rattle.publication_law.specs.Table.{Table, damaged, rows, step, making, machine}
use Rattle.publication_law.specs.Decide.{decide_leaves}
use Rattle.publication_law.proofs.Frames.{same_framed}
use Rattle.publication_law.specs.TableLaws.{ActLaws}

module _ (T : Table) where
  -- A call to which a row applies gets the number of the first one, and changes nothing.
  pub row_refuses : (s : State) (c : Call) → first_of (rows T s c) ≢ 0 → step T s c ≡ outcome (Refused (first_of (rows T s c))) s
  unfolding step
  row_refuses s c ne = rw (ne_eqb (first_of (rows T s c)) 0 ne) refl

  -- A call that the kind lacks gets 1, and changes nothing.
  pub lacked_refused : (s : State) (c : Call) → T.lacks c ≡ true → step T s c ≡ outcome (Refused damaged_number) s
  unfolding step
  lacked_refused s c e = ap (λ (b : Bool). decide ((b gives damaged_number) ∷ T.tests s c) (T.act s c) s) (or_left (T.lacks c) (damaged T s) e)

  -- A refused making leaves store and entries as they were lent.
  pub making_leaves : (z : Given) (s : State) (n : ℕ) → (making T z s).reply ≡ Refused n → (making T z s).after ≡ s
  unfolding making
  making_leaves z s n = decide_leaves (T.making_tests z s) (outcome Made (T.fresh_store z s)) s n refl

  -- Where no act refuses by itself, a refused call changes nothing.
  pub refused_leaves_of_table : ((s : State) (c : Call) → first_of (rows T s c) ≡ 0 → accepted (T.act s c).reply ≡ true) → RefusedLeaves (machine T)
  unfolding step
  refused_leaves_of_table accepts = record {
    step = λ s c n. choose_split (λ (o : Outcome). o.reply ≡ Refused n → o.after ≡ s) (eqb (first_of (rows T s c)) 0)
        (λ none e. absurd (not_both _ (accepts s c (eqb-true _ 0 none)) (rw e refl))) (λ _ _. refl);
    making = making_leaves;
  }

module _ (publishes : State → Bool) (T : Table) (L : ActLaws publishes T) where
  pub row_numbers : (s : State) (c : Call) → T.lacks c ≡ false → all_above 0 (rows T s c) ≡ true
  row_numbers s c e = all_above_lem damaged_number 0 (omega arith) (T.tests s c) (L.numbers_above_1 s c e)

  -- A call is its act, where no row applies; or it is refused with a number from 1 to 99 and changes nothing.
  by_rows : (Q : Outcome → Type 0) (s : State) (c : Call) → (AllClear (rows T s c) → Q (T.act s c)) → ((n : ℕ) → n ≢ 0 → n < 100 → Q (outcome (Refused n) s)) → Q (step T s c)
  unfolding step
  by_rows Q s c f f' = go (T.lacks c) refl
    where
      go : (b : Bool) → T.lacks c ≡ b → Q (step T s c)
      go true e = rw (lacked_refused T s c e) (f' damaged_number (λ eq. omega arith) (omega arith))
      go false e = choose_split Q (eqb (first_of (rows T s c)) 0) (λ e'. f (clear (rows T s c) (row_numbers s c e) (eqb-true _ 0 e')))
          (λ e'. let ne = eqb-false (first_of (rows T s c)) 0 e' in f' (first_of (rows T s c)) ne (first_within 0 (rows T s c) (row_numbers s c e) ne).1)

  -- No act refuses by itself, so a refused call changes nothing.
  acts_accept : (s : State) (c : Call) → first_of (rows T s c) ≡ 0 → accepted (T.act s c).reply ≡ true
  acts_accept s c e = go (T.lacks c) refl
    where
      go : (b : Bool) → T.lacks c ≡ b → accepted (T.act s c).reply ≡ true
      go true lacks = absurd (let is : first_of (rows T s c) ≡ damaged_number = rw lacks refl in omega (arith, e, is))
      go false has = (L.acts s c (clear (rows T s c) (row_numbers s c has) e)).accepts

  pub refused_leaves_of_acts : RefusedLeaves (machine T)
  refused_leaves_of_acts = refused_leaves_of_table T acts_accept

  -- A call that the kind has gets 1 from a damaged store alone.
  pub only_damaged : (s : State) (c : Call) → T.lacks c ≡ false → damaged T s ≡ false → (step T s c).reply ≢ Refused damaged_number
  unfolding step
  only_damaged s c has no_damage = choose_split (λ (o : Outcome). o.reply ≢ Refused damaged_number) (eqb (first_of (rows T s c)) 0)
      (λ e' e. not_both _ (acts_accept s c (eqb-true _ 0 e')) (rw e refl))
      (λ e' e.
      let is : first_of (rows T s c) ≡ damaged_number = cc in
      let own : first_of (T.tests s c) ≡ damaged_number = rw (has, no_damage) at is in
      omega (arith, (first_within damaged_number (T.tests s c) (L.numbers_above_1 s c has) (λ eq. omega arith)).0))

  -- Only what a call names moves.
  pub frame_of_table : Frame publishes (machine T)
  frame_of_table = record {
    words = λ s c. by_rows (λ (o : Outcome). Framed (publishes s) c s.words o.after.words) s c (λ f. (L.acts s c f).framed) (λ n _ _. same_framed (publishes s) c s.words);
    entries = λ s c ne. by_rows (λ (o : Outcome). o.after.entries ≡ s.entries) s c (λ f. (L.acts s c f).entries_stay ne) (λ n _ _. refl);
    writes = λ s p v. by_rows (λ (o : Outcome). Writes s p v o) s (Write p v) (L.writes s p v) (λ n _ _. record { stored = λ ok. clash (sym ok); others = λ j ne. refl; long = refl });
  }

  -- A reply of a call or a making has three numbers for C that no other representable reply has: a refusal's number is below 100, a pitch is an entry.
  pub representable_of_table : (s : State) (c : Call) → ((j : ℕ) → PitchFitsWord (get_or s.entries j (pos 0))) → Representable (step T s c).reply
  representable_of_table s c narrow = by_rows (λ (o : Outcome). Representable o.reply) s c (λ f. (L.acts s c f).representable narrow) (λ n _ low. low)

  pub representable_making_of_table : (z : Given) (s : State) → Representable (making T z s).reply
  unfolding making
  representable_making_of_table z s = choose_split (λ (o : Outcome). Representable o.reply) (eqb (first_of (T.making_tests z s)) 0) (λ _. tt)
      (λ found. (first_within 0 (T.making_tests z s) (L.making_numbers z s) (eqb-false (first_of (T.making_tests z s)) 0 found)).1)
