-- What an accepted ENTER and an accepted LEAVE of the old store leave of the reader and of the indicators, for every state and number by number. Assumes nothing.
use Rattle.std.specs.Prelude.{ℕ, ◌+◌, ◌-◌, ◌%◌, ◌≤◌, ◌≡◌, refl, Bool, true, false, ◌&&◌, length, eqb}
use Rattle.std.proofs.Common.{arith, sym, ap, ◌∙◌, leb-false}
use Rattle.base.specs.Base.{choose}
use Rattle.base.specs.RowLaws.{clash}
use Rattle.calls.specs.declared.Call.TheVariants.{Enter, Leave}
use Rattle.calls.specs.declared.Reply.TheVariants.{At}
use Rattle.calls.specs.Numbers.{place_loaded}
use Rattle.calls.specs.Events.{accepted}
use Rattle.layout.specs.declared.Reader.{Reader}
use Rattle.layout.specs.Layout.{head_word_count, readers, current, version, indicator, with_reader, with_indicator}
use Rattle.layout.specs.Laws.{indicator_reader}
use Rattle.statement.specs.Machine.{State, Outcome}
use Rattle.publication_law.specs.Steps.{reader}
use Rattle.publication_law.specs.DamageLaws.{Undamaged}
use Rattle.publication_law.specs.Table.{rows, step}
use Rattle.publication_law.proofs.Calls.{undamaged_facts}
use Rattle.publication_law.specs.Moves.{reader_written}
use Rattle.publication_law.specs.Decide.{decided}
use Rattle.two_phase_law.specs.Steps.{damage_rules, entered, enter_words, leaving, leave_words, rules}
use Rattle.two_phase_law.proofs.Safety.{enter_moves, leave_moves, changed_indicator}
use Rattle.two_phase_law.proofs.Calls.{onward_loads, onward_arrives, onward_picks}
use Rattle.two_phase_law.specs.Readers.{EnterFacts, LeaveFacts}

module _ (s : State) (no_damage : Undamaged damage_rules s) (r : ℕ) where
  long : head_word_count ≤ length s.words
  long = omega (arith, no_damage.head.long)

  enter_counts : (i : ℕ) → indicator (enter_words s r) i ≡ choose (eqb (reader s r).place place_loaded && eqb ((reader s r).first % 2) i) (indicator s.words i + 1) (indicator s.words i)
  enter_counts i = go (eqb (reader s r).place place_loaded)
    where
      go : (b : Bool) → indicator (choose b (with_indicator (with_reader s.words r (entered s r)) ((reader s r).first % 2) (indicator s.words ((reader s r).first % 2) + 1)) (with_reader s.words r (entered s r))) i
          ≡ choose (b && eqb ((reader s r).first % 2) i) (indicator s.words i + 1) (indicator s.words i)
      go true = changed_indicator s.words long r (entered s r) ((reader s r).first % 2) (omega arith) (λ n. n + 1) i
      go false = ap (λ (f : ℕ → ℕ). f i) (indicator_reader s.words r (entered s r))

  leave_counts : (i : ℕ) → indicator (leave_words s r) i ≡ choose (eqb ((reader s r).first % 2) i) (indicator s.words i - 1) (indicator s.words i)
  leave_counts i = changed_indicator s.words long r (leaving (reader s r)) ((reader s r).first % 2) (omega arith) (λ n. n - 1) i

pub old_enter_facts : (s : State) (r : ℕ) → accepted (step rules s (Enter r)).reply ≡ true → EnterFacts s r (step rules s (Enter r))
unfolding step
old_enter_facts s r = decided (λ (o : Outcome). accepted o.reply ≡ true → EnterFacts s r o) (rows rules s (Enter r)) (rules.act s (Enter r)) s refl
    (λ f _.
    let no_damage = undamaged_facts rules s f.0 in
    let is = reader_written (enter_moves s no_damage r (leb-false (readers s.words) r f.1.0)) in record {
      reply_is = ap (λ (x : Reader). At x.place) (sym is);
      from_0 = λ e. is ∙ sym (onward_loads _ (current s.words) (reader s r) e);
      from_1 = λ e. is ∙ sym (onward_arrives (version s.words) (current s.words) (reader s r) e);
      from_4 = λ e. is ∙ sym (onward_picks (version s.words) _ (reader s r) (λ eq. omega arith) (λ eq. omega arith));
      counts = enter_counts s no_damage r;
    })
    (λ ok. clash (sym ok))

pub old_leave_facts : (s : State) (r : ℕ) → accepted (step rules s (Leave r)).reply ≡ true → LeaveFacts s r (step rules s (Leave r))
unfolding step
old_leave_facts s r = decided (λ (o : Outcome). accepted o.reply ≡ true → LeaveFacts s r o) (rows rules s (Leave r)) (rules.act s (Leave r)) s refl
    (λ f _.
    let no_damage = undamaged_facts rules s f.0 in record {
      reply_is = refl;
      record_is = reader_written (leave_moves s no_damage r (leb-false (readers s.words) r f.1.0));
      counts = leave_counts s no_damage r;
    })
    (λ ok. clash (sym ok))
