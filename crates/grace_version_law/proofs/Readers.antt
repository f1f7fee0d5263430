-- What an accepted ENTER and an accepted LEAVE of the new store leave of the reader, for every state and number by number;
-- and the fourth step of entering, which publishes the second version straight through. Assumes nothing.
use Rattle.std.specs.Prelude.{ℕ, ◌<◌, ◌≡◌, refl, ◌≢◌, true, false}
use Rattle.std.proofs.Common.{arith, sym, ap, ◌∙◌, eq-eqb, leb-false}
use Rattle.base.specs.RowLaws.{clash}
use Rattle.calls.specs.declared.Call.TheVariants.{Enter, Leave}
use Rattle.calls.specs.declared.Reply.TheVariants.{At}
use Rattle.calls.specs.Numbers.{place_loaded_again, place_open}
use Rattle.calls.specs.Events.{accepted}
use Rattle.layout.specs.declared.Reader.{Reader}
use Rattle.layout.specs.Layout.{readers, current, version, with_reader}
use Rattle.layout.specs.Records.{◌place≔◌, ◌published≔◌}
use Rattle.statement.specs.Machine.{State, state, Outcome, outcome}
use Rattle.publication_law.specs.Steps.{reader}
use Rattle.publication_law.specs.Table.{damaged, rows, step}
use Rattle.publication_law.proofs.Calls.{undamaged_facts}
use Rattle.publication_law.specs.Moves.{reader_moves, reader_written}
use Rattle.publication_law.specs.Decide.{decided}
use Rattle.grace_version_law.specs.Steps.{onward, entered, leaving, rules}
use Rattle.grace_version_law.proofs.Calls.{published_of, enter_is, onward_loads, onward_publishes, onward_loads_again, onward_publishes_second, onward_picks}
use Rattle.grace_version_law.specs.Readers.{EnterFacts, LeaveFacts}

pub new_enter_facts : (s : State) (r : ℕ) → accepted (step rules s (Enter r)).reply ≡ true → EnterFacts s r (step rules s (Enter r))
unfolding step
new_enter_facts s r = decided (λ (o : Outcome). accepted o.reply ≡ true → EnterFacts s r o) (rows rules s (Enter r)) (rules.act s (Enter r)) s refl
    (λ f _.
    let lt = leb-false (readers s.words) r f.1.0 in
    let is = reader_written (reader_moves (undamaged_facts rules s f.0) r (entered s r) lt) in record {
      reply_is = ap (λ (x : Reader). At x.place) (sym is);
      from_0 = λ e. is ∙ sym (onward_loads _ (current s.words) (reader s r) _ refl e);
      from_1 = λ e. is ∙ sym (onward_publishes (version s.words) (current s.words) (reader s r) e);
      from_2 = λ e. is ∙ sym (onward_loads_again _ (current s.words) (reader s r) _ refl e);
      from_3 = λ e. is ∙ sym (onward_publishes_second (version s.words) (current s.words) (reader s r) e (published_of s f.0 r lt e));
      from_4 = λ e. is ∙ sym (onward_picks (version s.words) _ (reader s r) _ refl e);
    })
    (λ ok. clash (sym ok))

pub new_leave_facts : (s : State) (r : ℕ) → accepted (step rules s (Leave r)).reply ≡ true → LeaveFacts s r (step rules s (Leave r))
unfolding step
new_leave_facts s r = decided (λ (o : Outcome). accepted o.reply ≡ true → LeaveFacts s r o) (rows rules s (Leave r)) (rules.act s (Leave r)) s refl
    (λ f _. record {
      reply_is = refl;
      record_is = reader_written (reader_moves (undamaged_facts rules s f.0) r (leaving (reader s r)) (leb-false (readers s.words) r f.1.0));
    })
    (λ ok. clash (sym ok))

-- Document 02, request 4: 'publish the second loaded version always'. On an undamaged store ENTER of a reader at 3 goes to 4 and publishes the second, and moves nothing else ..
module _ (s : State) (r : ℕ) (no_damage : damaged rules s ≡ false) (named : r < readers s.words) (turn : (reader s r).place ≡ place_loaded_again) where
  pub new_publishes_second : step rules s (Enter r) ≡ outcome (At place_open) (state (with_reader s.words r (reader s r place≔ place_open published≔ (reader s r).second)) s.entries)
  new_publishes_second =
      sym (enter_is s no_damage _ r (reader s r) (reader s r place≔ place_open published≔ (reader s r).second) named refl (omega (arith, turn))
      (onward_publishes_second (version s.words) (current s.words) (reader s r) turn (published_of s no_damage r named turn)) refl)

  -- .. 'Where they were equal that is the same number': the second is then the number that was published, and what is published stays.
  pub new_equal_same_number : (reader s r).first ≡ (reader s r).second
      → ((reader s r).second ≡ (reader s r).published) × ((reader (step rules s (Enter r)).after r).published ≡ (reader s r).published)
  new_equal_same_number equal =
      let same = sym equal ∙ sym (published_of s no_damage r named turn) in
      (same, ap (λ (x : Reader). x.published) ((new_enter_facts s r (ap (λ (o : Outcome). accepted o.reply) new_publishes_second)).from_3 turn) ∙ same)

-- `new_publishes_second` needs the damage test's rule: of a reader at 3 with equal versions whose published version is unlike them, document 01's step does not publish the second.
pub unlike_differs : (version current : ℕ) (x : Reader) → x.place ≡ place_loaded_again → x.first ≡ x.second → x.published ≢ x.first
    → onward version current x ≢ (x place≔ place_open published≔ x.second)
unfolding onward
unlike_differs version current x turn equal unlike is =
    let kept : x.published ≡ x.second = rw (turn, eq-eqb x.first x.second equal) at (ap (λ (y : Reader). y.published) is) in
    unlike (kept ∙ sym equal)
