-- What an accepted shared call gives, from what its code knows: the rows that do not apply, the record that it read, the words that it wrote.
-- Assumes nothing.
use Rattle.std.proofs.Common.{arith, sym, ap, ◌∙◌, eqb-true, eq-eqb, ne_eqb, lt-ltb, le-ltb}
use Rattle.std.specs.Prelude.{ℕ, ◌+◌, ◌-◌, ◌%◌, ◌<◌, ◌≤◌, ◌≡◌, ◌≢◌, Bool, true, false, not, ◌&&◌, ◌||◌, List, ◌∷◌, ℤ, pos, get_or, set, length, replicate, ltb, eqb}
use Rattle.std.proofs.Math.Path.{refl}
use Rattle.std.proofs.lemmas.Bool.{eqb-false, lt-leb}
use Rattle.std.proofs.lemmas.List.{length-replicate}
use Rattle.base.specs.Base.{choose}
use Rattle.base.specs.Rows.{first_of, any_true}
use Rattle.base.specs.Rows.Test.{◌gives◌}
use Rattle.base.specs.RowLaws.{not_both, or_false, or_right, or_none, neither, negated, not_outside}
use Rattle.calls.specs.declared.Call.{Call}
use Rattle.calls.specs.declared.Call.TheVariants.{Enter, Leave, Raise, Walk}
use Rattle.calls.specs.declared.Reply.{Reply}
use Rattle.calls.specs.declared.Reply.TheVariants.{Made, Pitch, Claimed, Written, Swapped, Synced, Raised, Shared, Walked, Freed, Refused}
use Rattle.calls.specs.FirstTable.{out_of_range}
use Rattle.calls.specs.Numbers.{number_modulus, number_max, place_open, place_picked, place_idle, place_claimed, place_written, place_swapped, place_synchronising, place_raised, place_returned, damaged_number}
use Rattle.layout.specs.declared.Reader.{Reader}
use Rattle.layout.specs.declared.Publisher.{Publisher}
use Rattle.layout.specs.declared.WalkResult.{WalkResult}
use Rattle.layout.specs.Layout.{words_length, readers, publishers, slots, current, version, releases, reader_at, publisher_at, with_publisher, with_current, with_version, with_releases, entry_at}
use Rattle.layout.specs.Records.{◌at_place◌, ◌held≔◌, ◌walk≔◌}
use Rattle.statement.specs.Machine.{State, state, Outcome, outcome, Given}
use Rattle.publication_law.specs.Steps.{Versions, up_to, decide, reader, publisher, new_walk, another_busy, in_use, look_tests, look, claim_tests, claim, write_tests, write, swap_tests, swap, sync_tests, sync, raise, walked, walk, release_tests, release}
use Rattle.publication_law.specs.Damage.{DamageRules, head_rows, shared_damage, first_readers_damaged, first_publishers_damaged, readers_are_damaged, publishers_are_damaged}
use Rattle.publication_law.specs.DamageLaws.{Undamaged, UndamagedHead, head_of, undamaged_of, tests_shared, readers_test_false, publishers_test_false}
use Rattle.publication_law.specs.Decide.{decide_accepts}
use Rattle.publication_law.proofs.Clear.{claim_rows_lem}
use Rattle.publication_law.specs.Table.{Table, damaged, step, making}
use Rattle.publication_law.specs.SectionRules.{SectionRules, table_by}

-- A call of a damaged store; and of one that is not, where 1 tells that the kind lacks it.
pub step_damaged : (T : Table) (s : State) (c : Call) → damaged T s ≡ true → outcome (Refused damaged_number) s ≡ step T s c
unfolding step
step_damaged T s c e = ap (λ (test : Bool). decide ((test gives damaged_number) ∷ T.tests s c) (T.act s c) s) (sym (or_right (T.lacks c) (damaged T s) e))

pub step_undamaged : (T : Table) (s : State) (c : Call) → damaged T s ≡ false → decide ((T.lacks c gives damaged_number) ∷ T.tests s c) (T.act s c) s ≡ step T s c
unfolding step
step_undamaged T s c e = ap (λ (test : Bool). decide ((test gives damaged_number) ∷ T.tests s c) (T.act s c) s) (sym (ap (λ (test : Bool). T.lacks c || test) e ∙ or_none (T.lacks c)))

-- A head that is in order with any entries of a number bounds the readers and the publishers.
pub head_of_any : (K : DamageRules) (w : List ℕ) (n : ℕ) → ((es : List ℤ) → length es ≡ n → any_true (head_rows K (state w es)) ≡ false) → UndamagedHead K (state w (replicate n (pos 0)))
head_of_any K w n in_order = head_of K (state w (replicate n (pos 0))) (in_order (replicate n (pos 0)) (length-replicate n (pos 0)))

-- The damage test is that of the head, of the readers, of the publishers, each by itself, and what a kind adds.
module _ (T : Table) (s : State) where
  pub undamaged_facts : damaged T s ≡ false → Undamaged T.damage s
  unfolding damaged
  undamaged_facts e = undamaged_of T.damage s (or_false (shared_damage T.damage s) (T.further s) e).0

  pub undamaged_further : damaged T s ≡ false → T.further s ≡ false
  unfolding damaged
  undamaged_further e = (or_false (shared_damage T.damage s) (T.further s) e).1

  -- Where the head is in order, a damaged reader damages the store, and past the readers and what the kind adds the publishers decide.
  pub readers_damage : any_true (head_rows T.damage s) ≡ false → first_readers_damaged T.damage s ≡ true → damaged T s ≡ true
  unfolding damaged
  readers_damage head_ok some = rw (head_ok, some) refl

  pub publishers_decide : any_true (head_rows T.damage s) ≡ false → first_readers_damaged T.damage s ≡ false → T.further s ≡ false → damaged T s ≡ first_publishers_damaged T.damage s
  unfolding damaged
  publishers_decide head_ok none further_Ok = rw (head_ok, none, further_Ok) (or_none _)

  pub undamaged : any_true (head_rows T.damage s) ≡ false → readers_are_damaged T.damage s ≡ false → T.further s ≡ false → publishers_are_damaged T.damage s ≡ false → damaged T s ≡ false
  unfolding damaged
  undamaged head_ok readers-ok further_Ok publishers-ok = neither (shared_damage T.damage s) (T.further s) (tests_shared T.damage s head_ok readers-ok publishers-ok) further_Ok

  -- A test that no undamaged store fails damages the store that fails it.
  unless : (test : Bool) → (damaged T s ≡ false → test ≡ false) → test ≡ true → damaged T s ≡ true
  unless test f e = go (damaged T s) refl
    where
      go : (d : Bool) → damaged T s ≡ d → damaged T s ≡ true
      go true d = d
      go false d = absurd (not_both test e (f d))

  pub damaged_head : any_true (head_rows T.damage s) ≡ true → damaged T s ≡ true
  unfolding damaged
  damaged_head e = rw e refl

  pub damaged_readers : readers_are_damaged T.damage s ≡ true → damaged T s ≡ true
  damaged_readers = unless (readers_are_damaged T.damage s) (λ d. readers_test_false T.damage s (undamaged_facts d))

  pub damaged_publishers : publishers_are_damaged T.damage s ≡ true → damaged T s ≡ true
  damaged_publishers = unless (publishers_are_damaged T.damage s) (λ d. publishers_test_false T.damage s (undamaged_facts d))

  pub damaged_further : T.further s ≡ true → damaged T s ≡ true
  damaged_further = unless (T.further s) undamaged_further

-- A call of words of another length.
pub step_wrong_length : (T : Table) (s : State) (c : Call) → length s.words ≢ words_length → outcome (Refused damaged_number) s ≡ step T s c
step_wrong_length T s c ne = step_damaged T s c (damaged_head T s (rw (ne_eqb (length s.words) words_length ne) refl))

-- ENTER below 5 and LEAVE at 4 and 5.
module _ (R : SectionRules) (s : State) (no_damage : damaged (table_by R) s ≡ false) (r : ℕ) (x : Reader) (named : r < readers s.words) (is : x ≡ reader s r) where
  pub enter_accepted : x.place < place_picked → (table_by R).act s (Enter r) ≡ step (table_by R) s (Enter r)
  enter_accepted turn = sym (decide_accepts ((table_by R).tests s (Enter r)) ((table_by R).act s (Enter r)) s (lt-leb _ _ named, (lt-leb 5 _ (rw is at turn), tt))) ∙ step_undamaged (table_by R) s (Enter r) no_damage

  pub leave_accepted : place_open ≤ x.place → (table_by R).act s (Leave r) ≡ step (table_by R) s (Leave r)
  leave_accepted turn = sym (decide_accepts ((table_by R).tests s (Leave r)) ((table_by R).act s (Leave r)) s (lt-leb _ _ named, (le-ltb _ 4 (rw is at turn), tt))) ∙ step_undamaged (table_by R) s (Leave r) no_damage

-- RAISE and WALK, at a place that the kind allows.
module _ (R : SectionRules) (s : State) (no_damage : damaged (table_by R) s ≡ false) (o : Outcome) (p : ℕ) (y : Publisher) (named : p < publishers s.words) (is : y ≡ publisher s p) where
  pub raise_is : R.raises_at y.place ≡ true → o ≡ raise R.damage.versions s p → o ≡ step (table_by R) s (Raise p)
  raise_is turn e =
      e ∙ sym (decide_accepts ((table_by R).tests s (Raise p)) ((table_by R).act s (Raise p)) s (lt-leb _ _ named, (negated _ (rw is at turn), tt))) ∙ step_undamaged (table_by R) s (Raise p) no_damage

  pub walk_is : (b : ℕ) (result : WalkResult) → R.walks_at y.place ≡ true → y.walk.looks + b ≤ number_max → result ≡ R.looks s p b → o ≡ walk s p result → o ≡ step (table_by R) s (Walk p b)
  walk_is b result turn room looks e =
      e ∙ rw looks (sym (decide_accepts ((table_by R).tests s (Walk p b)) ((table_by R).act s (Walk p b)) s (lt-leb _ _ named, (negated _ (rw is at turn), (le-ltb _ _ (rw is at room), tt)))) ∙ step_undamaged (table_by R) s (Walk p b) no_damage)

-- Up to the version before the last a SYNC is allowed, and its mark does not run over.
pub last_is : (last ver : ℕ) → 1 ≤ last → ver ≤ last → (up_to last).is_last ver ≡ ltb (last - 1) ver
last_is last ver some l = go (eqb ver last) refl
  where
    go : (test : Bool) → eqb ver last ≡ test → test ≡ ltb (last - 1) ver
    go true e = sym (lt-ltb (last - 1) ver (omega (arith, eqb-true ver last e)))
    go false e = let ne = eqb-false ver last e in sym (le-ltb (last - 1) ver (omega arith))

pub mark_is : (last ver : ℕ) → last < number_max → ver ≤ last → (up_to last).mark_at ver ≡ (ver + 1) % number_modulus
mark_is last ver room l = omega arith

not_at : (n m : ℕ) → n ≡ m → not (eqb n m) ≡ false
not_at n m e = negated (eqb n m) (eq-eqb n m e)

pub look_is : (w : List ℕ) (es : List ℤ) (r k : ℕ) (x : Reader) → r < readers w → k ≤ 31 → x ≡ reader_at w r → x.place ≡ place_picked
    → outcome (Pitch (get_or es (entry_at x.picked k) (pos 0))) (state w es) ≡ decide (look_tests (state w es) r k) (look (state w es) r k) (state w es)
look_is w es r k x named low is turn =
    rw is (sym (decide_accepts (look_tests (state w es) r k) (look (state w es) r k) (state w es) (lt-leb _ _ named, (le-ltb _ _ low, (not_at _ 5 (rw is at turn), tt)))))

module _ (w : List ℕ) (p : ℕ) (y : Publisher) (named : p < publishers w) (is : y ≡ publisher_at w p) where
  pub claim_is : (w' : List ℕ) (exclusive retiring : Bool) (slot : ℕ) → slot < slots w → y.place ≡ place_idle → ((es : List ℤ) → exclusive && another_busy (state w es) p ≡ false) → ((es : List ℤ) → in_use retiring (state w es) slot ≡ false)
      → w' ≡ with_publisher w p (y at_place place_claimed held≔ slot)
      → (es : List ℤ) → outcome (Claimed slot) (state w' es) ≡ decide (claim_tests exclusive retiring (state w es) p slot) (claim (state w es) p slot) (state w es)
  claim_is w' exclusive retiring slot low turn busy used put es =
      rw (put, is) (sym (decide_accepts (claim_tests exclusive retiring (state w es) p slot) (claim (state w es) p slot) (state w es)
      (claim_rows_lem exclusive retiring (state w es) p slot (record { publisher_named_lem = named; slot_named = low; in_turn = rw is at turn; nobody_busy = busy es; unused = used es }))))

  pub write_is : (w' : List ℕ) (es : List ℤ) (v : ℤ) → out_of_range v ≡ false → place_claimed ≤ y.place → y.place ≤ 32
      → w' ≡ with_publisher w p (y at_place (y.place + 1))
      → outcome (Written y.place) (state w' (set es (entry_at y.held (y.place - 1)) v)) ≡ decide (write_tests (state w es) p v) (write (state w es) p v) (state w es)
  write_is w' es v range low high put =
      rw (put, is) (sym (decide_accepts (write_tests (state w es) p v) (write (state w es) p v) (state w es) (lt-leb _ _ named, (range, (not_outside 1 32 _ (rw is at low) (rw is at high), tt)))))

  pub swap_is : (w' : List ℕ) (former : ℕ) → former ≡ current w → y.place ≡ place_written
      → w' ≡ with_current (with_publisher w p (y at_place place_swapped held≔ former)) y.held
      → (es : List ℤ) → outcome (Swapped former) (state w' es) ≡ decide (swap_tests (state w es) p) (swap (state w es) p) (state w es)
  swap_is w' former was turn put es =
      rw (put, was, is) (sym (decide_accepts (swap_tests (state w es) p) (swap (state w es) p) (state w es) (lt-leb _ _ named, (not_at _ 33 (rw is at turn), tt))))

  pub sync_is : (vs : Versions) (w' : List ℕ) (mark : ℕ) → y.place ≡ place_swapped → vs.is_last (version w) ≡ false → mark ≡ vs.mark_at (version w)
      → w' ≡ with_publisher w p (y at_place place_synchronising walk≔ new_walk y.walk mark)
      → (es : List ℤ) → outcome (Synced mark) (state w' es) ≡ decide (sync_tests vs (state w es) p) (sync vs (state w es) p) (state w es)
  sync_is vs w' mark turn room marked put es =
      rw (put, marked, is) (sym (decide_accepts (sync_tests vs (state w es) p) (sync vs (state w es) p) (state w es) (lt-leb _ _ named, (not_at _ 34 (rw is at turn), (room, tt)))))

  pub raised_is : (vs : Versions) (w' : List ℕ) → version w ≡ vs.before_mark y.walk.mark → w' ≡ with_version (with_publisher w p (y at_place place_raised)) y.walk.mark
      → (es : List ℤ) → outcome Raised (state w' es) ≡ raise vs (state w es) p
  raised_is vs w' e put es = rw (put, is, eq-eqb _ _ (rw is at e)) refl

  pub shared_is : (vs : Versions) (w' : List ℕ) → version w ≢ vs.before_mark y.walk.mark → w' ≡ with_publisher w p (y at_place place_raised)
      → (es : List ℤ) → outcome Shared (state w' es) ≡ raise vs (state w es) p
  shared_is vs w' ne put es = rw (put, is, ne_eqb _ _ (rw is at ne)) refl

  pub walked_is : (w' : List ℕ) (result : WalkResult) → w' ≡ with_publisher w p (walked y result)
      → (es : List ℤ) → outcome (Walked result.reply) (state w' es) ≡ walk (state w es) p result
  walked_is w' result put es = rw (put, is) refl

  pub release_is : (w' : List ℕ) (n : ℕ) → y.place ≡ place_returned → n ≡ (releases w + 1) % number_modulus → w' ≡ with_releases (with_publisher w p (y at_place place_idle)) n
      → (es : List ℤ) → outcome (Freed y.held n) (state w' es) ≡ decide (release_tests (state w es) p) (release (state w es) p) (state w es)
  release_is w' n turn more put es =
      rw (put, more, is) (sym (decide_accepts (release_tests (state w es) p) (release (state w es) p) (state w es) (lt-leb _ _ named, (not_at _ 38 (rw is at turn), tt))))

-- Making, by the number of its first row that applies: 0 where none does.
pub making_is : (T : Table) (z : Given) (s after : State) (n : ℕ) (a : Reply) → n ≡ first_of (T.making_tests z s) → a ≡ choose (eqb n 0) Made (Refused n) → after ≡ choose (eqb n 0) (T.fresh_store z s) s
    → outcome a after ≡ making T z s
unfolding making
making_is T z s after n a first said left = rw (said, left, first) (go (first_of (T.making_tests z s)) (eqb (first_of (T.making_tests z s)) 0))
  where
    go : (m : ℕ) (none : Bool) → outcome (choose none Made (Refused m)) (choose none (T.fresh_store z s) s) ≡ choose none (outcome Made (T.fresh_store z s)) (outcome (Refused m) s)
    go m true = refl
    go m false = refl
