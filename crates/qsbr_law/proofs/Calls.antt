-- What the code of the rest store asks of an undamaged store, and what its accepted calls give. Assumes nothing.
use Rattle.std.specs.Prelude.{ℕ, ◌+◌, ◌-◌, ◌<◌, ◌≤◌, ◌≡◌, ◌≢◌, Bool, true, false, not, ◌||◌, List, ℤ, length, leb, ltb, eqb}
use Rattle.std.proofs.Common.{arith, sym, ap, ◌∙◌, ⊎_elim}
use Rattle.std.proofs.Math.Path.{refl}
use borrow.Author.Tests.{eqb-true, eq-eqb, ne_eqb, lt-leb, lt-ltb, le-ltb, not-false}
use Rattle.base.specs.Base.{choose}
use Rattle.base.specs.Rows.{first_of, any_true, any_below, outside}
use Rattle.base.specs.RowLaws.{or_false, or_left, or_right, or_none, or_either, and_not, not_both, neither, none_true, none_below, no_below, none_first}
use Rattle.calls.specs.declared.Call.TheVariants.{Pick, Checkpoint, Defer}
use Rattle.calls.specs.declared.Reply.{Reply}
use Rattle.calls.specs.declared.Reply.TheVariants.{Made, At, Picked, Refused}
use Rattle.calls.specs.Numbers.{number_max, readers_max, publishers_max, deferred_max, place_out, place_picked, place_idle, place_swapped, place_deferring, kind_rest, damaged_number, bad_readers_number, bad_publishers_number, publisher_turn_number}
use Rattle.layout.specs.declared.Reader.{Reader}
use Rattle.layout.specs.declared.Publisher.{Publisher}
use Rattle.layout.specs.declared.Retirement.{Retirement}
use Rattle.layout.specs.Layout.{words_length, readers, publishers, slots, current, version, reader_at, publisher_at, retirement_at, retired_at, with_reader, with_publisher, with_version, with_retirement, with_retired, blank_reader}
use Rattle.layout.specs.Laws.{retirement_reader}
use Rattle.layout.specs.Records.{◌place≔◌, ◌first≔◌, ◌second≔◌, ◌published≔◌, ◌picked≔◌, ◌at_place◌, ◌walk≔◌, ◌mark≔◌, ◌step≔◌, ◌count≔◌}
use Rattle.statement.specs.Machine.{State, state, outcome, given}
use Rattle.publication_law.specs.Steps.{reader, publisher, making_tests, made}
use Rattle.publication_law.specs.Damage.{head_rows}
use Rattle.publication_law.specs.DamageLaws.{UndamagedHead, head_of}
use Rattle.publication_law.specs.Decide.{decide_accepts}
use Rattle.publication_law.specs.Table.{damaged, step, making}
use Rattle.publication_law.proofs.Calls.{step_undamaged, making_is, publishers_decide, undamaged_facts, undamaged_further, damaged_head, damaged_further}
use Rattle.qsbr_law.specs.Steps.{last_version, versions, damage_rules, reader_rows, retirement, in_checkpoint, deferring, retirement_rows, pick_tests, pick, checkpoint_tests, load, observe, least_of, read, Stay, stay, staying, read_last, checkpoint, defer_tests, raise_epoch, queue, defer, rules}
use Rattle.qsbr_law.proofs.Safety.{retirement_fits}
use Rattle.qsbr_law.specs.Calls.{eight_deferring, retirement_fails, participant_fails, head_fails, ParticipantFits, freed}

-- A mark of 64 bits is wrong only if it is 0.
pub no_mark : (mark : ℕ) → mark ≡ 0 → versions.wrong_mark mark ≡ true
no_mark mark e = rw e refl

mark_fits : (mark : ℕ) → mark ≢ 0 → mark ≤ number_max → versions.wrong_mark mark ≡ false
mark_fits mark ne l = rw (ne_eqb mark 0 ne) (le-ltb last_version mark l)

-- A publisher above 35, and at 35 with a held slot of the store and a mark, where its waits decide.
module _ (n ss : ℕ) (y : Publisher) where
  pub publisher_beyond : place_deferring < y.place → damage_rules.publisher_damaged n ss y ≡ true
  publisher_beyond l = rw (lt-ltb 35 y.place l) refl

  pub publisher_waits : y.place ≡ place_deferring → y.held < ss → y.walk.mark ≢ 0 → y.walk.mark ≤ number_max → damage_rules.publisher_damaged n ss y ≡ ltb y.walk.looks y.walk.waits
  publisher_waits at held some low = rw (at, lt-leb ss y.held held, mark_fits y.walk.mark some low) (or_none _)

-- A reader, by its place.
module _ (ss : ℕ) (x : Reader) where
  pub reader_out : x.place ≡ place_out → any_true (reader_rows ss x) ≡ false
  reader_out e = rw e refl

  pub no_reader_place : x.place ≢ place_out → x.place ≢ place_picked → any_true (reader_rows ss x) ≡ true
  no_reader_place out picked = rw (ne_eqb x.place 0 out, ne_eqb x.place 5 picked) refl

  pub pick_decides : x.place ≡ place_picked → any_true (reader_rows ss x) ≡ leb ss x.picked
  pick_decides e = rw e (or_none (leb ss x.picked))

module _ (w : List ℕ) (n ss p : ℕ) where
  pub step_high : n + 1 < (retirement_at w p).step → retirement_fails w n ss p ≡ true
  step_high l = rw (lt-ltb (n + 1) (retirement_at w p).step l) refl

  pub none_retired : (retirement_at w p).step ≤ n + 1 → (retirement_at w p).count ≡ 0 → retirement_fails w n ss p ≡ false
  none_retired low none =
      neither _ _ (neither _ _ (neither _ _ (le-ltb (n + 1) (retirement_at w p).step low) (rw none refl)) (and_not (eqb (publisher_at w p).place 35) _ (λ _. rw none refl))) (rw none (none_first _))

  pub count_high : deferred_max < (retirement_at w p).count → retirement_fails w n ss p ≡ true
  count_high l = or_left _ _ (or_left _ _ (or_right (ltb (n + 1) (retirement_at w p).step) _ (lt-ltb 8 (retirement_at w p).count l)))

  pub eight_fails : eight_deferring w p ≡ true → retirement_fails w n ss p ≡ true
  eight_fails e = or_left _ _ (or_right (ltb (n + 1) (retirement_at w p).step || ltb 8 (retirement_at w p).count) _ e)

  pub slots_decide : (retirement_at w p).step ≤ n + 1 → (retirement_at w p).count ≤ deferred_max → eight_deferring w p ≡ false → retirement_fails w n ss p ≡ any_below (λ i. leb ss (retired_at w p i).slot) (retirement_at w p).count
  slots_decide low few room = rw (le-ltb (n + 1) (retirement_at w p).step low, le-ltb 8 (retirement_at w p).count few, room) refl

  pub by_reader : damage_rules.reader_damaged n ss (reader_at w p) ≡ true → participant_fails w n ss p ≡ true
  by_reader e = rw e refl

  pub by_publisher : damage_rules.publisher_damaged n ss (publisher_at w p) ≡ true → participant_fails w n ss p ≡ true
  by_publisher e = or_left _ (retirement_fails w n ss p) (or_right (damage_rules.reader_damaged n ss (reader_at w p)) _ e)

  pub by_retirement : damage_rules.reader_damaged n ss (reader_at w p) ≡ false → damage_rules.publisher_damaged n ss (publisher_at w p) ≡ false → participant_fails w n ss p ≡ retirement_fails w n ss p
  by_retirement e f = rw (e, f) refl

-- A store whose head and participants are in order is undamaged.
module _ (s : State) (head_ok : head_fails s ≡ false) where
  head_parts : (any_true (head_rows damage_rules s) ≡ false) × (not (eqb (readers s.words) (publishers s.words)) ≡ false)
  head_parts = or_false _ _ head_ok

  pub head_fits : UndamagedHead damage_rules s
  head_fits = head_of damage_rules s head_parts.0

  same_number : readers s.words ≡ publishers s.words
  same_number = eqb-true _ _ (not-false _ head_parts.1)

  module _ (ok : any_below (participant_fails s.words (publishers s.words) (slots s.words)) (publishers s.words) ≡ false) where
    own_rows : (p : ℕ) → p < publishers s.words
        → (damage_rules.reader_damaged (readers s.words) (slots s.words) (reader s p) || damage_rules.publisher_damaged (readers s.words) (slots s.words) (publisher s p) ≡ false) × (retirement_fails s.words (publishers s.words) (slots s.words) p ≡ false)
    own_rows p l = or_false _ _ (none_below (participant_fails s.words (publishers s.words) (slots s.words)) (publishers s.words) p ok l)

    reader_clear : (p : ℕ) → p < publishers s.words → damage_rules.reader_damaged (readers s.words) (slots s.words) (reader s p) ≡ false
    reader_clear p l = (or_false _ _ (own_rows p l).0).0

    publisher_clear : (p : ℕ) → p < publishers s.words → damage_rules.publisher_damaged (readers s.words) (slots s.words) (publisher s p) ≡ false
    publisher_clear p l = (or_false (damage_rules.reader_damaged (readers s.words) (slots s.words) (reader s p)) _ (own_rows p l).0).1

    retirement_clear : (p : ℕ) → p < publishers s.words → any_true (retirement_rows s p) ≡ false
    retirement_clear p l =
        let f = or_false _ _ (own_rows p l).1 in
        let g = or_false _ _ f.0 in
        let h = or_false _ _ g.0 in
        none_true (retirement_rows s p) (rw same_number h.0, (h.1, (g.1, (f.1, tt))))

    pub scan_undamaged : damaged rules s ≡ false
    scan_undamaged = publishers_decide rules s head_parts.0 (no_below _ _ (λ r l. reader_clear r (rw same_number at l))) (neither _ _ head_parts.1 (no_below _ _ retirement_clear))
        ∙ no_below _ _ publisher_clear

module _ (s : State) (no_damage : damaged rules s ≡ false) where
  further_parts : (not (eqb (readers s.words) (publishers s.words)) ≡ false) × (any_below (λ p. any_true (retirement_rows s p)) (publishers s.words) ≡ false)
  further_parts = or_false _ _ (undamaged_further rules s no_damage)

  as_many : readers s.words ≡ publishers s.words
  as_many = eqb-true _ _ (not-false _ further_parts.0)

  pub publisher_fits : (p : ℕ) → p < publishers s.words → ParticipantFits s p
  publisher_fits p named =
      let f = retirement_fits s p (none_below (λ p. any_true (retirement_rows s p)) (publishers s.words) p further_parts.1 named) in
      let head = (undamaged_facts rules s no_damage).head in
      record {
        long = head.long;
        low = omega (arith, head.publishers_high);
        step_low = omega (arith, f.step_high, as_many, head.publishers_high);
        fits = f;
      }

  pub reader_number : readers s.words ≤ publishers_max
  reader_number = omega (arith, as_many, (undamaged_facts rules s no_damage).head.publishers_high)

  pub reader_fits : (r : ℕ) → r < readers s.words → ParticipantFits s r
  reader_fits r named = publisher_fits r (rw as_many at named)

  participant_stands : (p : ℕ) → p < publishers s.words → participant_fails s.words (publishers s.words) (slots s.words) p ≡ false
  participant_stands p named =
      let facts = undamaged_facts rules s no_damage in
      let f = (publisher_fits p named).fits in
      neither _ _
      (neither _ _ (facts.readers_undamaged p (rw as_many named)) (facts.publishers_undamaged p named))
      (neither _ _
      (neither _ _ (neither _ _ (le-ltb _ _ (rw as_many at f.step_high)) (le-ltb _ _ f.count_high))
      (and_not (eqb (publisher s p).place place_deferring) _ (λ e. let room = f.room (eqb-true (publisher s p).place 35 e) in ne_eqb (retirement s p).count 8 (λ eq. omega arith))))
      (no_below _ _ (λ i l. lt-leb _ _ (f.slots_below i l))))

-- What the code finds is damaged.
module _ (s : State) where
  pub scan_head : head_fails s ≡ true → damaged rules s ≡ true
  scan_head e = ⊎_elim (damaged_head rules s) (λ unequal. damaged_further rules s (or_left _ _ unequal)) (or_either (any_true (head_rows damage_rules s)) _ e)

  pub scan_participants : any_below (participant_fails s.words (publishers s.words) (slots s.words)) (publishers s.words) ≡ true → damaged rules s ≡ true
  scan_participants e = go (damaged rules s) refl
    where
      go : (d : Bool) → damaged rules s ≡ d → damaged rules s ≡ true
      go true d = d
      go false d = absurd (not_both _ e (no_below _ _ (participant_stands s d)))

  -- The whole test.
  pub scan_decides : head_fails s ≡ false → damaged rules s ≡ any_below (participant_fails s.words (publishers s.words) (slots s.words)) (publishers s.words)
  scan_decides head_ok = go (any_below (participant_fails s.words (publishers s.words) (slots s.words)) (publishers s.words)) refl
    where
      go : (b : Bool) → any_below (participant_fails s.words (publishers s.words) (slots s.words)) (publishers s.words) ≡ b → damaged rules s ≡ b
      go true e = scan_participants e
      go false e = scan_undamaged s head_ok e

-- PICK, outside a checkpoint and not at 35.
pub pick_is : (s : State) → damaged rules s ≡ false → (w' : List ℕ) (r slot : ℕ) (x : Reader) → r < readers s.words → (retirement s r).step ≡ 0 → (publisher s r).place ≢ place_deferring → x ≡ reader s r → slot ≡ current s.words
    → w' ≡ with_reader s.words r (x place≔ place_picked picked≔ slot) → outcome (Picked slot) (state w' s.entries) ≡ step rules s (Pick r)
pick_is s no_damage w' r slot x named outside-it turn is now put =
    rw (put, now, is) (sym (decide_accepts (pick_tests s r) (pick s r) s (lt-leb _ _ named, (rw (outside-it, ne_eqb _ 35 turn) refl, tt))) ∙ step_undamaged rules s (Pick r) no_damage)

-- CHECKPOINT, by its step.
module _ (s : State) (r : ℕ) where
  pub checkpoint_accepted : damaged rules s ≡ false → r < readers s.words → (publisher s r).place ≢ place_deferring → checkpoint s r ≡ step rules s (Checkpoint r)
  checkpoint_accepted no_damage named turn = sym (decide_accepts (checkpoint_tests s r) (checkpoint s r) s (lt-leb _ _ named, (ne_eqb _ 35 turn, tt))) ∙ step_undamaged rules s (Checkpoint r) no_damage

  pub checkpoint_loads : (retirement s r).step ≡ 0 → load s r ≡ checkpoint s r
  checkpoint_loads e = rw (eq-eqb (retirement s r).step 0 e) refl

  pub checkpoint_observes : (retirement s r).step ≡ 1 → observe s r ≡ checkpoint s r
  checkpoint_observes e = rw (ne_eqb (retirement s r).step 0 (λ z. omega arith), eq-eqb (retirement s r).step 1 e) refl

  pub checkpoint_reads : (retirement s r).step ≢ 0 → (retirement s r).step ≢ 1 → choose (eqb (retirement s r).step (readers s.words + 1)) (read_last s r) (read s r) ≡ checkpoint s r
  checkpoint_reads not-0 not-1 = rw (ne_eqb (retirement s r).step 0 not-0, ne_eqb (retirement s r).step 1 not-1) refl

-- The next participant's observed epoch, as a checkpoint takes it into the least.
module _ (n read least : ℕ) where
  pub least_starts : n ≡ 2 → read ≡ least_of n read least
  least_starts e = rw e refl

  pub least_lower : n ≢ 2 → read < least → read ≡ least_of n read least
  least_lower ne l = rw (ne_eqb n 2 ne, lt-ltb read least l) refl

  pub least_stays : n ≢ 2 → least ≤ read → least ≡ least_of n read least
  least_stays ne l = rw (ne_eqb n 2 ne, le-ltb read least l) refl

pub still_retires : (w : List ℕ) (r : ℕ) (x : Reader) → r < publishers_max → retirement_at (with_reader w r x) r ≡ retirement_at w r
still_retires w r x low = ap (λ (f : ℕ → Retirement). f r) (retirement_reader w r x (omega arith))

-- What each step of a checkpoint writes: the reader first, then the retirement as the words have it then.
module _ (w v : List ℕ) (r : ℕ) (x : Reader) (t : Retirement) (low : r < publishers_max) (retires : t ≡ retirement_at (with_reader w r x) r) where
  as_before : t ≡ retirement_at w r
  as_before = retires ∙ still_retires w r x low

  pub load_is : (y : Reader) (epoch : ℕ) → y ≡ reader_at w r → epoch ≡ version w → x ≡ (y place≔ place_out first≔ epoch) → v ≡ with_retirement (with_reader w r x) r (t step≔ 1)
      → (es : List ℤ) → outcome (At 1) (state v es) ≡ load (state w es) r
  load_is y epoch is loaded now put es = rw (put, as_before, now, loaded, is) refl

  pub observe_is : (y : Reader) → y ≡ reader_at w r → x ≡ (y published≔ y.first) → v ≡ with_retirement (with_reader w r x) r (t step≔ 2)
      → (es : List ℤ) → outcome (At 2) (state v es) ≡ observe (state w es) r
  observe_is y is now put es = rw (put, as_before, now, is) refl

  pub read_is : (k : ℕ) → k ≡ (retirement_at w r).step → x ≡ (reader_at w r second≔ least_of k (reader_at w (k - 2)).published (reader_at w r).second) → v ≡ with_retirement (with_reader w r x) r (t step≔ k + 1)
      → (es : List ℤ) → outcome (At (k + 1)) (state v es) ≡ read (state w es) r
  read_is k here is put es = rw (put, as_before, is, here) refl

pub freed_none : (w : List ℕ) (r count least : ℕ) → count ≡ 0 → with_retirement w r (record { step = 0; count = 0 }) ≡ freed w r count least
unfolding staying
freed_none w r count least e = rw e refl

pub freed_some : (w v : List ℕ) (r count least kept : ℕ) → stay v kept ≡ staying r least count 0 0 w → with_retirement v r (record { step = 0; count = kept }) ≡ freed w r count least
freed_some w v r count least kept e = ap (λ (k : Stay). with_retirement k.words r (record { step = 0; count = k.count })) e

pub read_last_is : (w v : List ℕ) (r k count : ℕ) (x : Reader) → k ≡ (retirement_at w r).step → count ≡ (retirement_at w r).count → x ≡ (reader_at w r second≔ least_of k (reader_at w (k - 2)).published (reader_at w r).second)
    → v ≡ freed (with_reader w r x) r count x.second → (es : List ℤ) → outcome (At (k + 1)) (state v es) ≡ read_last (state w es) r
read_last_is w v r k count x here some is put es = rw (put, is, some, here) refl

-- DEFER is refused inside a checkpoint and elsewhere than at 34 and 35.
module _ (s : State) (no_damage : damaged rules s ≡ false) (p : ℕ) (named : p < publishers s.words) where
  turn_refused : not (eqb (publisher s p).place place_swapped || deferring s p) || in_checkpoint s p ≡ true → outcome (Refused publisher_turn_number) s ≡ step rules s (Defer p)
  unfolding step
  turn_refused wrong = rw (no_damage, lt-leb _ _ named, wrong) refl

  pub defer_inside : (retirement s p).step ≢ 0 → outcome (Refused publisher_turn_number) s ≡ step rules s (Defer p)
  defer_inside inside = turn_refused (or_right (not (eqb (publisher s p).place place_swapped || deferring s p)) _ (rw (ne_eqb _ 0 inside) refl))

  pub defer_elsewhere : (publisher s p).place ≢ place_swapped → (publisher s p).place ≢ place_deferring → outcome (Refused publisher_turn_number) s ≡ step rules s (Defer p)
  defer_elsewhere not_34 not_35 = turn_refused (rw (ne_eqb _ 34 not_34, ne_eqb _ 35 not_35) refl)

-- It is accepted at 34 and at 35.
module _ (s : State) (no_damage : damaged rules s ≡ false) (p : ℕ) (named : p < publishers s.words) (outside-it : (retirement s p).step ≡ 0) where
  pub defer_raises : (publisher s p).place ≡ place_swapped → version s.words ≢ last_version → (retirement s p).count ≢ deferred_max → raise_epoch s p ≡ step rules s (Defer p)
  defer_raises turn below few = raises ∙ sym (decide_accepts (defer_tests s p) (defer s p) s (lt-leb _ _ named, (rw (turn, outside-it) refl, (rw (turn, ne_eqb _ last_version below) refl, (rw (turn, ne_eqb _ 8 few) refl, tt))))) ∙ step_undamaged rules s (Defer p) no_damage
    where
      raises : raise_epoch s p ≡ defer s p
      raises = rw (eq-eqb (publisher s p).place 34 turn) refl

  pub defer_queues : (publisher s p).place ≡ place_deferring → queue s p ≡ step rules s (Defer p)
  defer_queues turn = queues ∙ sym (decide_accepts (defer_tests s p) (defer s p) s (lt-leb _ _ named, (rw (turn, outside-it) refl, (rw turn refl, (rw turn refl, tt))))) ∙ step_undamaged rules s (Defer p) no_damage
    where
      queues : queue s p ≡ defer s p
      queues = rw (ne_eqb (publisher s p).place 34 (λ z. omega arith)) refl

-- What each DEFER writes.
module _ (w w' : List ℕ) (p : ℕ) (x : Reader) (y : Publisher) (reads : x ≡ reader_at w p) (publishes : y ≡ publisher_at w p) where
  pub raise_epoch_is : (epoch : ℕ) → epoch ≡ version w + 1
      → w' ≡ with_version (with_publisher (with_reader w p (x place≔ place_out)) p (y at_place place_deferring walk≔ (y.walk mark≔ epoch))) epoch
      → (es : List ℤ) → outcome (At place_deferring) (state w' es) ≡ raise_epoch (state w es) p
  raise_epoch_is epoch raised put es = rw (put, raised, reads, publishes) refl

  pub queue_is : (t : Retirement) → t ≡ retirement_at w p
      → w' ≡ with_retirement (with_retired (with_publisher (with_reader w p (x published≔ y.walk.mark)) p (y at_place place_idle)) p t.count (record { slot = y.held; mark = y.walk.mark })) p (t count≔ t.count + 1)
      → (es : List ℤ) → outcome (At place_idle) (state w' es) ≡ queue (state w es) p
  queue_is t retires put es = rw (put, reads, publishes, retires) refl

-- Making. No version of 64 bits is above the last.
pub version_fits : (ver : ℕ) → ver ≤ number_max → false ≡ versions.too_large ver
version_fits ver l = sym (le-ltb last_version ver l)

first_of_three : (b c : Bool) → eqb (choose b damaged_number (choose c bad_readers_number bad_publishers_number)) 0 ≡ false
first_of_three true c = refl
first_of_three false true = refl
first_of_three false false = refl

-- The shared making is given the number of publishers if it is that of the readers, and else 0: so unequal numbers get 3 in its turn.
pub making_as_many : (rs ps ss ver : ℕ) (table : List ℤ) (s after : State) (n : ℕ) (a : Reply)
    → n ≡ first_of (making_tests false versions (given rs (choose (eqb ps rs) ps 0) ss ver table) s) → a ≡ choose (eqb n 0) Made (Refused n)
    → after ≡ choose (eqb n 0) (made kind_rest (blank_reader ver) (given rs (choose (eqb ps rs) ps 0) ss ver table) s) s
    → outcome a after ≡ making rules (given rs ps ss ver table) s
making_as_many rs ps ss ver table s after n a first said left = go (eqb ps rs) refl first left
  where
    go : (same : Bool) → eqb ps rs ≡ same → n ≡ first_of (making_tests false versions (given rs (choose same ps 0) ss ver table) s)
        → after ≡ choose (eqb n 0) (made kind_rest (blank_reader ver) (given rs (choose same ps 0) ss ver table) s) s → outcome a after ≡ making rules (given rs ps ss ver table) s
    go true e first left = making_is rules (given rs ps ss ver table) s after n a (first ∙ rw e refl) said left
    go false e first left =
        let refused : eqb n 0 ≡ false = rw first (first_of_three (not (eqb (length s.words) words_length)) (outside 1 readers_max rs)) in
        making_is rules (given rs ps ss ver table) s after n a (first ∙ rw e refl) said (left ∙ rw refused refl)
