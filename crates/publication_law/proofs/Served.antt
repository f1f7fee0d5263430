-- What every kind serves of LOOK, CLAIM, WRITE and SWAP, from what every kind keeps: at a state where these calls are the shared ones. Assumes nothing.
use Rattle.std.specs.Prelude.{ℕ, ◌+◌, ◌<◌, ◌≤◌, ◌≡◌, refl, ◌≢◌, Bool, true, false, not, ◌&&◌, ℤ, length, leb, eqb}
use Rattle.std.proofs.Common.{arith, sym, ap, ◌∙◌, eqb-true, eq-eqb, ne_eqb, leb-false, le-ltb}
use Rattle.std.proofs.Math.Option.{some}
use Rattle.std.proofs.lemmas.Bool.{eqb-false, lt-leb, not-true, not-false}
use Rattle.base.specs.RowLaws.{clash, and_not, negated, within, not_outside, no_below, some_below, AllClear}
use Rattle.calls.specs.declared.Call.TheVariants.{Look, Claim, Write, Swap}
use Rattle.calls.specs.declared.Reply.TheVariants.{Pitch, Claimed, Written, Swapped, Refused}
use Rattle.calls.specs.FirstTable.{out_of_range}
use Rattle.calls.specs.Numbers.{table_length, place_picked, place_idle, busy_number, place_returned}
use Rattle.calls.specs.Events.{accepted}
use Rattle.calls.specs.Model.{entry}
use Rattle.calls.specs.Told.{Has}
use Rattle.calls.specs.Told.Role.{free}
use Rattle.calls.specs.Tally.{Phase, first_place}
use Rattle.calls.specs.Tally.Phase.{idle, writing, swapped, synchronising, quiet, raised, returned}
use Rattle.layout.specs.Layout.{readers, publishers, slots, current}
use Rattle.statement.specs.Machine.{State, Outcome, Given, Machine, retires}
use Rattle.statement.specs.KeptInvariant.{Ghost}
use Rattle.publication_law.specs.Steps.{reader, publisher, another_busy, look_tests, look, claim_tests, claim, write_tests, write, swap_tests, swap}
use Rattle.publication_law.proofs.Clear.{claim_clear, claim_rows_lem}
use Rattle.publication_law.specs.Damage.{DamageRules}
use Rattle.publication_law.specs.Decide.{decided, decide_accepts}
use Rattle.publication_law.specs.Phases.{phase_at}
use Rattle.publication_law.specs.PhaseLaws.{InPhase, phase_writing}
use Rattle.publication_law.specs.Invariant.{Invariant}
use Rattle.publication_law.proofs.Keeps.{claim_unpicked, look_right, placed, busy_told, free_told}
use Rattle.publication_law.specs.Served.{SharedCalls}

module _ (K : DamageRules) (z : Given) (g : Ghost) (s : State) (i : Invariant K z g s) where
  -- Readers, publishers and slots as made are those of the store.
  pub named_reader : (r : ℕ) → r < z.readers → leb (readers s.words) r ≡ false
  named_reader r l = lt-leb (readers s.words) r (omega (arith, i.sized.readers_are))

  pub named_publisher : (p : ℕ) → p < z.publishers → leb (publishers s.words) p ≡ false
  named_publisher p l = lt-leb (publishers s.words) p (omega (arith, i.sized.publishers_are))

  pub named_slot : (x : ℕ) → x < z.slots → leb (slots s.words) x ≡ false
  named_slot x l = lt-leb (slots s.words) x (omega (arith, i.sized.slots_are))

  -- .. and those of the store are the ones as made.
  -- The place of a publisher in the words is the one at which its phase begins, or tells how much it has written.
  pub publisher_placed : (p : ℕ) → (publisher s p).place ≤ place_returned → g.tally.phase p ≢ writing → (publisher s p).place ≡ first_place (g.tally.phase p)
  publisher_placed p high not-writing = go (g.tally.phase p) not-writing (placed K z g s i p (g.tally.phase p) refl)
    where
      go : (phase : Phase) → phase ≢ writing → InPhase (publisher s p).place phase → (publisher s p).place ≡ first_place phase
      go idle ne e = e
      go writing ne e = absurd (ne refl)
      go swapped ne e = e
      go synchronising ne e = e
      go quiet ne e = e
      go raised ne e = e
      go returned ne e = omega arith

  pub writer_placed : (p : ℕ) → g.tally.phase p ≡ writing → (publisher s p).place ≡ length (g.model.draft p) + 1
  writer_placed p e = let range = placed K z g s i p writing e in sym ((i.core.publishers p).drafted range.0 range.1)

  -- A call to which no row applies is in its turn.
  pub look_turn : (r k : ℕ) → AllClear (look_tests s r k) → g.tally.place r ≡ place_picked
  look_turn r k f = i.phases.places r ∙ eqb-true (reader s r).place 5 (not-false _ f.1.1.0)

  pub claim_turn : (exclusive : Bool) (p x : ℕ) → AllClear (claim_tests exclusive (retires K.number) s p x) → g.tally.phase p ≡ idle
  claim_turn exclusive p x f = i.phases.phases p ∙ ap phase_at (claim_clear exclusive (retires K.number) s p x f).in_turn

  pub write_turn : (p : ℕ) (v : ℤ) → AllClear (write_tests s p v) → (g.tally.phase p ≡ writing) × (length (g.model.draft p) < table_length)
  write_turn p v f =
      let range = within 1 32 (publisher s p).place f.1.1.0 in
      let drafted = (i.core.publishers p).drafted range.0 (omega (arith, range.1)) in
      (i.phases.phases p ∙ phase_writing (publisher s p).place range.0 (omega (arith, range.1)), omega (arith, drafted, range.1))

  pub swap_turn : (p : ℕ) → AllClear (swap_tests s p) → (g.tally.phase p ≡ writing) × (length (g.model.draft p) ≡ table_length)
  swap_turn p f =
      let at33 = eqb-true (publisher s p).place 33 (not-false _ f.1.0) in
      let drafted = (i.core.publishers p).drafted (omega arith) (omega arith) in
      (i.phases.phases p ∙ ap phase_at at33, omega (arith, drafted, at33))

  nobody_busy : (exclusive : Bool) (p : ℕ) → (exclusive ≡ true → (q : ℕ) → q ≢ p → g.tally.phase q ≡ idle) → (exclusive && another_busy s p) ≡ false
  nobody_busy exclusive p f = and_not exclusive (another_busy s p) (λ d. no_below _ (publishers s.words) (λ q l. and_not (not (eqb q p)) (not (eqb (publisher s q).place place_idle))
      (λ ne. negated _ (eq-eqb (publisher s q).place 0 (placed K z g s i q idle (f d q (eqb-false q p (not-true _ ne))))))))

  module _ (exclusive : Bool) (M : Machine) (served : SharedCalls exclusive (retires K.number) M s) where
    -- Demand 3's looks and claims.
    pub look_shelf : (r k : ℕ) → accepted (M.step s (Look r k)).reply ≡ true → (v : ℤ) × ((M.step s (Look r k)).reply ≡ Pitch v) × (entry (g.model.note r) k ≡ some v)
    look_shelf r k = rw (served.looks r k) (decided (λ (o : Outcome). accepted o.reply ≡ true → (v : ℤ) × (o.reply ≡ Pitch v) × (entry (g.model.note r) k ≡ some v)) (look_tests s r k) (look s r k) s refl
        (λ f ok. (_, refl, look_right K z g s i r k f)) (λ ok. clash (sym ok)))

    pub claim_not_picked : (p x r : ℕ) → accepted (M.step s (Claim p x)).reply ≡ true → ¬ (g.told.picked r ≡ some x)
    claim_not_picked p x r = rw (served.claims p x) (decided (λ (o : Outcome). accepted o.reply ≡ true → ¬ (g.told.picked r ≡ some x)) (claim_tests exclusive (retires K.number) s p x) (claim s p x) s refl
        (λ f ok. claim_unpicked K z g s i exclusive p x (claim_clear exclusive (retires K.number) s p x f) r) (λ ok. clash (sym ok)))

    -- The companions.
    pub look_accepted : (r k : ℕ) → r < z.readers → k < table_length → g.tally.place r ≡ place_picked → accepted (M.step s (Look r k)).reply ≡ true
    look_accepted r k rn k32 five = rw (
      served.looks r k,
      decide_accepts (look_tests s r k) (look s r k) s
          (named_reader r rn, (le-ltb 31 k (omega arith), (negated _ (eq-eqb (reader s r).place 5 (sym (i.phases.places r) ∙ five)), tt))),
    ) refl

    pub claims_on : (p x : ℕ) → p < z.publishers → x < z.slots → Has g.told x free → g.tally.phase p ≡ idle
        → (exclusive ≡ true → (q : ℕ) → q ≢ p → g.tally.phase q ≡ idle) → (M.step s (Claim p x)).reply ≡ Claimed x
    claims_on p x pn xn is_free idle-now others = rw (
      served.claims p x,
      decide_accepts (claim_tests exclusive (retires K.number) s p x) (claim s p x) s (claim_rows_lem exclusive (retires K.number) s p x (record {
        publisher_named_lem = leb-false _ _ (named_publisher p pn);
        slot_named = leb-false _ _ (named_slot x xn);
        in_turn = placed K z g s i p idle idle-now;
        nobody_busy = nobody_busy exclusive p others;
        unused = free_told K z g s i x is_free;
      })),
    ) refl

    pub refused_busy : exclusive ≡ true → (p x q : ℕ) → p < z.publishers → x < z.slots → g.tally.phase p ≡ idle → q ≢ p → g.tally.phase q ≢ idle
        → (M.step s (Claim p x)).reply ≡ Refused busy_number
    refused_busy e p x q pn xn idle-now ne busy =
        let busy-now = busy_told K z g s i q busy in
        let another : another_busy s p ≡ true = some_below (λ q. not (eqb q p) && not (eqb (publisher s q).place place_idle)) (publishers s.words) q busy-now.0 (rw (ne_eqb q p ne, busy-now.1) refl) in
        rw (served.claims p x, named_publisher p pn, named_slot x xn, eq-eqb (publisher s p).place 0 (placed K z g s i p idle idle-now), e, another) refl

    pub writes_on : (p : ℕ) (v : ℤ) → p < z.publishers → g.tally.phase p ≡ writing → length (g.model.draft p) < table_length → out_of_range v ≡ false
        → (M.step s (Write p v)).reply ≡ Written (length (g.model.draft p) + 1)
    writes_on p v pn ph short in_range =
        let at = placed K z g s i p writing ph in
        let drafted = (i.core.publishers p).drafted at.0 at.1 in
        rw (
          served.writes p v,
          decide_accepts (write_tests s p v) (write s p v) s
              (named_publisher p pn, (in_range, (not_outside 1 32 (publisher s p).place at.0 (omega arith), tt))),
        ) (ap Written (sym drafted))

    pub swaps_on : (p : ℕ) → p < z.publishers → g.tally.phase p ≡ writing → length (g.model.draft p) ≡ table_length → (x : ℕ) × (g.told.current ≡ some x) × ((M.step s (Swap p)).reply ≡ Swapped x)
    swaps_on p pn ph all =
        let at = placed K z g s i p writing ph in
        let drafted = (i.core.publishers p).drafted at.0 at.1 in
        (current s.words, i.core.current_is, rw (served.swaps p, decide_accepts (swap_tests s p) (swap s p) s (named_publisher p pn, (negated _ (eq-eqb (publisher s p).place 33 (omega arith)), tt))) refl)
