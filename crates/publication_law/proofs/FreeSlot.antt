-- With more slots than publishers, a publisher at place 0 finds a slot that is not in use: every other publisher holds at most one,
-- and the current slot is one more, in the place of the one that this publisher does not hold. Assumes nothing.
use Rattle.std.specs.Prelude.{ℕ, ◌<◌, ◌≡◌, refl, not, eqb}
use Rattle.std.proofs.Common.{arith, sym, ◌∙◌, eq-eqb}
use Rattle.std.proofs.Math.Bool.{false}
use Rattle.base.specs.Base.{choose}
use Rattle.base.specs.RowLaws.{clash, not_both, by_test, or_false, and_not, neither, same, at_or, none_below, no_below, missed}
use Rattle.calls.specs.Numbers.{place_idle}
use Rattle.calls.specs.Told.{holds, Has}
use Rattle.calls.specs.Told.Role.{free}
use Rattle.calls.specs.Tally.Phase.{idle}
use Rattle.layout.specs.Layout.{publishers, slots, current}
use Rattle.statement.specs.Machine.{State, Given, events, retires, holds_slot}
use Rattle.statement.specs.Companions.{GraceTraits}
use Rattle.statement.specs.FreeSlot.{FindsFreeSlot}
use Rattle.statement.specs.KeptInvariant.{Ghost, ghost₀, all_told, all_tally}
use Rattle.publication_law.specs.Steps.{publisher, in_use}
use Rattle.publication_law.specs.Table.{machine}
use Rattle.publication_law.specs.SectionRules.{SectionRules, table_by}
use Rattle.publication_law.specs.Damage.{DamageRules}
use Rattle.publication_law.specs.CoreLaws.{held_bound}
use Rattle.publication_law.specs.Invariant.{Invariant}
use Rattle.publication_law.proofs.Keeps.{slots_right, placed}
use Rattle.publication_law.specs.KindShows.{WholeInvariant, KindShows}
use Rattle.publication_law.proofs.KindShows.{reached, companions_of}

-- For every state. The slot that each publisher takes: its own, and for p, which is at place 0, the current one.
module _ (s : State) (p : ℕ) (at_0 : (publisher s p).place ≡ place_idle) where
  taken : ℕ → ℕ
  taken q = choose (eqb q p) (current s.words) (publisher s q).held

  untaken : (x : ℕ) → p < publishers s.words → ((q : ℕ) → q < publishers s.words → eqb (taken q) x ≡ false) → in_use false s x ≡ false
  unfolding taken
  untaken x lt none = neither (eqb (current s.words) x) _ (rw (same p) at (none p lt)) (no_below (λ q. holds_slot false s q x) (publishers s.words) unheld)
    where
      unheld : (q : ℕ) → q < publishers s.words → holds_slot false s q x ≡ false
      unheld = at_or p (λ l. rw (eq-eqb (publisher s p).place 0 at_0) refl) (λ q e l. and_not (not (eqb (publisher s q).place place_idle)) (eqb (publisher s q).held x) (λ _. rw e at (none q l)))

  pub spare_slot : p < publishers s.words → publishers s.words < slots s.words → (x : ℕ) × (x < slots s.words) × (in_use false s x ≡ false)
  spare_slot lt room = let spare = missed taken (publishers s.words) (slots s.words) room in (spare.0, spare.1, untaken spare.0 lt spare.2)

-- A slot that is not in use is told free.
unused_told : (K : DamageRules) (z : Given) (g : Ghost) (s : State) → Invariant K z g s → retires K.number ≡ false → (x : ℕ) → in_use false s x ≡ false → Has g.told x free
unused_told K z g s i none_retired x e =
    let recorded = slots_right K z g s i in
    let parts = or_false (eqb (current s.words) x) _ e in
    let unheld : (q : ℕ) → q < publishers s.words → holds g.told q x ≡ false = λ q l. sym (recorded.held q x) ∙ rw (i.no_damage.head.kind_is, none_retired) (none_below (λ q. holds_slot false s q x) (publishers s.words) q parts.1 l) in
    (rw recorded.current parts.0, λ q. by_test (holds g.told q x) (λ e. not_both _ e (unheld q (held_bound _ _ _ _ _ _ _ _ _ _ _ i.core q x e))))

module _ (R : SectionRules) (traits : GraceTraits) (L : KindShows R traits) where
  told_free : (z : Given) (g : Ghost) (s : State) → WholeInvariant R.damage L.KindInvariant z g s → z.publishers < z.slots → (p : ℕ) → p < z.publishers → g.tally.phase p ≡ idle
      → (x : ℕ) × (x < z.slots) × Has g.told x free
  told_free z g s i room p pn idle-now =
      let sized = i.shared.every.sized in
      let spare = spare_slot s p (placed R.damage z g s i.shared.every p idle idle-now) (omega (arith, sized.publishers_are)) (omega (arith, sized.publishers_are, sized.slots_are)) in
      (spare.0, omega (arith, sized.slots_are, spare.1), unused_told R.damage z g s i.shared.every L.none_retired spare.0 spare.2)

  -- Of a kind whose claims are not exclusive.
  pub finds_free_slot_of : traits.every.exclusive ≡ false → FindsFreeSlot (machine (table_by R))
  finds_free_slot_of shared s f cs room p pn idle-now =
      let told_is = all_told (ghost₀ f.arguments.readers (traits.every.first_table f.arguments)) (events (machine (table_by R)) s cs) in
      let spare = told_free f.arguments _ _ (reached R traits L s f cs) room p pn (rw (all_tally (ghost₀ f.arguments.readers (traits.every.first_table f.arguments)) (events (machine (table_by R)) s cs)) idle-now) in
      let found = rw told_is at spare.2 in record {
        slot = spare.0;
        below = spare.1;
        is_free = found;
        claimed = (companions_of R traits L s f cs).every.state_companions.claims p spare.0 pn spare.1 found idle-now (λ e. clash (sym e ∙ shared));
      }
