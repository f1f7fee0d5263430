-- The theorems about the new store. Assumes nothing.
use Rattle.std.specs.Prelude.{ℕ, ◌<◌, ◌≤◌, ◌≡◌, refl, Bool, true, false, List, leb, ltb, eqb}
use Rattle.std.proofs.Common.{arith, sym, ◌∙◌, subst, eqb-true, leb-true, leb-false, ltb-false}
use Rattle.base.specs.RowLaws.{or_false}
use Rattle.calls.specs.declared.Call.{Call}
use Rattle.calls.specs.declared.Call.TheVariants.{Walk}
use Rattle.calls.specs.declared.Reply.TheVariants.{Walked}
use Rattle.calls.specs.declared.WalkReply.{WalkReply}
use Rattle.calls.specs.declared.WalkReply.TheVariants.{Waiting, Spent, Quiet, Returned}
use Rattle.calls.specs.Numbers.{place_published, place_raised}
use Rattle.calls.specs.Events.{accepted}
use Rattle.calls.specs.Tally.{tally_of}
use Rattle.layout.specs.Layout.{readers, publishers, slots, reader_at}
use Rattle.statement.specs.Machine.{State, Given, Fresh, events, after_all}
use Rattle.statement.specs.Demand3.{Demand3}
use Rattle.statement.specs.KeptInvariant.{Ghost, ghost₀, all_tally}
use Rattle.statement.specs.FreeSlot.{FindsFreeSlot}
use Rattle.publication_law.specs.Steps.{reader, publisher}
use Rattle.publication_law.specs.Table.{step}
use Rattle.publication_law.specs.DamageLaws.{Undamaged}
use Rattle.publication_law.specs.KindLaw.{undamaged_publisher}
use Rattle.publication_law.specs.KindShows.{WholeInvariant}
use Rattle.publication_law.specs.DetectorInvariant.{invariant_of}
use Rattle.publication_law.specs.Promises.{Promises, WalkFacts}
use Rattle.publication_law.proofs.Promises.{promises_of, walk_facts}
use Rattle.publication_law.proofs.FreeSlot.{finds_free_slot_of}
use Rattle.grace_version_law.specs.Steps.{last_version, damage_rules, looked_at, looks_of, fixed, rules, GraceVersion}
use Rattle.grace_version_law.specs.Traits.{traits}
use Rattle.grace_version_law.specs.Walks.{Ends}
use Rattle.grace_version_law.proofs.Walks.{looks_facts, spent_if}
use Rattle.grace_version_law.specs.KindInvariant.{detector}
use Rattle.grace_version_law.proofs.Safety.{law, next_below, kind_shows, new_reached}
use Rattle.grace_version_law.specs.Promises.{WalkLooks}

pub new_promises : Promises rules traits
new_promises = promises_of fixed traits kind_shows

pub new_demand3 : Demand3 GraceVersion (λ z. z.table)
new_demand3 = new_promises.every.demand3

pub new_walk_zero : (s : State) (p : ℕ) → (step rules s (Walk p 0)).reply ≡ Walked Spent → (step rules s (Walk p 0)).after ≡ s
new_walk_zero = new_promises.walk_zero

pub new_walk_facts : (s : State) (p b : ℕ) → accepted (step rules s (Walk p b)).reply ≡ true
    → let result = looks_of s (publisher s p).walk b in WalkFacts s p result (WalkLooks s p b result) (step rules s (Walk p b))
new_walk_facts s p b = walk_facts fixed s p b (WalkLooks s p b (looks_of s (publisher s p).walk b)) (λ no_damage lt turn.
    let low = next_below _ _ (publisher s p) (no_damage.publishers_undamaged p lt) (rw (eqb-true (publisher s p).place 37 turn) refl) in record {
      looks_are = looks_facts s.words (readers s.words) (publisher s p).walk.mark (publisher s p).walk.waits b (publisher s p).walk.next (publisher s p).walk.looks low;
      spent_exactly = λ l all. spent_if s.words (readers s.words) (publisher s p).walk.mark (publisher s p).walk.waits b (publisher s p).walk.next (publisher s p).walk.looks l all;
    })

-- A WALK waits only for a reader that has published a version and not left since: never for one that never entered.
waiting_below : (w : List ℕ) (n mark start b nx lk wt r : ℕ) (a : WalkReply) → Ends w n mark start b nx lk wt a → a ≡ Waiting r → (r ≡ looked_at n nx) × (nx < n) × ((reader_at w r).published < mark)
waiting_below w n mark start b nx lk wt r (Waiting r') e d = let f : r' ≡ r = cc in (sym f ∙ e.2, e.0, subst (λ (j : ℕ). (reader_at w j).published < mark) f e.3)
waiting_below w n mark start b nx lk wt r Spent e d = absurd (let no : ◌≡◌ {A = ℕ} 0 1 = cc in omega arith)
waiting_below w n mark start b nx lk wt r Quiet e d = absurd e
waiting_below w n mark start b nx lk wt r (Returned looks waits) e d = absurd (let no : ◌≡◌ {A = ℕ} 0 1 = cc in omega arith)

waits_published : (z : Given) (g : Ghost) (s : State) → WholeInvariant damage_rules (invariant_of detector) z g s → (p b r : ℕ) → (step rules s (Walk p b)).reply ≡ Walked (Waiting r) → place_published ≤ g.tally.place r
waits_published z g s i p b r e =
    let result = looks_of s (publisher s p).walk b in
    let facts = walk_facts fixed s p b (result.reply ≡ Waiting r → place_published ≤ g.tally.place r) looks (rw e refl) in
    facts.looks_are (let e' : Walked result.reply ≡ Walked (Waiting r) = sym facts.reply_is ∙ e in cc)
  where
    looks : Undamaged damage_rules s → p < publishers s.words → eqb (publisher s p).place place_raised ≡ true → (looks_of s (publisher s p).walk b).reply ≡ Waiting r → place_published ≤ g.tally.place r
    looks no_damage lt turn e =
        let at37 = eqb-true (publisher s p).place 37 turn in
        let result = looks_of s (publisher s p).walk b in
        let low = next_below _ _ (publisher s p) (no_damage.publishers_undamaged p lt) (rw at37 refl) in
        let facts = looks_facts s.words (readers s.words) (publisher s p).walk.mark (publisher s p).walk.waits b (publisher s p).walk.next (publisher s p).walk.looks low in
        let seen = waiting_below s.words (readers s.words) (publisher s p).walk.mark (publisher s p).walk.next b _ _ _ r result.reply facts.ends e in
        let fits = (undamaged_publisher law (readers s.words) (slots s.words) (publisher s p) (no_damage.publishers_undamaged p lt)).mark_fits (omega arith) in
        let high = ltb-false last_version (publisher s p).walk.mark (or_false (eqb (publisher s p).walk.mark 0) (ltb last_version (publisher s p).walk.mark) fits).1 in
        go (leb place_published (reader s r).place) refl seen.2 high (omega (arith, seen.0, seen.1))
      where
        go : (d : Bool) → leb place_published (reader s r).place ≡ d → (reader s r).published < (publisher s p).walk.mark → (publisher s p).walk.mark ≤ last_version → r < readers s.words → place_published ≤ g.tally.place r
        go true d l high rn = omega (arith, leb-true 2 (reader s r).place d, i.shared.every.phases.places r)
        go false d l high rn = absurd (omega (arith, l, high, (i.own.readers_are r).out rn (let less = leb-false 2 (reader s r).place d in omega arith)))

pub new_waits_for : (s : State) (f : Fresh GraceVersion s) (cs : List Call) (p b r : ℕ)
    → (step rules (after_all GraceVersion s cs) (Walk p b)).reply ≡ Walked (Waiting r) → place_published ≤ (tally_of (events GraceVersion s cs)).place r
new_waits_for s f cs p b r e = rw (← all_tally (ghost₀ f.arguments.readers (traits.every.first_table f.arguments)) (events GraceVersion s cs)) (waits_published _ _ _ (new_reached s f cs) p b r e)

-- With more slots than publishers, an idle publisher always finds a free slot, and its claim of that slot is accepted.
pub new_finds_free_slot : FindsFreeSlot GraceVersion
new_finds_free_slot = finds_free_slot_of fixed traits kind_shows refl
