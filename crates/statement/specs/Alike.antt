-- Two machines are alike if they have the same making, and the same steps on every state that the first reaches from a fresh one.
-- What is promised of the first after every list of calls is then true of the second: its events and states are the same ones; and so is every example
-- that is a making, begins with an accepted one, or is of a state on which their steps are the same. Assumes nothing.
use Rattle.std.specs.Prelude.{◌≡◌, refl, Bool, true, ◌&&◌, List, [], ◌∷◌, ℤ}
use Rattle.std.proofs.Common.{sym, ap, ◌∙◌}
use Rattle.calls.specs.declared.Call.{Call}
use Rattle.calls.specs.declared.Call.TheVariants.{Enter, Look, Leave, Claim, Write, Swap, Sync, Raise, Walk, Release}
use Rattle.calls.specs.declared.Reply.{Reply}
use Rattle.calls.specs.declared.Reply.TheVariants.{Made, Left}
use Rattle.calls.specs.Events.{accepted}
use Rattle.calls.specs.Model.{Model}
use Rattle.calls.specs.Told.{Told}
use Rattle.calls.specs.Tally.{Tally}
use Rattle.statement.specs.Machine.{State, outcome, Given, Machine, Fresh, events, after_all}
use Rattle.statement.specs.Demand3.{Demand3}
use Rattle.statement.specs.Looks.{LooksInRange, FirstTableUntilSwap}
use Rattle.statement.specs.Companions.{Traits, GraceTraits, MakingAccepts, MakingOnly, MakesFresh, StateCompanions, GraceStateCompanions, Companions, GraceCompanions}
use Rattle.statement.specs.Examples.{lent_for, replies, replies_after, replies_from, replies_on, lead_to, Example, Holds, AllHold}
use Rattle.statement.specs.Examples.Example.{shows, unchanged, makes, each}

pub record Alike (M N : Machine) : Type 0 where
  pub makings : (z : Given) (s : State) → N.making z s ≡ M.making z s
  pub steps : (s : State) → Fresh M s → (cs : List Call) (c : Call) → N.step (after_all M s cs) c ≡ M.step (after_all M s cs) c

-- The same example of another machine.
abbrev pub by : Machine → Example → Example
by N (shows M z ds cs due) = shows N z ds cs due
by N (unchanged M z ds c a) = unchanged N z ds c a
by N (makes M z s a) = makes N z s a
by N (each M s cs due) = each N s cs due

abbrev pub all_by : Machine → List Example → List Example
all_by N [] = []
all_by N (example ∷ rest) = by N example ∷ all_by N rest

abbrev first_reply : List Reply → Reply
first_reply [] = Left
first_reply (a ∷ rest) = a

-- The steps of M and N are the same on one state.
abbrev pub SameAt : Machine → Machine → State → Type 0
SameAt M N s = (c : Call) → N.step s c ≡ M.step s c

-- What makes an example of M one of N: it begins with an accepted making, it is a making, or their steps are the same on its state.
abbrev Carries : Machine → Machine → Example → Type 0
Carries M N (shows L z ds cs due) = (L ≡ M) × (first_reply due ≡ Made)
Carries M N (unchanged L z ds c a) = L ≡ M
Carries M N (makes L z s a) = L ≡ M
Carries M N (each L s cs due) = (L ≡ M) × SameAt M N s

abbrev pub AllCarry : Machine → Machine → List Example → Type 0
AllCarry M N [] = Unit {0}
AllCarry M N (example ∷ rest) = Carries M N example × AllCarry M N rest

module _ (M N : Machine) where
  -- From one state on: the steps are the same on every state that the first reaches from there.
  abbrev Agree : State → Type 0
  Agree s = (cs : List Call) (c : Call) → N.step (after_all M s cs) c ≡ M.step (after_all M s cs) c

  after_same : (s : State) → Agree s → (cs : List Call) → after_all N s cs ≡ after_all M s cs
  after_same s e [] = refl
  after_same s e (c ∷ cs) = rw (e [] c) (after_same (M.step s c).after (λ ds d. e (c ∷ ds) d) cs)

  events_same : (s : State) → Agree s → (cs : List Call) → events N s cs ≡ events M s cs
  events_same s e [] = refl
  events_same s e (c ∷ cs) = rw (e [] c, events_same (M.step s c).after (λ ds d. e (c ∷ ds) d) cs) refl

  replies_same : (s : State) → Agree s → (cs : List Call) → replies N s cs ≡ replies M s cs
  replies_same s e [] = refl
  replies_same s e (c ∷ cs) = rw (e [] c, replies_same (M.step s c).after (λ ds d. e (c ∷ ds) d) cs) refl

  replies_on_same : (s : State) → SameAt M N s → (cs : List Call) → replies_on N s cs ≡ replies_on M s cs
  replies_on_same s e [] = refl
  replies_on_same s e (c ∷ cs) = rw (e c, replies_on_same s e cs) refl

  led_same : (ok : Bool) (s : State) → Agree s → (ds cs : List Call) → replies_after N ok s ds cs ≡ replies_after M ok s ds cs
  led_same ok s e [] cs = rw (replies_same s e cs) refl
  led_same ok s e (d ∷ ds) cs = rw (e [] d) (led_same (ok && accepted (M.step s d).reply) (M.step s d).after (λ more c. e (d ∷ more) c) ds cs)

  module _ (z : Given) (h : Model) (t : Told) (u : Tally) (s : State) (e : (c : Call) → N.step s c ≡ M.step s c) where
    state_same : (traits : Traits) → StateCompanions M traits z h t u s → StateCompanions N traits z h t u s
    state_same traits known = record {
      undamaged = λ c has. rw (e c) (known.undamaged c has);
      lacked = λ c lacks. rw (e c) (known.lacked c lacks);
      named = λ c. rw (e c) (known.named c);
      in_turn = λ c. rw (e c) (known.in_turn c);
      reader_placed = known.reader_placed;
      publisher_placed = known.publisher_placed;
      writer_placed = known.writer_placed;
      looks = λ r k. rw (e (Look r k)) (known.looks r k);
      claims = λ p slot. rw (e (Claim p slot)) (known.claims p slot);
      busy = λ exclusive p slot. rw (e (Claim p slot)) (known.busy exclusive p slot);
      idle_if = known.idle_if;
      writes = λ p v. rw (e (Write p v)) (known.writes p v);
      swaps = λ p. rw (e (Swap p)) (known.swaps p);
    }

    grace_state_same : (traits : GraceTraits) → GraceStateCompanions M traits z h t u s → GraceStateCompanions N traits z h t u s
    grace_state_same traits known = record {
      enters = λ r. rw (e (Enter r)) (known.enters r);
      leaves = λ r. rw (e (Leave r)) (known.leaves r);
      idle_only_if = known.idle_only_if;
      syncs = λ p. rw (e (Sync p)) (known.syncs p);
      syncs_not_at_last = λ p. rw (e (Sync p)) (known.syncs_not_at_last p);
      raises = λ p. rw (e (Raise p)) (known.raises p);
      walks = λ p b. rw (e (Walk p b)) (known.walks p b);
      frees = λ p. rw (e (Release p)) (known.frees p);
      counted = known.counted;
    }

  module _ (like : Alike M N) where
    abbrev pub fresh_alike : (s : State) → Fresh N s → Fresh M s
    fresh_alike s f = record { arguments = f.arguments; lent = f.lent; made = sym (like.makings f.arguments f.lent) ∙ f.made }

    pub after_alike : (s : State) → Fresh N s → (cs : List Call) → after_all N s cs ≡ after_all M s cs
    after_alike s f cs = after_same s (like.steps s (fresh_alike s f)) cs

    pub events_alike : (s : State) → Fresh N s → (cs : List Call) → events N s cs ≡ events M s cs
    events_alike s f cs = events_same s (like.steps s (fresh_alike s f)) cs

    pub demand3_alike : (first : Given → List ℤ) → Demand3 M first → Demand3 N first
    demand3_alike first promise s f cs =
        let known = promise s (fresh_alike s f) cs in
        let q = sym (events_alike s f cs) in record {
          looks = λ pre post r k a e. known.looks pre post r k a (q ∙ e);
          returns = λ pre mid post p b looks waits r a e. known.returns pre mid post p b looks waits r a (q ∙ e);
          slots = rw (events_alike s f cs, after_alike s f cs) known.slots;
          picks = rw (events_alike s f cs) known.picks;
          claims = λ pre post p slot r a e. known.claims pre post p slot r a (q ∙ e);
        }

    pub companions_alike : (traits : Traits) → Companions M traits → Companions N traits
    companions_alike traits promise s f cs =
        let known = promise s (fresh_alike s f) cs in record {
          state_companions = rw (events_alike s f cs, after_alike s f cs) (state_same f.arguments _ _ _ (after_all M s cs) (like.steps s (fresh_alike s f) cs) traits known.state_companions);
          tables = rw (events_alike s f cs) known.tables;
        }

    pub grace_companions_alike : (traits : GraceTraits) → GraceCompanions M traits → GraceCompanions N traits
    grace_companions_alike traits promise s f cs =
        let known = promise s (fresh_alike s f) cs in
        let q = sym (events_alike s f cs) in record {
          every = companions_alike traits.every (λ s f cs. (promise s f cs).every) s f cs;
          state_companions = rw (events_alike s f cs, after_alike s f cs) (grace_state_same f.arguments _ _ _ (after_all M s cs) (like.steps s (fresh_alike s f) cs) traits known.state_companions);
          returns_after = λ pre post p b looks waits e. known.returns_after pre post p b looks waits (q ∙ e);
          releases_after = λ pre post p a e. known.releases_after pre post p a (q ∙ e);
          looks_are = λ pre post p b looks waits e. known.looks_are pre post p b looks waits (q ∙ e);
          waits_are = λ pre post p b looks waits e. known.waits_are pre post p b looks waits (q ∙ e);
        }

    pub looks_in_range_alike : LooksInRange M → LooksInRange N
    looks_in_range_alike promise s f cs pre post r k a e = promise s (fresh_alike s f) cs pre post r k a (sym (events_alike s f cs) ∙ e)

    pub first_table_until_swap_alike : FirstTableUntilSwap M → FirstTableUntilSwap N
    first_table_until_swap_alike promise s f cs pre post r k a e = promise s (fresh_alike s f) cs pre post r k a (sym (events_alike s f cs) ∙ e)

    pub making_accepts_alike : (traits : Traits) → MakingAccepts M traits → MakingAccepts N traits
    making_accepts_alike traits promise z s = rw (like.makings z s) (promise z s)

    pub making_only_alike : (traits : Traits) → MakingOnly M traits → MakingOnly N traits
    making_only_alike traits promise z s = rw (like.makings z s) (promise z s)

    pub makes_fresh_alike : (traits : Traits) → MakesFresh M traits → MakesFresh N traits
    makes_fresh_alike traits promise s f = promise s (fresh_alike s f)

    -- From an accepted making on: the same replies, and the same states.
    made_fresh : (z : Given) (s : State) → (M.making z s).reply ≡ Made → Fresh M (M.making z s).after
    made_fresh z s e = record { arguments = z; lent = s; made = ap (λ a. outcome a (M.making z s).after) e }

    played_alike : (z : Given) (ds cs : List Call) → (M.making z (lent_for z)).reply ≡ Made → replies_from N z ds cs ≡ replies_from M z ds cs
    played_alike z ds cs e =
        rw (like.makings z (lent_for z), led_same true (M.making z (lent_for z)).after (like.steps _ (made_fresh z (lent_for z) e)) ds cs) refl

    lead_alike : (z : Given) (ds : List Call) → (M.making z (lent_for z)).reply ≡ Made → lead_to N z ds ≡ lead_to M z ds
    lead_alike z ds e = rw (like.makings z (lent_for z)) (after_same (M.making z (lent_for z)).after (like.steps _ (made_fresh z (lent_for z) e)) ds)

    shows_alike : (z : Given) (ds cs : List Call) (due : List Reply) → first_reply due ≡ Made → replies_from M z ds cs ≡ due → replies_from N z ds cs ≡ due
    shows_alike z ds cs due e shown = played_alike z ds cs (ap first_reply shown ∙ e) ∙ shown

    unchanged_alike : (z : Given) (ds : List Call) (c : Call) (a : Reply) → Holds (unchanged M z ds c a) → Holds (unchanged N z ds c a)
    unchanged_alike z ds c a shown =
        let e = ap first_reply shown.0 in (
          played_alike z ds (c ∷ []) e ∙ shown.0,
          rw (lead_alike z ds e, like.steps _ (made_fresh z (lent_for z) e) ds c) shown.1,
        )

    holds_alike : (example : Example) → Carries M N example → Holds example → Holds (by N example)
    holds_alike (shows L z ds cs due) carries held = shows_alike z ds cs due carries.1 (rw carries.0 at held)
    holds_alike (unchanged L z ds c a) carries held = unchanged_alike z ds c a (rw carries at held)
    holds_alike (makes L z s a) carries held = rw (like.makings z s) (rw carries at held)
    holds_alike (each L s cs due) carries held = replies_on_same s carries.1 cs ∙ (rw carries.0 at held)

    pub all_hold_alike : (examples : List Example) → AllCarry M N examples → AllHold examples → AllHold (all_by N examples)
    all_hold_alike [] carries held = tt
    all_hold_alike (example ∷ rest) carries held = (holds_alike example carries.0 held.0, all_hold_alike rest carries.1 held.1)
