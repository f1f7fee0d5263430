-- What refutes a store: no LEAVE among some events; and demand 3's returns with sections counted as open from another place. Assumes nothing.
use Rattle.std.specs.Prelude.{ℕ, ◌≡◌, refl, Bool, true, false, ◌||◌, List, [], ◌∷◌, ◌++◌, ℤ, eqb}
use Rattle.std.proofs.Common.{sym, ap, ◌∙◌, eqb-true}
use Rattle.std.proofs.Math.Option.{Option, none, some}
use Rattle.base.specs.Base.{choose, upd, is}
use Rattle.base.specs.RowLaws.{clash, or_right}
use Rattle.calls.specs.declared.Call.{Call}
use Rattle.calls.specs.declared.Call.TheVariants.{Enter, Look, Leave, Claim, Write, Swap, Sync, Raise, Walk, Release, Pick, Checkpoint, Defer}
use Rattle.calls.specs.declared.Reply.{Reply}
use Rattle.calls.specs.declared.Reply.TheVariants.{Walked}
use Rattle.calls.specs.declared.WalkReply.TheVariants.{Returned}
use Rattle.calls.specs.Numbers.{place_open, place_picked}
use Rattle.calls.specs.Events.{Event, accepted, place_of, moved_by, fold_events}
use Rattle.calls.specs.Events.Event.{◌⇒◌}
use Rattle.calls.specs.Told.{Told, told₀, tell, after_enter, with_section, after_checkpoint}
use Rattle.statement.specs.Machine.{State, Given, Machine, Fresh, events, after_all}
use Rattle.statement.specs.Demand3.{LeftIn, Demand3}

is_leave : Call → Bool
is_leave (Enter r) = false
is_leave (Look r k) = false
is_leave (Leave r) = true
is_leave (Claim p slot) = false
is_leave (Write p v) = false
is_leave (Swap p) = false
is_leave (Sync p) = false
is_leave (Raise p) = false
is_leave (Walk p b) = false
is_leave (Release p) = false
is_leave (Pick r) = false
is_leave (Checkpoint r) = false
is_leave (Defer p) = false

-- Whether some event is a LEAVE.
unfoldable pub some_leave : List Event → Bool
unfolding is_leave
some_leave [] = false
some_leave ((c ⇒ a) ∷ es) = is_leave c || some_leave es

leave_among : (before behind : List Event) (r : ℕ) (a : Reply) → some_leave (before ++ (Leave r ⇒ a) ∷ behind) ≡ true
unfolding some_leave
leave_among [] behind r a = refl
leave_among ((c ⇒ a') ∷ before) behind r a = or_right (is_leave c) (some_leave (before ++ (Leave r ⇒ a) ∷ behind)) (leave_among before behind r a)

pub not_left : (r : ℕ) (es : List Event) → some_leave es ≡ false → LeftIn r es → ⊥
not_left r es e l = clash (sym-true (leave_among l.before l.behind r l.reply) (ap some_leave l.here) e)
  where
    sym-true : {d f : Bool} → f ≡ true → d ≡ f → d ≡ false → true ≡ false
    sym-true p q n = cc

-- A reader's section as if it were open from its ENTER that replies this place until its next accepted LEAVE.
abbrev pub opened_from : ℕ → (ℕ → Bool) → Call → Reply → ℕ → Bool
opened_from place opened (Enter r) a = upd opened r (is (place_of a) place || opened r)
opened_from place opened (Look r k) a = opened
opened_from place opened (Leave r) a = upd opened r false
opened_from place opened (Claim p slot) a = opened
opened_from place opened (Write p v) a = opened
opened_from place opened (Swap p) a = opened
opened_from place opened (Sync p) a = opened
opened_from place opened (Raise p) a = opened
opened_from place opened (Walk p b) a = opened
opened_from place opened (Release p) a = opened
opened_from place opened (Pick r) a = opened
opened_from place opened (Checkpoint r) a = opened
opened_from place opened (Defer p) a = opened

-- Demand 3's returns, with sections counted so.
abbrev pub ReturnsFrom : ℕ → Machine → Type 0
ReturnsFrom place M = (s : State) → Fresh M s → (cs : List Call) (pre mid post : List Event) (p b looks waits r : ℕ) (a : Reply)
    → events M s cs ≡ pre ++ (Sync p ⇒ a) ∷ (mid ++ (Walk p b ⇒ Walked (Returned looks waits)) ∷ post) → accepted a ≡ true
    → fold_events (opened_from place) (λ r. false) pre r ≡ true → LeftIn r mid

-- The events of a list in two parts.
pub events_append : (M : Machine) (s : State) (cs ds : List Call) → events M s (cs ++ ds) ≡ events M s cs ++ events M (after_all M s cs) ds
events_append M s [] ds = refl
events_append M s (c ∷ cs) ds = ap (λ (es : List Event). (c ⇒ (M.step s c).reply) ∷ es) (events_append M (M.step s c).after cs ds)

-- Counted from place 4 it is demand 3's own.
inside_same : (es : List Event) (opened : ℕ → Bool) (t : Told) → ((r : ℕ) → opened r ≡ t.inside r) → (r : ℕ) → fold_events (opened_from place_open) opened es r ≡ (fold_events tell t es).inside r
inside_same [] opened t e r = e r
inside_same ((c ⇒ a) ∷ es) opened t e r = inside_same es (moved_by (opened_from place_open) opened (c ⇒ a)) (moved_by tell t (c ⇒ a)) (one c (accepted a)) r
  where
    other : (q j : ℕ) (left right : Bool) → left ≡ right → upd opened q left j ≡ upd t.inside q right j
    other q j left right d = go (eqb j q)
      where
        go : (test : Bool) → choose test left (opened j) ≡ choose test right (t.inside j)
        go true = d
        go false = e j

    enters : (q j : ℕ) (place : Option ℕ) → upd opened q (is place place_open || opened q) j ≡ (after_enter t q place).inside j
    enters q j place = go (is place place_open) (is place place_picked)
      where
        stay : (test : Bool) → eqb j q ≡ test → upd opened q (opened q) j ≡ t.inside j
        stay true d = rw (d, eqb-true j q d) (e q)
        stay false d = rw d (e j)

        go : (opens picks : Bool) → upd opened q (opens || opened q) j ≡ (choose opens (with_section t q true none) (choose picks (with_section t q (t.inside q) t.current) t)).inside j
        go true picks = other q j true true refl
        go false true = other q j (opened q) (t.inside q) (e q)
        go false false = stay (eqb j q) refl

    checked : (r : ℕ) (step : Option ℕ) (j : ℕ) → opened j ≡ (after_checkpoint t r step).inside j
    checked r none j = e j
    checked r (some k) j = e j

    one : (c : Call) (taken : Bool) (j : ℕ) → choose taken (opened_from place_open opened c a) opened j ≡ (choose taken (tell t c a) t).inside j
    one c false j = e j
    one (Enter q) true j = enters q j (place_of a)
    one (Look q k) true j = e j
    one (Leave q) true j = other q j false false refl
    one (Claim p slot) true j = e j
    one (Write p v) true j = e j
    one (Swap p) true j = e j
    one (Sync p) true j = e j
    one (Raise p) true j = e j
    one (Walk p b) true j = e j
    one (Release p) true j = e j
    one (Pick r) true j = e j
    one (Checkpoint r) true j = checked r (place_of a) j
    one (Defer p) true j = e j

pub returns_from_4 : (M : Machine) (first : Given → List ℤ) → Demand3 M first → ReturnsFrom place_open M
returns_from_4 M first promise s f cs pre mid post p b looks waits r a e ok inside = (promise s f cs).returns pre mid post p b looks waits r a e ok (sym (inside_same pre (λ r. false) (told₀ f.arguments.readers) (λ r. refl) r) ∙ inside)
