-- What the code of the new store asks of an undamaged store, and what its accepted calls give. Assumes nothing.
use Prim.Native.Nat.{ℕ, zero, suc, ◌-◌, ◌%◌, ◌<◌, ◌≤◌}
use native.Mathlib.Omega.{arith}
use Rattle.std.proofs.Math.Nat.{add-zero}
use Rattle.std.specs.Prelude.{◌≡◌, ◌≢◌, Bool, not, ◌&&◌, ◌||◌, List, leb, ltb}
use Rattle.std.proofs.Math.Path.{refl}
use Rattle.std.proofs.Common.{sym}
use Rattle.std.proofs.Math.Bool.{true, false}
use Rattle.std.proofs.Math.Dec.{eqb}
use borrow.Author.Tests.{ne_eqb, eqb-true, eqb-false, ltb-false, lt-leb, le-leb, le-ltb, lt-ltb, not-false}
use Rattle.base.specs.Base.{choose}
use Rattle.base.specs.Rows.{any_true}
use Rattle.base.specs.RowLaws.{clash, and_false, or_false, or_none, all_false}
use Rattle.calls.specs.declared.Call.TheVariants.{Enter, Leave}
use Rattle.calls.specs.declared.Reply.TheVariants.{At, Left}
use Rattle.calls.specs.declared.WalkReply.TheVariants.{Waiting, Spent, Returned}
use Rattle.calls.specs.Numbers.{place_out, place_loaded, place_published, place_loaded_again, place_open, place_picked, place_synchronising, place_quiet, place_raised, place_returned}
use Rattle.layout.specs.declared.Reader.{Reader}
use Rattle.layout.specs.declared.Publisher.{Publisher}
use Rattle.layout.specs.declared.WalkRecord.{WalkRecord}
use Rattle.layout.specs.declared.WalkResult.{WalkResult}
use Rattle.layout.specs.Layout.{readers, publishers, slots, current, version, reader_at, with_reader}
use Rattle.layout.specs.Records.{◌place≔◌, ◌first≔◌, ◌second≔◌, ◌published≔◌, ◌picked≔◌}
use Rattle.statement.specs.Machine.{State, state, outcome}
use Rattle.publication_law.specs.Steps.{reader, publisher}
use Rattle.publication_law.specs.Looks.{with_look}
use Rattle.publication_law.specs.Table.{damaged, step}
use Rattle.publication_law.proofs.Calls.{undamaged_facts, enter_accepted, leave_accepted}
use Rattle.grace_version_law.specs.Steps.{reader_rows, extra_rows, onward, leaving, looked_at, looks_from, fixed, rules}
use Rattle.grace_version_law.proofs.Safety.{next_below}

-- The damage test of a reader, by its place.
module _ (ss : ℕ) (x : Reader) where
  pub reader_loaded : x.place ≤ place_open → 2 ≤ x.place % 4 → any_true (reader_rows ss x) ≡ not (eqb x.published x.first)
  reader_loaded high low = go (eqb x.place place_published) refl
    where
      go : (test : Bool) → eqb x.place place_published ≡ test → any_true (reader_rows ss x) ≡ not (eqb x.published x.first)
      go true e = rw (eqb-true x.place 2 e) (or_none _)
      go false e = let three : x.place ≡ place_loaded_again = (let unequal = eqb-false x.place 2 e in omega arith) in rw three (or_none _)

  pub reader_rests : x.place ≤ place_open → x.place % 4 < 2 → any_true (reader_rows ss x) ≡ false
  reader_rests high low = rw (le-ltb 5 x.place (omega arith), ne_eqb x.place 5 (λ eq. omega arith), ne_eqb x.place 2 (λ eq. omega arith), ne_eqb x.place 3 (λ eq. omega arith)) refl

  pub reader_beyond : place_picked < x.place → any_true (reader_rows ss x) ≡ true
  reader_beyond l = rw (lt-ltb 5 x.place l) refl

-- What the kind adds to the damage test of a publisher, by its place.
module _ (rs : ℕ) (y : Publisher) where
  pub no_such_place : (ltb place_returned y.place || eqb y.place place_quiet) ≡ true → any_true (extra_rows rs y) ≡ true
  no_such_place e = go (ltb place_returned y.place) (eqb y.place place_quiet) (((eqb y.place place_synchronising || eqb y.place place_raised) && leb rs y.walk.next) || false) e
    where
      go : (beyond quiet rest : Bool) → beyond || quiet ≡ true → (beyond || (quiet || rest)) ≡ true
      go true quiet rest d = refl
      go false true rest d = refl
      go false false rest d = clash (sym d)

  pub extra_returned : y.place ≡ place_returned → any_true (extra_rows rs y) ≡ false
  extra_returned e = rw e refl

  pub extra_walking : place_synchronising ≤ y.place → (ltb place_returned y.place || eqb y.place place_quiet) ≡ false → y.place ≢ place_returned → any_true (extra_rows rs y) ≡ leb rs y.walk.next
  extra_walking late place ne =
      let parts = or_false (ltb place_returned y.place) (eqb y.place place_quiet) place in
      let high = ltb-false 38 y.place parts.0 in
      let other = eqb-false y.place 36 parts.1 in
      go high other (eqb y.place place_synchronising) refl
    where
      go : y.place ≤ place_returned → (y.place ≡ place_quiet → ⊥) → (test : Bool) → eqb y.place place_synchronising ≡ test → any_true (extra_rows rs y) ≡ leb rs y.walk.next
      go high other true e = rw (eqb-true y.place 35 e) (or_none _)
      go high other false e = let d : y.place ≡ place_raised = (let unequal = eqb-false y.place 35 e in omega arith) in rw d (or_none _)

-- At 3 a reader has published the version that it loaded first.
pub published_of : (s : State) → damaged rules s ≡ false → (r : ℕ) → r < readers s.words → (reader s r).place ≡ place_loaded_again → (reader s r).published ≡ (reader s r).first
published_of s e r named turn =
    let f = all_false (reader_rows (slots s.words) (reader s r)) ((undamaged_facts rules s e).readers_undamaged r named) in
    eqb-true _ _ (not-false _ (and_false (eqb (reader s r).place place_published || eqb (reader s r).place place_loaded_again) (not (eqb (reader s r).published (reader s r).first)) f.1.1.0 (rw turn refl)))

-- At 35 and at 37 a walk has readers left to pass.
pub next_low : (s : State) → damaged rules s ≡ false → (p : ℕ) → p < publishers s.words → (eqb (publisher s p).place place_synchronising || eqb (publisher s p).place place_raised) ≡ true → (publisher s p).walk.next < readers s.words
next_low s e p named turn = next_below (readers s.words) (slots s.words) (publisher s p) ((undamaged_facts rules s e).publishers_undamaged p named) turn

module _ (s : State) (no_damage : damaged rules s ≡ false) where
  pub enter_is : (w' : List ℕ) (r : ℕ) (x x' : Reader) → r < readers s.words → x ≡ reader s r → x.place < place_picked → x' ≡ onward (version s.words) (current s.words) x → w' ≡ with_reader s.words r x'
      → outcome (At x'.place) (state w' s.entries) ≡ step rules s (Enter r)
  enter_is w' r x x' named is turn moved put =
      rw (put, moved, is) (enter_accepted fixed s no_damage r x named is turn)

  pub leave_is : (w' : List ℕ) (r : ℕ) (x : Reader) → r < readers s.words → x ≡ reader s r → place_open ≤ x.place → w' ≡ with_reader s.words r (leaving x)
      → outcome Left (state w' s.entries) ≡ step rules s (Leave r)
  leave_is w' r x named is turn put =
      rw (put, is) (leave_accepted fixed s no_damage r x named is turn)

-- No place of ENTER's: 5 or beyond.
pub past_enter : (pl : ℕ) → pl ≢ place_out → pl ≢ place_loaded → pl ≢ place_published → pl ≢ place_loaded_again → pl ≢ place_open → place_picked ≤ pl
past_enter zero not-0 not-1 not-2 not-3 not-4 = absurd (not-0 refl)
past_enter (suc zero) not-0 not-1 not-2 not-3 not-4 = absurd (not-1 refl)
past_enter (suc (suc zero)) not-0 not-1 not-2 not-3 not-4 = absurd (not-2 refl)
past_enter (suc (suc (suc zero))) not-0 not-1 not-2 not-3 not-4 = absurd (not-3 refl)
past_enter (suc (suc (suc (suc zero)))) not-0 not-1 not-2 not-3 not-4 = absurd (not-4 refl)
past_enter (suc (suc (suc (suc (suc pl))))) not-0 not-1 not-2 not-3 not-4 = omega arith

-- A reader one place on, by its place.
module _ (ver cur : ℕ) (x : Reader) where
  pub onward_loads : (n : ℕ) → n ≡ ver → x.place ≡ place_out → (x place≔ place_loaded first≔ n) ≡ onward ver cur x
  unfolding onward
  onward_loads n d e = rw (d, e) refl

  pub onward_publishes : x.place ≡ place_loaded → (x place≔ place_published published≔ x.first) ≡ onward ver cur x
  unfolding onward
  onward_publishes e = rw e refl

  pub onward_loads_again : (n : ℕ) → n ≡ ver → x.place ≡ place_published → (x place≔ place_loaded_again second≔ n) ≡ onward ver cur x
  unfolding onward
  onward_loads_again n d e = rw (d, e) refl

  -- Where the two versions are equal, the second is published already.
  pub onward_publishes_second : x.place ≡ place_loaded_again → x.published ≡ x.first → (x place≔ place_open published≔ x.second) ≡ onward ver cur x
  unfolding onward
  onward_publishes_second e f = rw (e, f) (go (eqb x.first x.second) refl)
    where
      go : (test : Bool) → eqb x.first x.second ≡ test
          → (x place≔ place_open published≔ x.second) ≡ (x place≔ place_open published≔ choose test x.first x.second)
      go true d = rw (eqb-true x.first x.second d) refl
      go false d = refl

  pub onward_picks : (n : ℕ) → n ≡ cur → x.place ≡ place_open → (x place≔ place_picked picked≔ n) ≡ onward ver cur x
  unfolding onward
  onward_picks n d e = rw (d, e) refl

-- How the looks of a walk go on, by the first: none left, not passed, the last reader passed, another passed. A look leaves the walk moved.
module _ (w : List ℕ) (n : ℕ) (walk : WalkRecord) where
  abbrev looks_on : WalkRecord → ℕ → WalkResult
  looks_on walk' b = looks_from w n walk'.mark walk'.waits b walk'.next walk'.looks

  pub looks_spent : (b : ℕ) → b ≡ 0 → looks_on walk b ≡ record { walk = walk; reply = Spent }
  unfolding looks_from
  looks_spent b e = rw e refl

  pub looks_wait : (b : ℕ) (moved : WalkRecord) → 0 < b → moved ≡ with_look walk 0 1 → (reader_at w (looked_at n walk.next)).published < walk.mark → looks_on walk b ≡ record { walk = moved; reply = Waiting (looked_at n walk.next) }
  unfolding looks_from
  looks_wait zero moved l is e = absurd (omega arith)
  looks_wait (suc b) moved l is e = rw (is, add-zero walk.next, lt-ltb _ _ e) refl

  pub looks_return : (b : ℕ) (moved : WalkRecord) → 0 < b → moved ≡ with_look walk 1 0 → walk.mark ≤ (reader_at w (looked_at n walk.next)).published → n ≤ moved.next → looks_on walk b ≡ record { walk = moved; reply = Returned moved.looks moved.waits }
  unfolding looks_from
  looks_return zero moved l is e f = absurd (omega arith)
  looks_return (suc b) moved l is e f = rw (is, add-zero walk.waits, le-ltb _ _ e, le-leb _ _ (rw is at f)) refl

  pub looks_on_lem : (b : ℕ) (moved : WalkRecord) → 0 < b → moved ≡ with_look walk 1 0 → walk.mark ≤ (reader_at w (looked_at n walk.next)).published → moved.next < n → looks_on walk b ≡ looks_on moved (b - 1)
  unfolding looks_from
  looks_on_lem zero moved l is e f = absurd (omega arith)
  looks_on_lem (suc b) moved l is e f = let d : suc b - 1 ≡ b = omega arith in rw (is, add-zero walk.waits, le-ltb _ _ e, lt-leb _ _ (rw is at f), d) refl
