-- Demand 3 and its companions of a kind with sections, SYNC and WALK, from what only that kind can show: its own invariant, and that its
-- ENTER, LEAVE, SYNC, RAISE and WALK keep it. Assumes nothing.
use Rattle.std.specs.Prelude.{ℕ, ◌<◌, ◌≤◌, ℤ, get_or}
use Rattle.std.proofs.Math.Path.{◌≡◌}
use Rattle.std.proofs.Math.Bool.{true, false}
use mathlib.Core.List.{List}
use Rattle.base.specs.RowLaws.{AllClear}
use Rattle.calls.specs.declared.Call.{Call}
use Rattle.calls.specs.declared.Call.TheVariants.{Enter, Leave, Sync, Raise, Walk}
use Rattle.calls.specs.declared.Reply.TheVariants.{At, Left, Synced, Walked}
use Rattle.calls.specs.declared.WalkReply.TheVariants.{Spent, Returned}
use Rattle.calls.specs.Numbers.{place_open, place_swapped}
use Rattle.calls.specs.Tally.{Phase, first_place}
use Rattle.layout.specs.declared.Reader.{Reader}
use Rattle.layout.specs.declared.Publisher.{Publisher}
use Rattle.layout.specs.Layout.{head_word_count, readers, publishers, version, blank_reader}
use Rattle.statement.specs.Machine.{State, state, Given, retires}
use Rattle.statement.specs.Frame.{PlaceAndOne, LeaveStays}
use Rattle.statement.specs.Companions.{GraceTraits}
use Rattle.statement.specs.KeptInvariant.{Ghost, ghost₀, ghost_step, Back}
use Rattle.publication_law.specs.Steps.{reader, publisher, enter_tests, leave_tests, sync_tests, sync, raise, walk, made}
use Rattle.publication_law.specs.Clear.{MakingClear}
use Rattle.publication_law.specs.Damage.{DamageRules}
use Rattle.publication_law.specs.SectionRules.{SectionRules, without_sections}
use Rattle.publication_law.specs.DamageLaws.{Undamaged}
use Rattle.publication_law.specs.Moves.{MovesPublisher, MovesReader}
use Rattle.publication_law.specs.GraceInvariant.{GraceInvariant}
use Rattle.publication_law.specs.KindLaw.{KindLaw}

-- The shared invariant with a kind's own.
pub record WholeInvariant (K : DamageRules) (KindInvariant : Ghost → State → Type 0) (z : Given) (g : Ghost) (s : State) : Type 0 where
  pub shared : GraceInvariant K z g s
  pub own : KindInvariant g s

pub record KindShows (R : SectionRules) (traits : GraceTraits) : Type 1 where
  pub kind_law : KindLaw R.damage
  -- what is said of the kind beside its rules
  pub first_is : traits.every.first_table ≡ (λ z. z.table)
  pub lacks_is : (c : Call) → traits.every.lacks c ≡ without_sections c
  pub apart_is : traits.every.of_participants ≡ false
  pub none_retired : retires R.damage.number ≡ false
  pub exclusive_is : traits.every.exclusive ≡ R.exclusive
  pub successor_is : traits.successor ≡ R.damage.versions.mark_at
  pub raises_in_lem : (phase : Phase) → traits.every.raises_in phase ≡ R.raises_at (first_place phase)
  pub walks_in_lem : (phase : Phase) → traits.every.walks_in phase ≡ R.walks_at (first_place phase)
  -- versions up to the greatest fit, and no other; of those that fit the last is the one said
  pub greatest_fits : (ver : ℕ) → ver ≤ traits.every.greatest → R.damage.versions.too_large ver ≡ false
  pub fits_to_greatest : (ver : ℕ) → R.damage.versions.too_large ver ≡ false → ver ≤ traits.every.greatest
  pub last_is : (ver : ℕ) → R.damage.versions.too_large ver ≡ false → R.damage.versions.is_last ver ≡ traits.is_last ver
  pub KindInvariant : Ghost → State → Type 0
  pub start_own : (z : Given) (s : State) → MakingClear false R.damage.versions z s → KindInvariant (ghost₀ z.readers z.table) (made R.damage.number R.fresh_reader z s)
  pub fresh_is : (z : Given) → R.fresh_reader ≡ blank_reader (traits.every.fresh_published z)
  pub fresh_reader_fits : (rs ss : ℕ) → R.damage.reader_damaged rs ss R.fresh_reader ≡ false
  pub no_further : (z : Given) (g : Ghost) (s : State) → WholeInvariant R.damage KindInvariant z g s → R.further s ≡ false
  -- below 35 a publisher's move does not touch the kind's own invariant
  pub early_own : (g g' : Ghost) (s : State) (w' : List ℕ) (es' : List ℤ) (p : ℕ) (y : Publisher) (cur rel : ℕ) → KindInvariant g s → g'.pend ≡ g.pend
      → MovesPublisher s.words w' p y cur (version s.words) rel → y.walk ≡ (publisher s p).walk → y.place ≤ place_swapped → KindInvariant g' (state w' es')
  pub enter_moves : (s : State) → Undamaged R.damage s → (r : ℕ) → r < readers s.words → MovesReader s.words (R.enter_words s r) r (R.entered s r)
  -- the reader after its LEAVE
  pub left : State → ℕ → Reader
  pub leave_moves : (s : State) → Undamaged R.damage s → (r : ℕ) → r < readers s.words → MovesReader s.words (R.leave_words s r) r (left s r)
  pub enter_place : (s : State) → Undamaged R.damage s → (r : ℕ) → r < readers s.words → (reader s r).place ≤ place_open → (R.entered s r).place ≡ traits.next_place (reader s r).place
  -- which numbers ENTER and LEAVE move of the head, in a kind that publishes readers' versions, and of a reader
  pub enter_head : traits.every.publishes ≡ true → (s : State) (r j : ℕ) → j < head_word_count → get_or (R.enter_words s r) j 0 ≡ get_or s.words j 0
  pub leave_head : traits.every.publishes ≡ true → (s : State) (r j : ℕ) → j < head_word_count → get_or (R.leave_words s r) j 0 ≡ get_or s.words j 0
  pub enter_stays : (s : State) (r : ℕ) → (reader s r).place ≤ place_open → PlaceAndOne (reader s r) (R.entered s r)
  pub leave_stays : (s : State) (r : ℕ) → LeaveStays traits.every.publishes (reader s r) (left s r)
  pub enter_kept : (z : Given) (g : Ghost) (s : State) → WholeInvariant R.damage KindInvariant z g s → (r : ℕ) → AllClear (enter_tests s r)
      → WholeInvariant R.damage KindInvariant z (ghost_step g (Enter r) (At (R.entered s r).place)) (state (R.enter_words s r) s.entries)
  pub leave_kept : (z : Given) (g : Ghost) (s : State) → WholeInvariant R.damage KindInvariant z g s → (r : ℕ) → AllClear (leave_tests s r)
      → WholeInvariant R.damage KindInvariant z (ghost_step g (Leave r) Left) (state (R.leave_words s r) s.entries)
  pub sync_kept : (z : Given) (g : Ghost) (s : State) → WholeInvariant R.damage KindInvariant z g s → (p : ℕ) → AllClear (sync_tests R.damage.versions s p)
      → WholeInvariant R.damage KindInvariant z (ghost_step g (Sync p) (Synced (R.damage.versions.mark_at (version s.words)))) (sync R.damage.versions s p).after
  pub raise_kept : (z : Given) (g : Ghost) (s : State) → WholeInvariant R.damage KindInvariant z g s → (p : ℕ) → p < publishers s.words → R.raises_at (publisher s p).place ≡ true
      → WholeInvariant R.damage KindInvariant z (ghost_step g (Raise p) (raise R.damage.versions s p).reply) (raise R.damage.versions s p).after
  pub walk_kept : (z : Given) (g : Ghost) (s : State) → WholeInvariant R.damage KindInvariant z g s → (p b : ℕ) → p < publishers s.words → R.walks_at (publisher s p).place ≡ true
      → WholeInvariant R.damage KindInvariant z (ghost_step g (Walk p b) (Walked (R.looks s p b).reply)) (walk s p (R.looks s p b)).after
  -- RAISE and WALK are in turn from 35 on alone; a WALK keeps its mark, and with no looks it changes nothing
  pub raises_late : (pl : ℕ) → pl ≤ place_swapped → R.raises_at pl ≡ false
  pub walks_late : (pl : ℕ) → pl ≤ place_swapped → R.walks_at pl ≡ false
  pub mark_stays : (s : State) (p b : ℕ) → (R.looks s p b).walk.mark ≡ (publisher s p).walk.mark
  pub no_looks : (s : State) (p : ℕ) → R.looks s p 0 ≡ record { walk = (publisher s p).walk; reply = Spent }
  pub return_shown : (z : Given) (g : Ghost) (s : State) → WholeInvariant R.damage KindInvariant z g s → (p b looks waits : ℕ) → p < publishers s.words → R.walks_at (publisher s p).place ≡ true
      → (R.looks s p b).reply ≡ Returned looks waits → Back traits z g p looks waits
