-- The rest store (quiescent-state-based reclamation: document 000, Algorithm 2, as request 3 words it): what it fixes of the damage test and of its seven calls. `rules` is its table.
-- The version is the state epoch. Of a reader first is the loaded epoch, second the least that its checkpoint has read, published the observed epoch.
-- Releases, indicators and a publisher's next, looks and waits have no use here: they stay as the making left them.
use Rattle.std.specs.Prelude.{ℕ, zero, suc, ◌+◌, ◌-◌, Bool, true, false, not, ◌&&◌, ◌||◌, List, [], ◌∷◌, leb, ltb, eqb}
use Rattle.base.specs.Base.{choose}
use Rattle.base.specs.Rows.{Test, any_true, any_below}
use Rattle.base.specs.Rows.Test.{◌gives◌}
use Rattle.calls.specs.declared.Call.{Call}
use Rattle.calls.specs.declared.Call.TheVariants.{Enter, Look, Leave, Claim, Write, Swap, Sync, Raise, Walk, Release, Pick, Checkpoint, Defer}
use Rattle.calls.specs.declared.Reply.TheVariants.{At, Picked, Refused}
use Rattle.calls.specs.Numbers.{number_max, kind_rest, deferred_max, place_out, place_picked, place_idle, place_swapped, place_deferring, damaged_number, epoch_is_last_number, too_many_deferred_number}
use Rattle.layout.specs.declared.Reader.{Reader}
use Rattle.layout.specs.declared.Retirement.{Retirement}
use Rattle.layout.specs.declared.Retired.{Retired}
use Rattle.layout.specs.Layout.{readers, publishers, slots, current, version, retirement_at, retired_at, with_version, with_reader, with_publisher, with_retirement, with_retired, blank_reader}
use Rattle.layout.specs.Records.{◌place≔◌, ◌first≔◌, ◌second≔◌, ◌published≔◌, ◌picked≔◌, ◌at_place◌, ◌walk≔◌, ◌mark≔◌, ◌step≔◌, ◌count≔◌}
use Rattle.statement.specs.Machine.{State, state, Outcome, outcome, Given, Machine, retires}
use Rattle.publication_law.specs.Steps.{Versions, up_to, reader, publisher, no_such_reader, no_such_publisher, reader_turn, publisher_turn, look_tests, look, claim_tests, claim, write_tests, write, swap_tests, swap, making_tests, made}
use Rattle.publication_law.specs.Damage.{DamageRules, wrong_pick, publisher_rows}
use Rattle.publication_law.specs.Table.{Table, machine}

-- The last version: 2^64 - 1.
abbrev pub last_version : ℕ
last_version = number_max

abbrev pub versions : Versions
versions = up_to last_version

-- A reader's place other than 0 and 5; a picked slot too large.
abbrev pub reader_rows : ℕ → Reader → List Bool
reader_rows slots x = not (eqb x.place place_out || eqb x.place place_picked) ∷ wrong_pick slots x ∷ []

abbrev pub damage_rules : DamageRules
damage_rules = record {
  number = kind_rest;
  versions = versions;
  reader_damaged = λ readers slots x. any_true (reader_rows slots x);
  -- a publisher's place above 35
  publisher_damaged = λ readers slots y. ltb place_deferring y.place || any_true (publisher_rows versions slots y);
}

abbrev pub retirement : State → ℕ → Retirement
retirement s p = retirement_at s.words p

abbrev pub retired : State → ℕ → ℕ → Retired
retired s p i = retired_at s.words p i

-- Inside a checkpoint; between the two DEFERs of a deferral.
abbrev pub in_checkpoint : State → ℕ → Bool
in_checkpoint s r = not (eqb (retirement s r).step 0)

abbrev pub deferring : State → ℕ → Bool
deferring s p = eqb (publisher s p).place place_deferring

-- Between calls a checkpoint's step is 0 to participants + 1; 0 to eight slots are deferred, each a slot of the store; eight at 35 is spoiled.
abbrev pub retirement_rows : State → ℕ → List Bool
retirement_rows s p =
    ltb (readers s.words + 1) (retirement s p).step
    ∷ ltb deferred_max (retirement s p).count
    ∷ (deferring s p && eqb (retirement s p).count deferred_max)
    ∷ any_below (λ i. leb (slots s.words) (retired s p i).slot) (retirement s p).count
    ∷ []

-- What damages it besides: as many readers as publishers there must be, and what damages a participant's retirement.
abbrev pub further : State → Bool
further s = not (eqb (readers s.words) (publishers s.words)) || any_below (λ p. any_true (retirement_rows s p)) (publishers s.words)

-- PICK r, allowed at 0 and 5: 20 inside a checkpoint and at 35. It picks the current slot, and replies with it.
abbrev pub pick_tests : State → ℕ → List Test
pick_tests s r = no_such_reader s r ∷ reader_turn (in_checkpoint s r || deferring s r) ∷ []

abbrev pub pick : State → ℕ → Outcome
pick s r = outcome (Picked (current s.words)) (state (with_reader s.words r (reader s r place≔ place_picked picked≔ current s.words)) s.entries)

-- CHECKPOINT r: 20 at 35. One step a call; it replies with the step.
abbrev pub checkpoint_tests : State → ℕ → List Test
checkpoint_tests s r = no_such_reader s r ∷ reader_turn (deferring s r) ∷ []

abbrev pub step_to : State → ℕ → ℕ → Reader → List ℕ
step_to s r k x = with_retirement (with_reader s.words r x) r (retirement s r step≔ k)

-- Step 1 drops the pick and loads the state epoch. The slot that was picked stays in its word, and counts no more.
abbrev pub load : State → ℕ → Outcome
load s r = outcome (At 1) (state (step_to s r 1 (reader s r place≔ place_out first≔ version s.words)) s.entries)

-- Step 2 stores it as observed.
abbrev pub observe : State → ℕ → Outcome
observe s r = outcome (At 2) (state (step_to s r 2 (reader s r published≔ (reader s r).first)) s.entries)

-- Each later step k reads the observed epoch of participant k - 3; the first read starts the least, a later one may lower it.
abbrev pub lesser : ℕ → ℕ → ℕ
lesser n m = choose (ltb m n) m n

abbrev pub least_of : ℕ → ℕ → ℕ → ℕ
least_of step read least = choose (eqb step 2) read (lesser least read)

abbrev pub least_read : State → ℕ → ℕ
least_read s r = least_of (retirement s r).step (reader s ((retirement s r).step - 2)).published (reader s r).second

abbrev pub read : State → ℕ → Outcome
read s r = outcome (At ((retirement s r).step + 1)) (state (step_to s r ((retirement s r).step + 1) (reader s r second≔ least_read s r)) s.entries)

-- The words with some retired slots freed, and how many stay.
pub record Stay : Type 0 where
  pub words : List ℕ
  pub count : ℕ

abbrev pub stay : List ℕ → ℕ → Stay
stay w n = record { words = w; count = n }

-- Of n retired slots of p from i on, each whose mark is at most the least is freed; those that stay move down to j and on, in their order.
unfoldable pub staying : ℕ → ℕ → ℕ → ℕ → ℕ → List ℕ → Stay
staying p least zero i j w = stay w j
staying p least (suc n) i j w = choose (leb (retired_at w p i).mark least)
    (staying p least n (i + 1) j w)
    (staying p least n (i + 1) (j + 1) (with_retired w p j (retired_at w p i)))

-- The last step also frees each deferred slot of its own whose mark is at most the least read, and the participant is outside again.
abbrev pub after_freeing : State → ℕ → Stay
after_freeing s r = staying r (least_read s r) (retirement s r).count 0 0 (with_reader s.words r (reader s r second≔ least_read s r))

abbrev pub read_last : State → ℕ → Outcome
read_last s r = outcome (At ((retirement s r).step + 1))
    (state (with_retirement (after_freeing s r).words r (retirement s r step≔ 0 count≔ (after_freeing s r).count)) s.entries)

abbrev pub checkpoint : State → ℕ → Outcome
checkpoint s r =
    choose (eqb (retirement s r).step 0) (load s r)
    (choose (eqb (retirement s r).step 1) (observe s r)
    (choose (eqb (retirement s r).step (readers s.words + 1)) (read_last s r)
    (read s r)))

-- DEFER p, at 34 and 35: 21 at any other place and inside a checkpoint. At 34 also 43 the epoch is 2^64 - 1, 44 eight slots are deferred.
abbrev pub defer_tests : State → ℕ → List Test
defer_tests s p =
    no_such_publisher s p
    ∷ publisher_turn (not (eqb (publisher s p).place place_swapped || deferring s p) || in_checkpoint s p)
    ∷ ((eqb (publisher s p).place place_swapped && eqb (version s.words) last_version) gives epoch_is_last_number)
    ∷ ((eqb (publisher s p).place place_swapped && eqb (retirement s p).count deferred_max) gives too_many_deferred_number)
    ∷ []

-- At 34 it drops the pick, raises the epoch by one and keeps the raised value as its mark; place 35.
abbrev pub raise_epoch : State → ℕ → Outcome
raise_epoch s p = outcome (At place_deferring) (state
    (with_version
    (with_publisher (with_reader s.words p (reader s p place≔ place_out)) p (publisher s p at_place place_deferring walk≔ ((publisher s p).walk mark≔ (version s.words + 1))))
    (version s.words + 1))
    s.entries)

-- There it observes its mark and queues the held slot with it; place 0.
abbrev pub queue : State → ℕ → Outcome
queue s p = outcome (At place_idle) (state
    (with_retirement
    (with_retired
    (with_publisher (with_reader s.words p (reader s p published≔ (publisher s p).walk.mark)) p (publisher s p at_place place_idle))
    p (retirement s p).count (record { slot = (publisher s p).held; mark = (publisher s p).walk.mark }))
    p (retirement s p count≔ (retirement s p).count + 1))
    s.entries)

abbrev pub defer : State → ℕ → Outcome
defer s p = choose (eqb (publisher s p).place place_swapped) (raise_epoch s p) (queue s p)

-- The calls of sections and grace periods, which it lacks.
abbrev pub lacks : Call → Bool
lacks (Enter r) = true
lacks (Look r k) = false
lacks (Leave r) = true
lacks (Claim p slot) = false
lacks (Write p v) = false
lacks (Swap p) = false
lacks (Sync p) = true
lacks (Raise p) = true
lacks (Walk p b) = true
lacks (Release p) = true
lacks (Pick r) = false
lacks (Checkpoint r) = false
lacks (Defer p) = false

-- Each call's rows. CLAIM: never 31; 30 counts deferred slots.
abbrev pub tests : State → Call → List Test
tests s (Enter r) = []
tests s (Look r k) = look_tests s r k
tests s (Leave r) = []
tests s (Claim p slot) = claim_tests false (retires kind_rest) s p slot
tests s (Write p v) = write_tests s p v
tests s (Swap p) = swap_tests s p
tests s (Sync p) = []
tests s (Raise p) = []
tests s (Walk p b) = []
tests s (Release p) = []
tests s (Pick r) = pick_tests s r
tests s (Checkpoint r) = checkpoint_tests s r
tests s (Defer p) = defer_tests s p

-- And what it does where none applies. (Of a call that is lacking row 1 always applies.)
abbrev pub act : State → Call → Outcome
act s (Enter r) = outcome (Refused damaged_number) s
act s (Look r k) = look s r k
act s (Leave r) = outcome (Refused damaged_number) s
act s (Claim p slot) = claim s p slot
act s (Write p v) = write s p v
act s (Swap p) = swap s p
act s (Sync p) = outcome (Refused damaged_number) s
act s (Raise p) = outcome (Refused damaged_number) s
act s (Walk p b) = outcome (Refused damaged_number) s
act s (Release p) = outcome (Refused damaged_number) s
act s (Pick r) = pick s r
act s (Checkpoint r) = checkpoint s r
act s (Defer p) = defer s p

-- The epoch starts at the first version, observed by all 64 records.
abbrev pub fresh_reader : Given → Reader
fresh_reader z = blank_reader z.version

abbrev pub rules : Table
rules = record {
  damage = damage_rules;
  further = further;
  lacks = lacks;
  tests = tests;
  act = act;
  making_tests = λ z s. making_tests true versions z s;
  fresh_store = λ z s. made kind_rest (fresh_reader z) z s;
}

abbrev pub Qsbr : Machine
Qsbr = machine rules
