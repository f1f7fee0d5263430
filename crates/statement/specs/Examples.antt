-- Examples as data: calls played from a making, and the replies that are due.
use Rattle.std.specs.Prelude.{ℕ, zero, suc, ◌+◌, ◌*◌, ◌≡◌, Bool, true, ◌&&◌, List, [], ◌∷◌, ◌++◌, ℤ, pos, neg_ℤ, replicate}
use Rattle.base.specs.Base.{choose}
use Rattle.calls.specs.declared.Call.{Call}
use Rattle.calls.specs.declared.Call.TheVariants.{Enter, Claim, Write, Swap}
use Rattle.calls.specs.declared.Reply.{Reply}
use Rattle.calls.specs.declared.Reply.TheVariants.{Made, Written, Refused}
use Rattle.calls.specs.Numbers.{table_length, feathered_pitch}
use Rattle.calls.specs.Events.{accepted}
use Rattle.layout.specs.Layout.{words_length}
use Rattle.statement.specs.Machine.{State, state, Given, given, Machine, after_all}

-- The first table of P1: 32 times 90000. Every other example that names none has it too.
abbrev pub feathered_table : List ℤ
feathered_table = replicate table_length feathered_pitch

abbrev pub given_feathered : ℕ → ℕ → ℕ → ℕ → Given
given_feathered readers publishers slots version = given readers publishers slots version feathered_table

-- What is lent to the making of an example: words of the right length and as many entries as asked, all 0.
abbrev pub lent_for : Given → State
lent_for z = state (replicate words_length 0) (replicate (z.slots * table_length) (pos 0))

-- The replies to calls.
abbrev pub replies : Machine → State → List Call → List Reply
replies M s [] = []
replies M s (c ∷ cs) = let o = M.step s c in o.reply ∷ replies M o.after cs

-- The same after some calls that lead there; each of those must be accepted, else there are no replies.
abbrev pub replies_after : Machine → Bool → State → List Call → List Call → List Reply
replies_after M ok s [] cs = choose ok (replies M s cs) []
replies_after M ok s (d ∷ ds) cs = let o = M.step s d in replies_after M (ok && accepted o.reply) o.after ds cs

-- The same from the making on, whose reply is the first.
abbrev pub replies_from : Machine → Given → List Call → List Call → List Reply
replies_from M z ds cs = let o = M.making z (lent_for z) in o.reply ∷ replies_after M true o.after ds cs

-- The reply to each of some calls on one and the same state.
abbrev pub replies_on : Machine → State → List Call → List Reply
replies_on M s [] = []
replies_on M s (c ∷ cs) = (M.step s c).reply ∷ replies_on M s cs

-- An example: calls that lead there, the calls shown, and the replies due; or a call, its reply, and that it leaves the whole state unchanged;
-- or a making on what is lent to it, and its reply; or a state put together by hand, calls that are each made on it, and their replies.
pub data Example : Type 0 where
  shows : Machine → Given → List Call → List Call → List Reply → Example
  unchanged : Machine → Given → List Call → Call → Reply → Example
  makes : Machine → Given → State → Reply → Example
  each : Machine → State → List Call → List Reply → Example

abbrev pub lead_to : Machine → Given → List Call → State
lead_to M z ds = after_all M (M.making z (lent_for z)).after ds

abbrev pub Holds : Example → Type 0
Holds (shows M z ds cs due) = replies_from M z ds cs ≡ due
Holds (unchanged M z ds c a) = (replies_from M z ds (c ∷ []) ≡ Made ∷ a ∷ []) × ((M.step (lead_to M z ds) c).after ≡ lead_to M z ds)
Holds (makes M z s a) = (M.making z s).reply ≡ a
Holds (each M s cs due) = replies_on M s cs ≡ due

abbrev pub AllHold : List Example → Type 0
AllHold [] = Unit {0}
AllHold (example ∷ rest) = Holds example × AllHold rest

pub all_hold_append : (first more : List Example) → AllHold first → AllHold more → AllHold (first ++ more)
all_hold_append [] more f f' = f'
all_hold_append (example ∷ first) more f f' = (f.0, all_hold_append first more f.1 f')

-- n ENTERs of reader r; a whole table of v by publisher p into slot x; the same swapped in.
abbrev pub enters : ℕ → ℕ → List Call
enters n r = replicate n (Enter r)

abbrev pub claim_and_write : ℕ → ℕ → ℤ → List Call
claim_and_write p slot v = Claim p slot ∷ replicate table_length (Write p v)

abbrev pub publication : ℕ → ℕ → ℤ → List Call
publication p slot v = claim_and_write p slot v ++ (Swap p ∷ [])

-- A whole table of 32 different pitches by publisher p into slot x: v, v + 1 and so on.
abbrev pub writes_from : ℕ → ℕ → ℕ → List Call
writes_from p v zero = []
writes_from p v (suc n) = Write p (pos v) ∷ writes_from p (v + 1) n

abbrev pub table_from : ℕ → ℕ → ℕ → List Call
table_from p slot v = Claim p slot ∷ writes_from p v table_length

-- Examples that name no kind.
-- P9: pitches -5000, 95000 accepted; -5001, 95001 get 14.
abbrev pub P9 : Machine → Example
P9 M = shows M (given_feathered 1 1 2 0) (Claim 0 1 ∷ [])
    (Write 0 (neg_ℤ (pos 5000)) ∷ Write 0 (pos 95000) ∷ Write 0 (neg_ℤ (pos 5001)) ∷ Write 0 (pos 95001) ∷ [])
    (Made ∷ Written 1 ∷ Written 2 ∷ Refused 14 ∷ Refused 14 ∷ [])

-- P10: SWAP with 31 written and a 33rd WRITE get 21.
abbrev pub P10 : Machine → Example
P10 M = shows M (given_feathered 1 1 2 0) (Claim 0 1 ∷ replicate 31 (Write 0 (pos 5)))
    (Swap 0 ∷ Write 0 (pos 5) ∷ Write 0 (pos 5) ∷ [])
    (Made ∷ Refused 21 ∷ Written 32 ∷ Refused 21 ∷ [])
