-- What the kinds share: the tests of a call in the order of document 01's table, and what an accepted call does.
use Rattle.std.specs.Prelude.{ℕ, ◌+◌, ◌-◌, ◌*◌, ◌%◌, Bool, not, ◌&&◌, ◌||◌, List, [], ◌∷◌, ℤ, pos, get_or, set, length, leb, ltb, eqb}
use Rattle.base.specs.Base.{choose}
use Rattle.base.specs.Rows.{Test, first_of, any_below, outside}
use Rattle.base.specs.Rows.Test.{◌gives◌}
use Rattle.calls.specs.declared.Reply.TheVariants.{Pitch, Claimed, Written, Swapped, Synced, Raised, Shared, Walked, Freed, Refused}
use Rattle.calls.specs.declared.WalkReply.{WalkReply}
use Rattle.calls.specs.declared.WalkReply.TheVariants.{Waiting, Spent, Quiet, Returned}
use Rattle.calls.specs.Numbers.{readers_max, publishers_max, slots_min, slots_max, table_length, number_modulus, number_max, place_open, place_picked, place_idle, place_claimed, place_written, place_swapped, place_synchronising, place_quiet, place_raised, place_returned, damaged_number, bad_readers_number, bad_publishers_number, bad_slots_number, bad_entries_number, bad_version_number, no_such_reader_number, no_such_publisher_number, no_such_slot_number, no_such_entry_number, bad_pitch_number, reader_turn_number, publisher_turn_number, slot_in_use_number, busy_number, version_is_last_number, too_many_looks_number, bad_table_length_number, bad_table_pitch_number, bad_table_step_number}
use Rattle.calls.specs.FirstTable.{out_of_range, any_out_of_range, any_steep, tables}
use Rattle.layout.specs.declared.Reader.{Reader}
use Rattle.layout.specs.declared.Publisher.{Publisher}
use Rattle.layout.specs.declared.WalkRecord.{WalkRecord}
use Rattle.layout.specs.declared.WalkResult.{WalkResult}
use Rattle.layout.specs.Layout.{words_length, readers, publishers, slots, current, version, releases, with_current, with_version, with_releases, reader_at, publisher_at, with_publisher, fresh_words, entry_at}
use Rattle.layout.specs.Records.{◌at_place◌, ◌held≔◌, ◌walk≔◌, ◌mark≔◌, ◌next≔◌, ◌looks≔◌, ◌waits≔◌}
use Rattle.statement.specs.Machine.{State, state, Outcome, outcome, Given, holds_slot}

-- What a kind fixes of versions and marks.
pub record Versions : Type 0 where
  -- a version that is too large
  pub too_large : ℕ → Bool
  -- the version at which a SYNC is refused
  pub is_last : ℕ → Bool
  -- a mark that a publisher at 35 to 38 cannot have
  pub wrong_mark : ℕ → Bool
  -- the mark of a SYNC at a version
  pub mark_at : ℕ → ℕ
  -- one before a mark
  pub before_mark : ℕ → ℕ

-- Versions up to a last one, which is a fixed number of a kind: none is above it, a mark is neither 0 nor above it, mark = version + 1.
abbrev pub up_to : ℕ → Versions
up_to last = record { too_large = λ ver. ltb last ver; is_last = λ ver. eqb ver last; wrong_mark = λ mark. eqb mark 0 || ltb last mark; mark_at = λ ver. ver + 1; before_mark = λ mark. mark - 1 }

abbrev pub reader : State → ℕ → Reader
reader s r = reader_at s.words r

abbrev pub publisher : State → ℕ → Publisher
publisher s p = publisher_at s.words p

abbrev pub put_publisher : State → ℕ → Publisher → State
put_publisher s p y = state (with_publisher s.words p y) s.entries

-- The first row that applies refuses, and a refused call changes nothing; where none applies the call is accepted.
abbrev pub decide : List Test → Outcome → State → Outcome
decide rows o s =
    let n = first_of rows in
    choose (eqb n 0) o (outcome (Refused n) s)

-- First name: 10 no such reader; 11 no such publisher.
abbrev pub no_such_reader : State → ℕ → Test
no_such_reader s r = leb (readers s.words) r gives no_such_reader_number

abbrev pub no_such_publisher : State → ℕ → Test
no_such_publisher s p = leb (publishers s.words) p gives no_such_publisher_number

-- Second argument: 12 no such slot; 13 entry above 31; 14 pitch out of range.
abbrev pub no_such_slot : State → ℕ → Test
no_such_slot s slot = leb (slots s.words) slot gives no_such_slot_number

abbrev pub no_such_entry : ℕ → Test
no_such_entry k = leb table_length k gives no_such_entry_number

abbrev pub bad_pitch : ℤ → Test
bad_pitch v = out_of_range v gives bad_pitch_number

-- Turn: 20 reader, 21 publisher at a place where the call is not allowed.
abbrev pub reader_turn : Bool → Test
reader_turn wrong = wrong gives reader_turn_number

abbrev pub publisher_turn : Bool → Test
publisher_turn wrong = wrong gives publisher_turn_number

-- ENTER r moves one place on (what that does is each kind's own); place 5 is the last.
abbrev pub enter_tests : State → ℕ → List Test
enter_tests s r = no_such_reader s r ∷ reader_turn (leb place_picked (reader s r).place) ∷ []

-- LOOK r k (place 5) replies with entry k of the picked slot. (An undamaged store has that entry: the 0 is never read.)
abbrev pub look_tests : State → ℕ → ℕ → List Test
look_tests s r k = no_such_reader s r ∷ no_such_entry k ∷ reader_turn (not (eqb (reader s r).place place_picked)) ∷ []

abbrev pub look : State → ℕ → ℕ → Outcome
look s r k = outcome (Pitch (get_or s.entries (entry_at (reader s r).picked k) (pos 0))) s

-- LEAVE r (places 4, 5) goes to 0.
abbrev pub leave_tests : State → ℕ → List Test
leave_tests s r = no_such_reader s r ∷ reader_turn (ltb (reader s r).place place_open) ∷ []

-- 31 (old) another publisher not at place 0.
abbrev pub another_busy : State → ℕ → Bool
another_busy s p = any_below (λ q. not (eqb q p) && not (eqb (publisher s q).place place_idle)) (publishers s.words)

-- A slot is free if it is not current and no publisher holds it; in a kind that retires slots the retired ones are held too.
abbrev pub in_use : Bool → State → ℕ → Bool
in_use retiring s slot = eqb (current s.words) slot || any_below (λ q. holds_slot retiring s q slot) (publishers s.words)

-- CLAIM p s: 0 to 1, holds s.
abbrev pub claim_tests : Bool → Bool → State → ℕ → ℕ → List Test
claim_tests exclusive retiring s p slot =
    no_such_publisher s p ∷ no_such_slot s slot ∷ publisher_turn (not (eqb (publisher s p).place place_idle))
    ∷ ((exclusive && another_busy s p) gives busy_number) ∷ (in_use retiring s slot gives slot_in_use_number) ∷ []

abbrev pub claim : State → ℕ → ℕ → Outcome
claim s p slot = outcome (Claimed slot) (put_publisher s p (publisher s p at_place place_claimed held≔ slot))

-- WRITE p v: stores the next entry, replies with the number written. At places 1 to 32 place - 1 entries are written.
abbrev pub write_tests : State → ℕ → ℤ → List Test
write_tests s p v = no_such_publisher s p ∷ bad_pitch v ∷ publisher_turn (outside 1 32 (publisher s p).place) ∷ []

abbrev pub write : State → ℕ → ℤ → Outcome
write s p v =
    let y = publisher s p in
    outcome (Written y.place) (state (with_publisher s.words p (y at_place (y.place + 1))) (set s.entries (entry_at y.held (y.place - 1)) v))

-- SWAP p: 33 to 34; its slot becomes current, it holds the former one and replies with that.
abbrev pub swap_tests : State → ℕ → List Test
swap_tests s p = no_such_publisher s p ∷ publisher_turn (not (eqb (publisher s p).place place_written)) ∷ []

abbrev pub swap : State → ℕ → Outcome
swap s p = outcome (Swapped (current s.words)) (state
    (with_current (with_publisher s.words p (publisher s p at_place place_swapped held≔ current s.words)) (publisher s p).held)
    s.entries)

-- SYNC p: 34 to 35; mark = version + 1 (old: modulo 2^64); next, looks and waits become 0. Replies with the mark. 32 version is the last.
abbrev pub sync_tests : Versions → State → ℕ → List Test
sync_tests vs s p =
    no_such_publisher s p ∷ publisher_turn (not (eqb (publisher s p).place place_swapped)) ∷ (vs.is_last (version s.words) gives version_is_last_number) ∷ []

abbrev pub new_walk : WalkRecord → ℕ → WalkRecord
new_walk walk mark = walk mark≔ mark next≔ 0 looks≔ 0 waits≔ 0

abbrev pub sync : Versions → State → ℕ → Outcome
sync vs s p = outcome (Synced (vs.mark_at (version s.words)))
    (put_publisher s p (publisher s p at_place place_synchronising walk≔ new_walk (publisher s p).walk (vs.mark_at (version s.words))))

-- RAISE p (at which place is each kind's own): if version = mark - 1 (old: modulo 2^64) it becomes mark, reply raised; otherwise reply shared. Place 37 either way.
abbrev pub raise_tests : (ℕ → Bool) → State → ℕ → List Test
raise_tests raises_at s p = no_such_publisher s p ∷ publisher_turn (not (raises_at (publisher s p).place)) ∷ []

abbrev pub raise : Versions → State → ℕ → Outcome
raise vs s p = choose (eqb (version s.words) (vs.before_mark (publisher s p).walk.mark))
    (outcome Raised (state (with_version (with_publisher s.words p (publisher s p at_place place_raised)) (publisher s p).walk.mark) s.entries))
    (outcome Shared (put_publisher s p (publisher s p at_place place_raised)))

-- WALK p b (at which places is each kind's own) moves the four numbers of the publisher named and of no other. 33 looks + b above 2^64 - 1.
abbrev pub walk_tests : (ℕ → Bool) → State → ℕ → ℕ → List Test
walk_tests walks_at s p b =
    no_such_publisher s p ∷ publisher_turn (not (walks_at (publisher s p).place))
    ∷ (ltb number_max ((publisher s p).walk.looks + b) gives too_many_looks_number) ∷ []

-- A quiet look leads to place 36, a return to 38; waiting and spent stay.
abbrev pub place_after : ℕ → WalkReply → ℕ
place_after place (Waiting who) = place
place_after place Spent = place
place_after place Quiet = place_quiet
place_after place (Returned looks waits) = place_returned

abbrev pub walked : Publisher → WalkResult → Publisher
walked y result = y at_place (place_after y.place result.reply) walk≔ result.walk

abbrev pub walk : State → ℕ → WalkResult → Outcome
walk s p result = outcome (Walked result.reply) (put_publisher s p (walked (publisher s p) result))

-- RELEASE p: 38 to 0, which by itself frees the held slot (its number stays), adds one to releases (modulo 2^64), replies with slot and releases.
abbrev pub release_tests : State → ℕ → List Test
release_tests s p = no_such_publisher s p ∷ publisher_turn (not (eqb (publisher s p).place place_returned)) ∷ []

abbrev pub one_more : State → ℕ
one_more s = (releases s.words + 1) % number_modulus

abbrev pub release : State → ℕ → Outcome
release s p = outcome (Freed (publisher s p).held (one_more s)) (state
    (with_releases (with_publisher s.words p (publisher s p at_place place_idle)) (one_more s))
    s.entries)

-- The first table: 40 it has not 32 entries, 41 an entry is out of range, 42 two neighbours differ by more than step_max.
abbrev pub table_tests : List ℤ → List Test
table_tests table =
    (not (eqb (length table) table_length) gives bad_table_length_number)
    ∷ (any_out_of_range table gives bad_table_pitch_number)
    ∷ (any_steep table gives bad_table_step_number)
    ∷ []

-- Making. 1 at any other length of the words, before all else;
-- 2 readers, 3 publishers, 4 slots out of range; 5 entries' length; 6 first version above the last; then the first table.
-- In a kind of participants publishers that are not as many as readers get 3 too.
abbrev pub making_tests : Bool → Versions → Given → State → List Test
making_tests of_participants vs z s =
    (not (eqb (length s.words) words_length) gives damaged_number)
    ∷ (outside 1 readers_max z.readers gives bad_readers_number)
    ∷ (((of_participants && not (eqb z.publishers z.readers)) || outside 1 publishers_max z.publishers) gives bad_publishers_number)
    ∷ (outside slots_min slots_max z.slots gives bad_slots_number)
    ∷ (not (eqb (length s.entries) (z.slots * table_length)) gives bad_entries_number)
    ∷ (vs.too_large z.version gives bad_version_number)
    ∷ table_tests z.table

-- A fresh store has the first table in every slot, slot 0 current, readers and publishers at place 0, the version and the sizes as given
-- and every other number 0, but for the kind word and what a kind's fresh reader x has.
abbrev pub made : ℕ → Reader → Given → State → State
made kind x z s = state (fresh_words kind z.readers z.publishers z.slots z.version x) (tables z.slots z.table)
