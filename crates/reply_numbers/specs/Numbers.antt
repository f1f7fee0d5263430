-- The numbers that the C header names, in the order in which the archive gives them: sizes and limits, refusals, and the codes of the replies.
use Rattle.std.specs.Prelude.{ℕ, ◌+◌, ◌-◌, List, [], ◌∷◌, get_or, length, ltb}
use Rattle.base.specs.Base.{choose}
use Rattle.calls.specs.Numbers.{readers_max, publishers_max, slots_min, slots_max, table_length, pitch_bytes, pitch_low, pitch_high, step_max, feathered_pitch, not_reading, kind_new, kind_old, kind_rest, deferred_max, damaged_number, bad_readers_number, bad_publishers_number, bad_slots_number, bad_entries_number, bad_version_number, no_such_reader_number, no_such_publisher_number, no_such_slot_number, no_such_entry_number, bad_pitch_number, reader_turn_number, publisher_turn_number, slot_in_use_number, busy_number, version_is_last_number, too_many_looks_number, bad_table_length_number, bad_table_pitch_number, bad_table_step_number, epoch_is_last_number, too_many_deferred_number, code_made, code_at, code_pitch, code_left, code_claimed, code_written, code_swapped, code_synced, code_raised, code_shared, code_waiting, code_spent, code_quiet, code_returned, code_freed, code_picked}
use Rattle.calls.specs.ReplyNumbers.{pitch_number}
use Rattle.layout.specs.Layout.{words_length}
use Rattle.grace_version_law.specs.Steps as new-store
use Rattle.qsbr_law.specs.Steps as rest-store

abbrev pub limits : List ℕ
limits =
    words_length ∷ kind_new ∷ kind_old ∷ readers_max ∷ publishers_max ∷ slots_min ∷ slots_max ∷ table_length
    ∷ pitch_number pitch_low ∷ pitch_number pitch_high ∷ pitch_number feathered_pitch ∷ not_reading ∷ new-store.last_version ∷ pitch_number step_max ∷ pitch_bytes
    ∷ kind_rest ∷ rest-store.last_version ∷ deferred_max ∷ []

abbrev pub refusals : List ℕ
refusals =
    damaged_number ∷ bad_readers_number ∷ bad_publishers_number ∷ bad_slots_number ∷ bad_entries_number ∷ bad_version_number
    ∷ no_such_reader_number ∷ no_such_publisher_number ∷ no_such_slot_number ∷ no_such_entry_number ∷ bad_pitch_number
    ∷ reader_turn_number ∷ publisher_turn_number ∷ slot_in_use_number ∷ busy_number ∷ version_is_last_number ∷ too_many_looks_number
    ∷ bad_table_length_number ∷ bad_table_pitch_number ∷ bad_table_step_number ∷ epoch_is_last_number ∷ too_many_deferred_number ∷ []

abbrev pub codes : List ℕ
codes =
    code_made ∷ code_at ∷ code_pitch ∷ code_left ∷ code_claimed ∷ code_written ∷ code_swapped ∷ code_synced
    ∷ code_raised ∷ code_shared ∷ code_waiting ∷ code_spent ∷ code_quiet ∷ code_returned ∷ code_freed ∷ code_picked ∷ []

-- One list after the other; past the last number 0.
abbrev pub number_of : ℕ → ℕ
number_of n =
    choose (ltb n (length limits)) (get_or limits n 0)
    (choose (ltb n (length limits + length refusals)) (get_or refusals (n - length limits) 0)
    (choose (ltb n (length limits + length refusals + length codes)) (get_or codes (n - (length limits + length refusals)) 0) 0))
