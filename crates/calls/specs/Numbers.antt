-- Document 01's limits, places and refusal numbers by name, with the same values as the constants of src/.
use Rattle.std.specs.Prelude.{ℕ, ℤ, pos, neg_ℤ}

-- Making: readers 1 to 64, publishers 1 to 16, slots 2 to 32, slots × 32 entries.
abbrev pub readers_max : ℕ
readers_max = 64

abbrev pub publishers_max : ℕ
publishers_max = 16

abbrev pub slots_min : ℕ
slots_min = 2

abbrev pub slots_max : ℕ
slots_max = 32

abbrev pub table_length : ℕ
table_length = 32

-- A participant may have so many slots deferred.
abbrev pub deferred_max : ℕ
deferred_max = 8

-- A pitch is a signed number of this many bits: from -pitch_half up to, but not including, pitch_half.
abbrev pub pitch_bits : ℕ
pitch_bits = 32

abbrev pub pitch_half : ℕ
pitch_half = 2147483648

-- It has so many bytes: the C header's type is compared with it.
abbrev pub pitch_bytes : ℕ
pitch_bytes = 4

-- It is in thousandths of a degree, -5000 to 95000.
abbrev pub pitch_low : ℤ
pitch_low = neg_ℤ (pos 5000)

abbrev pub pitch_high : ℤ
pitch_high = pos 95000

-- Two neighbours of a first table may differ by up to 15000.
abbrev pub step_max : ℤ
step_max = pos 15000

-- A feathered blade.
abbrev pub feathered_pitch : ℤ
feathered_pitch = pos 90000

-- 2^64, and the greatest number of 64 bits.
abbrev pub number_modulus : ℕ
number_modulus = 18446744073709551616

abbrev pub number_max : ℕ
number_max = 18446744073709551615

-- NOT_READING = 2^64 - 1
abbrev pub not_reading : ℕ
not_reading = 18446744073709551615

-- The format of words and entries. A release that changes them and not the number of words raises it by one.
abbrev pub format_number : ℕ
format_number = 1

-- The kind word: 16 times the format, and 1 for new, 2 for old, 3 for rest.
abbrev pub kind_new : ℕ
kind_new = 17

abbrev pub kind_old : ℕ
kind_old = 18

abbrev pub kind_rest : ℕ
kind_rest = 19

-- The places of a reader: 0 out; 1 the version loaded; 2 published; 3 loaded again (2 and 3 new only); 4 the section open; 5 the current slot picked.
abbrev pub place_out : ℕ
place_out = 0

abbrev pub place_loaded : ℕ
place_loaded = 1

abbrev pub place_published : ℕ
place_published = 2

abbrev pub place_loaded_again : ℕ
place_loaded_again = 3

abbrev pub place_open : ℕ
place_open = 4

abbrev pub place_picked : ℕ
place_picked = 5

-- The places of a publisher: 0 idle; 1 to 32 claimed, with place - 1 entries written; 33 all written; 34 swapped; 35 synchronising;
-- 36 quiet indicator seen empty (old only); 37 raised; 38 returned.
abbrev pub place_idle : ℕ
place_idle = 0

abbrev pub place_claimed : ℕ
place_claimed = 1

abbrev pub place_written : ℕ
place_written = 33

abbrev pub place_swapped : ℕ
place_swapped = 34

abbrev pub place_synchronising : ℕ
place_synchronising = 35

abbrev pub place_quiet : ℕ
place_quiet = 36

abbrev pub place_raised : ℕ
place_raised = 37

abbrev pub place_returned : ℕ
place_returned = 38

-- In a kind whose loops never enter a section a publisher at 35 has raised the epoch, and its former slot is not yet queued.
abbrev pub place_deferring : ℕ
place_deferring = 35

-- Refusal numbers.
abbrev pub damaged_number : ℕ
damaged_number = 1

abbrev pub bad_readers_number : ℕ
bad_readers_number = 2

abbrev pub bad_publishers_number : ℕ
bad_publishers_number = 3

abbrev pub bad_slots_number : ℕ
bad_slots_number = 4

abbrev pub bad_entries_number : ℕ
bad_entries_number = 5

abbrev pub bad_version_number : ℕ
bad_version_number = 6

abbrev pub no_such_reader_number : ℕ
no_such_reader_number = 10

abbrev pub no_such_publisher_number : ℕ
no_such_publisher_number = 11

abbrev pub no_such_slot_number : ℕ
no_such_slot_number = 12

abbrev pub no_such_entry_number : ℕ
no_such_entry_number = 13

abbrev pub bad_pitch_number : ℕ
bad_pitch_number = 14

abbrev pub reader_turn_number : ℕ
reader_turn_number = 20

abbrev pub publisher_turn_number : ℕ
publisher_turn_number = 21

abbrev pub slot_in_use_number : ℕ
slot_in_use_number = 30

abbrev pub busy_number : ℕ
busy_number = 31

abbrev pub version_is_last_number : ℕ
version_is_last_number = 32

abbrev pub too_many_looks_number : ℕ
too_many_looks_number = 33

abbrev pub bad_table_length_number : ℕ
bad_table_length_number = 40

abbrev pub bad_table_pitch_number : ℕ
bad_table_pitch_number = 41

abbrev pub bad_table_step_number : ℕ
bad_table_step_number = 42

abbrev pub epoch_is_last_number : ℕ
epoch_is_last_number = 43

abbrev pub too_many_deferred_number : ℕ
too_many_deferred_number = 44

-- The codes of accepted replies for C: those of document 01 in its order, then that of request 3.
abbrev pub code_made : ℕ
code_made = 100

abbrev pub code_at : ℕ
code_at = 101

abbrev pub code_pitch : ℕ
code_pitch = 102

abbrev pub code_left : ℕ
code_left = 103

abbrev pub code_claimed : ℕ
code_claimed = 104

abbrev pub code_written : ℕ
code_written = 105

abbrev pub code_swapped : ℕ
code_swapped = 106

abbrev pub code_synced : ℕ
code_synced = 107

abbrev pub code_raised : ℕ
code_raised = 108

abbrev pub code_shared : ℕ
code_shared = 109

abbrev pub code_waiting : ℕ
code_waiting = 110

abbrev pub code_spent : ℕ
code_spent = 111

abbrev pub code_quiet : ℕ
code_quiet = 112

abbrev pub code_returned : ℕ
code_returned = 113

abbrev pub code_freed : ℕ
code_freed = 114

abbrev pub code_picked : ℕ
code_picked = 115
