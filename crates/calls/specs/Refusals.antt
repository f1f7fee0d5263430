-- The number of each refusal, and the reply that gives it.
use Rattle.std.specs.Prelude.{ℕ}
use Rattle.calls.specs.declared.Refusal.{Refusal}
use Rattle.calls.specs.declared.Refusal.TheVariants.{Damaged, BadReaders, BadPublishers, BadSlots, BadEntries, BadVersion, NoSuchReader, NoSuchPublisher, NoSuchSlot, NoSuchEntry, BadPitch, ReaderTurn, PublisherTurn, SlotInUse, Busy, VersionIsLast, TooManyLooks, BadTableLength, BadTablePitch, BadTableStep, EpochIsLast, TooManyDeferred}
use Rattle.calls.specs.declared.Reply.{Reply}
use Rattle.calls.specs.declared.Reply.TheVariants.{Refused}
use Rattle.calls.specs.Numbers.{damaged_number, bad_readers_number, bad_publishers_number, bad_slots_number, bad_entries_number, bad_version_number, no_such_reader_number, no_such_publisher_number, no_such_slot_number, no_such_entry_number, bad_pitch_number, reader_turn_number, publisher_turn_number, slot_in_use_number, busy_number, version_is_last_number, too_many_looks_number, bad_table_length_number, bad_table_pitch_number, bad_table_step_number, epoch_is_last_number, too_many_deferred_number}

abbrev pub refusal_number : Refusal → ℕ
refusal_number Damaged = damaged_number
refusal_number BadReaders = bad_readers_number
refusal_number BadPublishers = bad_publishers_number
refusal_number BadSlots = bad_slots_number
refusal_number BadEntries = bad_entries_number
refusal_number BadVersion = bad_version_number
refusal_number NoSuchReader = no_such_reader_number
refusal_number NoSuchPublisher = no_such_publisher_number
refusal_number NoSuchSlot = no_such_slot_number
refusal_number NoSuchEntry = no_such_entry_number
refusal_number BadPitch = bad_pitch_number
refusal_number ReaderTurn = reader_turn_number
refusal_number PublisherTurn = publisher_turn_number
refusal_number SlotInUse = slot_in_use_number
refusal_number Busy = busy_number
refusal_number VersionIsLast = version_is_last_number
refusal_number TooManyLooks = too_many_looks_number
refusal_number BadTableLength = bad_table_length_number
refusal_number BadTablePitch = bad_table_pitch_number
refusal_number BadTableStep = bad_table_step_number
refusal_number EpochIsLast = epoch_is_last_number
refusal_number TooManyDeferred = too_many_deferred_number

abbrev pub refused : Refusal → Reply
refused refusal = Refused (refusal_number refusal)
