-- The number that a making answers with: that of its refusal, 0 where it is not refused.
use Rattle.std.specs.Prelude.{ℕ, ◌≡◌, false, eqb}
use Rattle.std.proofs.Common.{refl, Ok, Err}
use Rattle.std.specs.declared.result.Result.{Result}
use Rattle.calls.specs.declared.Refusal.{Refusal}
use Rattle.calls.specs.declared.Refusal.TheVariants.{Damaged, BadReaders, BadPublishers, BadSlots, BadEntries, BadVersion, NoSuchReader, NoSuchPublisher, NoSuchSlot, NoSuchEntry, BadPitch, ReaderTurn, PublisherTurn, SlotInUse, Busy, VersionIsLast, TooManyLooks, BadTableLength, BadTablePitch, BadTableStep, EpochIsLast, TooManyDeferred}
use Rattle.calls.specs.Refusals.{refusal_number}

abbrev pub number_in : Result (Unit {0}) Refusal → ℕ
number_in (Ok u) = 0
number_in (Err refusal) = refusal_number refusal

pub numbered : (refusal : Refusal) → eqb (refusal_number refusal) 0 ≡ false
numbered Damaged = refl
numbered BadReaders = refl
numbered BadPublishers = refl
numbered BadSlots = refl
numbered BadEntries = refl
numbered BadVersion = refl
numbered NoSuchReader = refl
numbered NoSuchPublisher = refl
numbered NoSuchSlot = refl
numbered NoSuchEntry = refl
numbered BadPitch = refl
numbered ReaderTurn = refl
numbered PublisherTurn = refl
numbered SlotInUse = refl
numbered Busy = refl
numbered VersionIsLast = refl
numbered TooManyLooks = refl
numbered BadTableLength = refl
numbered BadTablePitch = refl
numbered BadTableStep = refl
numbered EpochIsLast = refl
numbered TooManyDeferred = refl
