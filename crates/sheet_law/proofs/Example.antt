-- Sheets and what they print with a first table of 32 times 90000, as bytes, by computation: document 01's P1, and one on a store of the kind `rest`. Assumes nothing.
use Rattle.std.specs.Prelude.{◌≡◌, refl, replicate}
use mathlib.Core.List.{flatten}
use Rattle.base.specs.Rows.{any_below}
use Rattle.calls.specs.Numbers.{table_length, feathered_pitch}
use Rattle.calls.specs.FirstTable.{tables}
use Rattle.lines_law.specs.Lines.{lines_from, printed_for}
use Rattle.layout.specs.Layout.{reader_at, publisher_at, retirement_at, retired_at, with_reader, with_publisher, with_retirement, with_retired, with_readers, fresh_words}
use Rattle.publication_law.specs.Table.{damaged, step, making}
use Rattle.grace_version_law.specs.Steps.{onward}
use Rattle.qsbr_law.specs.Steps.{staying}
use Rattle.kinds_law.specs.Kinds.{kind_of_number, any_step, any_making}
use Rattle.sheet_law.specs.Text.{digits_before, decimal}
use Rattle.sheet_law.specs.Reading.{up_to_space, after_space, digits, plain, angle, named_in as wordNamed, line_of}
use Rattle.sheet_law.specs.Sheet.{played, sheet}
use Rattle.sheet_law.specs.Example.{P1_sheet, P1_printed, rest_sheet, rest_printed}

pub p1_bytes : sheet (replicate table_length feathered_pitch) P1_sheet ≡ P1_printed
unfolding
    reader_at publisher_at with_reader with_publisher with_readers fresh_words any_below tables damaged onward step making kind_of_number any_step any_making digits_before decimal up_to_space after_space digits plain wordNamed line_of played lines_from printed_for sheet
p1_bytes = refl

pub rest_bytes : sheet (replicate table_length feathered_pitch) rest_sheet ≡ rest_printed
unfolding
    reader_at publisher_at retirement_at retired_at with_reader with_publisher with_retirement with_retired with_readers fresh_words any_below tables damaged staying step making kind_of_number any_step any_making digits_before decimal up_to_space after_space digits plain angle wordNamed line_of played lines_from printed_for sheet flatten
rest_bytes = refl
