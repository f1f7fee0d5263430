-- What a line says after its number.
use Rattle.std.specs.Prelude.{ℕ, List, Option, None, Some}
use Rattle.calls.specs.declared.Reply.{Reply}
use Rattle.sheet_law.specs.Text.{text}
use Rattle.sheet_law.specs.Printing.{reply_text}

abbrev pub answer_text : Option Reply → List ℕ
answer_text None = text "unread"
answer_text (Some reply) = reply_text reply
