-- The first space cuts the text as the definitions do. Assumes nothing.
use Rattle.std.proofs.Common.{◌∙◌}
use Rattle.sheet_fields.proofs.Bytes.{up_to_space_is, after_space_is}
use Rattle.sheet_fields.proofs.split_at_space.Goals as goal

pub returns : goal.returns
returns c = record { before = c.split_at_byte.ensures.before ∙ up_to_space_is _; after = c.split_at_byte.ensures.after ∙ after_space_is _ }
