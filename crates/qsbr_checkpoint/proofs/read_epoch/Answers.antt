-- `read_epoch` meets its contract: `read_last_is` at the last step, else `read_is`. Writing the reader leaves the retirement. Assumes nothing.
use Rattle.std.proofs.Common.{rules}
use mathlib.Core.Path.{refl, ◌∙◌}
use borrow.Author.Tests.{eq-eqb, ne_eqb}
use Rattle.qsbr_law.proofs.Calls.{still_retires, read_is, read_last_is}
use Rattle.qsbr_checkpoint.proofs.read_epoch.Goals as goal

pub end_checkpoint-requires : goal.end_checkpoint-requires
end_checkpoint-requires c = let a = c.args in let t = rw c.put_reader.ensures at c.retirement_at-t.ensures ∙ still_retires a.words.now a.r c.reader_after-x.result c.requires.0 in rw t (c.requires.0, c.requires.5)

-- the last step
pub returns-then-step-n : goal.returns-then-step-n
returns-then-step-n c = let a = c.args in let t = rw c.put_reader.ensures at c.retirement_at-t.ensures ∙ still_retires a.words.now a.r c.reader_after-x.result c.requires.0 in
    λ es. rw (eq-eqb _ _ c.if-step-n.true) (read_last_is a.words.now _ a.r a.step _ c.reader_after-x.result c.requires.2 (rw t refl) c.reader_after-x.ensures (rw c.put_reader.ensures at c.end_checkpoint.ensures) es)

-- an earlier one
pub returns : goal.returns
returns c = let a = c.args in
    λ es. rw (ne_eqb _ _ c.if-step-n.false) (read_is a.words.now _ a.r c.reader_after-x.result c.retirement_at-t.result c.requires.0 (rw c.put_reader.ensures at c.retirement_at-t.ensures) a.step c.requires.2 c.reader_after-x.ensures (rw c.put_reader.ensures at c.put_retirement.ensures) es)
