-- Each byte joins its line or ends it; where feeding stops, nothing of the rest is taken. Assumes nothing.
use Rattle.std.proofs.Common.{refl, sym, ◌∙◌, ap, arith, leb-true, leb-false}
use Rattle.layout.specs.Layout.{kind_word}
use Rattle.statement.specs.Machine.{Outcome}
use Rattle.sheet_law.specs.Text.{text}
use Rattle.sheet_law.specs.Printing.{reply_text}
use Rattle.sheet_law.specs.Sheet.{known}
use Rattle.sheet.proofs.Turns.{begins, joins, ends, at_the_end, at_a_newline}
use Rattle.sheet.proofs.Sheet.feed.Goals as goal

pub loop-used-init : goal.loop-used-init
loop-used-init c = record { lent = (refl, refl, refl); going = begins _ _ _ _ }

pub loop-used-preserved-then-b-ne-NEWLINE : goal.loop-used-preserved-then-b-ne-NEWLINE
loop-used-preserved-then-b-ne-NEWLINE c = let k = c.loop-used.invariant in
    record { lent = k.lent; going = joins k.going c.loop-used-test.true _ c.if-b-ne-NEWLINE.true c.keep.ensures }

pub returns-then-not-fits-clause-feeds : goal.returns-then-not-fits-clause-feeds
returns-then-not-fits-clause-feeds c =
    let full = leb-false _ _ (sym c.fits.ensures ∙ c.if-not-fits.true) in
    at_a_newline c.loop-used.invariant.going c.loop-used-test.true c.if-b-ne-NEWLINE.false (omega arith)

pub loop-used-preserved-in_default : goal.loop-used-preserved-in_default
loop-used-preserved-in_default c = let k = c.loop-used.invariant in
    let room = leb-true _ _ (sym c.fits.ensures ∙ c.if-not-fits.false) in
    let unread = sym c.in_default.is ∙ c.known.ensures ∙ ap (known (kind_word c.loop-used.self.words.now)) c.line-line.ensures in
    record {
      lent = k.lent;
      going = ends k.going c.loop-used-test.true _ c.if-b-ne-NEWLINE.false (omega arith) c.end_line-number.ensures.next (rw (← unread) refl) (text "unread") (rw (← unread) refl) c.end_line-number.ensures.number (c.print_unread-made.ensures.put room);
    }

pub loop-used-preserved : goal.loop-used-preserved
loop-used-preserved c = let k = c.loop-used.invariant in
    let room = leb-true _ _ (sym c.fits.ensures ∙ c.if-not-fits.false) in
    let read = sym c.in-Some.is ∙ c.known.ensures ∙ ap (known (kind_word c.loop-used.self.words.now)) c.line-line.ensures in
    record {
      lent = k.lent;
      going = ends k.going c.loop-used-test.true _ c.if-b-ne-NEWLINE.false (omega arith) c.end_line-number.ensures.next (rw (← read) (ap (λ (o : Outcome). o.after) c.play-reply.ensures)) (reply_text c.play-reply.result) (rw (← read) (ap (λ (o : Outcome). reply_text o.reply) c.play-reply.ensures)) c.end_line-number.ensures.number (c.print_reply-made.ensures.put room);
    }

pub returns-clause-feeds : goal.returns-clause-feeds
returns-clause-feeds c = at_the_end c.loop-used.invariant.going (omega arith)
