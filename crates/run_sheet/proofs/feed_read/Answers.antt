-- What a turn feeds: some of what is left of the read, and no more than that. Assumes nothing.
use Rattle.std.proofs.Common.{refl, sym, arith, ◌∙◌}
use Rattle.std.proofs.lemmas.Result.{err_from_is_err_and}
use Rattle.run_sheet.proofs.Parts.{none_fed, fed_further, less_left, some_read}
use Rattle.run_sheet.proofs.feed_read.Goals as goal

pub loop-rest-init : goal.loop-rest-init
loop-rest-init g c = record { room = c.requires; lent = (refl, refl, refl); fed_so_far = none_fed _ _ _ }

pub loop-rest-smaller : goal.loop-rest-smaller
loop-rest-smaller g c = less_left c.loop-rest.invariant.fed_so_far c.feed-fed.ensures.feeds c.loop-rest.invariant.room (sym c.is_empty.ensures ∙ c.loop-rest-test.true)

pub loop-rest-preserved : goal.loop-rest-preserved
loop-rest-preserved g c = let k = c.loop-rest.invariant in let e = c.feed-fed.ensures.lent in
    record {
      room = omega (arith, c.feed-fed.auto.out);
      lent = (e.0 ∙ k.lent.0, e.1 ∙ k.lent.1, e.2 ∙ k.lent.2);
      fed_so_far = rw e.2 (fed_further k.fed_so_far c.feed-fed.ensures.feeds);
    }

-- not all could be written
pub returns-in_err-write_all-clause-fed : goal.returns-in_err-write_all-clause-fed
returns-in_err-write_all-clause-fed g c = let k = c.loop-rest.invariant in let p = err_from_is_err_and c.from_residual.result c.from_residual.ensures.1 in
    rw (p.1, ← k.lent.2) (some_read (fed_further k.fed_so_far c.feed-fed.ensures.feeds))
