-- The call is on the part of the room that the definition lends, and the rest of the room is joined to it again. Assumes nothing.
use Rattle.std.specs.Prelude.{◌*◌, ◌≢◌, ◌≡◌, length}
use Rattle.std.proofs.Common.{rules, tests, sym, ◌∙◌, ap}
use Rattle.calls.specs.Numbers.{table_length}
use Rattle.layout.specs.Layout.{slots, words_length}
use Rattle.statement.specs.Machine.{State, state, given}
use Rattle.kinds_law.specs.Kinds.{any_step, any_making}
use Rattle.sheet_law.specs.declared.Command.{Command}
use Rattle.sheet_law.specs.Sheet.{played}
use Rattle.sheet_playing.proofs.Lending.{lent_is, played_length, played_make, played_run}
use Rattle.sheet_playing.proofs.play.Goals as goal

-- 1 damaged: the number of words
pub returns-in_default : goal.returns-in_default
returns-in_default c =
    let other : length c.args.words.now ≢ words_length = search (rules, tests) in
    rw c.into.ensures (played_length c.args.table.now c.args.words.now c.args.room.now c.in-Run.call other ∙ ap (λ (command : Command). played c.args.table.now (state c.args.words.now c.args.room.now) command) (sym c.in-Run.is))

-- what make replies
pub returns-in-Make : goal.returns-in-Make
returns-in-Make c = let g = c.in-Make in
    lent_is c.args.room.now c.part-n.result (g.slots * table_length) c.part-n.ensures (any_making g.kind (given g.readers g.publishers g.slots g.version c.args.table.now)) c.args.words.now c.make.new.words c.make.result c.make.new.entries c.make.ensures
    ∙ played_make c.args.table.now c.args.words.now c.args.room.now g.kind g.readers g.publishers g.slots g.version
    ∙ ap (λ (command : Command). played c.args.table.now (state c.args.words.now c.args.room.now) command) (sym c.in-Make.is)

-- what run replies
pub returns-in-Some : goal.returns-in-Some
returns-in-Some c =
    let w = c.args.words.now in
    let made : c.in-Some.made.now ≡ w = search rules in
    let same : c.slots_of.result ≡ slots w = c.slots_of.ensures ∙ ap slots made in
    lent_is c.args.room.now c.part-n-in-Run.result (slots w * table_length) (rw same at c.part-n-in-Run.ensures) (λ (t : State). any_step t c.in-Run.call) w c.run.new.words c.run.result c.run.new.entries c.run.ensures
    ∙ played_run c.args.table.now w c.args.room.now c.in-Run.call
    ∙ ap (λ (command : Command). played c.args.table.now (state w c.args.room.now) command) (sym c.in-Run.is)
