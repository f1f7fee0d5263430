-- Where more bytes count than there are, the line has over 80. Assumes nothing.
use Rattle.std.proofs.Common.{◌<◌, take, length, sym, arith, length-take, ⊎_elim}
use Rattle.sheet_law.specs.Reading.{line_max}
use Rattle.sheet_law.specs.Reads.{over_80}
use Rattle.sheet.proofs.Kept.line.Goals as goal

pub returns-in_err-get : goal.returns-in_err-get
returns-in_err-get c =
    let k = c.self.inside in
    let long : line_max < length (take k.count k.bytes) = ⊎_elim (λ none. omega (arith, none)) (λ beyond. omega (arith, beyond, length-take k.count k.bytes, c.self.told)) c.in_err-get.ensures.lookup.0 in
    rw (c.from_residual.ensures, ← c.self.view_is) (sym (over_80 (take k.count k.bytes) long))
