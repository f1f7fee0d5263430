-- The text stands in the part of the buffer that it was copied to, and before and behind that part the buffer is what it was. Assumes nothing.
use native.Mathlib.Omega.{arith}
use Rattle.std.proofs.Common.{refl}
use Rattle.std.proofs.lemmas.Slice.{take-put_mid, drop-put_mid}
use Rattle.sheet_printing.proofs.put.Goals as goal

pub returns : goal.returns
returns c = rw (c.copy_from_slice.ensures.after) (record {
  small = omega arith;
  length_is = refl;
  bytes = take-put_mid c.args.at _ c.args.out.now c.args.s.now _ refl (omega arith);
  rest = drop-put_mid c.args.at _ c.args.out.now c.args.s.now _ (omega arith) (omega arith) (omega arith);
})
