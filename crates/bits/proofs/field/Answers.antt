use Rattle.std.proofs.Common.{◌/◌, ◌^◌, arith, pow_pos}
use lib.Bits.{and_mask}
use Rattle.std.proofs.lemmas.Nat.{one_shl}
use Rattle.bits.proofs.Words.{shifted_out, all_kept}
use Rattle.bits.proofs.field.Goals as goal

pub returns-then-shift-gt127 : goal.returns-then-shift-gt127
returns-then-shift-gt127 c = shifted_out 128 c.args.word c.args.shift c.args.width (omega arith) (omega arith)

pub returns-then-width-gt127 : goal.returns-then-width-gt127
returns-then-width-gt127 c = all_kept 128 c.args.word c.args.shift c.args.width (omega arith) (omega arith)

pub overflow_sub-result : goal.overflow_sub-result
overflow_sub-result c = rw (one_shl c.args.width 128 (omega arith)) (pow_pos c.args.width)

pub returns : goal.returns
returns c = rw (one_shl c.args.width 128 (omega arith)) (and_mask (c.args.word / 2 ^ c.args.shift) c.args.width)
