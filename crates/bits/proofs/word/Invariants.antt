use Rattle.std.proofs.Common.{◌%◌, ◌^◌, drop}
use Rattle.bits.specs.Layout.{number}
use Rattle.bits.proofs.Words.{Gathering}
use Rattle.bits.proofs.word.Given as goal

abbrev pub invariant-loop-octet : goal.invariant-loop-octet
invariant-loop-octet l = Gathering l.word (drop l.octet-index l.octets) (number l.octets % 2 ^ 128)
