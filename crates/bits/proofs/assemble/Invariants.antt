use Rattle.std.proofs.Common.{drop}
use Rattle.bits.specs.Layout.{assembled}
use Rattle.bits.proofs.Words.{Assembling}
use Rattle.bits.proofs.assemble.Given as goal

abbrev pub invariant-loop-field : goal.invariant-loop-field
invariant-loop-field l = Assembling l.used l.word (drop l.field-index l.fields) (assembled l.fields)
