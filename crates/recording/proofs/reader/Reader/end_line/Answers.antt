-- The answer is that of the definitions, of which the laws are theorems.
use Rattle.std.proofs.Common.{rules}
use Rattle.recording.proofs.Written.{reads_back}
use Rattle.recording.proofs.Accepted.{reads_only}
use Rattle.recording.proofs.Faults.{tells_first}
use Rattle.recording.proofs.reader.Reader.end_line.Goals as goal

pub returns-clause-written : goal.returns-clause-written
returns-clause-written c = reads_back _ _ _ (search rules) (search rules)

pub returns-clause-only : goal.returns-clause-only
returns-clause-only c = reads_only _ _ (search rules)

pub returns-clause-first : goal.returns-clause-first
returns-clause-first c = tells_first _ _ (search rules)
