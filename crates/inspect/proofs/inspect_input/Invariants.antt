use Rattle.std.proofs.Common.{◌≡◌, length}
use Rattle.inspect.proofs.inspect_input.Given as goal

-- the chunk keeps its size
abbrev pub invariant-loop : goal.invariant-loop
invariant-loop l = length l.chunk ≡ 4096
