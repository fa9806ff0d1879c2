use Rattle.std.proofs.Common.{◌≡◌, ◌≤◌, min, ap, ◌∙◌, arith}
use Rattle.ring.specs.Ring.{index_of}
use Rattle.octet_line.proofs.Whole.{ahead, size_is, oldest_is, filled_is, used_length}
use Rattle.octet_line.proofs.octets.OctetLine.read_oldest.Goals as goal

pub read_round-requires-clause-room : goal.read_round-requires-clause-room
read_round-requires-clause-room c =
    let h = c.self.invariant in
    let some : 1 ≤ c.self.inside.count = grind arith in
    let n = size_is _ h some c.from-count.result (grind arith) in
    let fits = (ahead _ h some).fits in
    let long = used_length _ h in
    let most = h.ring.most in
    let room = h.room in
    omega arith

pub read_round-requires-clause-short : goal.read_round-requires-clause-short
read_round-requires-clause-short c =
    let h = c.self.invariant in
    let some : 1 ≤ c.self.inside.count = grind arith in
    let n = size_is _ h some c.from-count.result (grind arith) in
    let high = (ahead _ h some).high in
    omega arith

pub returns-clause-answer : goal.returns-clause-answer
returns-clause-answer c =
    let h = c.self.invariant in
    let some : 1 ≤ c.self.inside.count = grind arith in
    rw (← c.self.view_is) (oldest_is _ h some _ (size_is _ h some _ (grind arith)))

pub returns-clause-octets : goal.returns-clause-octets
returns-clause-octets c =
    let h = c.self.invariant in
    let g = c.self.inside.ring in
    let some : 1 ≤ c.self.inside.count = grind arith in
    let two : min 2 g.size ≡ 2 = omega (arith, used_length _ h, (ahead _ h some).fits, (ahead _ h some).low, h.ring.most) in
    rw (← c.self.view_is) (filled_is _ h some c.from-count.result c.index-2.result _ _ (size_is _ h some _ (grind arith)) (c.index-2.ensures.at ∙ ap (index_of g) two) c.requires c.read_round.ensures)
