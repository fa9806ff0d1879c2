use Rattle.std.proofs.Common.{◌≡◌, ◌-◌, min, length, arith}
use Rattle.octet_line.proofs.Round.{queued_more}
use Rattle.octet_line.proofs.octets.round.add.Goals as goal

pub returns-clause-used : goal.returns-clause-used
returns-clause-used c =
    let g = c.args.ring in
    let o = c.args.octets.now in
    let all : min (length o) (g.size - g.count) ≡ length o = omega arith in
    let last : min c.count.result g.size ≡ g.count = omega arith in
    rw (c.longer.ensures, all, c.lay_round.ensures, c.index.ensures.at, last) (queued_more g c.args.memory.now o c.requires.ring c.requires.room c.requires.some c.requires.fits)
