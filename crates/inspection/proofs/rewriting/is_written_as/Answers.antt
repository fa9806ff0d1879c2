use Rattle.std.proofs.lemmas.List.{length-replicate}
use Rattle.inspection.proofs.Rewritten.{decided}
use Rattle.inspection.proofs.rewriting.is_written_as.Goals as goal

pub returns : goal.returns
returns g c =
    decided g.V.Encode.no_room (g.V.Encode.encoded c.args.value) c.args.octets.now _ _ _ c.has_put.result c.write-answer.ensures.answer c.write-answer.ensures.after (λ e. rw length-replicate (c.requires.room e)) c.has_put.ensures
