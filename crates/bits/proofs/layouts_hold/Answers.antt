use Rattle.bits.proofs.Layouts.{cut_undoes_join, join_undoes_cut}
use Rattle.bits.proofs.layouts_hold.Goals as goal

pub returns : goal.returns
returns c = record { cut_undoes_join = cut_undoes_join; join_undoes_cut = join_undoes_cut }
