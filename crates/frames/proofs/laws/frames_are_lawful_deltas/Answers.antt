use Rattle.frames.proofs.FirstWrong.{frames_mean}
use Rattle.frames.proofs.laws.frames_are_lawful_deltas.Goals as goal

pub returns : goal.returns
returns g c =
    frames_mean g.U.WireUnit.code g.met.U.WireUnit.laws
