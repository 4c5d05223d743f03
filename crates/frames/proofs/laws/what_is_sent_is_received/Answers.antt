use Rattle.frames.proofs.Sending.{distribution}
use Rattle.frames.proofs.laws.what_is_sent_is_received.Goals as goal

pub returns : goal.returns
returns g c =
    distribution g.U.WireUnit.code g.met.U.WireUnit.laws
