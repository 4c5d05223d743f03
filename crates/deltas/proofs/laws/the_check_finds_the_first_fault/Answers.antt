use Rattle.deltas.proofs.FirstFault.{check_means}
use Rattle.deltas.proofs.laws.the_check_finds_the_first_fault.Goals as goal

pub returns : goal.returns
returns g c = check_means _
