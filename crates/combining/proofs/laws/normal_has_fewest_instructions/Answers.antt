use Rattle.combining.proofs.Theorems.{fewest}
use Rattle.combining.proofs.laws.normal_has_fewest_instructions.Goals as goal

pub returns : goal.returns
returns g c = fewest _
