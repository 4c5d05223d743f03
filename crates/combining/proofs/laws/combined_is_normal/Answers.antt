use Rattle.combining.proofs.Theorems.{combined_is_normal}
use Rattle.combining.proofs.laws.combined_is_normal.Goals as goal

pub returns : goal.returns
returns g c = combined_is_normal _
