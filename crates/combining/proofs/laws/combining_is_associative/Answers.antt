use Rattle.combining.proofs.Theorems.{associative}
use Rattle.combining.proofs.laws.combining_is_associative.Goals as goal

pub returns : goal.returns
returns g c = associative _
