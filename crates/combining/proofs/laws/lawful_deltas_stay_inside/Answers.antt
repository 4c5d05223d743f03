use Rattle.combining.proofs.Theorems.{stays_inside}
use Rattle.combining.proofs.laws.lawful_deltas_stay_inside.Goals as goal

pub returns : goal.returns
returns g c = stays_inside _
