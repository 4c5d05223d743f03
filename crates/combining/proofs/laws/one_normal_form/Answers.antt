use Rattle.combining.proofs.Theorems.{one_normal_form}
use Rattle.combining.proofs.laws.one_normal_form.Goals as goal

pub returns : goal.returns
returns g c = one_normal_form _
