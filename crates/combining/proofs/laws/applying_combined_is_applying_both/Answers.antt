use Rattle.combining.proofs.Theorems.{applies}
use Rattle.combining.proofs.laws.applying_combined_is_applying_both.Goals as goal

pub returns : goal.returns
returns g c = applies _
