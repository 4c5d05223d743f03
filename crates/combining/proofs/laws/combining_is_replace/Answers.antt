use Rattle.combining.proofs.Replacing.{combining_is_replace}
use Rattle.combining.proofs.laws.combining_is_replace.Goals as goal

pub returns : goal.returns
returns g c = combining_is_replace _
