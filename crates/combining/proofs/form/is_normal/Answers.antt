use Rattle.std.proofs.Common.{◌≡◌, Bool, false, Ok, Err, Result, Decides, rules, sym, ap, ◌∙◌}
use Rattle.std.specs.Result.{MatchResult}
use Rattle.std.proofs.lemmas.Bool.{false≢true}
use Rattle.std.proofs.lemmas.Result.{MatchResult-weaker}
use Rattle.deltas.specs.declared.lawful.LawfulDelta.{LawfulDelta}
use Rattle.deltas.specs.declared.fault.DeltaFault.{DeltaFault}
use Rattle.deltas.specs.Check.{Parts, parts_of, own, checked, instructions_of}
use Rattle.deltas.specs.LawfulDeltas.{lawful_parts}
use Rattle.combining.specs.Normal.{all_apart, Normal}
use Rattle.deltas.proofs.Sound.{passed, passed_any}
use Rattle.combining.proofs.NormalForm.{apart_decides}
use Rattle.combining.proofs.form.is_normal.Goals as goal

-- a test of the delta's own entries, where it is lawful, and no where it is not
normal_decides : {U : Type 0} (d : Parts U) (b : Bool) (r : Result (LawfulDelta U) DeltaFault) → MatchResult r (λ l. (checked d ≡ Ok l.head) × (lawful_parts l ≡ own d)) (λ f. checked d ≡ Err f) → MatchResult r (λ l. b ≡ all_apart l.instructions.now) (λ _. b ≡ false) → Decides b (Normal d)
normal_decides d b (Ok l) e t =
    let lawful = passed_any d l.head e.0 in
    let decides = apart_decides d.head.source 0 (instructions_of d) (passed d lawful).sound in
    let answer : b ≡ all_apart (instructions_of d) = t ∙ ap (λ p. all_apart p.table) e.1 in
    ((λ yes. (lawful, decides.0 (sym answer ∙ yes))), (λ n. answer ∙ decides.1 n.1))
normal_decides d b (Err f) e t = ((λ yes. absurd (false≢true (sym t ∙ yes))), (λ n. absurd (let no : Err f ≡ Ok d.head = sym e ∙ n.0 in cc no)))

pub returns : goal.returns
returns g c =
    normal_decides (parts_of c.args.delta.now) c.is_ok_and.result c.lawful.result c.lawful.ensures
    (MatchResult-weaker c.lawful.result c.is_ok_and.ensures (λ l p. search rules) (λ f e. e))
