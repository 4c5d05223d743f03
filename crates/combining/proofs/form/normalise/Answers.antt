use Rattle.std.proofs.Common.{rules, length, Ok, refl, sym, ap, ◌∙◌, subst, arith}
use Rattle.deltas.specs.Check.{parts_of}
use Rattle.deltas.specs.Origins.{origins_of}
use Rattle.deltas.proofs.Sound.{passed_any, within_origins}
use Rattle.combining.specs.Steps.{Appended}
use Rattle.combining.proofs.Own.{own_means}
use Rattle.combining.proofs.Outputs.{long_enough, finished, normal_ok}
use Rattle.combining.proofs.Theorems.{length_target}
use Rattle.combining.proofs.form.normalise.Goals as goal

pub returns : goal.returns
returns g c =
    let d = parts_of c.args.delta.now in
    let own = c.in_ok-delta.ensures in
    let lawful = passed_any d _ own.0 in
    let same = ap (λ p. p.head) own.1 in
    let target = ap (λ h. h.target) same in
    let none = c.new-output.ensures in
    let entries = ap (λ m. length m.now) none.instructions in
    let room = ap (λ m. length m.now) none.units in
    let enough = long_enough c.in_ok-delta.delta.head.target (length c.new-output.result.instructions.now) (length c.new-output.result.units.now) (sym c.is_short.ensures ∙ c.if-is_short.false) in
    let wrote = subst (λ os. Appended os c.new-output.result c.write_runs.new.output) (own_means c.in_ok-delta.delta d own.1) c.write_runs.ensures in
    let done = finished g.U.Unit.blank d.head.source _ _ _ _ (origins_of d) _ _ _ none.count none.inserted entries room wrote c.finish.ensures.head (ap (λ h. h.source) same) (length_target d lawful ∙ sym target) c.in_ok-delta.delta.target (omega (arith, enough.0)) (omega (arith, enough.1)) (within_origins d lawful) in
    record {
      answer = ap Ok done.head ∙ normal_ok d (length c.args.out_instructions.now) (length c.args.out_units.now) _ (sym own.0) (omega (arith, enough.0)) (omega (arith, enough.1));
      instructions = done.instructions _ (search rules);
      units = done.units _ (search rules);
      meaning = done.holds _ _ _ refl (search rules) (search rules);
    }
