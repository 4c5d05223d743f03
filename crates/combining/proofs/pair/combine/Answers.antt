use Rattle.std.proofs.Common.{rules, length, Ok, refl, sym, ap, ◌∙◌, subst, arith}
use Rattle.deltas.specs.Check.{parts_of}
use Rattle.deltas.proofs.Sound.{passed_any}
use Rattle.combining.specs.Combine.{Meet, combined_origins}
use Rattle.combining.specs.Steps.{Appended}
use Rattle.combining.proofs.Own.{own_pair_means, at_kept}
use Rattle.combining.proofs.Outputs.{long_enough, finished, answer_ok}
use Rattle.combining.proofs.Replacing.{combining_is_replace}
use Rattle.combining.proofs.Theorems.{length_combined, within_combined}
use Rattle.combining.proofs.pair.combine.Goals as goal

pub returns : goal.returns
returns g c =
    let a = parts_of c.args.earlier.now in
    let b = parts_of c.args.later.now in
    let own_a = at_kept _ _ c.in_ok-earlier.earlier _ _ refl c.lawful.ensures c.in_ok-earlier.ensures.cases in
    let own_b = at_kept _ _ c.in_ok-later.later _ _ refl c.lawful-2.ensures c.in_ok-later.ensures.cases in
    let la = passed_any a _ own_a.0 in
    let lb = passed_any b _ own_b.0 in
    let ha = ap (λ p. p.head) own_a.1 in
    let hb = ap (λ p. p.head) own_b.1 in
    let meet : Meet a b = sym (ap (λ h. h.target) ha) ∙ c.if-earlier-later.false ∙ ap (λ h. h.source) hb in
    let target = ap (λ h. h.target) hb in
    let none = c.new-output.ensures in
    let entries = ap (λ m. length m.now) none.instructions in
    let room = ap (λ m. length m.now) none.units in
    let enough = long_enough c.in_ok-later.later.head.target (length c.new-output.result.instructions.now) (length c.new-output.result.units.now) (sym c.is_short.ensures ∙ c.if-is_short.false) in
    let wrote = subst (λ os. Appended os c.new-output.result c.write_combined.new.output) (own_pair_means c.in_ok-earlier.earlier c.in_ok-later.later a b own_a.1 own_b.1) c.write_combined.ensures in
    let done = finished g.U.Unit.blank a.head.source _ _ _ _ (combined_origins a b) _ _ _ none.count none.inserted entries room wrote c.finish.ensures.head (ap (λ h. h.source) ha) (length_combined a b lb ∙ sym target) c.in_ok-later.later.target (omega (arith, enough.0)) (omega (arith, enough.1)) (within_combined a b la lb meet) in
    record {
      answer = ap Ok done.head ∙ answer_ok a b (length c.args.out_instructions.now) (length c.args.out_units.now) _ _ (sym own_a.0) (sym own_b.0) meet (omega (arith, enough.0)) (omega (arith, enough.1));
      instructions = done.instructions _ (search rules);
      units = done.units _ (search rules);
      meaning = done.holds _ _ _ (combining_is_replace _ a b la lb meet).0 (search rules) (search rules);
    }
