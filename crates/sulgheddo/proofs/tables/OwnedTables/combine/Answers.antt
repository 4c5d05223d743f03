use Rattle.std.proofs.Common.{◌∙◌}
use Rattle.std.proofs.lemmas.List.{take_at}
use Rattle.combining.specs.Combine.{combined_origins}
use Rattle.combining.specs.Normal.{runs}
use Rattle.combining.specs.Outcomes.{left_in}
use Rattle.deltas.specs.Instructions.{blank_instruction}
use Rattle.deltas.specs.Origins.{inserts}
use Rattle.sulgheddo.proofs.tables.OwnedTables.combine.Goals as goal

pub returns-clause-instructions : goal.returns-clause-instructions
returns-clause-instructions g c =
    rw (take_at _ _ _ (c.combine.auto.out_instructions ∙ c.as_mut_slice.ensures.len), c.combine.ensures.instructions, c.as_mut_slice.ensures.value)
    (λ i. left_in c.combine.result c.args.self.now.instructions.items (runs (combined_origins (c.lent.ensures i) (c.lent-2.ensures i))) blank_instruction)

pub returns-clause-units : goal.returns-clause-units
returns-clause-units g c =
    rw (take_at _ _ _ (c.combine.auto.out_units ∙ c.as_mut_slice-2.ensures.len), c.combine.ensures.units, c.as_mut_slice-2.ensures.value)
    (λ i. left_in c.combine.result c.args.self.now.units.items (inserts (combined_origins (c.lent.ensures i) (c.lent-2.ensures i))) g.U.Unit.blank)
