use Rattle.std.specs.Prelude.{◌≡◌, replicate, vec_items, vec_len}
use Rattle.deltas.specs.Check.{Parts, parts}
use Rattle.deltas.specs.Instructions.{blank_instruction}
use Rattle.sulgheddo.specs.declared.delta_text.OwnedDelta.{OwnedDelta}
use Rattle.sulgheddo.specs.declared.tables.OwnedTables.{OwnedTables}
use Rattle.sulgheddo.specs.declared.tables.Sizes.{Sizes}

module _ {U : Type 0} where
  -- tables of these sizes that hold nothing, where this is the unit of an empty place
  pub record Blank (unit : U) (sizes : Sizes) (t : OwnedTables U) : Type 0 where
    pub instructions : vec_items t.instructions ≡ replicate sizes.instructions blank_instruction
    pub units : vec_items t.units ≡ replicate sizes.units unit

  -- a delta that was read: every entry of its tables is its own
  abbrev pub delta_of : OwnedDelta U → Parts U
  delta_of d =
      parts
      (record {
        source = d.source;
        target = d.target;
        instructions = vec_len d.tables.instructions;
        inserted = vec_len d.tables.units;
      })
      (vec_items d.tables.instructions)
      (vec_items d.tables.units)
