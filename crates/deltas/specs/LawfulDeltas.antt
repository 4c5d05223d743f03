use Rattle.deltas.specs.declared.lawful.LawfulDelta.{LawfulDelta}
use Rattle.deltas.specs.Check.{Parts, parts}

-- the values of a lawful delta, whose tables are just its own entries
abbrev pub lawful_parts : {U : Type 0} → LawfulDelta U → Parts U
lawful_parts d = parts d.head d.instructions.now d.units.now
