use Rattle.std.proofs.Common.{take}
use Rattle.std.specs.List.{flat_map}
use Rattle.frames.specs.Steps.{Wrote}
use Rattle.frames.proofs.writer.Writer.put_units.Given as goal

-- the units so far were written
abbrev pub invariant-loop-unit : goal.invariant-loop-unit
invariant-loop-unit g l = Wrote l.initial.self (flat_map g.U.WireUnit.code.written (take l.unit-index l.units)) l.self
