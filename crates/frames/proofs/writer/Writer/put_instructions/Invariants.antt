use Rattle.std.proofs.Common.{take}
use Rattle.frames.specs.Steps.{Wrote}
use Rattle.frames.specs.Writing.{instructions_bytes}
use Rattle.frames.proofs.writer.Writer.put_instructions.Given as goal

-- the instructions so far were written
abbrev pub invariant-loop-instruction : goal.invariant-loop-instruction
invariant-loop-instruction g l = Wrote l.initial.self (instructions_bytes g.U.WireUnit.code l.delta.units.now (take l.instruction-index l.delta.instructions.now)) l.self
