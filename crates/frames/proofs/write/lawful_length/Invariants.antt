use Rattle.std.proofs.Common.{◌≡◌, ◌+◌, length, take}
use Rattle.frames.specs.Writing.{instructions_bytes}
use Rattle.frames.proofs.write.lawful_length.Given as goal

-- the first 12 bytes and the instructions so far
abbrev pub invariant-loop-instruction : goal.invariant-loop-instruction
invariant-loop-instruction g l = l.length ≡ 12 + length (instructions_bytes g.U.WireUnit.code l.delta.units.now (take l.instruction-index l.delta.instructions.now))
