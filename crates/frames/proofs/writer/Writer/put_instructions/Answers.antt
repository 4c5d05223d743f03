use Rattle.std.proofs.Common.{length, refl, arith}
use Rattle.std.proofs.ByRecursion.{All-get_or}
use Rattle.deltas.specs.Instructions.{blank_instruction}
use Rattle.deltas.specs.LawfulDeltas.{lawful_parts}
use Rattle.deltas.specs.Places.{Fits}
use Rattle.frames.specs.Instructions.{wire_bytes}
use Rattle.frames.specs.Writing.{wire_of}
use Rattle.frames.proofs.Emitting.{fresh, own_fits}
use Rattle.frames.proofs.Writers.{more_room, wrote_more}
use Rattle.frames.proofs.writer.Writer.put_instructions.Goals as goal

pub put_instruction-requires : goal.put_instruction-requires
put_instruction-requires g c =
    let d = c.args.delta.now in
    let i = c.loop-instruction.instruction-index in
    record {
      fits = (d.head.source, All-get_or (Fits d.head.source (length d.units.now)) d.instructions.now i blank_instruction (omega arith) (own_fits (lawful_parts d) d.lawful (fresh d)));
      room = more_room (λ j. wire_bytes (wire_of g.U.WireUnit.code d.units.now j)) d.instructions.now i _ blank_instruction (omega arith) refl c.args.self.now c.loop-instruction.self c.loop-instruction.invariant c.requires;
    }

pub loop-instruction-preserved : goal.loop-instruction-preserved
loop-instruction-preserved g c =
    let d = c.args.delta.now in
    wrote_more (λ j. wire_bytes (wire_of g.U.WireUnit.code d.units.now j)) d.instructions.now c.loop-instruction.instruction-index _ blank_instruction (omega arith) refl c.args.self.now c.loop-instruction.self _ c.loop-instruction.invariant c.put_instruction.ensures
