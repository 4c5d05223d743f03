use Rattle.std.proofs.Common.{arith}
use Rattle.deltas.specs.LawfulDeltas.{lawful_parts}
use Rattle.frames.proofs.RoundTrips.{frame_fits}
use Rattle.frames.proofs.Emitting.{fresh, length_turn, length_last}
use Rattle.frames.proofs.write.lawful_length.Goals as goal

pub overflow_add-length : goal.overflow_add-length
overflow_add-length g c =
    let d = c.args.delta.now in
    let t = length_turn g.U.WireUnit.code g.met.U.WireUnit.laws (lawful_parts d) c.loop-instruction.length c.extent_of-length.result c.loop-instruction.instruction-index d.lawful (fresh d) (omega arith) c.extent_of-length.ensures c.loop-instruction.invariant in
    let f = frame_fits g.U.WireUnit.code g.met.U.WireUnit.laws (lawful_parts d) d.lawful d.target in
    record { fits = omega arith }

pub loop-instruction-preserved : goal.loop-instruction-preserved
loop-instruction-preserved g c =
    let d = c.args.delta.now in
    (length_turn g.U.WireUnit.code g.met.U.WireUnit.laws (lawful_parts d) c.loop-instruction.length c.extent_of-length.result c.loop-instruction.instruction-index d.lawful (fresh d) (omega arith) c.extent_of-length.ensures c.loop-instruction.invariant).0

pub returns : goal.returns
returns g c =
    let d = c.args.delta.now in
    let e = length_last g.U.WireUnit.code g.met.U.WireUnit.laws (lawful_parts d) c.loop-instruction.length c.loop-instruction.instruction-index (fresh d) (omega arith) c.loop-instruction.invariant in
    let f = frame_fits g.U.WireUnit.code g.met.U.WireUnit.laws (lawful_parts d) d.lawful d.target in
    record { length = e; fits = omega arith }
