use Rattle.std.proofs.Common.{refl, arith, rules}
use Rattle.frames.proofs.Filling.{put_sets}
use Rattle.frames.proofs.Writers.{more_room, wrote_more}
use Rattle.frames.proofs.writer.Writer.put_units.Goals as goal

pub overflow_add-end : goal.overflow_add-end
overflow_add-end g c =
    let x = c.unit-item.result in
    let w = g.met.U.WireUnit.laws.length_written x in
    let r = more_room g.U.WireUnit.code.written c.args.units.now c.loop-unit.unit-index x x (omega arith) c.unit-item.is c.args.self.now c.loop-unit.self c.loop-unit.invariant c.requires in
    search rules

pub slice_bounds-write-end : goal.slice_bounds-write-end
slice_bounds-write-end g c =
    let x = c.unit-item.result in
    let w = g.met.U.WireUnit.laws.length_written x in
    let r = more_room g.U.WireUnit.code.written c.args.units.now c.loop-unit.unit-index x x (omega arith) c.unit-item.is c.args.self.now c.loop-unit.self c.loop-unit.invariant c.requires in
    search rules

pub loop-unit-preserved : goal.loop-unit-preserved
loop-unit-preserved g c =
    let x = c.unit-item.result in
    let w = g.met.U.WireUnit.laws.length_written x in
    let r = more_room g.U.WireUnit.code.written c.args.units.now c.loop-unit.unit-index x x (omega arith) c.unit-item.is c.args.self.now c.loop-unit.self c.loop-unit.invariant c.requires in
    wrote_more g.U.WireUnit.code.written c.args.units.now c.loop-unit.unit-index x x (omega arith) c.unit-item.is c.args.self.now c.loop-unit.self _ c.loop-unit.invariant
    (record {
      same = refl;
      out = put_sets c.loop-unit.self.at _ c.loop-unit.self.out.now _ (g.U.WireUnit.code.written x) c.write.ensures (omega (arith, c.WIDTH.ensures)) r;
      at = omega (arith, c.WIDTH.ensures);
    })
