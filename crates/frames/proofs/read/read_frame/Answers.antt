use Rattle.std.proofs.Common.{IsOk, length, refl, sym, ap, subst, arith}
use Rattle.deltas.specs.Instructions.{blank_instruction}
use Rattle.frames.specs.Reading.{inserts_in}
use Rattle.frames.proofs.Receiving.{received, left_is, wires_are, read_ok, read_instructions, read_units, read_again}
use Rattle.frames.proofs.read.read_frame.Goals as goal

pub fill-requires : goal.fill-requires
fill-requires g c =
    let f = c.args.frame.now in
    let h = c.in_ok-head.head in
    let r = received g.U.WireUnit.code f h c.in_ok-head.ensures in
    let same = wires_are g.U.WireUnit.code f h r c.new.result c.new.ensures.frame c.new.ensures.place in
    let n = ap inserts_in same in
    let m = ap (λ h. h.inserted) r.head in
    record {
      stands = subst IsOk (sym (left_is g.U.WireUnit.code f h r c.new.result c.new.ensures.frame c.new.ensures.place)) refl;
      few = omega (arith, r.few);
      instructions = omega arith;
      units = omega arith;
    }

pub returns : goal.returns
returns g c =
    let f = c.args.frame.now in
    let h = c.in_ok-head.head in
    let r = received g.U.WireUnit.code f h c.in_ok-head.ensures in
    let i = read_instructions g.U.WireUnit.code f h r c.new.result c.new.ensures.frame c.new.ensures.place c.args.instructions.now c.fill.new.instructions c.blank_rest.new.table _ _ blank_instruction (omega arith) (omega arith) c.fill.ensures.instructions c.blank.ensures c.blank_rest.ensures in
    let u = read_units g.U.WireUnit.code f h r c.new.result c.new.ensures.frame c.new.ensures.place c.args.units.now c.fill.new.units c.blank_rest-2.new.table _ _ g.U.Unit.blank (omega arith) (omega arith) c.fill.ensures.units c.blank-2.ensures c.blank_rest-2.ensures in
    record {
      answer = read_ok g.U.WireUnit.code f h (length c.args.instructions.now) (length c.args.units.now) r (omega arith) (omega arith);
      instructions = i;
      units = u;
      written_again = read_again g.U.WireUnit.code g.met.U.WireUnit.laws f h _ _ _ _ (λ k. (c.type_inv.frame k).fits) r i u;
    }
