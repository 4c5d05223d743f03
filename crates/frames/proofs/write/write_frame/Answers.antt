use Rattle.std.proofs.Common.{◌≤◌, Ok, refl, sym, ap, ◌∙◌, arith}
use Rattle.deltas.specs.Check.{parts_of}
use Rattle.deltas.specs.LawfulDeltas.{lawful_parts}
use Rattle.frames.proofs.Writers.{wrote_then}
use Rattle.frames.proofs.Emitting.{fresh, emitted, handed, emitted_again}
use Rattle.frames.proofs.write.write_frame.Goals as goal

pub returns-clause-out : goal.returns-clause-out
returns-clause-out g c =
    let d = c.in_ok-lawful.lawful in
    let n = c.lawful_length-length.ensures.length in
    let w = wrote_then c.new-writer.result c.put_opening.new.self c.put_instructions.new.self _ _ c.put_opening.ensures c.put_instructions.ensures in
    let end = emitted g.U.WireUnit.code (lawful_parts d) _ _ _ c.lawful_length-length.result c.args.out.now c.new-writer.result c.put_instructions.new.self (fresh d) n (omega arith) c.KIND.ensures refl (omega arith) (ap (λ o. o.now) c.new-writer.ensures.out) c.new-writer.ensures.at w in
    let name = sym (w.same ∙ ap (λ o. o.ghost_name) c.new-writer.ensures.out) in
    ◌∙◌ {b = c.put_instructions.new.self.out.now} (grind arith) (handed g.U.WireUnit.code (parts_of c.args.delta.now) (lawful_parts d) _ _ _ c.in_ok-lawful.ensures.1 n end).1

pub returns-clause-read_back : goal.returns-clause-read_back
returns-clause-read_back g c =
    let d = c.in_ok-lawful.lawful in
    let s : d.head.source ≤ 65535 = grind arith in
    let t : d.head.target ≤ 65535 = grind arith in
    let n = c.lawful_length-length.ensures.length in
    let w = wrote_then c.new-writer.result c.put_opening.new.self c.put_instructions.new.self _ _ c.put_opening.ensures c.put_instructions.ensures in
    let end = emitted g.U.WireUnit.code (lawful_parts d) _ _ _ c.lawful_length-length.result c.args.out.now c.new-writer.result c.put_instructions.new.self (fresh d) n (omega arith) c.KIND.ensures refl (omega arith) (ap (λ o. o.now) c.new-writer.ensures.out) c.new-writer.ensures.at w in
    let name = sym (w.same ∙ ap (λ o. o.ghost_name) c.new-writer.ensures.out) in
    emitted_again g.U.WireUnit.code g.met.U.WireUnit.laws (lawful_parts d) c.lawful_length-length.result _ _ d.lawful s t n (◌∙◌ {b = c.put_instructions.new.self.out.now} (grind arith) end)
    ∙ ap Ok ((fresh d).same ∙ c.in_ok-lawful.ensures.1)
