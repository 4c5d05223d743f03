use Rattle.std.proofs.Common.{length, sym, subst, arith}
use Rattle.deltas.specs.LawfulDeltas.{lawful_parts}
use Rattle.deltas.specs.Origins.{origins_of}
use Rattle.combining.specs.Steps.{Appended}
use Rattle.combining.proofs.Theorems.{length_target}
use Rattle.combining.proofs.Through.{through_copy, through_insert}
use Rattle.combining.proofs.Writes.{inside_copy}
use Rattle.combining.proofs.pair.combine_instruction.Goals as goal

pub returns-in-Copy-clause-appended : goal.returns-in-Copy-clause-appended
returns-in-Copy-clause-appended g c =
    let earlier = c.args.earlier.now.delta.now in
    let inside = inside_copy earlier.head.target (length c.args.inserted.now) c.args.next.from c.args.next.length c.args.next.op c.in-Copy.is c.requires.fits.1 in
    subst (λ os. Appended os c.args.output.now c.splice.new.output)
    (sym (through_copy (origins_of (lawful_parts earlier)) c.args.inserted.now c.args.next c.in-Copy.is (omega (arith, length_target (lawful_parts earlier) earlier.lawful)))) c.splice.ensures.appended

pub returns-in-Insert-clause-appended : goal.returns-in-Insert-clause-appended
returns-in-Insert-clause-appended g c =
    subst (λ os. Appended os c.args.output.now c.append.new.self)
    (sym (through_insert (origins_of (lawful_parts c.args.earlier.now.delta.now)) c.args.inserted.now c.args.next c.in-Insert.is)) c.append.ensures
