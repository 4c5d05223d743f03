use Rattle.std.proofs.Common.{get_or, sym, ap, ◌∙◌, subst, le_of_eq, arith}
use Rattle.std.proofs.lemmas.List.{length-map}
use Rattle.deltas.specs.Instructions.{blank_instruction}
use Rattle.deltas.specs.LawfulDeltas.{lawful_parts}
use Rattle.deltas.specs.Origins.{piece, origins_of}
use Rattle.combining.specs.Combine.{origin_through, through}
use Rattle.combining.specs.Steps.{Appended}
use Rattle.combining.proofs.Own.{own_total}
use Rattle.combining.proofs.Pieces.{next}
use Rattle.combining.proofs.Through.{through_more}
use Rattle.combining.proofs.Writes.{appended_none, appended_then, space_left, space_less}
use Rattle.combining.proofs.pair.write_combined.Goals as goal

pub loop-next-init : goal.loop-next-init
loop-next-init g c =
    record {
      same_delta = c.new-cursor.ensures.same_delta;
      space = space_less _ (omega (arith, own_total c.args.later.now)) c.requires.space;
      appended = appended_none _;
    }

pub combine_instruction-requires : goal.combine_instruction-requires
combine_instruction-requires g c =
    let i = next c.args.later.now c.loop-next.next-index (omega arith) in
    let source = sym c.requires.meet ∙ ap (λ d. d.head.target) (sym c.loop-next.invariant.same_delta) in
    record { fits = i.fits c.loop-next.cursor.delta.now.head.target (le_of_eq source); space = space_less _ (omega (arith, i.room)) c.loop-next.invariant.space }

pub loop-next-preserved : goal.loop-next-preserved
loop-next-preserved g c =
    let later = c.args.later.now in
    let es = origins_of (lawful_parts c.args.earlier.now) in
    let k = c.loop-next.next-index in
    let i = next later k (omega arith) in
    let given = piece later.units.now (get_or later.instructions.now k blank_instruction) in
    let done = subst (λ d. Appended (through (origins_of (lawful_parts d)) given) c.loop-next.output c.combine_instruction.new.output) c.loop-next.invariant.same_delta c.combine_instruction.ensures.appended in
    record {
      same_delta = c.combine_instruction.ensures.same_delta ∙ c.loop-next.invariant.same_delta;
      space = space_left _ _ (omega (arith, length-map given (origin_through es), i.long, i.room)) done c.loop-next.invariant.space;
      appended = subst (λ os. Appended os c.args.output.now c.combine_instruction.new.output) (sym (through_more es later.units.now later.instructions.now k (omega arith))) (appended_then c.loop-next.invariant.appended done);
    }
