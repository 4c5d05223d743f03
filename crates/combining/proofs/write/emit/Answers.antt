use Rattle.std.proofs.Common.{sym, arith}
use Rattle.combining.proofs.Writes.{last_length, emit_grown, emit_new, emit_first}
use Rattle.combining.proofs.write.emit.Goals.{else-count-gt0-via-then-count-gt0+else-goes_on, else-count-gt0-via-else-count-gt0}
use Rattle.combining.proofs.write.emit.Goals as goal

pub overflow_add-out : goal.overflow_add-out
overflow_add-out c = omega (arith, last_length c.args.out.now c.args.count (omega arith) (omega arith), c.requires.places)

pub returns-then-goes_on-clause-front : goal.returns-then-goes_on-clause-front
returns-then-goes_on-clause-front c = emit_grown c.args.out.now c.args.count c.args.next (omega arith) (omega arith) (sym c.if-goes_on.ensures)

pub returns-clause-front : goal.returns-clause-front
returns-clause-front c =
    elim c.else-count-gt0.branch [
      | else-count-gt0-via-then-count-gt0+else-goes_on w ↦ emit_new c.args.out.now c.args.count c.args.next (omega arith) c.requires.space (sym w.if-goes_on.ensures)
      | else-count-gt0-via-else-count-gt0 w ↦ emit_first c.args.out.now c.args.count c.args.next c.requires.space (omega arith)
    ]
