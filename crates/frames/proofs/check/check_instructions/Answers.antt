use Rattle.std.proofs.Common.{arith}
use Rattle.std.proofs.lemmas.Result.{err_from_is_err_and}
use Rattle.frames.specs.Instructions.{shown}
use Rattle.frames.proofs.Walks.{left_again, left_well, check_again, check_stops}
use Rattle.frames.proofs.check.check_instructions.Goals as goal

pub returns-in_err-wire : goal.returns-in_err-wire
returns-in_err-wire g c = absurd (left_well _ c.args.opening.instructions c.loop-index.index c.loop-index.reader (omega arith) _ c.loop-index.invariant.0 c.in_err-wire.ensures c.loop-index.invariant.1)

pub returns-in_err-before : goal.returns-in_err-before
returns-in_err-before g c =
    let p = err_from_is_err_and c.from_residual-in_err-before.result c.from_residual-in_err-before.ensures.1 in
    let n = left_again _ c.args.opening.instructions c.loop-index.index c.loop-index.reader (omega arith) _ (shown c.in_ok-wire.wire) c.loop-index.invariant.0 c.in_ok-wire.ensures c.loop-index.invariant.1 in
    rw (p.1, p.2)
    (check_stops _ c.loop-index.index c.loop-index.total c.loop-index.before _ _ c.entry-next.result (shown c.in_ok-wire.wire) c.loop-index.invariant.0 n.0 _ c.entry-next.ensures (omega (arith, c.loop-index.invariant.3)) n.1 c.in_err-before.ensures c.loop-index.invariant.2)

pub loop-index-preserved : goal.loop-index-preserved
loop-index-preserved g c =
    let n = left_again _ c.args.opening.instructions c.loop-index.index c.loop-index.reader (omega arith) _ (shown c.in_ok-wire.wire) c.loop-index.invariant.0 c.in_ok-wire.ensures c.loop-index.invariant.1 in
    let s = check_again _ c.loop-index.index c.loop-index.total c.loop-index.before c.in_ok-before.before _ _ c.entry-next.result (shown c.in_ok-wire.wire) c.loop-index.invariant.0 n.0 _ c.entry-next.ensures (omega (arith, c.loop-index.invariant.3)) n.1 c.in_ok-before.ensures c.loop-index.invariant.2 c.loop-index.invariant.3 in
    (n.0, n.2, s.0, s.1, omega arith)
