use Rattle.std.proofs.Common.{arith}
use Rattle.std.proofs.lemmas.Result.{err_from_is_err_and}
use Rattle.frames.proofs.Walks.{count_again, count_stops}
use Rattle.frames.proofs.check.count_inserted.Goals as goal

pub returns-in_err-wire : goal.returns-in_err-wire
returns-in_err-wire g c =
    let p = err_from_is_err_and c.from_residual.result c.from_residual.ensures.1 in
    rw (p.1, p.2) (count_stops _ c.args.count c.loop-turn._turn c.loop-turn.reader (omega arith) c.loop-turn.inserted _ _ c.in_err-wire.ensures c.loop-turn.invariant.0)

pub loop-turn-preserved : goal.loop-turn-preserved
loop-turn-preserved g c = (
  count_again _ c.args.count c.loop-turn._turn c.loop-turn.reader (omega arith) _ _ c.loop-turn.inserted _ _ c.in_ok-wire.ensures c.inserted.ensures c.loop-turn.invariant.0,
  omega arith,
)
