use Rattle.std.proofs.Common.{◌≤◌, vec_len}
use Rattle.sulgheddo.proofs.text_unit.CashflowTextUnit.read_run.Given as goal

abbrev pub invariant-loop-flow : goal.invariant-loop-flow
invariant-loop-flow l =
    (goal.iterator-loop-flow).can_next l.flow-iterator
    × (goal.iterator-loop-flow).is_finite l.flow-iterator
    × (vec_len l.fn.units ≤ vec_len l.units)
