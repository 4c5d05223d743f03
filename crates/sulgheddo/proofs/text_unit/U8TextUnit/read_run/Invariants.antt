use Rattle.std.proofs.Common.{◌≤◌, vec_len}
use Rattle.sulgheddo.proofs.text_unit.U8TextUnit.read_run.Given as goal

abbrev pub invariant-loop-pair : goal.invariant-loop-pair
invariant-loop-pair l =
    (goal.iterator-loop-pair).can_next l.pair-iterator
    × (goal.iterator-loop-pair).is_finite l.pair-iterator
    × (vec_len l.fn.units ≤ vec_len l.units)
