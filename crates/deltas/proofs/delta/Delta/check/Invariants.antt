use Rattle.std.proofs.Common.{◌≡◌, ◌-◌, ◌*◌, ◌≤◌, take, drop}
use Rattle.deltas.specs.Check.{walked}
use Rattle.deltas.proofs.delta.Delta.check.Given as goal

-- what is left of the instructions gives the answer
abbrev pub invariant-loop-index : goal.invariant-loop-index
invariant-loop-index g l =
    (walked l.head l.index l.total l.inserted (drop l.index (take (l.head.instructions - 0) l.self.instructions.now)) ≡ walked l.head 0 0 0 (take (l.head.instructions - 0) l.self.instructions.now))
    × (l.total ≤ 65535 * l.index)
