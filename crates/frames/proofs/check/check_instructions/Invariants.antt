use Rattle.std.proofs.Common.{◌≡◌, ◌+◌, ◌-◌, ◌*◌, ◌≤◌, List, Ok}
use Rattle.deltas.specs.Check.{head, walked}
use Rattle.frames.specs.Instructions.{Wire}
use Rattle.frames.specs.Reading.{entries, inserts_in}
use Rattle.frames.specs.Steps.{left, wires_in}
use Rattle.frames.proofs.check.check_instructions.Given as goal

-- what is left of the frame gives the answer
abbrev pub invariant-loop-index : goal.invariant-loop-index
invariant-loop-index g l =
    (ws : List Wire)
    × (left g.U.WireUnit.WIDTH (l.opening.instructions - l.index) l.reader ≡ Ok ws)
    × (walked (head l.opening.source l.opening.target l.opening.instructions l.inserted) l.index l.total l.before (entries l.before ws) ≡ walked (head l.opening.source l.opening.target l.opening.instructions l.inserted) 0 0 0 (entries 0 (wires_in g.U.WireUnit.WIDTH l.opening.instructions l.initial.reader)))
    × (l.before + inserts_in ws ≡ l.inserted)
    × (l.total ≤ 65535 * l.index)
