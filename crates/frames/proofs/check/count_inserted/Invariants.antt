use Rattle.std.proofs.Common.{◌≡◌, ◌-◌, ◌*◌, ◌≤◌, Ok}
use Rattle.frames.specs.Reading.{then, inserts_in}
use Rattle.frames.specs.Steps.{left}
use Rattle.frames.proofs.Walks.{counted}
use Rattle.frames.proofs.check.count_inserted.Given as goal

-- what is left of the frame gives the answer
abbrev pub invariant-loop-turn : goal.invariant-loop-turn
invariant-loop-turn g l =
    (counted l.inserted (left g.U.WireUnit.WIDTH (l.count - l._turn) l.reader) ≡ then (left g.U.WireUnit.WIDTH l.count l.initial.reader) (λ xs. Ok (inserts_in xs)))
    × (l.inserted ≤ 65535 * l._turn)
