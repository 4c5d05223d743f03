use Rattle.std.proofs.Common.{◌≡◌, ◌+◌}
use Rattle.combining.specs.Steps.{place_at}
use Rattle.combining.proofs.locate.Cursor.search.Given as goal

-- the place lies so far behind the first place of the instruction that is looked at
abbrev pub invariant-loop-ahead : goal.invariant-loop-ahead
invariant-loop-ahead g l = l.place ≡ place_at l.self.delta.now.instructions.now (l.self.index + l.ahead) l.offset
