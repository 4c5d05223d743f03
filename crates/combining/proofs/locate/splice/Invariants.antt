use Rattle.std.proofs.Common.{◌+◌, ◌-◌, ◌<◌, ◌≤◌, take, drop}
use Rattle.deltas.specs.LawfulDeltas.{lawful_parts}
use Rattle.deltas.specs.Origins.{origins_of}
use Rattle.combining.specs.Steps.{Space, Appended, Located}
use Rattle.combining.proofs.locate.splice.Given as goal

-- so many places are written, and the next one, if any is wanted, is found
abbrev pub invariant-loop-next : goal.invariant-loop-next
invariant-loop-next g l =
    record {
      some : 0 < l.wanted;
      within : l.wanted ≤ l.count;
      located : Located l.delta.instructions.now (l.place + (l.count - l.wanted)) (l.index + l.next-index) l.offset;
      space : Space l.output l.wanted;
      appended : Appended (take (l.count - l.wanted) (drop l.place (origins_of (lawful_parts l.delta)))) l.initial.output l.output;
    }
