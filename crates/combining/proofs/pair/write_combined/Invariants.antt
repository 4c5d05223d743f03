use Rattle.std.proofs.Common.{◌≡◌, ◌-◌, take}
use Rattle.deltas.specs.LawfulDeltas.{lawful_parts}
use Rattle.deltas.specs.Origins.{origins, origins_of}
use Rattle.combining.specs.Combine.{through}
use Rattle.deltas.specs.Places.{total}
use Rattle.combining.specs.Steps.{Space, Appended}
use Rattle.combining.proofs.pair.write_combined.Given as goal

-- the later instructions so far are written, with room for the others
abbrev pub invariant-loop-next : goal.invariant-loop-next
invariant-loop-next g l =
    record {
      same_delta : l.cursor.delta.now ≡ l.earlier;
      space : Space l.output (total l.later.instructions.now - total (take l.next-index l.later.instructions.now));
      appended : Appended (through (origins_of (lawful_parts l.earlier)) (origins l.later.units.now (take l.next-index l.later.instructions.now))) l.initial.output l.output;
    }
