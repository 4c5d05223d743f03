use Rattle.std.proofs.Common.{◌-◌, take}
use Rattle.deltas.specs.Origins.{origins}
use Rattle.deltas.specs.Places.{total}
use Rattle.combining.specs.Steps.{Space, Appended}
use Rattle.combining.proofs.form.write_runs.Given as goal

-- the instructions so far are written, with room for the others
abbrev pub invariant-loop-next : goal.invariant-loop-next
invariant-loop-next g l =
    record {
      space : Space l.output (total l.delta.instructions.now - total (take l.next-index l.delta.instructions.now));
      appended : Appended (origins l.delta.units.now (take l.next-index l.delta.instructions.now)) l.initial.output l.output;
    }
