use Rattle.std.proofs.Common.{◌≡◌, ◌-◌, ◌*◌, length}
use Rattle.std.proofs.lemmas.List.Edits.{sets}
use Rattle.frames.specs.Reading.{units_in}
use Rattle.frames.proofs.read.read_units.Given as goal

-- the units that are left give what the table holds in the end
abbrev pub invariant-loop-unit : goal.invariant-loop-unit
invariant-loop-unit g l =
    (sets l.unit-items l.unit-index (units_in g.U.WireUnit.code (length l.initial.unit-items - l.unit-index) l.rest) ≡ units_in g.U.WireUnit.code (length l.initial.unit-items) l.bytes)
    × (length l.rest ≡ (length l.initial.unit-items - l.unit-index) * g.U.WireUnit.WIDTH)
