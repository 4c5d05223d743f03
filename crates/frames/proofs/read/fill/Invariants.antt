use Rattle.std.proofs.Common.{◌≡◌, ◌+◌, ◌-◌, List, Ok}
use Rattle.std.specs.List.{flat_map}
use Rattle.std.proofs.lemmas.List.Edits.{sets}
use Rattle.frames.specs.Instructions.{Wire}
use Rattle.frames.specs.Reading.{units_of_wire, entries, inserts_in}
use Rattle.frames.specs.Steps.{left, wires_in}
use Rattle.frames.proofs.read.fill.Given as goal

-- the instructions that are left give what the tables hold in the end
abbrev pub invariant-loop-entry : goal.invariant-loop-entry
invariant-loop-entry g l =
    (ws : List Wire)
    × (left g.U.WireUnit.WIDTH (l.count - l.entry-index) l.reader ≡ Ok ws)
    × (sets l.entry-items l.entry-index (entries l.inserted ws) ≡ entries 0 (wires_in g.U.WireUnit.WIDTH l.count l.initial.reader))
    × (sets l.units l.inserted (flat_map (units_of_wire g.U.WireUnit.code) ws) ≡ sets l.initial.units 0 (flat_map (units_of_wire g.U.WireUnit.code) (wires_in g.U.WireUnit.WIDTH l.count l.initial.reader)))
    × (l.inserted + inserts_in ws ≡ inserts_in (wires_in g.U.WireUnit.WIDTH l.count l.initial.reader))
