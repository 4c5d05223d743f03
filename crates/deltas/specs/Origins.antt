use Rattle.std.specs.Prelude.{ℕ, zero, suc, ◌<◌, List, [], ◌∷◌, map, take, drop, slice_index_or}
use Rattle.std.specs.List.{flat_map}
use Rattle.deltas.specs.declared.instruction.Instruction.{Instruction}
use Rattle.deltas.specs.declared.instruction.Op.{Op}
use Rattle.deltas.specs.declared.instruction.Op.TheVariants.{Copy, Insert}
use Rattle.deltas.specs.Check.{Parts, instructions_of, units_of}

-- where a place of the target has its unit from: a place of the source, or the delta itself
pub data Origin (U : Type 0) : Type 0 where
  copied : ℕ → Origin U
  inserted : U → Origin U

-- n places copied from p on
abbrev pub copies : {U : Type 0} → ℕ → ℕ → List (Origin U)
copies p zero = []
copies p (suc n) = copied p ∷ copies (suc p) n

-- the origins of the places that one instruction gives, over the delta's own units
abbrev pub given : {U : Type 0} → List U → Op → ℕ → ℕ → List (Origin U)
given us Copy p n = copies p n
given us Insert p n = map inserted (take n (drop p us))

-- the same of an instruction
abbrev pub piece : {U : Type 0} → List U → Instruction → List (Origin U)
piece us i = given us i.op i.from i.length

-- the target is what the instructions give, one after another
abbrev pub origins : {U : Type 0} → List U → List Instruction → List (Origin U)
origins us is = flat_map (piece us) is

-- what a delta means, with its source length: the origin of each place of its target
abbrev pub origins_of : {U : Type 0} → Parts U → List (Origin U)
origins_of d = origins (units_of d) (instructions_of d)

-- the units that are inserted, in order
abbrev pub inserts : {U : Type 0} → List (Origin U) → List U
inserts [] = []
inserts (copied p ∷ os) = inserts os
inserts (inserted u ∷ os) = u ∷ inserts os

-- every place that is copied lies in a source of s units
abbrev pub Within : {U : Type 0} → ℕ → List (Origin U) → Type 0
Within s [] = Unit {0}
Within s (copied p ∷ os) = (p < s) × Within s os
Within s (inserted u ∷ os) = Within s os

-- the unit that an origin stands for, over a source; d past its end, which no lawful delta over a source of its length
-- meets
abbrev pub unit_from : {U : Type 0} → U → List U → Origin U → U
unit_from d source (copied p) = slice_index_or source p d
unit_from d source (inserted u) = u

-- a delta with these origins applied to a source: the target's units
abbrev pub applied : {U : Type 0} → U → List U → List (Origin U) → List U
applied d source os = map (unit_from d source) os
