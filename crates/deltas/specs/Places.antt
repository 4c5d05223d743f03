use Rattle.std.specs.Prelude.{ℕ, ◌+◌, ◌<◌, ◌≤◌, List, [], ◌∷◌}
use Rattle.deltas.specs.declared.instruction.Instruction.{Instruction}
use Rattle.deltas.specs.declared.instruction.Op.{Op}
use Rattle.deltas.specs.declared.instruction.Op.TheVariants.{Copy, Insert}

-- How many places instructions give, and whether what they take lies inside.

-- the places that some instructions give
abbrev pub total : List Instruction → ℕ
total [] = 0
total (i ∷ is) = i.length + total is

-- n units at p lie in a source of s units, or in m inserted units
abbrev pub Inside : ℕ → ℕ → Op → ℕ → ℕ → Type 0
Inside s m Copy p n = p + n ≤ s
Inside s m Insert p n = p + n ≤ m

-- an instruction that takes some units, all of them inside
abbrev pub Fits : ℕ → ℕ → Instruction → Type 0
Fits s m i = (0 < i.length) × Inside s m i.op i.from i.length
