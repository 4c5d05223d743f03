use Rattle.std.specs.Prelude.{ℕ}
use Rattle.deltas.specs.declared.instruction.Instruction.{Instruction}
use Rattle.deltas.specs.declared.instruction.Op.{Op}
use Rattle.deltas.specs.declared.instruction.Op.TheVariants.{Copy}

-- an instruction that takes n units at p
abbrev pub instruction : Op → ℕ → ℕ → Instruction
instruction o p n = record { op = o; from = p; length = n }

-- what stands in a table where no instruction does
abbrev pub blank_instruction : Instruction
blank_instruction = instruction Copy 0 0
