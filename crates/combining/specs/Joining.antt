use Rattle.std.specs.Prelude.{ℕ, ◌+◌, Bool, false, ◌==◌}
use Rattle.deltas.specs.declared.instruction.Instruction.{Instruction}
use Rattle.deltas.specs.declared.instruction.Op.{Op}
use Rattle.deltas.specs.declared.instruction.Op.TheVariants.{Copy, Insert}
use Rattle.deltas.specs.Instructions.{instruction}

-- How instructions are joined and cut.

-- the same place to take units from, and the units that follow: e is where the first ends, f where the second begins
abbrev pub follows_on : Op → ℕ → Op → ℕ → Bool
follows_on Copy e Copy f = e == f
follows_on Copy e Insert f = false
follows_on Insert e Copy f = false
follows_on Insert e Insert f = e == f

-- the second instruction takes its units where the first one's end
abbrev pub goes_on : Instruction → Instruction → Bool
goes_on a b = follows_on a.op (a.from + a.length) b.op b.from

-- the same instruction with n units more at its end
abbrev pub longer : Instruction → ℕ → Instruction
longer a n = instruction a.op a.from (a.length + n)

-- a clone of an instruction, cut at its front by k, and of n units
abbrev pub cut : Instruction → ℕ → ℕ → Instruction
cut i k n = instruction i.op (i.from + k) n
