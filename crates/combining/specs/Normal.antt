use Rattle.std.specs.Prelude.{◌≡◌, ℕ, ◌+◌, Bool, true, cond, not, ◌&&◌, List, [], ◌∷◌, length}
use Rattle.deltas.specs.declared.instruction.Instruction.{Instruction}
use Rattle.deltas.specs.declared.instruction.Op.{Op}
use Rattle.deltas.specs.declared.instruction.Op.TheVariants.{Copy, Insert}
use Rattle.deltas.specs.declared.delta.Head.{Head}
use Rattle.deltas.specs.Instructions.{instruction}
use Rattle.combining.specs.Joining.{goes_on, longer}
use Rattle.deltas.specs.Check.{head, Parts, parts, instructions_of, Lawful}
use Rattle.deltas.specs.Origins.{Origin, copied, inserted, inserts}

-- two neighbouring instructions, the first of which ends before e, that are not of one run: not both inserts, and not
-- two copies of which the second begins at e
abbrev pub Apart : Op → ℕ → Op → ℕ → Type 0
Apart Copy e Copy f = e ≡ f → ⊥
Apart Copy e Insert f = Unit {0}
Apart Insert e Copy f = Unit {0}
Apart Insert e Insert f = ⊥

-- each instruction is one longest run: no two neighbours share one
abbrev pub Longest : List Instruction → Type 0
Longest [] = Unit {0}
Longest (a ∷ []) = Unit {0}
Longest (a ∷ b ∷ is) = Apart a.op (a.from + a.length) b.op b.from × Longest (b ∷ is)

-- the test of it, which decides it for the instructions of a lawful delta: no neighbour goes on where the one before
-- it ends
abbrev pub all_apart : List Instruction → Bool
all_apart [] = true
all_apart (a ∷ []) = true
all_apart (a ∷ b ∷ is) = not (goes_on a b) && all_apart (b ∷ is)

-- a lawful delta, each instruction of which is one longest run
abbrev pub Normal : {U : Type 0} → Parts U → Type 0
Normal d = Lawful d × Longest (instructions_of d)

-- one instruction more at the end: the last run grows, or a new one begins
abbrev pub extend : List Instruction → Instruction → List Instruction
extend [] i = i ∷ []
extend (a ∷ []) i = cond (goes_on a i) (longer a i.length ∷ []) (a ∷ i ∷ [])
extend (a ∷ b ∷ is) i = a ∷ extend (b ∷ is) i

-- the runs of some origins after those that there are already, which insert k units
abbrev pub runs_after : {U : Type 0} → List Instruction → ℕ → List (Origin U) → List Instruction
runs_after is k [] = is
runs_after is k (copied p ∷ os) = runs_after (extend is (instruction Copy p 1)) k os
runs_after is k (inserted u ∷ os) = runs_after (extend is (instruction Insert k 1)) (k + 1) os

-- the longest runs of some origins
abbrev pub runs : {U : Type 0} → List (Origin U) → List Instruction
runs os = runs_after [] 0 os

-- the head of the normal delta over a source of s units with these origins
abbrev pub normal_head : {U : Type 0} → ℕ → List (Origin U) → Head
normal_head s os = head s (length os) (length (runs os)) (length (inserts os))

-- that delta, in tables that hold nothing else
abbrev pub normal : {U : Type 0} → ℕ → List (Origin U) → Parts U
normal s os = parts (normal_head s os) (runs os) (inserts os)
