use Rattle.std.specs.Prelude.{◌≡◌, ℕ, ◌+◌, Bool, cond, ◌||◌, List, [], ◌∷◌, length, take, Ok, Err, Result, ◌==◌, nat_le, nat_lt}
use Rattle.deltas.specs.declared.instruction.Instruction.{Instruction}
use Rattle.deltas.specs.declared.instruction.Op.{Op}
use Rattle.deltas.specs.declared.instruction.Op.TheVariants.{Copy, Insert}
use Rattle.deltas.specs.declared.delta.Head.{Head}
use Rattle.deltas.specs.declared.delta.Delta.{Delta}
use Rattle.deltas.specs.declared.fault.DeltaFault.{DeltaFault}
use Rattle.deltas.specs.declared.fault.DeltaFault.TheVariants.{Counts, EmptyInstruction, CopyPastSource, InsertMisplaced, TargetLength, InsertedCount}

-- a head by its lengths and counts
abbrev pub head : ℕ → ℕ → ℕ → ℕ → Head
head s t i n = record { source = s; target = t; instructions = i; inserted = n }

-- a delta by its values: its head, and all that its two tables hold
pub record Parts (U : Type 0) : Type 0 where
  pub head : Head
  pub table : List Instruction
  pub units : List U

-- those three, put together
abbrev pub parts : {U : Type 0} → Head → List Instruction → List U → Parts U
parts h is us = record { head = h; table = is; units = us }

-- the values of a delta over lent tables
abbrev pub parts_of : {U : Type 0} → Delta U → Parts U
parts_of d = parts d.head d.instructions.now d.units.now

-- the entries of its tables that are a delta's own: its instructions
abbrev pub instructions_of : {U : Type 0} → Parts U → List Instruction
instructions_of d = take d.head.instructions d.table

-- and its inserted units
abbrev pub units_of : {U : Type 0} → Parts U → List U
units_of d = take d.head.inserted d.units

-- a delta in tables of just its own entries
abbrev pub own : {U : Type 0} → Parts U → Parts U
own d = parts d.head (instructions_of d) (units_of d)

-- an instruction of n units at p, the one at index k, after so many inserted units: how many there are then, or its
-- fault. A copy ends inside the source; an insert begins where the earlier ones ended
abbrev pub placed : ℕ → ℕ → ℕ → Op → ℕ → ℕ → Result ℕ DeltaFault
placed source inserted k Copy p n = cond (nat_le (p + n) source) (Ok inserted) (Err (CopyPastSource k))
placed source inserted k Insert p n = cond (p == inserted) (Ok (inserted + n)) (Err (InsertMisplaced k))

-- the same of an instruction, which is not of length 0
abbrev pub stepped : ℕ → ℕ → ℕ → Instruction → Result ℕ DeltaFault
stepped source inserted k i =
    cond (i.length == 0) (Err (EmptyInstruction k)) (placed source inserted k i.op i.from i.length)

-- after all k instructions: the lengths add up to the target length, and the inserted lengths to the inserted count
abbrev pub totalled : Head → ℕ → ℕ → ℕ → Result Head DeltaFault
totalled h k total inserted =
    cond (total == h.target) (cond (inserted == h.inserted) (Ok h) (Err (InsertedCount k))) (Err (TargetLength k))

-- one instruction after another, the first of them at index k, after so many units in all and inserted
abbrev pub walked : Head → ℕ → ℕ → ℕ → List Instruction → Result Head DeltaFault
walked h k total inserted [] = totalled h k total inserted
walked h k total inserted (i ∷ is) =
    elim (stepped h.source inserted k i) [ Ok n ↦ walked h (k + 1) (total + i.length) n is | Err f ↦ Err f ]

-- a count passes its table's length, or 65,535
abbrev pub passes : ℕ → ℕ → Bool
passes count entries = nat_lt entries count || nat_lt 65535 count

-- the check of a delta: its head, or the first fault
abbrev pub checked : {U : Type 0} → Parts U → Result Head DeltaFault
checked d =
    cond (passes d.head.instructions (length d.table) || passes d.head.inserted (length d.units))
    (Err Counts)
    (walked d.head 0 0 0 (instructions_of d))

-- a delta that passes the check
abbrev pub Lawful : {U : Type 0} → Parts U → Type 0
Lawful d = checked d ≡ Ok d.head
