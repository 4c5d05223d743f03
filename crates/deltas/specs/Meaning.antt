use Rattle.std.specs.Prelude.{◌≡◌, ℕ, ◌+◌, ◌<◌, ◌≤◌, ◌⊎◌, List, [], ◌∷◌, length, take, Err, ◌≢◌, slice_index_or}
use Rattle.deltas.specs.declared.instruction.Instruction.{Instruction}
use Rattle.deltas.specs.declared.instruction.Op.{Op}
use Rattle.deltas.specs.declared.instruction.Op.TheVariants.{Copy, Insert}
use Rattle.deltas.specs.declared.delta.Head.{Head}
use Rattle.deltas.specs.declared.fault.DeltaFault.{DeltaFault}
use Rattle.deltas.specs.declared.fault.DeltaFault.TheVariants.{Counts, EmptyInstruction, CopyPastSource, InsertMisplaced, TargetLength, InsertedCount}
use Rattle.deltas.specs.Instructions.{blank_instruction}
use Rattle.deltas.specs.Check.{Parts, instructions_of, checked, Lawful}
use Rattle.deltas.specs.Places.{total}

-- What the check of a delta finds, in words about its counts, its totals and the instruction at each index.

-- how many units an instruction of n units inserts
abbrev pub inserted_by : Op → ℕ → ℕ
inserted_by Copy n = 0
inserted_by Insert n = n

-- how many units some instructions insert
abbrev pub inserted_in : List Instruction → ℕ
inserted_in [] = 0
inserted_in (i ∷ is) = inserted_by i.op i.length + inserted_in is

-- n units at p are in their place, where k units were inserted before: a copy ends inside a source of s units, and an
-- insert begins where the earlier inserts ended
abbrev pub Placed : ℕ → ℕ → Op → ℕ → ℕ → Type 0
Placed s k Copy p n = p + n ≤ s
Placed s k Insert p n = p ≡ k

-- the instruction at index k takes some units, and is in its place
abbrev pub Good : ℕ → List Instruction → ℕ → Type 0
Good s is k =
    (0 < (slice_index_or is k blank_instruction).length) ×
    Placed s (inserted_in (take k is)) (slice_index_or is k blank_instruction).op (slice_index_or is k blank_instruction).from (slice_index_or is k blank_instruction).length

-- so is every instruction before index k
abbrev pub GoodBefore : ℕ → List Instruction → ℕ → Type 0
GoodBefore s is k = (j : ℕ) → j < k → Good s is j

-- neither count passes its table's length or 65,535
pub record Counted {U : Type 0} (d : Parts U) : Type 0 where
  pub instructions : d.head.instructions ≤ length d.table
  pub few : d.head.instructions ≤ 65535
  pub inserted : d.head.inserted ≤ length d.units
  pub small : d.head.inserted ≤ 65535

-- all that is asked of a delta
pub record Meets {U : Type 0} (d : Parts U) : Type 0 where
  pub counted : Counted d
  pub each : GoodBefore d.head.source (instructions_of d) d.head.instructions
  pub target : total (instructions_of d) ≡ d.head.target
  pub inserted : inserted_in (instructions_of d) ≡ d.head.inserted

-- what a fault says of a head and its instructions: all that is looked at earlier is right, and this is wrong
abbrev pub Faulty : Head → List Instruction → DeltaFault → Type 0
Faulty h is Counts = ⊥
Faulty h is (EmptyInstruction k) = (k < length is) × GoodBefore h.source is k × ((slice_index_or is k blank_instruction).length ≡ 0)
Faulty h is (CopyPastSource k) =
    (k < length is) × GoodBefore h.source is k × (0 < (slice_index_or is k blank_instruction).length) ×
    ((slice_index_or is k blank_instruction).op ≡ Copy) × (h.source < (slice_index_or is k blank_instruction).from + (slice_index_or is k blank_instruction).length)
Faulty h is (InsertMisplaced k) =
    (k < length is) × GoodBefore h.source is k × (0 < (slice_index_or is k blank_instruction).length) ×
    ((slice_index_or is k blank_instruction).op ≡ Insert) × ((slice_index_or is k blank_instruction).from ≢ inserted_in (take k is))
Faulty h is (TargetLength n) = (n ≡ length is) × GoodBefore h.source is n × (total is ≢ h.target)
Faulty h is (InsertedCount n) =
    (n ≡ length is) × GoodBefore h.source is n × (total is ≡ h.target) × (inserted_in is ≢ h.inserted)

-- the fault of a delta: its counts, or, where they are right, the first thing that is wrong
abbrev pub Fails : {U : Type 0} → Parts U → DeltaFault → Type 0
Fails d f = ((f ≡ Counts) × (Counted d → ⊥)) ⊎ (Counted d × Faulty d.head (instructions_of d) f)

-- a delta is lawful exactly if it meets all that is asked, and a fault is the first thing that is wrong
pub record CheckMeans (U : Type 0) : Type 0 where
  pub meets : (d : Parts U) → Lawful d → Meets d
  pub lawful : (d : Parts U) → Meets d → Lawful d
  pub fails : (d : Parts U) (f : DeltaFault) → checked d ≡ Err f → Fails d f
