use Rattle.std.specs.Prelude.{◌≡◌, ℕ, ◌+◌, ◌<◌, ◌≤◌, List, ◌++◌, length, take, slice_index_or}
use Rattle.deltas.specs.declared.instruction.Instruction.{Instruction}
use Rattle.combining.specs.declared.write.Output.{Output}
use Rattle.deltas.specs.Places.{total}
use Rattle.deltas.specs.Instructions.{blank_instruction}
use Rattle.deltas.specs.Origins.{Origin, inserts}
use Rattle.combining.specs.Normal.{runs_after}

-- What the inner functions ask and leave, on the way to the contracts of the public ones.

-- the instructions that are written so far of two output tables
abbrev pub written_instructions : {U : Type 0} → Output U → List Instruction
written_instructions o = take o.count o.instructions.now

-- and the units
abbrev pub written_units : {U : Type 0} → Output U → List U
written_units o = take o.inserted o.units.now

-- room in both tables for n places more behind what is written, and numbers of 16 bits for them
pub record Space {U : Type 0} (o : Output U) (n : ℕ) : Type 0 where
  pub instructions : o.count + n ≤ length o.instructions.now
  pub inserted : o.inserted + n ≤ length o.units.now
  pub places : total (written_instructions o) + n ≤ 65535
  pub numbers : o.inserted + n ≤ 65535

-- the same two tables, as long as before
pub record SameTables {U : Type 0} (before after : Output U) : Type 0 where
  pub instructions : after.instructions.ghost_name ≡ before.instructions.ghost_name
  pub units : after.units.ghost_name ≡ before.units.ghost_name
  pub entries : length after.instructions.now ≡ length before.instructions.now
  pub room : length after.units.now ≡ length before.units.now

-- the runs of some origins were written behind what there was of the same tables, joined to its last run
pub record Appended {U : Type 0} (os : List (Origin U)) (before after : Output U) : Type 0 where
  pub tables : SameTables before after
  pub instructions : written_instructions after ≡ runs_after (written_instructions before) before.inserted os
  pub units : written_units after ≡ written_units before ++ inserts os
  pub count : after.count ≤ before.count + length os
  pub inserted : after.inserted ≡ before.inserted + length (inserts os)

-- the first place that the instruction at an index gives
abbrev pub Standing : List Instruction → ℕ → ℕ → Type 0
Standing is index place = (index ≤ length is) × (place ≡ total (take index is))

-- the place at an offset inside the instruction at an index
abbrev pub place_at : List Instruction → ℕ → ℕ → ℕ
place_at is index offset = total (take index is) + offset

-- a place is the one at an offset inside the instruction at an index
pub record Located (is : List Instruction) (place index offset : ℕ) : Type 0 where
  pub within : index < length is
  pub inside : offset < (slice_index_or is index blank_instruction).length
  pub at : place ≡ place_at is index offset
