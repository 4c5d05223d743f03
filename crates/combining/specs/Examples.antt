use Rattle.std.specs.Prelude.{◌≡◌, ℕ, List, [], ◌∷◌, length, Err, codes}
use Rattle.deltas.specs.declared.instruction.Instruction.{Instruction}
use Rattle.deltas.specs.declared.instruction.Op.TheVariants.{Copy, Insert}
use Rattle.deltas.specs.declared.fault.DeltaFault.TheVariants.{CopyPastSource}
use Rattle.deltas.specs.Instructions.{instruction}
use Rattle.deltas.specs.Check.{head, Parts, parts, checked, Lawful}
use Rattle.combining.specs.Combine.{combined}

-- Deltas over bytes, worked by hand.

-- a delta from s to t bytes, with counts that are its tables' lengths
abbrev pub delta : ℕ → ℕ → List Instruction → List ℕ → Parts ℕ
delta s t is us = parts (head s t (length is) (length us)) is us

-- a copy of n bytes at p
abbrev pub copy : ℕ → ℕ → Instruction
copy p n = instruction Copy p n

-- an insert of n bytes at p
abbrev pub insert : ℕ → ℕ → Instruction
insert p n = instruction Insert p n

-- an earlier delta of four instructions
abbrev pub first : Parts ℕ
first = delta 25 28 (copy 0 13 ∷ insert 0 2 ∷ copy 14 9 ∷ insert 2 4 ∷ []) (codes "b01435")

-- and a later one of five
abbrev pub second : Parts ℕ
second = delta 28 30 (insert 0 1 ∷ copy 0 15 ∷ insert 1 1 ∷ copy 16 10 ∷ insert 2 3 ∷ []) (codes "z0c35")

-- what comes of them, each example with what it shows
pub record Examples : Type 0 where
  -- two longer deltas
  pub first_lawful : Lawful first
  pub second_lawful : Lawful second
  pub chain : combined first second ≡ delta 25 30 (insert 0 1 ∷ copy 0 13 ∷ insert 1 3 ∷ copy 15 8 ∷ insert 4 5 ∷ []) (codes "zb0014c35")
  -- one instruction covers the whole copy: it is cut at both ends
  pub cut_at_both_ends : combined (delta 18 8 (copy 10 8 ∷ []) []) (delta 8 2 (copy 3 2 ∷ []) []) ≡ delta 18 2 (copy 13 2 ∷ []) []
  -- an insert that is cut keeps the units that were asked for
  pub cut_insert : combined (delta 0 5 (insert 0 5 ∷ []) (codes "hello")) (delta 5 3 (copy 1 3 ∷ []) []) ≡ delta 0 3 (insert 0 3 ∷ []) (codes "ell")
  -- copies that go on in the source are joined
  pub joined_copies : combined (delta 6 2 (copy 4 2 ∷ []) []) (delta 2 2 (copy 0 1 ∷ copy 1 1 ∷ []) []) ≡ delta 6 2 (copy 4 2 ∷ []) []
  -- copies that meet only in the target stay two
  pub two_copies : combined (delta 8 8 (copy 0 8 ∷ []) []) (delta 8 6 (copy 0 3 ∷ copy 5 3 ∷ []) []) ≡ delta 8 6 (copy 0 3 ∷ copy 5 3 ∷ []) []
  -- a later delta of target length 0 gives no instruction
  pub nothing_left : combined (delta 8 5 (copy 1 5 ∷ []) []) (delta 5 0 [] []) ≡ delta 8 0 [] []
  -- over a source of 25, a copy may end at its end and not one past it
  pub ends_inside : Lawful (delta 25 2 (copy 23 2 ∷ []) [])
  pub ends_outside : checked (delta 25 2 (copy 24 2 ∷ []) []) ≡ Err (CopyPastSource 0)
