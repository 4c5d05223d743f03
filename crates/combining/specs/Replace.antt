use Rattle.std.specs.Prelude.{ℕ, ◌-◌, cond, List, [], ◌∷◌, nat_le}
use Rattle.std.specs.List.{flat_map}
use Rattle.deltas.specs.declared.instruction.Instruction.{Instruction}
use Rattle.deltas.specs.declared.instruction.Op.{Op}
use Rattle.deltas.specs.declared.instruction.Op.TheVariants.{Copy, Insert}
use Rattle.deltas.specs.declared.fault.Side.{Side}
use Rattle.deltas.specs.declared.fault.Side.TheVariants.{Earlier, Later}
use Rattle.combining.specs.Joining.{cut}
use Rattle.deltas.specs.Check.{Parts, instructions_of, units_of}
use Rattle.deltas.specs.Origins.{Origin, piece}

-- The replace algorithm, over instructions: how a later delta's copies are replaced by the earlier delta's instructions.

-- an instruction of one of the two deltas: an insert takes its units from that delta
pub record Taken : Type 0 where
  pub side : Side
  pub step : Instruction

-- an instruction, taken from that side
abbrev pub taken : Side → Instruction → Taken
taken s i = record { side = s; step = i }

-- clones of the earlier instructions that cover n places from p on: those before p are passed over, the first is cut at
-- its front, others follow until the n places are used up, and the last is shortened at its back
abbrev pub covering : List Instruction → ℕ → ℕ → List Taken
covering [] p n = []
covering (i ∷ is) p n =
    cond (nat_le i.length p)
    (covering is (p - i.length) n)
    (cond (nat_le n (i.length - p))
    (taken Earlier (cut i p n) ∷ [])
    (taken Earlier (cut i p (i.length - p)) ∷ covering is 0 (n - (i.length - p))))

-- an insert of the later delta is taken as it is, and a copy is replaced
abbrev pub replaced_one : List Instruction → Op → Instruction → List Taken
replaced_one es Copy i = covering es i.from i.length
replaced_one es Insert i = taken Later i ∷ []

-- the later instructions in order
abbrev pub replaced : List Instruction → List Instruction → List Taken
replaced es is = flat_map (λ i. replaced_one es i.op i) is

-- the units of the delta on a side
abbrev pub units_by : {U : Type 0} → List U → List U → Side → List U
units_by us vs Earlier = us
units_by us vs Later = vs

-- the origins of what was taken, over the earlier and the later delta's units
abbrev pub taken_origins : {U : Type 0} → List U → List U → List Taken → List (Origin U)
taken_origins us vs ts = flat_map (λ t. piece (units_by us vs t.side) t.step) ts

-- what replace gives for two deltas
abbrev pub replace_origins : {U : Type 0} → Parts U → Parts U → List (Origin U)
replace_origins a b = taken_origins (units_of a) (units_of b) (replaced (instructions_of a) (instructions_of b))
