use Rattle.std.specs.Prelude.{ℕ, Some, None, Option}
use Rattle.units.specs.declared.refusal.Refusal.{Refusal}
use Rattle.units.specs.declared.refusal.Layer.{Layer}
use Rattle.units.specs.declared.refusal.Layer.TheVariants.{Delta, Pair}
use Rattle.deltas.specs.declared.fault.DeltaFault.{DeltaFault}
use Rattle.deltas.specs.declared.fault.DeltaFault.TheVariants.{Counts, EmptyInstruction, CopyPastSource, InsertMisplaced, TargetLength, InsertedCount}
use Rattle.deltas.specs.declared.fault.PairFault.{PairFault}
use Rattle.deltas.specs.declared.fault.PairFault.TheVariants as pair
use Rattle.deltas.specs.declared.fault.Side.{Side}

-- a refusal by its number, layer and place
abbrev pub refused : ℕ → Layer → ℕ → Refusal
refused n l p = record { number = n; layer = l; place = p }

-- a delta's fault by its number, layer and place
abbrev pub delta_refusal : DeltaFault → Refusal
delta_refusal Counts = refused 9 Delta 0
delta_refusal (EmptyInstruction i) = refused 6 Delta i
delta_refusal (CopyPastSource i) = refused 7 Delta i
delta_refusal (InsertMisplaced i) = refused 10 Delta i
delta_refusal (TargetLength n) = refused 8 Delta n
delta_refusal (InsertedCount n) = refused 10 Delta n

-- the fault of a pair of deltas by its number, layer and place
abbrev pub pair_refusal : PairFault → Refusal
pair_refusal (pair.Unsound s f) = delta_refusal f
pair_refusal (pair.Lengths n) = refused 11 Pair n
pair_refusal (pair.Short n) = refused 31 Pair n

-- which of the two deltas is at fault, where it is one of them
abbrev pub pair_side : PairFault → Option Side
pair_side (pair.Unsound s f) = Some s
pair_side (pair.Lengths n) = None
pair_side (pair.Short n) = None
