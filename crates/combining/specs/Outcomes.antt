use Rattle.std.specs.Prelude.{◌≡◌, ℕ, ◌-◌, Bool, cond, ◌||◌, List, ◌++◌, length, replicate, Ok, Err, Result, ◌==◌, nat_lt}
use Rattle.deltas.specs.declared.instruction.Instruction.{Instruction}
use Rattle.deltas.specs.declared.delta.Head.{Head}
use Rattle.deltas.specs.declared.fault.DeltaFault.{DeltaFault}
use Rattle.deltas.specs.declared.fault.PairFault.{PairFault}
use Rattle.deltas.specs.declared.fault.PairFault.TheVariants as pair
use Rattle.deltas.specs.declared.fault.NormalFault.{NormalFault}
use Rattle.deltas.specs.declared.fault.NormalFault.TheVariants as norm
use Rattle.deltas.specs.declared.fault.Side.TheVariants.{Earlier, Later}
use Rattle.deltas.specs.Check.{Parts, parts, checked}
use Rattle.deltas.specs.Origins.{Origin, origins_of}
use Rattle.combining.specs.Normal.{Normal, normal_head}
use Rattle.combining.specs.Combine.{combined_origins}

-- Answers of the calls that write a delta into two output tables, and what the tables then hold.

-- one of two output tables, of i and u entries, is shorter than the need
abbrev pub short : ℕ → ℕ → ℕ → Bool
short need i u = nat_lt i need || nat_lt u need

-- what a table holds after the call: where it was accepted, the delta's entries at the front and then blanks to the
-- end; where it was refused, what it held before
abbrev pub left_in : {E A : Type 0} → Result Head E → List A → List A → A → List A
left_in (Ok h) before entries blank = entries ++ replicate (length before - length entries) blank
left_in (Err f) before entries blank = before

-- what two tables hold under a head: a normal delta over a source of s units, with these origins
pub record Holds {U : Type 0} (h : Head) (is : List Instruction) (us : List U) (s : ℕ) (os : List (Origin U)) : Type 0 where
  pub is_normal : Normal (parts h is us)
  pub over_source : h.source ≡ s
  pub has_origins : origins_of (parts h is us) ≡ os

-- the answer of a call, once its delta passed the check
abbrev pub after_check : Result Head DeltaFault → Result Head NormalFault → Result Head NormalFault
after_check (Ok h) r = r
after_check (Err f) r = Err (norm.Unlawful f)

-- normalise: the normal delta's head; refused if the delta is not lawful, then if an output table has fewer entries
-- than the target length
abbrev pub normal_answer : {U : Type 0} → Parts U → ℕ → ℕ → Result Head NormalFault
normal_answer d i u =
    after_check (checked d)
    (cond (short d.head.target i u) (Err (norm.Short d.head.target))
    (Ok (normal_head d.head.source (origins_of d))))

-- the answer of a call, once the earlier and then the later delta passed the check
abbrev pub after_checks : Result Head DeltaFault → Result Head DeltaFault → Result Head PairFault → Result Head PairFault
after_checks (Ok g) (Ok h) r = r
after_checks (Ok g) (Err f) r = Err (pair.Unsound Later f)
after_checks (Err f) x r = Err (pair.Unsound Earlier f)

-- combine: the combined delta's head; refused if the earlier delta is not lawful, then if the later is not, then if
-- they do not meet, then if an output table has fewer entries than the later target length
abbrev pub combine_answer : {U : Type 0} → Parts U → Parts U → ℕ → ℕ → Result Head PairFault
combine_answer a b i u =
    after_checks (checked a) (checked b)
    (cond (a.head.target == b.head.source)
    (cond (short b.head.target i u) (Err (pair.Short b.head.target))
    (Ok (normal_head a.head.source (combined_origins a b))))
    (Err (pair.Lengths b.head.source)))
