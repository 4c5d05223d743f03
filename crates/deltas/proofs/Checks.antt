-- The check's definition, step by step as the loop goes.
use Rattle.std.proofs.Common.{◌≡◌, ℕ, ◌+◌, ◌-◌, ◌<◌, ◌≤◌, false, List, length, get_or, take, drop, Ok, Err, sym, ap, ◌∙◌, arith}
use native.Mathlib.Nat.{sub-zero}
use Rattle.std.proofs.lemmas.Bool.Decides.{nat_tests}
use Rattle.std.proofs.lemmas.List.{drop_more, at_drop_all}
use Rattle.deltas.specs.declared.instruction.Instruction.{Instruction}
use Rattle.deltas.specs.declared.delta.Head.{Head}
use Rattle.deltas.specs.declared.fault.DeltaFault.{DeltaFault}
use Rattle.deltas.specs.Instructions.{blank_instruction}
use Rattle.deltas.specs.Check.{Parts, parts, own, checked, passes, walked, stepped, totalled, instructions_of}

-- `&xs[0..n]` as the checker reads it
pub front_is : {X : Type 0} (n : ℕ) (xs : List X) → take (n - 0) xs ≡ take n xs
front_is n xs = ap (λ m. take m xs) (sub-zero n)

-- a delta's own entries, as they are taken
pub own_is : {U : Type 0} (d : Parts U) (h : Head) → h ≡ d.head → parts h (take (h.instructions - 0) d.table) (take (h.inserted - 0) d.units) ≡ own d
own_is d h e =
    ap (λ g. parts g (take (g.instructions - 0) d.table) (take (g.inserted - 0) d.units)) e
    ∙ ap (λ t. parts d.head t (take (d.head.inserted - 0) d.units)) (front_is d.head.instructions d.table)
    ∙ ap (parts d.head (instructions_of d)) (front_is d.head.inserted d.units)

passes_not : (count entries : ℕ) → count ≤ entries → count ≤ 65535 → passes count entries ≡ false
passes_not count entries a b = grind (arith, nat_tests)

-- where no count passes, the check is the walk
pub checked_walks : {U : Type 0} (d : Parts U) → d.head.instructions ≤ length d.table → d.head.instructions ≤ 65535 → d.head.inserted ≤ length d.units → d.head.inserted ≤ 65535 → checked d ≡ walked d.head 0 0 0 (instructions_of d)
checked_walks d a b p q =
    let e = passes_not _ _ a b in
    let f = passes_not _ _ p q in
    rw (e, f)

-- one turn of the loop: the instruction at k was found good, or at fault
pub walked_on : (h : Head) (k t n m : ℕ) (xs : List Instruction) → k < length xs → Ok m ≡ stepped h.source n k (get_or xs k blank_instruction) → walked h k t n (drop k xs) ≡ walked h (k + 1) (t + (get_or xs k blank_instruction).length) m (drop (k + 1) xs)
walked_on h k t n m xs l e = ap (walked h k t n) (drop_more xs k blank_instruction l) ∙ rw (sym e, walked)

pub walked_stops : (h : Head) (k t n : ℕ) (f : DeltaFault) (xs : List Instruction) → k < length xs → Err f ≡ stepped h.source n k (get_or xs k blank_instruction) → walked h k t n (drop k xs) ≡ Err f
walked_stops h k t n f xs l e = ap (walked h k t n) (drop_more xs k blank_instruction l) ∙ rw (sym e, walked)

pub walked_ends : (h : Head) (k t n : ℕ) (xs : List Instruction) → length xs ≤ k → walked h k t n (drop k xs) ≡ totalled h k t n
walked_ends h k t n xs l = at_drop_all (walked h k t n) xs k l
