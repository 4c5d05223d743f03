-- Later places by the earlier origins, instruction by instruction.
use Rattle.std.proofs.Common.{◌≡◌, ℕ, zero, suc, ◌+◌, ◌<◌, ◌≤◌, List, [], ◌∷◌, ◌++◌, map, length, get_or, take, drop, sym, refl, ap, ◌∙◌, subst, arith, drop-cons}
use Rattle.std.proofs.lemmas.List.{take_more, flat_map_more, map-append}
use Rattle.deltas.specs.declared.instruction.Instruction.{Instruction}
use Rattle.deltas.specs.declared.instruction.Op.TheVariants.{Copy, Insert}
use Rattle.deltas.specs.Instructions.{blank_instruction}
use Rattle.deltas.specs.Origins.{Origin, copied, inserted, copies, given, piece, origins}
use Rattle.combining.specs.Combine.{origin_through, through}

-- what is copied has the origins that stand there
pub through_copies : {U : Type 0} (es : List (Origin U)) (p n : ℕ) → p + n ≤ length es → through es (copies p n) ≡ take n (drop p es)
through_copies es p zero l = refl
through_copies es p (suc n) l =
    let h : p < length es = omega arith in
    let k : suc p + n ≤ length es = omega arith in
    ap (λ os. get_or es p (copied p) ∷ os) (through_copies es (suc p) n k) ∙ ap (take (suc n)) (sym (drop-cons es p (copied p) h))

-- what is inserted stays
pub through_inserted : {U : Type 0} (es : List (Origin U)) (us : List U) → through es (map inserted us) ≡ map inserted us
through_inserted es [] = refl
through_inserted es (u ∷ us) = ap (λ os. inserted u ∷ os) (through_inserted es us)

pub through_copy : {U : Type 0} (es : List (Origin U)) (us : List U) (i : Instruction) → i.op ≡ Copy → i.from + i.length ≤ length es → through es (piece us i) ≡ take i.length (drop i.from es)
through_copy es us i e l = subst (λ o. through es (given us o i.from i.length) ≡ take i.length (drop i.from es)) (sym e) (through_copies es i.from i.length l)

pub through_insert : {U : Type 0} (es : List (Origin U)) (us : List U) (i : Instruction) → i.op ≡ Insert → through es (piece us i) ≡ piece us i
through_insert es us i e = subst (λ o. through es (given us o i.from i.length) ≡ given us o i.from i.length) (sym e) (through_inserted es (take i.length (drop i.from us)))

-- one instruction more
pub origins_more : {U : Type 0} (us : List U) (is : List Instruction) (k : ℕ) → k < length is → origins us (take (k + 1) is) ≡ origins us (take k is) ++ piece us (get_or is k blank_instruction)
origins_more us is k l = ap (origins us) (take_more is k blank_instruction l) ∙ sym (flat_map_more (piece us) [] (take k is) (get_or is k blank_instruction))

pub through_more : {U : Type 0} (es : List (Origin U)) (us : List U) (is : List Instruction) (k : ℕ) → k < length is → through es (origins us (take (k + 1) is)) ≡ through es (origins us (take k is)) ++ through es (piece us (get_or is k blank_instruction))
through_more es us is k l = ap (through es) (origins_more us is k l) ∙ map-append (origin_through es) (origins us (take k is)) (piece us (get_or is k blank_instruction))
