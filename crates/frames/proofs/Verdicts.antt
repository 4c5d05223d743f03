-- What the check of a frame answers.
use Rattle.std.proofs.Common.{◌≡◌, ℕ, ◌≤◌, List, length, drop, Ok, Err, Result, sym, refl, ap, ◌∙◌, arith}
use Rattle.std.proofs.lemmas.List.{take_all}
use Rattle.units.specs.Code.{Code}
use Rattle.deltas.specs.declared.delta.Head.{Head}
use Rattle.deltas.specs.declared.fault.DeltaFault.{DeltaFault}
use Rattle.deltas.specs.Check.{head, Parts, checked, walked}
use Rattle.deltas.proofs.Checks.{checked_walks}
use Rattle.deltas.proofs.Sound.{passed_any}
use Rattle.frames.specs.declared.opening.Opening.{Opening}
use Rattle.faults.specs.declared.frame.FrameFault.{FrameFault}
use Rattle.faults.specs.declared.frame.ParseFault.TheVariants.{Frame, Delta}
use Rattle.frames.specs.Instructions.{Wire}
use Rattle.frames.specs.Reading.{then, with_fault, opened, wires, entries, inserts_in, delta_in, unpacked, if_lawful}
use Rattle.frames.specs.Outcomes.{check_answer}
use Rattle.frames.specs.Steps.{found, left, wires_in}
use Rattle.frames.specs.declared.reader.WireReader.{WireReader}
use Rattle.frames.proofs.Tables.{length_entries, length_inserted}
use Rattle.frames.proofs.Wires.{wires_fit}
use Rattle.frames.proofs.Walks.{at_first}

module _ {U : Type 0} {kind width : ℕ} (c : Code U kind width) where
  -- where its instructions insert no more than 65,535 units, its check is the walk
  pub checked_in : (o : Opening) (xs : List Wire) → length xs ≤ 65535 → inserts_in xs ≤ 65535 → checked (delta_in c o xs) ≡ walked (head o.source o.target (length xs) (inserts_in xs)) 0 0 0 (entries 0 xs)
  checked_in o xs l m =
      let n = length_entries 0 xs in
      let u = length_inserted c xs in
      checked_walks (delta_in c o xs) (omega arith) l (omega arith) m
      ∙ ap (walked (head o.source o.target (length xs) (inserts_in xs)) 0 0 0) (take_all (length xs) (entries 0 xs) (omega arith))

-- a lawful delta's head, by its check
head_from : {U : Type 0} (d : Parts U) (q : Result Head DeltaFault) → checked d ≡ q → then (then (with_fault Delta q) (λ _. Ok d)) (λ e. Ok e.head) ≡ with_fault Delta q
head_from d (Ok h) e =
    let l = passed_any d h e in
    let s : ◌≡◌ {A = Result Head DeltaFault} (Ok d.head) (Ok h) = sym l ∙ e in
    let t : d.head ≡ h = cc s in
    ap Ok t
head_from d (Err f) e = refl

pub head_lawful : {U : Type 0} (d : Parts U) → then (if_lawful d) (λ e. Ok e.head) ≡ with_fault Delta (checked d)
head_lawful d = head_from d (checked d) refl

-- The answer, once the frame is opened and its instructions are found.

pub found_is : (q : Result (List Wire) FrameFault) (n : ℕ) → Ok n ≡ then q (λ xs. Ok (inserts_in xs)) → (q ≡ Ok (found q)) × (n ≡ inserts_in (found q))
found_is (Ok xs) n e = (refl, cc)
found_is (Err f) n e = let z : ◌≡◌ {A = ℕ} 0 1 = cc in absurd (omega arith)

module _ {U : Type 0} {kind width : ℕ} (c : Code U kind width) where
  pub answer_found : (f : List ℕ) (o : Opening) (xs : List Wire) → opened kind f ≡ Ok o → wires width o.instructions 12 (drop 12 f) ≡ Ok xs → check_answer c f ≡ with_fault Delta (checked (delta_in c o xs))
  answer_found f o xs p q =
      let u : unpacked c f ≡ Ok (delta_in c o xs) = rw (p, q) refl in
      ap (λ r. then (then (with_fault Frame r) if_lawful) (λ d. Ok d.head)) u ∙ head_lawful (delta_in c o xs)

  -- as the program has it, over a reader that stands behind the first 12 bytes
  pub answer_walks : (f : List ℕ) (o : Opening) (r : WireReader) (k n : ℕ) → r.frame.now ≡ f → r.place ≡ 12 → k ≡ kind → Ok o ≡ opened k f → Ok n ≡ then (left width o.instructions r) (λ xs. Ok (inserts_in xs)) → o.instructions ≤ 65535 → n ≤ 65535 → with_fault Delta (walked (head o.source o.target o.instructions n) 0 0 0 (entries 0 (wires_in width o.instructions r))) ≡ check_answer c f
  answer_walks f o r k n rf rp ke p q l m =
      let xs = wires_in width o.instructions r in
      let s = found_is (left width o.instructions r) n q in
      let w = sym (at_first width o.instructions r f rf rp) ∙ s.0 in
      let i = (wires_fit width o.instructions 12 (drop 12 f) xs w).0 in
      let a = answer_found f o xs (ap (λ j. opened j f) (sym ke) ∙ sym p) w in
      ap (λ j. with_fault Delta (walked (head o.source o.target j n) 0 0 0 (entries 0 xs))) (sym i)
      ∙ ap (λ j. with_fault Delta (walked (head o.source o.target (length xs) j) 0 0 0 (entries 0 xs))) s.1
      ∙ ap (with_fault Delta) (sym (checked_in c o xs (omega arith) (omega arith)))
      ∙ sym a
