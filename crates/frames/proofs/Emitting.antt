-- A delta as it is written: how long its frame is, and what the output holds.
use Rattle.std.proofs.Common.{◌≡◌, ℕ, ◌+◌, ◌-◌, ◌*◌, ◌<◌, ◌≤◌, List, ◌++◌, length, get_or, take, drop, Ok, Err, Result, sym, refl, ap, ◌∙◌, subst, zero-add, le_of_eq, arith}
use Rattle.std.proofs.lemmas.List.Edits.{sets, sets-eq}
use Rattle.std.specs.List.{AllByRecursion}
use Rattle.std.proofs.ByRecursion.{All-get_or}
use Rattle.std.proofs.lemmas.List.{take_all, take_at, take-take}
use Rattle.units.specs.Code.{Code, CodeLaws}
use Rattle.deltas.specs.declared.instruction.Instruction.{Instruction}
use Rattle.deltas.specs.declared.instruction.Op.{Op}
use Rattle.deltas.specs.declared.instruction.Op.TheVariants.{Copy, Insert}
use Rattle.deltas.specs.Instructions.{blank_instruction}
use Rattle.std.proofs.lemmas.Bool.Decides.{nat_tests}
use Rattle.deltas.specs.declared.delta.Head.{Head}
use Rattle.deltas.specs.declared.fault.DeltaFault.{DeltaFault}
use Rattle.deltas.specs.Check.{Parts, instructions_of, units_of, checked, Lawful, own}
use Rattle.deltas.specs.declared.lawful.LawfulDelta.{LawfulDelta}
use Rattle.deltas.specs.LawfulDeltas.{lawful_parts}
use Rattle.deltas.specs.Places.{Inside, Fits}
use Rattle.deltas.proofs.Sound.{passed_any, lawful_fits, length_inside}
use Rattle.frames.specs.Instructions.{wire_bytes}
use Rattle.faults.specs.declared.frame.WriteFault.TheVariants as write
use Rattle.frames.specs.Reading.{then, with_fault, parsed_frame}
use Rattle.frames.specs.Outcomes.{length_answer, if_room, write_answer}
use Rattle.frames.specs.Writing.{wire_given, wire_of, instructions_bytes, opening_bytes, frame_bytes, encoded}
use Rattle.frames.specs.Steps.{extent_of}
use Rattle.frames.proofs.Tables.{length_joined_written}
use Rattle.frames.proofs.RoundTrips.{same_parts, Fresh, length_frame, delta_again}
use Rattle.frames.specs.declared.writer.Writer.{Writer}
use Rattle.frames.specs.Steps.{Wrote}
use Rattle.frames.proofs.Writers.{length_more}

-- The instructions of a lawful delta that is over just its own entries.

-- they fit its source, and its units
pub own_fits : {U : Type 0} (d : Parts U) → Lawful d → Fresh d → AllByRecursion (Fits d.head.source (length d.units)) d.table
own_fits d l f =
    subst (λ m. AllByRecursion (Fits d.head.source m) d.table) f.inserted
    (subst (λ e. AllByRecursion (Fits d.head.source d.head.inserted) e.table) f.same (lawful_fits d l))

-- a lawful delta's tables are just its own entries
pub fresh : {U : Type 0} (d : LawfulDelta U) → Fresh (lawful_parts d)
fresh d = record {
  same = same_parts d.head d.head _ _ _ _ refl (take_all d.head.instructions d.instructions.now (le_of_eq d.count)) (take_all d.head.inserted d.units.now (le_of_eq d.inserted));
  instructions = sym d.count;
  inserted = sym d.inserted;
}

-- its frame is 12 bytes and theirs
pub own_length : {U : Type 0} {kind width : ℕ} (c : Code U kind width) (d : Parts U) → Fresh d → length (encoded c d) ≡ 12 + length (instructions_bytes c d.units d.table)
own_length c d f = length_frame c d ∙ ap (λ e. 12 + length (instructions_bytes c e.units e.table)) f.same

module _ {U : Type 0} {kind width : ℕ} (c : Code U kind width) (k : CodeLaws c) where
  length_given : (us : List U) (o : Op) (p n s m : ℕ) → Inside s m o p n → m ≤ length us → length (wire_bytes (wire_given c us o p n)) ≡ extent_of width o n
  length_given us Copy p n s m h l = refl
  length_given us Insert p n s m h l =
      let a = length_joined_written c k (take n (drop p us)) in
      let b = ap (λ i. i * width) (length_inside us p n m h l) in
      omega arith

  -- one instruction more
  pub length_turn : (d : Parts U) (n e i : ℕ) → Lawful d → Fresh d → i < length d.table → e ≡ extent_of width (get_or d.table i blank_instruction).op (get_or d.table i blank_instruction).length → n ≡ 12 + length (instructions_bytes c d.units (take i d.table)) → (n + e ≡ 12 + length (instructions_bytes c d.units (take (i + 1) d.table))) × (n + e ≤ length (encoded c d))
  length_turn d n e i l f h x r =
      let y = get_or d.table i blank_instruction in
      let g = All-get_or (Fits d.head.source (length d.units)) d.table i blank_instruction h (own_fits d l f) in
      let a = length_given d.units y.op y.from y.length d.head.source (length d.units) g.1 (le_of_eq refl) in
      let z = length_more (λ j. wire_bytes (wire_of c d.units j)) d.table i y blank_instruction h refl in
      let m = own_length c d f in
      (omega (arith, z), omega (arith, z))

  pub length_last : (d : Parts U) (n i : ℕ) → Fresh d → length d.table ≤ i → n ≡ 12 + length (instructions_bytes c d.units (take i d.table)) → n ≡ length (encoded c d)
  length_last d n i f l r = r ∙ ap (λ is. 12 + length (instructions_bytes c d.units is)) (take_all i d.table l) ∙ sym (own_length c d f)

-- The output, after the first 12 bytes and then the instructions were written.

module _ {U : Type 0} {kind width : ℕ} (c : Code U kind width) where
  written : (d : Parts U) (b k i : ℕ) → Fresh d → b ≡ length (encoded c d) - 5 → k ≡ kind → i ≡ d.head.instructions → opening_bytes b k d.head.source d.head.target i ++ instructions_bytes c d.units d.table ≡ encoded c d
  written d b k i f e g h =
      let n = own_length c d f in
      let m : b ≡ 7 + length (instructions_bytes c d.units d.table) = omega arith in
      let same : opening_bytes b k d.head.source d.head.target i ++ instructions_bytes c d.units d.table ≡ frame_bytes kind d.head.source d.head.target d.head.instructions (instructions_bytes c d.units d.table) = cc in
      same ∙ ap (λ e. frame_bytes kind d.head.source d.head.target d.head.instructions (instructions_bytes c e.units e.table)) (sym f.same)

  pub emitted : (d : Parts U) (b k i n : ℕ) (out : List ℕ) (before after : Writer) → Fresh d → n ≡ length (encoded c d) → b ≡ n - 5 → k ≡ kind → i ≡ d.head.instructions → n ≤ length out → before.out.now ≡ out → before.at ≡ 0 → Wrote before (opening_bytes b k d.head.source d.head.target i ++ instructions_bytes c d.units d.table) after → after.out.now ≡ encoded c d ++ drop n out
  emitted d b k i n out before after f m e g h l o z w =
      let all = opening_bytes b k d.head.source d.head.target i ++ instructions_bytes c d.units d.table in
      w.out
      ∙ ap (λ j. sets before.out.now j all) z
      ∙ ap (λ r. sets r 0 all) o
      ∙ ap (sets out 0) (written d b k i f (e ∙ ap (λ j. j - 5) m) g h)
      ∙ sets-eq (encoded c d) out 0 (omega arith)
      ∙ ap (λ j. encoded c d ++ drop j out) (zero-add (length (encoded c d)) ∙ sym m)

  -- entries behind a delta's own are not written
  own_encoded : (d : Parts U) → encoded c (own d) ≡ encoded c d
  own_encoded d =
      let bytes : List Instruction → List U → List ℕ = λ is us. frame_bytes kind d.head.source d.head.target d.head.instructions (instructions_bytes c us is) in
      ap (λ is. bytes is (units_of (own d))) (take-take d.head.instructions d.head.instructions d.table (le_of_eq refl))
      ∙ ap (bytes (instructions_of d)) (take-take d.head.inserted d.head.inserted d.units (le_of_eq refl))

  -- so the output holds the frame of the delta that was handed in
  pub handed : (d e : Parts U) (n : ℕ) (out end : List ℕ) → e ≡ own d → n ≡ length (encoded c e) → end ≡ encoded c e ++ drop n out → (n ≡ length (encoded c d)) × (end ≡ encoded c d ++ drop (length (encoded c d)) out)
  handed d e n out end s l h =
      let same = ap (encoded c) s ∙ own_encoded d in
      let m = l ∙ ap length same in
      (m, h ∙ ap (λ bs. bs ++ drop n out) same ∙ ap (λ i. encoded c d ++ drop i out) m)

module _ {U : Type 0} {kind width : ℕ} (c : Code U kind width) (k : CodeLaws c) where
  -- it is read back
  pub emitted_again : (d : Parts U) (n : ℕ) (end rest : List ℕ) → Lawful d → d.head.source ≤ 65535 → d.head.target ≤ 65535 → n ≡ length (encoded c d) → end ≡ encoded c d ++ rest → parsed_frame c (take n end) ≡ Ok (own d)
  emitted_again d n end rest l s t e f =
      ap (λ o. parsed_frame c (take n o)) f
      ∙ ap (parsed_frame c) (take_at (encoded c d) rest n (sym e))
      ∙ delta_again c k d l s t

-- What the answers of frame_length and write_frame say to a caller.

-- what the answer of frame_length says
length_from : {U : Type 0} {kind width : ℕ} (c : Code U kind width) (d : Parts U) (n : ℕ) (q : Result Head DeltaFault) → checked d ≡ q → Ok n ≡ then q (λ _. Ok (length (encoded c d))) → Lawful d × (n ≡ length (encoded c d))
length_from c d n (Ok h) e f = (passed_any d h e, cc)
length_from c d n (Err g) e f = let z : ◌≡◌ {A = ℕ} 0 1 = cc in absurd (omega arith)

pub length_says : {U : Type 0} {kind width : ℕ} (c : Code U kind width) (d : Parts U) (n : ℕ) → Ok n ≡ length_answer c d → Lawful d × (n ≡ length (encoded c d))
length_says c d n e = length_from c d n (checked d) refl e

pub write_ok : {U : Type 0} {kind width : ℕ} (c : Code U kind width) (d : Parts U) (n m : ℕ) → Ok n ≡ length_answer c d → n ≤ m → Ok n ≡ write_answer c d m
write_ok c d n m e l = sym (ap (λ q. then (with_fault write.Unlawful q) (if_room m)) (sym e) ∙ grind (arith, nat_tests))
