-- What the check finds, by indices.
use Rattle.std.proofs.Common.{◌≡◌, ℕ, zero, suc, ◌+◌, ◌<◌, ◌≤◌, Bool, true, false, cond, ◌||◌, eqb, ltb, leb, ◌⊎◌, List, [], ◌∷◌, length, get_or, take, drop, Ok, Err, Result, sym, refl, ap, ◌∙◌, subst, inl, inr, ⊎_elim, arith, below_more}
use Rattle.std.proofs.lemmas.List.{take_all, length-take-le}
use Rattle.std.proofs.lemmas.Bool.{or_parts, or_from, ltb-false, leb-false, eqb-true, eqb-false}
use Rattle.deltas.specs.declared.instruction.Instruction.{Instruction}
use Rattle.deltas.specs.declared.instruction.Op.{Op}
use Rattle.deltas.specs.declared.instruction.Op.TheVariants.{Copy, Insert}
use Rattle.deltas.specs.declared.delta.Head.{Head}
use Rattle.deltas.specs.declared.fault.DeltaFault.{DeltaFault}
use Rattle.deltas.specs.declared.fault.DeltaFault.TheVariants.{Counts, EmptyInstruction, CopyPastSource, InsertMisplaced, TargetLength, InsertedCount}
use Rattle.deltas.specs.Instructions.{blank_instruction}
use Rattle.deltas.specs.Check.{Parts, instructions_of, placed, stepped, totalled, walked, passes, checked, Lawful}
use Rattle.deltas.specs.Places.{total}
use Rattle.deltas.specs.Meaning.{inserted_by, inserted_in, Placed, Good, GoodBefore, Counted, Meets, Faulty, Fails, CheckMeans}
use Rattle.deltas.proofs.Checks.{walked_on, walked_stops, walked_ends}
use Rattle.deltas.proofs.Sound.{Sound, passed, lawful, stepped_facts, not_passes}

-- One after another, and by indices.

sound_at : (s j : ℕ) (is : List Instruction) → Sound s j is → (k : ℕ) → k < length is → (0 < (get_or is k blank_instruction).length) × Placed s (j + inserted_in (take k is)) (get_or is k blank_instruction).op (get_or is k blank_instruction).from (get_or is k blank_instruction).length
sound_at s j [] h k l = absurd (omega arith)
sound_at s j (i ∷ is) h zero l =
    let e : j ≡ j + 0 = omega arith in
    (h.0, subst (λ n. Placed s n i.op i.from i.length) e h.1)
sound_at s j (i ∷ is) h (suc k) l =
    let q : k < length is = omega arith in
    let r = sound_at s (j + inserted_by i.op i.length) is h.2 k q in
    let e : j + inserted_by i.op i.length + inserted_in (take k is) ≡ j + (inserted_by i.op i.length + inserted_in (take k is)) = omega arith in
    (r.0, subst (λ n. Placed s n (get_or is k blank_instruction).op (get_or is k blank_instruction).from (get_or is k blank_instruction).length) e r.1)

at_sound : (s j : ℕ) (is : List Instruction) → ((k : ℕ) → k < length is → (0 < (get_or is k blank_instruction).length) × Placed s (j + inserted_in (take k is)) (get_or is k blank_instruction).op (get_or is k blank_instruction).from (get_or is k blank_instruction).length) → Sound s j is
at_sound s j [] f = tt
at_sound s j (i ∷ is) f =
    let e : j + 0 ≡ j = omega arith in
    let first = f 0 (omega arith) in (
      first.0,
      subst (λ n. Placed s n i.op i.from i.length) e first.1,
      at_sound s (j + inserted_by i.op i.length) is
          (λ k l.
          let q : suc k < length (i ∷ is) = omega arith in
          let r = f (suc k) q in
          let m : j + (inserted_by i.op i.length + inserted_in (take k is)) ≡ j + inserted_by i.op i.length + inserted_in (take k is) = omega arith in
          (r.0, subst (λ n. Placed s n (get_or is k blank_instruction).op (get_or is k blank_instruction).from (get_or is k blank_instruction).length) m r.1)),
    )

-- One instruction more.

total_next : (is : List Instruction) (k : ℕ) → k < length is → total (take (suc k) is) ≡ total (take k is) + (get_or is k blank_instruction).length
total_next [] k l = absurd (omega arith)
total_next (i ∷ is) zero l = omega arith
total_next (i ∷ is) (suc k) l = let q : k < length is = omega arith in omega (arith, total_next is k q)

inserted_next : (is : List Instruction) (k : ℕ) → k < length is → inserted_in (take (suc k) is) ≡ inserted_in (take k is) + inserted_by (get_or is k blank_instruction).op (get_or is k blank_instruction).length
inserted_next [] k l = absurd (omega arith)
inserted_next (i ∷ is) zero l = omega arith
inserted_next (i ∷ is) (suc k) l = let q : k < length is = omega arith in omega (arith, inserted_next is k q)

-- An Err behind a test.

err_unless : {A E : Type 0} (b : Bool) (r : Result A E) (e g : E) → cond b (Err e) r ≡ Err g → ((b ≡ true) × (e ≡ g)) ⊎ ((b ≡ false) × (r ≡ Err g))
err_unless true r e g h = inl (refl, cc)
err_unless false r e g h = inr (refl, h)

err_when : {A E : Type 0} (b : Bool) (x : A) (e g : E) → ◌≡◌ {A = Result A E} (cond b (Ok x) (Err e)) (Err g) → (b ≡ false) × (e ≡ g)
err_when true x e g h = let z : ◌≡◌ {A = ℕ} 0 1 = cc in absurd (omega arith)
err_when false x e g h = (refl, cc)

err_else : {A E : Type 0} (b : Bool) (r : Result A E) (e g : E) → cond b r (Err e) ≡ Err g → ((b ≡ true) × (r ≡ Err g)) ⊎ ((b ≡ false) × (e ≡ g))
err_else true r e g h = inl (refl, h)
err_else false r e g h = inr (refl, cc)

placed_fault : (s n k : ℕ) (o : Op) (p l : ℕ) (g : DeltaFault) → placed s n k o p l ≡ Err g → ((CopyPastSource k ≡ g) × (o ≡ Copy) × (s < p + l)) ⊎ ((InsertMisplaced k ≡ g) × (o ≡ Insert) × (p ≡ n → ⊥))
placed_fault s n k Copy p l g h =
    let e = err_when (leb (p + l) s) n (CopyPastSource k) g h in
    inl (e.1, refl, leb-false (p + l) s e.0)
placed_fault s n k Insert p l g h =
    let e = err_when (eqb p n) (n + l) (InsertMisplaced k) g h in
    inr (e.1, refl, eqb-false p n e.0)

-- The fault of one instruction, of the totals, and of all that is left.

step_fault : (h : Head) (is : List Instruction) (k : ℕ) (g : DeltaFault) → k < length is → GoodBefore h.source is k → stepped h.source (inserted_in (take k is)) k (get_or is k blank_instruction) ≡ Err g → Faulty h is g
step_fault h is k g l u e =
    let i = get_or is k blank_instruction in
    ⊎_elim
    (λ z. subst (Faulty h is) z.1 (l, u, eqb-true i.length 0 z.0))
    (λ z.
    let no : i.length ≡ 0 → ⊥ = eqb-false i.length 0 z.0 in
    let some : 0 < i.length = omega (arith, no) in
    ⊎_elim
    (λ c. subst (Faulty h is) c.0 (l, u, some, c.1, c.2))
    (λ c. subst (Faulty h is) c.0 (l, u, some, c.1, c.2))
    (placed_fault h.source (inserted_in (take k is)) k i.op i.from i.length g z.1))
    (err_unless (eqb i.length 0) (placed h.source (inserted_in (take k is)) k i.op i.from i.length) (EmptyInstruction k) g e)

end_fault : (h : Head) (is : List Instruction) (k : ℕ) (g : DeltaFault) → k ≡ length is → GoodBefore h.source is k → totalled h k (total is) (inserted_in is) ≡ Err g → Faulty h is g
end_fault h is k g l u e =
    ⊎_elim
    (λ z.
    let q = err_when (eqb (inserted_in is) h.inserted) h (InsertedCount k) g z.1 in
    subst (Faulty h is) q.1 (l, u, eqb-true (total is) h.target z.0, eqb-false (inserted_in is) h.inserted q.0))
    (λ z. subst (Faulty h is) z.1 (l, u, eqb-false (total is) h.target z.0))
    (err_else (eqb (total is) h.target) (cond (eqb (inserted_in is) h.inserted) (Ok h) (Err (InsertedCount k))) (TargetLength k) g e)

turn_fault : (h : Head) (is : List Instruction) (k : ℕ) (f : DeltaFault) → k < length is → GoodBefore h.source is k → (GoodBefore h.source is (k + 1) → walked h (k + 1) (total (take (k + 1) is)) (inserted_in (take (k + 1) is)) (drop (k + 1) is) ≡ Err f → Faulty h is f) → walked h k (total (take k is)) (inserted_in (take k is)) (drop k is) ≡ Err f → (q : Result ℕ DeltaFault) → stepped h.source (inserted_in (take k is)) k (get_or is k blank_instruction) ≡ q → Faulty h is f
turn_fault h is k f l u next w (Ok m) e =
    let i = get_or is k blank_instruction in
    let p = stepped_facts h.source (inserted_in (take k is)) k i m e in
    let n : k + 1 ≡ suc k = omega arith in
    let t : total (take k is) + i.length ≡ total (take (k + 1) is) = sym (ap (λ x. total (take x is)) n ∙ total_next is k l) in
    let v : m ≡ inserted_in (take (k + 1) is) = p.2 ∙ sym (ap (λ x. inserted_in (take x is)) n ∙ inserted_next is k l) in
    next (below_more (Good h.source is) k u (p.0, p.1))
    (ap (λ x. walked h (k + 1) x (inserted_in (take (k + 1) is)) (drop (k + 1) is)) (sym t)
    ∙ ap (λ x. walked h (k + 1) (total (take k is) + i.length) x (drop (k + 1) is)) (sym v)
    ∙ sym (walked_on h k (total (take k is)) (inserted_in (take k is)) m is l (sym e))
    ∙ w)
turn_fault h is k f l u next w (Err g) e =
    let s = walked_stops h k (total (take k is)) (inserted_in (take k is)) g is l (sym e) in
    let same : ◌≡◌ {A = Result Head DeltaFault} (Err g) (Err f) = sym s ∙ w in
    let z : g ≡ f = cc same in
    subst (Faulty h is) z (step_fault h is k g l u e)

fault_from : (h : Head) (is : List Instruction) (m k : ℕ) (f : DeltaFault) → k + m ≡ length is → GoodBefore h.source is k → walked h k (total (take k is)) (inserted_in (take k is)) (drop k is) ≡ Err f → Faulty h is f
fault_from h is zero k f e u w =
    let l : length is ≤ k = omega arith in
    let q : k ≡ length is = omega arith in
    let all = take_all k is l in
    end_fault h is k f q u
    (ap (λ js. totalled h k (total js) (inserted_in js)) (sym all) ∙ sym (walked_ends h k (total (take k is)) (inserted_in (take k is)) is l) ∙ w)
fault_from h is (suc m) k f e u w =
    let l : k < length is = omega arith in
    let r : k + 1 + m ≡ length is = omega arith in
    turn_fault h is k f l u (λ v x. fault_from h is m (k + 1) f r v x) w (stepped h.source (inserted_in (take k is)) k (get_or is k blank_instruction)) refl

-- The whole delta.

module _ {U : Type 0} where
  meets : (d : Parts U) → Lawful d → Meets d
  meets d l =
      let p = passed d l in
      let n = length-take-le d.head.instructions d.table p.instructions in
      record {
        counted = record { instructions = p.instructions; few = p.few; inserted = p.inserted; small = p.small };
        each = λ k q.
            let r = sound_at d.head.source 0 (instructions_of d) p.sound k (omega arith) in
            let z : 0 + inserted_in (take k (instructions_of d)) ≡ inserted_in (take k (instructions_of d)) = omega arith in
            (r.0, subst (λ x. Placed d.head.source x (get_or (instructions_of d) k blank_instruction).op (get_or (instructions_of d) k blank_instruction).from (get_or (instructions_of d) k blank_instruction).length) z r.1);
        target = p.target;
        inserted = p.count;
      }

  back : (d : Parts U) → Meets d → Lawful d
  back d m =
      let n = length-take-le d.head.instructions d.table m.counted.instructions in
      lawful d (record {
        instructions = m.counted.instructions;
        few = m.counted.few;
        inserted = m.counted.inserted;
        small = m.counted.small;
        sound = at_sound d.head.source 0 (instructions_of d) (λ k l.
            let r = m.each k (omega arith) in
            let z : inserted_in (take k (instructions_of d)) ≡ 0 + inserted_in (take k (instructions_of d)) = omega arith in
            (r.0, subst (λ x. Placed d.head.source x (get_or (instructions_of d) k blank_instruction).op (get_or (instructions_of d) k blank_instruction).from (get_or (instructions_of d) k blank_instruction).length) z r.1));
        target = m.target;
        count = m.inserted;
      })

  -- the counts, by their test
  counted : (d : Parts U) → (passes d.head.instructions (length d.table) || passes d.head.inserted (length d.units)) ≡ false → Counted d
  counted d e =
      let p = or_parts (passes d.head.instructions (length d.table)) (passes d.head.inserted (length d.units)) e in
      let q = or_parts (ltb (length d.table) d.head.instructions) (ltb 65535 d.head.instructions) p.0 in
      let r = or_parts (ltb (length d.units) d.head.inserted) (ltb 65535 d.head.inserted) p.1 in
      record {
        instructions = ltb-false (length d.table) d.head.instructions q.0;
        few = ltb-false 65535 d.head.instructions q.1;
        inserted = ltb-false (length d.units) d.head.inserted r.0;
        small = ltb-false 65535 d.head.inserted r.1;
      }

  not_counted : (d : Parts U) → (passes d.head.instructions (length d.table) || passes d.head.inserted (length d.units)) ≡ true → Counted d → ⊥
  not_counted d e c =
      let f = or_from (passes d.head.instructions (length d.table)) (passes d.head.inserted (length d.units)) (not_passes d.head.instructions (length d.table) c.instructions c.few) (not_passes d.head.inserted (length d.units) c.inserted c.small) in
      let z : true ≡ false = sym e ∙ f in
      let y : ◌≡◌ {A = ℕ} 0 1 = cc z in
      omega arith

  fails : (d : Parts U) (f : DeltaFault) → checked d ≡ Err f → Fails d f
  fails d f e =
      ⊎_elim
      (λ z. inl (sym z.1, not_counted d z.0))
      (λ z. inr (counted d z.0, fault_from d.head (instructions_of d) (length (instructions_of d)) 0 f (omega arith) (λ j l. absurd (omega arith)) z.1))
      (err_unless (passes d.head.instructions (length d.table) || passes d.head.inserted (length d.units)) (walked d.head 0 0 0 (instructions_of d)) Counts f e)

pub check_means : (U : Type 0) → CheckMeans U
check_means U = record { meets = meets; lawful = back; fails = fails }
