use Rattle.std.proofs.Common.{◌≡◌, ℕ, zero, suc, ◌+◌, ◌<◌, ◌≤◌, Bool, true, false, cond, ◌||◌, eqb, ltb, leb, List, [], ◌∷◌, ◌++◌, map, length, take, drop, Ok, Err, Result, refl, sym, ap, subst, ◌∙◌, le_of_eq, arith, length-append, length-drop, length-take}
use Rattle.std.specs.List.{AllByRecursion}
use Rattle.std.proofs.lemmas.List.{length-map, length-take-le, take-take}
use Rattle.std.proofs.lemmas.Bool.{cond-true, cond-false, or_parts, or_from, ltb-false, le-ltb, leb-true, le-leb, eqb-true, eqb-false, eq-eqb, ne_eqb}
use Rattle.deltas.specs.declared.instruction.Instruction.{Instruction}
use Rattle.deltas.specs.declared.instruction.Op.{Op}
use Rattle.deltas.specs.declared.instruction.Op.TheVariants.{Copy, Insert}
use Rattle.deltas.specs.declared.delta.Head.{Head}
use Rattle.deltas.specs.declared.fault.DeltaFault.{DeltaFault}
use Rattle.deltas.specs.declared.fault.DeltaFault.TheVariants.{Counts, EmptyInstruction, CopyPastSource, InsertMisplaced, TargetLength, InsertedCount}
use Rattle.deltas.specs.Check.{Parts, parts, instructions_of, units_of, own, placed, stepped, totalled, walked, passes, checked, Lawful}
use Rattle.deltas.specs.Origins.{Origin, copied, inserted, copies, given, piece, origins, origins_of, Within}
use Rattle.deltas.specs.Places.{total, Inside, Fits}
pub use Rattle.deltas.specs.Meaning.{inserted_by, inserted_in, Placed}

-- The check of a delta as facts.

-- a copy gives as many places as it is long
pub length_copies : (U : Type 0) (p n : ℕ) → length (copies {U = U} p n) ≡ n
length_copies U p zero = refl
length_copies U p (suc n) = ap suc (length_copies U (suc p) n)

-- the instructions of a delta over s units, after k inserted units, one after another
abbrev pub Sound : ℕ → ℕ → List Instruction → Type 0
Sound s k [] = Unit {0}
Sound s k (i ∷ is) = (0 < i.length) × Placed s k i.op i.from i.length × Sound s (k + inserted_by i.op i.length) is

pub record Passed {U : Type 0} (d : Parts U) : Type 0 where
  pub instructions : d.head.instructions ≤ length d.table
  pub few : d.head.instructions ≤ 65535
  pub inserted : d.head.inserted ≤ length d.units
  pub small : d.head.inserted ≤ 65535
  pub sound : Sound d.head.source 0 (instructions_of d)
  pub target : total (instructions_of d) ≡ d.head.target
  pub count : inserted_in (instructions_of d) ≡ d.head.inserted

-- an Ok behind a test, in either order, and behind another call
ok_when : {A E : Type 0} (b : Bool) (r : Result A E) (e : E) (x : A) → cond b r (Err e) ≡ Ok x → (b ≡ true) × (r ≡ Ok x)
ok_when true r e x h = (refl, h)
ok_when false r e x h = let z : ◌≡◌ {A = ℕ} 0 1 = cc in absurd (omega arith)

ok_unless : {A E : Type 0} (b : Bool) (r : Result A E) (e : E) (x : A) → cond b (Err e) r ≡ Ok x → (b ≡ false) × (r ≡ Ok x)
ok_unless true r e x h = let z : ◌≡◌ {A = ℕ} 0 1 = cc in absurd (omega arith)
ok_unless false r e x h = (refl, h)

ok_after : {A B E : Type 0} (q : Result A E) (f : A → Result B E) (x : B) → ◌≡◌ {A = Result B E} (elim q [ Ok n ↦ f n | Err e ↦ Err e ]) (Ok x) → (n : A) × (q ≡ Ok n) × (f n ≡ Ok x)
ok_after (Ok n) f x h = (n, refl, h)
ok_after (Err e) f x h = let z : ◌≡◌ {A = ℕ} 0 1 = cc in absurd (omega arith)

-- one instruction that passes, there and back
placed_facts : (s n k : ℕ) (o : Op) (p l m : ℕ) → placed s n k o p l ≡ Ok m → Placed s n o p l × (m ≡ n + inserted_by o l)
placed_facts s n k Copy p l m h =
    let e = ok_when (leb (p + l) s) (Ok n) (CopyPastSource k) m h in
    let q : n ≡ m = cc e.1 in
    (leb-true (p + l) s e.0, omega arith)
placed_facts s n k Insert p l m h =
    let e = ok_when (eqb p n) (Ok (n + l)) (InsertMisplaced k) m h in
    let q : n + l ≡ m = cc e.1 in
    (eqb-true p n e.0, omega arith)

placed_back : (s n k : ℕ) (o : Op) (p l : ℕ) → Placed s n o p l → placed s n k o p l ≡ Ok (n + inserted_by o l)
placed_back s n k Copy p l h = let e : n ≡ n + 0 = omega arith in cond-true (leb (p + l) s) _ _ (le-leb (p + l) s h) ∙ ap Ok e
placed_back s n k Insert p l h = cond-true (eqb p n) _ _ (eq-eqb p n h)

pub stepped_facts : (s n k : ℕ) (i : Instruction) (m : ℕ) → stepped s n k i ≡ Ok m → (0 < i.length) × Placed s n i.op i.from i.length × (m ≡ n + inserted_by i.op i.length)
stepped_facts s n k i m h =
    let e = ok_unless (eqb i.length 0) (placed s n k i.op i.from i.length) (EmptyInstruction k) m h in
    let f = placed_facts s n k i.op i.from i.length m e.1 in
    let no : i.length ≡ 0 → ⊥ = eqb-false i.length 0 e.0 in
    (omega (arith, no), f.0, f.1)

stepped_back : (s n k : ℕ) (i : Instruction) → 0 < i.length → Placed s n i.op i.from i.length → stepped s n k i ≡ Ok (n + inserted_by i.op i.length)
stepped_back s n k i l h =
    cond-false (eqb i.length 0) _ _ (ne_eqb i.length 0 (omega arith)) ∙ placed_back s n k i.op i.from i.length h

-- all instructions that pass, after t places and n inserted units, there and back
totalled_facts : (h : Head) (k t n : ℕ) (r : Head) → totalled h k t n ≡ Ok r → (t ≡ h.target) × (n ≡ h.inserted) × (r ≡ h)
totalled_facts h k t n r e =
    let f = ok_when (eqb t h.target) (cond (eqb n h.inserted) (Ok h) (Err (InsertedCount k))) (TargetLength k) r e in
    let g = ok_when (eqb n h.inserted) (Ok h) (InsertedCount k) r f.1 in
    (eqb-true t h.target f.0, eqb-true n h.inserted g.0, cc g.1)

walked_facts : (h : Head) (k t n : ℕ) (is : List Instruction) (r : Head) → walked h k t n is ≡ Ok r → Sound h.source n is × (t + total is ≡ h.target) × (n + inserted_in is ≡ h.inserted) × (r ≡ h)
walked_facts h k t n [] r e =
    let f = totalled_facts h k t n r e in
    (tt, omega arith, omega arith, f.2)
walked_facts h k t n (i ∷ is) r e =
    let a = ok_after (stepped h.source n k i) (λ m. walked h (k + 1) (t + i.length) m is) r e in
    let f = stepped_facts h.source n k i a.0 a.1 in
    let g = walked_facts h (k + 1) (t + i.length) a.0 is r a.2 in
    ((f.0, f.1, (rw f.2 at g.0)), omega arith, omega arith, g.3)

walked_back : (h : Head) (k t n : ℕ) (is : List Instruction) → Sound h.source n is → t + total is ≡ h.target → n + inserted_in is ≡ h.inserted → walked h k t n is ≡ Ok h
walked_back h k t n [] s e f = cond-true (eqb t h.target) _ _ (eq-eqb t h.target (omega arith)) ∙ cond-true (eqb n h.inserted) _ _ (eq-eqb n h.inserted (omega arith))
walked_back h k t n (i ∷ is) s e f =
    let go : Result ℕ DeltaFault → Result Head DeltaFault = λ q. elim q [ Ok m ↦ walked h (k + 1) (t + i.length) m is | Err g ↦ Err g ] in
    ap go (stepped_back h.source n k i s.0 s.1) ∙
    walked_back h (k + 1) (t + i.length) (n + inserted_by i.op i.length) is s.2 (omega arith) (omega arith)

-- the check's answer as facts; the head that it answers is the delta's own
pub checked_facts : {U : Type 0} (d : Parts U) (h : Head) → checked d ≡ Ok h → Passed d × (h ≡ d.head)
checked_facts d h e =
    let a = ok_unless (passes d.head.instructions (length d.table) || passes d.head.inserted (length d.units)) (walked d.head 0 0 0 (instructions_of d)) Counts h e in
    let p = or_parts (passes d.head.instructions (length d.table)) (passes d.head.inserted (length d.units)) a.0 in
    let q = or_parts (ltb (length d.table) d.head.instructions) (ltb 65535 d.head.instructions) p.0 in
    let r = or_parts (ltb (length d.units) d.head.inserted) (ltb 65535 d.head.inserted) p.1 in
    let w = walked_facts d.head 0 0 0 (instructions_of d) h a.1 in (
      record {
        instructions = ltb-false (length d.table) d.head.instructions q.0;
        few = ltb-false 65535 d.head.instructions q.1;
        inserted = ltb-false (length d.units) d.head.inserted r.0;
        small = ltb-false 65535 d.head.inserted r.1;
        sound = w.0;
        target = omega (arith, w.1);
        count = omega (arith, w.2);
      },
      w.3,
    )

pub passed : {U : Type 0} (d : Parts U) → Lawful d → Passed d
passed d l = (checked_facts d d.head l).0

pub passed_any : {U : Type 0} (d : Parts U) (h : Head) → checked d ≡ Ok h → Lawful d
passed_any d h e = e ∙ ap Ok (checked_facts d h e).1

pub not_passes : (c e : ℕ) → c ≤ e → c ≤ 65535 → passes c e ≡ false
not_passes c e h f = or_from (ltb e c) (ltb 65535 c) (le-ltb e c h) (le-ltb 65535 c f)

pub lawful : {U : Type 0} (d : Parts U) → Passed d → Lawful d
lawful d p =
    cond-false (passes d.head.instructions (length d.table) || passes d.head.inserted (length d.units)) _ _
    (or_from _ _ (not_passes d.head.instructions (length d.table) p.instructions p.few) (not_passes d.head.inserted (length d.units) p.inserted p.small)) ∙
    walked_back d.head 0 0 0 (instructions_of d) p.sound (omega arith) (omega arith)

-- a delta with the same instructions passes the check with the same head
pub passed_too : {U : Type 0} (d : Parts U) (is : List Instruction) (us : List U) → Passed d → take d.head.instructions is ≡ instructions_of d → d.head.instructions ≤ length is → d.head.inserted ≤ length us → Passed (parts d.head is us)
passed_too d is us p same long full = record {
  instructions = long;
  few = p.few;
  inserted = full;
  small = p.small;
  sound = subst (Sound d.head.source 0) (sym same) p.sound;
  target = ap total same ∙ p.target;
  count = ap inserted_in same ∙ p.count;
}

-- a lawful delta is lawful in tables of just its own entries
own_passed : {U : Type 0} (d : Parts U) → Passed d → Passed (own d)
own_passed d p =
    let i = d.head.instructions in
    let j = d.head.inserted in
    passed_too d (instructions_of d) (units_of d) p (take-take i i d.table (omega arith))
    (le_of_eq (sym (length-take-le i d.table p.instructions)))
    (le_of_eq (sym (length-take-le j d.units p.inserted)))

-- so it is lawful
pub own_lawful : {U : Type 0} (d : Parts U) → Lawful d → Lawful (own d)
own_lawful d l = lawful (own d) (own_passed d (passed d l))

-- What sound instructions give.

pub inside_placed : (s m k : ℕ) (o : Op) (p n : ℕ) → Placed s k o p n → k + inserted_by o n ≤ m → Inside s m o p n
inside_placed s m k Copy p n h l = h
inside_placed s m k Insert p n h l = let e : p ≡ k = h in omega arith

pub sound_fits : (s m k : ℕ) (is : List Instruction) → Sound s k is → k + inserted_in is ≤ m → AllByRecursion (Fits s m) is
sound_fits s m k [] h l = tt
sound_fits s m k (i ∷ is) h l = (
  (h.0, inside_placed s m k i.op i.from i.length h.1 (omega arith)),
  sound_fits s m (k + inserted_by i.op i.length) is h.2 (omega arith),
)

-- as many units as are asked for
pub length_inside : {U : Type 0} (us : List U) (p n m : ℕ) → p + n ≤ m → m ≤ length us → length (take n (drop p us)) ≡ n
length_inside us p n m h l = simp (length-take, length-drop) (omega arith)

length_given : {U : Type 0} (us : List U) (o : Op) (p n s m : ℕ) → Inside s m o p n → m ≤ length us → length (given us o p n) ≡ n
length_given {U} us Copy p n s m h l = length_copies U p n
length_given us Insert p n s m h l = length-map (take n (drop p us)) inserted ∙ length_inside us p n m h l

pub length_piece : {U : Type 0} (us : List U) (i : Instruction) (s m : ℕ) → Fits s m i → m ≤ length us → length (piece us i) ≡ i.length
length_piece us i s m f l = length_given us i.op i.from i.length s m f.1 l

pub length_origins : {U : Type 0} (s m : ℕ) (us : List U) (is : List Instruction) → AllByRecursion (Fits s m) is → m ≤ length us → length (origins us is) ≡ total is
length_origins s m us [] f l = refl
length_origins s m us (i ∷ is) f l = rw length-append (omega (arith, length_piece us i s m f.0 l, length_origins s m us is f.1 l))

pub within_append : {U : Type 0} (s : ℕ) (os ps : List (Origin U)) → Within s os → Within s ps → Within s (os ++ ps)
within_append s [] ps f g = g
within_append s (copied p ∷ os) ps f g = (f.0, within_append s os ps f.1 g)
within_append s (inserted u ∷ os) ps f g = within_append s os ps f g

within_copies : (U : Type 0) (s p n : ℕ) → p + n ≤ s → Within s (copies {U = U} p n)
within_copies U s p zero h = tt
within_copies U s p (suc n) h = (omega arith, within_copies U s (suc p) n (omega arith))

within_inserted : {U : Type 0} (s : ℕ) (us : List U) → Within s (map inserted us)
within_inserted s [] = tt
within_inserted s (u ∷ us) = within_inserted s us

within_given : {U : Type 0} (us : List U) (o : Op) (p n s m : ℕ) → Inside s m o p n → Within s (given us o p n)
within_given {U} us Copy p n s m h = within_copies U s p n h
within_given us Insert p n s m h = within_inserted s (take n (drop p us))

within_all : {U : Type 0} (s m : ℕ) (us : List U) (is : List Instruction) → AllByRecursion (Fits s m) is → Within s (origins us is)
within_all s m us [] f = tt
within_all s m us (i ∷ is) f = within_append s (piece us i) (origins us is) (within_given us i.op i.from i.length s m f.0.1) (within_all s m us is f.1)

-- the instructions of a lawful delta fit its source and its own units
pub lawful_fits : {U : Type 0} (d : Parts U) → Lawful d → AllByRecursion (Fits d.head.source d.head.inserted) (instructions_of d)
lawful_fits d l = let p = passed d l in sound_fits d.head.source d.head.inserted 0 (instructions_of d) p.sound (omega arith)

pub within_origins : {U : Type 0} (d : Parts U) → Lawful d → Within d.head.source (origins_of d)
within_origins d l = within_all d.head.source d.head.inserted (units_of d) (instructions_of d) (lawful_fits d l)
