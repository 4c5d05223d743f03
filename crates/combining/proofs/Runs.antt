use Rattle.std.proofs.Common.{◌≡◌, ℕ, zero, suc, ◌+◌, ◌<◌, ◌≤◌, true, false, cond, List, [], ◌∷◌, ◌++◌, map, length, take, drop, refl, ap, ◌∙◌, inl, inr, add-zero, add_assoc, arith}
use Rattle.std.proofs.lemmas.Bool.{cases_Bool, cond-true, eq-eqb, eqb-true}
use Rattle.deltas.specs.declared.instruction.Instruction.{Instruction}
use Rattle.deltas.specs.declared.instruction.Op.{Op}
use Rattle.deltas.specs.declared.instruction.Op.TheVariants.{Copy, Insert}
use Rattle.deltas.specs.Instructions.{instruction}
use Rattle.combining.specs.Joining.{follows_on, goes_on, longer}
use Rattle.deltas.specs.Origins.{Origin, copied, inserted, copies, given, piece, inserts}
use Rattle.combining.specs.Normal.{extend, runs_after}
use Rattle.deltas.specs.Places.{total, Inside, Fits}
use Rattle.deltas.proofs.Sound.{length_inside}

-- what follows at the same place goes on
follows_same : (o : Op) (e : ℕ) → follows_on o e o e ≡ true
follows_same Copy e = eq-eqb e e refl
follows_same Insert e = eq-eqb e e refl

-- and still does after n units more
follows_more : (o : Op) (e : ℕ) (q : Op) (f n : ℕ) → follows_on o e q f ≡ true → follows_on o (e + n) q (f + n) ≡ true
follows_more Copy e Copy f n h = eq-eqb (e + n) (f + n) (ap (λ x. x + n) (eqb-true e f h))
follows_more Copy e Insert f n h = h
follows_more Insert e Copy f n h = h
follows_more Insert e Insert f n h = eq-eqb (e + n) (f + n) (ap (λ x. x + n) (eqb-true e f h))

-- past the first of two or more instructions, only the rest is extended
extend_past : (a b : Instruction) (is : List Instruction) (i j : Instruction) → extend (a ∷ extend (b ∷ is) i) j ≡ a ∷ extend (extend (b ∷ is) i) j
extend_past a b [] i j =
    elim (goes_on b i) as (λ t. extend (a ∷ cond t (longer b i.length ∷ []) (b ∷ i ∷ [])) j ≡ a ∷ extend (cond t (longer b i.length ∷ []) (b ∷ i ∷ [])) j)
    [ true ↦ refl | false ↦ refl ]
extend_past a b (c ∷ is) i j = refl

-- after the first of two instructions that go on, there is one
extend_same : (o : Op) (p n m : ℕ) → extend (instruction o p n ∷ []) (instruction o (p + n) m) ≡ instruction o p (n + m) ∷ []
extend_same o p n m = cond-true (follows_on o (p + n) o (p + n)) _ _ (follows_same o (p + n))

-- after one run: it goes on to both instructions, or to neither
extend_one_more : (a : Instruction) (o : Op) (p n m : ℕ) → extend (extend (a ∷ []) (instruction o p n)) (instruction o (p + n) m) ≡ extend (a ∷ []) (instruction o p (n + m))
extend_one_more a o p n m =
    elim (cases_Bool (goes_on a (instruction o p n))) [
      | inl e ↦ (let f = follows_more a.op (a.from + a.length) o p n e in simp (e, ← add_assoc, f))
      | inr e ↦ simp e (ap (λ js. a ∷ js) (extend_same o p n m))
    ]

-- two instructions of which the second goes on at the end of the first are one
pub extend_more : (is : List Instruction) (o : Op) (p n m : ℕ) → extend (extend is (instruction o p n)) (instruction o (p + n) m) ≡ extend is (instruction o p (n + m))
extend_more [] o p n m = extend_same o p n m
extend_more (a ∷ []) o p n m = extend_one_more a o p n m
extend_more (a ∷ b ∷ is) o p n m = extend_past a b is (instruction o p n) (instruction o (p + n) m) ∙ ap (λ js. a ∷ js) (extend_more (b ∷ is) o p n m)

pub inserts_append : {U : Type 0} (os ps : List (Origin U)) → inserts (os ++ ps) ≡ inserts os ++ inserts ps
inserts_append [] ps = refl
inserts_append (copied p ∷ os) ps = inserts_append os ps
inserts_append (inserted u ∷ os) ps = ap (λ us. u ∷ us) (inserts_append os ps)

-- the runs of two parts, one after the other
pub runs_append : {U : Type 0} (is : List Instruction) (k : ℕ) (os ps : List (Origin U)) → runs_after is k (os ++ ps) ≡ runs_after (runs_after is k os) (k + length (inserts os)) ps
runs_append is k [] ps = rw add-zero refl
runs_append is k (copied p ∷ os) ps = runs_append (extend is (instruction Copy p 1)) k os ps
runs_append is k (inserted u ∷ os) ps =
    let e : k + 1 + length (inserts os) ≡ k + suc (length (inserts os)) = omega arith in
    runs_append (extend is (instruction Insert k 1)) (k + 1) os ps ∙
    ap (λ j. runs_after (runs_after (extend is (instruction Insert k 1)) (k + 1) os) j ps) e

pub inserts_copies : (U : Type 0) (p n : ℕ) → inserts (copies {U = U} p n) ≡ []
inserts_copies U p zero = refl
inserts_copies U p (suc n) = inserts_copies U (suc p) n

-- copied places that go on after a copy make it longer
copies_more : (U : Type 0) (is : List Instruction) (k p n m : ℕ) → runs_after (extend is (instruction Copy p n)) k (copies {U = U} (p + n) m) ≡ extend is (instruction Copy p (n + m))
copies_more U is k p n zero = rw add-zero refl
copies_more U is k p n (suc m) =
    let e : suc (p + n) ≡ p + (n + 1) = omega arith in
    let f : n + 1 + m ≡ n + suc m = omega arith in
    ap (λ js. runs_after js k (copies {U = U} (suc (p + n)) m)) (extend_more is Copy p n 1) ∙
    ap (λ q. runs_after (extend is (instruction Copy p (n + 1))) k (copies {U = U} q m)) e ∙
    copies_more U is k p (n + 1) m ∙ ap (λ j. extend is (instruction Copy p j)) f

pub runs_copies : (U : Type 0) (is : List Instruction) (k p n : ℕ) → 0 < n → runs_after is k (copies {U = U} p n) ≡ extend is (instruction Copy p n)
runs_copies U is k p zero h = absurd (omega arith)
runs_copies U is k p (suc n) h =
    let e : suc p ≡ p + 1 = omega arith in
    let f : 1 + n ≡ suc n = omega arith in
    ap (λ q. runs_after (extend is (instruction Copy p 1)) k (copies {U = U} q n)) e ∙
    copies_more U is k p 1 n ∙ ap (λ j. extend is (instruction Copy p j)) f

pub inserts_map : {U : Type 0} (us : List U) → inserts (map inserted us) ≡ us
inserts_map [] = refl
inserts_map (u ∷ us) = ap (λ vs. u ∷ vs) (inserts_map us)

-- inserted units after an insert make it longer
inserted_more : {U : Type 0} (is : List Instruction) (k n : ℕ) (us : List U) → runs_after (extend is (instruction Insert k n)) (k + n) (map inserted us) ≡ extend is (instruction Insert k (n + length us))
inserted_more is k n [] = rw add-zero refl
inserted_more is k n (u ∷ us) =
    let e : k + n + 1 ≡ k + (n + 1) = omega arith in
    let f : n + 1 + length us ≡ n + suc (length us) = omega arith in
    ap (λ js. runs_after js (k + n + 1) (map inserted us)) (extend_more is Insert k n 1) ∙
    ap (λ q. runs_after (extend is (instruction Insert k (n + 1))) q (map inserted us)) e ∙
    inserted_more is k (n + 1) us ∙ ap (λ j. extend is (instruction Insert k j)) f

pub runs_inserted : {U : Type 0} (is : List Instruction) (k : ℕ) (us : List U) → 0 < length us → runs_after is k (map inserted us) ≡ extend is (instruction Insert k (length us))
runs_inserted is k [] h = absurd (omega arith)
runs_inserted is k (u ∷ us) h =
    let f : 1 + length us ≡ suc (length us) = omega arith in
    inserted_more is k 1 us ∙ ap (λ j. extend is (instruction Insert k j)) f

pub total_append : (is js : List Instruction) → total (is ++ js) ≡ total is + total js
total_append [] js = omega arith
total_append (i ∷ is) js = omega (arith, total_append is js)

pub total_extend : (is : List Instruction) (i : Instruction) → total (extend is i) ≡ total is + i.length
total_extend [] i = omega arith
total_extend (a ∷ []) i =
    elim (goes_on a i) as (λ t. total (cond t (longer a i.length ∷ []) (a ∷ i ∷ [])) ≡ total (a ∷ []) + i.length)
    [ true ↦ omega arith | false ↦ omega arith ]
total_extend (a ∷ b ∷ is) i = omega (arith, total_extend (b ∷ is) i)

pub total_runs : {U : Type 0} (is : List Instruction) (k : ℕ) (os : List (Origin U)) → total (runs_after is k os) ≡ total is + length os
total_runs is k [] = omega arith
total_runs is k (copied p ∷ os) = omega (arith, total_runs (extend is (instruction Copy p 1)) k os, total_extend is (instruction Copy p 1))
total_runs is k (inserted u ∷ os) = omega (arith, total_runs (extend is (instruction Insert k 1)) (k + 1) os, total_extend is (instruction Insert k 1))

pub length_extend : (is : List Instruction) (i : Instruction) → length (extend is i) ≤ length is + 1
length_extend [] i = omega arith
length_extend (a ∷ []) i =
    elim (goes_on a i) as (λ t. length (cond t (longer a i.length ∷ []) (a ∷ i ∷ [])) ≤ 1 + 1)
    [ true ↦ omega arith | false ↦ omega arith ]
length_extend (a ∷ b ∷ is) i = omega (arith, length_extend (b ∷ is) i)

pub length_runs : {U : Type 0} (is : List Instruction) (k : ℕ) (os : List (Origin U)) → length (runs_after is k os) ≤ length is + length os
length_runs is k [] = omega arith
length_runs is k (copied p ∷ os) = omega (arith, length_runs (extend is (instruction Copy p 1)) k os, length_extend is (instruction Copy p 1))
length_runs is k (inserted u ∷ os) = omega (arith, length_runs (extend is (instruction Insert k 1)) (k + 1) os, length_extend is (instruction Insert k 1))

pub length_inserts : {U : Type 0} (os : List (Origin U)) → length (inserts os) ≤ length os
length_inserts [] = omega arith
length_inserts (copied p ∷ os) = omega (arith, length_inserts os)
length_inserts (inserted u ∷ os) = omega (arith, length_inserts os)

-- an instruction where it is written after k inserted units
abbrev pub moved : ℕ → Op → ℕ → ℕ → Instruction
moved k Copy p n = instruction Copy p n
moved k Insert p n = instruction Insert k n

runs_given : {U : Type 0} (is : List Instruction) (k : ℕ) (us : List U) (o : Op) (p n s m : ℕ) → 0 < n → Inside s m o p n → m ≤ length us → runs_after is k (given us o p n) ≡ extend is (moved k o p n)
runs_given {U} is k us Copy p n s m z h l = runs_copies U is k p n z
runs_given is k us Insert p n s m z h l =
    let e = length_inside us p n m h l in
    runs_inserted is k (take n (drop p us)) (omega arith) ∙ ap (λ j. extend is (instruction Insert k j)) e

-- the places that one instruction gives are one run, joined to what there is
pub runs_piece : {U : Type 0} (is : List Instruction) (k s m : ℕ) (us : List U) (i : Instruction) → Fits s m i → m ≤ length us → runs_after is k (piece us i) ≡ extend is (moved k i.op i.from i.length)
runs_piece is k s m us i f l = runs_given is k us i.op i.from i.length s m f.0 f.1 l
