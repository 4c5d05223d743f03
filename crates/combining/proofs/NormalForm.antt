use Rattle.std.proofs.Common.{◌≡◌, ℕ, zero, suc, ◌+◌, ◌<◌, ◌≤◌, true, not, ◌&&◌, eqb, List, [], ◌∷◌, ◌++◌, map, length, take, drop, Decides, sym, refl, ap, ◌∙◌, append_assoc, append-nil, add-zero, zero-add, arith, drop-drop, take-add}
use Rattle.std.proofs.lemmas.List.{map-append}
use Rattle.std.proofs.lemmas.Bool.{cond_both, cond-false, both_ways, false≢true, eqb-true, eq-eqb, not-true, not_from_false, and_parts, and_from}
use Rattle.std.proofs.lemmas.Bool.Decides.{Decides-eqb, Decides-not, Decides-and}
use Rattle.deltas.specs.declared.instruction.Instruction.{Instruction}
use Rattle.deltas.specs.declared.instruction.Op.{Op}
use Rattle.deltas.specs.declared.instruction.Op.TheVariants.{Copy, Insert}
use Rattle.deltas.specs.Instructions.{instruction}
use Rattle.combining.specs.Joining.{follows_on, goes_on, longer}
use Rattle.deltas.specs.Origins.{Origin, copied, inserted, copies, given, piece, origins, inserts, Within}
use Rattle.deltas.specs.Places.{Fits}
use Rattle.combining.specs.Normal.{Apart, Longest, all_apart, extend, runs_after}
use Rattle.combining.proofs.Runs.{inserts_append, inserts_copies, inserts_map, runs_append, length_extend}
use Rattle.deltas.proofs.Sound.{inserted_by, inserted_in, Placed, Sound, inside_placed, length_inside}
use Rattle.combining.proofs.Runs.{moved, runs_piece}

-- What an instruction that goes on makes longer.

follows_facts : (o : Op) (e : ℕ) (q : Op) (f : ℕ) → follows_on o e q f ≡ true → (q ≡ o) × (f ≡ e)
follows_facts Copy e Copy f h = (refl, sym (eqb-true e f h))
follows_facts Copy e Insert f h = absurd (false≢true h)
follows_facts Insert e Copy f h = absurd (false≢true h)
follows_facts Insert e Insert f h = (refl, sym (eqb-true e f h))

-- n and then m units at a place are n + m units there
copies_add : (U : Type 0) (p n m : ℕ) → copies {U = U} p (n + m) ≡ copies p n ++ copies (p + n) m
copies_add U p zero m = rw (zero-add, add-zero) refl
copies_add U p (suc n) m =
    let e : suc n + m ≡ suc (n + m) = omega arith in
    let f : suc p + n ≡ p + suc n = omega arith in
    ap (λ x. copies {U = U} p x) e ∙ ap (λ os. copied p ∷ os) (copies_add U (suc p) n m ∙ ap (λ q. copies {U = U} (suc p) n ++ copies q m) f)

given_add : {U : Type 0} (us : List U) (o : Op) (p n m : ℕ) → given us o p (n + m) ≡ given us o p n ++ given us o (p + n) m
given_add {U} us Copy p n m = copies_add U p n m
given_add us Insert p n m =
    ap (map inserted) (take-add n m (drop p us) ∙ ap (λ vs. take n (drop p us) ++ take m vs) (drop-drop n p us)) ∙
    map-append inserted (take n (drop p us)) (take m (drop (p + n) us))

piece_longer : {U : Type 0} (us : List U) (a i : Instruction) → goes_on a i ≡ true → piece us (longer a i.length) ≡ piece us a ++ piece us i
piece_longer us a i h =
    let f = follows_facts a.op (a.from + a.length) i.op i.from h in
    rw (f.0, f.1) (given_add us a.op a.from a.length i.length)

-- The origins of what is extended.

pub origins_extend : {U : Type 0} (us : List U) (is : List Instruction) (i : Instruction) → origins us (extend is i) ≡ origins us is ++ piece us i
origins_extend us [] i = append-nil (piece us i)
origins_extend us (a ∷ []) i =
    cond_both (goes_on a i) (longer a i.length ∷ []) (a ∷ i ∷ []) (λ js. origins us js ≡ origins us (a ∷ []) ++ piece us i)
    (λ e. simp append-nil (piece_longer us a i e))
    (λ e. simp append-nil)
origins_extend us (a ∷ b ∷ is) i =
    ap (λ os. piece us a ++ os) (origins_extend us (b ∷ is) i) ∙ sym (append_assoc (piece us a) (origins us (b ∷ is)) (piece us i))

-- the runs of some origins have these origins, over units that go on with theirs
pub origins_runs : {U : Type 0} (us : List U) (is : List Instruction) (k : ℕ) (os : List (Origin U)) → drop k us ≡ inserts os → origins us (runs_after is k os) ≡ origins us is ++ os
origins_runs us is k [] h = sym (append-nil (origins us is))
origins_runs us is k (copied p ∷ os) h =
    origins_runs us (extend is (instruction Copy p 1)) k os h ∙
    ap (λ ps. ps ++ os) (origins_extend us is (instruction Copy p 1)) ∙ append_assoc (origins us is) (copied p ∷ []) os
origins_runs us is k (inserted u ∷ os) h =
    origins_runs us (extend is (instruction Insert k 1)) (k + 1) os (sym (drop-drop 1 k us) ∙ ap (drop 1) h) ∙
    ap (λ ps. ps ++ os) (origins_extend us is (instruction Insert k 1) ∙ ap (λ vs. origins us is ++ map inserted (take 1 vs)) h) ∙
    append_assoc (origins us is) (inserted u ∷ []) os

-- What is extended stays sound.

placed_longer : (s k : ℕ) (o : Op) (p l n : ℕ) → Placed s k o p l → Placed s (k + inserted_by o l) o (p + l) n → Placed s k o p (l + n)
placed_longer s k Copy p l n h j = let g : p + l + n ≤ s = j in omega arith
placed_longer s k Insert p l n h j = h

inserted_longer : (o : Op) (l n : ℕ) → inserted_by o (l + n) ≡ inserted_by o l + inserted_by o n
inserted_longer Copy l n = refl
inserted_longer Insert l n = refl

inserted_extend : (is : List Instruction) (i : Instruction) → inserted_in (extend is i) ≡ inserted_in is + inserted_by i.op i.length
inserted_extend [] i = omega arith
inserted_extend (a ∷ []) i =
    cond_both (goes_on a i) (longer a i.length ∷ []) (a ∷ i ∷ []) (λ js. inserted_in js ≡ inserted_by a.op a.length + 0 + inserted_by i.op i.length)
    (λ e. let f = follows_facts a.op (a.from + a.length) i.op i.from e in
    rw f.0 (omega (arith, inserted_longer a.op a.length i.length)))
    (λ e. omega arith)
inserted_extend (a ∷ b ∷ is) i = omega (arith, inserted_extend (b ∷ is) i)

sound_extend : (s k : ℕ) (is : List Instruction) (i : Instruction) → Sound s k is → 0 < i.length → Placed s (k + inserted_in is) i.op i.from i.length → Sound s k (extend is i)
sound_extend s k [] i h l p = (l, (rw add-zero at p), tt)
sound_extend s k (a ∷ []) i h l p =
    let q : Placed s (k + inserted_by a.op a.length) i.op i.from i.length = rw add-zero at p in
    cond_both (goes_on a i) (longer a i.length ∷ []) (a ∷ i ∷ []) (λ js. Sound s k js)
    (λ e. let f = follows_facts a.op (a.from + a.length) i.op i.from e in
    (omega arith, placed_longer s k a.op a.from a.length i.length h.1 (rw (f.0, f.1) at q), tt))
    (λ e. (h.0, h.1, (l, q, tt)))
sound_extend s k (a ∷ b ∷ is) i h l p =
    let e : k + inserted_in (a ∷ b ∷ is) ≡ k + inserted_by a.op a.length + inserted_in (b ∷ is) = omega arith in
    (h.0, h.1, sound_extend s (k + inserted_by a.op a.length) (b ∷ is) i h.2 l (rw e at p))

-- the runs of origins inside a source are sound, and insert as many units
pub sound_runs : {U : Type 0} (s : ℕ) (is : List Instruction) (os : List (Origin U)) → Sound s 0 is → Within s os → Sound s 0 (runs_after is (inserted_in is) os)
sound_runs s is [] h w = h
sound_runs s is (copied p ∷ os) h w =
    let e : inserted_in (extend is (instruction Copy p 1)) ≡ inserted_in is = omega (arith, inserted_extend is (instruction Copy p 1)) in
    rw (← e) (sound_runs s (extend is (instruction Copy p 1)) os (sound_extend s 0 is (instruction Copy p 1) h (omega arith) (omega arith)) w.1)
sound_runs s is (inserted u ∷ os) h w =
    let e : inserted_in (extend is (instruction Insert (inserted_in is) 1)) ≡ inserted_in is + 1 = inserted_extend is (instruction Insert (inserted_in is) 1) in
    rw (← e) (sound_runs s (extend is (instruction Insert (inserted_in is) 1)) os (sound_extend s 0 is (instruction Insert (inserted_in is) 1) h (omega arith) (omega arith)) w)

pub inserted_runs : {U : Type 0} (is : List Instruction) (k : ℕ) (os : List (Origin U)) → inserted_in (runs_after is k os) ≡ inserted_in is + length (inserts os)
inserted_runs is k [] = omega arith
inserted_runs is k (copied p ∷ os) = omega (arith, inserted_runs (extend is (instruction Copy p 1)) k os, inserted_extend is (instruction Copy p 1))
inserted_runs is k (inserted u ∷ os) = omega (arith, inserted_runs (extend is (instruction Insert k 1)) (k + 1) os, inserted_extend is (instruction Insert k 1))

-- Longest runs.

-- two neighbours that are sound are apart where the second does not go on
apart_two : (s k : ℕ) (o : Op) (p l : ℕ) (q : Op) (f n : ℕ) → Placed s k o p l → Placed s (k + inserted_by o l) q f n → Decides (not (follows_on o (p + l) q f)) (Apart o (p + l) q f)
apart_two s k Copy p l Copy f n h j = Decides-not (eqb (p + l) f) (Decides-eqb (p + l) f)
apart_two s k Copy p l Insert f n h j = (λ _. tt, λ _. refl)
apart_two s k Insert p l Copy f n h j = (λ _. tt, λ _. refl)
apart_two s k Insert p l Insert f n h j =
    let a : p ≡ k = h in
    let b : f ≡ k + l = j in
    (λ t. both_ways (eqb (p + l) f) (not-true (eqb (p + l) f) t) (eq-eqb (p + l) f (omega arith)), λ no. absurd no)

pub apart_decides : (s k : ℕ) (is : List Instruction) → Sound s k is → Decides (all_apart is) (Longest is)
apart_decides s k [] h = (λ _. tt, λ _. refl)
apart_decides s k (a ∷ []) h = (λ _. tt, λ _. refl)
apart_decides s k (a ∷ b ∷ is) h =
    Decides-and (not (goes_on a b)) (all_apart (b ∷ is))
    (apart_two s k a.op a.from a.length b.op b.from b.length h.1 h.2.1)
    (apart_decides s (k + inserted_by a.op a.length) (b ∷ is) h.2)

apart_extend : (is : List Instruction) (i : Instruction) → all_apart is ≡ true → all_apart (extend is i) ≡ true
apart_extend [] i h = refl
apart_extend (a ∷ []) i h =
    cond_both (goes_on a i) (longer a i.length ∷ []) (a ∷ i ∷ []) (λ js. all_apart js ≡ true)
    (λ e. refl)
    (λ e. and_from (not (goes_on a i)) true (not_from_false (goes_on a i) e) refl)
apart_extend (a ∷ b ∷ []) i h =
    cond_both (goes_on b i) (longer b i.length ∷ []) (b ∷ i ∷ []) (λ js. all_apart (a ∷ js) ≡ true)
    (λ e. h)
    (λ e. and_from (not (goes_on a b)) (not (goes_on b i) && true) (and_parts (not (goes_on a b)) true h).0 (and_from (not (goes_on b i)) true (not_from_false (goes_on b i) e) refl))
apart_extend (a ∷ b ∷ c ∷ is) i h =
    let p = and_parts (not (goes_on a b)) (all_apart (b ∷ c ∷ is)) h in
    and_from (not (goes_on a b)) (all_apart (b ∷ extend (c ∷ is) i)) p.0 (apart_extend (b ∷ c ∷ is) i p.1)

pub apart_runs : {U : Type 0} (is : List Instruction) (k : ℕ) (os : List (Origin U)) → all_apart is ≡ true → all_apart (runs_after is k os) ≡ true
apart_runs is k [] h = h
apart_runs is k (copied p ∷ os) h = apart_runs (extend is (instruction Copy p 1)) k os (apart_extend is (instruction Copy p 1) h)
apart_runs is k (inserted u ∷ os) h = apart_runs (extend is (instruction Insert k 1)) (k + 1) os (apart_extend is (instruction Insert k 1) h)

-- The runs of what sound instructions give.

-- one instruction after another joined to what there is
abbrev pub extends : List Instruction → List Instruction → List Instruction
extends acc [] = acc
extends acc (i ∷ is) = extends (extend acc i) is

moved_same : (s k : ℕ) (o : Op) (p n : ℕ) → Placed s k o p n → moved k o p n ≡ instruction o p n
moved_same s k Copy p n h = refl
moved_same s k Insert p n h = ap (λ q. instruction Insert q n) (sym h)

inserts_given : {U : Type 0} (us : List U) (s k : ℕ) (o : Op) (p n : ℕ) → Placed s k o p n → inserts (given us o p n) ≡ take (inserted_by o n) (drop k us)
inserts_given {U} us s k Copy p n h = inserts_copies U p n
inserts_given us s k Insert p n h = inserts_map (take n (drop p us)) ∙ ap (λ q. take n (drop q us)) h

-- sound instructions insert the units from k on
pub inserts_origins : {U : Type 0} (us : List U) (s k : ℕ) (is : List Instruction) → Sound s k is → inserts (origins us is) ≡ take (inserted_in is) (drop k us)
inserts_origins us s k [] h = refl
inserts_origins us s k (i ∷ is) h =
    let n = inserted_by i.op i.length in
    inserts_append (piece us i) (origins us is) ∙
    ap (λ vs. vs ++ inserts (origins us is)) (inserts_given us s k i.op i.from i.length h.1) ∙
    ap (λ vs. take n (drop k us) ++ vs) (inserts_origins us s (k + n) is h.2) ∙
    sym (take-add n (inserted_in is) (drop k us) ∙ ap (λ vs. take n (drop k us) ++ take (inserted_in is) vs) (drop-drop n k us))

pub runs_origins : {U : Type 0} (us : List U) (s k : ℕ) (acc is : List Instruction) → Sound s k is → k + inserted_in is ≤ length us → runs_after acc k (origins us is) ≡ extends acc is
runs_origins us s k acc [] h l = refl
runs_origins us s k acc (i ∷ is) h l =
    let n = inserted_by i.op i.length in
    let e : length (inserts (piece us i)) ≡ n = ap length (inserts_given us s k i.op i.from i.length h.1) ∙ length_inside us k n (length us) (omega arith) (omega arith) in
    let f : Fits s (length us) i = (h.0, inside_placed s (length us) k i.op i.from i.length h.1 (omega arith)) in
    let j : runs_after acc k (piece us i) ≡ extend acc i = runs_piece acc k s (length us) us i f (omega arith) ∙ ap (extend acc) (moved_same s k i.op i.from i.length h.1) in
    runs_append acc k (piece us i) (origins us is) ∙
    ap (λ js. runs_after js (k + length (inserts (piece us i))) (origins us is)) j ∙
    ap (λ x. runs_after (extend acc i) (k + x) (origins us is)) e ∙
    runs_origins us s (k + n) (extend acc i) is h.2 (omega arith)

pub length_extends : (acc is : List Instruction) → length (extends acc is) ≤ length acc + length is
length_extends acc [] = omega arith
length_extends acc (i ∷ is) = omega (arith, length_extends (extend acc i) is, length_extend acc i)

-- where no neighbour goes on, joining is appending
extend_apart : (acc : List Instruction) (i : Instruction) (is : List Instruction) → all_apart (acc ++ i ∷ is) ≡ true → extend acc i ≡ acc ++ i ∷ []
extend_apart [] i is h = refl
extend_apart (a ∷ []) i is h = cond-false (goes_on a i) _ _ (not-true (goes_on a i) (and_parts (not (goes_on a i)) (all_apart (i ∷ is)) h).0)
extend_apart (a ∷ b ∷ acc) i is h = ap (λ js. a ∷ js) (extend_apart (b ∷ acc) i is (and_parts (not (goes_on a b)) (all_apart (b ∷ acc ++ i ∷ is)) h).1)

pub extends_apart : (acc is : List Instruction) → all_apart (acc ++ is) ≡ true → extends acc is ≡ acc ++ is
extends_apart acc [] h = sym (append-nil acc)
extends_apart acc (i ∷ is) h =
    ap (λ js. extends js is) (extend_apart acc i is h) ∙
    extends_apart (acc ++ i ∷ []) is (rw append_assoc h) ∙ append_assoc acc (i ∷ []) is
