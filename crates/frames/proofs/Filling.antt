-- Units and instructions that are written into tables one by one.
use Rattle.std.proofs.Common.{◌≡◌, ℕ, suc, ◌+◌, ◌-◌, ◌*◌, ◌<◌, ◌≤◌, List, [], ◌∷◌, ◌++◌, length, take, drop, set, sym, ap, ◌∙◌, add-mul, one-mul, arith}
use borrow.Rule.Slice.PartMut.{put_mid}
use Rattle.std.proofs.lemmas.List.Edits.{sets, sets-eq}
use Rattle.std.proofs.lemmas.List.{length-take, length-drop, drop-drop, append-nil, append_assoc, drop_all}
use Rattle.units.specs.Code.{Code}
use Rattle.std.specs.List.{flat_map}
use Rattle.deltas.specs.declared.instruction.Instruction.{Instruction}
use Rattle.frames.specs.Instructions.{Wire, copy, insert, inserts_of, Fitting}
use Rattle.frames.specs.Reading.{units_in, units_of_wire, entry, entries}
use Rattle.frames.specs.Steps.{Sized, Read}
use Rattle.frames.specs.declared.reader.WireReader.{WireReader}
use Rattle.frames.proofs.Wires.{first_fits}
use Rattle.frames.proofs.Tables.{length_units_in, length_units_of_wire}

-- one turn less
less : (n i w : ℕ) → i < n → (n - i) * w ≡ w + (n - (i + 1)) * w
less n i w l =
    let e : n - i ≡ 1 + (n - (i + 1)) = omega arith in
    ap (λ k. k * w) e ∙ add-mul 1 (n - (i + 1)) w ∙ ap (λ k. k + (n - (i + 1)) * w) (one-mul w)

pub rest_again : (n i w : ℕ) (bs rs : List ℕ) → i < n → rs ≡ drop w bs → length bs ≡ (n - i) * w → length rs ≡ (n - (i + 1)) * w
rest_again n i w bs rs l r e = ap length r ∙ length-drop w bs ∙ omega (arith, less n i w l)

-- the units that are left give what the table holds in the end
pub units_again : {U : Type 0} {kind width : ℕ} (c : Code U kind width) (n i : ℕ) (out : List U) (bs us rs : List ℕ) (u : U) (a : List U) → i < n → us ≡ take width bs → rs ≡ drop width bs → u ≡ c.parsed us → sets out i (units_in c (n - i) bs) ≡ a → sets (set out i u) (i + 1) (units_in c (n - (i + 1)) rs) ≡ a
units_again {width = width} c n i out bs us rs u a l f r p h =
    let s : n - i ≡ suc (n - (i + 1)) = omega arith in
    let j : i + 1 ≡ suc i = omega arith in
    ap (λ k. sets (set out i u) k (units_in c (n - (i + 1)) rs)) j
    ∙ ap (λ b. sets (set out i u) (suc i) (units_in c (n - (i + 1)) b)) r
    ∙ ap (λ v. sets (set out i v) (suc i) (units_in c (n - (i + 1)) (drop width bs))) (p ∙ ap c.parsed f)
    ∙ ap (λ k. sets out i (units_in c k bs)) (sym s)
    ∙ h

-- a table that is written from its first entry to its last
pub sets_whole : {A : Type 0} (vs l : List A) → length vs ≡ length l → sets l 0 vs ≡ vs
sets_whole vs l e =
    sets-eq vs l 0 (omega arith)
    ∙ ap (λ r. vs ++ r) (drop_all (0 + length vs) l (omega arith))
    ∙ append-nil vs

-- a part that is written
pub put_sets : {A : Type 0} (a k : ℕ) (xs ys zs : List A) → ys ≡ zs → k ≡ length zs → a + length zs ≤ length xs → put_mid a k xs ys ≡ sets xs a zs
put_sets a k xs ys zs e f l =
    ap (λ v. take a xs ++ (v ++ drop k (drop a xs))) e
    ∙ ap (λ r. take a xs ++ (zs ++ r)) (drop-drop k a xs ∙ ap (λ j. drop (a + j) xs) f)
    ∙ sym (append_assoc (take a xs) zs (drop (a + length zs) xs))
    ∙ sym (sets-eq zs xs a l)

-- the units of an insert
pub store_insert : {U : Type 0} {kind width : ℕ} (c : Code U kind width) (a n : ℕ) (bs : List ℕ) (us vs : List U) → a + n ≤ length us → vs ≡ units_in c (length (take (a + n - a) (drop a us))) bs → put_mid a (a + n - a) us vs ≡ sets us a (units_in c n bs)
store_insert c a n bs us vs l e =
    let k : a + n - a ≡ n = omega arith in
    let m : length (take (a + n - a) (drop a us)) ≡ n = omega (arith, length-take (a + n - a) (drop a us), length-drop a us) in
    let u = length_units_in c n bs in
    put_sets a (a + n - a) us vs (units_in c n bs) (e ∙ ap (λ j. units_in c j bs) m) (omega arith) (omega arith)

-- some entries and then some more
pub sets_then : {A : Type 0} (vs ws l : List A) (i : ℕ) → sets (sets l i vs) (i + length vs) ws ≡ sets l i (vs ++ ws)
sets_then [] ws l i = let e : i + 0 ≡ i = omega arith in ap (λ k. sets l k ws) e
sets_then (v ∷ vs) ws l i =
    let e : i + suc (length vs) ≡ suc i + length vs = omega arith in
    ap (λ k. sets (sets (set l i v) (suc i) vs) k ws) e ∙ sets_then vs ws (set l i v) (suc i)

-- one instruction more in both tables
pub entries_again : (t : List Instruction) (i k b : ℕ) (e : Instruction) (x : Wire) (ws xs : List Wire) (a : List Instruction) → e ≡ entry b x → b ≡ k → ws ≡ x ∷ xs → sets t i (entries k ws) ≡ a → sets (set t i e) (i + 1) (entries (k + inserts_of x) xs) ≡ a
entries_again t i k b e x ws xs a en f g h =
    let j : i + 1 ≡ suc i = omega arith in
    ap (λ n. sets (set t i e) n (entries (k + inserts_of x) xs)) j
    ∙ ap (λ y. sets (set t i y) (suc i) (entries (k + inserts_of x) xs)) (en ∙ ap (λ n. entry n x) f)
    ∙ ap (λ ys. sets t i (entries k ys)) (sym g)
    ∙ h

pub stored_again : {U : Type 0} {kind width : ℕ} (c : Code U kind width) (us vs : List U) (k : ℕ) (x : Wire) (ws xs : List Wire) (a : List U) → vs ≡ sets us k (units_of_wire c x) → ws ≡ x ∷ xs → sets us k (flat_map (units_of_wire c) ws) ≡ a → sets vs (k + inserts_of x) (flat_map (units_of_wire c) xs) ≡ a
stored_again c us vs k x ws xs a e g h =
    ap (λ u. sets u (k + inserts_of x) (flat_map (units_of_wire c) xs)) e
    ∙ ap (λ n. sets (sets us k (units_of_wire c x)) (k + n) (flat_map (units_of_wire c) xs)) (sym (length_units_of_wire c x))
    ∙ sets_then (units_of_wire c x) (flat_map (units_of_wire c) xs) us k
    ∙ ap (λ ys. sets us k (flat_map (units_of_wire c) ys)) (sym g)
    ∙ h

fitting_sized : (w : ℕ) (x : Wire) → Fitting w x → Sized w x
fitting_sized w (copy p n) f = tt
fitting_sized w (insert n bs) f = f.1

-- an insert that was read has as many bytes as its units take
pub read_sized : (w : ℕ) (r s : WireReader) (x : Wire) → Read w r x s → Sized w x
read_sized w r s x e = fitting_sized w x (first_fits w r.place (drop r.place r.frame.now) x e.is).0
