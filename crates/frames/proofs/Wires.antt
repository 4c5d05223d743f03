-- Instructions as bytes: what is read is written again, and what is written is read again.
use Rattle.std.proofs.Common.{◌≡◌, ℕ, zero, suc, ◌+◌, ◌*◌, ◌^◌, ◌<◌, ◌≤◌, ◌⊎◌, List, [], ◌∷◌, ◌++◌, length, get_or, take, drop, Ok, Result, sym, refl, ap, ◌∙◌, subst, ⊎_elim, mod-lt, arith}
use Rattle.std.specs.List.{flat_map, AllByRecursion}
use Rattle.std.specs.Int.Digits.{AllBelowBase}
use Rattle.std.proofs.lemmas.List.{length-append, length-drop, length-take-le, drop_at, take_at, nil_from_length}
use Rattle.std.proofs.ByRecursion.{All-take, All-drop}
use Rattle.std.proofs.lemmas.Bool.Decides.{nat_tests}
use Rattle.units.specs.BigEndian.{big_endian, from_big_endian, number_at}
use Rattle.units.specs.BigEndians.{number_at_big_endian}
use Rattle.faults.specs.declared.frame.FrameFault.{FrameFault}
use Rattle.frames.specs.Instructions.{Wire, copy, insert, extent, wire_bytes, Fitting}
use Rattle.frames.specs.Reading.{then, first, wires}
use Rattle.frames.proofs.Steps.{then_ok}
use Rattle.frames.proofs.Numbers.{part_then, byte_then, number_then}

-- an instruction takes as many bytes as it says
pub length_wire_bytes : (x : Wire) → length (wire_bytes x) ≡ extent x
length_wire_bytes (copy p n) = refl
length_wire_bytes (insert n bs) = omega arith

-- an instruction whose units' bytes are bytes
abbrev pub Bytely : Wire → Type 0
Bytely (copy p n) = Unit {0}
Bytely (insert n bs) = AllBelowBase 256 bs

-- a number that is read is of two bytes
pub number_fits : (i : ℕ) (bs : List ℕ) → number_at i 2 bs < 256 ^ 2
number_fits i bs = mod-lt (from_big_endian (take 2 (drop i bs))) (omega arith)

-- the copy or the insert in some bytes
abbrev copy_in : List ℕ → Wire
copy_in bs = copy (number_at 1 2 bs) (number_at 3 2 bs)

abbrev insert_in : ℕ → List ℕ → Wire
insert_in w bs = insert (number_at 1 2 bs) (take (number_at 1 2 bs * w) (drop 3 bs))

-- what is read first is that copy or that insert
first_cases : (w p : ℕ) (bs : List ℕ) (x : Wire) → first w p bs ≡ Ok x → ((get_or bs 0 0 ≡ 1) × (5 ≤ length bs) × (x ≡ copy_in bs)) ⊎ ((get_or bs 0 0 ≡ 2) × (3 + number_at 1 2 bs * w ≤ length bs) × (x ≡ insert_in w bs))
first_cases w p bs x h = grind (arith, nat_tests)

length_units : (w n : ℕ) (bs : List ℕ) → 3 + n * w ≤ length bs → length (take (n * w) (drop 3 bs)) ≡ n * w
length_units w n bs h = length-take-le (n * w) (drop 3 bs) (rw length-drop (omega arith))

-- an instruction that is read fits
pub first_fits : (w p : ℕ) (bs : List ℕ) (x : Wire) → first w p bs ≡ Ok x → Fitting w x × (extent x ≤ length bs)
first_fits w p bs x h = ⊎_elim
    (λ f. subst (λ (y : Wire). Fitting w y × (extent y ≤ length bs)) (sym f.2) ((number_fits 1 bs, number_fits 3 bs), f.1))
    (λ f.
    let long = length_units w (number_at 1 2 bs) bs f.1 in
    subst (λ (y : Wire). Fitting w y × (extent y ≤ length bs)) (sym f.2) ((number_fits 1 bs, long), omega (arith, f.1)))
    (first_cases w p bs x h)

-- an instruction that is read is written again, before the bytes behind it
copy_again : (bs : List ℕ) → AllBelowBase 256 bs → get_or bs 0 0 ≡ 1 → 5 ≤ length bs → wire_bytes (copy_in bs) ++ drop 5 bs ≡ bs
copy_again bs u tag long =
    ap (λ (t : List ℕ). 1 ∷ (big_endian 2 (number_at 1 2 bs) ++ t)) (number_then 3 2 bs long u)
    ∙ ap (λ (t : List ℕ). 1 ∷ t) (number_then 1 2 bs (omega arith) u)
    ∙ byte_then 0 1 bs (omega arith) tag

insert_again : (w : ℕ) (bs : List ℕ) → AllBelowBase 256 bs → get_or bs 0 0 ≡ 2 → 3 + number_at 1 2 bs * w ≤ length bs → wire_bytes (insert_in w bs) ++ drop (extent (insert_in w bs)) bs ≡ bs
insert_again w bs u tag long =
    let n = number_at 1 2 bs in
    let part = take (n * w) (drop 3 bs) in
    ap (λ (m : ℕ). 2 ∷ (big_endian 2 n ++ (part ++ drop (3 + m) bs))) (length_units w n bs long)
    ∙ ap (λ (t : List ℕ). 2 ∷ (big_endian 2 n ++ t)) (part_then 3 (n * w) bs)
    ∙ ap (λ (t : List ℕ). 2 ∷ t) (number_then 1 2 bs (omega arith) u)
    ∙ byte_then 0 2 bs (omega arith) tag

pub first_again : (w p : ℕ) (bs : List ℕ) (x : Wire) → AllBelowBase 256 bs → first w p bs ≡ Ok x → (wire_bytes x ++ drop (extent x) bs ≡ bs) × Bytely x
first_again w p bs x u h = ⊎_elim
    (λ f. subst (λ (y : Wire). (wire_bytes y ++ drop (extent y) bs ≡ bs) × Bytely y) (sym f.2) (copy_again bs u f.0 f.1, tt))
    (λ f.
    let bytes = All-take (λ (b : ℕ). b < 256) (number_at 1 2 bs * w) (drop 3 bs) (All-drop (λ (b : ℕ). b < 256) 3 bs u) in
    subst (λ (y : Wire). (wire_bytes y ++ drop (extent y) bs ≡ bs) × Bytely y) (sym f.2) (insert_again w bs u f.0 f.1, bytes))
    (first_cases w p bs x h)

-- an instruction that fits is read again from its bytes, whatever stands behind them
copy_read : (w p a n : ℕ) (bs : List ℕ) → 5 ≤ length bs → get_or bs 0 0 ≡ 1 → number_at 1 2 bs ≡ a → number_at 3 2 bs ≡ n → first w p bs ≡ Ok (copy a n)
copy_read w p a n bs long tag from len = grind (arith, nat_tests)

insert_read : (w p n : ℕ) (us bs : List ℕ) → 3 + n * w ≤ length bs → get_or bs 0 0 ≡ 2 → number_at 1 2 bs ≡ n → take (n * w) (drop 3 bs) ≡ us → first w p bs ≡ Ok (insert n us)
insert_read w p n us bs long tag len units = grind (arith, nat_tests)

pub first_read : (w p : ℕ) (x : Wire) (rest : List ℕ) → Fitting w x → first w p (wire_bytes x ++ rest) ≡ Ok x
first_read w p (copy a n) rest f =
    copy_read w p a n (wire_bytes (copy a n) ++ rest) (omega arith) refl (number_at_big_endian 2 a f.0) (number_at_big_endian 2 n f.1)
first_read w p (insert n bs) rest f =
    let long = length-append bs rest in
    insert_read w p n bs (wire_bytes (insert n bs) ++ rest) (omega arith) refl (number_at_big_endian 2 n f.0) (take_at bs rest (n * w) f.1)

pub drop_wire : (x : Wire) (rest : List ℕ) → drop (extent x) (wire_bytes x ++ rest) ≡ rest
drop_wire x rest = drop_at (wire_bytes x) rest (extent x) (length_wire_bytes x)

-- Some instructions, one after another.

-- after the last there is nothing left, and before it the first is read, and then the others
none_left : (w p : ℕ) (bs : List ℕ) (xs : List Wire) → wires w 0 p bs ≡ Ok xs → (length bs ≡ 0) × (xs ≡ [])
none_left w p bs xs h = grind (arith, nat_tests)

one_more : (w n p : ℕ) (bs : List ℕ) (xs : List Wire) → wires w (suc n) p bs ≡ Ok xs → (x : Wire) × (ys : List Wire) × (first w p bs ≡ Ok x) × (wires w n (p + extent x) (drop (extent x) bs) ≡ Ok ys) × (x ∷ ys ≡ xs)
one_more w n p bs xs h =
    let one = then_ok (first w p bs) (λ x. then (wires w n (p + extent x) (drop (extent x) bs)) (λ ys. Ok (x ∷ ys))) xs h in
    let more = then_ok (wires w n (p + extent one.0) (drop (extent one.0) bs)) (λ ys. Ok (one.0 ∷ ys)) xs one.2 in
    (one.0, more.0, one.1, more.1, cc more.2)

-- instructions that are read are as many as were asked for, and each fits
pub wires_fit : (w n p : ℕ) (bs : List ℕ) (xs : List Wire) → wires w n p bs ≡ Ok xs → (length xs ≡ n) × AllByRecursion (Fitting w) xs
wires_fit w zero p bs xs h =
    subst (λ (ys : List Wire). (length ys ≡ 0) × AllByRecursion (Fitting w) ys) (sym (none_left w p bs xs h).1) (refl, tt)
wires_fit w (suc n) p bs xs h =
    let s = one_more w n p bs xs h in
    let more = wires_fit w n (p + extent s.0) (drop (extent s.0) bs) s.1 s.3 in
    subst (λ (ys : List Wire). (length ys ≡ suc n) × AllByRecursion (Fitting w) ys) s.4 (ap suc more.0, ((first_fits w p bs s.0 s.2).0, more.1))

-- instructions that are read are written again
pub wires_again : (w n p : ℕ) (bs : List ℕ) (xs : List Wire) → AllBelowBase 256 bs → wires w n p bs ≡ Ok xs → (flat_map wire_bytes xs ≡ bs) × AllByRecursion Bytely xs
wires_again w zero p bs xs u h =
    let none = none_left w p bs xs h in
    subst (λ (ys : List Wire). (flat_map wire_bytes ys ≡ bs) × AllByRecursion Bytely ys) (sym none.1) (sym (nil_from_length bs none.0), tt)
wires_again w (suc n) p bs xs u h =
    let s = one_more w n p bs xs h in
    let rest = drop (extent s.0) bs in
    let one = first_again w p bs s.0 u s.2 in
    let more = wires_again w n (p + extent s.0) rest s.1 (All-drop (λ (b : ℕ). b < 256) (extent s.0) bs u) s.3 in
    subst (λ (ys : List Wire). (flat_map wire_bytes ys ≡ bs) × AllByRecursion Bytely ys) s.4
    (ap (λ (t : List ℕ). wire_bytes s.0 ++ t) more.0 ∙ one.0, (one.1, more.1))

-- instructions that fit are read again from their bytes
pub wires_read : (w p : ℕ) (xs : List Wire) → AllByRecursion (Fitting w) xs → wires w (length xs) p (flat_map wire_bytes xs) ≡ Ok xs
wires_read w p [] f = refl
wires_read w p (x ∷ xs) f =
    let rest = flat_map wire_bytes xs in
    let bs = wire_bytes x ++ rest in
    let go : Wire → Result (List Wire) FrameFault = λ y. then (wires w (length xs) (p + extent y) (drop (extent y) bs)) (λ ys. Ok (y ∷ ys)) in
    ap (λ (r : Result Wire FrameFault). then r go) (first_read w p x rest f.0)
    ∙ ap (λ (t : List ℕ). then (wires w (length xs) (p + extent x) t) (λ ys. Ok (x ∷ ys))) (drop_wire x rest)
    ∙ ap (λ (r : Result (List Wire) FrameFault). then r (λ ys. Ok (x ∷ ys))) (wires_read w (p + extent x) xs f.1)
