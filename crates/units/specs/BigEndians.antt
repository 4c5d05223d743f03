-- Big-endian bytes, over the width: what is written is read back, and what is read is written back.
use Rattle.std.specs.Prelude.{◌≡◌, ℕ, zero, suc, ◌+◌, ◌*◌, ◌/◌, ◌%◌, ◌^◌, ◌<◌, ◌≤◌, List, [], ◌∷◌, length, take, drop, refl}
use Rattle.std.proofs.Common.{sym, ap, subst, ◌∙◌, le_of_eq, mod-eq_of_lt, mul-one, add-zero, add-mul, mul_assoc, zero-mul, arith, lit<}
use Rattle.std.proofs.Math.Nat.{pow-succ', mod-one}
use Rattle.std.proofs.Math.Arith.{digits_div, digits_mod, mod-mul}
use Rattle.std.specs.Int.{from_be_bytes, w32, w64}
use Rattle.std.specs.Int.Digits.{number_from_digits_after, AllBelowBase}
use Rattle.std.proofs.lemmas.Int.Digits.{number_lt}
use Rattle.std.proofs.ByRecursion.{All-drop, All-take}
use Rattle.std.proofs.lemmas.List.{length-drop, length-take-le, take_all}
use Rattle.units.specs.BigEndian.{big_endian, from_big_endian, number_at}
use Rattle.units.specs.Runs.{reads, part_reads}

-- as many bytes as are asked for
length_big_endian : (k n : ℕ) → length (big_endian k n) ≡ k
length_big_endian zero n = refl
length_big_endian (suc k) n = ap suc (length_big_endian k n)

-- a byte's weight is not 0
pow_pos : (k : ℕ) → 0 < 256 ^ k
pow_pos zero = lit< tt
pow_pos (suc k) = let h = pow_pos k in rw pow-succ' (omega arith)

-- what digits before the k low bytes of n make of the whole
after_big_endian : (k m n : ℕ) → number_from_digits_after 256 m (big_endian k n) ≡ m * 256 ^ k + n % 256 ^ k
after_big_endian zero m n = sym (ap (λ (r : ℕ). m * 1 + r) (mod-one n) ∙ add-zero (m * 1) ∙ mul-one m)
after_big_endian (suc k) m n =
    let p = 256 ^ k in
    let d = n / p % 256 in
    let low = after_big_endian k (m * 256 + d) n in
    let spread = add-mul (m * 256) d p in
    let up = mul_assoc m 256 p in
    let digits = mod-mul n {m = 256} {c = p} (lit< tt) (pow_pos k) in
    rw (pow-succ' 256 k) (omega arith)

-- a number of k bytes is read back from them
from_big_endian_of : (k n : ℕ) → n < 256 ^ k → from_big_endian (big_endian k n) ≡ n
from_big_endian_of k n h =
    let all = after_big_endian k 0 n in
    let same = mod-eq_of_lt h in
    omega (arith, zero-mul (256 ^ k))

pub number_at_big_endian : (k n : ℕ) → n < 256 ^ k → number_at 0 k (big_endian k n) ≡ n
number_at_big_endian k n h =
    ap (λ (bs : List ℕ). from_big_endian bs % 256 ^ k) (take_all k (big_endian k n) (le_of_eq (length_big_endian k n)))
    ∙ ap (λ (m : ℕ). m % 256 ^ k) (from_big_endian_of k n h)
    ∙ mod-eq_of_lt h

-- digits before bytes are a multiple of the weight that the bytes leave
number_after : (m : ℕ) (bs : List ℕ) → number_from_digits_after 256 m bs ≡ m * 256 ^ length bs + from_big_endian bs
number_after m [] = let one = mul-one m in omega arith
number_after m (b ∷ bs) =
    let p = 256 ^ length bs in
    let left = number_after (m * 256 + b) bs in
    let right = number_after (0 * 256 + b) bs in
    let spread = add-mul (m * 256) b p in
    let up = mul_assoc m 256 p in
    rw (pow-succ' 256 (length bs)) (omega arith)

-- bytes are the low bytes of the number that they end
big_endian_after : (m : ℕ) (bs : List ℕ) → AllBelowBase 256 bs → big_endian (length bs) (number_from_digits_after 256 m bs) ≡ bs
big_endian_after m [] u = refl
big_endian_after m (b ∷ bs) u =
    let p = 256 ^ length bs in
    let whole = number_after (m * 256 + b) bs in
    let high = ap (λ (n : ℕ). n / p) whole ∙ digits_div (m * 256 + b) (number_lt 256 bs u.1) in
    let byte = ap (λ (n : ℕ). n % 256) high ∙ digits_mod m u.0 in
    let rest = big_endian_after (m * 256 + b) bs u.1 in
    cc

-- k bytes stand for a number below 256 ^ k
from_big_endian_lt : (k : ℕ) (bs : List ℕ) → length bs ≡ k → AllBelowBase 256 bs → from_big_endian bs < 256 ^ k
from_big_endian_lt k bs long u = subst (λ (n : ℕ). from_big_endian bs < 256 ^ n) long (number_lt 256 bs u)

-- a part of a run has its length, and is bytes if the run is
length_part : (i k : ℕ) (bs : List ℕ) → i + k ≤ length bs → length (take k (drop i bs)) ≡ k
length_part i k bs h = length-take-le k (drop i bs) (rw length-drop (omega arith))

under_part : (i k : ℕ) (bs : List ℕ) → AllBelowBase 256 bs → AllBelowBase 256 (take k (drop i bs))
under_part i k bs u = All-take (λ (b : ℕ). b < 256) k (drop i bs) (All-drop (λ (b : ℕ). b < 256) i bs u)

-- the number in bytes is what they stand for
pub number_at_is : (i k : ℕ) (bs : List ℕ) → i + k ≤ length bs → AllBelowBase 256 bs → number_at i k bs ≡ from_big_endian (take k (drop i bs))
number_at_is i k bs h u = mod-eq_of_lt (from_big_endian_lt k (take k (drop i bs)) (length_part i k bs h) (under_part i k bs u))

-- bytes are written back from the number in them
pub big_endian_at : (i k : ℕ) (bs : List ℕ) → i + k ≤ length bs → AllBelowBase 256 bs → big_endian k (number_at i k bs) ≡ take k (drop i bs)
big_endian_at i k bs h u =
    let part = take k (drop i bs) in
    ap (big_endian k) (number_at_is i k bs h u)
    ∙ subst (λ (n : ℕ). big_endian n (from_big_endian part) ≡ part) (length_part i k bs h) (big_endian_after 0 part (under_part i k bs u))

-- the number in bytes, where a program reads them one by one
pub number_at_reads : (i k : ℕ) (bs : List ℕ) → i + k ≤ length bs → AllBelowBase 256 bs → number_at i k bs ≡ from_big_endian (reads k i bs)
number_at_reads i k bs h u = number_at_is i k bs h u ∙ ap from_big_endian (part_reads k i bs h)

-- the number that the language reads from four bytes, and from eight: one for each, since that computes at one width alone
pub four_bytes : (bs : List ℕ) → length bs ≡ 4 → from_be_bytes w32 bs ≡ from_big_endian bs
four_bytes bs long =
    let all = take_all 4 bs (le_of_eq long) in
    let read = part_reads 4 0 bs (le_of_eq (sym long)) in
    let number : from_be_bytes w32 bs ≡ from_big_endian (reads 4 0 bs) = omega arith in
    number ∙ ap from_big_endian (sym read ∙ all)

pub eight_bytes : (bs : List ℕ) → length bs ≡ 8 → from_be_bytes w64 bs ≡ from_big_endian bs
eight_bytes bs long =
    let all = take_all 8 bs (le_of_eq long) in
    let read = part_reads 8 0 bs (le_of_eq (sym long)) in
    let number : from_be_bytes w64 bs ≡ from_big_endian (reads 8 0 bs) = omega arith in
    number ∙ ap from_big_endian (sym read ∙ all)
