-- Numbers and bytes that stand one after another.
use Rattle.std.proofs.Common.{◌≡◌, ℕ, suc, ◌+◌, ◌<◌, ◌≤◌, List, ◌∷◌, ◌++◌, length, get_or, take, drop, sym, ap, ◌∙◌, drop-cons}
use Rattle.std.specs.Int.Digits.{AllBelowBase}
use Rattle.std.proofs.lemmas.List.{take-append-drop, drop-drop}
use Rattle.units.specs.BigEndian.{big_endian, number_at}
use Rattle.units.specs.BigEndians.{big_endian_at}

-- a part of a list, and what stands behind it
pub part_then : {A : Type 0} (i k : ℕ) (f : List A) → take k (drop i f) ++ drop (i + k) f ≡ drop i f
part_then i k f = ap (λ (t : List _). take k (drop i f) ++ t) (sym (drop-drop k i f)) ∙ take-append-drop k (drop i f)

-- a byte, and what stands behind it
pub byte_then : (i b : ℕ) (f : List ℕ) → i < length f → get_or f i 0 ≡ b → b ∷ drop (suc i) f ≡ drop i f
byte_then i b f h e = ap (λ (x : ℕ). x ∷ drop (suc i) f) (sym e) ∙ sym (drop-cons f i 0 h)

-- a number in k bytes, written again, and what stands behind it
pub number_then : (i k : ℕ) (f : List ℕ) → i + k ≤ length f → AllBelowBase 256 f → big_endian k (number_at i k f) ++ drop (i + k) f ≡ drop i f
number_then i k f h u = ap (λ (t : List ℕ). t ++ drop (i + k) f) (big_endian_at i k f h u) ∙ part_then i k f
