-- Numbers as bytes, the byte of the highest weight first.
use Rattle.std.specs.Prelude.{ℕ, zero, suc, ◌/◌, ◌%◌, ◌^◌, List, [], ◌∷◌, take, drop}
use Rattle.std.specs.Int.Digits.{number_from_digits}

-- the k low bytes of n
abbrev pub big_endian : ℕ → ℕ → List ℕ
big_endian zero n = []
big_endian (suc k) n = (n / 256 ^ k % 256) ∷ big_endian k n

-- the number that bytes stand for
abbrev pub from_big_endian : List ℕ → ℕ
from_big_endian bs = number_from_digits 256 bs

-- the number in the k bytes from index i on. The remainder changes nothing of bytes: it bounds what any list of numbers gives
abbrev pub number_at : ℕ → ℕ → List ℕ → ℕ
number_at i k bs = from_big_endian (take k (drop i bs)) % 256 ^ k
