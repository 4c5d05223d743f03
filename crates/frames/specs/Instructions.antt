use Rattle.std.specs.Prelude.{◌≡◌, ℕ, ◌+◌, ◌*◌, ◌^◌, ◌<◌, List, ◌∷◌, ◌++◌, length}
use Rattle.units.specs.BigEndian.{big_endian}
use Rattle.frames.specs.declared.wire.WireInstruction.{WireInstruction}
use Rattle.frames.specs.declared.wire.WireInstruction.TheVariants.{Copy, Insert}

-- an instruction as it stands in a frame: a copy by its from and length, an insert by its length and its units' bytes
pub data Wire : Type 0 where
  copy : ℕ → ℕ → Wire
  insert : ℕ → List ℕ → Wire

-- the instruction that a program holds, whose bytes are a part of the frame
abbrev pub shown : WireInstruction → Wire
shown (Copy p n) = copy p n
shown (Insert n bs) = insert n bs.now

-- how many bytes it takes
abbrev pub extent : Wire → ℕ
extent (copy p n) = 5
extent (insert n bs) = 3 + length bs

-- its bytes: a tag, 1 or 2, then from and length, or length and the units' bytes
abbrev pub wire_bytes : Wire → List ℕ
wire_bytes (copy p n) = 1 ∷ (big_endian 2 p ++ big_endian 2 n)
wire_bytes (insert n bs) = 2 ∷ (big_endian 2 n ++ bs)

-- how many units it inserts
abbrev pub inserts_of : Wire → ℕ
inserts_of (copy p n) = 0
inserts_of (insert n bs) = n

-- an instruction whose numbers are of two bytes, with the bytes of as many units as it inserts, each of w bytes
abbrev pub Fitting : ℕ → Wire → Type 0
Fitting w (copy p n) = (p < 256 ^ 2) × (n < 256 ^ 2)
Fitting w (insert n bs) = (n < 256 ^ 2) × (length bs ≡ n * w)
