use Rattle.std.specs.Prelude.{ℕ, ◌+◌, List, ◌∷◌, ◌++◌, length, take, drop}
use Rattle.std.specs.List.{flat_map}
use Rattle.units.specs.BigEndian.{big_endian}
use Rattle.units.specs.Code.{Code}
use Rattle.deltas.specs.declared.instruction.Instruction.{Instruction}
use Rattle.deltas.specs.declared.instruction.Op.{Op}
use Rattle.deltas.specs.declared.instruction.Op.TheVariants.{Copy, Insert}
use Rattle.deltas.specs.Check.{Parts, instructions_of, units_of}
use Rattle.frames.specs.Instructions.{Wire, copy, insert, wire_bytes}

-- How a delta is written as a frame, of units with code c.

-- n units at p as they stand in a frame, over the delta's own units
abbrev pub wire_given : {U : Type 0} {kind width : ℕ} → Code U kind width → List U → Op → ℕ → ℕ → Wire
wire_given c us Copy p n = copy p n
wire_given c us Insert p n = insert n (flat_map c.written (take n (drop p us)))

-- the same of an instruction
abbrev pub wire_of : {U : Type 0} {kind width : ℕ} → Code U kind width → List U → Instruction → Wire
wire_of c us i = wire_given c us i.op i.from i.length

-- the bytes of some instructions
abbrev pub instructions_bytes : {U : Type 0} {kind width : ℕ} → Code U kind width → List U → List Instruction → List ℕ
instructions_bytes c us is = flat_map (λ i. wire_bytes (wire_of c us i)) is

-- the first 12 bytes of a frame: version 1, body length, kind, source length, target length, instruction count
abbrev pub opening_bytes : ℕ → ℕ → ℕ → ℕ → ℕ → List ℕ
opening_bytes b k s t i = 1 ∷ (big_endian 4 b ++ k ∷ (big_endian 2 s ++ (big_endian 2 t ++ big_endian 2 i)))

-- a frame's bytes: the instructions' behind these. The body is all that follows the body length, so 7 bytes more
abbrev pub frame_bytes : ℕ → ℕ → ℕ → ℕ → List ℕ → List ℕ
frame_bytes k s t i body = opening_bytes (7 + length body) k s t i ++ body

-- the frame of a delta
abbrev pub encoded : {U : Type 0} {kind width : ℕ} → Code U kind width → Parts U → List ℕ
encoded {kind = kind} c d =
    frame_bytes kind d.head.source d.head.target d.head.instructions (instructions_bytes c (units_of d) (instructions_of d))
