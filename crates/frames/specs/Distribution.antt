use Rattle.std.specs.Prelude.{◌≡◌, ℕ, List, [], ◌∷◌, ◌++◌, Ok}
use Rattle.units.specs.Code.{Code}
use Rattle.units.specs.contracts.byte.U8WireUnit.TheImpl.{ghosts}
use Rattle.deltas.specs.declared.instruction.Instruction.{Instruction}
use Rattle.deltas.specs.declared.instruction.Op.TheVariants.{Insert}
use Rattle.deltas.specs.Instructions.{instruction}
use Rattle.deltas.specs.Check.{head, Parts, parts, instructions_of, units_of}
use Rattle.deltas.specs.Origins.{origins_of, applied}
use Rattle.combining.specs.Normal.{Normal}
use Rattle.frames.specs.Reading.{parsed_frame}
use Rattle.frames.specs.Writing.{encoded}
use Rattle.frames.specs.Meaning.{LengthsFit}

-- What is sent is what is received.

-- two deltas that are the same but for entries past their counts: both are normal, and applied to any list they give the
-- same list (x is the unit that stands in for a place past a list's end)
pub record Same {U : Type 0} (d e : Parts U) : Type 0 where
  pub head : e.head ≡ d.head
  pub instructions : instructions_of e ≡ instructions_of d
  pub units : units_of e ≡ units_of d
  pub is_normal : Normal e
  pub applies : (x : U) (source : List U) → applied x source (origins_of e) ≡ applied x source (origins_of d)

-- what a sender writes from a normal delta, a receiver reads as that delta, whatever stands behind it in the tables
pub record Arrives {U : Type 0} {kind width : ℕ} (c : Code U kind width) (d : Parts U) : Type 0 where
  pub read : Parts U
  pub is_read : parsed_frame c (encoded c d) ≡ Ok read
  pub same : (rest : List Instruction) (others : List U) → Same d (parts read.head (read.table ++ rest) (read.units ++ others))

-- every normal delta arrives
abbrev pub Distribution : {U : Type 0} {kind width : ℕ} → Code U kind width → Type 0
Distribution {U} c = (d : Parts U) → Normal d → LengthsFit d → Arrives c d

-- A frame worked by hand: "abcde" inserted over an empty source.

-- its bytes: version, body length, kind, source length, target length, instruction count, tag, length, units
abbrev pub abcde : List ℕ
abcde = 1 ∷ 0 ∷ 0 ∷ 0 ∷ 15 ∷ 1 ∷ 0 ∷ 0 ∷ 0 ∷ 5 ∷ 0 ∷ 1 ∷ 2 ∷ 0 ∷ 5 ∷ 97 ∷ 98 ∷ 99 ∷ 100 ∷ 101 ∷ []

-- the delta
abbrev pub inserts_abcde : Parts ℕ
inserts_abcde = parts (head 0 5 1 5) (instruction Insert 0 5 ∷ []) (97 ∷ 98 ∷ 99 ∷ 100 ∷ 101 ∷ [])

-- each is made from the other
abbrev pub Worked : Type 0
Worked = (parsed_frame ghosts.code abcde ≡ Ok inserts_abcde) × (encoded ghosts.code inserts_abcde ≡ abcde)
