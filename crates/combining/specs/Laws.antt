use Rattle.std.specs.Prelude.{◌≡◌, ℕ, ◌≤◌, List, length}
use Rattle.deltas.specs.Check.{Parts, Lawful, instructions_of, units_of}
use Rattle.deltas.specs.Origins.{Origin, origins_of, Within, applied}
use Rattle.combining.specs.Normal.{Normal, normal}
use Rattle.combining.specs.Combine.{Meet, combined, combined_origins}
use Rattle.combining.specs.Replace.{replace_origins}

-- What holds of deltas and of combining them, for every kind of unit.

-- two deltas are the same: their heads, their instructions and their units
pub record Same {U : Type 0} (a b : Parts U) : Type 0 where
  pub head : a.head ≡ b.head
  pub instructions : instructions_of a ≡ instructions_of b
  pub units : units_of a ≡ units_of b

-- a lawful delta gives as many places as its target has, and copies only places of its source; so a later delta that
-- meets it copies only places that it gives, and no default is ever met
pub record StaysInside (U : Type 0) : Type 0 where
  pub target : (a : Parts U) → Lawful a → length (origins_of a) ≡ a.head.target
  pub source : (a : Parts U) → Lawful a → Within a.head.source (origins_of a)
  pub pair : (a b : Parts U) → Lawful a → Lawful b → Meet a b → Within (length (origins_of a)) (origins_of b)

-- the normal delta with given origins is lawful, made of longest runs, and has these origins; and it is the only one
pub record OneNormalForm (U : Type 0) : Type 0 where
  pub is_normal : (s : ℕ) (os : List (Origin U)) → length os ≤ 65535 → Within s os → Normal (normal s os)
  pub has_origins : (s : ℕ) (os : List (Origin U)) → origins_of (normal s os) ≡ os
  pub only : (a b : Parts U) → Normal a → Normal b → a.head.source ≡ b.head.source → origins_of a ≡ origins_of b → Same a b

-- no lawful delta with the same origins, whatever its source length, has fewer instructions than a normal one
abbrev pub Fewest : Type 0 → Type 0
Fewest U = (a b : Parts U) → Normal a → Lawful b → origins_of a ≡ origins_of b → a.head.instructions ≤ b.head.instructions

-- what is combined is a normal delta over the earlier source, with the origins of both taken together; it has no more
-- instructions and units than its target, whose length is a number of 16 bits, as in every head
pub record CombinedIsNormal (U : Type 0) : Type 0 where
  pub is_normal : (a b : Parts U) → Lawful a → Lawful b → Meet a b → b.head.target ≤ 65535 → Normal (combined a b)
  pub has_origins : (a b : Parts U) → origins_of (combined a b) ≡ combined_origins a b

-- combining is associative
abbrev pub Associative : Type 0 → Type 0
Associative U =
    (a b c : Parts U) → Lawful a → Lawful b → Lawful c → Meet a b → Meet b c →
    combined (combined a b) c ≡ combined a (combined b c)

-- applying the combined delta to a list is applying one delta after the other (d stands past a list's end, which no
-- lawful delta over a list of its source length meets)
abbrev pub Applies : Type 0 → Type 0
Applies U =
    (d : U) (xs : List U) (a b : Parts U) → Lawful a → Lawful b → Meet a b →
    applied d xs (origins_of (combined a b)) ≡ applied d (applied d xs (origins_of a)) (origins_of b)

-- replace gives the same origins, so combining is replace joined into longest runs
abbrev pub CombiningIsReplace : Type 0 → Type 0
CombiningIsReplace U =
    (a b : Parts U) → Lawful a → Lawful b → Meet a b →
    (replace_origins a b ≡ combined_origins a b) × (combined a b ≡ normal a.head.source (replace_origins a b))
