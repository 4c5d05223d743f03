use Rattle.std.specs.Prelude.{◌≡◌, List, map, slice_index_or}
use Rattle.deltas.specs.Check.{Parts}
use Rattle.deltas.specs.Origins.{Origin, copied, inserted, origins_of}
use Rattle.combining.specs.Normal.{normal}

-- the earlier target is the later source
abbrev pub Meet : {U : Type 0} → Parts U → Parts U → Type 0
Meet a b = a.head.target ≡ b.head.source

-- a later place by the earlier origins: an inserted unit stays, and a place that is copied from p has the earlier
-- origin at p (past the end, which no two lawful deltas that meet come to, it stays as it is)
abbrev pub origin_through : {U : Type 0} → List (Origin U) → Origin U → Origin U
origin_through es (copied p) = slice_index_or es p (copied p)
origin_through es (inserted u) = inserted u

-- every later place by the earlier origins
abbrev pub through : {U : Type 0} → List (Origin U) → List (Origin U) → List (Origin U)
through es os = map (origin_through es) os

-- the origins of an earlier and a later delta taken together
abbrev pub combined_origins : {U : Type 0} → Parts U → Parts U → List (Origin U)
combined_origins a b = through (origins_of a) (origins_of b)

-- the normal delta over the earlier source with these origins
abbrev pub combined : {U : Type 0} → Parts U → Parts U → Parts U
combined a b = normal a.head.source (combined_origins a b)
