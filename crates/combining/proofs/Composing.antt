use Rattle.std.proofs.Common.{◌≡◌, ℕ, zero, suc, ◌<◌, List, [], ◌∷◌, length, get_or, sym, refl, ap, ◌∙◌, arith}
use Rattle.std.proofs.lemmas.List.{get_or-map}
use Rattle.deltas.specs.Origins.{Origin, copied, inserted, Within, unit_from, applied}
use Rattle.combining.specs.Combine.{origin_through, through}
use Rattle.deltas.proofs.Sound.{within_append}

-- Origins taken together with earlier ones, more than once.

-- twice, in either order
pub through_through : {U : Type 0} (es os ps : List (Origin U)) → Within (length os) ps → through (through es os) ps ≡ through es (through os ps)
through_through es os [] w = refl
through_through es os (copied p ∷ ps) w =
    ap (λ o. o ∷ through (through es os) ps) (get_or-map (origin_through es) os p (copied p) (copied p) w.0) ∙
    ap (λ qs. origin_through es (get_or os p (copied p)) ∷ qs) (through_through es os ps w.1)
through_through es os (inserted u ∷ ps) w = ap (λ qs. inserted u ∷ qs) (through_through es os ps w)

pub applied_through : {U : Type 0} (d : U) (xs : List U) (es os : List (Origin U)) → Within (length es) os → applied d xs (through es os) ≡ applied d (applied d xs es) os
applied_through d xs es [] w = refl
applied_through d xs es (copied p ∷ os) w =
    ap (λ u. u ∷ applied d xs (through es os)) (sym (get_or-map (unit_from d xs) es p (copied p) d w.0)) ∙
    ap (λ us. get_or (applied d xs es) p d ∷ us) (applied_through d xs es os w.1)
applied_through d xs es (inserted u ∷ os) w = ap (λ us. u ∷ us) (applied_through d xs es os w)

-- what comes out copies only places of the earlier source
within_get_or : {U : Type 0} (s : ℕ) (es : List (Origin U)) (p : ℕ) (o : Origin U) → p < length es → Within s es → Within s (get_or es p o ∷ [])
within_get_or s [] p o h w = absurd (omega arith)
within_get_or s (copied q ∷ es) zero o h w = (w.0, tt)
within_get_or s (inserted u ∷ es) zero o h w = tt
within_get_or s (copied q ∷ es) (suc p) o h w = within_get_or s es p o (omega arith) w.1
within_get_or s (inserted u ∷ es) (suc p) o h w = within_get_or s es p o (omega arith) w

pub within_through : {U : Type 0} (s : ℕ) (es os : List (Origin U)) → Within s es → Within (length es) os → Within s (through es os)
within_through s es [] v w = tt
within_through s es (copied p ∷ os) v w =
    within_append s (get_or es p (copied p) ∷ []) (through es os) (within_get_or s es p (copied p) w.0 v) (within_through s es os v w.1)
within_through s es (inserted u ∷ os) v w = within_through s es os v w
