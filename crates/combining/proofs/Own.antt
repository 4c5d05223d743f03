-- A lawful delta over its own entries alone: what its tables are, and that its instructions fit.
use Rattle.std.proofs.Common.{◌≡◌, ℕ, ◌≤◌, length, take, Ok, Err, Result, sym, ap, ◌∙◌, subst, arith}
use Rattle.std.specs.Result.{MatchResult}
use Rattle.std.specs.List.{AllByRecursion}
use Rattle.std.proofs.ByRecursion.{All-weaker}
use Rattle.std.proofs.lemmas.List.{take_all, take-take}
use Rattle.deltas.specs.declared.instruction.Op.{Op}
use Rattle.deltas.specs.declared.instruction.Op.TheVariants.{Copy, Insert}
use Rattle.deltas.specs.declared.lawful.LawfulDelta.{LawfulDelta}
use Rattle.deltas.specs.Check.{Parts, own, instructions_of, units_of}
use Rattle.deltas.specs.LawfulDeltas.{lawful_parts}
use Rattle.deltas.specs.Origins.{origins, origins_of}
use Rattle.deltas.specs.Places.{total, Inside, Fits}
use Rattle.combining.specs.Combine.{through, combined_origins}
use Rattle.deltas.proofs.Sound.{passed, lawful_fits}

-- what lies in a source lies in a longer one
inside_more : (s t m : ℕ) (o : Op) (p n : ℕ) → s ≤ t → Inside s m o p n → Inside t m o p n
inside_more s t m Copy p n l h = omega arith
inside_more s t m Insert p n l h = h

module _ {U : Type 0} (d : LawfulDelta U) where
  -- the entries of its tables are its own
  pub own_instructions : instructions_of (lawful_parts d) ≡ d.instructions.now
  own_instructions = take_all d.head.instructions d.instructions.now (omega (arith, d.count))

  pub own_units : units_of (lawful_parts d) ≡ d.units.now
  own_units = take_all d.head.inserted d.units.now (omega (arith, d.inserted))

  -- so are its origins theirs
  pub own_origins : origins_of (lawful_parts d) ≡ origins d.units.now d.instructions.now
  own_origins = ap (λ us. origins us (instructions_of (lawful_parts d))) own_units ∙ ap (origins d.units.now) own_instructions

  -- the places that it gives
  pub own_total : total d.instructions.now ≡ d.head.target
  own_total = ap total (sym own_instructions) ∙ (passed (lawful_parts d) d.lawful).target

  -- and it inserts no more than numbers of 16 bits say
  pub own_few : length d.units.now ≤ 65535
  own_few = omega (arith, d.inserted, (passed (lawful_parts d) d.lawful).small)

  -- its instructions fit a source of as many units, or more, and its own units
  pub own_fits : (s : ℕ) → d.head.source ≤ s → AllByRecursion (Fits s (length d.units.now)) d.instructions.now
  own_fits s h =
      subst (λ is. AllByRecursion (Fits s (length d.units.now)) is) own_instructions
      (subst (λ m. AllByRecursion (Fits s m) (instructions_of (lawful_parts d))) (sym d.inserted)
      (All-weaker (Fits d.head.source d.head.inserted) (Fits s d.head.inserted) (λ i f. (f.0, inside_more d.head.source s d.head.inserted i.op i.from i.length h f.1)) (instructions_of (lawful_parts d)) (lawful_fits (lawful_parts d) d.lawful)))

-- it means what the delta means whose own entries it has
pub own_means : {U : Type 0} (d : LawfulDelta U) (p : Parts U) → lawful_parts d ≡ own p → origins_of (lawful_parts d) ≡ origins_of p
own_means d p e =
    ap origins_of e
    ∙ ap (λ us. origins us (take p.head.instructions (instructions_of p))) (take-take p.head.inserted p.head.inserted p.units (omega arith))
    ∙ ap (origins (units_of p)) (take-take p.head.instructions p.head.instructions p.table (omega arith))

-- and so do two of them, combined
pub own_pair_means : {U : Type 0} (d e : LawfulDelta U) (p q : Parts U) → lawful_parts d ≡ own p → lawful_parts e ≡ own q → combined_origins (lawful_parts d) (lawful_parts e) ≡ combined_origins p q
own_pair_means d e p q a b =
    ap (λ os. through os (origins_of (lawful_parts e))) (own_means d p a) ∙ ap (through (origins_of p)) (own_means e q b)

-- what holds of a call's value holds of the value that `map_err` hands on
pub at_kept : {T E F : Type 0} (r : Result T E) (k : Result T F) (x : T) (P : T → Type 0) (Q : E → Type 0) → k ≡ Ok x → MatchResult r P Q → MatchResult r (λ v. k ≡ Ok v) (λ _. ⊥) → P x
at_kept (Ok v) k x P Q i p e = let same : v ≡ x = cc (sym e ∙ i) in subst P same p
at_kept (Err f) k x P Q i p e = absurd e
