use Rattle.std.proofs.Common.{◌≡◌, ℕ, ◌+◌, ◌-◌, ◌<◌, ◌≤◌, leb, List, [], ◌∷◌, ◌++◌, length, take, drop, sym, refl, ap, ◌∙◌, subst, append-nil, arith, length-drop, take_all}
use lib.Seq.{take-nil, drop-nil, take-append-le, take-append-add, drop-append-le, drop-append-add}
use Rattle.std.specs.List.{AllByRecursion}
use Rattle.std.proofs.lemmas.Grind.{flat_map-append}
use Rattle.std.proofs.lemmas.List.{map-append}
use Rattle.std.proofs.lemmas.Bool.{cond_both, leb-true, leb-false}
use Rattle.deltas.specs.declared.instruction.Instruction.{Instruction}
use Rattle.deltas.specs.declared.instruction.Op.{Op}
use Rattle.deltas.specs.declared.instruction.Op.TheVariants.{Copy, Insert}
use Rattle.deltas.specs.declared.fault.Side.TheVariants.{Earlier}
use Rattle.deltas.specs.Instructions.{instruction}
use Rattle.deltas.specs.Check.{instructions_of, units_of}
use Rattle.deltas.specs.Origins.{given, piece, origins, origins_of}
use Rattle.combining.specs.Normal.{normal}
use Rattle.combining.specs.Combine.{origin_through, through, combined_origins}
use Rattle.combining.specs.Joining.{cut}
use Rattle.combining.specs.Replace.{taken, covering, replaced_one, replaced, units_by, taken_origins, replace_origins}
use Rattle.deltas.specs.Places.{Inside, Fits}
use Rattle.combining.specs.Laws.{CombiningIsReplace}
use Rattle.deltas.proofs.Sound.{lawful_fits, length_piece}
use Rattle.combining.proofs.Pieces.{given_cut}
use Rattle.combining.proofs.Through.{through_inserted, through_copies}
use Rattle.combining.proofs.Theorems.{length_units, length_target}

-- Replace gives the origins that taking two deltas together does.

-- n places of a list from p on, where they lie past a front of l places, all inside it, or partly
module _ {X : Type 0} (front rest : List X) (l p n : ℕ) (e : length front ≡ l) where
  places_past : l ≤ p → take n (drop (p - l) rest) ≡ take n (drop p (front ++ rest))
  places_past h =
      let f : length front + (p - l) ≡ p = omega arith in
      ap (take n) (sym (drop-append-add front rest (p - l)) ∙ ap (λ q. drop q (front ++ rest)) f)

  places_inside : p + n ≤ l → take n (drop p front) ≡ take n (drop p (front ++ rest))
  places_inside h =
      let f : n ≤ length (drop p front) = rw length-drop (omega arith) in
      sym (ap (take n) (drop-append-le p front rest (omega arith)) ∙ take-append-le n (drop p front) rest f)

  places_across : p < l → l - p < n → take (l - p) (drop p front) ++ take (n - (l - p)) rest ≡ take n (drop p (front ++ rest))
  places_across h j =
      let f : length (drop p front) ≡ l - p = rw length-drop (omega arith) in
      let g : length (drop p front) + (n - (l - p)) ≡ n = omega arith in
      ap (λ xs. xs ++ take (n - (l - p)) rest) (take_all (l - p) (drop p front) (omega arith)) ∙
      sym (take-append-add (drop p front) rest (n - (l - p))) ∙
      ap (λ m. take m (drop p front ++ rest)) g ∙
      sym (ap (take n) (drop-append-le p front rest (omega arith)))

-- clones of the earlier instructions give the places that they cover
covering_origins : {U : Type 0} (s m : ℕ) (us vs : List U) (es : List Instruction) (p n : ℕ) → AllByRecursion (Fits s m) es → m ≤ length us → taken_origins us vs (covering es p n) ≡ take n (drop p (origins us es))
covering_origins s m us vs [] p n f l = sym (ap (take n) (drop-nil p) ∙ take-nil n)
covering_origins s m us vs (i ∷ es) p n f l =
    let e = length_piece us i s m f.0 l in
    let os = origins us es in
    let all = take n (drop p (piece us i ++ os)) in
    cond_both (leb i.length p) (covering es (p - i.length) n) _ (λ ts. taken_origins us vs ts ≡ all)
    (λ t. covering_origins s m us vs es (p - i.length) n f.1 l ∙ places_past (piece us i) os i.length p n e (leb-true i.length p t))
    (λ t. let h = leb-false i.length p t in
    cond_both (leb n (i.length - p)) (taken Earlier (cut i p n) ∷ []) (taken Earlier (cut i p (i.length - p)) ∷ covering es 0 (n - (i.length - p))) (λ ts. taken_origins us vs ts ≡ all)
    (λ u. let j = leb-true n (i.length - p) u in
    append-nil (piece us (cut i p n)) ∙
    sym (given_cut us i.op i.from i.length p n (omega arith)) ∙
    places_inside (piece us i) os i.length p n e (omega arith))
    (λ u. let j = leb-false n (i.length - p) u in
    ap (λ ps. piece us (cut i p (i.length - p)) ++ ps) (covering_origins s m us vs es 0 (n - (i.length - p)) f.1 l) ∙
    ap (λ ps. ps ++ take (n - (i.length - p)) os) (sym (given_cut us i.op i.from i.length p (i.length - p) (omega arith))) ∙
    places_across (piece us i) os i.length p n e h j))

module _ {U : Type 0} (s m : ℕ) (us vs : List U) (es : List Instruction) (f : AllByRecursion (Fits s m) es) (l : m ≤ length us) where
  -- one later instruction, and all of them
  replaced_one_origins : (k : ℕ) (o : Op) (p n : ℕ) → Inside (length (origins us es)) k o p n → taken_origins us vs (replaced_one es o (instruction o p n)) ≡ through (origins us es) (given vs o p n)
  replaced_one_origins k Copy p n h = covering_origins s m us vs es p n f l ∙ sym (through_copies (origins us es) p n h)
  replaced_one_origins k Insert p n h = append-nil (given vs Insert p n) ∙ sym (through_inserted (origins us es) (take n (drop p vs)))

  replaced_origins : (k : ℕ) (is : List Instruction) → AllByRecursion (Fits (length (origins us es)) k) is → taken_origins us vs (replaced es is) ≡ through (origins us es) (origins vs is)
  replaced_origins k [] h = refl
  replaced_origins k (i ∷ is) h =
      flat_map-append (λ t. piece (units_by us vs t.side) t.step) (replaced_one es i.op i) (replaced es is) ∙
      ap (λ os. os ++ taken_origins us vs (replaced es is)) (replaced_one_origins k i.op i.from i.length h.0.1) ∙
      ap (λ os. through (origins us es) (piece vs i) ++ os) (replaced_origins k is h.1) ∙
      sym (map-append (origin_through (origins us es)) (piece vs i) (origins vs is))

pub combining_is_replace : (U : Type 0) → CombiningIsReplace U
combining_is_replace U a b la lb meet =
    let e : b.head.source ≡ length (origins_of a) = sym meet ∙ sym (length_target a la) in
    let h : AllByRecursion (Fits (length (origins_of a)) b.head.inserted) (instructions_of b) = subst (λ n. AllByRecursion (Fits n b.head.inserted) (instructions_of b)) e (lawful_fits b lb) in
    let u = length_units a la in
    let same : replace_origins a b ≡ combined_origins a b =
    replaced_origins a.head.source a.head.inserted (units_of a) (units_of b) (instructions_of a) (lawful_fits a la) (omega arith) b.head.inserted (instructions_of b) h in
    (same, ap (normal a.head.source) (sym same))
