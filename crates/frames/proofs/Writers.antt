-- Bytes that a writer writes one after another.
use Rattle.std.proofs.Common.{◌≡◌, ℕ, ◌+◌, ◌<◌, ◌≤◌, List, [], ◌∷◌, ◌++◌, length, get_or, take, drop, sym, ap, ◌∙◌, subst, arith}
use Rattle.std.specs.List.{flat_map}
use Rattle.std.proofs.lemmas.Grind.{flat_map-append}
use Rattle.std.proofs.lemmas.List.{length-append, append-nil, take_more, take-append-drop}
use Rattle.std.proofs.lemmas.List.Edits.{sets}
use Rattle.std.proofs.Math.Seq.{length-sets}
use Rattle.frames.specs.declared.writer.Writer.{Writer}
use Rattle.frames.specs.Steps.{HasRoom, Wrote}
use Rattle.frames.proofs.Filling.{sets_then}

-- two runs of bytes, one after the other
pub wrote_then : (a b c : Writer) (xs ys : List ℕ) → Wrote a xs b → Wrote b ys c → Wrote a (xs ++ ys) c
wrote_then a b c xs ys e f = record {
  same = f.same ∙ e.same;
  out = f.out ∙ ap (λ o. sets o b.at ys) e.out ∙ ap (λ i. sets (sets a.out.now a.at xs) i ys) e.at ∙ sets_then xs ys a.out.now a.at;
  at = rw length-append (omega (arith, e.at, f.at));
}

-- One after another of some things, of which the first i are written.

module _ {X : Type 0} (f : X → List ℕ) (xs : List X) (i : ℕ) (x d : X) (l : i < length xs) (e : x ≡ get_or xs i d) where
  -- one thing more is its bytes more
  more : flat_map f (take (i + 1) xs) ≡ flat_map f (take i xs) ++ f x
  more =
      ap (flat_map f) (take_more xs i d l)
      ∙ flat_map-append f (take i xs) (get_or xs i d ∷ [])
      ∙ ap (λ y. flat_map f (take i xs) ++ y) (append-nil (f (get_or xs i d)) ∙ ap f (sym e))

  -- the next takes so many bytes more, and there are as many
  pub length_more : (length (flat_map f (take (i + 1) xs)) ≡ length (flat_map f (take i xs)) + length (f x)) × (length (flat_map f (take i xs)) + length (f x) ≤ length (flat_map f xs))
  length_more =
      let all : flat_map f xs ≡ flat_map f (take (i + 1) xs) ++ flat_map f (drop (i + 1) xs) = ap (flat_map f) (sym (take-append-drop (i + 1) xs)) ∙ flat_map-append f (take (i + 1) xs) (drop (i + 1) xs) in
      let next : length (flat_map f (take (i + 1) xs)) ≡ length (flat_map f (take i xs)) + length (f x) = ap length more ∙ length-append (flat_map f (take i xs)) (f x) in
      (next, omega (arith, ap length all, length-append (flat_map f (take (i + 1) xs)) (flat_map f (drop (i + 1) xs))))

  -- there is room for the next
  pub more_room : (a b : Writer) → Wrote a (flat_map f (take i xs)) b → HasRoom a (flat_map f xs) → HasRoom b (f x)
  more_room a b w h =
      let long : length b.out.now ≡ length a.out.now = ap length w.out ∙ length-sets a.out.now a.at (flat_map f (take i xs)) in
      omega (arith, w.at, length_more, h)

  -- and then it is written too
  pub wrote_more : (a b c : Writer) → Wrote a (flat_map f (take i xs)) b → Wrote b (f x) c → Wrote a (flat_map f (take (i + 1) xs)) c
  wrote_more a b c w v = subst (λ ys. Wrote a ys c) (sym more) (wrote_then a b c (flat_map f (take i xs)) (f x) w v)
