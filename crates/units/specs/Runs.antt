-- Runs of bytes of a known length.
use Rattle.std.specs.Prelude.{◌≡◌, ℕ, zero, suc, ◌+◌, ◌<◌, ◌≤◌, List, [], ◌∷◌, ◌++◌, length, take, drop, slice_index, slice_set, refl}
use Rattle.std.proofs.Common.{ap, ◌∙◌, arith, drop-cons}
use borrow.Rule.Slice.PartMut.{put_mid, post_of}
use Rattle.std.proofs.lemmas.List.{append-nil, drop_all, drop_at, length-drop, nil_from_length, take_at}

-- to write the only byte of a run is to write the run
pub set_only : (bs : List ℕ) (b : ℕ) → length bs ≡ 1 → slice_set bs 0 b ≡ b ∷ []
set_only [] b h = let z : ⊥ = omega arith in absurd z
set_only (x ∷ xs) b h = let e : length xs ≡ 0 = omega arith in ap (λ (t : List ℕ). b ∷ t) (nil_from_length xs e)

-- the k bytes from an index on, read one by one
abbrev pub reads : ℕ → ℕ → List ℕ → List ℕ
reads zero i bs = []
reads (suc k) i bs = slice_index bs i ∷ reads k (suc i) bs

-- a part of a run is its bytes, read one by one
pub part_reads : (k i : ℕ) (bs : List ℕ) → i + k ≤ length bs → take k (drop i bs) ≡ reads k i bs
part_reads zero i bs h = refl
part_reads (suc k) i bs h =
    let here : i < length bs = omega arith in
    let more : suc i + k ≤ length bs = omega arith in
    ap (take (suc k)) (drop-cons bs i 0 here) ∙ ap (λ (t : List ℕ). slice_index bs i ∷ t) (part_reads k (suc i) bs more)

-- what a run holds once its first m bytes and then its other n are written
pub put_both : (m n : ℕ) (out xs ys : List ℕ) → length out ≡ m + n → length xs ≡ m → put_mid m n (xs ++ post_of 0 m out) ys ≡ xs ++ ys
put_both m n out xs ys long first =
    let front = take_at xs (drop m out) m first in
    let back = drop_at xs (drop m out) m first in
    let short : length (drop m out) ≤ n = rw length-drop (omega arith) in
    let none = drop_all n (drop m out) short in
    let end = append-nil ys in
    cc
