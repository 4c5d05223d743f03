-- The first 12 bytes of a frame: what is read is written again, and what is written is read again.
use Rattle.std.proofs.Common.{◌≡◌, ℕ, ◌+◌, ◌^◌, ◌<◌, ◌≤◌, List, ◌∷◌, ◌++◌, length, get_or, drop, Ok, refl, ap, ◌∙◌, arith}
use Rattle.std.specs.Int.Digits.{AllBelowBase}
use Rattle.std.proofs.lemmas.List.{length-drop}
use Rattle.std.proofs.lemmas.Bool.Decides.{nat_tests}
use Rattle.units.specs.BigEndian.{big_endian, number_at}
use Rattle.units.specs.BigEndians.{number_at_big_endian}
use Rattle.frames.specs.declared.opening.Opening.{Opening}
use Rattle.frames.specs.Reading.{said, opening, opened}
use Rattle.frames.specs.Writing.{frame_bytes}
pub use Rattle.frames.specs.Meaning.{Opened}
use Rattle.frames.proofs.Numbers.{byte_then, number_then}

-- the opening in a frame's bytes
abbrev pub opening_in : List ℕ → Opening
opening_in f = opening (number_at 6 2 f) (number_at 8 2 f) (number_at 10 2 f)

-- what the checks before the instructions find
opened_cases : (k : ℕ) (f : List ℕ) (o : Opening) → opened k f ≡ Ok o → (12 ≤ length f) × (get_or f 0 0 ≡ 1) × (length f ≡ said f) × (get_or f 5 0 ≡ k) × (o ≡ opening_in f)
opened_cases k f o h = grind (arith, nat_tests)

pub opened_facts : (k : ℕ) (f : List ℕ) (o : Opening) → opened k f ≡ Ok o → Opened k f × (o ≡ opening_in f)
opened_facts k f o h =
    let c = opened_cases k f o h in
    (record { long = c.0; version = c.1; whole = c.2; kind = c.3 }, c.4)

pub opened_back : (k : ℕ) (f : List ℕ) → Opened k f → opened k f ≡ Ok (opening_in f)
opened_back k f h = grind (arith, nat_tests)

-- what was read is written again, before the rest of the frame
pub frame_bytes_again : (k : ℕ) (f : List ℕ) → AllBelowBase 256 f → Opened k f → frame_bytes k (number_at 6 2 f) (number_at 8 2 f) (number_at 10 2 f) (drop 12 f) ≡ f
frame_bytes_again k f u h =
    let be : ℕ → ℕ → List ℕ = λ i n. big_endian n (number_at i n f) in
    let long = h.long in
    let size : 7 + length (drop 12 f) ≡ number_at 1 4 f = omega (arith, length-drop 12 f, h.whole) in
    ap (λ (m : ℕ). 1 ∷ (big_endian 4 m ++ k ∷ (be 6 2 ++ (be 8 2 ++ (be 10 2 ++ drop 12 f))))) size
    ∙ ap (λ (t : List ℕ). 1 ∷ (be 1 4 ++ k ∷ (be 6 2 ++ (be 8 2 ++ t)))) (number_then 10 2 f (omega arith) u)
    ∙ ap (λ (t : List ℕ). 1 ∷ (be 1 4 ++ k ∷ (be 6 2 ++ t))) (number_then 8 2 f (omega arith) u)
    ∙ ap (λ (t : List ℕ). 1 ∷ (be 1 4 ++ k ∷ t)) (number_then 6 2 f (omega arith) u)
    ∙ ap (λ (t : List ℕ). 1 ∷ (be 1 4 ++ t)) (byte_then 5 k f (omega arith) h.kind)
    ∙ ap (λ (t : List ℕ). 1 ∷ t) (number_then 1 4 f (omega arith) u)
    ∙ byte_then 0 1 f (omega arith) h.version

-- what was written is read again
pub length_frame_bytes : (k s t n : ℕ) (body : List ℕ) → length (frame_bytes k s t n body) ≡ 12 + length body
length_frame_bytes k s t n body = omega arith

pub frame_bytes_opened : (k s t n : ℕ) (body : List ℕ) → 7 + length body < 256 ^ 4 → Opened k (frame_bytes k s t n body)
frame_bytes_opened k s t n body fits =
    let size = number_at_big_endian 4 (7 + length body) fits in
    record { long = omega arith; version = refl; whole = omega arith; kind = refl }

same_opening : (s t n a b c : ℕ) → a ≡ s → b ≡ t → c ≡ n → opening a b c ≡ opening s t n
same_opening s t n a b c e f g = cc

pub opening_again : (k s t n : ℕ) (body : List ℕ) → s < 256 ^ 2 → t < 256 ^ 2 → n < 256 ^ 2 → opening_in (frame_bytes k s t n body) ≡ opening s t n
opening_again k s t n body hs ht hn =
    same_opening s t n _ _ _ (number_at_big_endian 2 s hs) (number_at_big_endian 2 t ht) (number_at_big_endian 2 n hn)
