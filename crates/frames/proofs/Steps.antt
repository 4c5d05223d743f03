-- Answers of several steps, taken apart.
use Rattle.std.proofs.Common.{◌≡◌, ℕ, ◌⊎◌, Ok, Err, Result, refl, ap, inl, inr, arith}
use Rattle.frames.specs.Reading.{then, with_fault}

-- an answer after another
pub then_ok : {X Y E : Type 0} (q : Result X E) (g : X → Result Y E) (y : Y) → then q g ≡ Ok y → (x : X) × (q ≡ Ok x) × (g x ≡ Ok y)
then_ok (Ok x) g y h = (x, refl, h)
then_ok (Err e) g y h = let z : ◌≡◌ {A = ℕ} 0 1 = cc in absurd (omega arith)

pub then_err : {X Y E : Type 0} (q : Result X E) (g : X → Result Y E) (e : E) → then q g ≡ Err e → (q ≡ Err e) ⊎ ((x : X) × (q ≡ Ok x) × (g x ≡ Err e))
then_err (Ok x) g e h = inr (x, refl, h)
then_err (Err d) g e h = let z : d ≡ e = cc in inl (ap Err z)

-- an answer after another, which cannot be a fault
pub then_last : {X Y E : Type 0} (q : Result X E) (g : X → Y) (e : E) → then q (λ x. Ok (g x)) ≡ Err e → q ≡ Err e
then_last (Ok x) g e h = let z : ◌≡◌ {A = ℕ} 0 1 = cc in absurd (omega arith)
then_last (Err d) g e h = let z : d ≡ e = cc in ap Err z

-- an answer whose fault is taken up
pub with_fault_ok : {X E F : Type 0} (g : E → F) (q : Result X E) (x : X) → with_fault g q ≡ Ok x → q ≡ Ok x
with_fault_ok g (Ok y) x h = let e : y ≡ x = cc in ap Ok e
with_fault_ok g (Err e) x h = let z : ◌≡◌ {A = ℕ} 0 1 = cc in absurd (omega arith)

pub with_fault_err : {X E F : Type 0} (g : E → F) (q : Result X E) (y : F) → with_fault g q ≡ Err y → (e : E) × (q ≡ Err e) × (g e ≡ y)
with_fault_err g (Ok x) y h = let z : ◌≡◌ {A = ℕ} 0 1 = cc in absurd (omega arith)
with_fault_err g (Err e) y h = (e, refl, cc)
