-- The instructions of a frame, one after another.
use Rattle.std.proofs.Common.{◌≡◌, ℕ, suc, ◌+◌, ◌-◌, ◌<◌, ◌≤◌, List, [], ◌∷◌, drop, Ok, Err, Result, IsOk, sym, refl, ap, ◌∙◌, arith}
use Rattle.std.proofs.lemmas.Bool.Decides.{nat_tests}
use Rattle.std.proofs.lemmas.List.{drop-drop}
use Rattle.deltas.specs.declared.instruction.Instruction.{Instruction}
use Rattle.deltas.specs.declared.delta.Head.{Head}
use Rattle.deltas.specs.declared.fault.DeltaFault.{DeltaFault}
use Rattle.deltas.specs.Check.{stepped, walked}
use Rattle.deltas.proofs.Sound.{stepped_facts}
use Rattle.faults.specs.declared.frame.FrameFault.{FrameFault}
use Rattle.faults.specs.declared.frame.ParseFault.TheVariants.{Delta}
use Rattle.frames.specs.declared.reader.WireReader.{WireReader}
use Rattle.frames.proofs.Steps.{then_ok}
use Rattle.frames.specs.Instructions.{Wire, copy, insert, extent, inserts_of}
use Rattle.frames.specs.Reading.{then, with_fault, wires, entry, entries, inserts_in}
use Rattle.frames.specs.Steps.{found, due, left, wires_in, Read}

-- where there was no fault, these are the instructions
found_ok : (q : Result (List Wire) FrameFault) → IsOk q → q ≡ Ok (found q)
found_ok (Ok xs) h = refl
found_ok (Err e) h = cc h

-- a reader behind the first 12 bytes of a frame
pub at_first : (w n : ℕ) (r : WireReader) (f : List ℕ) → r.frame.now ≡ f → r.place ≡ 12 → left w n r ≡ wires w n 12 (drop 12 f)
at_first w n r f e p = ap (λ q. wires w n q (drop q r.frame.now)) p ∙ ap (λ g. wires w n 12 (drop 12 g)) e

-- where none is at fault, those that are left are found
pub left_ok : (w n : ℕ) (r : WireReader) → IsOk (left w n r) → left w n r ≡ Ok (wires_in w n r)
left_ok w n r h = found_ok (left w n r) h

-- how many units are inserted in all, after m so far
abbrev pub counted : ℕ → Result (List Wire) FrameFault → Result ℕ FrameFault
counted m q = then q (λ xs. Ok (m + inserts_in xs))

counted_on : (m : ℕ) (x : Wire) (q : Result (List Wire) FrameFault) → counted m (then q (λ xs. Ok (x ∷ xs))) ≡ counted (m + inserts_of x) q
counted_on m x (Ok xs) = ap Ok (omega arith)
counted_on m x (Err e) = refl

-- One turn of a loop over a reader, the one after t turns of n.

module _ (w n t : ℕ) (r : WireReader) (l : t < n) where
  -- the next instruction is read, and then those behind it
  next_left : (s : WireReader) (x : Wire) → Read w r x s → left w (n - t) r ≡ then (left w (n - (t + 1)) s) (λ xs. Ok (x ∷ xs))
  next_left s x e =
      let k = n - (t + 1) in
      let more : n - t ≡ suc k = omega arith in
      let go : Wire → Result (List Wire) FrameFault = λ y. then (wires w k (r.place + extent y) (drop (extent y) (drop r.place r.frame.now))) (λ xs. Ok (y ∷ xs)) in
      ap (λ i. left w i r) more
      ∙ ap (λ q. then q go) e.is
      ∙ ap (λ bs. then (wires w k (r.place + extent x) bs) (λ xs. Ok (x ∷ xs))) (drop-drop (extent x) r.place r.frame.now)
      ∙ ap (λ p. then (wires w k p (drop p r.frame.now)) (λ xs. Ok (x ∷ xs))) (sym e.place)
      ∙ ap (λ f. then (wires w k s.place (drop s.place f)) (λ xs. Ok (x ∷ xs))) (sym e.frame)

  -- or it is at fault
  next_fault : (f : FrameFault) → due w r ≡ Err f → left w (n - t) r ≡ Err f
  next_fault f e =
      let k = n - (t + 1) in
      let more : n - t ≡ suc k = omega arith in
      ap (λ i. left w i r) more
      ∙ ap (λ q. then q (λ y. then (wires w k (r.place + extent y) (drop (extent y) (drop r.place r.frame.now))) (λ xs. Ok (y ∷ xs)))) e

  -- so the count goes on, or is at fault
  pub count_again : (s : WireReader) (x : Wire) (m j : ℕ) (a : Result ℕ FrameFault) → Read w r x s → j ≡ inserts_of x → counted m (left w (n - t) r) ≡ a → counted (m + j) (left w (n - (t + 1)) s) ≡ a
  count_again s x m j a e f h =
      ap (λ i. counted (m + i) (left w (n - (t + 1)) s)) f
      ∙ sym (ap (counted m) (next_left s x e) ∙ counted_on m x (left w (n - (t + 1)) s))
      ∙ h

  pub count_stops : (m : ℕ) (f : FrameFault) (a : Result ℕ FrameFault) → due w r ≡ Err f → counted m (left w (n - t) r) ≡ a → Err f ≡ a
  count_stops m f a e h = sym (ap (counted m) (next_fault f e)) ∙ h

  -- where all is well, one instruction less is left, and none is at fault
  pub left_again : (s : WireReader) (x : Wire) (ws : List Wire) → Read w r x s → left w (n - t) r ≡ Ok ws → (xs : List Wire) × (ws ≡ x ∷ xs) × (left w (n - (t + 1)) s ≡ Ok xs)
  left_again s x ws e h =
      let rest = then_ok (left w (n - (t + 1)) s) (λ xs. Ok (x ∷ xs)) ws (sym (next_left s x e) ∙ h) in
      (rest.0, cc rest.2, rest.1)

  -- where the rest is whole, the next is not at fault
  pub left_well : (f : FrameFault) (ws : List Wire) → due w r ≡ Err f → left w (n - t) r ≡ Ok ws → ⊥
  left_well f ws e h =
      let z : ◌≡◌ {A = Result (List Wire) FrameFault} (Err f) (Ok ws) = sym (next_fault f e) ∙ h in
      cc

-- After the last turn.

none_left : (w n t : ℕ) (r : WireReader) → n ≤ t → left w (n - t) r ≡ wires w 0 r.place (drop r.place r.frame.now)
none_left w n t r l = let e : n - t ≡ 0 = omega arith in ap (λ i. left w i r) e

-- none is left of none
ended_ok : (w p : ℕ) (bs : List ℕ) (ws : List Wire) → wires w 0 p bs ≡ Ok ws → ws ≡ []
ended_ok w p bs ws h = grind (arith, nat_tests)

pub left_none : (w n t : ℕ) (r : WireReader) (ws : List Wire) → n ≤ t → left w (n - t) r ≡ Ok ws → ws ≡ []
left_none w n t r ws l h = ended_ok w r.place (drop r.place r.frame.now) ws (sym (none_left w n t r l) ∙ h)

-- The delta's check, as the frame is read.

placed_entry : (s k i : ℕ) (x : Wire) (m : ℕ) → Ok m ≡ stepped s k i (entry k x) → m ≡ k + inserts_of x
placed_entry s k i (copy p n) m e = let f = stepped_facts s k i (entry k (copy p n)) m (sym e) in f.2
placed_entry s k i (insert n bs) m e = let f = stepped_facts s k i (entry k (insert n bs)) m (sym e) in f.2

check_turn : (h : Head) (i t k m : ℕ) (x : Wire) (xs : List Wire) → Ok m ≡ stepped h.source k i (entry k x) → walked h i t k (entries k (x ∷ xs)) ≡ walked h (i + 1) (t + (entry k x).length) m (entries m xs)
check_turn h i t k m x xs e =
    rw (← e, walked) (ap (λ j. walked h (i + 1) (t + (entry k x).length) m (entries j xs)) (sym (placed_entry h.source k i x m e)))

-- one turn of the loop, whose next instruction is e
pub check_again : (h : Head) (i t k m b n : ℕ) (e : Instruction) (x : Wire) (ws xs : List Wire) (a : Result Head DeltaFault) → e ≡ entry b x → b ≡ k → ws ≡ x ∷ xs → Ok m ≡ stepped h.source k i e → walked h i t k (entries k ws) ≡ a → k + inserts_in ws ≡ n → (walked h (i + 1) (t + e.length) m (entries m xs) ≡ a) × (m + inserts_in xs ≡ n)
check_again h i t k m b n e x ws xs a en f g s w c =
    let q = en ∙ ap (λ j. entry j x) f in
    let r = s ∙ ap (stepped h.source k i) q in
    let v = ap inserts_in g in (
      ap (λ d. walked h (i + 1) (t + d.length) m (entries m xs)) q ∙ sym (check_turn h i t k m x xs r) ∙ ap (λ ys. walked h i t k (entries k ys)) (sym g) ∙ w,
      omega (arith, placed_entry h.source k i x m r),
    )

pub check_stops : (h : Head) (i t k b : ℕ) (f : DeltaFault) (e : Instruction) (x : Wire) (ws xs : List Wire) (a : Result Head DeltaFault) → e ≡ entry b x → b ≡ k → ws ≡ x ∷ xs → Err f ≡ stepped h.source k i e → walked h i t k (entries k ws) ≡ a → Err (Delta f) ≡ with_fault Delta a
check_stops h i t k b f e x ws xs a en p g s w =
    let q = en ∙ ap (λ j. entry j x) p in
    let r = s ∙ ap (stepped h.source k i) q in
    let v : walked h i t k (entries k (x ∷ xs)) ≡ Err f = rw (← r, walked) in
    ap (with_fault Delta) (sym v ∙ ap (λ ys. walked h i t k (entries k ys)) (sym g) ∙ w)
