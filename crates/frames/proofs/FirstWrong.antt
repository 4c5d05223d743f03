-- What a fault says of a frame: the first thing that is wrong.
use Rattle.std.proofs.Common.{◌≡◌, ℕ, zero, suc, ◌+◌, ◌-◌, ◌*◌, ◌<◌, ◌≤◌, ◌⊎◌, List, [], ◌∷◌, ◌++◌, length, get_or, take, drop, Ok, Err, Result, sym, refl, ap, ◌∙◌, subst, inl, inr, ⊎_elim, arith, take-add}
use Rattle.std.specs.Int.Digits.{AllBelowBase}
use Rattle.std.proofs.ByRecursion.{All-drop, All-push, All-from_get_or}
use Rattle.std.proofs.lemmas.List.{length-drop, length_push, drop-drop, get_or-drop, take_at, flat_map_more}
use Rattle.std.proofs.lemmas.Bool.Decides.{nat_tests}
use Rattle.units.specs.BigEndian.{number_at}
use Rattle.units.specs.Code.{Code, CodeLaws}
use Rattle.deltas.specs.declared.fault.DeltaFault.{DeltaFault}
use Rattle.deltas.specs.Check.{Parts, checked, own}
use Rattle.frames.specs.declared.opening.Opening.{Opening}
use Rattle.faults.specs.declared.frame.FrameFault.{FrameFault}
use Rattle.faults.specs.declared.frame.FrameFault.TheVariants.{CutShort, Version, SpareBytes, OtherKind, UnknownTag}
use Rattle.faults.specs.declared.frame.ParseFault.{ParseFault}
use Rattle.faults.specs.declared.frame.ParseFault.TheVariants.{Frame, Delta}
use Rattle.frames.specs.Instructions.{Wire, extent, wire_bytes, Fitting}
use Rattle.frames.specs.Reading.{then, with_fault, said, opened, first, wires, delta_in, unpacked, if_lawful, parsed_frame}
use Rattle.frames.specs.Writing.{encoded}
use Rattle.frames.specs.Meaning.{Bytes, Opened, Due, CutOff, Wrong, LengthsFit, FramesMean}
use Rattle.frames.proofs.Steps.{then_err, then_last, with_fault_err}
use Rattle.frames.proofs.Wires.{length_wire_bytes, number_fits, first_fits, first_again}
use Rattle.frames.proofs.Openings.{opened_facts}
use Rattle.frames.proofs.RoundTrips.{unpacked_facts, unpacked_fresh, parsed_facts, accepted, frame_again, bytes_again, delta_again}

-- The first 12 bytes: which test failed, and what is wrong there.

opened_faults : (k : ℕ) (f : List ℕ) (e : FrameFault) → opened k f ≡ Err e → ((CutShort 0 ≡ e) × (length f < 12)) ⊎ ((Version ≡ e) × (12 ≤ length f) × (get_or f 0 0 ≡ 1 → ⊥)) ⊎ ((CutShort 1 ≡ e) × (12 ≤ length f) × (get_or f 0 0 ≡ 1) × (length f < said f)) ⊎ ((SpareBytes (said f) ≡ e) × (12 ≤ length f) × (get_or f 0 0 ≡ 1) × (said f < length f)) ⊎ ((OtherKind ≡ e) × (12 ≤ length f) × (get_or f 0 0 ≡ 1) × (length f ≡ said f) × (get_or f 5 0 ≡ k → ⊥))
opened_faults k f e h = grind (arith, nat_tests)

opened_wrong : (k w : ℕ) (f : List ℕ) (e : FrameFault) → opened k f ≡ Err e → Wrong k w f e
opened_wrong k w f e h =
    let wrong = Wrong k w f in
    ⊎_elim (λ z. subst wrong z.0 (inl (refl, z.1)))
    (⊎_elim (λ z. subst wrong z.0 (z.1, z.2))
    (⊎_elim (λ z. subst wrong z.0 (inr (inl (refl, (z.1, z.2), z.3))))
    (⊎_elim (λ z. subst wrong z.0 (inl (refl, (z.1, z.2), z.3)))
    (λ z. subst wrong z.0 ((z.1, z.2), z.3, z.4)))))
    (opened_faults k f e h)

-- The instructions that stand before place p.

due_none : (w : ℕ) (f : List ℕ) → 12 ≤ length f → Due w f 0 12
due_none w f l = record { instructions = []; many = refl; fitting = tt; behind = omega arith; inside = l; bytes = refl }

-- the bytes up to the next instruction's end, by its bytes and those before it
part_more : (n p q m : ℕ) (f xs x : List ℕ) → n ≤ p → p + m ≡ q → take (p - n) (drop n f) ≡ xs → take m (drop p f) ≡ x → take (q - n) (drop n f) ≡ xs ++ x
part_more n p q m f xs x l e g h =
    let far : q - n ≡ (p - n) + m = omega arith in
    let there : n + (p - n) ≡ p = omega arith in
    let rest = drop-drop (p - n) n f ∙ ap (λ i. drop i f) there in
    let more = take-add (p - n) m (drop n f) in
    cc

due_more : (w n p : ℕ) (f : List ℕ) (x : Wire) → AllBelowBase 256 f → Due w f n p → first w p (drop p f) ≡ Ok x → Due w f (n + 1) (p + extent x)
due_more w n p f x u d h =
    let bs = drop p f in
    let fits = first_fits w p bs x h in
    let again = (first_again w p bs x (All-drop (λ (b : ℕ). b < 256) p f u) h).0 in
    let here = ap (take (extent x)) (sym again) ∙ take_at (wire_bytes x) (drop (extent x) bs) (extent x) (length_wire_bytes x) in
    let long = length-drop p f in
    record {
      instructions = d.instructions ++ x ∷ [];
      many = length_push d.instructions x ∙ ap (λ i. i + 1) d.many;
      fitting = All-push (Fitting w) d.instructions x d.fitting fits.0;
      behind = omega arith;
      inside = omega (arith, fits.1);
      bytes = part_more 12 p (p + extent x) (extent x) f _ _ d.behind refl d.bytes here ∙ flat_map_more wire_bytes [] d.instructions x;
    }

-- The instruction that is due at place p: which test failed, and what is wrong there.

first_faults : (w p : ℕ) (bs : List ℕ) (e : FrameFault) → first w p bs ≡ Err e → ((CutShort p ≡ e) × ((length bs ≡ 0) ⊎ ((get_or bs 0 0 ≡ 1) × (length bs < 5)) ⊎ ((get_or bs 0 0 ≡ 2) × (length bs < 3 + number_at 1 2 bs * w)))) ⊎ ((UnknownTag p ≡ e) × (0 < length bs) × (get_or bs 0 0 ≡ 1 → ⊥) × (get_or bs 0 0 ≡ 2 → ⊥))
first_faults w p bs e h = grind (arith, nat_tests)

tag_at : (p : ℕ) (f : List ℕ) → get_or (drop p f) 0 0 ≡ get_or f p 0
tag_at p f = let z : p + 0 ≡ p = omega arith in get_or-drop p f 0 0 ∙ ap (λ i. get_or f i 0) z

cut_off : (w p : ℕ) (f : List ℕ) → p ≤ length f → (length (drop p f) ≡ 0) ⊎ ((get_or (drop p f) 0 0 ≡ 1) × (length (drop p f) < 5)) ⊎ ((get_or (drop p f) 0 0 ≡ 2) × (length (drop p f) < 3 + number_at 1 2 (drop p f) * w)) → CutOff w f p
cut_off w p f l h =
    let long = length-drop p f in
    let tag = sym (tag_at p f) in
    let units = ap (λ bs. number_at 0 2 bs * w) (drop-drop 1 p f) in
    ⊎_elim (λ z. inl (omega arith))
    (⊎_elim (λ z. inr (inl (tag ∙ z.0, omega (arith, z.1))))
    (λ z. inr (inr (tag ∙ z.0, omega (arith, z.1)))))
    h

step_wrong : (k w n p : ℕ) (f : List ℕ) (e : FrameFault) → Opened k f → n < number_at 10 2 f → Due w f n p → first w p (drop p f) ≡ Err e → Wrong k w f e
step_wrong k w n p f e o l d h =
    let long = length-drop p f in
    let tag = tag_at p f in
    ⊎_elim
    (λ z. subst (Wrong k w f) z.0 (inr (inr (o, (n, l, d), cut_off w p f d.inside z.1))))
    (λ z. subst (Wrong k w f) z.0 (o, (n, l, d), omega (arith, z.1), (λ g. z.2 (tag ∙ g)), (λ g. z.3 (tag ∙ g))))
    (first_faults w p (drop p f) e h)

-- Behind the last one.

end_faults : (w p : ℕ) (bs : List ℕ) (e : FrameFault) → wires w 0 p bs ≡ Err e → (SpareBytes p ≡ e) × (0 < length bs)
end_faults w p bs e h = grind (arith, nat_tests)

end_wrong : (k w p : ℕ) (f : List ℕ) (e : FrameFault) → Opened k f → Due w f (number_at 10 2 f) p → wires w 0 p (drop p f) ≡ Err e → Wrong k w f e
end_wrong k w p f e o d h =
    let z = end_faults w p (drop p f) e h in
    let long = length-drop p f in
    subst (Wrong k w f) z.0 (inr (o, d, omega (arith, z.1)))

-- All instructions, of which m are left.

wires_wrong : (k w m n p : ℕ) (f : List ℕ) (e : FrameFault) → AllBelowBase 256 f → Opened k f → n + m ≡ number_at 10 2 f → Due w f n p → wires w m p (drop p f) ≡ Err e → Wrong k w f e
wires_wrong k w zero n p f e u o s d h =
    let all : n ≡ number_at 10 2 f = omega arith in
    end_wrong k w p f e o (subst (λ i. Due w f i p) all d) h
wires_wrong k w (suc m) n p f e u o s d h =
    let go : Wire → Result (List Wire) FrameFault = λ x. then (wires w m (p + extent x) (drop (extent x) (drop p f))) (λ xs. Ok (x ∷ xs)) in
    ⊎_elim
    (λ g. step_wrong k w n p f e o (omega arith) d g)
    (λ z.
    let q = p + extent z.0 in
    let rest = then_last (wires w m q (drop (extent z.0) (drop p f))) (λ xs. z.0 ∷ xs) e z.2 in
    wires_wrong k w m (n + 1) q f e u o (omega arith) (due_more w n p f z.0 u d z.1)
    (ap (wires w m q) (sym (drop-drop (extent z.0) p f)) ∙ rest))
    (then_err (first w p (drop p f)) go e h)

-- A refusal is of the frame, or of the delta in it.

of_delta : {U : Type 0} (d : Parts U) (y : ParseFault) → if_lawful d ≡ Err y → (e : DeltaFault) × (checked d ≡ Err e) × (Delta e ≡ y)
of_delta d y h = with_fault_err Delta (checked d) y (then_last (with_fault Delta (checked d)) (λ _. d) y h)

frame_refused : {U : Type 0} (q : Result (Parts U) FrameFault) (e : FrameFault) → then (with_fault Frame q) if_lawful ≡ Err (Frame e) → q ≡ Err e
frame_refused (Ok d) e h = let z : ◌≡◌ {A = ℕ} 0 1 = cc (of_delta d (Frame e) h).2 in absurd (omega arith)
frame_refused (Err g) e h = let z : g ≡ e = cc in ap Err z

delta_refused : {U : Type 0} (q : Result (Parts U) FrameFault) (e : DeltaFault) → then (with_fault Frame q) if_lawful ≡ Err (Delta e) → (d : Parts U) × (q ≡ Ok d) × (checked d ≡ Err e)
delta_refused (Ok d) e h =
    let b = of_delta d (Delta e) h in
    let z : b.0 ≡ e = cc b.2 in
    (d, refl, b.1 ∙ ap Err z)
delta_refused (Err g) e h = let z : ◌≡◌ {A = ℕ} 0 1 = cc in absurd (omega arith)

-- The whole frame.

module _ {U : Type 0} {kind width : ℕ} (c : Code U kind width) where
  unpacked_wrong : (f : List ℕ) (e : FrameFault) → AllBelowBase 256 f → unpacked c f ≡ Err e → Wrong kind width f e
  unpacked_wrong f e u h =
      let go : Opening → Result (Parts U) FrameFault = λ o. then (wires width o.instructions 12 (drop 12 f)) (λ xs. Ok (delta_in c o xs)) in
      ⊎_elim
      (λ g. opened_wrong kind width f e g)
      (λ z.
      let o = opened_facts kind f z.0 z.1 in
      let rest = then_last (wires width z.0.instructions 12 (drop 12 f)) (delta_in c z.0) e z.2 in
      let count = ap (λ (p : Opening). p.instructions) o.1 in
      wires_wrong kind width (number_at 10 2 f) 0 12 f e u o.0 (omega arith) (due_none width f o.0.long)
      (ap (λ n. wires width n 12 (drop 12 f)) (sym count) ∙ rest))
      (then_err (opened kind f) go e h)

module _ {U : Type 0} {kind width : ℕ} (c : Code U kind width) (k : CodeLaws c) where
  delta_wrong : (f : List ℕ) (e : DeltaFault) → Bytes f → parsed_frame c f ≡ Err (Delta e) → (d : Parts U) × (own d ≡ d) × (encoded c d ≡ f) × (checked d ≡ Err e)
  delta_wrong f e b h =
      let r = delta_refused (unpacked c f) e h in
      (r.0, (unpacked_fresh c f r.0 r.1).same, frame_again c k f r.0 b r.1, r.2)

  -- a length in a frame has two bytes
  lengths_fit : (f : List ℕ) (d : Parts U) → unpacked c f ≡ Ok d → LengthsFit d
  lengths_fit f d h =
      let u = unpacked_facts c f d h in
      subst LengthsFit (sym u.is) (omega (arith, number_fits 6 f), omega (arith, number_fits 8 f))

  pub frames_mean : FramesMean c
  frames_mean = record {
    accepted = λ f d b h. let a = accepted c f d h in (a.0, lengths_fit f d (parsed_facts c f d h).0, a.1.same, bytes_again c k f d b h);
    read_back = λ d l fit. delta_again c k d l fit.0 fit.1;
    frame_wrong = λ f e b h. unpacked_wrong c f e (All-from_get_or (λ (x : ℕ). x < 256) f 0 (λ i _. b i)) (frame_refused (unpacked c f) e h);
    delta_wrong = delta_wrong;
  }
