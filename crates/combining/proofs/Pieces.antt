-- The places that instructions give, one by one.
use Rattle.std.proofs.Common.{◌≡◌, ℕ, zero, suc, ◌+◌, ◌-◌, ◌<◌, ◌≤◌, List, [], ◌∷◌, ◌++◌, map, min, length, get_or, take, drop, sym, refl, ap, ◌∙◌, subst, arith, take-add}
use lib.Seq.{take-append-le, drop-append-le, drop-append-add}
use Rattle.std.proofs.lemmas.List.{take_all, get_or-drop, take_more, take-take, drop-take, drop-drop, take-map, drop-map, length-drop}
use Rattle.std.proofs.ByRecursion.{All-get_or}
use Rattle.std.specs.List.{AllByRecursion}
use Rattle.deltas.specs.declared.instruction.Instruction.{Instruction}
use Rattle.deltas.specs.declared.instruction.Op.{Op}
use Rattle.deltas.specs.declared.instruction.Op.TheVariants.{Copy, Insert}
use Rattle.deltas.specs.declared.lawful.LawfulDelta.{LawfulDelta}
use Rattle.deltas.specs.Instructions.{blank_instruction}
use Rattle.deltas.specs.LawfulDeltas.{lawful_parts}
use Rattle.combining.specs.Joining.{cut}
use Rattle.deltas.specs.Origins.{copied, inserted, copies, given, piece, origins, origins_of}
use Rattle.deltas.specs.Places.{total, Inside, Fits}
use Rattle.combining.specs.Steps.{place_at, Located}
use Rattle.combining.proofs.Own.{own_origins, own_total, own_few, own_fits}
use Rattle.combining.proofs.Runs.{total_append}
use Rattle.deltas.proofs.Sound.{length_piece}

-- one instruction more gives its length more places
pub total_more : (is : List Instruction) (k : ℕ) → k < length is → total (take (k + 1) is) ≡ total (take k is) + (get_or is k blank_instruction).length
total_more is k l =
    let i = get_or is k blank_instruction in
    let e = ap total (take_more is k blank_instruction l) ∙ total_append (take k is) (i ∷ []) in
    omega arith

-- what stands in the rest of a list, from n on, as `&xs[n..]` is read
pub rest_at : {X : Type 0} (xs : List X) (n k : ℕ) (d : X) → get_or (take (length xs - n) (drop n xs)) k d ≡ get_or xs (n + k) d
rest_at xs n k d = ap (λ ys. get_or ys k d) (take_all (length xs - n) (drop n xs) (rw length-drop (omega arith))) ∙ get_or-drop n xs k d

-- a front gives no more places than the whole
pub total_front : (is : List Instruction) (k : ℕ) → total (take k is) ≤ total is
total_front is zero = omega arith
total_front [] (suc k) = omega arith
total_front (i ∷ is) (suc k) = omega (arith, total_front is k)

-- a front that gives fewer places than the whole is not the whole
pub total_reaches : (is : List Instruction) (k : ℕ) → total (take k is) < total is → k < length is
total_reaches [] k h = absurd (omega (arith, total_front [] k))
total_reaches (i ∷ is) zero h = omega arith
total_reaches (i ∷ is) (suc k) h = let r : total (take k is) < total is = omega arith in omega (arith, total_reaches is k r)

-- the instruction at an index of a lawful delta: it fits a source of as many units, or more, it gives its length of
-- places, and these are the next ones
pub record Next {U : Type 0} (d : LawfulDelta U) (k : ℕ) : Type 0 where
  pub fits : (s : ℕ) → d.head.source ≤ s → Fits s (length d.units.now) (get_or d.instructions.now k blank_instruction)
  pub long : length (piece d.units.now (get_or d.instructions.now k blank_instruction)) ≡ (get_or d.instructions.now k blank_instruction).length
  pub room : total d.instructions.now - total (take k d.instructions.now) ≡ (get_or d.instructions.now k blank_instruction).length + (total d.instructions.now - total (take (k + 1) d.instructions.now))

-- all this holds of each
pub next : {U : Type 0} (d : LawfulDelta U) (k : ℕ) → k < length d.instructions.now → Next d k
next d k l =
    let is = d.instructions.now in
    let m = length d.units.now in
    let fits : (s : ℕ) → d.head.source ≤ s → Fits s m (get_or is k blank_instruction) = λ s h. All-get_or (Fits s m) is k blank_instruction l (own_fits d s h) in
    let more = total_more is k l in
    let front = total_front is (k + 1) in
    record {
      fits = fits;
      long = length_piece d.units.now (get_or is k blank_instruction) 65535 m (fits 65535 d.source) (omega arith);
      room = omega arith;
    }

-- the places of a copy from the k-th on
copies_from : (U : Type 0) (p n k : ℕ) → k ≤ n → drop k (copies {U = U} p n) ≡ copies (p + k) (n - k)
copies_from U p n zero l = let e : p ≡ p + 0 = omega arith in let f : n ≡ n - 0 = omega arith in ap (λ q. copies q n) e ∙ ap (λ m. copies (p + 0) m) f
copies_from U p zero (suc k) l = absurd (omega arith)
copies_from U p (suc n) (suc k) l =
    let h : k ≤ n = omega arith in
    let e : suc p + k ≡ p + suc k = omega arith in
    let f : n - k ≡ suc n - suc k = omega arith in
    copies_from U (suc p) n k h ∙ ap (λ q. copies q (n - k)) e ∙ ap (λ m. copies (p + suc k) m) f

copies_first : (U : Type 0) (p n m : ℕ) → m ≤ n → take m (copies {U = U} p n) ≡ copies p m
copies_first U p n zero l = refl
copies_first U p zero (suc m) l = absurd (omega arith)
copies_first U p (suc n) (suc m) l = let h : m ≤ n = omega arith in ap (λ os. copied p ∷ os) (copies_first U (suc p) n m h)

-- a part of what an instruction gives is what the cut instruction gives
pub given_cut : {U : Type 0} (us : List U) (o : Op) (p n k m : ℕ) → k + m ≤ n → take m (drop k (given us o p n)) ≡ given us o (p + k) m
given_cut {U} us Copy p n k m l =
    let h : k ≤ n = omega arith in
    let j : m ≤ n - k = omega arith in
    ap (take m) (copies_from U p n k h) ∙ copies_first U (p + k) (n - k) m j
given_cut us Insert p n k m l =
    let e : k + (n - k) ≡ n = omega arith in
    let j : m ≤ n - k = omega arith in
    ap (take m) (drop-map inserted k (take n (drop p us)))
    ∙ take-map inserted m (drop k (take n (drop p us)))
    ∙ ap (λ x. map inserted (take m (drop k (take x (drop p us))))) (sym e)
    ∙ ap (λ vs. map inserted (take m vs)) (drop-take k (n - k) (drop p us))
    ∙ ap (map inserted) (take-take m (n - k) (drop k (drop p us)) j)
    ∙ ap (λ vs. map inserted (take m vs)) (drop-drop k p us)

-- a part of one instruction, as places of the whole
pub piece_at : {U : Type 0} (s m : ℕ) (us : List U) (is : List Instruction) (index offset n : ℕ) → AllByRecursion (Fits s m) is → m ≤ length us → index < length is → offset + n ≤ (get_or is index blank_instruction).length → given us (get_or is index blank_instruction).op ((get_or is index blank_instruction).from + offset) n ≡ take n (drop (place_at is index offset) (origins us is))
piece_at s m us [] index offset n a l h b = absurd (omega arith)
piece_at s m us (i ∷ is) zero offset n a l h b =
    let e = length_piece us i s m a.0 l in
    let k : offset ≤ length (piece us i) = omega arith in
    let j : n ≤ length (drop offset (piece us i)) = omega (arith, length-drop offset (piece us i)) in
    let z : offset ≡ 0 + offset = omega arith in
    sym (given_cut us i.op i.from i.length offset n b)
    ∙ sym (take-append-le n (drop offset (piece us i)) (origins us is) j)
    ∙ ap (take n) (sym (drop-append-le offset (piece us i) (origins us is) k))
    ∙ ap (λ x. take n (drop x (piece us i ++ origins us is))) z
piece_at s m us (i ∷ is) (suc index) offset n a l h b =
    let e = length_piece us i s m a.0 l in
    let k : index < length is = omega arith in
    let x : length (piece us i) + place_at is index offset ≡ place_at (i ∷ is) (suc index) offset = omega arith in
    piece_at s m us is index offset n a.1 l k b
    ∙ ap (take n) (sym (drop-append-add (piece us i) (origins us is) (place_at is index offset)))
    ∙ ap (λ y. take n (drop y (piece us i ++ origins us is))) x

-- after the rest of the found instruction, the next one stands at the next place
pub located_next : (s m : ℕ) (is : List Instruction) (place index offset n : ℕ) → AllByRecursion (Fits s m) is → Located is place index offset → n ≡ (get_or is index blank_instruction).length - offset → place + n < total is → Located is (place + n) (index + 1) 0
located_next s m is place index offset n a h e l =
    let t = total_more is index h.within in
    let r : total (take (index + 1) is) < total is = omega (arith, h.at, h.inside) in
    let w : index + 1 < length is = total_reaches is (index + 1) r in
    record { within = w; inside = (All-get_or (Fits s m) is (index + 1) blank_instruction w a).0; at = omega (arith, h.at, h.inside) }

inside_end : (s m b : ℕ) (o : Op) (p n : ℕ) → s ≤ b → m ≤ b → Inside s m o p n → p + n ≤ b
inside_end s m b Copy p n x y h = omega arith
inside_end s m b Insert p n x y h = omega arith

-- the end of what an instruction takes is a number of 16 bits
pub fits_end : (m : ℕ) (i : Instruction) → m ≤ 65535 → Fits 65535 m i → i.from + i.length ≤ 65535
fits_end m i l h = inside_end 65535 m 65535 i.op i.from i.length (omega arith) l h.1

inside_cut : (s m : ℕ) (o : Op) (p n k j : ℕ) → k + j ≤ n → Inside s m o p n → Inside s m o (p + k) j
inside_cut s m Copy p n k j l h = omega arith
inside_cut s m Insert p n k j l h = omega arith

-- a part of an instruction that fits
pub fits_cut : (s m : ℕ) (i : Instruction) (k j : ℕ) → 0 < j → k + j ≤ i.length → Fits s m i → Fits s m (cut i k j)
fits_cut s m i k j p l h = (p, inside_cut s m i.op i.from i.length k j l h.1)

-- n places of a lawful delta from a place on, given by one instruction over its units
pub record Part {U : Type 0} (d : LawfulDelta U) (place n : ℕ) (i : Instruction) : Type 0 where
  pub fits : Fits 65535 (length d.units.now) i
  pub gives : piece d.units.now i ≡ take n (drop place (origins_of (lawful_parts d)))
  pub long : length (piece d.units.now i) ≡ n

-- the instruction at an index of those from `first` on, as a loop over them finds it
abbrev pub next_of : {U : Type 0} → LawfulDelta U → ℕ → ℕ → Instruction
next_of d first k = get_or (take (length d.instructions.now - first) (drop first d.instructions.now)) k blank_instruction

-- one turn of a loop that takes w places of a lawful delta from a place on: it takes the n that the found instruction
-- gives from there on, or as many as are wanted
pub record Turn {U : Type 0} (d : LawfulDelta U) (place first k offset w n : ℕ) : Type 0 where
  pub cuts : (next_of d first k).from + offset ≤ 65535
  pub part : (i : Instruction) → i ≡ cut (next_of d first k) offset n → Part d place n i
  pub further : n < w → place + w ≤ d.head.target → Located d.instructions.now (place + n) (first + (k + 1)) 0

-- all this holds of each turn
pub turn : {U : Type 0} (d : LawfulDelta U) (place first k offset w n : ℕ) → Located d.instructions.now place (first + k) offset → 0 < w → n ≡ min w ((next_of d first k).length - offset) → Turn d place first k offset w n
turn d place first k offset w n at some e =
    let is = d.instructions.now in
    let m = length d.units.now in
    let i = get_or is (first + k) blank_instruction in
    let here = rest_at is first k blank_instruction in
    let long_here = ap (λ j. j.length) here in
    let from_here = ap (λ j. j.from) here in
    let all = own_fits d 65535 d.source in
    let fits = All-get_or (Fits 65535 m) is (first + k) blank_instruction at.within all in
    let inside : offset + n ≤ i.length = omega (arith, at.inside) in
    let step : first + k + 1 ≡ first + (k + 1) = omega arith in
    record {
      cuts = omega (arith, fits_end m i (own_few d) fits, at.inside);
      part = λ j c.
          let same : j ≡ cut i offset n = c ∙ ap (λ x. cut x offset n) here in
          let cut_fits : Fits 65535 m j = subst (λ x. Fits 65535 m x) (sym same) (fits_cut 65535 m i offset n (omega (arith, at.inside)) inside fits) in
          record {
            fits = cut_fits;
            gives = ap (piece d.units.now) same
                ∙ piece_at 65535 m d.units.now is (first + k) offset n all (omega arith) at.within inside
                ∙ ap (λ q. take n (drop q (origins d.units.now is))) (sym at.at)
                ∙ ap (λ os. take n (drop place os)) (sym (own_origins d));
            long = length_piece d.units.now j 65535 m cut_fits (omega arith) ∙ ap (λ x. x.length) same;
          };
      further = λ more end.
          subst (λ x. Located is (place + n) x 0) step
          (located_next 65535 m is place (first + k) offset n all at (omega (arith, at.inside)) (omega (arith, own_total d)));
    }

-- some places, and some more
pub taken_more : {X : Type 0} (xs : List X) (p k n : ℕ) → take k (drop p xs) ++ take n (drop (p + k) xs) ≡ take (k + n) (drop p xs)
taken_more xs p k n = ap (λ ys. take k (drop p xs) ++ take n ys) (sym (drop-drop k p xs)) ∙ sym (take-add k n (drop p xs))
