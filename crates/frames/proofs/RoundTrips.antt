-- A frame that is read is written again byte for byte, and a lawful delta that is written is read again.
use Rattle.std.proofs.Common.{◌≡◌, ℕ, ◌+◌, ◌*◌, ◌^◌, ◌<◌, ◌≤◌, List, ◌++◌, map, length, get_or, take, drop, Ok, Result, sym, refl, ap, ◌∙◌, subst, ⊎_elim, le_of_eq, arith}
use Rattle.std.specs.List.{flat_map}
use Rattle.std.specs.Int.Digits.{AllBelowBase}
use Rattle.std.proofs.lemmas.Nat.{mul-le}
use Rattle.std.proofs.ByRecursion.{All-drop, All-from_get_or}
use Rattle.std.proofs.lemmas.List.{length-map, length-take-le, take_all, take_at}
use Rattle.std.proofs.lemmas.Bool.{cases_lt}
use Rattle.std.proofs.lemmas.List.Folds.{flat_map-map}
use Rattle.units.specs.BigEndian.{number_at}
use Rattle.units.specs.Code.{Code, CodeLaws}
use Rattle.deltas.specs.declared.instruction.Instruction.{Instruction}
use Rattle.deltas.specs.declared.delta.Head.{Head}
use Rattle.deltas.specs.declared.fault.DeltaFault.{DeltaFault}
use Rattle.deltas.specs.Check.{head, Parts, parts, instructions_of, units_of, checked, Lawful, own}
use Rattle.deltas.specs.Places.{total}
use Rattle.deltas.proofs.Sound.{passed, passed_any, own_lawful}
use Rattle.frames.specs.declared.opening.Opening.{Opening}
use Rattle.faults.specs.declared.frame.FrameFault.{FrameFault}
use Rattle.faults.specs.declared.frame.ParseFault.TheVariants.{Frame, Delta}
use Rattle.frames.specs.Instructions.{Wire, wire_bytes}
use Rattle.frames.specs.Reading.{then, with_fault, opening, opened, wires, units_of_wire, entries, inserts_in, delta_in, unpacked, if_lawful, parsed_frame}
use Rattle.frames.specs.Writing.{wire_of, instructions_bytes, frame_bytes, encoded}
use Rattle.frames.proofs.Steps.{then_ok, with_fault_ok}
use Rattle.frames.proofs.Wires.{wires_fit, wires_again, wires_read}
use Rattle.frames.proofs.Openings.{Opened, opening_in, opened_facts, opened_back, frame_bytes_again, length_frame_bytes, frame_bytes_opened, opening_again}
use Rattle.frames.proofs.Tables.{length_entries, length_inserted, wires_of_entries, wires_fitting, entries_of_wires, inserts_of_wires, units_of_wires, length_instructions}

-- deltas of the same three parts are the same
pub same_parts : {U : Type 0} (g h : Head) (is js : List Instruction) (us vs : List U) → g ≡ h → is ≡ js → us ≡ vs → parts g is us ≡ parts h js vs
same_parts g h is js us vs e f k = cc

-- a delta whose tables are just its own entries
pub record Fresh {U : Type 0} (d : Parts U) : Type 0 where
  pub same : own d ≡ d
  pub instructions : d.head.instructions ≡ length d.table
  pub inserted : d.head.inserted ≡ length d.units

-- a number of bytes that is enough for each unit of a target, so that the body's length is of four bytes
room : (w : ℕ) → 7 + 65535 * (3 + w) < 2 ^ 32 → (m : ℕ) × (5 ≤ m) × (3 + w ≤ m) × (7 + 65535 * m < 2 ^ 32)
room w h = ⊎_elim
    (λ l. (5, omega arith, omega arith, omega arith))
    (λ l. (3 + w, omega arith, omega arith, h))
    (cases_lt w 2)

-- a frame's instructions are all of their table
own_entries : (xs : List Wire) → take (length xs) (entries 0 xs) ≡ entries 0 xs
own_entries xs = take_all (length xs) (entries 0 xs) (le_of_eq (length_entries 0 xs))

module _ {U : Type 0} {kind width : ℕ} (c : Code U kind width) where
  -- the delta in a frame by its opening and its instructions
  pub record Unpacked (f : List ℕ) (d : Parts U) : Type 0 where
    pub instructions : List Wire
    pub opened : Opened kind f
    pub read : wires width (number_at 10 2 f) 12 (drop 12 f) ≡ Ok instructions
    pub is : d ≡ delta_in c (opening_in f) instructions

  pub unpacked_facts : (f : List ℕ) (d : Parts U) → unpacked c f ≡ Ok d → Unpacked f d
  unpacked_facts f d h =
      let go : Opening → Result (Parts U) FrameFault = λ o. then (wires width o.instructions 12 (drop 12 f)) (λ xs. Ok (delta_in c o xs)) in
      let a = then_ok (opened kind f) go d h in
      let o = opened_facts kind f a.0 a.1 in
      let found : go (opening_in f) ≡ Ok d = subst (λ (o : Opening). go o ≡ Ok d) o.1 a.2 in
      let b = then_ok (wires width (number_at 10 2 f) 12 (drop 12 f)) (λ xs. Ok (delta_in c (opening_in f) xs)) d found in
      record { instructions = b.0; opened = o.0; read = b.1; is = cc b.2 }

  pub unpacked_back : (f : List ℕ) (xs : List Wire) → Opened kind f → wires width (number_at 10 2 f) 12 (drop 12 f) ≡ Ok xs → unpacked c f ≡ Ok (delta_in c (opening_in f) xs)
  unpacked_back f xs o read =
      let go : Opening → Result (Parts U) FrameFault = λ o. then (wires width o.instructions 12 (drop 12 f)) (λ xs. Ok (delta_in c o xs)) in
      ap (λ (r : Result Opening FrameFault). then r go) (opened_back kind f o)
      ∙ ap (λ (r : Result (List Wire) FrameFault). then r (λ xs. Ok (delta_in c (opening_in f) xs))) read

  -- the tables of the delta in a frame are just its own entries
  own_units : (xs : List Wire) → take (inserts_in xs) (flat_map (units_of_wire c) xs) ≡ flat_map (units_of_wire c) xs
  own_units xs = take_all (inserts_in xs) (flat_map (units_of_wire c) xs) (le_of_eq (length_inserted c xs))

  own_delta_in : (o : Opening) (xs : List Wire) → own (delta_in c o xs) ≡ delta_in c o xs
  own_delta_in o xs = same_parts _ _ _ _ _ _ refl (own_entries xs) (own_units xs)

  fresh_delta_in : (o : Opening) (xs : List Wire) → Fresh (delta_in c o xs)
  fresh_delta_in o xs = record { same = own_delta_in o xs; instructions = sym (length_entries 0 xs); inserted = sym (length_inserted c xs) }

  pub unpacked_fresh : (f : List ℕ) (d : Parts U) → unpacked c f ≡ Ok d → Fresh d
  unpacked_fresh f d h =
      let u = unpacked_facts f d h in
      subst Fresh (sym u.is) (fresh_delta_in (opening_in f) u.instructions)

  -- an accepted frame holds a lawful delta, in tables of just its own entries
  pub parsed_facts : (f : List ℕ) (d : Parts U) → parsed_frame c f ≡ Ok d → (unpacked c f ≡ Ok d) × Lawful d
  parsed_facts f d h =
      let a = then_ok (with_fault Frame (unpacked c f)) if_lawful d h in
      let e = a.0 in
      let b = then_ok (with_fault Delta (checked e)) (λ _. Ok e) d a.2 in
      let same : e ≡ d = cc b.2 in
      subst (λ (d : Parts U). (unpacked c f ≡ Ok d) × Lawful d) same
      (with_fault_ok Frame (unpacked c f) e a.1, passed_any e b.0 (with_fault_ok Delta (checked e) b.0 b.1))

  pub parsed_back : (f : List ℕ) (d : Parts U) → unpacked c f ≡ Ok d → Lawful d → parsed_frame c f ≡ Ok d
  parsed_back f d h l =
      ap (λ (r : Result (Parts U) FrameFault). then (with_fault Frame r) if_lawful) h
      ∙ ap (λ (r : Result Head DeltaFault). then (with_fault Delta r) (λ _. Ok d)) l

  pub accepted : (f : List ℕ) (d : Parts U) → parsed_frame c f ≡ Ok d → Lawful d × Fresh d
  accepted f d h =
      let p = parsed_facts f d h in
      (p.1, unpacked_fresh f d p.0)

  -- a frame is 12 bytes and its instructions
  pub length_frame : (d : Parts U) → length (encoded c d) ≡ 12 + length (instructions_bytes c (units_of d) (instructions_of d))
  length_frame d =
      length_frame_bytes kind d.head.source d.head.target d.head.instructions (instructions_bytes c (units_of d) (instructions_of d))

  -- entries behind a delta's own are not written
  pub encoded_front : (h : Head) (is rest : List Instruction) (us others : List U) → h.instructions ≡ length is → h.inserted ≡ length us → encoded c (parts h (is ++ rest) (us ++ others)) ≡ encoded c (parts h is us)
  encoded_front h is rest us others e f =
      let table = take_at is rest h.instructions (sym e) ∙ sym (take_all h.instructions is (omega arith)) in
      let units = take_at us others h.inserted (sym f) ∙ sym (take_all h.inserted us (omega arith)) in
      let bytes : List Instruction → List U → List ℕ = λ js vs. frame_bytes kind h.source h.target h.instructions (instructions_bytes c vs js) in
      ap (λ (js : List Instruction). bytes js (take h.inserted (us ++ others))) table
      ∙ ap (bytes (take h.instructions is)) units

module _ {U : Type 0} {kind width : ℕ} (c : Code U kind width) (k : CodeLaws c) where
  -- the bytes of a frame's instructions are written again from its delta
  body_again : (f : List ℕ) (xs : List Wire) → AllBelowBase 256 f → wires width (number_at 10 2 f) 12 (drop 12 f) ≡ Ok xs → instructions_bytes c (flat_map (units_of_wire c) xs) (entries 0 xs) ≡ drop 12 f
  body_again f xs u read =
      let fits = wires_fit width (number_at 10 2 f) 12 (drop 12 f) xs read in
      let again = wires_again width (number_at 10 2 f) 12 (drop 12 f) xs (All-drop (λ (b : ℕ). b < 256) 12 f u) read in
      let us = flat_map (units_of_wire c) xs in
      sym (flat_map-map wire_bytes (wire_of c us) (entries 0 xs))
      ∙ ap (flat_map wire_bytes) (wires_of_entries c k us 0 xs fits.1 again.1 refl)
      ∙ again.0

  encoded_delta_in : (f : List ℕ) (xs : List Wire) → AllBelowBase 256 f → Opened kind f → wires width (number_at 10 2 f) 12 (drop 12 f) ≡ Ok xs → encoded c (delta_in c (opening_in f) xs) ≡ f
  encoded_delta_in f xs u o read =
      let s = number_at 6 2 f in
      let t = number_at 8 2 f in
      let count = (wires_fit width (number_at 10 2 f) 12 (drop 12 f) xs read).0 in
      let tables = ap (λ (d : Parts U). instructions_bytes c d.units d.table) (own_delta_in c (opening_in f) xs) in
      let body = tables ∙ body_again f xs u read in
      ap (λ (n : ℕ). frame_bytes kind s t n (instructions_bytes c (units_of (delta_in c (opening_in f) xs)) (instructions_of (delta_in c (opening_in f) xs)))) count
      ∙ ap (frame_bytes kind s t (number_at 10 2 f)) body
      ∙ frame_bytes_again kind f u o

  -- a frame is written again from its delta, lawful or not, byte for byte
  pub frame_again : (f : List ℕ) (d : Parts U) → ((i : ℕ) → get_or f i 0 < 256) → unpacked c f ≡ Ok d → encoded c d ≡ f
  frame_again f d bytes h =
      let x = unpacked_facts c f d h in
      ap (encoded c) x.is ∙ encoded_delta_in f x.instructions (All-from_get_or (λ (b : ℕ). b < 256) f 0 (λ i _. bytes i)) x.opened x.read

  pub bytes_again : (f : List ℕ) (d : Parts U) → ((i : ℕ) → get_or f i 0 < 256) → parsed_frame c f ≡ Ok d → encoded c d ≡ f
  bytes_again f d bytes h = frame_again f d bytes (parsed_facts c f d h).0

  -- the frame of a lawful delta has a length that its first bytes can say
  pub body_fits : (d : Parts U) → Lawful d → d.head.target ≤ 65535 → 7 + length (instructions_bytes c (units_of d) (instructions_of d)) < 2 ^ 32
  body_fits d l short =
      let p = passed d l in
      let m = room width k.frame_fits in
      let long = length_instructions c k (units_of d) d.head.source 0 m.0 (instructions_of d) p.sound m.1 m.2 in
      let most = mul-le (total (instructions_of d)) m.0 65535 m.0 (omega arith) (omega arith) in
      omega (arith, m.3)

  pub frame_fits : (d : Parts U) → Lawful d → d.head.target ≤ 65535 → length (encoded c d) < 5 + 2 ^ 32
  frame_fits d l short = omega (arith, length_frame c d, body_fits d l short)

  -- the instructions in a lawful delta's frame
  wires_in_body : (d : Parts U) → Lawful d → d.head.source ≤ 65535 → d.head.target ≤ 65535 → wires width d.head.instructions 12 (instructions_bytes c (units_of d) (instructions_of d)) ≡ Ok (map (wire_of c (units_of d)) (instructions_of d))
  wires_in_body d l source target =
      let p = passed d l in
      let is = instructions_of d in
      let us = units_of d in
      let long = length-take-le d.head.inserted d.units p.inserted in
      let fits = wires_fitting c k us d.head.source 0 is p.sound (omega arith) (omega arith) (omega arith) in
      let count = length-map is (wire_of c us) ∙ length-take-le d.head.instructions d.table p.instructions in
      ap (wires width d.head.instructions 12) (sym (flat_map-map wire_bytes (wire_of c us) is))
      ∙ ap (λ (n : ℕ). wires width n 12 (flat_map wire_bytes (map (wire_of c us) is))) (sym count)
      ∙ wires_read width 12 (map (wire_of c us) is) fits

  -- those instructions make its tables again
  delta_in_body : (d : Parts U) → Lawful d → delta_in c (opening d.head.source d.head.target d.head.instructions) (map (wire_of c (units_of d)) (instructions_of d)) ≡ own d
  delta_in_body d l =
      let p = passed d l in
      let is = instructions_of d in
      let us = units_of d in
      let long = length-take-le d.head.inserted d.units p.inserted in
      let count = length-map is (wire_of c us) ∙ length-take-le d.head.instructions d.table p.instructions in
      let inserted = inserts_of_wires c us is ∙ p.count in
      let heads = ap (λ (n : ℕ). head d.head.source d.head.target n (inserts_in (map (wire_of c us) is))) count ∙ ap (head d.head.source d.head.target d.head.instructions) inserted in
      same_parts _ _ _ _ _ _ heads (entries_of_wires c us d.head.source 0 is p.sound) (units_of_wires c k us d.head.source 0 is p.sound (omega arith))

  -- a lawful delta is read again from its frame
  pub delta_unpacked : (d : Parts U) → Lawful d → d.head.source ≤ 65535 → d.head.target ≤ 65535 → unpacked c (encoded c d) ≡ Ok (own d)
  delta_unpacked d l source target =
      let body = instructions_bytes c (units_of d) (instructions_of d) in
      let p = passed d l in
      let found = opening_again kind d.head.source d.head.target d.head.instructions body (omega arith) (omega arith) (omega arith) in
      let xs = map (wire_of c (units_of d)) (instructions_of d) in
      let read = ap (λ (o : Opening). wires width o.instructions 12 body) found ∙ wires_in_body d l source target in
      unpacked_back c (encoded c d) xs (frame_bytes_opened kind d.head.source d.head.target d.head.instructions body (body_fits d l target)) read
      ∙ ap (λ (o : Opening). Ok (delta_in c o xs)) found
      ∙ ap Ok (delta_in_body d l)

  pub delta_again : (d : Parts U) → Lawful d → d.head.source ≤ 65535 → d.head.target ≤ 65535 → parsed_frame c (encoded c d) ≡ Ok (own d)
  delta_again d l source target = parsed_back c (encoded c d) (own d) (delta_unpacked d l source target) (own_lawful d l)
