-- A delta's tables and the instructions of a frame: each made from the other, and back.
use Rattle.std.proofs.Common.{◌≡◌, ℕ, zero, suc, ◌+◌, ◌*◌, ◌^◌, ◌<◌, ◌≤◌, List, [], ◌∷◌, ◌++◌, map, length, get_or, take, drop, sym, refl, ap, ◌∙◌, subst, ⊎_elim, add-zero, suc-mul, add-mul, zero-mul, mul-add, arith}
use Rattle.std.specs.List.{flat_map, AllByRecursion}
use Rattle.std.specs.Int.Digits.{AllBelowBase}
use Rattle.std.proofs.ByRecursion.{All-take, All-drop, All-get_or}
use Rattle.std.proofs.lemmas.List.{length-append, length-drop, length-take, length-take-le, take-append-drop, take_at, drop_at, drop-drop, drop_all, get_or_past, nil_from_length}
use Rattle.std.proofs.lemmas.Nat.{mul-le}
use Rattle.std.proofs.lemmas.Bool.{cases_lt}
use Rattle.units.specs.Code.{Code, CodeLaws}
use Rattle.deltas.specs.declared.instruction.Instruction.{Instruction}
use Rattle.deltas.specs.declared.instruction.Op.{Op}
use Rattle.deltas.specs.declared.instruction.Op.TheVariants.{Copy, Insert}
use Rattle.deltas.specs.Instructions.{instruction}
use Rattle.deltas.specs.Places.{total}
use Rattle.deltas.specs.Meaning.{inserted_by, inserted_in, Placed}
use Rattle.deltas.proofs.Sound.{Sound, length_inside}
use Rattle.frames.specs.Instructions.{Wire, copy, insert, extent, inserts_of, Fitting}
use Rattle.frames.specs.Reading.{units_in, units_of_wire, entry, entries, inserts_in}
use Rattle.frames.specs.Writing.{wire_given, wire_of, instructions_bytes}
use Rattle.frames.proofs.Numbers.{part_then}
use Rattle.frames.proofs.Wires.{Bytely, length_wire_bytes}

-- bytes are bytes at every index, past their end too
under_at : (bs : List ℕ) → AllBelowBase 256 bs → (i : ℕ) → get_or bs i 0 < 256
under_at bs u i = ⊎_elim
    (λ h. All-get_or (λ (b : ℕ). b < 256) bs i 0 h u)
    (λ h. let e = get_or_past bs i 0 h in omega arith)
    (cases_lt i (length bs))

-- as many entries as instructions
pub length_entries : (k : ℕ) (xs : List Wire) → length (entries k xs) ≡ length xs
length_entries k [] = refl
length_entries k (x ∷ xs) = ap suc (length_entries (k + inserts_of x) xs)

module _ {U : Type 0} {kind width : ℕ} (c : Code U kind width) where
  -- as many units as are asked for, whatever the bytes
  pub length_units_in : (n : ℕ) (bs : List ℕ) → length (units_in c n bs) ≡ n
  length_units_in zero bs = refl
  length_units_in (suc n) bs = ap suc (length_units_in n (drop width bs))

  pub length_units_of_wire : (x : Wire) → length (units_of_wire c x) ≡ inserts_of x
  length_units_of_wire (copy p n) = refl
  length_units_of_wire (insert n bs) = length_units_in n bs

  pub length_inserted : (xs : List Wire) → length (flat_map (units_of_wire c) xs) ≡ inserts_in xs
  length_inserted [] = refl
  length_inserted (x ∷ xs) = rw length-append (omega (arith, length_units_of_wire x, length_inserted xs))

  -- n units at p, after i inserted ones, as they stand in a frame
  entry_given : (us : List U) (s i : ℕ) (o : Op) (p n : ℕ) → Placed s i o p n → entry i (wire_given c us o p n) ≡ instruction o p n
  entry_given us s i Copy p n h = refl
  entry_given us s i Insert p n h = let at : p ≡ i = h in cc

  inserts_given : (us : List U) (o : Op) (p n : ℕ) → inserts_of (wire_given c us o p n) ≡ inserted_by o n
  inserts_given us Copy p n = refl
  inserts_given us Insert p n = refl

  -- sound instructions are the table of their frame, which inserts as many units
  pub entries_of_wires : (us : List U) (s i : ℕ) (is : List Instruction) → Sound s i is → entries i (map (wire_of c us) is) ≡ is
  entries_of_wires us s i [] h = refl
  entries_of_wires us s i (j ∷ is) h =
      let one = entry_given us s i j.op j.from j.length h.1 in
      let by = inserts_given us j.op j.from j.length in
      let more = entries_of_wires us s (i + inserted_by j.op j.length) is h.2 in
      cc (one, by, more)

  pub inserts_of_wires : (us : List U) (is : List Instruction) → inserts_in (map (wire_of c us) is) ≡ inserted_in is
  inserts_of_wires us [] = refl
  inserts_of_wires us (j ∷ is) =
      let by = inserts_given us j.op j.from j.length in
      let more = inserts_of_wires us is in
      omega arith

module _ {U : Type 0} {kind width : ℕ} (c : Code U kind width) (k : CodeLaws c) where
  -- units that are read are written again
  pub units_again : (n : ℕ) (bs : List ℕ) → length bs ≡ n * width → AllBelowBase 256 bs → flat_map c.written (units_in c n bs) ≡ bs
  units_again zero bs long u = sym (nil_from_length bs (omega (arith, zero-mul width)))
  units_again (suc n) bs long u =
      let w = width in
      let more = suc-mul n w in
      let one = k.written_parsed (take w bs) (length-take-le w bs (omega arith)) (under_at (take w bs) (All-take (λ (b : ℕ). b < 256) w bs u)) in
      let rest = units_again n (drop w bs) (rw length-drop (omega arith)) (All-drop (λ (b : ℕ). b < 256) w bs u) in
      let whole = take-append-drop w bs in
      cc

  -- units that are written are read again
  pub units_read : (n : ℕ) (us : List U) → length us ≡ n → units_in c n (flat_map c.written us) ≡ us
  units_read zero [] long = refl
  units_read zero (x ∷ us) long = absurd (omega arith)
  units_read (suc n) [] long = absurd (omega arith)
  units_read (suc n) (x ∷ us) long =
      let w = width in
      let rest = flat_map c.written us in
      let front = take_at (c.written x) rest w (k.length_written x) in
      let back = drop_at (c.written x) rest w (k.length_written x) in
      let more = units_read n us (omega arith) in
      let one = k.parsed_written x in
      cc

  -- every unit takes as many bytes
  pub length_joined_written : (us : List U) → length (flat_map c.written us) ≡ length us * width
  length_joined_written [] = sym (zero-mul width)
  length_joined_written (x ∷ us) =
      let more = suc-mul (length us) width in
      rw length-append (omega (arith, k.length_written x, length_joined_written us))

  -- The tables of a frame's instructions.

  -- an instruction is found again behind the units of those before it
  wire_again : (us rest : List U) (i : ℕ) (x : Wire) → Fitting width x → Bytely x → drop i us ≡ units_of_wire c x ++ rest → (wire_of c us (entry i x) ≡ x) × (drop (i + inserts_of x) us ≡ rest)
  wire_again us rest i (copy p n) f b e = (refl, rw add-zero e)
  wire_again us rest i (insert n bs) f b e =
      let own = units_in c n bs in
      let long = length_units_in c n bs in
      let front = ap (take n) e ∙ take_at own rest n long in
      let back = sym (drop-drop n i us) ∙ ap (drop n) e ∙ drop_at own rest n long in
      let bytes = units_again n bs f.1 b in
      (ap (λ (vs : List U). insert n (flat_map c.written vs)) front ∙ ap (insert n) bytes, back)

  pub wires_of_entries : (us : List U) (i : ℕ) (xs : List Wire) → AllByRecursion (Fitting width) xs → AllByRecursion Bytely xs → drop i us ≡ flat_map (units_of_wire c) xs → map (wire_of c us) (entries i xs) ≡ xs
  wires_of_entries us i [] f b e = refl
  wires_of_entries us i (x ∷ xs) f b e =
      let one = wire_again us (flat_map (units_of_wire c) xs) i x f.0 b.0 e in
      let more = wires_of_entries us (i + inserts_of x) xs f.1 b.1 one.1 in
      cc (one.0, more)

  -- The instructions of a delta's tables.

  -- n units at p, after i inserted ones, fit a frame, and are read again from it
  fitting_given : (us : List U) (s i : ℕ) (o : Op) (p n : ℕ) → Placed s i o p n → i + inserted_by o n ≤ length us → s < 256 ^ 2 → n < 256 ^ 2 → Fitting width (wire_given c us o p n)
  fitting_given us s i Copy p n h room small short = (omega arith, short)
  fitting_given us s i Insert p n h room small short =
      let at : p ≡ i = h in
      let own = take n (drop p us) in
      let long = length_inside us p n (length us) (omega arith) (omega arith) in
      (short, length_joined_written own ∙ ap (λ (m : ℕ). m * width) long)

  units_given : (us : List U) (s i : ℕ) (o : Op) (p n : ℕ) → Placed s i o p n → i + inserted_by o n ≤ length us → units_of_wire c (wire_given c us o p n) ++ drop (i + inserted_by o n) us ≡ drop i us
  units_given us s i Copy p n h room = ap (λ (m : ℕ). drop m us) (add-zero i)
  units_given us s i Insert p n h room =
      let at : p ≡ i = h in
      let own = take n (drop p us) in
      let long = length_inside us p n (length us) (omega arith) (omega arith) in
      let read = units_read n own long in
      let whole = part_then p n us in
      ap (λ (vs : List U). vs ++ drop (i + n) us) read ∙ subst (λ (m : ℕ). own ++ drop (m + n) us ≡ drop m us) at whole

  -- sound instructions fit a frame, and their units are read again from it
  pub wires_fitting : (us : List U) (s i : ℕ) (is : List Instruction) → Sound s i is → i + inserted_in is ≤ length us → s < 256 ^ 2 → total is < 256 ^ 2 → AllByRecursion (Fitting width) (map (wire_of c us) is)
  wires_fitting us s i [] h room small short = tt
  wires_fitting us s i (j ∷ is) h room small short = (
    fitting_given us s i j.op j.from j.length h.1 (omega arith) small (omega arith),
    wires_fitting us s (i + inserted_by j.op j.length) is h.2 (omega arith) small (omega arith),
  )

  pub units_of_wires : (us : List U) (s i : ℕ) (is : List Instruction) → Sound s i is → i + inserted_in is ≡ length us → flat_map (units_of_wire c) (map (wire_of c us) is) ≡ drop i us
  units_of_wires us s i [] h all = sym (drop_all i us (omega arith))
  units_of_wires us s i (j ∷ is) h all =
      let more = units_of_wires us s (i + inserted_by j.op j.length) is h.2 (omega arith) in
      ap (λ (t : List U). units_of_wire c (wire_of c us j) ++ t) more
      ∙ units_given us s i j.op j.from j.length h.1 (omega arith)

  -- How many bytes they take: at most m for each unit of the target, where no instruction of one unit takes more.

  extent_given : (us : List U) (o : Op) (p n m : ℕ) → 0 < n → 5 ≤ m → 3 + width ≤ m → extent (wire_given c us o p n) ≤ n * m
  extent_given us Copy p n m some five three = let most = mul-le 1 5 n m some five in omega arith
  extent_given us Insert p n m some five three =
      let w = width in
      let own = take n (drop p us) in
      let few : length own ≤ n = rw length-take (omega arith) in
      let bytes = mul-le (length own) w n w few (omega arith) in
      let most = mul-le n (3 + w) n m (omega arith) three in
      let apart = mul-add n 3 w in
      omega (arith, length_joined_written own)

  pub length_instructions : (us : List U) (s i m : ℕ) (is : List Instruction) → Sound s i is → 5 ≤ m → 3 + width ≤ m → length (instructions_bytes c us is) ≤ total is * m
  length_instructions us s i m [] h five three = omega arith
  length_instructions us s i m (j ∷ is) h five three =
      let one = extent_given us j.op j.from j.length m h.0 five three in
      let long = length_wire_bytes (wire_of c us j) in
      let more = length_instructions us s (i + inserted_by j.op j.length) m is h.2 five three in
      let both = add-mul j.length (total is) m in
      rw length-append (omega arith)
