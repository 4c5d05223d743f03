-- What the functions that write the output tables leave in them.
use Rattle.std.proofs.Common.{◌≡◌, ℕ, zero, suc, ◌+◌, ◌-◌, ◌<◌, ◌≤◌, true, false, List, [], ◌∷◌, ◌++◌, map, length, get_or, take, drop, set, sym, refl, ap, ◌∙◌, subst, arith}
use Rattle.std.proofs.lemmas.List.{append_assoc, append-nil, take_more, take_more_set, length-take, length-drop, length-map, length-append}
use Rattle.std.proofs.lemmas.Bool.{cond-true, cond-false}
use Rattle.deltas.specs.declared.instruction.Instruction.{Instruction}
use Rattle.deltas.specs.declared.instruction.Op.{Op}
use Rattle.deltas.specs.declared.instruction.Op.TheVariants.{Copy, Insert}
use Rattle.combining.specs.declared.write.Output.{Output}
use Rattle.deltas.specs.Instructions.{instruction, blank_instruction}
use Rattle.combining.specs.Joining.{goes_on, longer}
use Rattle.deltas.specs.Origins.{Origin, inserted, copies, given, piece, inserts}
use Rattle.combining.specs.Normal.{extend, runs_after}
use Rattle.deltas.specs.Places.{total, Inside}
use Rattle.combining.specs.Steps.{written_instructions, written_units, Space, SameTables, Appended}
use Rattle.combining.proofs.Runs.{runs_append, inserts_append, inserts_copies, runs_copies, inserts_map, runs_inserted, total_append, total_runs, length_inserts}
use Rattle.deltas.proofs.Sound.{length_copies}

-- only the last instruction is looked at
extend_push : (is : List Instruction) (a i : Instruction) → extend (is ++ a ∷ []) i ≡ is ++ extend (a ∷ []) i
extend_push [] a i = refl
extend_push (b ∷ []) a i = refl
extend_push (b ∷ d ∷ is) a i = ap (λ js. b ∷ js) (extend_push (d ∷ is) a i)

-- the first entries of a table, with the last of them apart
last_apart : (out : List Instruction) (count : ℕ) → 0 < count → count ≤ length out → take count out ≡ take (count - 1) out ++ get_or out (count - 1) blank_instruction ∷ []
last_apart out count p l =
    let e : count - 1 + 1 ≡ count = omega arith in
    let h : count - 1 < length out = omega arith in
    ap (λ n. take n out) (sym e) ∙ take_more out (count - 1) blank_instruction h

-- the last instruction is no longer than all of them
pub last_length : (out : List Instruction) (count : ℕ) → 0 < count → count ≤ length out → (get_or out (count - 1) blank_instruction).length ≤ total (take count out)
last_length out count p l =
    let a = get_or out (count - 1) blank_instruction in
    let e = ap total (last_apart out count p l) ∙ total_append (take (count - 1) out) (a ∷ []) in
    omega arith

-- the first run
pub emit_first : (out : List Instruction) (count : ℕ) (next : Instruction) → count < length out → count ≤ 0 → take (count + 1) (set out count next) ≡ extend (take count out) next
emit_first out zero next l z = take_more_set out 0 next l
emit_first out (suc count) next l z = absurd (omega arith)

-- the last run grows
pub emit_grown : (out : List Instruction) (count : ℕ) (next : Instruction) → 0 < count → count ≤ length out → goes_on (get_or out (count - 1) blank_instruction) next ≡ true → take count (set out (count - 1) (longer (get_or out (count - 1) blank_instruction) next.length)) ≡ extend (take count out) next
emit_grown out count next p l t =
    let a = get_or out (count - 1) blank_instruction in
    let s : count - 1 + 1 ≡ count = omega arith in
    ap (λ n. take n (set out (count - 1) (longer a next.length))) (sym s)
    ∙ take_more_set out (count - 1) (longer a next.length) (omega arith)
    ∙ ap (λ js. take (count - 1) out ++ js) (sym (cond-true (goes_on a next) _ _ t))
    ∙ sym (extend_push (take (count - 1) out) a next)
    ∙ ap (λ is. extend is next) (sym (last_apart out count p l))

-- a new run begins
pub emit_new : (out : List Instruction) (count : ℕ) (next : Instruction) → 0 < count → count < length out → goes_on (get_or out (count - 1) blank_instruction) next ≡ false → take (count + 1) (set out count next) ≡ extend (take count out) next
emit_new out count next p l t =
    let a = get_or out (count - 1) blank_instruction in
    let h : count ≤ length out = omega arith in
    take_more_set out count next l
    ∙ ap (λ is. is ++ next ∷ []) (last_apart out count p h)
    ∙ append_assoc (take (count - 1) out) (a ∷ []) (next ∷ [])
    ∙ ap (λ js. take (count - 1) out ++ js) (sym (cond-false (goes_on a next) _ _ t))
    ∙ sym (extend_push (take (count - 1) out) a next)
    ∙ ap (λ is. extend is next) (sym (last_apart out count p h))

pub inside_insert : (s m p n : ℕ) (o : Op) → o ≡ Insert → Inside s m o p n → p + n ≤ m
inside_insert s m p n o e h = subst (λ q. Inside s m q p n) e h

pub inside_copy : (s m p n : ℕ) (o : Op) → o ≡ Copy → Inside s m o p n → p + n ≤ s
inside_copy s m p n o e h = subst (λ q. Inside s m q p n) e h

module _ {U : Type 0} where
  -- a copy was appended
  append_copy_at : (o o' : Output U) (p n : ℕ) → 0 < n → SameTables o o' → written_instructions o' ≡ extend (written_instructions o) (instruction Copy p n) → o'.count ≤ o.count + 1 → written_units o' ≡ written_units o → o'.inserted ≡ o.inserted → Appended (copies p n) o o'
  append_copy_at o o' p n h same t b u e =
      record {
        tables = same;
        instructions = t ∙ sym (runs_copies U (written_instructions o) o.inserted p n h);
        units = u ∙ sym (ap (λ vs. written_units o ++ vs) (inserts_copies U p n) ∙ append-nil (written_units o));
        count = omega (arith, length_copies U p n);
        inserted = omega (arith, ap length (inserts_copies U p n));
      }

  pub append_copy : (source : List U) (o o' : Output U) (i : Instruction) → i.op ≡ Copy → 0 < i.length → SameTables o o' → written_instructions o' ≡ extend (written_instructions o) i → o'.count ≤ o.count + 1 → written_units o' ≡ written_units o → o'.inserted ≡ o.inserted → Appended (piece source i) o o'
  append_copy source o o' i e h same t b u n =
      subst (λ p. written_instructions o' ≡ extend (written_instructions o) (instruction p i.from i.length) → Appended (given source p i.from i.length) o o')
      (sym e) (λ s. append_copy_at o o' i.from i.length h same s b u n) t

  -- an insert was appended
  append_insert_at : (vs : List U) (o o' : Output U) → 0 < length vs → SameTables o o' → written_instructions o' ≡ extend (written_instructions o) (instruction Insert o.inserted (length vs)) → o'.count ≤ o.count + 1 → written_units o' ≡ written_units o ++ vs → o'.inserted ≡ o.inserted + length vs → Appended (map inserted vs) o o'
  append_insert_at vs o o' h same t b u n =
      record {
        tables = same;
        instructions = t ∙ sym (runs_inserted (written_instructions o) o.inserted vs h);
        units = u ∙ ap (λ xs. written_units o ++ xs) (sym (inserts_map vs));
        count = omega (arith, length-map vs inserted);
        inserted = omega (arith, ap length (inserts_map vs));
      }

  pub append_insert : (source : List U) (o o' : Output U) (i : Instruction) → i.op ≡ Insert → 0 < i.length → i.from + i.length ≤ length source → SameTables o o' → written_instructions o' ≡ extend (written_instructions o) (instruction Insert o.inserted i.length) → o'.count ≤ o.count + 1 → written_units o' ≡ written_units o ++ take i.length (drop i.from source) → o'.inserted ≡ o.inserted + i.length → Appended (piece source i) o o'
  append_insert source o o' i e h l same t b u n =
      let vs = take i.length (drop i.from source) in
      let m : length vs ≡ i.length = omega (arith, length-take i.length (drop i.from source), length-drop i.from source) in
      subst (λ p. Appended (given source p i.from i.length) o o') (sym e)
      (append_insert_at vs o o' (omega arith) same (t ∙ ap (λ k. extend (written_instructions o) (instruction Insert o.inserted k)) (sym m)) b u (omega arith))

  -- one part was appended after another
  pub appended_then : {os ps : List (Origin U)} {o o' o'' : Output U} → Appended os o o' → Appended ps o' o'' → Appended (os ++ ps) o o''
  appended_then {os} {ps} {o} {o'} a b =
      record {
        tables = record {
          instructions = b.tables.instructions ∙ a.tables.instructions;
          units = b.tables.units ∙ a.tables.units;
          entries = b.tables.entries ∙ a.tables.entries;
          room = b.tables.room ∙ a.tables.room;
        };
        instructions = b.instructions ∙ ap (λ is. runs_after is o'.inserted ps) a.instructions ∙ ap (λ k. runs_after (runs_after (written_instructions o) o.inserted os) k ps) a.inserted ∙ sym (runs_append (written_instructions o) o.inserted os ps);
        units = b.units ∙ ap (λ vs. vs ++ inserts ps) a.units ∙ append_assoc (written_units o) (inserts os) (inserts ps) ∙ ap (λ vs. written_units o ++ vs) (sym (inserts_append os ps));
        count = omega (arith, length-append os ps, a.count, b.count);
        inserted = omega (arith, a.inserted, b.inserted, ap length (inserts_append os ps), length-append (inserts os) (inserts ps));
      }

  -- nothing was appended
  pub appended_none : (o : Output U) → Appended [] o o
  appended_none o =
      record {
        tables = record { instructions = refl; units = refl; entries = refl; room = refl };
        instructions = refl;
        units = sym (append-nil (written_units o));
        count = omega arith;
        inserted = omega arith;
      }

  -- the room that is left after some places of those that there was room for
  pub space_left : {os : List (Origin U)} {o o' : Output U} (n m : ℕ) → n ≡ length os + m → Appended os o o' → Space o n → Space o' m
  space_left {os} {o} n m e a s =
      let t = ap total a.instructions ∙ total_runs (written_instructions o) o.inserted os in
      let k = length_inserts os in
      record {
        instructions = omega (arith, a.tables.entries, a.count, s.instructions);
        inserted = omega (arith, a.tables.room, a.inserted, s.inserted);
        places = omega (arith, t, s.places);
        numbers = omega (arith, a.inserted, s.numbers);
      }

  -- room for fewer places
  pub space_less : {o : Output U} {n : ℕ} (m : ℕ) → m ≤ n → Space o n → Space o m
  space_less m l s =
      record { instructions = omega (arith, s.instructions); inserted = omega (arith, s.inserted); places = omega (arith, s.places); numbers = omega (arith, s.numbers) }
