-- An accepted frame, and the tables that it is read into.
use Rattle.std.proofs.Common.{◌≡◌, ℕ, ◌+◌, ◌-◌, ◌<◌, ◌≤◌, List, ◌++◌, length, get_or, take, drop, replicate, Ok, sym, ap, ◌∙◌, subst, arith}
use Rattle.std.specs.List.{flat_map}
use Rattle.std.proofs.lemmas.List.Edits.{sets, sets-eq}
use Rattle.std.proofs.lemmas.List.{take_at}
use Rattle.std.proofs.lemmas.Bool.Decides.{nat_tests}
use Rattle.units.specs.Code.{Code, CodeLaws}
use Rattle.units.specs.BigEndian.{number_at}
use Rattle.deltas.specs.declared.delta.Head.{Head}
use Rattle.deltas.specs.declared.instruction.Instruction.{Instruction}
use Rattle.deltas.specs.Check.{Parts, parts}
use Rattle.deltas.proofs.Sound.{passed}
use Rattle.faults.specs.declared.frame.ReadFault.TheVariants as read
use Rattle.frames.specs.Instructions.{Wire}
use Rattle.frames.specs.Reading.{then, with_fault, wires, units_of_wire, entries, inserts_in, delta_in, parsed_frame}
use Rattle.frames.specs.Writing.{encoded}
use Rattle.frames.specs.Outcomes.{check_answer, if_fits, read_answer, held}
use Rattle.frames.specs.Steps.{found, left, wires_in}
use Rattle.frames.specs.declared.reader.WireReader.{WireReader}
use Rattle.frames.proofs.Steps.{then_ok}
use Rattle.frames.proofs.Wires.{wires_fit}
use Rattle.frames.proofs.Openings.{opening_in}
use Rattle.frames.proofs.Tables.{length_entries, length_inserted}
use Rattle.frames.proofs.RoundTrips.{accepted, parsed_facts, unpacked_facts, encoded_front, bytes_again}
use Rattle.frames.proofs.Walks.{at_first}
use Rattle.std.proofs.Math.Seq.{length-sets}

-- a table whose front was written, and whose rest was blanked
front_blanked : {A : Type 0} (t x y vs : List A) (n : ℕ) (a b : A) → n ≡ length vs → n ≤ length t → x ≡ sets t 0 vs → a ≡ b → y ≡ take n x ++ replicate (length x - n) a → y ≡ vs ++ replicate (length t - length vs) b
front_blanked t x y vs n a b e l f g h =
    let front = ap (take n) (f ∙ sets-eq vs t 0 (omega arith)) ∙ take_at vs (drop (0 + length vs) t) n (sym e) in
    let left : length x - n ≡ length t - length vs = omega (arith, ap length f, length-sets t 0 vs) in
    h
    ∙ ap (λ xs. xs ++ replicate (length x - n) a) front
    ∙ ap (λ m. vs ++ replicate m a) left
    ∙ ap (λ z. vs ++ replicate (length t - length vs) z) g

module _ {U : Type 0} {kind width : ℕ} (c : Code U kind width) where
  -- all that is known of a frame that passed its check
  pub record Received (f : List ℕ) (h : Head) : Type 0 where
    pub instructions : List Wire
    pub delta : parsed_frame c f ≡ Ok (delta_in c (opening_in f) instructions)
    pub head : (delta_in c (opening_in f) instructions).head ≡ h
    pub long : 12 ≤ length f
    pub stands : wires width h.instructions 12 (drop 12 f) ≡ Ok instructions
    pub few : inserts_in instructions ≤ 65535

  received_from : (f : List ℕ) (h : Head) (d : Parts U) → parsed_frame c f ≡ Ok d → d.head ≡ h → Received f h
  received_from f h d p e =
      let u = unpacked_facts c f d (parsed_facts c f d p).0 in
      let l = (accepted c f d p).0 in
      let n : number_at 10 2 f ≡ h.instructions = sym (wires_fit width (number_at 10 2 f) 12 (drop 12 f) u.instructions u.read).0 ∙ ap (λ g. g.head.instructions) (sym u.is) ∙ ap (λ g. g.instructions) e in
      record {
        instructions = u.instructions;
        delta = p ∙ ap Ok u.is;
        head = ap (λ g. g.head) (sym u.is) ∙ e;
        long = u.opened.long;
        stands = ap (λ m. wires width m 12 (drop 12 f)) (sym n) ∙ u.read;
        few = subst (λ g. g.head.inserted ≤ 65535) u.is (passed d l).small;
      }

  pub received : (f : List ℕ) (h : Head) → Ok h ≡ check_answer c f → Received f h
  received f h e =
      let t = then_ok (parsed_frame c f) (λ d. Ok d.head) h (sym e) in
      let s : t.0.head ≡ h = cc t.2 in
      received_from f h t.0 t.1 s

  pub read_ok : (f : List ℕ) (h : Head) (i u : ℕ) → Received f h → h.instructions ≤ i → h.inserted ≤ u → Ok h ≡ read_answer c f i u
  read_ok f h i u r a b =
      let d = delta_in c (opening_in f) r.instructions in
      let fits : if_fits i u d ≡ Ok h = subst (λ g. if_fits i u (parts g d.table d.units) ≡ Ok h) (sym r.head) (grind (arith, nat_tests)) in
      sym (ap (λ q. then (with_fault read.Unread q) (if_fits i u)) r.delta ∙ fits)

  -- The tables, after the instructions of a reader behind the first 12 bytes were written and the rest was blanked.
  module _ (f : List ℕ) (h : Head) (r : Received f h) (q : WireReader) (qf : q.frame.now ≡ f) (qp : q.place ≡ 12) where
    pub left_is : left width h.instructions q ≡ Ok r.instructions
    left_is = at_first width h.instructions q f qf qp ∙ r.stands

    -- what a reader reads of it is its instructions
    pub wires_are : wires_in width h.instructions q ≡ r.instructions
    wires_are = ap found left_is

    pub read_instructions : (t x y : List Instruction) (n : ℕ) (a b : Instruction) → n ≡ h.instructions → h.instructions ≤ length t → x ≡ sets t 0 (entries 0 (wires_in width h.instructions q)) → a ≡ b → y ≡ take n x ++ replicate (length x - n) a → y ≡ held (parsed_frame c f) (λ d. d.table) ++ replicate (length t - length (held (parsed_frame c f) (λ d. d.table))) b
    read_instructions t x y n a b s l e g k =
        let m : n ≡ length (entries 0 r.instructions) = s ∙ sym (length_entries 0 r.instructions ∙ ap (λ g. g.instructions) r.head) in
        front_blanked t x y (entries 0 r.instructions) n a b m (omega arith) (e ∙ ap (λ xs. sets t 0 (entries 0 xs)) wires_are) g k
        ∙ ap (λ z. held z (λ d. d.table) ++ replicate (length t - length (held z (λ d. d.table))) b) (sym r.delta)

    pub read_units : (t x y : List U) (n : ℕ) (a b : U) → n ≡ h.inserted → h.inserted ≤ length t → x ≡ sets t 0 (flat_map (units_of_wire c) (wires_in width h.instructions q)) → a ≡ b → y ≡ take n x ++ replicate (length x - n) a → y ≡ held (parsed_frame c f) (λ d. d.units) ++ replicate (length t - length (held (parsed_frame c f) (λ d. d.units))) b
    read_units t x y n a b s l e g k =
        let m : n ≡ length (flat_map (units_of_wire c) r.instructions) = s ∙ sym (length_inserted c r.instructions ∙ ap (λ g. g.inserted) r.head) in
        front_blanked t x y (flat_map (units_of_wire c) r.instructions) n a b m (omega arith) (e ∙ ap (λ xs. sets t 0 (flat_map (units_of_wire c) xs)) wires_are) g k
        ∙ ap (λ z. held z (λ d. d.units) ++ replicate (length t - length (held z (λ d. d.units))) b) (sym r.delta)

module _ {U : Type 0} {kind width : ℕ} (c : Code U kind width) (k : CodeLaws c) where
  -- what was read is written again
  pub read_again : (f : List ℕ) (h : Head) (is rest : List Instruction) (us others : List U) → ((i : ℕ) → get_or f i 0 < 256) → Received c f h → is ≡ held (parsed_frame c f) (λ d. d.table) ++ rest → us ≡ held (parsed_frame c f) (λ d. d.units) ++ others → encoded c (parts h is us) ≡ f
  read_again f h is rest us others b r i u =
      let d = delta_in c (opening_in f) r.instructions in
      let ti = i ∙ ap (λ q. held q (λ e. e.table) ++ rest) r.delta in
      let tu = u ∙ ap (λ q. held q (λ e. e.units) ++ others) r.delta in
      let ni : h.instructions ≡ length d.table = ap (λ g. g.instructions) (sym r.head) ∙ sym (length_entries 0 r.instructions) in
      let nu : h.inserted ≡ length d.units = ap (λ g. g.inserted) (sym r.head) ∙ sym (length_inserted c r.instructions) in
      ap (λ x. encoded c (parts h x us)) ti
      ∙ ap (λ x. encoded c (parts h (d.table ++ rest) x)) tu
      ∙ encoded_front c h d.table rest d.units others ni nu
      ∙ ap (λ g. encoded c (parts g d.table d.units)) (sym r.head)
      ∙ bytes_again c k f d b r.delta
