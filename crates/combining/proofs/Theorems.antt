use Rattle.std.proofs.Common.{◌≡◌, ℕ, ◌≤◌, List, [], length, take, sym, refl, ap, ◌∙◌, subst, arith, length-take-le, take_all}
use lib.Seq.{take-length}
use Rattle.std.proofs.lemmas.List.{length-map}
use Rattle.deltas.specs.declared.instruction.Instruction.{Instruction}
use Rattle.deltas.specs.declared.delta.Head.{Head}
use Rattle.deltas.specs.Check.{Parts, parts, Lawful, instructions_of, units_of}
use Rattle.deltas.specs.Origins.{Origin, origins, origins_of, inserts, Within, applied}
use Rattle.combining.specs.Normal.{Longest, Normal, runs, normal_head, normal}
use Rattle.combining.specs.Combine.{Meet, origin_through, through, combined_origins}
use Rattle.deltas.specs.Places.{total}
use Rattle.combining.specs.Laws.{Same, StaysInside, OneNormalForm, Fewest, CombinedIsNormal, Associative, Applies}
use Rattle.combining.proofs.Runs.{length_runs, length_inserts, total_runs}
use Rattle.deltas.proofs.Sound.{inserted_in, Sound, passed, lawful, lawful_fits, length_origins, within_origins}
use Rattle.combining.proofs.NormalForm.{origins_runs, sound_runs, inserted_runs, apart_decides, apart_runs, extends, inserts_origins, runs_origins, length_extends, extends_apart}
use Rattle.combining.proofs.Composing.{through_through, applied_through, within_through}

-- two heads with the same fields
head_same : (h g : Head) → h.source ≡ g.source → h.target ≡ g.target → h.instructions ≡ g.instructions → h.inserted ≡ g.inserted → h ≡ g
head_same h g s t i u =
    let fields : ℕ → ℕ → ℕ → ℕ → Head = λ a b c d. record { source = a; target = b; instructions = c; inserted = d } in
    let e : fields h.source h.target h.instructions h.inserted ≡ fields g.source g.target g.instructions g.inserted = cc in e

module _ {U : Type 0} where
  -- What a lawful delta gives.

  length_instructions : (a : Parts U) → Lawful a → length (instructions_of a) ≡ a.head.instructions
  length_instructions a l = length-take-le a.head.instructions a.table (passed a l).instructions

  pub length_units : (a : Parts U) → Lawful a → length (units_of a) ≡ a.head.inserted
  length_units a l = length-take-le a.head.inserted a.units (passed a l).inserted

  pub length_target : (a : Parts U) → Lawful a → length (origins_of a) ≡ a.head.target
  length_target a l =
      let e = length_units a l in
      length_origins a.head.source a.head.inserted (units_of a) (instructions_of a) (lawful_fits a l) (omega arith) ∙ (passed a l).target

  -- a later delta that meets it copies only places that it gives
  pub within_pair : (a b : Parts U) → Lawful a → Lawful b → Meet a b → Within (length (origins_of a)) (origins_of b)
  within_pair a b la lb m =
      let e : b.head.source ≡ length (origins_of a) = sym m ∙ sym (length_target a la) in
      subst (λ n. Within n (origins_of b)) e (within_origins b lb)

  -- the runs of what it gives are its instructions, joined
  runs_extends : (a : Parts U) → Lawful a → runs (origins_of a) ≡ extends [] (instructions_of a)
  runs_extends a l =
      let p = passed a l in
      let e = length_units a l in
      runs_origins (units_of a) a.head.source 0 [] (instructions_of a) p.sound (omega arith)

  -- and its units are the inserted ones
  units_inserts : (a : Parts U) → Lawful a → units_of a ≡ inserts (origins_of a)
  units_inserts a l =
      let p = passed a l in
      let e = length_units a l in
      sym (inserts_origins (units_of a) a.head.source 0 (instructions_of a) p.sound ∙ take_all (inserted_in (instructions_of a)) (units_of a) (omega arith))

  instructions_runs : (a : Parts U) → Normal a → instructions_of a ≡ runs (origins_of a)
  instructions_runs a n =
      let e = (apart_decides a.head.source 0 (instructions_of a) (passed a n.0).sound).1 n.1 in
      sym (runs_extends a n.0 ∙ extends_apart [] (instructions_of a) e)

  -- The normal delta with given origins, at the front of two tables.

  module _ (s : ℕ) (os : List (Origin U)) (is : List Instruction) (us : List U) (front : take (length (runs os)) is ≡ runs os) (own : take (length (inserts os)) us ≡ inserts os) where
    pub origins_in_tables : origins_of (parts (normal_head s os) is us) ≡ os
    origins_in_tables = ap (λ js. origins (take (length (inserts os)) us) js) front ∙ ap (λ vs. origins vs (runs os)) own ∙ origins_runs (inserts os) [] 0 os refl

    -- it is normal, over a source of any length
    pub normal_in_tables : length (runs os) ≤ length is → length (inserts os) ≤ length us → length os ≤ 65535 → Within s os → Normal (parts (normal_head s os) is us)
    normal_in_tables i u l w =
        let whole : runs os ≡ take (length (runs os)) is = sym front in
        let sound : Sound s 0 (runs os) = sound_runs s [] os tt w in
        let longest : Longest (runs os) = (apart_decides s 0 (runs os) sound).0 (apart_runs [] 0 os refl) in (
          lawful (parts (normal_head s os) is us) (record {
            instructions = i;
            few = omega (arith, length_runs [] 0 os);
            inserted = u;
            small = omega (arith, length_inserts os);
            sound = subst (λ js. Sound s 0 js) whole sound;
            target = sym (ap total whole) ∙ total_runs [] 0 os ∙ omega arith;
            count = sym (ap inserted_in whole) ∙ inserted_runs [] 0 os ∙ omega arith;
          }),
          subst (λ js. Longest js) whole longest,
        )

  -- and in tables that hold nothing else

  pub origins_normal : (s : ℕ) (os : List (Origin U)) → origins_of (normal s os) ≡ os
  origins_normal s os = origins_in_tables s os (runs os) (inserts os) (take-length (runs os)) (take-length (inserts os))

  pub normal_is_normal : (s : ℕ) (os : List (Origin U)) → length os ≤ 65535 → Within s os → Normal (normal s os)
  normal_is_normal s os l w = normal_in_tables s os (runs os) (inserts os) (take-length (runs os)) (take-length (inserts os)) (omega arith) (omega arith) l w

  -- what two lawful deltas that meet copy lies in the earlier source
  pub within_combined : (a b : Parts U) → Lawful a → Lawful b → Meet a b → Within a.head.source (combined_origins a b)
  within_combined a b la lb m = within_through a.head.source (origins_of a) (origins_of b) (within_origins a la) (within_pair a b la lb m)

  pub length_combined : (a b : Parts U) → Lawful b → length (combined_origins a b) ≡ b.head.target
  length_combined a b l = length-map (origins_of b) (origin_through (origins_of a)) ∙ length_target b l

  only_one : (a b : Parts U) → Normal a → Normal b → a.head.source ≡ b.head.source → origins_of a ≡ origins_of b → Same a b
  only_one a b na nb s o =
      let is : instructions_of a ≡ instructions_of b = instructions_runs a na ∙ ap runs o ∙ sym (instructions_runs b nb) in
      let us : units_of a ≡ units_of b = units_inserts a na.0 ∙ ap inserts o ∙ sym (units_inserts b nb.0) in
      record {
        head = head_same a.head b.head s
            (sym (length_target a na.0) ∙ ap length o ∙ length_target b nb.0)
            (sym (length_instructions a na.0) ∙ ap length is ∙ length_instructions b nb.0)
            (sym (length_units a na.0) ∙ ap length us ∙ length_units b nb.0);
        instructions = is;
        units = us;
      }

pub stays_inside : (U : Type 0) → StaysInside U
stays_inside U = record { target = length_target; source = within_origins; pair = within_pair }

pub one_normal_form : (U : Type 0) → OneNormalForm U
one_normal_form U = record { is_normal = normal_is_normal; has_origins = origins_normal; only = only_one }

pub fewest : (U : Type 0) → Fewest U
fewest U a b n l o =
    let e : length (instructions_of a) ≡ length (extends [] (instructions_of b)) = ap length (instructions_runs a n ∙ ap runs o ∙ runs_extends b l) in
    omega (arith, length_instructions a n.0, length_instructions b l, length_extends [] (instructions_of b))

pub combined_is_normal : (U : Type 0) → CombinedIsNormal U
combined_is_normal U = record {
  is_normal = λ a b la lb m t. let e = length_combined a b lb in normal_is_normal a.head.source (combined_origins a b) (omega arith) (within_combined a b la lb m);
  has_origins = λ a b. origins_normal a.head.source (combined_origins a b);
}

pub associative : (U : Type 0) → Associative U
associative U a b c la lb lc mab mbc =
    ap (λ es. normal a.head.source (through es (origins_of c))) (origins_normal a.head.source (combined_origins a b)) ∙
    ap (normal a.head.source) (through_through (origins_of a) (origins_of b) (origins_of c) (within_pair b c lb lc mbc)) ∙
    sym (ap (λ os. normal a.head.source (through (origins_of a) os)) (origins_normal b.head.source (combined_origins b c)))

pub applies : (U : Type 0) → Applies U
applies U d xs a b la lb m =
    ap (applied d xs) (origins_normal a.head.source (combined_origins a b)) ∙
    applied_through d xs (origins_of a) (origins_of b) (within_pair a b la lb m)
