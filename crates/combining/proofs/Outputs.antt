-- What the calls that write a delta into two output tables answer, and what they leave there.
use Rattle.std.proofs.Common.{◌≡◌, ℕ, ◌-◌, ◌≤◌, false, List, [], ◌++◌, length, take, replicate, Ok, sym, refl, ap, ◌∙◌, subst, arith}
use Rattle.std.proofs.lemmas.Bool.Decides.{nat_tests}
use Rattle.std.proofs.lemmas.List.{length-take-le, length-append, take_at}
use Rattle.deltas.specs.declared.instruction.Instruction.{Instruction}
use Rattle.deltas.specs.declared.delta.Head.{Head}
use Rattle.combining.specs.declared.write.Output.{Output}
use Rattle.deltas.specs.Instructions.{blank_instruction}
use Rattle.deltas.specs.Check.{head, Parts, parts, checked}
use Rattle.deltas.specs.Origins.{Origin, origins_of, inserts, Within}
use Rattle.combining.specs.Normal.{Normal, runs_after, runs, normal_head}
use Rattle.combining.specs.Combine.{combined_origins}
use Rattle.combining.specs.Outcomes.{short, combine_answer, normal_answer, Holds}
use Rattle.combining.specs.Steps.{written_instructions, written_units, Appended}
use Rattle.combining.proofs.Runs.{length_inserts}
use Rattle.combining.proofs.Theorems.{origins_in_tables, normal_in_tables}

-- two tables that are not shorter than the need
pub long_enough : (n i u : ℕ) → short n i u ≡ false → (n ≤ i) × (n ≤ u)
long_enough n i u e = ((let a : n ≤ i = grind (arith, nat_tests) in a), (let b : n ≤ u = grind (arith, nat_tests) in b))

-- the entries that were written, and blanks behind them to the end of a table of i entries
pub filled : {X : Type 0} (i : ℕ) (entries after : List X) (n : ℕ) (b : X) → take n after ≡ entries → n ≡ length entries → length after ≡ i → take n after ++ replicate (length after - n) b ≡ entries ++ replicate (i - length entries) b
filled i entries after n b e k l =
    let m : length after - n ≡ i - length entries = omega arith in
    ap (λ xs. xs ++ replicate (length after - n) b) e ∙ ap (λ j. entries ++ replicate j b) m

-- the answer of combine, where nothing is refused
pub answer_ok : {U : Type 0} (a b : Parts U) (i u : ℕ) (g h : Head) → Ok g ≡ checked a → Ok h ≡ checked b → a.head.target ≡ b.head.source → b.head.target ≤ i → b.head.target ≤ u → Ok (normal_head a.head.source (combined_origins a b)) ≡ combine_answer a b i u
answer_ok a b i u g h p q e x y = rw (← p, ← q) (grind (arith, nat_tests))

-- and of normalise
pub normal_ok : {U : Type 0} (d : Parts U) (i u : ℕ) (h : Head) → Ok h ≡ checked d → d.head.target ≤ i → d.head.target ≤ u → Ok (normal_head d.head.source (origins_of d)) ≡ normal_answer d i u
normal_ok d i u h p x y = rw (← p) (grind (arith, nat_tests))

-- a head with the lengths and counts of the normal delta is its head
pub head_is : {U : Type 0} (os : List (Origin U)) (s t i n : ℕ) → t ≡ length os → i ≡ length (runs os) → n ≡ length (inserts os) → head s t i n ≡ normal_head s os
head_is os s t i n e f k = ap (λ x. head s x i n) e ∙ ap (λ x. head s (length os) x n) f ∙ ap (λ x. head s (length os) (length (runs os)) x) k

-- the normal delta at the front of two tables, whatever stands behind it
pub holds : {U : Type 0} (s : ℕ) (os : List (Origin U)) (h : Head) (is rest : List Instruction) (us others : List U) → h ≡ normal_head s os → is ≡ runs os ++ rest → us ≡ inserts os ++ others → length os ≤ 65535 → Within s os → Holds h is us s os
holds s os h is rest us others e i u l w =
    let front : take (length (runs os)) is ≡ runs os = ap (take (length (runs os))) i ∙ take_at (runs os) rest (length (runs os)) refl in
    let own : take (length (inserts os)) us ≡ inserts os = ap (take (length (inserts os))) u ∙ take_at (inserts os) others (length (inserts os)) refl in
    let long : length (runs os) ≤ length is = omega (arith, ap length i, length-append (runs os) rest) in
    let many : length (inserts os) ≤ length us = omega (arith, ap length u, length-append (inserts os) others) in
    record {
      is_normal = subst (λ g. Normal (parts g is us)) (sym e) (normal_in_tables s os is us front own long many l w);
      over_source = ap (λ g. g.source) e;
      has_origins = ap (λ g. origins_of (parts g is us)) e ∙ origins_in_tables s os is us front own;
    }

-- what follows for two output tables of i and u entries, and the head, once the runs of some origins are written, and
-- blanks behind
pub record Finished {U : Type 0} (b : U) (s i u : ℕ) (os : List (Origin U)) (o : Output U) (h : Head) : Type 0 where
  pub head : h ≡ normal_head s os
  pub instructions : (is : List Instruction) → is ≡ written_instructions o ++ replicate (length o.instructions.now - o.count) blank_instruction → is ≡ runs os ++ replicate (i - length (runs os)) blank_instruction
  pub units : (us : List U) → us ≡ written_units o ++ replicate (length o.units.now - o.inserted) b → us ≡ inserts os ++ replicate (u - length (inserts os)) b
  pub holds : (is : List Instruction) (us : List U) (ps : List (Origin U)) → ps ≡ os → is ≡ written_instructions o ++ replicate (length o.instructions.now - o.count) blank_instruction → us ≡ written_units o ++ replicate (length o.units.now - o.inserted) b → Holds h is us s ps

-- it does, where they were written from the first entries on
pub finished : {U : Type 0} (b : U) (s r t i u : ℕ) (os : List (Origin U)) (o o' : Output U) (h : Head) → o.count ≡ 0 → o.inserted ≡ 0 → length o.instructions.now ≡ i → length o.units.now ≡ u → Appended os o o' → h ≡ head r t o'.count o'.inserted → r ≡ s → length os ≡ t → t ≤ 65535 → t ≤ i → t ≤ u → Within s os → Finished b s i u os o' h
finished b s r t i u os o o' h none no_units entries room a head_of source target few long wide within =
    let wrote : written_instructions o' ≡ runs os = a.instructions ∙ ap (λ n. runs_after (take n o.instructions.now) o.inserted os) none ∙ ap (λ n. runs_after [] n os) no_units in
    let kept : written_units o' ≡ inserts os = a.units ∙ ap (λ n. take n o.units.now ++ inserts os) no_units in
    let count = sym (length-take-le o'.count o'.instructions.now (omega (arith, a.count, a.tables.entries))) ∙ ap length wrote in
    let number = sym (length-take-le o'.inserted o'.units.now (omega (arith, a.inserted, length_inserts os, a.tables.room))) ∙ ap length kept in
    let same = head_of ∙ ap (λ n. head n t o'.count o'.inserted) source ∙ head_is os s t o'.count o'.inserted (sym target) count number in
    let table = filled i (runs os) o'.instructions.now o'.count blank_instruction wrote count (omega (arith, a.tables.entries)) in
    let own = filled u (inserts os) o'.units.now o'.inserted b kept number (omega (arith, a.tables.room)) in
    record {
      head = same;
      instructions = λ is e. e ∙ table;
      units = λ us e. e ∙ own;
      holds = λ is us ps q e f. subst (λ os. Holds h is us s os) (sym q) (holds s os h is _ us _ same (e ∙ table) (f ∙ own) (omega arith) within);
    }
