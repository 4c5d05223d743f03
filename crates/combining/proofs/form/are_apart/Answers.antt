use Rattle.std.proofs.Common.{◌≡◌, not, ◌&&◌, List, [], ◌∷◌, take, drop, length, get_or, Bor, rules, refl, ap, ◌∙◌, arith}
use Rattle.std.specs.List.{list_all}
use Rattle.std.specs.Iterator.{AlwaysYields}
use Rattle.std.specs.Slice.Iter.{windows_rest, windows_size}
use Rattle.std.specs.Slice.ArrayWindows.{array_windows_parts, array_windows_steps}
use Rattle.std.specs.declared.slice.ArrayWindows.{ArrayWindows}
use Rattle.std.proofs.lemmas.Iterator.{YieldsList}
use Rattle.std.proofs.lemmas.Iterator.Search.{all_from_yields_List}
use Rattle.deltas.specs.declared.instruction.Instruction.{Instruction}
use Rattle.deltas.specs.Instructions.{blank_instruction}
use Rattle.combining.specs.Joining.{goes_on}
use Rattle.combining.specs.Normal.{all_apart}
use Rattle.combining.proofs.form.are_apart.Goals as goal

-- each instruction with the next one
abbrev neighbours : List Instruction → List (Instruction × Instruction)
neighbours [] = []
neighbours (a ∷ []) = []
neighbours (a ∷ b ∷ is) = (a, b) ∷ neighbours (b ∷ is)

-- the two instructions of a window
abbrev two : Bor (List Instruction) → Instruction × Instruction
two w = (get_or w.now 0 blank_instruction, get_or w.now 1 blank_instruction)

windows_give : (is : List Instruction) (s : ArrayWindows Instruction 2) → windows_rest (array_windows_parts s) ≡ is → windows_size (array_windows_parts s) ≡ 2 → AlwaysYields array_windows_steps two s (neighbours is)
windows_give [] s e n = λ x j p. omega (arith, p.1.0, ap length e)
windows_give (a ∷ []) s e n = λ x j p. omega (arith, p.1.0, ap length e)
windows_give (a ∷ b ∷ is) s e n = (
  (λ j p. omega (arith, p.1.0, ap length e)),
  (λ x j p. let same : x.now ≡ a ∷ b ∷ [] = p.1.1 ∙ ap (λ k. take k (windows_rest (array_windows_parts s))) n ∙ ap (take 2) e in
      (ap (λ is. (get_or is 0 blank_instruction, get_or is 1 blank_instruction)) same, windows_give (b ∷ is) j (p.1.2 ∙ ap (drop 1) e) (p.0 ∙ n))),
)

windows_list : (is : List Instruction) (s : ArrayWindows Instruction 2) → windows_rest (array_windows_parts s) ≡ is → windows_size (array_windows_parts s) ≡ 2 → YieldsList array_windows_steps two s (neighbours is)
windows_list is s e n = record { runs = windows_give is s e n }

all_neighbours : (is : List Instruction) → list_all (λ p. not (goes_on p.0 p.1)) (neighbours is) ≡ all_apart is
all_neighbours [] = refl
all_neighbours (a ∷ []) = refl
all_neighbours (a ∷ b ∷ is) = ap (λ t. not (goes_on a b) && t) (all_neighbours (b ∷ is))

pub returns : goal.returns
returns c =
    all_from_yields_List (λ p. not (goes_on p.0 p.1)) _ _ c.all.result c.all.ensures.ran
    (windows_list c.args.instructions.now c.array_windows.result c.array_windows.ensures.rest c.array_windows.ensures.size)
    (λ x b q k. search rules)
    ∙ all_neighbours c.args.instructions.now
