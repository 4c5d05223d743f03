use Rattle.std.proofs.Common.{◌≡◌, ℕ, ◌+◌, ◌-◌, ◌<◌, ◌≤◌, List, ◌++◌, length, take, set, replicate, sym, ap, ◌∙◌, arith}
use lib.Seq.{paste}
use Rattle.std.proofs.lemmas.List.Edits.{paste_none, fill_from_more, paste_all}
use Rattle.std.proofs.lemmas.List.{drop_all, append-nil, length-replicate}
use Rattle.deltas.proofs.table.blank_rest.Goals as goal

blank_one : {X : Type 0} (xs : List X) (n i : ℕ) (y : X) → n ≤ i → i < length xs → set (paste xs n (replicate (i - n) y) (i - n)) i y ≡ paste xs n (replicate (i + 1 - n) y) (i + 1 - n)
blank_one xs n i y l h =
    let e : i ≡ n + (i - n) = omega arith in
    let f : i - n + 1 ≡ i + 1 - n = omega arith in
    ap (λ j. set (paste xs n (replicate (i - n) y) (i - n)) j y) e
    ∙ fill_from_more xs n (i - n) y (omega arith)
    ∙ ap (λ m. paste xs n (replicate m y) m) f

blank_none : {X : Type 0} (xs : List X) (n : ℕ) (y : X) → xs ≡ paste xs n (replicate (n - n) y) (n - n)
blank_none xs n y =
    let e : 0 ≡ n - n = omega arith in
    paste_none xs n (replicate 0 y) ∙ ap (λ m. paste xs n (replicate m y) m) e

blank_all : {X : Type 0} (xs : List X) (n i : ℕ) (y : X) → n ≤ i → i - n ≤ length xs - n → length xs ≤ i → paste xs n (replicate (i - n) y) (i - n) ≡ take n xs ++ replicate (length xs - n) y
blank_all xs n i y l m h =
    let e : i - n ≡ length xs - n = omega arith in
    paste_all xs n (replicate (i - n) y) (i - n) (sym (length-replicate (i - n) y))
    ∙ ap (λ rest. take n xs ++ (replicate (i - n) y ++ rest)) (drop_all (n + (i - n)) xs (omega arith))
    ∙ ap (λ rest. take n xs ++ rest) (append-nil (replicate (i - n) y))
    ∙ ap (λ k. take n xs ++ replicate k y) e

pub loop-i-init : goal.loop-i-init
loop-i-init g c = (blank_none c.args.table.now c.args.count c.args.blank, omega arith, omega arith)

pub loop-i-preserved : goal.loop-i-preserved
loop-i-preserved g c = (
  ap (λ t. set t c.loop-i.i c.args.blank) c.loop-i.invariant.0 ∙ blank_one c.args.table.now c.args.count c.loop-i.i c.args.blank (omega arith) (omega arith),
  omega arith,
  omega arith,
)

pub returns : goal.returns
returns g c = c.loop-i.invariant.0 ∙ blank_all c.args.table.now c.args.count c.loop-i.i c.args.blank (omega arith) (omega arith) (omega arith)
