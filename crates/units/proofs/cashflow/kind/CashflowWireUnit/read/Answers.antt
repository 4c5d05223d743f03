-- The two parts of the bytes give the day and the amount.
use Rattle.std.proofs.Common.{◌≡◌, ℕ, ◌<◌, length, take, drop, sym, ap, ◌∙◌, arith, w64, SFits, to_z}
use Rattle.std.proofs.ByRecursion.{All-from_get_or}
use Rattle.std.proofs.lemmas.Int.{to_z-of_z}
use Rattle.std.proofs.lemmas.List.{length-drop, take_all}
use Rattle.std.specs.Int.Digits.{AllBelowBase}
use Rattle.units.specs.BigEndian.{from_big_endian}
use Rattle.units.specs.Cashflows.{cashflow_of}
use Rattle.units.specs.BigEndians.{number_at_is, four_bytes, eight_bytes}
use Rattle.units.specs.CashflowLaws.{same_cashflow}
use Rattle.units.proofs.cashflow.kind.CashflowWireUnit.read.Goals as goal

pub returns : goal.returns
returns c =
    let bs = c.args.bytes.now in
    let all : AllBelowBase 256 bs = All-from_get_or (λ (b : ℕ). b < 256) bs 0 (λ k h. (c.type_inv.bytes k).fits) in
    let fits : SFits w64 c.from_be_bytes-2.result = record { sfits = c.from_be_bytes-2.type_inv } in
    let split = c.split_at.ensures in
    let first = rw c.unwrap-day.ensures at c.first_chunk.ensures.cases in
    let last = rw c.unwrap-amount.ensures at c.first_chunk-2.ensures.cases in
    let d : c.unwrap-day.result.now ≡ c.split_at.result.0.now = first.same ∙ take_all 4 c.split_at.result.0.now (omega arith) in
    let a : c.unwrap-amount.result.now ≡ c.split_at.result.1.now = last.same ∙ take_all 8 c.split_at.result.1.now (omega arith) in
    let n : length c.split_at.result.1.now ≡ 8 = omega arith in
    let day : c.from_be_bytes.result ≡ from_big_endian (take 4 bs) =
    c.from_be_bytes.ensures ∙ four_bytes c.unwrap-day.result.now (ap length d ∙ split.front_len) ∙ ap from_big_endian (d ∙ split.front) in
    let amount : c.from_be_bytes-2.result ≡ to_z w64 (from_big_endian (take 8 (drop 4 bs))) =
    c.from_be_bytes-2.ensures ∙ ap (to_z w64) (eight_bytes c.unwrap-amount.result.now (ap length a ∙ n) ∙ ap from_big_endian (a ∙ split.back ∙ sym (take_all 8 (drop 4 bs) (rw length-drop (omega arith))))) in
    same_cashflow _ (cashflow_of bs)
    (day ∙ sym (number_at_is 0 4 bs (omega arith) all))
    (to_z-of_z w64 c.from_be_bytes-2.result fits ∙ amount ∙ ap (to_z w64) (sym (number_at_is 4 8 bs (omega arith) all)))
