-- The laws of the cashflow kind.
use mathlib.Core.HLevel.{is_prop→PathP}
use Rattle.std.specs.Prelude.{◌≡◌, ℕ, ◌^◌, ◌<◌, ◌≤◌, List, ◌++◌, length, drop, FitsSigned, slice_index}
use Rattle.std.proofs.Common.{ap, ap₂, ◌∙◌, arith, rules, of_z, to_z}
use Rattle.std.proofs.Math.Bridge.{le_prop}
use Rattle.std.specs.Int.Signed.{mag}
use Rattle.std.proofs.Math.Facts.{Fits-of_z}
use Rattle.std.specs.Int.{w64}
use Rattle.std.proofs.ByRecursion.{All-from_get_or}
use Rattle.std.proofs.lemmas.List.{length-drop, take_all, take-append-drop}
use Rattle.std.proofs.lemmas.Int.{of_z-to_z, to_z-of_z}
use Rattle.std.specs.Int.Digits.{AllBelowBase}
use Rattle.units.specs.BigEndian.{big_endian, number_at}
use Rattle.units.specs.Code.{CodeLaws}
use Rattle.units.specs.Cashflows.{bits_fit, cashflow_bytes, cashflow_of, cashflow_code}
use Rattle.units.specs.declared.cashflow.Cashflow.{Cashflow}
use Rattle.units.specs.BigEndians.{big_endian_at, number_at_big_endian}

-- cashflows of one day and one amount are equal
pub same_cashflow : (x y : Cashflow) → x.day ≡ y.day → x.amount ≡ y.amount → x ≡ y
same_cashflow x y d a j =
    record {
      day = d j;
      amount = a j;
      fits_day = is_prop→PathP (λ k. d k < 2 ^ 32) (λ k. le_prop) x.fits_day y.fits_day j;
      fits_amount = is_prop→PathP (λ k. mag (a k) < 2 ^ 63) (λ k. le_prop) x.fits_amount y.fits_amount j;
    }

-- what is written is read back
pub of_bytes : (x : Cashflow) → cashflow_of (cashflow_bytes x) ≡ x
of_bytes x =
    let fits : FitsSigned w64 x.amount = record { sfits = x.fits_amount } in
    same_cashflow (cashflow_of (cashflow_bytes x)) x
    (number_at_big_endian 4 x.day x.fits_day)
    (ap (to_z w64) (number_at_big_endian 8 (of_z w64 x.amount) (Fits-of_z fits).fits) ∙ to_z-of_z w64 x.amount fits)

-- what is read is written back
pub bytes_of : (bs : List ℕ) → length bs ≡ 12 → ((k : ℕ) → slice_index bs k < 256) → cashflow_bytes (cashflow_of bs) ≡ bs
bytes_of bs long bytes =
    let all : AllBelowBase 256 bs = All-from_get_or (λ (b : ℕ). b < 256) bs 0 (λ k h. bytes k) in
    let day = big_endian_at 0 4 bs (omega arith) all in
    let bits = of_z-to_z w64 (number_at 4 8 bs) (bits_fit bs) in
    let amount = ap (big_endian 8) bits ∙ big_endian_at 4 8 bs (omega arith) all in
    let rest : length (drop 4 bs) ≤ 8 = rw length-drop (omega arith) in
    ap₂ (λ (x y : List ℕ). x ++ y) day (amount ∙ take_all 8 (drop 4 bs) rest) ∙ take-append-drop 4 bs

-- the laws of the code
pub cashflow_laws : CodeLaws cashflow_code
cashflow_laws = record {
  length_written = Prim.search rules;
  parsed_written = of_bytes;
  written_parsed = bytes_of;
  frame_fits = Prim.search rules;
}
