-- A cashflow as bytes: its day in 4 bytes, then its amount in 8 bytes, two's complement, both big-endian.
use Rattle.std.specs.Prelude.{ℕ, ◌^◌, ◌<◌, List, ◌++◌, take, drop, pos}
use Rattle.std.proofs.Common.{mod-lt, lit<, of_z, to_z}
use Rattle.std.specs.Int.Signed.{mag}
use Rattle.std.proofs.Math.Facts.{sfits_to_z}
use Rattle.std.specs.Int.{w64}
use Rattle.units.specs.Code.{Code}
use Rattle.units.specs.BigEndian.{big_endian, from_big_endian, number_at}
use Rattle.units.specs.declared.cashflow.Cashflow.{Cashflow}

-- nothing is paid, on day 0
abbrev pub no_payment : Cashflow
no_payment = record { day = 0; amount = pos 0; fits_day = lit< tt; fits_amount = lit< tt }

-- the bytes that a cashflow is written as
abbrev pub cashflow_bytes : Cashflow → List ℕ
cashflow_bytes c = big_endian 4 c.day ++ big_endian 8 (of_z w64 c.amount)

-- four bytes hold a day
pub day_fits : (bs : List ℕ) → number_at 0 4 bs < 2 ^ 32
day_fits bs = mod-lt (from_big_endian (take 4 bs)) (lit< tt)

-- eight bytes hold the bits of an amount
pub bits_fit : (bs : List ℕ) → number_at 4 8 bs < 2 ^ 64
bits_fit bs = mod-lt (from_big_endian (take 8 (drop 4 bs))) (lit< tt)

-- so they hold an amount
pub amount_fits : (bs : List ℕ) → mag (to_z w64 (number_at 4 8 bs)) < 2 ^ 63
amount_fits bs = (sfits_to_z {w = w64} {n = number_at 4 8 bs} (record { fits = bits_fit bs })).sfits

-- the cashflow that bytes stand for
abbrev pub cashflow_of : List ℕ → Cashflow
cashflow_of bs =
    record {
      day = number_at 0 4 bs;
      amount = to_z w64 (number_at 4 8 bs);
      fits_day = day_fits bs;
      fits_amount = amount_fits bs;
    }

-- how cashflows are sent: kind 2, 12 bytes for each
abbrev pub cashflow_code : Code Cashflow 2 12
cashflow_code = record { written = cashflow_bytes; parsed = cashflow_of }
