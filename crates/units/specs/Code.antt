-- How units are sent as bytes.
use Rattle.std.specs.Prelude.{◌≡◌, ℕ, ◌+◌, ◌*◌, ◌^◌, ◌<◌, List, length, slice_index}

-- how the units of a kind with this number are written as bytes, and the unit that bytes stand for; `width` bytes for each
pub record Code (U : Type 0) (kind width : ℕ) : Type 0 where
  pub written : U → List ℕ
  pub parsed : List ℕ → U

-- what every kind proves of its code
pub record CodeLaws {U : Type 0} {kind width : ℕ} (c : Code U kind width) : Type 0 where
  -- every unit is written in `width` bytes
  pub length_written : (x : U) → length (c.written x) ≡ width
  -- what is written is read back
  pub parsed_written : (x : U) → c.parsed (c.written x) ≡ x
  -- no two runs of `width` bytes stand for one unit: what is read is written back
  pub written_parsed : (bs : List ℕ) → length bs ≡ width → ((k : ℕ) → slice_index bs k < 256) → c.written (c.parsed bs) ≡ bs
  -- the body of a lawful delta's frame has at most 7 + 65,535 × max(5, 3 + width) bytes, and its length is written in
  -- four bytes; 7 + 65,535 × 5 always fits, so this is the exact limit of the width
  pub frame_fits : 7 + 65535 * (3 + width) < 2 ^ 32
