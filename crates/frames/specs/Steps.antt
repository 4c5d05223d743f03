use Rattle.std.specs.Prelude.{◌≡◌, ℕ, ◌+◌, ◌*◌, ◌≤◌, List, [], length, drop, Ok, Err, Result}
use Rattle.std.proofs.lemmas.List.Edits.{sets}
use Rattle.deltas.specs.declared.instruction.Op.{Op}
use Rattle.deltas.specs.declared.instruction.Op.TheVariants.{Copy, Insert}
use Rattle.faults.specs.declared.frame.FrameFault.{FrameFault}
use Rattle.frames.specs.declared.writer.Writer.{Writer}
use Rattle.frames.specs.declared.reader.WireReader.{WireReader}
use Rattle.frames.specs.Instructions.{Wire, copy, insert, extent}
use Rattle.frames.specs.Reading.{first, wires}

-- What the inner functions that read and write a frame are told, over a reader or a writer of its bytes.

-- the instructions that were found; none where there was a fault
abbrev pub found : Result (List Wire) FrameFault → List Wire
found (Ok xs) = xs
found (Err e) = []

-- the instruction that is due next, of units w bytes wide
abbrev pub due : ℕ → WireReader → Result Wire FrameFault
due w r = first w r.place (drop r.place r.frame.now)

-- n instructions from there on, and nothing behind them
abbrev pub left : ℕ → ℕ → WireReader → Result (List Wire) FrameFault
left w n r = wires w n r.place (drop r.place r.frame.now)

-- those instructions
abbrev pub wires_in : ℕ → ℕ → WireReader → List Wire
wires_in w n r = found (left w n r)

-- instruction x was read, and the reader stands behind it
pub record Read (w : ℕ) (before : WireReader) (x : Wire) (after : WireReader) : Type 0 where
  pub is : due w before ≡ Ok x
  pub frame : after.frame.now ≡ before.frame.now
  pub place : after.place ≡ before.place + extent x

-- an output has room for some bytes more
abbrev pub HasRoom : Writer → List ℕ → Type 0
HasRoom w bs = w.at + length bs ≤ length w.out.now

-- bytes were written, and the writer stands behind them, over the same output
pub record Wrote (before : Writer) (bs : List ℕ) (after : Writer) : Type 0 where
  pub same : after.out.ghost_name ≡ before.out.ghost_name
  pub out : after.out.now ≡ sets before.out.now before.at bs
  pub at : after.at ≡ before.at + length bs

-- an insert of units w bytes wide has as many bytes as its units take
abbrev pub Sized : ℕ → Wire → Type 0
Sized w (copy p n) = Unit {0}
Sized w (insert n bs) = length bs ≡ n * w

-- how many bytes an instruction of n units takes in a frame, of units w bytes wide
abbrev pub extent_of : ℕ → Op → ℕ → ℕ
extent_of w Copy n = 5
extent_of w Insert n = 3 + n * w
