use Rattle.std.specs.Prelude.{◌≡◌, ℕ, ◌+◌, ◌-◌, ◌*◌, ◌<◌, ◌≤◌, ◌⊎◌, List, length, take, drop, Ok, Err, ◌≢◌, slice_index, slice_index_or}
use Rattle.std.specs.List.{flat_map, AllByRecursion}
use Rattle.units.specs.BigEndian.{number_at}
use Rattle.units.specs.Code.{Code}
use Rattle.deltas.specs.declared.fault.DeltaFault.{DeltaFault}
use Rattle.deltas.specs.Check.{Parts, checked, Lawful, own}
use Rattle.faults.specs.declared.frame.FrameFault.{FrameFault}
use Rattle.faults.specs.declared.frame.FrameFault.TheVariants.{CutShort, Version, SpareBytes, OtherKind, UnknownTag}
use Rattle.faults.specs.declared.frame.ParseFault.TheVariants.{Frame, Delta}
use Rattle.frames.specs.Instructions.{Wire, wire_bytes, Fitting}
use Rattle.frames.specs.Reading.{said, parsed_frame}
use Rattle.frames.specs.Writing.{encoded}

-- What the check of a frame finds, in words about the bytes at their places.

-- a list of bytes
abbrev pub Bytes : List ℕ → Type 0
Bytes f = (i : ℕ) → slice_index f i < 256

-- there are 12 bytes, and the first is the version
abbrev pub Versioned : List ℕ → Type 0
Versioned f = (12 ≤ length f) × (slice_index f 0 ≡ 1)

-- the first 12 bytes are right: the frame is as long as its body length says, and its units are of kind k
pub record Opened (k : ℕ) (f : List ℕ) : Type 0 where
  pub long : 12 ≤ length f
  pub version : slice_index_or f 0 0 ≡ 1
  pub whole : length f ≡ said f
  pub kind : slice_index_or f 5 0 ≡ k

-- n instructions, of units w bytes wide, stand from byte 12 on, and the next tag is due at place p
pub record Due (w : ℕ) (f : List ℕ) (n p : ℕ) : Type 0 where
  pub instructions : List Wire
  pub many : length instructions ≡ n
  pub fitting : AllByRecursion (Fitting w) instructions
  pub behind : 12 ≤ p
  pub inside : p ≤ length f
  pub bytes : take (p - 12) (drop 12 f) ≡ flat_map wire_bytes instructions

-- one of the instructions that are said to follow is due at place p
abbrev pub NextDue : ℕ → List ℕ → ℕ → Type 0
NextDue w f p = (n : ℕ) × (n < number_at 10 2 f) × Due w f n p

-- no byte is at place p, or the copy or the insert whose tag is there does not end inside the frame
abbrev pub CutOff : ℕ → List ℕ → ℕ → Type 0
CutOff w f p =
    (p ≡ length f) ⊎
    ((slice_index f p ≡ 1) × (length f < p + 5)) ⊎
    ((slice_index f p ≡ 2) × (length f < p + 3 + number_at (p + 1) 2 f * w))

-- what a fault says of a frame: all that is looked at earlier is right, and this is wrong
abbrev pub Wrong : ℕ → ℕ → List ℕ → FrameFault → Type 0
Wrong k w f (CutShort p) =
    ((p ≡ 0) × (length f < 12)) ⊎
    ((p ≡ 1) × Versioned f × (length f < said f)) ⊎
    (Opened k f × NextDue w f p × CutOff w f p)
Wrong k w f Version = (12 ≤ length f) × (slice_index f 0 ≢ 1)
Wrong k w f (SpareBytes p) =
    ((p ≡ said f) × Versioned f × (p < length f)) ⊎
    (Opened k f × Due w f (number_at 10 2 f) p × (p < length f))
Wrong k w f OtherKind = Versioned f × (length f ≡ said f) × (slice_index f 5 ≢ k)
Wrong k w f (UnknownTag p) = Opened k f × NextDue w f p × (p < length f) × (slice_index f p ≢ 1) × (slice_index f p ≢ 2)

-- the lengths in a delta's head are of 16 bits, as those of every head in code are
abbrev pub LengthsFit : {U : Type 0} → Parts U → Type 0
LengthsFit d = (d.head.source ≤ 65535) × (d.head.target ≤ 65535)

-- bytes are accepted exactly if they are the frame of a lawful delta, which is what is read; a fault of the frame is the
-- first thing that is wrong, and a fault of the delta is that of the delta whose frame it is
pub record FramesMean {U : Type 0} {kind width : ℕ} (c : Code U kind width) : Type 0 where
  pub accepted : (f : List ℕ) (d : Parts U) → Bytes f → parsed_frame c f ≡ Ok d → Lawful d × LengthsFit d × (own d ≡ d) × (encoded c d ≡ f)
  pub read_back : (d : Parts U) → Lawful d → LengthsFit d → parsed_frame c (encoded c d) ≡ Ok (own d)
  pub frame_wrong : (f : List ℕ) (e : FrameFault) → Bytes f → parsed_frame c f ≡ Err (Frame e) → Wrong kind width f e
  pub delta_wrong : (f : List ℕ) (e : DeltaFault) → Bytes f → parsed_frame c f ≡ Err (Delta e) → (d : Parts U) × (own d ≡ d) × (encoded c d ≡ f) × (checked d ≡ Err e)
