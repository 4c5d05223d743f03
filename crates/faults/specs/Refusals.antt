use Rattle.units.specs.declared.refusal.Refusal.{Refusal}
use Rattle.units.specs.declared.refusal.Layer.TheVariants as layer
use Rattle.deltas.specs.Refusals.{refused, delta_refusal}
use Rattle.faults.specs.declared.frame.FrameFault.{FrameFault}
use Rattle.faults.specs.declared.frame.FrameFault.TheVariants.{CutShort, Version, SpareBytes, OtherKind, UnknownTag}
use Rattle.faults.specs.declared.frame.ParseFault.{ParseFault}
use Rattle.faults.specs.declared.frame.ParseFault.TheVariants as parse
use Rattle.faults.specs.declared.frame.ReadFault.{ReadFault}
use Rattle.faults.specs.declared.frame.ReadFault.TheVariants as read
use Rattle.faults.specs.declared.frame.WriteFault.{WriteFault}
use Rattle.faults.specs.declared.frame.WriteFault.TheVariants as write

-- Every fault of frames as users know it: its number, its layer and its place.

-- a frame's fault by its number, layer and place
abbrev pub frame_refusal : FrameFault → Refusal
frame_refusal (CutShort p) = refused 1 layer.Frame p
frame_refusal Version = refused 2 layer.Frame 0
frame_refusal (SpareBytes p) = refused 3 layer.Frame p
frame_refusal OtherKind = refused 4 layer.Frame 5
frame_refusal (UnknownTag p) = refused 5 layer.Frame p

-- the frame's fault, or that of the delta in it
abbrev pub parse_refusal : ParseFault → Refusal
parse_refusal (parse.Frame f) = frame_refusal f
parse_refusal (parse.Delta f) = delta_refusal f

-- the fault of reading a frame into tables
abbrev pub read_refusal : ReadFault → Refusal
read_refusal (read.Unread f) = parse_refusal f
read_refusal (read.Short n) = refused 31 layer.Frame n

-- the fault of writing a frame
abbrev pub write_refusal : WriteFault → Refusal
write_refusal (write.Unlawful f) = delta_refusal f
write_refusal (write.Short n) = refused 31 layer.Frame n
