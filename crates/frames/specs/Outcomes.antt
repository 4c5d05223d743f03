use Rattle.std.specs.Prelude.{ℕ, cond, List, [], ◌++◌, length, drop, Ok, Err, Result, nat_lt}
use Rattle.units.specs.Code.{Code}
use Rattle.deltas.specs.declared.delta.Head.{Head}
use Rattle.deltas.specs.declared.fault.DeltaFault.{DeltaFault}
use Rattle.deltas.specs.Check.{Parts, checked}
use Rattle.faults.specs.declared.frame.ParseFault.{ParseFault}
use Rattle.faults.specs.declared.frame.ReadFault.{ReadFault}
use Rattle.faults.specs.declared.frame.ReadFault.TheVariants as read
use Rattle.faults.specs.declared.frame.WriteFault.{WriteFault}
use Rattle.faults.specs.declared.frame.WriteFault.TheVariants as write
use Rattle.frames.specs.Reading.{then, with_fault, parsed_frame}
use Rattle.frames.specs.Writing.{encoded}

-- Answers of the calls that read or write a frame, and what their tables hold afterwards.

-- checking a frame: the head of the delta in it, or the first fault
abbrev pub check_answer : {U : Type 0} {kind width : ℕ} → Code U kind width → List ℕ → Result Head ParseFault
check_answer c f = then (parsed_frame c f) (λ d. Ok d.head)

-- a delta once it fits tables of i and u entries: the need is its instruction count, else its inserted count
abbrev pub if_fits : {U : Type 0} → ℕ → ℕ → Parts U → Result Head ReadFault
if_fits i u d =
    cond (nat_lt i d.head.instructions) (Err (read.Short d.head.instructions))
    (cond (nat_lt u d.head.inserted) (Err (read.Short d.head.inserted))
    (Ok d.head))

-- reading a frame into tables of i and u entries: the head of the delta in it, or the first fault
abbrev pub read_answer : {U : Type 0} {kind width : ℕ} → Code U kind width → List ℕ → ℕ → ℕ → Result Head ReadFault
read_answer c f i u = then (with_fault read.Unread (parsed_frame c f)) (if_fits i u)

-- a part of what was read; nothing where it was refused
abbrev pub held : {X A E : Type 0} → Result X E → (X → List A) → List A
held (Ok d) part = part d
held (Err e) part = []

-- how long the frame of a lawful delta is, or the delta's first fault
abbrev pub length_answer : {U : Type 0} {kind width : ℕ} → Code U kind width → Parts U → Result ℕ DeltaFault
length_answer c d = then (checked d) (λ _. Ok (length (encoded c d)))

-- a length once it fits an output of n bytes
abbrev pub if_room : ℕ → ℕ → Result ℕ WriteFault
if_room n m = cond (nat_lt n m) (Err (write.Short m)) (Ok m)

-- writing a frame to an output of n bytes: its length, or the first fault
abbrev pub write_answer : {U : Type 0} {kind width : ℕ} → Code U kind width → Parts U → ℕ → Result ℕ WriteFault
write_answer c d n = then (with_fault write.Unlawful (length_answer c d)) (if_room n)

-- what an output holds after the call: where it was accepted, the bytes at the front, and the rest as it was; where it
-- was refused, what it held before
abbrev pub front_in : {X E : Type 0} → Result X E → List ℕ → List ℕ → List ℕ
front_in (Ok x) before bytes = bytes ++ drop (length bytes) before
front_in (Err e) before bytes = before
