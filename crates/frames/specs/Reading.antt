use Rattle.std.specs.Prelude.{ℕ, zero, suc, ◌+◌, ◌*◌, cond, List, [], ◌∷◌, length, take, drop, Ok, Err, Result, ◌==◌, nat_lt, slice_index}
use Rattle.std.specs.List.{flat_map}
use Rattle.units.specs.BigEndian.{number_at}
use Rattle.units.specs.Code.{Code}
use Rattle.deltas.specs.declared.instruction.Instruction.{Instruction}
use Rattle.deltas.specs.declared.instruction.Op.TheVariants.{Copy, Insert}
use Rattle.deltas.specs.Instructions.{instruction}
use Rattle.deltas.specs.Check.{head, Parts, parts, checked}
use Rattle.frames.specs.declared.opening.Opening.{Opening}
use Rattle.faults.specs.declared.frame.FrameFault.{FrameFault}
use Rattle.faults.specs.declared.frame.FrameFault.TheVariants.{CutShort, Version, SpareBytes, OtherKind, UnknownTag}
use Rattle.faults.specs.declared.frame.ParseFault.{ParseFault}
use Rattle.faults.specs.declared.frame.ParseFault.TheVariants.{Frame, Delta}
use Rattle.frames.specs.Instructions.{Wire, copy, insert, extent, inserts_of}

-- How bytes are read as the frame of a delta. The code of a kind of unit is c: how its units are written and read.

-- what goes on from an answer; a fault ends it
abbrev pub then : {X Y E : Type 0} → Result X E → (X → Result Y E) → Result Y E
then (Ok x) f = f x
then (Err e) f = Err e

-- an answer whose fault is taken up into another
abbrev pub with_fault : {X E F : Type 0} → (E → F) → Result X E → Result X F
with_fault g (Ok x) = Ok x
with_fault g (Err e) = Err (g e)

-- how long a frame is, by its body length: the count of bytes after the first five
abbrev pub said : List ℕ → ℕ
said f = 5 + number_at 1 4 f

-- what the first 12 bytes say: source length, target length and instruction count
abbrev pub opening : ℕ → ℕ → ℕ → Opening
opening s t n = record { source = s; target = t; instructions = n }

-- the checks of a frame before its instructions, for units of kind k
abbrev pub opened : ℕ → List ℕ → Result Opening FrameFault
opened k f =
    cond (nat_lt (length f) 12) (Err (CutShort 0))
    (cond (slice_index f 0 == 1)
    (cond (nat_lt (length f) (said f)) (Err (CutShort 1))
    (cond (nat_lt (said f) (length f)) (Err (SpareBytes (said f)))
    (cond (slice_index f 5 == k)
    (Ok (opening (number_at 6 2 f) (number_at 8 2 f) (number_at 10 2 f)))
    (Err OtherKind))))
    (Err Version))

-- the copy whose tag is the first of the bytes that are left, at place p of the frame
abbrev pub first_copy : ℕ → List ℕ → Result Wire FrameFault
first_copy p bs = cond (nat_lt (length bs) 5) (Err (CutShort p)) (Ok (copy (number_at 1 2 bs) (number_at 3 2 bs)))

-- the insert whose tag is there, of units w bytes wide
abbrev pub first_insert : ℕ → ℕ → List ℕ → Result Wire FrameFault
first_insert w p bs =
    cond (nat_lt (length bs) (3 + number_at 1 2 bs * w)) (Err (CutShort p))
    (Ok (insert (number_at 1 2 bs) (take (number_at 1 2 bs * w) (drop 3 bs))))

-- the instruction whose tag is due there: the tag is looked at before the extent
abbrev pub first : ℕ → ℕ → List ℕ → Result Wire FrameFault
first w p bs =
    cond (length bs == 0) (Err (CutShort p))
    (cond (slice_index bs 0 == 1) (first_copy p bs)
    (cond (slice_index bs 0 == 2) (first_insert w p bs)
    (Err (UnknownTag p))))

-- n instructions, one after another, and nothing behind them
abbrev pub wires : ℕ → ℕ → ℕ → List ℕ → Result (List Wire) FrameFault
wires w zero p bs = cond (length bs == 0) (Ok []) (Err (SpareBytes p))
wires w (suc n) p bs = then (first w p bs) (λ x. then (wires w n (p + extent x) (drop (extent x) bs)) (λ xs. Ok (x ∷ xs)))

-- the units that n × width bytes stand for
abbrev pub units_in : {U : Type 0} {kind width : ℕ} → Code U kind width → ℕ → List ℕ → List U
units_in c zero bs = []
units_in {width = width} c (suc n) bs = c.parsed (take width bs) ∷ units_in c n (drop width bs)

-- the units that an instruction inserts
abbrev pub units_of_wire : {U : Type 0} {kind width : ℕ} → Code U kind width → Wire → List U
units_of_wire c (copy p n) = []
units_of_wire c (insert n bs) = units_in c n bs

-- an instruction as it stands in a table: an insert begins after the k units that were inserted before
abbrev pub entry : ℕ → Wire → Instruction
entry k (copy p n) = instruction Copy p n
entry k (insert n bs) = instruction Insert k n

-- some instructions, one after another
abbrev pub entries : ℕ → List Wire → List Instruction
entries k [] = []
entries k (x ∷ xs) = entry k x ∷ entries (k + inserts_of x) xs

-- how many units some instructions insert
abbrev pub inserts_in : List Wire → ℕ
inserts_in [] = 0
inserts_in (x ∷ xs) = inserts_of x + inserts_in xs

-- the delta that a frame holds, in tables of just its own entries
abbrev pub delta_in : {U : Type 0} {kind width : ℕ} → Code U kind width → Opening → List Wire → Parts U
delta_in c o xs =
    parts (head o.source o.target (length xs) (inserts_in xs)) (entries 0 xs) (flat_map (units_of_wire c) xs)

-- the delta in a frame, lawful or not, or the first fault of the frame
abbrev pub unpacked : {U : Type 0} {kind width : ℕ} → Code U kind width → List ℕ → Result (Parts U) FrameFault
unpacked {kind = kind} {width = width} c f =
    then (opened kind f)
    (λ o. then (wires width o.instructions 12 (drop 12 f)) (λ xs. Ok (delta_in c o xs)))

-- a delta once it passes its check, which compares its counts with 65,535 alone, since its tables are just its own
abbrev pub if_lawful : {U : Type 0} → Parts U → Result (Parts U) ParseFault
if_lawful d = then (with_fault Delta (checked d)) (λ _. Ok d)

-- the lawful delta in a frame, or the frame's or the delta's first fault
abbrev pub parsed_frame : {U : Type 0} {kind width : ℕ} → Code U kind width → List ℕ → Result (Parts U) ParseFault
parsed_frame c f = then (with_fault Frame (unpacked c f)) if_lawful
