use Rattle.std.proofs.Common.{◌≡◌, ℕ, ◌-◌, take, refl, sym, ap, ◌∙◌, Ok, Err, Result, arith}
use Rattle.std.specs.Prelude.{IsOk}
use Rattle.std.specs.Result.{MatchResult}
use native.Mathlib.Nat.{sub-zero}
use Rattle.std.proofs.lemmas.List.{length-take-le}
use Rattle.std.proofs.lemmas.List.Edits.{sets}
use Rattle.frames.specs.Instructions.{shown}
use Rattle.frames.specs.Reading.{entries, inserts_in}
use Rattle.faults.specs.declared.frame.FrameFault.{FrameFault}
use Rattle.frames.specs.declared.reader.WireReader.{WireReader}
use Rattle.frames.specs.declared.wire.WireInstruction.{WireInstruction}
use Rattle.frames.specs.Steps.{wires_in, due, Read}
use Rattle.frames.proofs.Tables.{length_entries}
use Rattle.frames.proofs.Wires.{wires_fit}
use Rattle.frames.proofs.Walks.{left_ok, left_again, left_well, left_none}
use Rattle.frames.proofs.Filling.{entries_again, stored_again, sets_whole, put_sets, read_sized}
use Rattle.frames.proofs.read.fill.Goals as goal

pub loop-entry-init : goal.loop-entry-init
loop-entry-init g c =
    let xs = wires_in g.U.WireUnit.WIDTH c.args.count c.args.reader in
    let n = (wires_fit g.U.WireUnit.WIDTH c.args.count c.args.reader.place _ xs (left_ok _ _ c.args.reader c.requires.stands)).0 in
    rw (sub-zero c.args.count) (
      xs,
      (left_ok _ _ c.args.reader c.requires.stands),
      sets_whole (entries 0 xs) (take c.args.count c.args.instructions.now) (length_entries 0 xs ∙ n ∙ omega (arith, length-take-le c.args.count c.args.instructions.now c.requires.instructions)),
      refl,
      omega arith,
    )

-- reading answers an instruction where none that is due is at fault
no_fault : (w : ℕ) (before after : WireReader) (q : Result WireInstruction FrameFault) → MatchResult q (λ x. Read w before (shown x) after) (λ e. due w before ≡ Err e) → ((e : FrameFault) → due w before ≡ Err e → ⊥) → IsOk q
no_fault w before after (Ok x) m none = refl
no_fault w before after (Err e) m none = absurd (none e m)

pub unwrap-wire-requires : goal.unwrap-wire-requires
unwrap-wire-requires g c =
    no_fault g.U.WireUnit.WIDTH c.loop-entry.reader _ c.next_instruction.result c.next_instruction.ensures
    (λ e wrong. left_well _ c.args.count c.loop-entry.entry-index c.loop-entry.reader (omega arith) e c.loop-entry.invariant.0 wrong c.loop-entry.invariant.1)

pub store_units-inserted-requires : goal.store_units-inserted-requires
store_units-inserted-requires g c =
    let read = rw c.unwrap-wire.ensures at c.next_instruction.ensures in
    let n = left_again _ c.args.count c.loop-entry.entry-index c.loop-entry.reader (omega arith) _ (shown c.unwrap-wire.result) c.loop-entry.invariant.0 read c.loop-entry.invariant.1 in
    record {
      sized = read_sized g.U.WireUnit.WIDTH c.loop-entry.reader _ (shown c.unwrap-wire.result) read;
      room = omega (arith, ap inserts_in n.1, c.loop-entry.invariant.4, c.requires.units);
    }

pub loop-entry-preserved : goal.loop-entry-preserved
loop-entry-preserved g c =
    let read = rw c.unwrap-wire.ensures at c.next_instruction.ensures in
    let x = shown c.unwrap-wire.result in
    let n = left_again _ c.args.count c.loop-entry.entry-index c.loop-entry.reader (omega arith) _ x c.loop-entry.invariant.0 read c.loop-entry.invariant.1 in
    rw c.store_units-inserted.ensures.end (
      n.0,
      n.2,
      entries_again c.loop-entry.entry-items c.loop-entry.entry-index c.loop-entry.inserted _ c.entry.result x c.loop-entry.invariant.0 n.0 _ c.entry.ensures (omega (arith, c.loop-entry.invariant.4)) n.1 c.loop-entry.invariant.2,
      stored_again g.U.WireUnit.code c.loop-entry.units _ c.loop-entry.inserted x c.loop-entry.invariant.0 n.0 _ c.store_units-inserted.ensures.units n.1 c.loop-entry.invariant.3,
      omega (arith, ap inserts_in n.1, c.loop-entry.invariant.4),
    )

pub returns-clause-instructions : goal.returns-clause-instructions
returns-clause-instructions g c =
    let xs = wires_in g.U.WireUnit.WIDTH c.args.count c.args.reader in
    let n = length_entries 0 xs ∙ (wires_fit g.U.WireUnit.WIDTH c.args.count c.args.reader.place _ xs (left_ok _ _ c.args.reader c.requires.stands)).0 in
    let none = left_none g.U.WireUnit.WIDTH c.args.count c.loop-entry.entry-index c.loop-entry.reader c.loop-entry.invariant.0 (omega (arith, length-take-le c.args.count c.args.instructions.now c.requires.instructions)) c.loop-entry.invariant.1 in
    put_sets 0 (c.args.count - 0) c.args.instructions.now c.loop-entry.entry-items (entries 0 xs)
    (ap (λ ws. sets c.loop-entry.entry-items c.loop-entry.entry-index (entries c.loop-entry.inserted ws)) (sym none) ∙ c.loop-entry.invariant.2) (omega arith) (omega arith)
