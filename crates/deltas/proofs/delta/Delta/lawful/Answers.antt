use Rattle.std.proofs.Common.{◌-◌, sym, ap, subst, ◌∙◌, arith}
use native.Mathlib.Nat.{sub-zero}
use Rattle.std.proofs.lemmas.List.{length-take-le}
use Rattle.deltas.specs.Check.{parts_of, Lawful}
use Rattle.deltas.proofs.Sound.{checked_facts, passed_any, own_lawful}
use Rattle.deltas.proofs.Checks.{own_is}
use Rattle.deltas.proofs.delta.Delta.lawful.Goals as goal

pub slice_bounds-result-end : goal.slice_bounds-result-end
slice_bounds-result-end g c =
    let f = checked_facts (parts_of c.args.self.now) c.in_ok-head.head (sym c.in_ok-head.ensures) in
    let p = f.0 in
    let e = ap (λ h. h.instructions) f.1 in
    omega (arith, p.instructions)

pub slice_bounds-result-end-2 : goal.slice_bounds-result-end-2
slice_bounds-result-end-2 g c =
    let f = checked_facts (parts_of c.args.self.now) c.in_ok-head.head (sym c.in_ok-head.ensures) in
    let p = f.0 in
    let e = ap (λ h. h.inserted) f.1 in
    omega (arith, p.inserted)

pub invariant_of-result : goal.invariant_of-result
invariant_of-result g c =
    let d = parts_of c.args.self.now in
    let f = checked_facts d c.in_ok-head.head (sym c.in_ok-head.ensures) in
    let p = f.0 in
    let e = ap (λ h. h.instructions) f.1 in
    let j = ap (λ h. h.inserted) f.1 in
    let s = ap (λ h. h.source) f.1 in
    let t = ap (λ h. h.target) f.1 in
    record {
      count = length-take-le (c.in_ok-head.head.instructions - 0) d.table (omega arith) ∙ sub-zero c.in_ok-head.head.instructions;
      inserted = length-take-le (c.in_ok-head.head.inserted - 0) d.units (omega arith) ∙ sub-zero c.in_ok-head.head.inserted;
      lawful = subst Lawful (sym (own_is d c.in_ok-head.head f.1)) (own_lawful d (passed_any d c.in_ok-head.head (sym c.in_ok-head.ensures)));
      source = omega arith;
      target = omega arith;
    }

pub returns : goal.returns
returns g c =
    let d = parts_of c.args.self.now in
    (sym c.in_ok-head.ensures, own_is d c.in_ok-head.head (checked_facts d c.in_ok-head.head (sym c.in_ok-head.ensures)).1)
