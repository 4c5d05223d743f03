use Rattle.std.proofs.Common.{◌≡◌, ◌+◌, ◌-◌, ◌≤◌, ◌++◌, length, take, drop, refl, ap, ◌∙◌, arith}
use borrow.Rule.Slice.PartMut.{same_len_mid}
use Rattle.std.proofs.lemmas.List.{length-take, length-drop}
use Rattle.std.proofs.lemmas.Slice.{take-put_mid}
use Rattle.combining.specs.Normal.{extend}
use Rattle.combining.specs.Steps.{written_instructions, written_units}
use Rattle.combining.proofs.Writes.{append_copy, append_insert, inside_insert}
use Rattle.combining.proofs.write.Output.append.Goals as goal

pub returns-in-Copy : goal.returns-in-Copy
returns-in-Copy g c =
    append_copy c.args.source.now c.args.self.now _ c.args.part c.in-Copy.is c.requires.fits.0
    (record { instructions = refl; units = refl; entries = c.emit-self.auto.out; room = refl })
    c.emit-self.ensures.front c.emit-self.ensures.most refl refl

pub returns-in-Insert : goal.returns-in-Insert
returns-in-Insert g c =
    let o = c.args.self.now in
    let n = c.args.part.length in
    let part = take n (drop c.args.part.from c.args.source.now) in
    let inside : c.args.part.from + n ≤ length c.args.source.now = inside_insert 65535 _ _ _ c.args.part.op c.in-Insert.is c.requires.fits.1 in
    let cut : c.args.part.from + n - c.args.part.from ≡ n = omega arith in
    let same : c.copy_from_slice.new.self ≡ part = c.copy_from_slice.ensures.after ∙ ap (λ m. take m (drop c.args.part.from c.args.source.now)) cut in
    let long : length c.copy_from_slice.new.self ≡ n = omega (arith, ap length same, length-take n (drop c.args.part.from c.args.source.now), length-drop c.args.part.from c.args.source.now) in
    append_insert c.args.source.now o _ c.args.part c.in-Insert.is c.requires.fits.0 inside
    (record { instructions = refl; units = refl; entries = c.emit-self-in-Insert.auto.out; room = same_len_mid o.inserted _ o.units.now c.copy_from_slice.new.self c.copy_from_slice.auto.self })
    (c.emit-self-in-Insert.ensures.front ∙ ap (extend (written_instructions o)) c.new-next.ensures)
    c.emit-self-in-Insert.ensures.most
    (take-put_mid o.inserted _ o.units.now c.copy_from_slice.new.self _ (omega arith) (omega arith) ∙ ap (λ vs. written_units o ++ vs) same)
    refl
