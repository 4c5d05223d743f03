use Rattle.std.proofs.Common.{length, take, drop, ap, ◌∙◌, arith}
use native.Mathlib.Nat.{sub-zero}
use Rattle.frames.proofs.Tables.{length_units_in}
use Rattle.frames.proofs.Filling.{rest_again, units_again, sets_whole}
use Rattle.frames.proofs.read.read_units.Goals as goal

pub loop-unit-init : goal.loop-unit-init
loop-unit-init g c = rw sub-zero (sets_whole _ c.args.out.now (length_units_in g.U.WireUnit.code (length c.args.out.now) c.args.bytes.now), c.requires)

pub loop-unit-preserved : goal.loop-unit-preserved
loop-unit-preserved g c =
    let bs = c.loop-unit.rest.now in
    let back = c.split_at.ensures.back ∙ ap (λ w. drop w bs) c.WIDTH.ensures in (
      units_again g.U.WireUnit.code (length c.args.out.now) c.loop-unit.unit-index c.loop-unit.unit-items bs _ _ c.read.result _ (omega arith) (c.split_at.ensures.front ∙ ap (λ w. take w bs) c.WIDTH.ensures) back c.read.ensures c.loop-unit.invariant.0,
      rest_again (length c.args.out.now) c.loop-unit.unit-index g.U.WireUnit.WIDTH bs _ (omega arith) back c.loop-unit.invariant.1,
    )
