use Rattle.std.proofs.Common.{◌∙◌, arith}
use Rattle.frames.proofs.Verdicts.{answer_walks}
use Rattle.frames.proofs.check.check_frame.Goals as goal

pub returns : goal.returns
returns g c =
    c.check_instructions.ensures
    ∙ answer_walks g.U.WireUnit.code c.args.frame.now c.in_ok-opening.opening c.new-reader.result _ c.in_ok-inserted.inserted c.new-reader.ensures.frame c.new-reader.ensures.place c.KIND.ensures c.in_ok-opening.ensures c.in_ok-inserted.ensures (omega arith) (omega arith)
