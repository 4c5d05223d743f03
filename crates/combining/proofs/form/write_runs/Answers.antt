use Rattle.std.proofs.Common.{sym, subst, arith}
use Rattle.combining.specs.Steps.{Appended}
use Rattle.combining.proofs.Own.{own_total}
use Rattle.combining.proofs.Pieces.{next}
use Rattle.combining.proofs.Through.{origins_more}
use Rattle.combining.proofs.Writes.{appended_none, appended_then, space_left, space_less}
use Rattle.combining.proofs.form.write_runs.Goals as goal

pub loop-next-init : goal.loop-next-init
loop-next-init g c = record { space = space_less _ (omega (arith, own_total c.args.delta.now)) c.requires; appended = appended_none _ }

pub append-requires : goal.append-requires
append-requires g c =
    let d = c.args.delta.now in
    let i = next d c.loop-next.next-index (omega arith) in
    record { fits = i.fits 65535 d.source; space = space_less _ (omega (arith, i.room)) c.loop-next.invariant.space }

pub loop-next-preserved : goal.loop-next-preserved
loop-next-preserved g c =
    let d = c.args.delta.now in
    let k = c.loop-next.next-index in
    let i = next d k (omega arith) in
    record {
      space = space_left _ _ (omega (arith, i.long, i.room)) c.append.ensures c.loop-next.invariant.space;
      appended = subst (λ os. Appended os c.args.output.now c.append.new.self) (sym (origins_more d.units.now d.instructions.now k (omega arith))) (appended_then c.loop-next.invariant.appended c.append.ensures);
    }
