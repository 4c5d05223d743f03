use Rattle.std.proofs.Common.{◌≡◌, ◌+◌, ◌-◌, length, take, drop, ap, arith}
use Rattle.std.proofs.lemmas.List.{take_all, length-take, length-drop}
use Rattle.deltas.specs.Instructions.{blank_instruction}
use Rattle.deltas.specs.Places.{total}
use Rattle.combining.proofs.Own.{own_total}
use Rattle.combining.proofs.Pieces.{rest_at, total_more}
use Rattle.combining.proofs.locate.Cursor.search.Goals as goal

pub loop-ahead-preserved : goal.loop-ahead-preserved
loop-ahead-preserved g c =
    let s = c.args.self.now in
    let is = s.delta.now.instructions.now in
    let k = c.loop-ahead.ahead in
    let here = ap (λ i. i.length) (rest_at is s.index k blank_instruction) in
    let more = total_more is (s.index + k) (omega (arith, length-take (length is - s.index) (drop s.index is), length-drop s.index is)) in
    let step : s.index + k + 1 ≡ s.index + (k + 1) = omega arith in
    let next = ap (λ n. total (take n is)) step in
    omega arith

pub unreachable-requires : goal.unreachable-requires
unreachable-requires g c =
    let s = c.args.self.now in
    let is = s.delta.now.instructions.now in
    let all = ap total (take_all (s.index + c.loop-ahead.ahead) is (omega (arith, length-take (length is - s.index) (drop s.index is), length-drop s.index is))) in
    omega (arith, c.requires.inside, own_total s.delta.now)
