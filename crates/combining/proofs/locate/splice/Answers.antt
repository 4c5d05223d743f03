use Rattle.std.proofs.Common.{◌≡◌, ℕ, ◌+◌, ◌-◌, ◌++◌, take, drop, sym, ap, ◌∙◌, subst, arith}
use Rattle.deltas.specs.declared.instruction.Instruction.{Instruction}
use Rattle.deltas.specs.declared.lawful.LawfulDelta.{LawfulDelta}
use Rattle.combining.specs.declared.write.Output.{Output}
use Rattle.deltas.specs.LawfulDeltas.{lawful_parts}
use Rattle.deltas.specs.Origins.{piece, origins_of}
use Rattle.combining.specs.Steps.{Appended, Located}
use Rattle.combining.proofs.Pieces.{Part, turn, taken_more}
use Rattle.combining.proofs.Writes.{appended_then, space_left}
use Rattle.combining.proofs.locate.splice.Goals as goal

pub cut-requires : goal.cut-requires
cut-requires g c = (turn c.locate-index.new.self.delta.now _ _ _ _ c.loop-next.wanted c.min-taken.result c.loop-next.invariant.located c.loop-next.invariant.some (omega arith)).cuts

pub append-requires-clause-fits : goal.append-requires-clause-fits
append-requires-clause-fits g c =
    ((turn c.locate-index.new.self.delta.now _ _ _ _ c.loop-next.wanted c.min-taken.result c.loop-next.invariant.located c.loop-next.invariant.some (omega arith)).part c.cut.result c.cut.ensures).fits

-- so many places were written, and those of one turn
taken_then : {U : Type 0} (d : LawfulDelta U) (place done n m : ℕ) (i : Instruction) {o o' o'' : Output U} → Appended (take done (drop place (origins_of (lawful_parts d)))) o o' → Part d (place + done) n i → Appended (piece d.units.now i) o' o'' → m ≡ done + n → Appended (take m (drop place (origins_of (lawful_parts d)))) o o''
taken_then d place done n m i {o} {o'} {o''} a part b e =
    let os = origins_of (lawful_parts d) in
    let all : take done (drop place os) ++ piece d.units.now i ≡ take m (drop place os) =
    ap (λ ps. take done (drop place os) ++ ps) part.gives ∙ taken_more os place done n ∙ ap (λ k. take k (drop place os)) (sym e) in
    subst (λ ps. Appended ps o o'') all (appended_then a b)

pub returns-then-wanted-eq0-clause-appended : goal.returns-then-wanted-eq0-clause-appended
returns-then-wanted-eq0-clause-appended g c =
    let d = c.locate-index.new.self.delta.now in
    let now = turn d _ _ _ _ c.loop-next.wanted c.min-taken.result c.loop-next.invariant.located c.loop-next.invariant.some (omega arith) in
    subst (λ e. Appended (take c.args.count (drop c.args.place (origins_of (lawful_parts e)))) c.args.output.now c.append.new.self) c.locate-index.ensures.same_delta
    (taken_then d c.args.place (c.args.count - c.loop-next.wanted) c.min-taken.result c.args.count c.cut.result c.loop-next.invariant.appended (now.part c.cut.result c.cut.ensures) c.append.ensures (omega arith))

pub loop-next-preserved : goal.loop-next-preserved
loop-next-preserved g c =
    let d = c.locate-index.new.self.delta.now in
    let n = c.min-taken.result in
    let w = c.loop-next.wanted in
    let done = c.args.count - w in
    let now = turn d _ _ _ _ c.loop-next.wanted c.min-taken.result c.loop-next.invariant.located c.loop-next.invariant.some (omega arith) in
    let part = now.part c.cut.result c.cut.ensures in
    let target = ap (λ e. e.head.target) c.locate-index.ensures.same_delta in
    let place : c.args.place + done + n ≡ c.args.place + (c.args.count - (w - n)) = omega arith in
    record {
      some = omega arith;
      within = omega arith;
      located = subst (λ p. Located d.instructions.now p (c.locate-index.result.0 + (c.loop-next.next-index + 1)) 0) place (now.further (omega arith) (omega (arith, c.requires.inside)));
      space = space_left w (w - n) (omega (arith, part.long)) c.append.ensures c.loop-next.invariant.space;
      appended = taken_then d c.args.place done n (c.args.count - (w - n)) c.cut.result c.loop-next.invariant.appended part c.append.ensures (omega arith);
    }
