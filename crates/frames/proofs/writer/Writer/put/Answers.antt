use Rattle.std.proofs.Common.{refl, arith}
use Rattle.frames.proofs.Filling.{put_sets}
use Rattle.frames.proofs.writer.Writer.put.Goals as goal

pub returns : goal.returns
returns c = record {
  same = refl;
  out = put_sets c.args.self.now.at _ c.args.self.now.out.now _ c.args.bytes.now c.copy_from_slice.ensures.after (omega arith) c.requires;
  at = refl;
}
