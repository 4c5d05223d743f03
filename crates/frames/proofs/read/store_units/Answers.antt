use Rattle.std.proofs.Common.{refl}
use Rattle.frames.proofs.Filling.{store_insert}
use Rattle.frames.proofs.read.store_units.Goals as goal

pub returns-in-Insert : goal.returns-in-Insert
returns-in-Insert g c =
    let room = rw c.in-Insert.is at c.requires.room in
    rw c.in-Insert.is
    (record { end = refl; units = store_insert g.U.WireUnit.code c.args.at c.in-Insert.length c.in-Insert.bytes.now c.args.units.now c.read_units.new.out room c.read_units.ensures })
