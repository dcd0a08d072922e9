use Rattle.std.proofs.Common.{rules}
use Rattle.overlay.specs.NewRecords.{new_image}
use Rattle.overlay.proofs.write.write_records.Goals as goal

pub returns : goal.returns
returns c = c.write_if_room.ensures
    (new_image c.args.copied.img.now c.args.copied.given.now c.args.copied.new_name.now c.args.sections c.args.new c.args.others.now) (λ l q m h. search rules)
