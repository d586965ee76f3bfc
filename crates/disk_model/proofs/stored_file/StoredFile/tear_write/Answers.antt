use Rattle.std.proofs.Common.{◌≡◌, ◌≤◌, refl, min, ◌-◌, length, arith, rules}
use Rattle.disk_model.proofs.Tearing.{torn_write_is}
use Rattle.disk_model.proofs.stored_file.StoredFile.tear_write.Goals as goal

pub returns-clause-ok : goal.returns-clause-ok
returns-clause-ok c =
    let len : c.len-len.result ≡ length c.self.inside.bytes.items = search rules in
    let within : c.args.at ≤ length c.self.inside.bytes.items = omega arith in
    let inside : c.overlap-within.result ≡ min (length c.args.bytes.now) (length c.self.inside.bytes.items - c.args.at) = omega arith in
    let grown = c.in_ok-grow.ensures.ok in
    rw (← c.self.view_is) (torn_write_is c.args.torn.now c.args.at c.args.bytes.now _ c.overlap-within.result _ c.grow.new.bytes.items
    c.overwrite_torn.new.bytes.items c.grow.new.loose.items within inside refl grown.0 c.overwrite_torn.ensures grown.1)
