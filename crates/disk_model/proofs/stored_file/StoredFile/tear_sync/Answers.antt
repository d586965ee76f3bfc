use Rattle.std.proofs.Common.{◌≡◌, ◌∙◌, ap, length, rules}
use Rattle.disk_model.specs.Memory.{half_grown}
use Rattle.disk_model.proofs.Tearing.{torn_sync_is}
use Rattle.disk_model.proofs.stored_file.StoredFile.tear_sync.Goals as goal

pub returns : goal.returns
returns c =
    let size : c.len-len.result ≡ length c.self.inside.bytes.items = search rules in
    let kept : c.half_kept-kept.result ≡ half_grown c.self.inside.settled (length c.self.inside.bytes.items) = c.half_kept-kept.ensures ∙ ap (half_grown c.self.inside.settled) size in
    let torn = c.tear_ranges.ensures.torn in
    let all = c.as_slice.ensures.value in
    rw (← c.self.view_is) (torn_sync_is c.args.torn.now _ c.half_kept-kept.result c.truncate.new.self.items kept (cc (torn, all, c.truncate.ensures.items)))
