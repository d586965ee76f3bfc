use Rattle.std.proofs.Common.{◌≡◌, true, sym, ◌∙◌, arith}
use Rattle.journal_found.specs.Found.{is_journal}
use Rattle.journal_start.proofs.ReplayLaws.{begun-at, journal-long}
use Rattle.journal_start.proofs.replaying.replay.Goals as goal

pub loop-alloc-init : goal.loop-alloc-init
loop-alloc-init c =
    let journal : is_journal c.args.bytes.now ≡ true = sym c.begins.ensures ∙ c.if-not-begins.false in
    record {
      following = begun-at c.args.bytes.now c.new-entries.result.items c.joining-node.result c.new-entries.ensures.items c.joining-node.ensures;
      long = journal-long c.args.bytes.now journal;
      within = omega arith;
      journal = journal;
    }
