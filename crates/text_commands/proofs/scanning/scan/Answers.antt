use Rattle.std.proofs.Common.{ℕ, List, inl, refl, subst}
use Rattle.played_runs.specs.Edges.{edge, fault_count}
use Rattle.played_runs.specs.Writing.{Counting, IsNever, IsText, Standing, Written, unasked}
use Rattle.played_runs.proofs.CountSteps.{on-same}
use Rattle.played_runs.proofs.EndingSteps.{lacked, text-written}
use Rattle.played_runs.proofs.WritingSteps.{ended-as}
use Rattle.text_commands.specs.ScanSteps.{ScanEnds, ScanLacks, SourceEnds, SourceLacks}
use Rattle.text_commands.proofs.ScanLaws.{refused-scan, source-lacks, source-scan}
use Rattle.text_commands.proofs.scanning.scan.Goals as goal

pub scan_source-status-requires : goal.scan_source-status-requires
scan_source-status-requires g c = (rw c.in-Ok-Parted.field-0-is at c.in-Ok-Parted.ensures).separable

pub returns-in-Ok-Parted : goal.returns-in-Ok-Parted
returns-in-Ok-Parted g c =
    let query = c.args.query in
    let asked = c.args.text.now in
    let wanted = c.args.wanted.now in
    let parted = rw c.in-Ok-Parted.field-0-is at c.in-Ok-Parted.ensures in
    let pieces = c.in-Ok-Parted.expr.pieces in
    let source = edge g.S.Source.left g.S.Source.faults c.args.source.now c.scan_source-status.new.source in
    let sink = edge g.K.Sink.written g.K.Sink.faults c.args.out.now c.scan_source-status.new.out in
    ended-as (fault_count source) unasked (SourceEnds query pieces wanted source) (ScanEnds query asked wanted source) (SourceLacks query pieces wanted source) (ScanLacks query asked wanted source) sink c.scan_source-status.result (source-scan query pieces wanted source asked parted) (source-lacks query pieces wanted source asked parted) c.scan_source-status.ensures

pub returns-in-Ok-Refused : goal.returns-in-Ok-Refused
returns-in-Ok-Refused g c =
    let refused = rw c.in-Ok-Refused.field-0-is at c.in-Ok-Refused.ensures in
    let end = c.in-Ok-Refused.end in
    let source = edge g.S.Source.left g.S.Source.faults c.args.source.now c.args.source.now in
    let sink = edge g.K.Sink.written g.K.Sink.faults c.args.out.now c.write_text.new.out in
    let query = c.args.query in
    let E = Counting (fault_count source) unasked (ScanEnds query c.args.text.now c.args.wanted.now source) in
    let L = Standing (fault_count source) unasked (ScanLacks query c.args.text.now c.args.wanted.now source) in
    let written = subst (λ (text : List ℕ). Written (IsText end.status text) IsNever sink c.write_text.result) c.as_slice.ensures.value c.write_text.ensures in
    text-written E L end.status end.text.items sink c.write_text.result (refused-scan query c.args.text.now c.args.wanted.now source refl end.status end.text.items refused) written

pub returns-in-Err : goal.returns-in-Err
returns-in-Err g c = lacked _ _ _ (inl (refl, refl), refl, on-same 0) refl
