use Rattle.std.proofs.Common.{◌≡◌, ◌-◌, None, length, refl, arith}
use Rattle.record_scan.specs.Reading.{least_total}
use Rattle.record_scan.proofs.LengthLaws.{total_bound}
use Rattle.record_scan.proofs.ScanLaws.{scans, scans_none}
use Rattle.record_scan.proofs.PrintedLaws.{finds_printed}
use Rattle.record_scan.proofs.scan.scan_record.Goals as goal

pub content_of-requires : goal.content_of-requires
content_of-requires c = total_bound c.args.expr.now.kind c.args.expr.now.pieces c.as_slice-pieces.result.now c.as_slice-pieces.ensures c.args.expr.now.parsed c.args.expr.now.bounded

pub total_places-requires : goal.total_places-requires
total_places-requires c = total_bound c.args.expr.now.kind c.args.expr.now.pieces c.as_slice-pieces.result.now c.as_slice-pieces.ensures c.args.expr.now.parsed c.args.expr.now.bounded

pub returns-in-None-clause-texts : goal.returns-in-None-clause-texts
returns-in-None-clause-texts c = scans_none c.args.expr.now.pieces c.as_slice-pieces.result.now c.args.size c.args.bytes.now None c.as_slice-pieces.ensures c.in-None.ensures refl

pub returns-in-None-clause-printed : goal.returns-in-None-clause-printed
returns-in-None-clause-printed c =
    finds_printed c.args.expr.now.kind c.args.expr.now.pieces c.args.size c.args.bytes.now None c.args.expr.now.parsed c.requires
    (scans_none c.args.expr.now.pieces c.as_slice-pieces.result.now c.args.size c.args.bytes.now None c.as_slice-pieces.ensures c.in-None.ensures refl)

pub returns-in_ok-found-in-Some-clause-texts : goal.returns-in_ok-found-in-Some-clause-texts
returns-in_ok-found-in-Some-clause-texts c =
    let left : c.saturating_sub-variable.result ≡ length c.in-Some.content.now - least_total c.as_slice-pieces.result.now = omega arith in
    scans c.args.expr.now.pieces c.as_slice-pieces.result.now c.args.size c.saturating_sub-variable.result c.args.bytes.now c.in-Some.content.now c.in_ok-found-in-Some.found
    c.as_slice-pieces.ensures c.requires c.in-Some.ensures left c.in_ok-found-in-Some.ensures

pub returns-in_ok-found-in-Some-clause-printed : goal.returns-in_ok-found-in-Some-clause-printed
returns-in_ok-found-in-Some-clause-printed c =
    let left : c.saturating_sub-variable.result ≡ length c.in-Some.content.now - least_total c.as_slice-pieces.result.now = omega arith in
    finds_printed c.args.expr.now.kind c.args.expr.now.pieces c.args.size c.args.bytes.now c.in_ok-found-in-Some.found c.args.expr.now.parsed c.requires
    (scans c.args.expr.now.pieces c.as_slice-pieces.result.now c.args.size c.saturating_sub-variable.result c.args.bytes.now c.in-Some.content.now c.in_ok-found-in-Some.found
    c.as_slice-pieces.ensures c.requires c.in-Some.ensures left c.in_ok-found-in-Some.ensures)
