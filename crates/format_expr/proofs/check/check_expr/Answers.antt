use Rattle.std.proofs.Common.{inl, inr, length, ap, sym, ◌∙◌, arith}
use Rattle.std.proofs.lemmas.List.{take_all}
use Rattle.format_expr.specs.declared.check.Stand.TheVariants.{Between}
use Rattle.format_expr.specs.Scan.{run}
use Rattle.format_expr.proofs.FaultLaws.{checked_stop, checked_long, checked_ok, stops_at_end}
use Rattle.format_expr.proofs.check.check_expr.Goals as goal

pub returns-in-Err-clause-ok : goal.returns-in-Err-clause-ok
returns-in-Err-clause-ok c = (checked_stop {T = Unit {0}} c.args.kind c.args.text.now c.in-Err.fault c.in-Err.ensures.stopped (inr c.in-Err.ensures.early)).ok

pub returns-in-Err-clause-refused : goal.returns-in-Err-clause-refused
returns-in-Err-clause-refused c = (checked_stop {T = Unit {0}} c.args.kind c.args.text.now c.in-Err.fault c.in-Err.ensures.stopped (inr c.in-Err.ensures.early)).refused

pub returns-then-text-gt-MAX_EXPR-clause-refused : goal.returns-then-text-gt-MAX_EXPR-clause-refused
returns-then-text-gt-MAX_EXPR-clause-refused c =
    (checked_long c.args.kind c.args.text.now c.in-Ok.stand c.in-Ok.ensures.read (omega arith)).refused

pub returns-in-None-clause-ok : goal.returns-in-None-clause-ok
returns-in-None-clause-ok c =
    (checked_ok c.args.kind c.args.text.now c.in-Ok.stand (tt {0}) (ap (run c.args.kind Between) (sym (take_all 1024 c.args.text.now (omega arith))) ∙ c.in-Ok.ensures.read) (sym c.in-None.ensures) (omega arith)).ok

pub returns-in-None-clause-refused : goal.returns-in-None-clause-refused
returns-in-None-clause-refused c =
    (checked_ok c.args.kind c.args.text.now c.in-Ok.stand (tt {0}) (ap (run c.args.kind Between) (sym (take_all 1024 c.args.text.now (omega arith))) ∙ c.in-Ok.ensures.read) (sym c.in-None.ensures) (omega arith)).refused

pub returns-in-Some-clause-ok : goal.returns-in-Some-clause-ok
returns-in-Some-clause-ok c =
    (checked_stop {T = Unit {0}} c.args.kind c.args.text.now (record { place = length c.args.text.now; why = c.in-Some.why }) (stops_at_end c.args.kind c.args.text.now c.in-Ok.stand c.in-Some.why (omega arith) c.in-Ok.ensures.read (sym c.in-Some.ensures)) (inl (omega arith))).ok

pub returns-in-Some-clause-refused : goal.returns-in-Some-clause-refused
returns-in-Some-clause-refused c =
    (checked_stop {T = Unit {0}} c.args.kind c.args.text.now (record { place = length c.args.text.now; why = c.in-Some.why }) (stops_at_end c.args.kind c.args.text.now c.in-Ok.stand c.in-Some.why (omega arith) c.in-Ok.ensures.read (sym c.in-Some.ensures)) (inl (omega arith))).refused
