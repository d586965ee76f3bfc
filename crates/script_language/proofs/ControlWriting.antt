-- That lines are written as they are spelled: the control lines.
use Rattle.std.proofs.Common.{ℕ, ◌++◌, refl}
use Rattle.std.specs.Prelude.{codes}
use Rattle.script_lines.specs.declared.line.Line.TheVariants.{Cluster, Time, Deliver, Resend, Mirror, Ack, Work, Push, Inject, Settle, Crash, Arm, Disarm, Restart, DispatchOne, DispatchAll, Servers, Files, Cat}
use Rattle.script_language.specs.Control.{IsSetting, IsTimeLine, IsDeliver, IsResend, IsInject, IsCrash, IsArm, IsRestart, dispatch_forms, IsDispatch, IsCat, shown_forms, failure_forms, control_forms, IsCluster}
use Rattle.std.specs.Fmt.{decimal}
use Rattle.script_grammar.proofs.Writing.{WritesBehind, WritesForms, written_known, written_word, written_part, written_no_form, written_form, written_such, number_written, signed_written, quoted_written}
use Rattle.script_language.specs.Printing.{line_text}
use Rattle.script_language.proofs.ValueWriting.{server_written}
use Rattle.script_language.proofs.StreamWriting.{options_written}

setting_written : WritesBehind (λ rest. codes "cluster start=" ++ rest) IsSetting line_text
unfolding IsSetting line_text
setting_written =
    written_part signed_written (λ start.
    written_word (codes " queue=") (written_part number_written (λ queue.
    written_word (codes " callbacks=") (written_part number_written (λ callbacks.
    written_part (options_written (codes " alarm")) (λ alarm.
    written_part (options_written (codes " ntf")) (λ ntf.
    written_part (options_written (codes " sys")) (λ sys.
    written_known (Cluster start queue callbacks alarm ntf sys) refl))))))))

time_line_written : WritesBehind (λ rest. codes "time " ++ rest) IsTimeLine line_text
unfolding IsTimeLine line_text
time_line_written =
    written_part signed_written (λ now.
    written_known (Time now) refl)

deliver_written : WritesBehind (λ rest. codes "deliver " ++ rest) IsDeliver line_text
unfolding IsDeliver line_text
deliver_written =
    written_part number_written (λ place.
    written_known (Deliver place) refl)

resend_written : WritesBehind (λ rest. codes "resend " ++ rest) IsResend line_text
unfolding IsResend line_text
resend_written =
    written_part number_written (λ client.
    written_known (Resend client) refl)

inject_written : WritesBehind (λ rest. codes "inject " ++ rest) IsInject line_text
unfolding IsInject line_text
inject_written =
    written_part quoted_written (λ bytes.
    written_known (Inject bytes) refl)

crash_written : WritesBehind (λ rest. codes "crash " ++ rest) IsCrash line_text
unfolding IsCrash line_text
crash_written =
    written_part server_written (λ server.
    written_known (Crash server) refl)

arm_written : WritesBehind (λ rest. codes "arm " ++ rest) IsArm line_text
unfolding IsArm line_text
arm_written =
    written_part server_written (λ server.
    written_word (codes " ") (written_part number_written (λ count.
    written_known (Arm server count) refl)))

restart_written : WritesBehind (λ rest. codes "restart " ++ rest) IsRestart line_text
unfolding IsRestart line_text
restart_written =
    written_part server_written (λ server.
    written_known (Restart server) refl)

dispatch_writing : (client : ℕ) → WritesForms (λ rest. codes "dispatch " ++ (decimal client ++ rest)) (dispatch_forms client) line_text
unfolding line_text
dispatch_writing client =
    written_form (codes " one") (written_known (DispatchOne client) refl) (
    written_form (codes " all workers=") (written_part number_written (λ workers.
    written_known (DispatchAll client workers) refl)) written_no_form)

dispatch_written : WritesBehind (λ rest. codes "dispatch " ++ rest) IsDispatch line_text
unfolding IsDispatch line_text
dispatch_written =
    written_part number_written (λ client.
    (dispatch_writing client).behind)

cat_written : WritesBehind (λ rest. codes "cat " ++ rest) IsCat line_text
unfolding IsCat line_text
cat_written =
    written_part quoted_written (λ name.
    written_known (Cat name) refl)

shown_writing : WritesForms (λ rest. rest) shown_forms line_text
unfolding line_text
shown_writing =
    written_form (codes "dispatch ") dispatch_written (
    written_form (codes "servers") (written_known Servers refl) (
    written_form (codes "files") (written_known Files refl) (
    written_form (codes "cat ") cat_written written_no_form)))

failure_writing : WritesForms (λ rest. rest) failure_forms line_text
unfolding line_text
failure_writing =
    written_form (codes "crash ") crash_written (
    written_form (codes "arm ") arm_written (
    written_form (codes "disarm") (written_known Disarm refl) (
    written_form (codes "restart ") restart_written (
    shown_writing))))

cluster_written : WritesBehind (λ rest. codes "cluster start=" ++ rest) IsCluster line_text
cluster_written = written_such setting_written

pub control_writing : WritesForms (λ rest. rest) control_forms line_text
unfolding line_text
control_writing =
    written_form (codes "cluster start=") cluster_written (
    written_form (codes "time ") time_line_written (
    written_form (codes "deliver ") deliver_written (
    written_form (codes "resend ") resend_written (
    written_form (codes "mirror") (written_known Mirror refl) (
    written_form (codes "ack") (written_known Ack refl) (
    written_form (codes "work") (written_known Work refl) (
    written_form (codes "push") (written_known Push refl) (
    written_form (codes "inject ") inject_written (
    written_form (codes "settle") (written_known Settle refl) (
    failure_writing))))))))))
