-- That reading is exact: the control lines.
use Rattle.std.proofs.Common.{ℕ, List, [], ◌∷◌, refl}
use Rattle.std.specs.Prelude.{codes}
use Rattle.stream_config.specs.Attributes.{PassesAttrs}
use Rattle.script_lines.specs.declared.line.Line.{Line}
use Rattle.script_lines.specs.declared.line.Line.TheVariants.{Cluster, Time, Deliver, Resend, Mirror, Ack, Work, Push, Inject, Settle, Crash, Arm, Disarm, Restart, DispatchOne, DispatchAll, Servers, Files, Cat}
use Rattle.script_language.specs.Streams.{well_attrs}
use Rattle.script_language.specs.Control.{IsSetting, IsTimeLine, IsDeliver, IsResend, IsInject, IsCrash, IsArm, IsRestart, dispatch_forms, IsDispatch, IsCat, shown_forms, failure_forms, control_forms, HasSoundStreams, IsCluster}
use Rattle.script_language.specs.ControlReading.{setting_at, time_line_at, deliver_at, resend_at, inject_at, crash_at, arm_at, restart_at, dispatch_readers, dispatch_at, cat_at, shown_readers, failure_readers, control_readers, has_sound_streams, cluster_at}
use Rattle.script_grammar.proofs.Rules.Beginning.{Ends, Begins}
use Rattle.script_grammar.proofs.Rules.{Beginning, Rule, TableRule, known_rule, word_rule, part_rule, no_form_rule, form_rule, such_rule, anything}
use Rattle.script_language.proofs.ValueRules.{script_time_rule, client_rule, queue_length_rule, count_rule, server_rule, quoted_rule, small_rule, server_starts}
use Rattle.script_language.proofs.StreamRules.{alarm_options_rule, ntf_options_rule, sys_options_rule}
use Rattle.std.specs.Bool.{Decides}
use Rattle.std.proofs.lemmas.Bool.Decides.{Decides-like, Decides-and}
use Rattle.stream_config.proofs.AttributeLaws.{decides_attrs}
use Rattle.ais_values.specs.declared.kind.StreamKind.TheVariants as kinds

pub setting_rule : Rule setting_at IsSetting (Ends ∷ []) anything
unfolding setting_at IsSetting
setting_rule =
    part_rule script_time_rule (λ start.
    word_rule (codes " queue=") refl (part_rule queue_length_rule (λ queue.
    word_rule (codes " callbacks=") refl (part_rule queue_length_rule (λ callbacks.
    part_rule alarm_options_rule (λ alarm.
    part_rule ntf_options_rule (λ ntf.
    part_rule sys_options_rule (λ sys.
    known_rule (Cluster start queue callbacks alarm ntf sys)) refl) refl) refl) refl)) refl)) refl

decides_streams : (line : Line) → Decides (has_sound_streams line) (HasSoundStreams line)
decides_streams (Cluster start queue callbacks alarm ntf sys) =
    let A = PassesAttrs kinds.Alarm (well_attrs kinds.Alarm alarm) in
    let B = PassesAttrs kinds.Notification (well_attrs kinds.Notification ntf) in
    let C = PassesAttrs kinds.System (well_attrs kinds.System sys) in
    Decides-like (has_sound_streams (Cluster start queue callbacks alarm ntf sys))
    (λ (p : (A × B) × C). (p.0.0, p.0.1, p.1))
    (λ (p : A × B × C). ((p.0, p.1), p.2))
    (Decides-and _ _ (Decides-and _ _ (decides_attrs kinds.Alarm (well_attrs kinds.Alarm alarm)) (decides_attrs kinds.Notification (well_attrs kinds.Notification ntf)))
    (decides_attrs kinds.System (well_attrs kinds.System sys)))
decides_streams _ = (λ h. tt, λ h. refl)

cluster_rule : Rule cluster_at IsCluster (Ends ∷ []) anything
unfolding cluster_at
cluster_rule = such_rule has_sound_streams HasSoundStreams decides_streams setting_rule

pub time_line_rule : Rule time_line_at IsTimeLine (Ends ∷ []) anything
unfolding time_line_at IsTimeLine
time_line_rule =
    part_rule script_time_rule (λ now.
    known_rule (Time now)) refl

pub deliver_rule : Rule deliver_at IsDeliver (Ends ∷ []) anything
unfolding deliver_at IsDeliver
deliver_rule =
    part_rule count_rule (λ place.
    known_rule (Deliver place)) refl

pub resend_rule : Rule resend_at IsResend (Ends ∷ []) anything
unfolding resend_at IsResend
resend_rule =
    part_rule client_rule (λ client.
    known_rule (Resend client)) refl

pub inject_rule : Rule inject_at IsInject (Ends ∷ []) anything
unfolding inject_at IsInject
inject_rule =
    part_rule quoted_rule (λ bytes.
    known_rule (Inject bytes)) refl

pub crash_rule : Rule crash_at IsCrash (Ends ∷ []) server_starts
unfolding crash_at IsCrash
crash_rule =
    part_rule server_rule (λ server.
    known_rule (Crash server)) refl

pub arm_rule : Rule arm_at IsArm (Ends ∷ []) server_starts
unfolding arm_at IsArm
arm_rule =
    part_rule server_rule (λ server.
    word_rule (codes " ") refl (part_rule count_rule (λ count.
    known_rule (Arm server count)) refl)) refl

pub restart_rule : Rule restart_at IsRestart (Ends ∷ []) server_starts
unfolding restart_at IsRestart
restart_rule =
    part_rule server_rule (λ server.
    known_rule (Restart server)) refl

abbrev pub dispatch_starts : List Beginning
dispatch_starts = Begins (codes " one") ∷ Begins (codes " all workers=") ∷ []

dispatch_table : (client : ℕ) → TableRule (dispatch_readers client) (dispatch_forms client) (Ends ∷ []) dispatch_starts
dispatch_table client =
    form_rule (codes " one") (known_rule (DispatchOne client)) (
    form_rule (codes " all workers=") (part_rule (small_rule 1 8 refl) (λ workers.
    known_rule (DispatchAll client workers)) refl) no_form_rule refl) refl

pub dispatch_rule : Rule dispatch_at IsDispatch (Ends ∷ []) anything
unfolding dispatch_at IsDispatch
dispatch_rule =
    part_rule client_rule (λ client.
    (dispatch_table client).rule) refl

pub cat_rule : Rule cat_at IsCat (Ends ∷ []) anything
unfolding cat_at IsCat
cat_rule =
    part_rule quoted_rule (λ name.
    known_rule (Cat name)) refl

abbrev pub shown_starts : List Beginning
shown_starts = Begins (codes "dispatch ") ∷ Begins (codes "servers") ∷ Begins (codes "files") ∷ Begins (codes "cat ") ∷ []

shown_table : TableRule shown_readers shown_forms (Ends ∷ []) shown_starts
shown_table =
    form_rule (codes "dispatch ") dispatch_rule (
    form_rule (codes "servers") (known_rule Servers) (
    form_rule (codes "files") (known_rule Files) (
    form_rule (codes "cat ") cat_rule no_form_rule refl) refl) refl) refl

abbrev pub failure_starts : List Beginning
failure_starts = Begins (codes "crash ") ∷ Begins (codes "arm ") ∷ Begins (codes "disarm") ∷ Begins (codes "restart ") ∷ shown_starts

failure_table : TableRule failure_readers failure_forms (Ends ∷ []) failure_starts
failure_table =
    form_rule (codes "crash ") crash_rule (
    form_rule (codes "arm ") arm_rule (
    form_rule (codes "disarm") (known_rule Disarm) (
    form_rule (codes "restart ") restart_rule (
    shown_table) refl) refl) refl) refl

abbrev pub control_starts : List Beginning
control_starts = Begins (codes "cluster start=") ∷ Begins (codes "time ") ∷ Begins (codes "deliver ") ∷ Begins (codes "resend ") ∷ Begins (codes "mirror") ∷ Begins (codes "ack") ∷ Begins (codes "work") ∷ Begins (codes "push") ∷ Begins (codes "inject ") ∷ Begins (codes "settle") ∷ failure_starts

pub control_table : TableRule control_readers control_forms (Ends ∷ []) control_starts
control_table =
    form_rule (codes "cluster start=") cluster_rule (
    form_rule (codes "time ") time_line_rule (
    form_rule (codes "deliver ") deliver_rule (
    form_rule (codes "resend ") resend_rule (
    form_rule (codes "mirror") (known_rule Mirror) (
    form_rule (codes "ack") (known_rule Ack) (
    form_rule (codes "work") (known_rule Work) (
    form_rule (codes "push") (known_rule Push) (
    form_rule (codes "inject ") inject_rule (
    form_rule (codes "settle") (known_rule Settle) (
    failure_table) refl) refl) refl) refl) refl) refl) refl) refl) refl) refl
