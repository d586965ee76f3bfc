-- Words of bodies alone: reading of the control lines on lists of bytes.
use Rattle.std.specs.Prelude.{ℕ, List, [], ◌∷◌, codes, Bool, true, ◌&&◌, Option}
use Rattle.script_lines.specs.declared.line.Line.{Line}
use Rattle.script_lines.specs.declared.line.Line.TheVariants.{Cluster, Time, Deliver, Resend, Mirror, Ack, Work, Push, Inject, Settle}
use Rattle.script_lines.specs.declared.line.Line.TheVariants.{Crash, Arm, Disarm, Restart, DispatchOne, DispatchAll, Servers, Files, Cat}
use Rattle.script_grammar.specs.Reading.{known, word, part, one_of, such}
use Rattle.script_grammar.specs.ValueReading.{number_at, quoted_at}
use Rattle.script_language.specs.ValueReading.{script_time_at, client_at, queue_length_at, count_at, server_at}
use Rattle.script_language.specs.StreamReading.{options_at}
use Rattle.script_language.specs.Streams.{well_attrs}
use Rattle.stream_config.specs.AttributeTests.{passes_attrs}
use Rattle.ais_values.specs.declared.kind.StreamKind.TheVariants as kinds

unfoldable pub setting_at : List ℕ → Option (Line × List ℕ)
setting_at =
    part script_time_at (λ start.
    word (codes " queue=") (part queue_length_at (λ queue.
    word (codes " callbacks=") (part queue_length_at (λ callbacks.
    part (options_at (codes " alarm")) (λ alarm.
    part (options_at (codes " ntf")) (λ ntf.
    part (options_at (codes " sys")) (λ sys.
    known (Cluster start queue callbacks alarm ntf sys)))))))))

abbrev pub has_sound_streams : Line → Bool
has_sound_streams (Cluster start queue callbacks alarm ntf sys) =
    passes_attrs kinds.Alarm (well_attrs kinds.Alarm alarm)
    && passes_attrs kinds.Notification (well_attrs kinds.Notification ntf)
    && passes_attrs kinds.System (well_attrs kinds.System sys)
has_sound_streams _ = true

unfoldable pub cluster_at : List ℕ → Option (Line × List ℕ)
cluster_at = such has_sound_streams setting_at

unfoldable pub time_line_at : List ℕ → Option (Line × List ℕ)
time_line_at = part script_time_at (λ now. known (Time now))

unfoldable pub deliver_at : List ℕ → Option (Line × List ℕ)
deliver_at = part count_at (λ place. known (Deliver place))

unfoldable pub resend_at : List ℕ → Option (Line × List ℕ)
resend_at = part client_at (λ client. known (Resend client))

unfoldable pub inject_at : List ℕ → Option (Line × List ℕ)
inject_at = part quoted_at (λ bytes. known (Inject bytes))

unfoldable pub crash_at : List ℕ → Option (Line × List ℕ)
crash_at = part server_at (λ server. known (Crash server))

unfoldable pub arm_at : List ℕ → Option (Line × List ℕ)
arm_at = part server_at (λ server. word (codes " ") (part count_at (λ count. known (Arm server count))))

unfoldable pub restart_at : List ℕ → Option (Line × List ℕ)
restart_at = part server_at (λ server. known (Restart server))

abbrev pub dispatch_readers : ℕ → List (List ℕ × (List ℕ → Option (Line × List ℕ)))
dispatch_readers client =
    (codes " one", known (DispatchOne client))
    ∷ (codes " all workers=", part (number_at 1 8) (λ workers. known (DispatchAll client workers)))
    ∷ []

unfoldable pub dispatch_at : List ℕ → Option (Line × List ℕ)
dispatch_at = part client_at (λ client. one_of (dispatch_readers client))

unfoldable pub cat_at : List ℕ → Option (Line × List ℕ)
cat_at = part quoted_at (λ name. known (Cat name))

abbrev pub shown_readers : List (List ℕ × (List ℕ → Option (Line × List ℕ)))
shown_readers =
    (codes "dispatch ", dispatch_at)
    ∷ (codes "servers", known Servers)
    ∷ (codes "files", known Files)
    ∷ (codes "cat ", cat_at)
    ∷ []

abbrev pub failure_readers : List (List ℕ × (List ℕ → Option (Line × List ℕ)))
failure_readers =
    (codes "crash ", crash_at)
    ∷ (codes "arm ", arm_at)
    ∷ (codes "disarm", known Disarm)
    ∷ (codes "restart ", restart_at)
    ∷ shown_readers

abbrev pub control_readers : List (List ℕ × (List ℕ → Option (Line × List ℕ)))
control_readers =
    (codes "cluster start=", cluster_at)
    ∷ (codes "time ", time_line_at)
    ∷ (codes "deliver ", deliver_at)
    ∷ (codes "resend ", resend_at)
    ∷ (codes "mirror", known Mirror)
    ∷ (codes "ack", known Ack)
    ∷ (codes "work", known Work)
    ∷ (codes "push", known Push)
    ∷ (codes "inject ", inject_at)
    ∷ (codes "settle", known Settle)
    ∷ failure_readers
