-- Words of public clauses: the lines of the script of a large run.
use Rattle.std.specs.Prelude.{ℕ, pos, zero, suc, ◌/◌, ◌%◌, ◌==◌, if◌then◌else◌, List, [], ◌∷◌, ◌++◌, None, codes}
use Rattle.std.specs.Fmt.{decimal}
use Rattle.ais_values.specs.Times.{unknown_time}
use Rattle.ais_values.specs.declared.kind.ClassId.{ClassId}
use Rattle.ais_values.specs.declared.kind.Which.TheVariants as service
use Rattle.stream_config.specs.declared.attrs.StreamName.TheVariants as stream
use Rattle.record_print.specs.declared.record.Header.TheVariants.{Generic}
use Rattle.ntf_types.specs.declared.notification.Body.TheVariants as body
use Rattle.ntf_types.specs.declared.notification.Notification.{Notification}
use Rattle.calls.specs.declared.call.Ask.TheVariants.{Start, Plain}
use Rattle.calls.specs.declared.call.Call.TheVariants.{LogOpen, LogWrite, NtfSend}
use Rattle.script_lines.specs.declared.line.Line.{Line}
use Rattle.script_lines.specs.declared.line.Line.TheVariants.{Cluster, Log, Ntf, Settle, Crash, Restart, Servers}
use Rattle.script_lines.specs.declared.line.Server.{Server}
use Rattle.script_lines.specs.declared.line.Server.TheVariants.{A, B}
use Rattle.script_lines.specs.declared.line.WellOptions.{WellOptions}
use Rattle.load_script.specs.Numbers.{number_in, state_at}

-- the well-known streams have their defaults
abbrev pub no_options : WellOptions
no_options = record { fmt = None; rec = None; max = None; full = None; rot = None }

abbrev pub no_class : ClassId
no_class = record { vendor = 0; major = 0; minor = 0 }

-- the cluster line, and the lines before the first turn
abbrev pub opening_line : Line
opening_line = Cluster (pos 1704067200000000000) 2 256 no_options no_options no_options

abbrev pub first_lines : List Line
first_lines =
    Log 1 (Start service.Log (record { release = 65; major = 2; minor = 1 }))
    ∷ Log 1 (Plain (LogOpen stream.System None))
    ∷ Ntf 2 (Start service.Ntf (record { release = 65; major = 1; minor = 1 }))
    ∷ Settle
    ∷ []

abbrev pub opening_lines : List Line
opening_lines = opening_line ∷ first_lines

abbrev pub closing_lines : List Line
closing_lines = Settle ∷ Servers ∷ []

abbrev pub alarm : (number : ℕ) → Notification
alarm number = record {
  id = 0;
  event_type = 16385;
  object = codes "g";
  notifier = codes "g";
  class = no_class;
  event_time = pos number;
  correlated = [];
  text = codes "t";
  info = [];
  body = body.Alarm 0 (number % 6);
}

abbrev pub alarm_sent : (number : ℕ) → Line
alarm_sent number = Ntf 2 (Plain (NtfSend (alarm number)))

abbrev pub record_written : (turn number : ℕ) → Line
record_written turn number =
    Log 1 (Plain (LogWrite stream.System turn 0 unknown_time (Generic no_class (codes "g") (number % 7)) (decimal number)))

abbrev pub sent : (turn number : ℕ) → Line
sent turn number = if turn % 10 == 0 then alarm_sent number else record_written turn number

abbrev pub settling : (turn : ℕ) → List Line
settling turn = if turn % 16 == 0 then Settle ∷ [] else []

abbrev pub failure_of : Server → List Line
failure_of server = Crash server ∷ Restart server ∷ Settle ∷ []

abbrev pub failing : (turn : ℕ) → List Line
failing turn = if turn % 1000 == 0 then (if turn / 1000 % 2 == 1 then failure_of A else failure_of B) else []

abbrev pub turn_lines : (turn number : ℕ) → List Line
turn_lines turn number = (sent turn number ∷ []) ++ settling turn ++ failing turn

abbrev pub turns_lines : (seed turns : ℕ) → List Line
turns_lines seed zero = []
turns_lines seed (suc turns) = turns_lines seed turns ++ turn_lines (suc turns) (number_in (state_at seed (suc turns)))

-- the whole script
abbrev pub load_lines : (count seed : ℕ) → List Line
load_lines count seed = opening_lines ++ turns_lines seed count ++ closing_lines
