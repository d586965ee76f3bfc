-- Words of public clauses: what clients' agents refuse by themselves, by the calls that a client sent, each with its number, the newest first.
use Rattle.std.specs.Prelude.{◌≡◌, ℕ, suc, Bool, false, not, ◌||◌, ◌==◌, List, [], ◌∷◌, length, Option, Some, None}
use Rattle.ais_values.specs.FirstRow.{first_row}
use Rattle.script_lines.specs.declared.line.Line.{Line}
use Rattle.script_lines.specs.declared.line.Line.TheVariants as line
use Rattle.cluster_facts.specs.Types.{Which, Log, Ntf, Status, VersionRefused, TryAgain, BadHandle, Ask, Start, Other, Call, Reply, Message}
use Rattle.cluster_facts.specs.Lists.{without}
use Rattle.cluster_facts.specs.Messages.{sent_by, messages_in}
use Rattle.cluster_facts.specs.Agents.{can_serve, service_of, is_shut}
use Rattle.cluster_facts.specs.Facts.{log_by, ntf_by}
use Rattle.cluster_events.specs.Lines.{Told, Declined}
use Rattle.cluster_events.specs.Saying.{gathered, replies_told}
use Rattle.played_runs.specs.Promises.{LineSentence}

-- the last initialisation or finalisation of the service among these calls is an initialisation
abbrev pub holds_service : Which → List (ℕ × Call) → Bool
holds_service Log sent = log_by sent
holds_service Ntf sent = ntf_by sent

-- some line tells the reply to this call
abbrev pub is_replied : List (ℕ × Reply) → ℕ × Call → Bool
is_replied [] sent = false
is_replied (reply ∷ replies) sent = sent.0 == reply.0 || is_replied replies sent

-- the calls to which no line tells the reply
abbrev pub waiting_of : (replies : List (ℕ × Reply)) → List (ℕ × Call) → List (ℕ × Call)
waiting_of replies sent = without (is_replied replies) sent

-- a client sent these calls, and took no reply yet to those that wait. An initialisation is refused for a version that is not
-- served, another call where its service is not held, and any call while one that waits has a number at most the next minus 32
abbrev pub rows_of_refusal : Ask → (sent waiting : List (ℕ × Call)) → List (Bool × Status)
rows_of_refusal (Start service version) sent waiting =
    (not (can_serve service version), VersionRefused) ∷ (is_shut (suc (length sent)) waiting, TryAgain) ∷ []
rows_of_refusal (Other call) sent waiting =
    (not (holds_service (service_of call) sent), BadHandle) ∷ (is_shut (suc (length sent)) waiting, TryAgain) ∷ []

-- a dispatch is refused where neither service is held
abbrev pub rows_of_dispatch : List (ℕ × Call) → List (Bool × Status)
rows_of_dispatch sent = (not (holds_service Log sent || holds_service Ntf sent), BadHandle) ∷ []

-- a refusal, where there is one
abbrev pub refused_as : ℕ → Option Status → List (ℕ × Status)
refused_as client None = []
refused_as client (Some status) = (client, status) ∷ []

-- the first row that applies decides
abbrev pub refused_by : ℕ → List (Bool × Status) → List (ℕ × Status)
refused_by client rows = refused_as client (first_row rows)

-- what is refused of a call, by the replies told and the calls sent before it
abbrev pub call_refused : ℕ → Ask → (replies : List (ℕ × Reply)) → List (ℕ × Call) → List (ℕ × Status)
call_refused client asked replies sent = refused_by client (rows_of_refusal asked sent (waiting_of replies sent))

-- what is refused of a line, and to which client, by what is shared of it, and by the lines told and the messages of the net before it
abbrev pub refusals_due : Option Line → List Told → List Message → List (ℕ × Status)
refusals_due (Some (line.Log client asked)) told messages = call_refused client asked (replies_told client told) (sent_by client messages)
refusals_due (Some (line.Ntf client asked)) told messages = call_refused client asked (replies_told client told) (sent_by client messages)
refusals_due (Some (line.DispatchOne client)) told messages = refused_by client (rows_of_dispatch (sent_by client messages))
refusals_due (Some (line.DispatchAll client workers)) told messages = refused_by client (rows_of_dispatch (sent_by client messages))
refusals_due _ told messages = []

-- the refusals among lines that are told
abbrev pub refusal_in : Told → List (ℕ × Status)
refusal_in (Declined client status) = (client, status) ∷ []
refusal_in _ = []

abbrev pub refusals_told : List Told → List (ℕ × Status)
refusals_told told = gathered refusal_in told

-- a line tells a refusal exactly where one is due
abbrev pub DeclinesRightly : {L P : Type 0} → (shared : L → Option Line) → LineSentence L P
DeclinesRightly shared before next told state outcome after =
    refusals_told outcome.told ≡ refusals_due (shared next) told (messages_in state.world.net)
