-- Words of public clauses: the control lines of a script, and how each is spelled.
use Rattle.std.specs.Prelude.{ℕ, List, [], ◌∷◌, codes}
use Rattle.ais_values.specs.declared.kind.StreamKind.TheVariants as kinds
use Rattle.stream_config.specs.Attributes.{PassesAttrs}
use Rattle.script_lines.specs.declared.line.Line.{Line}
use Rattle.script_lines.specs.declared.line.Line.TheVariants.{Cluster, Time, Deliver, Resend, Mirror, Ack, Work, Push, Inject, Settle}
use Rattle.script_lines.specs.declared.line.Line.TheVariants.{Crash, Arm, Disarm, Restart, DispatchOne, DispatchAll, Servers, Files, Cat}
use Rattle.script_grammar.specs.Grammar.{Known, Word, Part, OneOf, Such}
use Rattle.script_grammar.specs.Values.{IsNumber, IsQuoted}
use Rattle.script_language.specs.Values.{IsScriptTime, IsClient, IsQueueLength, IsCount, IsServer}
use Rattle.script_language.specs.Streams.{IsOptions, well_attrs}

-- the well-known streams of a cluster line have attributes that such streams may have
abbrev pub HasSoundStreams : Line → Type 0
HasSoundStreams (Cluster start queue callbacks alarm ntf sys) =
    PassesAttrs kinds.Alarm (well_attrs kinds.Alarm alarm)
    × PassesAttrs kinds.Notification (well_attrs kinds.Notification ntf)
    × PassesAttrs kinds.System (well_attrs kinds.System sys)
HasSoundStreams _ = Unit {0}

-- start=TIME queue=LENGTH callbacks=LENGTH and the options of the well-known streams, without its first words
unfoldable pub IsSetting : Line → List ℕ → Type 0
IsSetting =
    Part IsScriptTime (λ start.
    Word (codes " queue=") (Part IsQueueLength (λ queue.
    Word (codes " callbacks=") (Part IsQueueLength (λ callbacks.
    Part (IsOptions (codes " alarm")) (λ alarm.
    Part (IsOptions (codes " ntf")) (λ ntf.
    Part (IsOptions (codes " sys")) (λ sys.
    Known (Cluster start queue callbacks alarm ntf sys)))))))))

abbrev pub IsCluster : Line → List ℕ → Type 0
IsCluster = Such HasSoundStreams IsSetting

-- time TIME
unfoldable pub IsTimeLine : Line → List ℕ → Type 0
IsTimeLine = Part IsScriptTime (λ now. Known (Time now))

-- deliver COUNT
unfoldable pub IsDeliver : Line → List ℕ → Type 0
IsDeliver = Part IsCount (λ place. Known (Deliver place))

-- resend CLIENT
unfoldable pub IsResend : Line → List ℕ → Type 0
IsResend = Part IsClient (λ client. Known (Resend client))

-- inject TEXT
unfoldable pub IsInject : Line → List ℕ → Type 0
IsInject = Part IsQuoted (λ bytes. Known (Inject bytes))

-- crash SERVER
unfoldable pub IsCrash : Line → List ℕ → Type 0
IsCrash = Part IsServer (λ server. Known (Crash server))

-- arm SERVER COUNT
unfoldable pub IsArm : Line → List ℕ → Type 0
IsArm = Part IsServer (λ server. Word (codes " ") (Part IsCount (λ count. Known (Arm server count))))

-- restart SERVER
unfoldable pub IsRestart : Line → List ℕ → Type 0
IsRestart = Part IsServer (λ server. Known (Restart server))

-- how many elements are handed out: one, or all by 1 to 8 workers
abbrev pub dispatch_forms : ℕ → List (List ℕ × (Line → List ℕ → Type 0))
dispatch_forms client =
    (codes " one", Known (DispatchOne client))
    ∷ (codes " all workers=", Part (IsNumber 1 8) (λ workers. Known (DispatchAll client workers)))
    ∷ []

-- dispatch CLIENT one, or dispatch CLIENT all workers=N
unfoldable pub IsDispatch : Line → List ℕ → Type 0
IsDispatch = Part IsClient (λ client. OneOf (dispatch_forms client))

-- cat TEXT
unfoldable pub IsCat : Line → List ℕ → Type 0
IsCat = Part IsQuoted (λ name. Known (Cat name))

-- what is handed out and shown
abbrev pub shown_forms : List (List ℕ × (Line → List ℕ → Type 0))
shown_forms =
    (codes "dispatch ", IsDispatch)
    ∷ (codes "servers", Known Servers)
    ∷ (codes "files", Known Files)
    ∷ (codes "cat ", IsCat)
    ∷ []

-- servers that stop and come back, and the rest
abbrev pub failure_forms : List (List ℕ × (Line → List ℕ → Type 0))
failure_forms =
    (codes "crash ", IsCrash)
    ∷ (codes "arm ", IsArm)
    ∷ (codes "disarm", Known Disarm)
    ∷ (codes "restart ", IsRestart)
    ∷ shown_forms

-- all control lines: the setting, the time, what is delivered and done, and the rest
abbrev pub control_forms : List (List ℕ × (Line → List ℕ → Type 0))
control_forms =
    (codes "cluster start=", IsCluster)
    ∷ (codes "time ", IsTimeLine)
    ∷ (codes "deliver ", IsDeliver)
    ∷ (codes "resend ", IsResend)
    ∷ (codes "mirror", Known Mirror)
    ∷ (codes "ack", Known Ack)
    ∷ (codes "work", Known Work)
    ∷ (codes "push", Known Push)
    ∷ (codes "inject ", IsInject)
    ∷ (codes "settle", Known Settle)
    ∷ failure_forms
