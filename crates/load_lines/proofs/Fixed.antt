-- The lines without numbers of a turn.
use Rattle.std.proofs.Common.{◌≡◌, ℕ, ◌+◌, ◌≤◌, List, [], ◌∷◌, ◌++◌, inl, inr, refl, sym, arith, append-nil}
use Rattle.std.specs.Prelude.{pos, None, codes}
use Rattle.std.specs.Fmt.{decimal}
use Rattle.std.proofs.lemmas.Int.{ints}
use Rattle.ais_values.specs.declared.kind.StreamKind.TheVariants as kinds
use Rattle.ais_values.specs.declared.kind.Which.TheVariants as service
use Rattle.stream_config.specs.declared.attrs.StreamName.TheVariants as stream
use Rattle.stream_config.proofs.AttributeLaws.{default_attrs-pass}
use Rattle.calls.specs.declared.call.Ask.TheVariants.{Start, Plain}
use Rattle.calls.specs.declared.call.Call.TheVariants.{LogOpen}
use Rattle.script_lines.specs.declared.line.Line.TheVariants.{Cluster, Log, Ntf, Settle, Crash, Restart, Servers}
use Rattle.script_lines.specs.declared.line.Server.{Server}
use Rattle.script_lines.specs.declared.line.Server.TheVariants.{A, B, C}
use Rattle.script_language.specs.Asks.{IsInit, IsOpen}
use Rattle.script_language.specs.Control.{IsCrash, IsRestart, IsSetting}
use Rattle.script_language.specs.Lines.{IsLogAsk, IsLogLine, IsNtfAsk, IsNtfLine, Spells}
use Rattle.script_language.specs.Printing.{server_text}
use Rattle.script_language.specs.Streams.{IsOptions, IsStream}
use Rattle.script_language.specs.Values.{IsServer, IsVersion, version_of}
use Rattle.load_lines.specs.Lines.{no_options}
use Rattle.load_lines.proofs.Words.{small-number, written-by}

version-spelled : (major minor : ℕ) → major ≤ 9 → minor ≤ 9 → IsVersion (version_of 65 major minor) (65 ∷ 46 ∷ (48 + major) ∷ 46 ∷ (48 + minor) ∷ [])
unfolding IsVersion
version-spelled major minor few less = (
  65,
  65 ∷ [],
  46 ∷ (48 + major) ∷ 46 ∷ (48 + minor) ∷ [],
  refl,
  (omega arith, omega arith, refl),
  (
    (48 + major) ∷ 46 ∷ (48 + minor) ∷ [],
    refl,
    (
      major,
      (48 + major) ∷ [],
      46 ∷ (48 + minor) ∷ [],
      refl,
      small-number major 0 255 (omega arith) (omega arith) (omega arith),
      ((48 + minor) ∷ [], refl, (minor, (48 + minor) ∷ [], [], refl, small-number minor 0 255 (omega arith) (omega arith) (omega arith), (refl, refl))),
    ),
  ),
)

pub log_init-spelled : Spells (Log 1 (Start service.Log (version_of 65 2 1))) (codes "log 1 init A.2.1")
unfolding Spells IsLogLine IsLogAsk IsInit
log_init-spelled =
    inl (
      codes "1 init A.2.1",
      refl,
      (
        1,
        codes "1",
        codes " init A.2.1",
        refl,
        small-number 1 1 4096 (omega arith) (omega arith) (omega arith),
        (
          codes "init A.2.1",
          refl,
          (
            Start service.Log (version_of 65 2 1),
            codes "init A.2.1",
            [],
            refl,
            inl (codes "A.2.1", refl, (version_of 65 2 1, codes "A.2.1", [], refl, version-spelled 2 1 (omega arith) (omega arith), (refl, refl))),
            (refl, refl),
          ),
        ),
      ),
    )

pub ntf_init-spelled : Spells (Ntf 2 (Start service.Ntf (version_of 65 1 1))) (codes "ntf 2 init A.1.1")
unfolding Spells IsNtfLine IsNtfAsk IsInit
ntf_init-spelled =
    inr (inl (
      codes "2 init A.1.1",
      refl,
      (
        2,
        codes "2",
        codes " init A.1.1",
        refl,
        small-number 2 1 4096 (omega arith) (omega arith) (omega arith),
        (
          codes "init A.1.1",
          refl,
          (
            Start service.Ntf (version_of 65 1 1),
            codes "init A.1.1",
            [],
            refl,
            inl (codes "A.1.1", refl, (version_of 65 1 1, codes "A.1.1", [], refl, version-spelled 1 1 (omega arith) (omega arith), (refl, refl))),
            (refl, refl),
          ),
        ),
      ),
    ))

pub system-spelled : IsStream stream.System (codes "system")
unfolding IsStream
system-spelled = inr (inr (inl ([], refl, (refl, refl))))

pub log_open-spelled : Spells (Log 1 (Plain (LogOpen stream.System None))) (codes "log 1 open system")
unfolding Spells IsLogLine IsLogAsk IsOpen
log_open-spelled =
    inl (
      codes "1 open system",
      refl,
      (
        1,
        codes "1",
        codes " open system",
        refl,
        small-number 1 1 4096 (omega arith) (omega arith) (omega arith),
        (
          codes "open system",
          refl,
          (
            Plain (LogOpen stream.System None),
            codes "open system",
            [],
            refl,
            inr (inl (codes "system", refl, (stream.System, codes "system", [], refl, system-spelled, (None, [], [], refl, inl (refl, refl), (refl, refl))))),
            (refl, refl),
          ),
        ),
      ),
    )

-- the cluster line
options-absent : (word : List ℕ) → IsOptions word no_options []
unfolding IsOptions
options-absent word =
    (None, [], [], refl, inl (refl, refl), (None, [], [], refl, inl (refl, refl), (None, [], [], refl, inl (refl, refl), (None, [], [], refl, inl (refl, refl), (None, [], [], refl, inl (refl, refl), (refl, refl))))))

start-written : codes "1704067200000000000" ≡ decimal 1704067200000000000
start-written = written-by 19 1704067200000000000 refl (omega arith)

places-written : codes "256" ≡ decimal 256
places-written = written-by 3 256 refl (omega arith)

setting-spelled : IsSetting (Cluster (pos 1704067200000000000) 2 256 no_options no_options no_options) (codes "1704067200000000000 queue=2 callbacks=256")
unfolding IsSetting
setting-spelled = (
  pos 1704067200000000000,
  codes "1704067200000000000",
  codes " queue=2 callbacks=256",
  refl,
  (omega (arith, ints), omega (arith, ints), (1704067200000000000, inl (refl, start-written))),
  (
    codes "2 callbacks=256",
    refl,
    (
      2,
      codes "2",
      codes " callbacks=256",
      refl,
      small-number 2 1 256 (omega arith) (omega arith) (omega arith),
      (
        codes "256",
        refl,
        (
          256,
          codes "256",
          [],
          refl,
          (omega arith, omega arith, places-written),
          (no_options, [], [], refl, options-absent (codes " alarm"), (no_options, [], [], refl, options-absent (codes " ntf"), (no_options, [], [], refl, options-absent (codes " sys"), (refl, refl)))),
        ),
      ),
    ),
  ),
)

pub cluster-spelled : Spells (Cluster (pos 1704067200000000000) 2 256 no_options no_options no_options) (codes "cluster start=1704067200000000000 queue=2 callbacks=256")
unfolding Spells
cluster-spelled =
    inr (inr (inl (
      codes "1704067200000000000 queue=2 callbacks=256",
      refl,
      ((default_attrs-pass kinds.Alarm (λ e. cc), default_attrs-pass kinds.Notification (λ e. cc), default_attrs-pass kinds.System (λ e. cc)), setting-spelled),
    )))

-- control lines
pub settle-spelled : Spells Settle (codes "settle")
unfolding Spells
settle-spelled = inr (inr (inr (inr (inr (inr (inr (inr (inr (inr (inr (inl ([], refl, (refl, refl)))))))))))))

-- `a` and `b`
abbrev pub IsSpelled : Server → Type 0
IsSpelled A = Unit {0}
IsSpelled B = Unit {0}
IsSpelled C = ⊥

server-spelled : (server : Server) → IsSpelled server → IsServer server (server_text server)
unfolding IsServer
server-spelled A spelled = inl ([], refl, (refl, refl))
server-spelled B spelled = inr (inl ([], refl, (refl, refl)))
server-spelled C spelled = elim spelled [ ]

pub crash-spelled : (server : Server) → IsSpelled server → Spells (Crash server) (codes "crash " ++ server_text server)
unfolding Spells IsCrash
crash-spelled server spelled =
    let letter = server_text server in
    inr (inr (inr (inr (inr (inr (inr (inr (inr (inr (inr (inr (inl (letter, refl, (server, letter, [], sym (append-nil letter), server-spelled server spelled, (refl, refl)))))))))))))))

pub restart-spelled : (server : Server) → IsSpelled server → Spells (Restart server) (codes "restart " ++ server_text server)
unfolding Spells IsRestart
restart-spelled server spelled =
    let letter = server_text server in
    inr (inr (inr (inr (inr (inr (inr (inr (inr (inr (inr (inr (inr (inr (inr (inl (letter, refl, (server, letter, [], sym (append-nil letter), server-spelled server spelled, (refl, refl))))))))))))))))))

pub servers-spelled : Spells Servers (codes "servers")
unfolding Spells
servers-spelled = inr (inr (inr (inr (inr (inr (inr (inr (inr (inr (inr (inr (inr (inr (inr (inr (inr (inl ([], refl, (refl, refl)))))))))))))))))))
