-- Steps of a drain, by the answers of what they call.
use Rattle.std.proofs.Common.{◌≡◌, inl, inr, ℕ, ◌≤◌, Bool, true, false, None, List, [], refl, ap, sym, subst, ◌∙◌, le_refl}
use Rattle.std.specs.Prelude.{IsSome, Result, Ok, Err}
use Rattle.ais_values.specs.Causes.{RoseExactlyOn}
use Rattle.calls.specs.History.{Pushed}
use Rattle.disk_model.specs.DeviceCalls.{DeviceCall}
use Rattle.disk_model.specs.Seen.{DiskSeen}
use Rattle.disk_model.specs.declared.answers.DiskAnswer.{DiskAnswer}
use Rattle.disk_model.specs.declared.answers.DiskAnswer.TheVariants.{Memory, Failed, Stopped}
use Rattle.stream_layout.specs.Deeds.{calls_of_all}
use Rattle.cluster_facts.specs.Types.{Entry, Message}
use Rattle.mirror.specs.Working.{deeds_in}
use Rattle.cluster_rounds.specs.declared.cluster.Cluster.{Cluster}
use Rattle.cluster_rounds.specs.Came.{Advances, ComesOff}
use Rattle.cluster_rounds.specs.Counted.{Counted}
use Rattle.cluster_rounds.specs.Rounds.{EndsStep}
use Rattle.cluster_rounds.specs.Worlds.{any_state}
use Rattle.cluster_rounds.proofs.BrokenSteps.{nothing-broken, shown-ends}
use Rattle.lone_server.specs.declared.lone.Lone.{Lone}
use Rattle.cold_servers.specs.declared.solo.Solo.{Solo}
use Rattle.lone_server.specs.Joining.{JoinBreaks, Joins, JoinsOver, left_by}
use Rattle.lone_server.specs.Working.{HearsBack, WorkBreaks, Works, WorksOver}
use Rattle.lone_server.proofs.JoinSteps.{lacks-armed}
use Rattle.cold_servers.specs.ColdKit.{cold_kit}
use Rattle.cold_servers.specs.ColdLaws.{cold_laws}
use Rattle.cold_servers.specs.ColdSeen.{ColdSeen, Outlives}
use Rattle.cold_servers.specs.Steps.{AllUp}
use Rattle.cold_servers.proofs.AckState.{acks-advance}
use Rattle.cold_servers.proofs.JoinFalls.{joins-end, joins-halts}
use Rattle.cold_servers.proofs.ArmSteps.{armed-kept}
use Rattle.cold_servers.proofs.CountSteps.{rose-by, stands-done}
use Rattle.cold_servers.proofs.JoinLacks.{joins-lack}
use Rattle.cold_servers.proofs.JoinState.{joins-advance}
use Rattle.cold_servers.proofs.RestState.{none-so}
use Rattle.cold_servers.proofs.WorkFalls.{works-end, works-halt, works-lack}
use Rattle.cold_servers.proofs.WorkState.{works-advance}

-- Counts of faults.

pub stood-least : (one two : ℕ) → two ≡ one → one ≤ two
stood-least one two same = subst (λ (n : ℕ). one ≤ n) (sym same) (le_refl one)

left-faults : {T : Type 0} (result : Result T DiskAnswer) (seen : DiskSeen) → (left_by result seen).faults ≡ seen.faults
left-faults (Ok done) seen = refl
left-faults (Err Memory) seen = refl
left-faults (Err Failed) seen = refl
left-faults (Err Stopped) seen = refl

counts-by : {T : Type 0} (result : Result T DiskAnswer) (held left : ColdSeen) → Outlives held left → (result ≡ Err Failed → cold_kit.Rises held left) → Counted cold_kit held left result
counts-by (Ok done) held left later rose = later
counts-by (Err Memory) held left later rose = later
counts-by (Err Stopped) held left later rose = later
counts-by (Err Failed) held left later rose = rose refl

-- The entry that waits joins the journal.

pub join-counts : (link : List Message) (end : ℕ) (past entries : List Entry) (result : Result Bool DiskAnswer) (held left : ColdSeen) → JoinsOver link end past entries result held.disk left.disk held.journal left.journal → RoseExactlyOn held.journal.faults left.journal.faults result Failed → Counted cold_kit held left result
join-counts link end past entries result held left over cause =
    let same : left.disk.faults ≡ held.disk.faults = ap (λ (seen : DiskSeen). seen.faults) over.disk ∙ left-faults over.appended held.disk in
    let later : Outlives held left = record { disk = stood-least held.disk.faults left.disk.faults same; journal = cause.later } in
    counts-by result held left later (λ is. record { later = later; rose = inr (cause.rose is) })

pub join-comes : (went : Bool) (old : Cluster Solo) (servers : Lone) (history : Pushed) (before after : List (List ℕ)) (held left : ColdSeen) → AllUp old → (old.servers.lone.link ≡ [] → ⊥) → Joins went old.servers.lone servers old.history.entries history.entries before after → JoinsOver old.servers.lone.link old.servers.lone.journal.end old.history.entries history.entries (Ok went) held.disk left.disk held.journal left.journal → RoseExactlyOn {T = Bool} held.journal.faults left.journal.faults (Ok went) Failed → RoseExactlyOn {T = Bool} held.journal.stops left.journal.stops (Ok went) Stopped
    → Advances cold_kit went old (record old { servers = record { lone = servers }; history = history }) before after held left
join-comes true old servers history before after held left up some joins over cause stop = λ setup state good shows count so.
    joins-advance setup state old servers history before after held left good shows count (up setup state good shows) joins over (stands-done true held.journal left.journal cause stop)
join-comes false old servers history before after held left up some joins over cause stop = absurd (some joins.0)

pub join-off : (answer : DiskAnswer) (old : Cluster Solo) (servers : Lone) (history : Pushed) (before after : List (List ℕ)) (held left : ColdSeen) → AllUp old → JoinBreaks answer old.servers.lone servers old.history.entries history.entries before after held.journal left.journal → JoinsOver old.servers.lone.link old.servers.lone.journal.end old.history.entries history.entries (Err answer) held.disk left.disk held.journal left.journal → RoseExactlyOn {T = Bool} held.journal.faults left.journal.faults (Err answer) Failed → RoseExactlyOn {T = Bool} held.journal.stops left.journal.stops (Err answer) Stopped
    → ComesOff cold_kit any_state (EndsStep cold_kit) answer old (record old { servers = record { lone = servers }; history = history }) before after held left
join-off Memory old servers history before after held left up breaks over cause stop = λ setup state good shows count so.
    joins-lack setup state old servers history held left good shows (up setup state good shows) (lacks-armed old.servers.lone servers old.history.entries history.entries held.journal left.journal breaks) over (rose-by {T = Bool} Memory held.journal left.journal cause stop)
join-off Failed old servers history before after held left up breaks over cause stop = λ setup state good shows count so.
    joins-end setup state old servers history before after held left good shows count (up setup state good shows) breaks.0 breaks.1 breaks.2 over (rose-by {T = Bool} Failed held.journal left.journal cause stop)
join-off Stopped old servers history before after held left up breaks over cause stop = λ setup state good shows count so.
    joins-halts setup state old servers history before after held left good shows count (up setup state good shows) breaks.0 breaks.1 breaks.2 over (rose-by {T = Bool} Stopped held.journal left.journal cause stop)

-- The server hears that it did.

pub back-comes : (old : Cluster Solo) (servers : Lone) (lines : List (List ℕ)) (held : ColdSeen) → AllUp old → HearsBack true old.servers.lone servers → Advances cold_kit true old (record old { servers = record { lone = servers } }) lines lines held held
back-comes old servers lines held up hears = λ setup state good shows count so.
    acks-advance setup state old servers lines held good shows count (up setup state good shows) hears

-- memory ran out: nothing but servers changed
pub back-off : (old : Cluster Solo) (servers : Lone) (before after : List (List ℕ)) (held : ColdSeen) → servers.armed ≡ old.servers.lone.armed → ComesOff cold_kit any_state (EndsStep cold_kit) Memory old (record old { servers = record { lone = servers } }) before after held held
back-off old servers before after held stays = λ setup state good shows count so.
    let new : Cluster Solo = record old { servers = record { lone = servers } } in (
      nothing-broken cold_kit cold_laws setup state held new good shows.net shows.agents shows.history shows.now (armed-kept setup state old new.servers held held shows stays refl refl),
      cold_laws.lacks_same false setup state old.history.entries new.servers held (shown-ends cold_kit cold_laws setup state old shows),
    )

-- The entry in hand is worked.

pub work-counts : {T : Type 0} (calls : List DeviceCall) (result : Result T DiskAnswer) (held left : ColdSeen) → WorksOver calls result held.disk left.disk held.journal left.journal → RoseExactlyOn held.disk.faults left.disk.faults result Failed → Counted cold_kit held left result
work-counts calls result held left over cause =
    let same : left.journal.faults ≡ held.journal.faults = ap (λ (seen : DiskSeen). seen.faults) over.journal ∙ left-faults over.worked held.journal in
    let later : Outlives held left = record { disk = cause.later; journal = stood-least held.journal.faults left.journal.faults same } in
    counts-by result held left later (λ is. record { later = later; rose = inl (cause.rose is) })

pub work-comes : {T : Type 0} (done : T) (old : Cluster Solo) (servers : Lone) (net before after : List (List ℕ)) (held left : ColdSeen) → AllUp old → IsSome old.servers.lone.node.replica.owed → old.servers.lone.node.waits ≡ None → Works old.servers.lone servers old.net net before after → WorksOver (calls_of_all (deeds_in old.servers.lone.node.replica.owed)) (Ok done) held.disk left.disk held.journal left.journal → RoseExactlyOn {T = T} held.disk.faults left.disk.faults (Ok done) Failed → RoseExactlyOn {T = T} held.disk.stops left.disk.stops (Ok done) Stopped
    → Advances cold_kit true old (record old { servers = record { lone = servers }; net = net }) before after held left
work-comes done old servers net before after held left up some none works over cause stop = λ setup state good shows count so.
    works-advance setup done state old servers net before after held left good shows count (up setup state good shows) some none works over (stands-done done held.disk left.disk cause stop)

pub work-off : {T : Type 0} (answer : DiskAnswer) (old : Cluster Solo) (servers : Lone) (net before after : List (List ℕ)) (held left : ColdSeen) → AllUp old → IsSome old.servers.lone.node.replica.owed → old.servers.lone.node.waits ≡ None → WorkBreaks answer old.servers.lone servers old.net net before after held.disk left.disk → WorksOver {T = T} (calls_of_all (deeds_in old.servers.lone.node.replica.owed)) (Err answer) held.disk left.disk held.journal left.journal → RoseExactlyOn {T = T} held.disk.faults left.disk.faults (Err answer) Failed → RoseExactlyOn {T = T} held.disk.stops left.disk.stops (Err answer) Stopped
    → ComesOff cold_kit any_state (EndsStep cold_kit) answer old (record old { servers = record { lone = servers }; net = net }) before after held left
work-off Memory old servers net before after held left up some none breaks over cause stop = λ setup state good shows count so.
    works-lack setup state old servers net good shows (up setup state good shows) some none before after held left breaks over (rose-by {T = _} Memory held.disk left.disk cause stop)
work-off Failed old servers net before after held left up some none breaks over cause stop = λ setup state good shows count so.
    works-end setup state old servers net good shows (up setup state good shows) some none before after held left count breaks.0 breaks.1 breaks.2 over (rose-by {T = _} Failed held.disk left.disk cause stop)
work-off Stopped old servers net before after held left up some none breaks over cause stop = λ setup state good shows count so.
    works-halt setup state old servers net good shows (up setup state good shows) some none before after held left count breaks.0 breaks.1 breaks.2 over (rose-by {T = _} Stopped held.disk left.disk cause stop)

-- or no step is left
pub rests-advance : (old : Cluster Solo) (lines : List (List ℕ)) (held : ColdSeen) → AllUp old → old.servers.lone.link ≡ [] → old.servers.lone.back ≡ [] → (IsSome old.servers.lone.node.replica.owed → old.servers.lone.node.waits ≡ None → ⊥) → Advances cold_kit false old old lines lines held held
rests-advance old lines held up link back rests =
    (refl, refl, refl, λ setup fails state good shows. none-so setup fails state old good shows (up setup state good shows) link back rests)

-- Where nothing came back the cluster is as it was.

pub world-same : (old : Cluster Solo) (servers : Lone) → servers ≡ old.servers.lone → record old { servers = record { lone = servers } } ≡ old
world-same old servers same = ap (λ (s : Lone). record old { servers = record { lone = s } }) same
