-- Clusters that may stand for no history, one step after another.
use Rattle.std.proofs.Common.{◌≡◌, inl, inr, ℕ, Bool, true, false, ◌||◌, Option, Some, None, List, [], ◌∷◌, length, refl, ap, sym, subst, ◌∙◌}
use Rattle.std.specs.Prelude.{◌⊎◌, is_some, option_map, IfErr, IfOk, IsSome, OnOk, Result, Ok, Err}
use Rattle.std.specs.List.{AllByRecursion}
use Rattle.calls.specs.History.{Pushed}
use Rattle.disk_model.specs.DeviceCalls.{DeviceCall, Performs, all_applied}
use Rattle.disk_model.specs.Disk.{Files}
use Rattle.disk_model.specs.Failures.{WhereTold}
use Rattle.disk_model.specs.Seen.{DiskSeen}
use Rattle.disk_model.specs.declared.answers.DiskAnswer.{DiskAnswer}
use Rattle.disk_model.specs.declared.answers.DiskAnswer.TheVariants.{Memory, Failed, Stopped}
use Rattle.disk_model.specs.declared.tally.Tally.{Tally}
use Rattle.wire.specs.MessageSpelling.{message_text}
use Rattle.wire.specs.Mirrored.{entry_in}
use Rattle.service_laws.specs.PlainOf.{plain_of}
use Rattle.service_laws.proofs.ServiceLaws.{is_plain}
use Rattle.cluster_facts.specs.Types.{Entry, Message}
use Rattle.cluster_facts.specs.Messages.{messages_in}
use Rattle.cluster_facts.specs.World.{World}
use Rattle.cluster_facts.proofs.Words.{All-map}
use Rattle.cluster_clients.specs.Posted.{PostsAll, posted_all}
use Rattle.cluster_clients.proofs.DispatchSteps.{agents-as}
use Rattle.mirror.specs.declared.heard.Heard.{Heard}
use Rattle.mirror.specs.Working.{replies_in}
use Rattle.journal_frames.specs.Frames.{append_calls}
use Rattle.journal_start.specs.Journals.{PerformsOrLacks}
use Rattle.cluster_rounds.specs.declared.cluster.Cluster.{Cluster}
use Rattle.cluster_rounds.specs.Wild.{GoesWild, IsWild, WildOn, always}
use Rattle.cluster_lines.specs.Answers.{DoneAtStop}
use Rattle.lone_server.specs.declared.lone.Lone.{Lone}
use Rattle.lone_server.specs.Appends.{AppendsCalls}
use Rattle.lone_server.specs.Falls.{downed, unarmed}
use Rattle.lone_server.specs.Joining.{CommitsJoined, EndsWith, JoinBreaks, Joins, JoinsOver, left_by}
use Rattle.lone_server.specs.Working.{EndsWork, HearsBack, WorkBreaks, Works, WorksOver}
use Rattle.cold_servers.specs.declared.solo.Solo.{Solo}
use Rattle.cold_servers.specs.ColdKit.{cold_kit}
use Rattle.cold_servers.specs.ColdNodes.{IsDown}
use Rattle.cold_servers.specs.ColdLaws.{up-later}
use Rattle.cold_servers.specs.ColdSeen.{ColdSeen}
use Rattle.cold_servers.specs.Silent.{AnswersCall, IsSilent, IsUpAt}
use Rattle.cold_servers.specs.Steps.{AreUp, StaysWild}
use Rattle.cold_servers.proofs.ArmSteps.{Rearmed, down-of}
use Rattle.cold_servers.proofs.CountSteps.{done-armed}
use Rattle.cold_servers.proofs.PostSteps.{IsPostable, all-grown, answers-postable, post-all}
use Rattle.cold_servers.proofs.SilentSteps.{hears-up, joins-up, replies-post, up-at, works-up}

-- Worlds.

-- of the cluster the servers and the history alone are others
pub same-world : (seen : World) (old : Cluster Solo) (servers : Lone) (history : Pushed) (held left : ColdSeen) → IsWild cold_kit seen old held → IsSilent (record { lone = servers }) (messages_in seen.net) left → WildOn cold_kit seen (record old { servers = record { lone = servers }; history = history }) left
same-world seen old servers history held left wild silent = record {
  now = seen;
  wild = record {
    setup = wild.setup;
    clients = wild.clients;
    shows = record { net = wild.shows.net; agents = wild.shows.agents; now = wild.shows.now; callbacks = wild.shows.callbacks };
    servers = silent;
  };
  net = λ message posted. posted;
}

-- and messages were posted
abbrev pub posted-world : (seen : World) (old : Cluster Solo) (servers : Lone) (history : Pushed) (net before after : List (List ℕ)) (messages : List Message) (held left : ColdSeen) → (wild : IsWild cold_kit seen old held) → PostsAll messages old.net net before after → AllByRecursion (IsPostable (messages_in seen.net)) messages → IsSilent (record { lone = servers }) (messages_in (posted_all (plain_of wild.setup) messages seen.net)) left → WildOn cold_kit seen (record old { servers = record { lone = servers }; history = history; net = net }) left
posted-world seen old servers history net before after messages held left wild posts can silent =
    let plain = plain_of wild.setup in
    let now : World = record seen { net = posted_all plain messages seen.net } in
    let done = posts plain seen.net (is_plain wild.setup) wild.shows.net in
    record {
      now = now;
      wild = record {
        setup = wild.setup;
        clients = post-all plain (is_plain wild.setup) messages seen can wild.clients;
        shows = record {
          net = done.0;
          agents = agents-as seen now old.agents refl refl refl wild.shows.agents;
          now = wild.shows.now;
          callbacks = wild.shows.callbacks;
        };
        servers = silent;
      };
      net = λ message posted. all-grown plain (is_plain wild.setup) messages seen.net message posted;
    }

-- Disks.

where-untold : (P : Files → Files → Type 0) (old new : Option Files) → WhereTold P old new → old ≡ None → new ≡ None
where-untold P None None left is = refl
where-untold P None (Some files) left is = absurd left
where-untold P (Some held) new left is = cc

performs-untold : {T : Type 0} (calls : List DeviceCall) (result : Result T DiskAnswer) (old new : Option Files) (before after : Tally) → Performs calls result old new before after → old ≡ None → new ≡ None
performs-untold calls (Ok done) old new before after performs is = performs.0 ∙ ap (option_map (all_applied calls)) is
performs-untold calls (Err answer) old new before after performs is = where-untold _ old new performs.1.left is

lacks-untold : {T : Type 0} (calls : List DeviceCall) (result : Result T DiskAnswer) (old new : Option Files) (before after : Tally) → PerformsOrLacks calls result old new before after → old ≡ None → new ≡ None
lacks-untold calls result old new before after (inl same) is = same.1 ∙ is
lacks-untold calls result old new before after (inr performs) is = performs-untold calls result old new before after performs is

lacks-armed : {T : Type 0} (calls : List DeviceCall) (done : T) (old new : Option Files) (before after : Tally) → PerformsOrLacks {T = T} calls (Ok done) old new before after → is_some after.armed ≡ is_some before.armed
lacks-armed calls done old new before after (inl same) = let no = same.0 in cc
lacks-armed calls done old new before after (inr performs) = done-armed (length calls) before after performs.1

appends-untold : {T : Type 0} (link : List Message) (end : ℕ) (result : Result T DiskAnswer) (held left : DiskSeen) → AppendsCalls link end result held left → held.files ≡ None → left.files ≡ None
appends-untold [] end result held left calls is = ap (λ (seen : DiskSeen). seen.files) calls.1 ∙ is
appends-untold (message ∷ link) end result held left calls is =
    lacks-untold (append_calls end (message_text message)) result held.files left.files held.tally left.tally calls is

appends-armed : {T : Type 0} (link : List Message) (end : ℕ) (done : T) (held left : DiskSeen) → AppendsCalls {T = T} link end (Ok done) held left → is_some left.tally.armed ≡ is_some held.tally.armed
appends-armed [] end done held left calls = ap (λ (seen : DiskSeen). is_some seen.tally.armed) calls.1
appends-armed (message ∷ link) end done held left calls =
    lacks-armed (append_calls end (message_text message)) done held.files left.files held.tally left.tally calls

left-files : {T : Type 0} (result : Result T DiskAnswer) (seen : DiskSeen) → (left_by result seen).files ≡ seen.files
left-files (Ok done) seen = refl
left-files (Err Memory) seen = refl
left-files (Err Failed) seen = refl
left-files (Err Stopped) seen = refl

-- a server that went down, over disks that are not armed any more
pub down-silent : (servers : Lone) (net : List Message) (left : ColdSeen) → left.journal.files ≡ None → left.disk.tally.armed ≡ None → left.journal.tally.armed ≡ None → IsSilent (record { lone = downed servers }) net left
down-silent servers net left untold disk journal = record {
  untold = untold;
  armed = λ i. is_some (sym disk i) || is_some (sym journal i);
  stands = inr (down-of servers);
}

-- one that is up, armed as it was over disks that are
pub up-silent : (servers new : Lone) (old_net net : List Message) (held left : ColdSeen) → IsSilent (record { lone = servers }) old_net held → new.armed ≡ servers.armed → left.journal.files ≡ None → is_some left.disk.tally.armed ≡ is_some held.disk.tally.armed → is_some left.journal.tally.armed ≡ is_some held.journal.tally.armed → IsUpAt net new → IsSilent (record { lone = new }) net left
up-silent servers new old_net net held left silent same untold disk journal up = record {
  untold = untold;
  armed = same ∙ silent.armed ∙ (λ i. sym disk i || sym journal i);
  stands = inl up;
}

-- **The entry that waits joins the journal.**

commits-armed : (found : Option (ℕ × Entry)) (old new : Lone) (past entries : List Entry) (before after : List (List ℕ)) → CommitsJoined found old new past entries before after → new.armed ≡ old.armed
commits-armed None old new past entries before after commits = ap (λ (s : Lone). s.armed) commits.0
commits-armed (Some found) old new past entries before after commits = ap (λ (s : Lone). s.armed) commits.0

joins-armed : (went : Bool) (old new : Lone) (past entries : List Entry) (before after : List (List ℕ)) → Joins went old new past entries before after → new.armed ≡ old.armed
joins-armed true old new past entries before after joins = commits-armed (entry_in joins.message) _ new past entries before after joins.commits
joins-armed false old new past entries before after joins = ap (λ (s : Lone). s.armed) joins.1

stands-up : (went : Bool) (net : List Message) (old new : Lone) (past entries : List Entry) (before after : List (List ℕ)) → Joins went old new past entries before after → IsUpAt net old → IsUpAt net new
stands-up true net old new past entries before after joins up = joins-up net old new past entries before after joins up
stands-up false net old new past entries before after joins up = subst (IsUpAt net) (sym joins.1) up

module _ (old : Cluster Solo) (servers : Lone) (history : Pushed) (before after : List (List ℕ)) (held left : ColdSeen) where
  abbrev joined : Cluster Solo
  joined = record old { servers = record { lone = servers }; history = history }

  abbrev Over : Result Bool DiskAnswer → Type 0
  Over result = JoinsOver old.servers.lone.link old.servers.lone.journal.end old.history.entries history.entries result held.disk left.disk held.journal left.journal

  over-untold : (result : Result Bool DiskAnswer) → Over result → held.journal.files ≡ None → left.journal.files ≡ None
  over-untold result over is =
      ap (λ (seen : DiskSeen). seen.files) over.journal ∙ left-files over.appended over.mid
      ∙ appends-untold old.servers.lone.link old.servers.lone.journal.end over.appended held.journal over.mid over.calls is

  -- where one joined
  done-armed-by : (went : Bool) (appended : Result (Option Message) DiskAnswer) (mid : DiskSeen) → EndsWith (Ok went) appended → AppendsCalls old.servers.lone.link old.servers.lone.journal.end appended held.journal mid → left.journal ≡ left_by appended mid → left.disk ≡ left_by appended held.disk
      → (is_some left.disk.tally.armed ≡ is_some held.disk.tally.armed) × (is_some left.journal.tally.armed ≡ is_some held.journal.tally.armed)
  done-armed-by went (Ok found) mid ends calls journal disk = (
    ap (λ (seen : DiskSeen). is_some seen.tally.armed) disk,
    ap (λ (seen : DiskSeen). is_some seen.tally.armed) journal ∙ appends-armed old.servers.lone.link old.servers.lone.journal.end found held.journal mid calls,
  )
  done-armed-by went (Err Memory) mid ends calls journal disk = absurd ends
  done-armed-by went (Err Failed) mid ends calls journal disk = absurd ends
  done-armed-by went (Err Stopped) mid ends calls journal disk = absurd ends

  joined-on : (went : Bool) → AreUp old → Joins went old.servers.lone servers old.history.entries history.entries before after → Over (Ok went) → StaysWild old joined held left
  joined-on went up joins over seen wild =
      let net = messages_in seen.net in
      let silent = wild.servers in
      let armed = done-armed-by went over.appended over.mid over.ends over.calls over.journal over.disk in
      same-world seen old servers history held left wild
      (up-silent old.servers.lone servers net net held left (record { untold = silent.untold; armed = silent.armed; stands = silent.stands })
      (joins-armed went old.servers.lone servers old.history.entries history.entries before after joins) (over-untold (Ok went) over silent.untold) armed.0 armed.1
      (stands-up went net old.servers.lone servers old.history.entries history.entries before after joins (up-at old.servers net held silent up.role)))

  -- or the journal's disk stopped in that
  stopped-by : (appended : Result (Option Message) DiskAnswer) (mid : DiskSeen) → EndsWith (Err Stopped) appended → left.journal ≡ left_by appended mid → left.disk ≡ left_by appended held.disk → (left.disk.tally.armed ≡ None) × (left.journal.tally.armed ≡ None)
  stopped-by (Ok found) mid ends journal disk = absurd ends
  stopped-by (Err Memory) mid ends journal disk = absurd ends
  stopped-by (Err Failed) mid ends journal disk = absurd ends
  stopped-by (Err Stopped) mid ends journal disk = (ap (λ (seen : DiskSeen). seen.tally.armed) disk, ap (λ (seen : DiskSeen). seen.tally.armed) journal)

  stopped-on : servers ≡ downed old.servers.lone → Over (Err Stopped) → StaysWild old joined held left
  stopped-on is over seen wild =
      let unarmed = stopped-by over.appended over.mid over.ends over.journal over.disk in
      same-world seen old servers history held left wild
      (subst (λ (s : Lone). IsSilent (record { lone = s }) (messages_in seen.net) left) (sym is)
      (down-silent old.servers.lone (messages_in seen.net) left (over-untold (Err Stopped) over wild.servers.untold) unarmed.0 unarmed.1))

  joins-ok : (went : Bool) → AreUp old → Joins went old.servers.lone servers old.history.entries history.entries before after → Over (Ok went) → GoesWild cold_kit {T = Bool} always (Ok went) old joined held left
  joins-ok went up joins over = λ seen wild so. joined-on went up joins over seen wild

  joins-err : (answer : DiskAnswer) → JoinBreaks answer old.servers.lone servers old.history.entries history.entries before after held.journal left.journal → Over (Err answer) → GoesWild cold_kit {T = Bool} always (Err answer) old joined held left
  joins-err Memory breaks over = tt
  joins-err Failed breaks over = tt
  joins-err Stopped breaks over = λ seen wild so. stopped-on breaks.0 over seen wild

  pub joins-wild : (result : Result Bool DiskAnswer) → AreUp old → IfOk result (λ went. Joins went old.servers.lone servers old.history.entries history.entries before after) → IfErr result (λ answer. JoinBreaks answer old.servers.lone servers old.history.entries history.entries before after held.journal left.journal) → Over result → GoesWild cold_kit always result old joined held left
  joins-wild (Ok went) up joins breaks over = joins-ok went up joins over
  joins-wild (Err answer) up joins breaks over = joins-err answer breaks over

-- **The server hears what came back.**

pub back-on : (went : Bool) (old : Cluster Solo) (servers : Lone) (held : ColdSeen) → AreUp old → HearsBack went old.servers.lone servers → StaysWild old (record old { servers = record { lone = servers } }) held held
back-on true old servers held up hears seen wild =
    let net = messages_in seen.net in
    let silent = wild.servers in
    same-world seen old servers old.history held held wild
    (up-silent old.servers.lone servers net net held held (record { untold = silent.untold; armed = silent.armed; stands = silent.stands }) hears.armed silent.untold refl refl
    (hears-up net old.servers.lone servers hears (up-at old.servers net held silent up.role)))
back-on false old servers held up hears seen wild =
    let silent = wild.servers in
    same-world seen old servers old.history held held wild
    (subst (λ (s : Lone). IsSilent (record { lone = s }) (messages_in seen.net) held) (sym hears.1) (record { untold = silent.untold; armed = silent.armed; stands = silent.stands }))

-- **The entry in hand is worked.**

module _ (T : Type 0) (calls : List DeviceCall) (old : Cluster Solo) (servers : Lone) (net before after : List (List ℕ)) (held left : ColdSeen) where
  abbrev worked : Cluster Solo
  worked = record old { servers = record { lone = servers }; net = net }

  abbrev Done : Result T DiskAnswer → Type 0
  Done result = WorksOver calls result held.disk left.disk held.journal left.journal

  works-untold : (result : Result T DiskAnswer) → Done result → held.journal.files ≡ None → left.journal.files ≡ None
  works-untold result over is = ap (λ (seen : DiskSeen). seen.files) over.journal ∙ left-files over.worked held.journal ∙ is

  works-armed : (done : T) (heard : Result Heard DiskAnswer) (mid : DiskSeen) → EndsWork {T = T} {U = Heard} (Ok done) heard → PerformsOrLacks calls heard held.disk.files mid.files held.disk.tally mid.tally → left.disk ≡ left_by heard mid → left.journal ≡ left_by heard held.journal
      → (is_some left.disk.tally.armed ≡ is_some held.disk.tally.armed) × (is_some left.journal.tally.armed ≡ is_some held.journal.tally.armed)
  works-armed done (Ok heard) mid ends performs disk journal = (
    ap (λ (seen : DiskSeen). is_some seen.tally.armed) disk ∙ lacks-armed calls heard held.disk.files mid.files held.disk.tally mid.tally performs,
    ap (λ (seen : DiskSeen). is_some seen.tally.armed) journal,
  )
  works-armed done (Err Memory) mid ends performs disk journal = absurd ends
  works-armed done (Err Failed) mid ends performs disk journal = absurd ends
  works-armed done (Err Stopped) mid ends performs disk journal = absurd ends

  works-stopped : (heard : Result Heard DiskAnswer) (mid : DiskSeen) → EndsWork {T = T} {U = Heard} (Err Stopped) heard → left.disk ≡ left_by heard mid → left.journal ≡ left_by heard held.journal → (left.disk.tally.armed ≡ None) × (left.journal.tally.armed ≡ None)
  works-stopped (Ok heard) mid ends disk journal = absurd ends
  works-stopped (Err Memory) mid ends disk journal = absurd ends
  works-stopped (Err Failed) mid ends disk journal = absurd ends
  works-stopped (Err Stopped) mid ends disk journal = (ap (λ (seen : DiskSeen). seen.tally.armed) disk, ap (λ (seen : DiskSeen). seen.tally.armed) journal)

  works-ok : (done : T) → AreUp old → IsSome old.servers.lone.node.replica.owed → old.servers.lone.node.waits ≡ None → Works old.servers.lone servers old.net net before after → Done (Ok done) → GoesWild cold_kit {T = T} always (Ok done) old worked held left
  works-ok done up some none works over = λ seen wild so.
      let messages = messages_in seen.net in
      let silent = wild.servers in
      let replies = replies_in old.servers.lone.node.replica.owed in
      let stands = up-at old.servers messages held silent up.role in
      let can = All-map (AnswersCall messages) (IsPostable messages) replies (answers-postable messages) (replies-post messages old.servers.lone stands) in
      let later = messages_in (posted_all (plain_of wild.setup) replies seen.net) in
      let armed = works-armed done over.worked over.mid over.ends over.performs over.disk over.journal in
      posted-world seen old servers old.history net before after replies held left wild works.posts can
      (up-silent old.servers.lone servers messages later held left (record { untold = silent.untold; armed = silent.armed; stands = silent.stands })
      (ap (λ (s : Lone). s.armed) works.servers) (works-untold (Ok done) over silent.untold) armed.0 armed.1
      (up-later servers messages later (λ message posted. all-grown (plain_of wild.setup) (is_plain wild.setup) replies seen.net message posted)
      (works-up messages old.servers.lone servers works.servers some none stands)))

  -- or the record disk stopped in that
  stops-on : servers ≡ downed old.servers.lone → net ≡ old.net → Done (Err Stopped) → StaysWild old worked held left
  stops-on is same over seen wild =
      let unarmed = works-stopped over.worked over.mid over.ends over.disk over.journal in
      let W : List (List ℕ) → Type 0 = λ n. WildOn cold_kit seen (record old { servers = record { lone = servers }; net = n }) left in
      subst W (sym same) (same-world seen old servers old.history held left wild
      (subst (λ (s : Lone). IsSilent (record { lone = s }) (messages_in seen.net) left) (sym is)
      (down-silent old.servers.lone (messages_in seen.net) left (works-untold (Err Stopped) over wild.servers.untold) unarmed.0 unarmed.1)))

  works-err : (answer : DiskAnswer) → WorkBreaks answer old.servers.lone servers old.net net before after held.disk left.disk → Done (Err answer) → GoesWild cold_kit {T = T} always (Err answer) old worked held left
  works-err Memory breaks over = tt
  works-err Failed breaks over = tt
  works-err Stopped breaks over = λ seen wild so. stops-on breaks.0 breaks.1 over seen wild

  pub works-wild : (result : Result T DiskAnswer) → AreUp old → IsSome old.servers.lone.node.replica.owed → old.servers.lone.node.waits ≡ None → OnOk result (Works old.servers.lone servers old.net net before after) → IfErr result (λ answer. WorkBreaks answer old.servers.lone servers old.net net before after held.disk left.disk) → Done result → GoesWild cold_kit always result old worked held left
  works-wild (Ok done) up some none works breaks over = works-ok done up some none works over
  works-wild (Err answer) up some none works breaks over = works-err answer breaks over

-- **A crash, and disks that are armed.**

pub crash-on : (old new : Cluster Solo) (held left : ColdSeen) → new ≡ record old { servers = record { lone = downed old.servers.lone } } → left.disk ≡ unarmed held.disk → left.journal ≡ unarmed held.journal → StaysWild old new held left
crash-on old new held left is disk journal seen wild =
    subst (λ (w : Cluster Solo). WildOn cold_kit seen w left) (sym is)
    (same-world seen old (downed old.servers.lone) old.history held left wild
    (down-silent old.servers.lone (messages_in seen.net) left (ap (λ (s : DiskSeen). s.files) journal ∙ wild.servers.untold)
    (ap (λ (s : DiskSeen). s.tally.armed) disk) (ap (λ (s : DiskSeen). s.tally.armed) journal)))

rearmed-up : (net : List Message) (servers : Lone) (some : Bool) → IsUpAt net servers → IsUpAt net (record servers { armed = some })
rearmed-up net servers some up = record {
  saved = up.saved;
  owed = up.owed;
  hand = up.hand;
  good = up.good;
  owes = up.owes;
  node = up.node;
  link = up.link;
  back = up.back;
  joined = up.joined;
  bound = up.bound;
}

some-right : (one : Bool) → true ≡ (one || true)
some-right true = refl
some-right false = refl

pub arm-disk-on : (count : ℕ) (old : Cluster Solo) (held left : ColdSeen) → AreUp old → Rearmed (Some count) held.disk left.disk → left.journal ≡ held.journal → StaysWild old (record old { servers = record { lone = record old.servers.lone { armed = true } } }) held left
arm-disk-on count old held left up now same seen wild =
    let net = messages_in seen.net in
    same-world seen old (record old.servers.lone { armed = true }) old.history held left wild (record {
      untold = ap (λ (s : DiskSeen). s.files) same ∙ wild.servers.untold;
      armed = ap (λ (t : Tally). is_some t.armed || is_some left.journal.tally.armed) (sym now.tally);
      stands = inl (rearmed-up net old.servers.lone true (up-at old.servers net held wild.servers up.role));
    })

pub arm-journal-on : (count : ℕ) (old : Cluster Solo) (held left : ColdSeen) → AreUp old → Rearmed (Some count) held.journal left.journal → left.disk ≡ held.disk → StaysWild old (record old { servers = record { lone = record old.servers.lone { armed = true } } }) held left
arm-journal-on count old held left up now same seen wild =
    let net = messages_in seen.net in
    same-world seen old (record old.servers.lone { armed = true }) old.history held left wild (record {
      untold = now.files ∙ wild.servers.untold;
      armed = some-right (is_some left.disk.tally.armed) ∙ ap (λ (t : Tally). is_some left.disk.tally.armed || is_some t.armed) (sym now.tally);
      stands = inl (rearmed-up net old.servers.lone true (up-at old.servers net held wild.servers up.role));
    })

unarmed-stands : (net : List Message) (servers : Lone) → IsUpAt net servers ⊎ IsDown servers → IsUpAt net (record servers { armed = false }) ⊎ IsDown (record servers { armed = false })
unarmed-stands net servers (inl up) = inl (rearmed-up net servers false up)
unarmed-stands net servers (inr down) = inr (record { node = down.node; link = down.link; back = down.back; armed = refl })

pub disarm-on : (old : Cluster Solo) (held left : ColdSeen) → Rearmed None held.disk left.disk → Rearmed None held.journal left.journal → StaysWild old (record old { servers = record { lone = record old.servers.lone { armed = false } } }) held left
disarm-on old held left one other seen wild =
    let net = messages_in seen.net in
    same-world seen old (record old.servers.lone { armed = false }) old.history held left wild (record {
      untold = other.files ∙ wild.servers.untold;
      armed = λ i. is_some (sym one.tally i).armed || is_some (sym other.tally i).armed;
      stands = unarmed-stands net old.servers.lone wild.servers.stands;
    })

-- A line that is done by a stop goes on as what stopped.
pub stop-wild : {T E : Type 0} (r : Result T DiskAnswer) (s : Result E DiskAnswer) (old new : Cluster Solo) (held left : ColdSeen) → DoneAtStop r s → GoesWild cold_kit {T = T} always r old new held left → GoesWild cold_kit {T = E} always s old new held left
stop-wild (Ok x) (Ok y) old new held left ends goes = goes
stop-wild (Ok x) (Err answer) old new held left ends goes = absurd ends
stop-wild (Err Stopped) (Ok y) old new held left ends goes = goes
stop-wild (Err Stopped) (Err answer) old new held left ends goes = absurd ends
stop-wild (Err Memory) (Ok y) old new held left ends goes = absurd ends
stop-wild {E = E} (Err Memory) (Err answer) old new held left ends goes = subst (λ (a : DiskAnswer). GoesWild cold_kit {T = E} always (Err a) old new held left) (sym ends) tt
stop-wild (Err Failed) (Ok y) old new held left ends goes = absurd ends
stop-wild {E = E} (Err Failed) (Err answer) old new held left ends goes = subst (λ (a : DiskAnswer). GoesWild cold_kit {T = E} always (Err a) old new held left) (sym ends) tt
