-- Lines of a cluster that may stand for no history: what is asked of it, and what it does.
use Rattle.std.proofs.Common.{◌≡◌, inl, inr, ℕ, ℤ, Bool, true, false, ◌||◌, Option, Some, None, List, ◌++◌, get_or, refl, ap, sym, subst, ◌∙◌}
use Rattle.std.specs.Prelude.{is_some, IfErr, IsSome, OnOk, Result, Ok, Err}
use Rattle.std.specs.List.{AllByRecursion}
use Rattle.calls.specs.History.{Pushed}
use Rattle.disk_model.specs.declared.answers.DiskAnswer.{DiskAnswer}
use Rattle.disk_model.specs.declared.answers.DiskAnswer.TheVariants.{Memory, Failed, Stopped}
use mir.Syntax.{w64}
use mir.Val.{to_z, of_z}
use Rattle.wire.specs.MessageSpelling.{MessageInRange}
use Rattle.script_lines.specs.declared.line.Line.{Line}
use Rattle.script_lines.specs.declared.line.Line.TheVariants as line
use Rattle.plain_service.specs.Fitness.{IsFit}
use Rattle.plain_service.specs.Setups.{IsMoment}
use Rattle.service_core.specs.Valuing.{items_held}
use Rattle.service_laws.specs.PlainOf.{plain_of}
use Rattle.service_laws.proofs.ServiceLaws.{is_plain}
use Rattle.cluster_facts.specs.Types.{Message, Request, Receipt}
use Rattle.cluster_facts.specs.History.{Hand, Empty, Waiting, Applied, Ready, Judged, New, Repeat, Old, Ahead}
use Rattle.cluster_facts.specs.Messages.{messages_in}
use Rattle.cluster_facts.specs.World.{World}
use Rattle.client_agent.specs.Seen.{Seen, seen_of}
use Rattle.cluster_facts.specs.Agents.{Agent, resent}
use Rattle.cluster_events.specs.Ending.{is_crash}
use Rattle.cluster_clients.specs.Clients.{StandsAt}
use Rattle.cluster_clients.specs.Posted.{PostsAll, posted_all}
use Rattle.calls.specs.declared.call.Call.{Call}
use Rattle.calls.specs.declared.saved.Saved.{Saved}
use Rattle.mirror.specs.declared.heard.Heard.{Heard}
use Rattle.mirror.specs.declared.heard.Role.{Role}
use Rattle.mirror.specs.declared.heard.Role.TheVariants.{Active, Standby, Joining, Down}
use Rattle.mirror.specs.declared.owed.Owed.{Owed}
use Rattle.mirror.specs.declared.state.NodeState.{NodeState as Node}
use Rattle.mirror.specs.ByValue.{IsHeardByValue, IsReceiptByValue, IsRequestByValue, items_pushed, judged_in}
use Rattle.mirror.specs.Hearing.{CanHear}
use Rattle.mirror.specs.Pairing.{IsHeard, IsTiedByValue}
use Rattle.mirror.specs.Replicas.{HasRoom, ReplicaState}
use Rattle.mirror.specs.Working.{replies_in}
use Rattle.service_core.specs.Applying.{is_new_in}
use Rattle.lead_server.specs.Heard.{AnswersInRange, Hears, HoldsInRange}
use Rattle.lead_rounds.proofs.HearBroken.{answers-range}
use Rattle.lead_rounds.proofs.LeadSteps.{can-hear, hear-conditions}
use Rattle.lead_rounds.proofs.PushSteps.{holds-range}
use Rattle.cluster_rounds.specs.declared.cluster.Cluster.{Cluster}
use Rattle.cluster_rounds.specs.Counted.{Counted}
use Rattle.cluster_rounds.specs.Wild.{GoesWild, IsWild, Posted, PushesWild, StandsOf, StandsOn, WildOn, always}
use Rattle.cluster_rounds.specs.Worlds.{HasStateOn, IsIdle, any_state}
use Rattle.cluster_rounds.proofs.ArmedSteps.{state-told}
use Rattle.cluster_rounds.proofs.BrokenClients.{same-breaks}
use Rattle.cluster_rounds.proofs.ChainSteps.{all-range, resent-standing}
use Rattle.cluster_rounds.proofs.WildClients.{resent-at}
use Rattle.cluster_rounds.proofs.WildSteps.{all-posted-range}
use Rattle.cluster_rounds.proofs.BrokenSteps.{shown-ends}
use Rattle.cluster_lines.specs.Answers.{EndsAs}
use Rattle.cluster_lines.specs.Lines.{IsOwn}
use Rattle.cluster_lines.specs.Playing.{BreaksOff, FaultLeaves, Plays}
use Rattle.plain_service.proofs.MomentLaws.{moment-same}
use Rattle.lone_server.specs.declared.lone.Lone.{Lone}
use Rattle.lone_server.specs.Working.{CanHearAll}
use Rattle.cold_servers.specs.declared.solo.Solo.{Solo}
use Rattle.cold_servers.specs.ColdKit.{cold_kit, cold_script}
use Rattle.cold_servers.specs.ColdLaws.{cold_laws, up-later}
use Rattle.cold_servers.specs.ColdNodes.{IsDown, IsFallen, OwnBy}
use Rattle.cold_servers.specs.ColdSeen.{ColdSeen, Outlives}
use Rattle.cold_servers.specs.Silent.{IsUpAt, OwesBy, active_at}
use Rattle.cold_servers.specs.Steps.{AreDown, AreUp, PlaysUp, StaysWild, is_active}
use Rattle.cold_servers.proofs.FitSteps.{pushed-range}
use Rattle.cold_servers.proofs.LeadState.{lead-so, rests-so}
use Rattle.cold_servers.proofs.PostSteps.{IsPostable, all-grown, all-posted}
use Rattle.cold_servers.proofs.RangeSteps.{back-range, link-range, replies-range}
use Rattle.cold_servers.proofs.SilentSteps.{HeardWell, back-safe, down-at, heard-well, items-postable, link-safe, replies-safe, up-at}
use Rattle.cold_servers.proofs.SilentWorlds.{posted-world, up-silent}

-- **What is asked of it while the server is up.**

pub active-is : (role : Role) → is_active role ≡ true → role ≡ Active
active-is Active is = refl
active-is Standby is = cc
active-is Joining is = cc
active-is Down is = cc

module _ (old : Cluster Solo) (held : ColdSeen) where
  pub link-ok : StandsOn cold_kit any_state always old held → AreUp old → AllByRecursion MessageInRange old.servers.lone.link
  link-ok (inl has) up = link-range has.setup has.state old has.good has.shows (up.states has.setup has.state has.good has.shows)
  link-ok (inr has) up =
      link-safe has.seen old has.wild.clients has.wild.shows (up-at old.servers (messages_in has.seen.net) held has.wild.servers up.role)

  pub back-ok : StandsOn cold_kit any_state always old held → AreUp old → CanHearAll old.servers.lone.node old.servers.lone.back
  back-ok (inl has) up = back-range has.setup has.state old has.good has.shows (up.states has.setup has.state has.good has.shows)
  back-ok (inr has) up =
      back-safe (messages_in has.seen.net) old.servers.lone (up-at old.servers (messages_in has.seen.net) held has.wild.servers up.role)

  pub replies-ok : StandsOn cold_kit any_state always old held → AreUp old → IsSome old.servers.lone.node.replica.owed → old.servers.lone.node.waits ≡ None → AllByRecursion MessageInRange (replies_in old.servers.lone.node.replica.owed)
  replies-ok (inl has) up some none = replies-range has.setup has.state old has.good has.shows (up.states has.setup has.state has.good has.shows) some none
  replies-ok (inr has) up some none =
      replies-safe has.seen old has.wild.clients has.wild.shows (up-at old.servers (messages_in has.seen.net) held has.wild.servers up.role)

  -- of an event that leaves the disks alone
  pub stands-of : StandsOn cold_kit any_state always old held → StandsOf cold_kit any_state always old
  stands-of (inl has) = inl (state-told cold_kit cold_laws any_state old held has)
  stands-of (inr has) = inr (held, has)

-- **It hears a request or a receipt.**

abbrev InRange : Heard → Type 0
InRange heard = AllByRecursion MessageInRange heard.to_net

request-range : (saved : Saved) (client number : ℕ) (call : Call) (now : ℤ) (verdict : Judged) (heard : Heard) (server : ReplicaState) → MessageInRange (Request client number call) → IsRequestByValue saved client number call now verdict heard server → InRange heard
request-range saved client number call now New heard server range is = subst InRange (sym is.0) tt
request-range saved client number call now Repeat heard server range is = subst InRange (sym is.2) ((range.0, range.1), tt)
request-range saved client number call now Old heard server range is = subst InRange (sym is.0) tt
request-range saved client number call now Ahead heard server range is = subst InRange (sym is.0) tt

receipt-range : (saved : Saved) (client key through : ℕ) (now : ℤ) (new : Bool) (heard : Heard) (server : ReplicaState) → IsReceiptByValue saved client key through now new heard server → InRange heard
receipt-range saved client key through now true heard server is = subst InRange (sym is.0) tt
receipt-range saved client key through now false heard server is = subst InRange (sym is.0) tt

value-range : (saved : Saved) (now : ℤ) (message : Message) (heard : Heard) (server : ReplicaState) → MessageInRange message → IsHeardByValue saved now message heard server → InRange heard
value-range saved now (Request client number call) heard server range is = request-range saved client number call now (judged_in saved client number) heard server range is
value-range saved now (Receipt client key through) heard server range is = receipt-range saved client key through now (is_new_in saved client key through) heard server is
value-range saved now _ heard server range is = subst InRange (sym is.0) tt

answers-by : (net : List Message) (servers : Lone) (saved : Saved) (owed : Option Owed) (hand : Hand) → IsFit saved → OwesBy net hand owed → servers.node ≡ active_at saved owed hand → (message : Message) (now : ℤ) → MessageInRange message → AnswersInRange message now servers.node
answers-by net servers saved owed Empty fit owes at message now range = λ heard new is.
    let idle : servers.node ≡ active_at saved None Empty = subst (λ (o : Option Owed). servers.node ≡ active_at saved o Empty) owes at in
    let T : Node → Type 0 = λ n. IsTiedByValue n.tie saved now message n heard new in
    let so : T (active_at saved None Empty) = subst T idle (is.3 saved fit (ap (λ (n : Node). n.replica) idle)) in
    let told = so.0 in
    subst InRange (sym told.2) (value-range saved now message told.0 new.replica range told.1)
answers-by net servers saved owed (Waiting entry) fit owes at message now range = λ heard new is.
    let busy = is.2 saved owes.held (ap (λ (n : Node). n.replica) (subst (λ (o : Option Owed). servers.node ≡ active_at saved o (Waiting entry)) owes.is at)) in
    subst InRange (sym busy.0) tt
answers-by net servers saved owed (Applied entry) fit owes at message now range = λ heard new is.
    let busy = is.2 saved owes.held (ap (λ (n : Node). n.replica) (subst (λ (o : Option Owed). servers.node ≡ active_at saved o (Applied entry)) owes.is at)) in
    subst InRange (sym busy.0) tt
answers-by net servers saved owed (Ready entry) fit owes at message now range = λ heard new is.
    let busy = is.2 saved owes.held (ap (λ (n : Node). n.replica) (subst (λ (o : Option Owed). servers.node ≡ active_at saved o (Ready entry)) owes.is at)) in
    subst InRange (sym busy.0) tt

answers-safe : (net : List Message) (servers : Lone) (message : Message) (now : ℤ) → IsUpAt net servers → MessageInRange message → AnswersInRange message now servers.node
answers-safe net servers message now up range = answers-by net servers up.saved up.owed up.hand up.good.fit up.owes up.node message now range

wild-moment : (seen : World) (old : Cluster Solo) (held : ColdSeen) → IsWild cold_kit seen old held → IsMoment old.now
wild-moment seen old held wild = subst IsMoment (sym wild.shows.now) wild.clients.moment

hear-safe : (seen : World) (old : Cluster Solo) (held : ColdSeen) (message : Message) → IsWild cold_kit seen old held → MessageInRange message → CanHear message (to_z w64 (of_z w64 old.now))
hear-safe seen old held message wild range =
    let moment = wild-moment seen old held wild in
    subst (λ (now : ℤ). CanHear message now) (sym (moment-same old.now moment)) (can-hear message old.now range moment)

pub heard-so : (message : Message) (old : Cluster Solo) → StandsOf cold_kit any_state always old → MessageInRange message → CanHear message (to_z w64 (of_z w64 old.now))
heard-so message old (inl has) range = hear-conditions cold_kit cold_laws has.setup has.state old message has.good has.shows range
heard-so message old (inr has) range = hear-safe has.1.seen old has.0 message has.1.wild range

pub answers-so : (message : Message) (old : Cluster Solo) → StandsOf cold_kit any_state always old → AreUp old → MessageInRange message → AnswersInRange message (to_z w64 (of_z w64 old.now)) old.servers.lone.node
answers-so message old (inl has) up range =
    answers-range cold_kit cold_laws has.setup has.state true old old.servers.lone.node has.good has.shows (lead-so has.setup has.state old has.shows (up.states has.setup has.state has.good has.shows)) message range
answers-so message old (inr has) up range =
    answers-safe (messages_in has.1.seen.net) old.servers.lone message (to_z w64 (of_z w64 old.now)) (up-at old.servers (messages_in has.1.seen.net) has.0 has.1.wild.servers up.role) range

pub hears-on : (old : Cluster Solo) (node : Node) (link : List Message) (net : List (List ℕ)) (history : Pushed) (place : ℕ) (message : Message) (before after : List (List ℕ)) (mirrored : List Message) → AreUp old → MessageInRange message → Hears place message (to_z w64 (of_z w64 old.now)) old.servers.lone.node node old.net net old.history.entries history.entries before after mirrored → link ≡ old.servers.lone.link ++ mirrored
    → (disks : ColdSeen) (seen : World) → IsWild cold_kit seen old disks → Posted message seen → WildOn cold_kit seen (record old { servers = record { lone = record old.servers.lone { node = node; link = link } }; net = net; history = history }) disks
hears-on old node link net history place message before after mirrored up range hears sent disks seen wild posted =
    let messages = messages_in seen.net in
    let plain = plain_of wild.setup in
    let silent = wild.servers in
    let moment = wild-moment seen old disks wild in
    let heard = hears.heard in
    let is : IsHeard message old.now old.servers.lone.node heard node = subst (λ (now : ℤ). IsHeard message now old.servers.lone.node heard node) (moment-same old.now moment) hears.hears in
    let stands = up-at old.servers messages disks silent up.role in
    let room : HasRoom (Some stands.saved) = subst (λ (n : Node). HasRoom n.replica.service) stands.node hears.room in
    let well : HeardWell messages old.servers.lone node heard = heard-well messages old.servers.lone node heard old.now message stands room posted (can-hear message old.now range moment) is in
    let later = messages_in (posted_all plain heard.to_net seen.net) in
    let new : Lone = record old.servers.lone { node = node; link = link } in
    let goes : link ≡ old.servers.lone.link ++ heard.to_peer = sent ∙ ap (λ (m : List Message). old.servers.lone.link ++ m) hears.beside in
    let now_up : IsUpAt messages new = subst (λ (l : List Message). IsUpAt messages (record old.servers.lone { node = node; link = l })) (sym goes) well.up in
    posted-world seen old new history net before hears.told.between heard.to_net disks disks wild hears.told.posts well.posts
    (up-silent old.servers.lone new messages later disks disks (record { untold = silent.untold; armed = silent.armed; stands = silent.stands }) refl silent.untold refl refl
    (up-later new messages later (λ other stood. all-grown plain (is_plain wild.setup) heard.to_net seen.net other stood) now_up))

-- **It pushes items.**

holds-safe : (net : List Message) (servers : Lone) → IsUpAt net servers → HoldsInRange servers.node.replica
holds-safe net servers up = λ items held value.
    let is : items ≡ items_pushed (Some up.saved) = value ∙ ap (λ (n : Node). items_pushed n.replica.service) up.node in
    subst (λ (l : List Message). AllByRecursion MessageInRange l) (sym is) (pushed-range up.saved up.good)

pub holds-so : (old : Cluster Solo) → StandsOf cold_kit IsIdle always old → AreUp old → HoldsInRange old.servers.lone.node.replica
holds-so old (inl has) up =
    let rests = rests-so has.setup has.state old has.shows (up.states has.setup has.state has.good has.shows) has.so in
    holds-range cold_kit cold_laws has.setup has.state old old.servers.lone.node has.good has.shows has.so rests
holds-so old (inr has) up =
    holds-safe (messages_in has.1.seen.net) old.servers.lone (up-at old.servers (messages_in has.1.seen.net) has.0 has.1.wild.servers up.role)

pub pushes-on : (old : Cluster Solo) (net before after : List (List ℕ)) (items : List Message) → AreUp old → items ≡ items_pushed old.servers.lone.node.replica.service → PostsAll items old.net net before after → PushesWild cold_kit items old (record old { net = net })
pushes-on old net before after items up value posts = λ disks seen wild.
    let messages = messages_in seen.net in
    let plain = plain_of wild.setup in
    let silent = wild.servers in
    let stands = up-at old.servers messages disks silent up.role in
    let is : items ≡ items_pushed (Some stands.saved) = value ∙ ap (λ (n : Node). items_pushed n.replica.service) stands.node in
    let can = subst (λ (l : List Message). AllByRecursion (IsPostable messages) l) (sym is) (items-postable messages (items_held stands.saved)) in
    let later = messages_in (posted_all plain items seen.net) in (
      posted-world seen old old.servers.lone old.history net before after items disks disks wild posts can
          (up-silent old.servers.lone old.servers.lone messages later disks disks (record { untold = silent.untold; armed = silent.armed; stands = silent.stands }) refl silent.untold refl refl
          (up-later old.servers.lone messages later (λ other stood. all-grown plain (is_plain wild.setup) items seen.net other stood) stands)),
      all-posted plain (is_plain wild.setup) items seen.net,
    )

-- **Lines that leave the disks alone, or ask only that they be armed.**

pub stays-ends : {T E : Type 0} (r : Result T E) (s : Result T DiskAnswer) (old new : Cluster Solo) (held left : ColdSeen) → EndsAs r s → OnOk r (StaysWild old new held left) → GoesWild cold_kit {T = T} always s old new held left
stays-ends (Ok x) (Ok y) old new held left same stays = λ seen wild so. stays seen wild
stays-ends (Ok x) (Err f) old new held left same stays = absurd same
stays-ends (Err e) (Ok y) old new held left same stays = absurd same
stays-ends {T = T} (Err e) (Err f) old new held left same stays = subst (λ (answer : DiskAnswer). GoesWild cold_kit {T = T} always (Err answer) old new held left) (sym same) tt

pub outlives-ends : {T E : Type 0} (r : Result T E) (s : Result T DiskAnswer) (held left : ColdSeen) → EndsAs r s → Outlives held left → Counted cold_kit held left s
outlives-ends (Ok x) (Ok y) held left same outlives = outlives
outlives-ends (Ok x) (Err f) held left same outlives = absurd same
outlives-ends (Err e) (Ok y) held left same outlives = absurd same
outlives-ends {T = T} (Err e) (Err f) held left same outlives = subst (λ (answer : DiskAnswer). Counted {T = T} cold_kit held left (Err answer)) (sym same) outlives

-- **What a line comes to over a state, by all that it came to.**

module _ (T : Type 0) (old new : Cluster Solo) (before after : List (List ℕ)) (held left : ColdSeen) where
  pub up-ok : (result : Result T DiskAnswer) (next : Line) → PlaysUp result next old new before after held left → OnOk result (Plays cold_kit cold_script next old new before after held left)
  up-ok (Ok x) next plays = λ setup state good shows count tells.
      (plays.states (record { setup = setup; state = state; good = good; shows = shows; count = count; so = tt })).ok setup state good shows count tells
  up-ok (Err answer) next plays = tt

  pub up-stands : (result : Result T DiskAnswer) (next : Line) → PlaysUp result next old new before after held left → HasStateOn cold_kit any_state old held → OnOk result (HasStateOn cold_kit any_state new left)
  up-stands result next plays has = (plays.states has).stands

  abbrev Broke : DiskAnswer → Line → Type 0
  Broke answer next = BreaksOff cold_kit cold_script answer next old new before after held left

  own-fault : (next : Line) → IsOwn cold_script next → (HasStateOn cold_kit any_state old held → FaultLeaves cold_kit cold_script next old new before after held left) → FaultLeaves cold_kit cold_script next old new before after held left
  own-fault line.Mirror own broke = λ setup state good shows count. broke (record { setup = setup; state = state; good = good; shows = shows; count = count; so = tt }) setup state good shows count
  own-fault line.Ack own broke = λ setup state good shows count. broke (record { setup = setup; state = state; good = good; shows = shows; count = count; so = tt }) setup state good shows count
  own-fault line.Work own broke = λ setup state good shows count. broke (record { setup = setup; state = state; good = good; shows = shows; count = count; so = tt }) setup state good shows count
  own-fault (line.Crash server) own broke = λ setup state good shows count. broke (record { setup = setup; state = state; good = good; shows = shows; count = count; so = tt }) setup state good shows count
  own-fault (line.Arm server number) own broke = λ setup state good shows count. broke (record { setup = setup; state = state; good = good; shows = shows; count = count; so = tt }) setup state good shows count
  own-fault line.Disarm own broke = λ setup state good shows count. broke (record { setup = setup; state = state; good = good; shows = shows; count = count; so = tt }) setup state good shows count
  own-fault (line.Restart server) own broke = λ setup state good shows count. broke (record { setup = setup; state = state; good = good; shows = shows; count = count; so = tt }) setup state good shows count
  own-fault _ own broke = absurd own

  pub up-broken : (result : Result T DiskAnswer) (next : Line) → IsOwn cold_script next → PlaysUp result next old new before after held left → IfErr result (λ answer. Broke answer next)
  up-broken (Ok x) next own plays = tt
  up-broken (Err answer) next own plays = by answer (λ has. (plays.states has).broken)
    where
      by : (answer : DiskAnswer) → (HasStateOn cold_kit any_state old held → Broke answer next) → Broke answer next
      by Memory broke = λ setup state good shows count. broke (record { setup = setup; state = state; good = good; shows = shows; count = count; so = tt }) setup state good shows count
      by Failed broke = own-fault next own broke
      by Stopped broke = λ setup state good shows count. broke (record { setup = setup; state = state; good = good; shows = shows; count = count; so = tt }) setup state good shows count

-- the server is down, and its own line is not played
pub down-broken : (next : Line) (old : Cluster Solo) (before after : List (List ℕ)) (held : ColdSeen) → BreaksOff cold_kit cold_script Memory next old old before after held held
down-broken next old before after held = λ setup state good shows count.
    (same-breaks cold_kit cold_laws old held setup state good shows, cold_laws.lacks_same (is_crash next) setup state old.history.entries old.servers held (shown-ends cold_kit cold_laws setup state old shows))

-- **While the server is down.**

module _ (old : Cluster Solo) (held : ColdSeen) where
  pub rests-ok : StandsOn cold_kit any_state always old held → AreDown old → IsDown old.servers.lone
  rests-ok (inl has) down =
      let core = has.state.world.core in
      let fallen : IsFallen has.state.peers old.servers.lone =
      subst (λ (b : Bool). OwnBy b has.setup core.answered core.hand has.state.peers old.servers.lone) (down.states has.setup has.state has.good has.shows) has.shows.own
      in
      fallen.down
  rests-ok (inr has) down = down-at old.servers (messages_in has.seen.net) held has.wild.servers down.role

-- what an agent sends again can be spelled
pub resent-so : (client at : ℕ) (old : Cluster Solo) (agent : Seen) (messages : List Message) → StandsOf cold_kit any_state always old → StandsAt client at old.agents → agent ≡ get_or old.agents at agent → ((c places : ℕ) (a : Agent) → agent ≡ seen_of c places a → messages ≡ resent c a) → AllByRecursion MessageInRange messages
resent-so client at old agent messages (inl has) found is are =
    (all-range cold_kit cold_laws) messages old ((resent-standing cold_kit cold_laws) client at old agent messages has found is are)
resent-so client at old agent messages (inr has) found is are =
    let wild = has.1.wild in
    all-posted-range has.1.seen old messages wild.clients wild.shows (resent-at client at old agent messages has.1.seen found is are wild.clients wild.shows)

none-armed : (one other : Option ℕ) → false ≡ (is_some one || is_some other) → (one ≡ None) × (other ≡ None)
none-armed None None is = (refl, refl)
none-armed None (Some count) is = cc
none-armed (Some count) other is = cc

module _ (old : Cluster Solo) (held : ColdSeen) where
  pub unarmed-ok : StandsOn cold_kit any_state always old held → AreDown old → (held.disk.tally.armed ≡ None) × (held.journal.tally.armed ≡ None)
  unarmed-ok (inl has) down =
      let core = has.state.world.core in
      let fallen : IsFallen has.state.peers old.servers.lone =
      subst (λ (b : Bool). OwnBy b has.setup core.answered core.hand has.state.peers old.servers.lone) (down.states has.setup has.state has.good has.shows) has.shows.own
      in
      (has.count.disk ∙ fallen.armed, has.count.journal ∙ fallen.beside)
  unarmed-ok (inr has) down =
      let silent = has.wild.servers in
      let rests = down-at old.servers (messages_in has.seen.net) held silent down.role in
      none-armed held.disk.tally.armed held.journal.tally.armed (sym rests.armed ∙ silent.armed)
