-- A client's agent keeps the calls that the client sent and to which no line tells the reply.
use Rattle.std.proofs.Common.{◌≡◌, ℕ, ◌<◌, ◌||◌, ◌==◌, Bool, true, false, if◌then◌else◌, List, [], ◌∷◌, ◌++◌, length, Option, refl, ap, sym, ◌∙◌, subst, arith}
use Rattle.std.specs.List.{AllByRecursion}
use Rattle.disk_model.specs.Counts.{Counters}
use Rattle.disk_model.specs.Disk.{Files}
use Rattle.plain_service.specs.Setups.{Setup}
use Rattle.cluster_facts.specs.Types.{Call, Reply, Callback, Request}
use Rattle.cluster_facts.specs.Lists.{without}
use Rattle.cluster_facts.specs.Messages.{messages_in, Spelled, sent_by}
use Rattle.cluster_facts.specs.Service.{Plain}
use Rattle.cluster_facts.specs.Agents.{Agent, call_of, after_call, after_reply}
use Rattle.cluster_facts.specs.World.{World, with_agent, enlisted}
use Rattle.cluster_facts.proofs.Words.{by_test, each_client, All-map}
use Rattle.cluster_events.specs.Lines.{Told, Posted, Injected, Committed, Replied, Declined, Ignored, Refused, Stood, Listed, Shown, is_ignored}
use Rattle.cluster_events.specs.Servers.{State}
use Rattle.cluster_events.specs.ClientEvents.{hand_out}
use Rattle.cluster_events.specs.Cores.{IsCored, with_core}
use Rattle.cluster_events.specs.Saying.{reply_in, replies_told, IsDone}
use Rattle.cluster_events.specs.Runs.RunBy.{Started, Went}
use Rattle.cluster_events.proofs.Promised.{gathered-without, gathered-handed}
use Rattle.cluster_events.proofs.Walking.{Kind, Asks, IsShow, IsByKind}
use Rattle.cluster_events.proofs.Carrying.{IsTold}
use Rattle.cluster_events.proofs.Telling.{gathered-append}
use Rattle.played_runs.specs.Games.{Game}
use Rattle.played_runs.specs.Kinds.{AreBelow, KeepsWaiting, Passes, Waits, kind_by}
use Rattle.played_runs.specs.Laws.{IsGame}
use Rattle.played_runs.specs.Playing.{Ran}
use Rattle.played_runs.specs.Refusing.{is_replied, waiting_of}
use Rattle.played_runs.proofs.Cores.{cored-alone}
use Rattle.played_runs.proofs.PlayLaws.{played-says}

-- Lists.

abbrev Sent : Type 0
Sent = ℕ × Call

abbrev Replies : Type 0
Replies = List (ℕ × Reply)

nothing-replied : (calls : List Sent) → calls ≡ waiting_of [] calls
nothing-replied [] = refl
nothing-replied (call ∷ calls) = ap (λ (rest : List Sent). call ∷ rest) (nothing-replied calls)

or-assoc : (a b c : Bool) → (a || (b || c)) ≡ ((a || b) || c)
or-assoc true b c = refl
or-assoc false b c = refl

replied-both : (second first : Replies) (call : Sent) → (is_replied second call || is_replied first call) ≡ is_replied (second ++ first) call
replied-both [] first call = refl
replied-both (reply ∷ second) first call =
    sym (or-assoc (call.0 == reply.0) (is_replied second call) (is_replied first call))
    ∙ ap (λ (b : Bool). call.0 == reply.0 || b) (replied-both second first call)

waiting-both : (second first : Replies) (calls : List Sent) → waiting_of second (waiting_of first calls) ≡ waiting_of (second ++ first) calls
waiting-both second first [] = refl
waiting-both second first (call ∷ calls) =
    let inner = waiting_of first calls in
    let both = waiting_of (second ++ first) calls in
    let deeper : waiting_of second inner ≡ both = waiting-both second first calls in
    let later : (b : Bool) → (if b then waiting_of second inner else call ∷ waiting_of second inner) ≡ (if (b || false) then both else call ∷ both) = elim [
      | true ↦ deeper
      | false ↦ ap (λ (rest : List Sent). call ∷ rest) deeper
    ] in
    let early : (b : Bool) → waiting_of second inner ≡ (if (b || true) then both else call ∷ both) = elim [ true ↦ deeper | false ↦ deeper ] in
    let cases : (b : Bool) → waiting_of second (if b then inner else call ∷ inner) ≡ (if (is_replied second call || b) then both else call ∷ both) = elim [
      | true ↦ early (is_replied second call)
      | false ↦ later (is_replied second call)
    ] in
    cases (is_replied first call) ∙ ap (λ (b : Bool). if b then both else call ∷ both) (replied-both second first call)

one-replied : (number : ℕ) (reply : Reply) (calls : List Sent) → without (λ sent. sent.0 == number) calls ≡ waiting_of ((number, reply) ∷ []) calls
one-replied number reply [] = refl
one-replied number reply (call ∷ calls) =
    let one = without (λ (sent : Sent). sent.0 == number) calls in
    let other = waiting_of ((number, reply) ∷ []) calls in
    let deeper : one ≡ other = one-replied number reply calls in
    let cases : (b : Bool) → (if b then one else call ∷ one) ≡ (if (b || false) then other else call ∷ other) = elim [
      | true ↦ deeper
      | false ↦ ap (λ (rest : List Sent). call ∷ rest) deeper
    ] in
    cases (call.0 == number)

not-replied : (replies : Replies) (call : Sent) → AllByRecursion (λ (reply : ℕ × Reply). reply.0 < call.0) replies → is_replied replies call ≡ false
not-replied [] call below = refl
not-replied (reply ∷ replies) call below =
    by_test (λ b. (b || is_replied replies call) ≡ false) call.0 reply.0
    (λ same. let lower = below.0 in absurd (omega arith))
    (λ different. not-replied replies call below.1)

-- What lines leave of the calls that an agent keeps, where no call is sent.

Passes-both : (one two three : World) (first second : List Told) → Passes one two first → Passes two three second → Passes one three (second ++ first)
Passes-both one two three first second before after = record {
  kept = λ client.
      let later = replies_told client second in
      let early = replies_told client first in
      let calls = (one.agents client).kept in
      after.kept client
      ∙ ap (λ (kept : List Sent). waiting_of later kept) (before.kept client)
      ∙ waiting-both later early calls
      ∙ ap (λ (replies : Replies). waiting_of replies calls) (sym (gathered-append (reply_in client) second first));
  sent = λ client. after.sent client ∙ before.sent client;
}

-- lines that tell no reply
passes-quiet : (old new : World) (told : List Told) → ((client : ℕ) → (new.agents client).kept ≡ (old.agents client).kept) → ((client : ℕ) → sent_by client (messages_in new.net) ≡ sent_by client (messages_in old.net)) → ((client : ℕ) → replies_told client told ≡ []) → Passes old new told
passes-quiet old new told kept sent quiet = record {
  kept = λ client.
      let calls = (old.agents client).kept in
      kept client ∙ nothing-replied calls ∙ ap (λ (replies : Replies). waiting_of replies calls) (sym (quiet client));
  sent = sent;
}

passes-reply : (world : World) (client number : ℕ) (call : Call) (reply : Reply) → Passes world (record world { agents = with_agent client (after_reply number call reply (world.agents client)) world.agents }) (Replied client number call reply ∷ [])
passes-reply world client number call reply = record {
  kept = each_client (λ other b. (if b then after_reply number call reply (world.agents client) else world.agents other).kept ≡ waiting_of ((if b then (number, reply) ∷ [] else []) ++ []) (world.agents other).kept) client
      (one-replied number reply (world.agents client).kept)
      (λ other. nothing-replied (world.agents other).kept);
  sent = λ other. refl;
}

-- an agent that keeps its calls in place of another
passes-agent : (world new : World) (client : ℕ) (after : Agent) (told : List Told) → after.kept ≡ (world.agents client).kept → new.agents ≡ with_agent client after world.agents → ((other : ℕ) → sent_by other (messages_in new.net) ≡ sent_by other (messages_in world.net)) → ((other : ℕ) → replies_told other told ≡ []) → Passes world new told
passes-agent world new client after told same agents sent quiet =
    passes-quiet world new told (λ other.
    ap (λ (all : ℕ → Agent). (all other).kept) agents
    ∙ each_client (λ one b. (if b then after else world.agents one).kept ≡ (world.agents one).kept) client same (λ one. refl) other) sent quiet

pub passes-told : (plain : Plain) → IsTold plain Passes
passes-told plain = record {
  same = λ world. passes-quiet world world [] (λ client. refl) (λ client. refl) (λ client. refl);
  both = Passes-both;
  ignored = λ world place why. passes-quiet world world (Ignored place why ∷ []) (λ client. refl) (λ client. refl) (λ client. refl);
  answer = λ world client number reply. passes-quiet world _ (Posted _ _ ∷ []) (λ other. refl) (λ other. refl) (λ other. refl);
  pushed = λ world client key item. passes-quiet world _ (Posted _ _ ∷ []) (λ other. refl) (λ other. refl) (λ other. refl);
  reply = λ world client number call reply sound kept place stands. passes-reply world client number call reply;
  item = λ world client key item found sound here next place stands. passes-agent world _ client _ (Posted _ _ ∷ []) refl refl (λ other. refl) (λ other. refl);
}

pub passes-cored : IsCored Passes
passes-cored =
    cored-alone Passes (λ world one other hand next. passes-quiet (with_core one hand world) (with_core other next world) [] (λ client. refl) (λ client. refl) (λ client. refl)) (λ world past hand next number entry. passes-quiet (with_core past hand world) (with_core past next world) (Committed number entry ∷ []) (λ client. refl) (λ client. refl) (λ client. refl))

passes-without : (old new : World) (told : List Told) → Passes old new told → Passes old new (without is_ignored told)
passes-without old new told passes = record {
  kept = λ client. passes.kept client ∙ ap (λ (replies : Replies). waiting_of replies (old.agents client).kept) (sym (gathered-without (reply_in client) (λ place why. refl) told));
  sent = passes.sent;
}

show-quiet : (line : Told) → IsShow line → (client : ℕ) → replies_told client (line ∷ []) ≡ []
show-quiet (Refused text standing) shows client = refl
show-quiet (Stood server role) shows client = refl
show-quiet (Listed name count) shows client = refl
show-quiet (Shown text) shows client = refl
show-quiet _ shows client = elim shows [ ]

hand_out-passes : (client : ℕ) (callbacks : List Callback) (after : Agent) (world : World) → after.kept ≡ (world.agents client).kept → Passes world (hand_out client callbacks after world).state (hand_out client callbacks after world).told
hand_out-passes client callbacks after world same =
    passes-agent world (hand_out client callbacks after world).state client after (hand_out client callbacks after world).told same refl (λ other. refl) (λ other. gathered-handed (reply_in other) client (length (world.agents client).handed) callbacks (λ number callback. refl))

-- What agents keep, behind all lines that were told.

waits-on : (old new : World) (before told : List Told) → KeepsWaiting old before → Passes old new told → KeepsWaiting new (told ++ before)
waits-on old new before told waits passes client =
    let later = replies_told client told in
    let early = replies_told client before in
    let calls = sent_by client (messages_in old.net) in
    passes.kept client
    ∙ ap (λ (kept : List Sent). waiting_of later kept) (waits client)
    ∙ waiting-both later early calls
    ∙ ap (λ (replies : Replies). waiting_of replies calls) (sym (gathered-append (reply_in client) told before))
    ∙ ap (λ (sent : List Sent). waiting_of (replies_told client (told ++ before)) sent) (sym (passes.sent client))

-- a call that is sent waits
sent-waits : (world : World) (client : ℕ) (call : Call) (clients : List ℕ) (before : List Told) → AreBelow world before → KeepsWaiting world before → KeepsWaiting (record world { net = Spelled (Request client (world.agents client).next call) ∷ world.net; agents = with_agent client (after_call call (world.agents client)) world.agents; clients = clients }) before
sent-waits world client call clients before below waits =
    let agent = world.agents client in
    let asked : Sent = (agent.next, call) in
    let replies = replies_told client before in
    let rest = waiting_of replies (sent_by client (messages_in world.net)) in
    each_client (λ other b. (if b then after_call call agent else world.agents other).kept ≡ waiting_of (replies_told other before) (if b then asked ∷ sent_by other (messages_in world.net) else sent_by other (messages_in world.net))) client
    (ap (λ (kept : List Sent). asked ∷ kept) (waits client) ∙ ap (λ (b : Bool). if b then rest else asked ∷ rest) (sym (not-replied replies asked (below client))))
    waits

pub waits-by-kind : (plain : Plain) → IsByKind plain Waits
waits-by-kind plain = record {
  time = λ now world sound after. passes-quiet world _ [] (λ client. refl) (λ client. refl) (λ client. refl);
  declined = λ client asked status world sound is before below waits. waits;
  asked = λ client asked world sound is before below waits. sent-waits world client (call_of asked) (enlisted client world.clients) before below waits;
  refused = λ client status world sound is. passes-quiet world world (Declined client status ∷ []) (λ other. refl) (λ other. refl) (λ other. refl);
  handed = λ client callbacks after world sound is hands. hand_out-passes client callbacks after world hands.kept;
  injected = λ bytes front why world sound. passes-quiet world _ (Injected _ bytes front why ∷ []) (λ other. refl) (λ other. refl) (λ other. refl);
  shows = λ world line shows. passes-quiet world world (line ∷ []) (λ client. refl) (λ client. refl) (show-quiet line shows);
  printed = passes-without;
}

pub waits-behind : (kind : Kind) (old new : World) (before told : List Told) → Waits kind old new told → AreBelow old before → KeepsWaiting old before → KeepsWaiting new (told ++ before)
waits-behind (Asks client asked) old new before told goes below waits = goes before below waits
waits-behind _ old new before told goes below waits = waits-on old new before told waits goes

module _ {P L S W : Type 0} (game : Game P L S W) (is_game : IsGame game) where
  pub played-waits : (setup : Setup) (places : ℕ) (held : Option Files) (first : Counters) {lines : List L} {state : State P} {told : List Told} {left : Files × Counters} → (Ran game) setup places held first lines state told left → KeepsWaiting state.world told
  played-waits setup places held first Started =
      subst (λ (world : World). KeepsWaiting world []) (sym (is_game.empty setup places)) (λ client. refl)
  played-waits setup places held first (Went {state = state} {told = told} {before = before} next outcome after run step) =
      let says = played-says game is_game setup places held first run in
      let below : AreBelow state.world told = λ client. All-map (λ (reply : ℕ × Reply). IsDone (state.world.agents client) reply.0) (λ (reply : ℕ × Reply). reply.0 < (state.world.agents client).next) (replies_told client told) (λ reply done. done.sent) (says.1.replies client).done in
      let walks = (is_game.done setup held before.1 next state outcome after.1 says.0 step.step).waits in
      waits-behind (kind_by (game.shared next)) state.world outcome.state.world told outcome.told walks below (played-waits setup places held first run)
