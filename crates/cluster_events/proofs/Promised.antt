-- A run keeps what its lines promise.
use Rattle.std.proofs.Common.{◌≡◌, ℕ, suc, ◌+◌, ◌<◌, inl, inr, Bool, true, false, ◌==◌, if◌then◌else◌, ℤ, List, [], ◌∷◌, ◌++◌, length, refl, ap, sym, ◌∙◌, subst, arith, append-nil}
use Rattle.std.specs.List.{AllByRecursion}
use Rattle.std.proofs.lemmas.Bool.Decides.{eqb_tells}
use Rattle.script_lines.specs.declared.line.Line.{Line}
use Rattle.cluster_facts.specs.Types.{Call, ReaderRead, Reply, Status, Entry, Callback, StreamName, Mark}
use Rattle.cluster_facts.specs.Lists.{Stands, EndsIn, without}
use Rattle.cluster_facts.specs.Messages.{sent_by, receipts_of, calls_in, messages_in}
use Rattle.cluster_facts.specs.Service.{Plain, IsPlain, answers_in}
use Rattle.cluster_facts.specs.Storage.{dealt_in}
use Rattle.cluster_facts.specs.Agents.{Agent, fed_of, call_of}
use Rattle.cluster_facts.specs.History.{Hand, Empty, Waiting, Applied, Ready, IsLegal, committed, committed_by, accepted_by}
use Rattle.cluster_facts.specs.World.{World, with_agent, enlisted, empty_world}
use Rattle.cluster_facts.specs.Facts.{IsSound}
use Rattle.cluster_facts.proofs.Words.{by_test, each_client, All-at, EndsIn-same, EndsIn-tail}
use Rattle.cluster_facts.proofs.Growing.{IsLegal-before}
use Rattle.cluster_events.specs.Lines.{Told, Declined, HandedOut, Ignored, Refused, Stood, Listed, Shown, is_ignored}
use Rattle.cluster_events.specs.Outcomes.{Outcome}
use Rattle.cluster_events.specs.ClientEvents.{handed_lines, hand_out}
use Rattle.cluster_events.specs.Servers.{State, Servers}
use Rattle.cluster_events.specs.Saying.{gathered, post_in, entry_in, reply_in, deal_in, callback_in, mark_in, called_in, deals_told, callbacks_told, marks_seen, called_back, Grows, TellsReplies, of_replies, Says}
use Rattle.cluster_events.specs.Serving.{IsSteady, IsServing, IsCarried, AreStepped}
use Rattle.cluster_events.specs.Running.{Shelf, Happens}
use Rattle.cluster_events.specs.Promises.{AtEnd}
use Rattle.cluster_events.proofs.Walking.{IsShow, HandsOut, IsByKind, line-walks}
use Rattle.cluster_events.proofs.Items.{taken-begins}
use Rattle.cluster_events.proofs.Dealing.{dealt-answered, deals-answered}
use Rattle.cluster_events.proofs.Telling.{Grows-same, TellsReplies-none, Says-injected, Says-send}

-- Lines that say nothing of history, net and callbacks.

pub record IsSilent (line : Told) : Type 0 where
  pub post : post_in line ≡ []
  pub entry : entry_in line ≡ []
  pub reply : (client : ℕ) → reply_in client line ≡ []
  pub callback : (client : ℕ) → callback_in client line ≡ []
  pub called : (client : ℕ) (marks : List (StreamName × Mark)) → called_in client line marks ≡ []
  pub mark : (client : ℕ) (marks : List (StreamName × Mark)) → mark_in client line marks ≡ marks
  pub deal : (client : ℕ) → deal_in client line ≡ []

-- such a line says nothing
Says-line : (plain : Plain) (world : World) (line : Told) → IsSilent line → Says plain world world (line ∷ [])
Says-line plain world line silent = record {
  posts = subst (λ lines. Grows world.net world.net (lines ++ [])) (sym silent.post) (Grows-same world.net);
  entries = subst (λ lines. Grows (committed world.core) (committed world.core) (lines ++ [])) (sym silent.entry) (Grows-same (committed world.core));
  answers = EndsIn-same world.core.answered;
  replies = λ client. subst (λ lines. TellsReplies (world.agents client) (world.agents client) (answers_in plain client world.core.answered) (lines ++ [])) (sym (silent.reply client)) (TellsReplies-none (world.agents client) (world.agents client) (answers_in plain client world.core.answered) (λ number done. done) (λ number done. done));
  callbacks = λ client. subst (λ lines. Grows (world.agents client).handed (world.agents client).handed (lines ++ [])) (sym (silent.callback client)) (Grows-same (world.agents client).handed);
  marks = λ client. sym (silent.mark client (world.agents client).marks);
  called = λ client. ap (λ lines. (lines ++ []) ++ of_replies (fed_of (world.agents client))) (sym (silent.called client (world.agents client).marks));
  deals = λ client. subst (λ deals. AllByRecursion (λ (deal : ℕ × Call × Reply). Stands deal (dealt_in plain client world.core.answered)) (deals ++ [])) (sym (silent.deal client)) tt;
}

declined-silent : (client : ℕ) (status : Status) → IsSilent (Declined client status)
declined-silent client status = record { post = refl; entry = refl; reply = λ c. refl; callback = λ c. refl; called = λ c m. refl; mark = λ c m. refl; deal = λ c. refl }

show-silent : (line : Told) → IsShow line → IsSilent line
show-silent (Refused text standing) shows = record { post = refl; entry = refl; reply = λ c. refl; callback = λ c. refl; called = λ c m. refl; mark = λ c m. refl; deal = λ c. refl }
show-silent (Stood server role) shows = record { post = refl; entry = refl; reply = λ c. refl; callback = λ c. refl; called = λ c m. refl; mark = λ c m. refl; deal = λ c. refl }
show-silent (Listed name count) shows = record { post = refl; entry = refl; reply = λ c. refl; callback = λ c. refl; called = λ c m. refl; mark = λ c m. refl; deal = λ c. refl }
show-silent (Shown text) shows = record { post = refl; entry = refl; reply = λ c. refl; callback = λ c. refl; called = λ c m. refl; mark = λ c m. refl; deal = λ c. refl }
show-silent _ shows = elim shows [ ]

-- Lines on messages without effect may be left out.

pub gathered-without : {X : Type 0} (read : Told → List X) → ((place : ℕ) (why : Rattle.cluster_events.specs.Lines.Why) → read (Ignored place why) ≡ []) → (told : List Told) → gathered read (without is_ignored told) ≡ gathered read told
gathered-without read none [] = refl
gathered-without read none (Ignored place why ∷ told) =
    gathered-without read none told ∙ ap (λ lines. lines ++ gathered read told) (sym (none place why))
gathered-without read none (line ∷ told) = ap (λ rest. read line ++ rest) (gathered-without read none told)

marks-without : (client : ℕ) (marks : List (StreamName × Mark)) (told : List Told) → marks_seen client marks (without is_ignored told) ≡ marks_seen client marks told
marks-without client marks [] = refl
marks-without client marks (Ignored place why ∷ told) = marks-without client marks told
marks-without client marks (line ∷ told) = ap (mark_in client line) (marks-without client marks told)

called-without : (client : ℕ) (marks : List (StreamName × Mark)) (told : List Told) → called_back client marks (without is_ignored told) ≡ called_back client marks told
called-without client marks [] = refl
called-without client marks (Ignored place why ∷ told) = called-without client marks told
called-without client marks (line ∷ told) =
    ap (λ m. called_in client line m ++ called_back client marks (without is_ignored told)) (marks-without client marks told)
    ∙ ap (λ rest. called_in client line (marks_seen client marks told) ++ rest) (called-without client marks told)

pub Says-printed : (plain : Plain) (old new : World) (told : List Told) → Says plain old new told → Says plain old new (without is_ignored told)
Says-printed plain old new told says = record {
  posts = subst (λ lines. Grows old.net new.net lines) (sym (gathered-without post_in (λ place why. refl) told)) says.posts;
  entries = subst (λ lines. Grows (committed old.core) (committed new.core) lines) (sym (gathered-without entry_in (λ place why. refl) told)) says.entries;
  answers = says.answers;
  replies = λ client. subst (λ lines. TellsReplies (old.agents client) (new.agents client) (answers_in plain client new.core.answered) lines) (sym (gathered-without (reply_in client) (λ place why. refl) told)) (says.replies client);
  callbacks = λ client. subst (λ lines. Grows (old.agents client).handed (new.agents client).handed lines) (sym (gathered-without (callback_in client) (λ place why. refl) told)) (says.callbacks client);
  marks = λ client. says.marks client ∙ sym (marks-without client (old.agents client).marks told);
  called = λ client. says.called client ∙ ap (λ lines. lines ++ of_replies (fed_of (old.agents client))) (sym (called-without client (old.agents client).marks told));
  deals = λ client. subst (λ deals. AllByRecursion (λ (deal : ℕ × Call × Reply). Stands deal (dealt_in plain client new.core.answered)) deals) (sym (gathered-without (deal_in client) (λ place why. refl) told)) (says.deals client);
}

-- Callbacks are handed out.

handed_as : ℕ → List Callback → List (ℕ × Callback)
handed_as before [] = []
handed_as before (callback ∷ callbacks) = (suc (before + length callbacks), callback) ∷ handed_as before callbacks

handed_as-length : (before : ℕ) (callbacks : List Callback) → length (handed_as before callbacks) ≡ length callbacks
unfolding handed_as
handed_as-length before [] = refl
handed_as-length before (callback ∷ callbacks) = ap suc (handed_as-length before callbacks)

handed_as-grows : (handed callbacks : List Callback) → Grows handed (callbacks ++ handed) (handed_as (length handed) callbacks)
unfolding handed_as
handed_as-grows handed [] = Grows-same handed
handed_as-grows handed (callback ∷ callbacks) =
    let deeper = handed_as-grows handed callbacks in
    let longer = handed_as-length (length handed) callbacks in
    record { numbered = (omega arith, deeper.numbered); grown = ap (λ rest. callback ∷ rest) deeper.grown }

handed_lines-own : (client before : ℕ) (callbacks : List Callback) → callbacks_told client (handed_lines client before callbacks) ≡ handed_as before callbacks
unfolding handed_as
handed_lines-own client before [] = refl
handed_lines-own client before (callback ∷ callbacks) =
    let number = suc (before + length callbacks) in
    let P : Bool → Type 0 = λ b. (if b then (number, callback) ∷ [] else []) ++ callbacks_told client (handed_lines client before callbacks) ≡ (number, callback) ∷ handed_as before callbacks in
    by_test P client client (λ same. ap (λ rest. (number, callback) ∷ rest) (handed_lines-own client before callbacks)) (λ different. absurd (different refl))

handed_lines-other : (client other before : ℕ) (callbacks : List Callback) → ((client ≡ other) → ⊥) → callbacks_told other (handed_lines client before callbacks) ≡ []
handed_lines-other client other before [] different = refl
handed_lines-other client other before (callback ∷ callbacks) different =
    let number = suc (before + length callbacks) in
    let P : Bool → Type 0 = λ b. (if b then (number, callback) ∷ [] else []) ++ callbacks_told other (handed_lines client before callbacks) ≡ [] in
    by_test P client other (λ same. absurd (different same)) (λ unequal. handed_lines-other client other before callbacks different)

pub gathered-handed : {X : Type 0} (read : Told → List X) (client before : ℕ) (callbacks : List Callback) → ((number : ℕ) (callback : Callback) → read (HandedOut client number callback) ≡ []) → gathered read (handed_lines client before callbacks) ≡ []
gathered-handed read client before [] none = refl
gathered-handed read client before (callback ∷ callbacks) none =
    ap (λ lines. lines ++ gathered read (handed_lines client before callbacks)) (none (suc (before + length callbacks)) callback) ∙ gathered-handed read client before callbacks none

marks-handed : (other client before : ℕ) (marks : List (StreamName × Mark)) (callbacks : List Callback) → marks_seen other marks (handed_lines client before callbacks) ≡ marks
marks-handed other client before marks [] = refl
marks-handed other client before marks (callback ∷ callbacks) = marks-handed other client before marks callbacks

called-handed : (other client before : ℕ) (marks : List (StreamName × Mark)) (callbacks : List Callback) → called_back other marks (handed_lines client before callbacks) ≡ []
called-handed other client before marks [] = refl
called-handed other client before marks (callback ∷ callbacks) = called-handed other client before marks callbacks

hand_out-says : (plain : Plain) (client : ℕ) (callbacks : List Callback) (after : Agent) (world : World) → HandsOut callbacks (world.agents client) after → Says plain world (hand_out client callbacks after world).state (hand_out client callbacks after world).told
hand_out-says plain client callbacks after world hands =
    let agent = world.agents client in
    let before = length agent.handed in
    let lines = handed_lines client before callbacks in
    record {
      posts = subst (λ told. Grows world.net world.net told) (sym (gathered-handed post_in client before callbacks (λ number callback. refl))) (Grows-same world.net);
      entries = subst (λ told. Grows (committed world.core) (committed world.core) told) (sym (gathered-handed entry_in client before callbacks (λ number callback. refl))) (Grows-same (committed world.core));
      answers = EndsIn-same world.core.answered;
      replies = λ other. subst (λ told. TellsReplies (world.agents other) (with_agent client after world.agents other) (answers_in plain other world.core.answered) told) (sym (gathered-handed (reply_in other) client before callbacks (λ number callback. refl)))
          (each_client (λ c b. TellsReplies (world.agents c) (if b then after else world.agents c) (answers_in plain c world.core.answered) []) client
          (TellsReplies-none agent after (answers_in plain client world.core.answered) (λ number done. record { sent = subst (λ n. number < n) (sym hands.next) done.sent; taken = ap (λ calls. Rattle.cluster_facts.specs.Agents.kept_call number calls) hands.kept ∙ done.taken }) (λ number done. record { sent = subst (λ n. number < n) hands.next done.sent; taken = sym (ap (λ calls. Rattle.cluster_facts.specs.Agents.kept_call number calls) hands.kept) ∙ done.taken }))
          (λ c. TellsReplies-none (world.agents c) (world.agents c) (answers_in plain c world.core.answered) (λ number done. done) (λ number done. done)) other);
      callbacks = λ other. elim (eqb_tells client other) [
        | inl same ↦
            let A : Bool → Type 0 = λ b. Grows (world.agents other).handed (if b then after else world.agents other).handed (callbacks_told other lines) in
            let O : ℕ → Type 0 = λ c. Grows (world.agents c).handed after.handed (callbacks_told c lines) in
            let own : O client = subst (λ told. Grows agent.handed after.handed told) (sym (handed_lines-own client before callbacks)) (subst (λ new. Grows agent.handed new (handed_as before callbacks)) (sym hands.handed) (handed_as-grows agent.handed callbacks)) in
            subst A (sym same.0) (subst O same.1 own)
        | inr different ↦
            let A : Bool → Type 0 = λ b. Grows (world.agents other).handed (if b then after else world.agents other).handed (callbacks_told other lines) in
            subst A (sym different.0) (subst (λ told. Grows (world.agents other).handed (world.agents other).handed told) (sym (handed_lines-other client other before callbacks different.1)) (Grows-same (world.agents other).handed))
      ];
      deals = λ other. subst (λ deals. AllByRecursion (λ (deal : ℕ × Call × Reply). Stands deal (dealt_in plain other world.core.answered)) deals) (sym (gathered-handed (deal_in other) client before callbacks (λ number callback. refl))) tt;
      marks = λ other. each_client (λ c b. (if b then after else world.agents c).marks ≡ (world.agents c).marks) client hands.marks (λ c. refl) other
          ∙ sym (marks-handed other client before (world.agents other).marks callbacks);
      called = λ other. each_client (λ c b. of_replies (fed_of (if b then after else world.agents c)) ≡ of_replies (fed_of (world.agents c))) client (ap of_replies hands.fed) (λ c. refl) other
          ∙ ap (λ told. told ++ of_replies (fed_of (world.agents other))) (sym (called-handed other client before (world.agents other).marks callbacks));
    }

Says-later : (plain : Plain) (now : ℤ) (world : World) → Says plain world (record world { now = now }) []
Says-later plain now world = record {
  posts = Grows-same world.net;
  entries = Grows-same (committed world.core);
  answers = EndsIn-same world.core.answered;
  replies = λ client. TellsReplies-none (world.agents client) (world.agents client) (answers_in plain client world.core.answered) (λ number done. done) (λ number done. done);
  callbacks = λ client. Grows-same (world.agents client).handed;
  marks = λ client. refl;
  called = λ client. refl;
  deals = λ client. tt;
}

-- What lines that say what lies between the start and a sound world promise.

-- the committed history is the accepted one, or that without its last entry
pub committed-legal : (plain : Plain) (now : ℤ) (past : List Entry) (hand : Hand) → IsLegal plain now (accepted_by past hand) → IsLegal plain now (committed_by past hand)
committed-legal plain now past Empty legal = legal
committed-legal plain now past (Waiting entry) legal = IsLegal-before plain now entry past legal
committed-legal plain now past (Applied entry) legal = legal
committed-legal plain now past (Ready entry) legal = legal

calls-before : (client : ℕ) (sent : List (ℕ × Call)) (entry : Entry) (past : List Entry) → EndsIn sent (calls_in client (entry ∷ past)) → EndsIn sent (calls_in client past)
calls-before client sent (Rattle.cluster_facts.specs.Types.Called caller number time call) past first =
    let C : Bool → List (ℕ × Call) = λ b. if b then (number, call) ∷ calls_in client past else calls_in client past in
    let cases : (b : Bool) → EndsIn sent (C b) → EndsIn sent (calls_in client past) = elim [ true ↦ λ e. EndsIn-tail (number, call) sent (calls_in client past) e | false ↦ λ e. e ] in
    cases (caller == client) first
calls-before client sent (Rattle.cluster_facts.specs.Types.Receipted caller key through time) past first = first

pub committed-order : (client : ℕ) (sent : List (ℕ × Call)) (past : List Entry) (hand : Hand) → EndsIn sent (calls_in client (accepted_by past hand)) → EndsIn sent (calls_in client (committed_by past hand))
committed-order client sent past Empty first = first
committed-order client sent past (Waiting entry) first = calls-before client sent entry past first
committed-order client sent past (Applied entry) first = first
committed-order client sent past (Ready entry) first = first

pub at-end : (plain : Plain) (world : World) (told : List Told) (now : ℤ) (places : ℕ) → IsSound plain world → Says plain (empty_world now places) world told → AtEnd plain world told
at-end plain world told now places sound says = record {
  history = record {
    legal = committed-legal plain world.now world.core.answered world.core.hand sound.facts.legal;
    printed = says.entries;
  };
  order = λ client. committed-order client (sent_by client (messages_in world.net)) world.core.answered world.core.hand (sound.facts.clients client).sends.first;
  posts = says.posts;
  replies = record {
    once = λ client. (says.replies client).once;
    right = λ client. deals-answered plain client world.core.answered (deals_told client told) (says.deals client);
  };
  readers = λ client number direction reply stands. dealt-answered plain client world.core.answered (number, ReaderRead direction, reply) (All-at (λ (deal : ℕ × Call × Reply). Stands deal (dealt_in plain client world.core.answered)) (number, ReaderRead direction, reply) (deals_told client told) (says.deals client) stands);
  callbacks = says.callbacks;
  items = λ client key. taken-begins plain world.core.answered (sent_by client (messages_in world.net)) client key (receipts_of client (messages_in world.net)) (fed_of (world.agents client)) (sound.facts.clients client).sends.numbered (sound.facts.clients client).follows.counted (sound.facts.told client);
  called = λ client. says.called client ∙ append-nil (called_back client [] told);
}

-- Each line of a script.

says-by-kind : (plain : Plain) → IsByKind plain (λ kind. Says plain)
says-by-kind plain = record {
  time = λ now world sound after. Says-later plain now world;
  declined = λ client asked status world sound is. Says-line plain world (Declined client status) (declined-silent client status);
  asked = λ client asked world sound is. Says-send plain world client (call_of asked) (enlisted client world.clients);
  refused = λ client status world sound is. Says-line plain world (Declined client status) (declined-silent client status);
  handed = λ client callbacks after world sound is hands. hand_out-says plain client callbacks after world hands;
  injected = λ bytes front why world sound. Says-injected plain world bytes front why;
  shows = λ world line shows. Says-line plain world line (show-silent line shows);
  printed = Says-printed plain;
}

module _ {P : Type 0} (plain : Plain) (is_plain : IsPlain plain) (shelf : Shelf) (servers : Servers P) (Good : State P → Type 0) (serving : IsServing plain servers Good) (saying : IsCarried plain servers Good (Says plain)) (stepped : AreStepped plain servers Good (Says plain)) where
  -- every line keeps the facts, and says what it must
  pub happens-kept : (next : Line) (state : State P) (outcome : Outcome (State P)) → IsSteady plain Good state → Happens plain shelf servers next state outcome → IsSteady plain Good outcome.state × Says plain state.world outcome.state.world outcome.told
  happens-kept next state outcome steady happens =
      line-walks plain is_plain shelf servers Good serving (λ kind. Says plain) saying stepped (says-by-kind plain) next state outcome steady happens
