use Rattle.std.proofs.Common.{◌≡◌, ℕ, ◌==◌, true, false, Option, List, ◌++◌, length, option_map, ap, subst, sym, ◌∙◌}
use Rattle.cluster_facts.specs.Types.{Call, Callback, Mark, StreamName}
use Rattle.cluster_facts.specs.Agents.{Living, kept_call, told_mark, changed_mask, asked_back, status_of}
use Rattle.client_agent.specs.declared.answers.MissedWhy.TheVariants.{Left}
use Rattle.client_agent.specs.declared.answers.Taken.TheVariants.{Answered, Missed}
use Rattle.client_agent.specs.Seen.{Seen}
use Rattle.client_agent.specs.Steps.{IsReply}
use Rattle.client_agent.specs.Waiting.{Waiting}
use Rattle.client_agent.specs.Inside.{all_living, later_of, kept_of, with_seen, seen_inside, agent_of, calls_kept, AreBelow, AreFalling}
use Rattle.client_agent.proofs.Falling.{falling-without}
use Rattle.client_agent.proofs.Subscribed.{AreBelow-reply}
use Rattle.client_agent.proofs.Marking.{lacks-later, lacks-anyway, with_reply, reply_unknown, reply_left, reply_taken}
use Rattle.client_agent.proofs.library.Library.take_reply.Goals as goal

pub find_call-requires : goal.find_call-requires
find_call-requires g c = (c.self.inside.next, c.self.invariant.1)

pub returns-in-None-clause-ok : goal.returns-in-None-clause-ok
returns-in-None-clause-ok g c =
    let none = ap (λ (s : Seen). kept_call c.args.number s.kept) (sym c.self.view_is) ∙ sym c.in-None.ensures in
    reply_unknown c.args.self.now c.args.number c.args.reply.now none

pub returns-then-bars-clause-ok : goal.returns-then-bars-clause-ok
returns-then-bars-clause-ok g c =
    let inside = c.self.inside in
    let number = c.args.number in
    let call = c.in-Some.call.now in
    let reply = c.args.reply.now in
    let lacks = lacks-anyway inside.callbacks.places inside.callbacks.queue (changed_mask (told_mark call reply) inside.marks.told) (asked_back call) (status_of reply) c.if-bars.ensures in
    let P : Seen → Type 0 = λ s. (handed : List Callback) → s.given ≡ length handed → IsReply s.client s.places number reply (agent_of s handed) (kept_call number s.kept) (Missed Left) s in
    subst P c.self.view_is (reply_left (seen_inside inside) number reply call c.in-Some.ensures lacks)

pub returns-then-lacks_place-clause-ok : goal.returns-then-lacks_place-clause-ok
returns-then-lacks_place-clause-ok g c =
    let inside = c.self.inside in
    let number = c.args.number in
    let reply = c.args.reply.now in
    let lacks = lacks-later inside.callbacks.places inside.callbacks.queue c.in-Some.call.now reply inside.marks.told (option_map later_of c.in_ok-later-in-Some.later) c.gives_callback.result true c.in_ok-later-in-Some.ensures c.gives_callback.ensures c.if-lacks_place.ensures in
    let P : Seen → Type 0 = λ s. (handed : List Callback) → s.given ≡ length handed → IsReply s.client s.places number reply (agent_of s handed) (kept_call number s.kept) (Missed Left) s in
    subst P c.self.view_is (reply_left (seen_inside inside) number reply c.in-Some.call.now c.in-Some.ensures lacks)

pub invariant_of-self-in-Some : goal.invariant_of-self-in-Some
invariant_of-self-in-Some g c =
    let inside = c.self.inside in
    let Below : List Living → Type 0 = AreBelow inside.next in (
      subst Below (sym c.note_reply.ensures) (AreBelow-reply c.args.number c.args.reply.now inside.next (all_living inside.living.items) c.self.invariant.0),
      subst (AreFalling inside.next) (sym c.forget_call.ensures) (falling-without (λ (sent : ℕ × Call). sent.0 == c.args.number) inside.next (calls_kept inside.kept.items) c.self.invariant.1),
    )

pub returns-in_ok-copy-in-Some-clause-ok : goal.returns-in_ok-copy-in-Some-clause-ok
returns-in_ok-copy-in-Some-clause-ok g c =
    let inside = c.self.inside in
    let before = inside.callbacks in
    let number = c.args.number in
    let call = c.in-Some.call.now in
    let reply = c.args.reply.now in
    let told = inside.marks.told in
    let later = option_map later_of c.in_ok-later-in-Some.later in
    let lacks = lacks-later before.places before.queue call reply told later c.gives_callback.result false c.in_ok-later-in-Some.ensures c.gives_callback.ensures c.if-lacks_place.ensures in
    let put : List Callback → Waiting = λ callbacks. record before { queue = callbacks ++ before.queue } in
    let callbacks = c.in_ok-copy-in-Some.ensures.ok ∙ ap put c.in_ok-callback-in-Some.ensures in
    let marks : c.put.new.self.told ≡ with_seen (kept_of later) told = c.put.ensures ∙ ap (λ (seen : Option (StreamName × Mark)). with_seen seen c.prepare.new.self.told) c.in_ok-ready-in-Some.ensures.mark ∙ ap (with_seen (kept_of later)) c.prepare.ensures.told in
    let after : seen_inside (record inside { kept = c.forget_call.new.kept; living = c.note_reply.new.living; callbacks = c.put_with_copy.new.self; marks = c.put.new.self }) ≡ with_reply number call reply later (seen_inside inside) = λ i. record {
      client = inside.client;
      places = (callbacks i).places;
      next = inside.next;
      log_handle = inside.log_handle;
      ntf_handle = inside.ntf_handle;
      kept = c.forget_call.ensures i;
      living = c.note_reply.ensures i;
      queue = (callbacks i).queue;
      given = (callbacks i).given;
      marks = marks i;
    } in
    let P : Seen → Type 0 = λ s. (handed : List Callback) → s.given ≡ length handed → IsReply s.client s.places number reply (agent_of s handed) (kept_call number s.kept) (Answered number c.in_ok-copy-in-Some.copy) (seen_inside (record inside { kept = c.forget_call.new.kept; living = c.note_reply.new.living; callbacks = c.put_with_copy.new.self; marks = c.put.new.self })) in
    subst P c.self.view_is (reply_taken (seen_inside inside) number reply call later c.in_ok-copy-in-Some.copy _ c.in-Some.ensures c.in_ok-later-in-Some.ensures lacks c.in_ok-copy-in-Some.ensures.copy after)
