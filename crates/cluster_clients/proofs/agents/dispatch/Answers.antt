use Rattle.std.proofs.Common.{◌≡◌, ◌++◌, ◌∷◌, [], length, refl, ap, sym, ◌∙◌, subst}
use Rattle.std.proofs.lemmas.Result.{on_ok_weaker}
use Rattle.client_agent.specs.declared.answers.Dispatched.{Dispatched}
use Rattle.event_text.specs.Texts.{dispatched_line}
use Rattle.cluster_clients.specs.Clients.{StandsAt, IsAbsent, IsDispatchedAt}
use Rattle.cluster_clients.proofs.DispatchSteps.{on-err, may-same, may-refused, may-given, lines_for, dispatch-absent, dispatch-refused, dispatch-given}
use Rattle.cluster_clients.proofs.agents.dispatch.Goals as goal

pub returns-in-None-clause-ok : goal.returns-in-None-clause-ok
returns-in-None-clause-ok g c =
    let none : IsAbsent c.args.client c.args.agents.now = subst (IsAbsent c.args.client) c.as_slice.ensures (λ rising. sym (c.in-None.ensures.place rising)) in
    on_ok_weaker c.put_declined.result (λ added. dispatch-absent c.args.how c.args.client c.args.agents.now c.args.agents.now c.args.lines.now.items c.put_declined.new.lines.items none refl added) c.put_declined.ensures.ok

pub returns-in-Refused-clause-ok : goal.returns-in-Refused-clause-ok
returns-in-Refused-clause-ok g c =
    let old = c.args.agents.now in
    let new = c.dispatch_at.new.agents in
    let found : StandsAt c.args.client c.in-Some.place old = subst (StandsAt c.args.client c.in-Some.place) c.as_slice.ensures c.in-Some.ensures.own in
    let at = subst (λ (d : Dispatched). IsDispatchedAt c.args.how c.in-Some.place old d new) c.in-Refused.is c.in_ok-status-in-Some.ensures.ok in
    on_ok_weaker c.put_declined-in-Refused.result (λ added. dispatch-refused c.args.how c.args.client c.in-Some.place old new c.args.lines.now.items c.put_declined-in-Refused.new.lines.items c.in-Refused.status found at added) c.put_declined-in-Refused.ensures.ok

pub returns-in_ok-put_callbacks-in-Given-clause-ok : goal.returns-in_ok-put_callbacks-in-Given-clause-ok
returns-in_ok-put_callbacks-in-Given-clause-ok g c =
    let old = c.args.agents.now in
    let new = c.dispatch_at.new.agents in
    let before = c.args.lines.now.items in
    let between = c.put_callbacks.new.lines.items in
    let after = c.put_dispatched.new.lines.items in
    let taken = c.in-Given.taken in
    let found : StandsAt c.args.client c.in-Some.place old = subst (StandsAt c.args.client c.in-Some.place) c.as_slice.ensures c.in-Some.ensures.own in
    let at = subst (λ (d : Dispatched). IsDispatchedAt c.args.how c.in-Some.place old d new) c.in-Given.is c.in_ok-status-in-Some.ensures.ok in
    let first : between ≡ before ++ lines_for c.args.client taken = c.in_ok-put_callbacks-in-Given.ensures ∙ ap (λ t. before ++ lines_for c.args.client t) c.as_slice-in-Given.ensures in
    on_ok_weaker c.put_dispatched.result (λ added. dispatch-given c.args.how c.args.client c.in-Some.place old new before between after taken found at first (added ∙ ap (λ t. between ++ dispatched_line c.args.client (length t) ∷ []) c.as_slice-in-Given-2.ensures)) c.put_dispatched.ensures.ok

pub returns-in-None-clause-err : goal.returns-in-None-clause-err
returns-in-None-clause-err g c =
    on-err c.put_declined.result (may-same c.args.how c.args.client c.args.agents.now c.args.agents.now refl)

pub returns-in-Refused-clause-err : goal.returns-in-Refused-clause-err
returns-in-Refused-clause-err g c =
    let old = c.args.agents.now in
    let new = c.dispatch_at.new.agents in
    let found : StandsAt c.args.client c.in-Some.place old = subst (StandsAt c.args.client c.in-Some.place) c.as_slice.ensures c.in-Some.ensures.own in
    let at = subst (λ (d : Dispatched). IsDispatchedAt c.args.how c.in-Some.place old d new) c.in-Refused.is c.in_ok-status-in-Some.ensures.ok in
    on-err c.put_declined-in-Refused.result (may-refused c.args.how c.args.client c.in-Some.place old new c.in-Refused.status found at)

pub returns-in_ok-put_callbacks-in-Given-clause-err : goal.returns-in_ok-put_callbacks-in-Given-clause-err
returns-in_ok-put_callbacks-in-Given-clause-err g c =
    let old = c.args.agents.now in
    let new = c.dispatch_at.new.agents in
    let found : StandsAt c.args.client c.in-Some.place old = subst (StandsAt c.args.client c.in-Some.place) c.as_slice.ensures c.in-Some.ensures.own in
    let at = subst (λ (d : Dispatched). IsDispatchedAt c.args.how c.in-Some.place old d new) c.in-Given.is c.in_ok-status-in-Some.ensures.ok in
    on-err c.put_dispatched.result (may-given c.args.how c.args.client c.in-Some.place old new c.in-Given.taken found at)

pub returns-in_err-put_callbacks-in-Given-clause-err : goal.returns-in_err-put_callbacks-in-Given-clause-err
returns-in_err-put_callbacks-in-Given-clause-err g c =
    let old = c.args.agents.now in
    let new = c.dispatch_at.new.agents in
    let found : StandsAt c.args.client c.in-Some.place old = subst (StandsAt c.args.client c.in-Some.place) c.as_slice.ensures c.in-Some.ensures.own in
    let at = subst (λ (d : Dispatched). IsDispatchedAt c.args.how c.in-Some.place old d new) c.in-Given.is c.in_ok-status-in-Some.ensures.ok in
    on-err c.from_residual-in_err-put_callbacks-in-Given.result (may-given c.args.how c.args.client c.in-Some.place old new c.in-Given.taken found at)
