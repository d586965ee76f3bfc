use Rattle.std.proofs.Common.{ℤ, List, w64, inr, refl, ap, sym, ◌∙◌, subst, append-nil}
use Rattle.std.proofs.lemmas.Int.{to_z-of_z}
use Rattle.std.proofs.lemmas.Result.{IfOk-weaker, on_err_weaker}
use Rattle.calls.specs.History.{Pushed}
use Rattle.cluster_facts.specs.Types.{Entry}
use Rattle.mirror.specs.Hearing.{repeated}
use Rattle.mirror.specs.Pairing.{IsHeard}
use Rattle.lead_server.specs.Told.{IsTold}
use Rattle.lead_server.proofs.HearSteps.{both-err, ok-with}
use Rattle.lead_server.proofs.hearing.hear.Goals as goal

pub is_answered-requires-clause-range : goal.is_answered-requires-clause-range
is_answered-requires-clause-range c = λ answer again.
    (c.requires.range (repeated answer) c.args.active.now (again c.args.now)).0

pub returns-then-answered-clause-ok : goal.returns-then-answered-clause-ok
returns-then-answered-clause-ok c =
    let a = c.args in
    let said = c.in_ok-answered.ensures.posted c.if-answered.true in
    record {
      room = c.has_room.ensures.0 c.if-not-has_room.false;
      heard = repeated said.0;
      hears = said.1 a.now;
      told = record {
        between = a.lines.now.items;
        posts = said.2 a.lines.now.items;
        commits = (refl, sym (append-nil a.lines.now.items));
      };
      beside = c.new.ensures;
    }

pub tell_heard-requires-clause-range : goal.tell_heard-requires-clause-range
tell_heard-requires-clause-range c =
    let a = c.args in
    let heard = c.in_ok-heard.heard in
    let H : ℤ → Type 0 = λ now. IsHeard a.message.now now a.active.now heard c.hear.new.self in
    c.requires.range heard c.hear.new.self (subst H (to_z-of_z w64 a.now c.ranges.now) c.in_ok-heard.ensures.ok)

pub returns-clause-ok : goal.returns-clause-ok
returns-clause-ok c =
    let a = c.args in
    let heard = c.in_ok-heard.heard in
    let H : ℤ → Type 0 = λ now. IsHeard a.message.now now a.active.now heard c.hear.new.self in
    let T : List Entry → Type 0 = λ entries. IsTold a.place heard a.net.now c.tell_heard.new.net entries c.tell_heard.new.history.entries a.lines.now.items c.tell_heard.new.lines.items in
    IfOk-weaker c.tell_heard.result _ _
    (λ mirrored both. record {
      room = c.has_room.ensures.0 c.if-not-has_room.false;
      heard = heard;
      hears = subst H (to_z-of_z w64 a.now c.ranges.now) c.in_ok-heard.ensures.ok;
      told = subst T c.in_ok-reserve.ensures.entries both.1;
      beside = both.0;
    })
    (ok-with c.tell_heard.result _ _ c.tell_heard.ensures.mirrored c.tell_heard.ensures.ok)

pub returns-clause-err : goal.returns-clause-err
returns-clause-err c =
    let a = c.args in
    let heard = c.in_ok-heard.heard in
    let H : ℤ → Type 0 = λ now. IsHeard a.message.now now a.active.now heard c.hear.new.self in
    on_err_weaker c.tell_heard.result
    (λ both. record {
      history = ap (λ (h : Pushed). h.entries) both.1 ∙ c.in_ok-reserve.ensures.entries;
      part = inr (heard, subst H (to_z-of_z w64 a.now c.ranges.now) c.in_ok-heard.ensures.ok, both.0, c.has_room.ensures.0 c.if-not-has_room.false);
    })
    (both-err c.tell_heard.result _ _ c.tell_heard.ensures.net c.tell_heard.ensures.history)
