use Rattle.std.proofs.Common.{◌≡◌, Bool, ◌||◌, nat_lt, if◌then◌else◌, List, ℕ, [], ◌++◌, length, ap, sym, ◌∙◌, subst, inl, inr, ⊎_elim}
use Rattle.cluster_rounds.proofs.rounds.hear_so.Goals as goal
use Rattle.cluster_rounds.specs.Rounds.{Plays, heard_so}
use Rattle.cluster_rounds.specs.Worlds.{DoesIf, StandsIn, heard_by}
use Rattle.cluster_rounds.proofs.ChainSteps.{standing-range}
use Rattle.cluster_rounds.proofs.RoundSteps.{hear-plays, state-of}
use Rattle.cluster_rounds.proofs.TurnSteps.{hear-untold}
use Rattle.cluster_rounds.proofs.WildSteps.{posted-range}

pub hear-requires-clause-state : goal.hear-requires-clause-state
hear-requires-clause-state g c =
    ⊎_elim (λ has. inl ((state-of g.S.Serving.kit g.met.S.Serving.laws) (StandsIn c.args.message.now) c.args.world.now has)) (λ wild. inr (wild.0, record { seen = wild.1.seen; wild = wild.1.wild; so = tt })) c.requires

pub hear-requires-clause-range : goal.hear-requires-clause-range
hear-requires-clause-range g c =
    ⊎_elim
    (λ has. (standing-range g.S.Serving.kit g.met.S.Serving.laws) has.setup has.state c.args.world.now c.args.message.now has.good has.shows has.so)
    (λ wild. posted-range wild.1.seen c.args.world.now c.args.message.now wild.1.wild.clients wild.1.wild.shows wild.1.so)
    c.requires

pub returns-in-Ok-keep_lines-clause-ok : goal.returns-in-Ok-keep_lines-clause-ok
returns-in-Ok-keep_lines-clause-ok g c =
    let message = c.args.message.now in
    let old = c.args.world.now in
    let new = c.hear.new.world in
    let before = c.args.lines.now.items in
    let part = c.hear.new.lines.items in
    let after = c.keep_lines.new.lines.items in
    let does : (DoesIf g.S.Serving.kit) (StandsIn message) ((heard_by g.S.Serving.kit) 0 message) old new [] part = subst (λ (l : List (List ℕ)). (DoesIf g.S.Serving.kit) (StandsIn message) ((heard_by g.S.Serving.kit) 0 message) old new l part) c.new-told.ensures.items c.in-Ok.ensures.ok in
    let a : nat_lt c.len-entries.result c.len.result ≡ nat_lt (length old.history.entries) (length new.history.entries) = λ i. nat_lt (c.len-entries.ensures i) (c.len.ensures i) in
    let b : nat_lt c.len-messages.result c.len-2.result ≡ nat_lt (length old.net) (length new.net) = λ i. nat_lt (c.len-messages.ensures i) (c.len-2.ensures i) in
    let keep = c.either.ensures in
    let added : after ≡ (if nat_lt (length old.history.entries) (length new.history.entries) || nat_lt (length old.net) (length new.net) then before ++ part else before) =
    c.in-Ok-keep_lines.ensures ∙ ap (λ (x : Bool). if x then before ++ part else before) (keep ∙ (λ i. a i || b i))
    in
    subst (λ (x : Bool). (Plays g.S.Serving.kit) (StandsIn message) ((heard_so g.S.Serving.kit) message) old new before after x) (sym a) ((hear-plays g.S.Serving.kit g.met.S.Serving.laws) message old new before part after does added)

pub returns-in-Err-keep_lines-clause-err : goal.returns-in-Err-keep_lines-clause-err
returns-in-Err-keep_lines-clause-err g c =
    let message = c.args.message.now in
    let old = c.args.world.now in
    let new = c.hear.new.world in
    let part = c.hear.new.lines.items in
    (hear-untold g.S.Serving.kit g.met.S.Serving.laws) message old new part (subst (λ (l : List (List ℕ)). (DoesIf g.S.Serving.kit) (StandsIn message) ((heard_by g.S.Serving.kit) 0 message) old new l part) c.new-told.ensures.items c.in-Ok.ensures.ok)
