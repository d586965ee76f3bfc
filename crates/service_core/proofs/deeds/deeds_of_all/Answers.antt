use Rattle.std.proofs.Common.{◌≡◌, ◌+◌, List, [], ◌∷◌, ◌++◌, take, ap, sym, ◌∙◌, arith}
use Rattle.std.proofs.lemmas.List.{take_more, take_all}
use Rattle.stream_config.specs.declared.event.StreamEvent.{StreamEvent}
use Rattle.stream_layout.specs.declared.deed.Deed.{Deed}
use Rattle.log_history.specs.Deeds.{deeds_of_all}
use Rattle.service_core.proofs.ActLaws.{deeds-more}
use Rattle.stream_layout.specs.Carrying.{IsFitEvent}
use Rattle.service_core.proofs.deeds.deeds_of_all.Goals as goal
use Rattle.ais_values.proofs.Basics.{AllByRecursion-at}

pub deeds-requires : goal.deeds-requires
deeds-requires c = AllByRecursion-at IsFitEvent c.args.events.now c.loop-event.event-index c.event-item.result c.loop-event-test.true c.event-item.is c.requires

pub loop-event-preserved : goal.loop-event-preserved
loop-event-preserved c =
    let events = c.args.events.now in
    let n = c.loop-event.event-index in
    let more : take (n + 1) events ≡ take n events ++ c.event-item.result ∷ [] = take_more events n c.event-item.result c.loop-event-test.true ∙ ap (λ (e : StreamEvent). take n events ++ e ∷ []) (sym c.event-item.is) in
    c.in_ok-put_behind.ensures ∙ ap (λ front. front ++ c.in_ok-more.more) c.loop-event.invariant ∙ ap (λ (d : List Deed). deeds_of_all (take n events) ++ d) c.in_ok-more.ensures.list ∙ sym (deeds-more (take n events) c.event-item.result) ∙ ap deeds_of_all (sym more)

pub returns-clause-ok : goal.returns-clause-ok
returns-clause-ok c =
    c.from_vec.ensures ∙ c.loop-event.invariant ∙ ap deeds_of_all (take_all c.loop-event.event-index c.args.events.now (omega (arith, c.loop-event-test.false)))
