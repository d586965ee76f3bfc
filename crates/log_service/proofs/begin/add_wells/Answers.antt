use Rattle.std.proofs.Common.{◌++◌, map, ap, ◌∙◌, rules}
use Rattle.log_service.specs.Moments.{second_of}
use Rattle.log_service.specs.State.{made_event}
use Rattle.log_service.proofs.BeginLemmas.{wells-are, three-behind}
use Rattle.log_service.proofs.begin.add_wells.Goals as goal

pub returns-clause-streams : goal.returns-clause-streams
returns-clause-streams c =
    three-behind c.args.streams.now.items c.add_well.new.streams.items c.add_well-2.new.streams.items c.add_well-3.new.streams.items _ _ _ c.in_ok-add_well.ensures.streams c.in_ok-add_well-2.ensures.streams c.in_ok-add_well-3.ensures.streams
    ∙ ap (λ made. c.args.streams.now.items ++ made) (wells-are (second_of c.args.start) c.args.wells.now _ _ _ _ _ _ c.requires.wells c.index-wells-0.is c.index-wells-1.is c.index-wells-2.is (search rules) (search rules) (search rules))

pub returns-clause-events : goal.returns-clause-events
returns-clause-events c =
    three-behind c.args.events.now c.add_well.new.events c.add_well-2.new.events c.add_well-3.new.events _ _ _ c.in_ok-add_well.ensures.events c.in_ok-add_well-2.ensures.events c.in_ok-add_well-3.ensures.events
    ∙ ap (λ made. c.args.events.now ++ map made_event made) (wells-are (second_of c.args.start) c.args.wells.now _ _ _ _ _ _ c.requires.wells c.index-wells-0.is c.index-wells-1.is c.index-wells-2.is (search rules) (search rules) (search rules))
