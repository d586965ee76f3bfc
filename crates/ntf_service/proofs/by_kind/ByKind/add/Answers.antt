use Rattle.ntf_service.specs.declared.by_kind.Kind.TheVariants.{Objects, Attributes, States, Alarms, Security}
use Rattle.ntf_service.proofs.by_kind.ByKind.add.Goals as goal

pub add_place-requires-clause-behind : goal.add_place-requires-clause-behind
add_place-requires-clause-behind c = c.requires.behind Objects

pub add_place-requires-2-clause-behind : goal.add_place-requires-2-clause-behind
add_place-requires-2-clause-behind c = c.requires.behind Attributes

pub add_place-requires-3-clause-behind : goal.add_place-requires-3-clause-behind
add_place-requires-3-clause-behind c = c.requires.behind States

pub add_place-requires-4-clause-behind : goal.add_place-requires-4-clause-behind
add_place-requires-4-clause-behind c = c.requires.behind Alarms

pub add_place-requires-5-clause-behind : goal.add_place-requires-5-clause-behind
add_place-requires-5-clause-behind c = c.requires.behind Security
