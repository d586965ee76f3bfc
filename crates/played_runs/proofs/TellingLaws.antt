-- Callbacks tell each send once and in order, throughout.
use Rattle.std.proofs.Common.{Option}
use Rattle.disk_model.specs.Disk.{Files}
use Rattle.disk_model.specs.Seen.{DiskSeen}
use Rattle.plain_service.specs.Setups.{Setup}
use Rattle.cluster_facts.specs.Messages.{messages_in, sent_by, receipts_of}
use Rattle.cluster_facts.specs.Agents.{fed_of}
use Rattle.cluster_facts.specs.World.{World}
use Rattle.cluster_events.specs.Promises.{ItemsInOrder}
use Rattle.cluster_events.specs.Taking.{items_in, taken_of}
use Rattle.service_laws.specs.PlainOf.{plain_of}
use Rattle.service_laws.proofs.TellingLaws.{first-told, fed-told}
use Rattle.played_runs.specs.Games.{Game}
use Rattle.played_runs.specs.Laws.{IsGame}
use Rattle.played_runs.specs.Promises.{Throughout}
use Rattle.played_runs.specs.Telling.{TellsEach, TellsOnce, TellsAtWant}
use Rattle.played_runs.proofs.PlayLaws.{played-keeps}
use Rattle.played_runs.proofs.PromiseLaws.{throughout}

pub each-told : (setup : Setup) (world : World) → ItemsInOrder (plain_of setup) world → TellsEach setup world
each-told setup world items client key =
    first-told setup world.core.answered (sent_by client (messages_in world.net)) client key (taken_of key (receipts_of client (messages_in world.net)) (items_in (fed_of (world.agents client)))) (items client key)

module _ {P L S W : Type 0} (game : Game P L S W) (is_game : IsGame game) where
  pub tells-once : (held : Option Files) → (Throughout game) held TellsOnce
  tells-once held = throughout game is_game held TellsOnce (λ setup places told_first first can lines state told files run range. each-told setup state.world (played-keeps game is_game setup places told_first first run).items)

  pub tells-at-want : (held : Option Files) (left : DiskSeen) (world : W) → (TellsAtWant game) held left world
  tells-at-want held left world first script done rest next text front broken client key =
      let state = front.goes.state in
      let fed = broken.fed client in
      fed-told front.setup broken.rest.core.answered (sent_by client (messages_in state.world.net)) client key fed.marks (fed_of (broken.rest.agents client)) (record {
        numbered = (front.goes.good.steady.sound.facts.clients client).sends.numbered;
        counted = fed.counted;
        items = fed.items;
      })
