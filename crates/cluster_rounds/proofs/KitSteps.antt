-- What is asked of servers, at a setup and its device.
use Rattle.std.proofs.Common.{◌≡◌, ℕ, Option, Some, None, List, refl}
use Rattle.plain_service.specs.Setups.{Setup}
use Rattle.service_laws.specs.PlainOf.{plain_of}
use Rattle.service_laws.proofs.ServiceLaws.{is_plain}
use Rattle.script_lines.specs.declared.line.Line.{Line}
use Rattle.cluster_facts.specs.Service.{Plain}
use Rattle.cluster_facts.specs.World.{World}
use Rattle.cluster_events.specs.Lines.{Told}
use Rattle.cluster_events.specs.Outcomes.{Outcome}
use Rattle.cluster_events.specs.Servers.{State, Servers, or_else, advance}
use Rattle.cluster_events.specs.Running.{Shelf, Happens}
use Rattle.cluster_events.specs.Saying.{Says}
use Rattle.cluster_events.specs.Serving.{IsSteady, IsServing, IsCarried, AreStepped}
use Rattle.cluster_events.proofs.Telling.{Says-both}
use Rattle.cluster_events.specs.Serving.{IsStepped}
use Rattle.cluster_events.proofs.Promised.{happens-kept}
use Rattle.cluster_rounds.specs.Kits.{IsKit, Kit, calm_servers, device_by, servers_at}
use Rattle.cluster_rounds.specs.PartlyDone.{SaysUnasked}

-- what is carried with the lines and with what nobody asks is carried with the lines alone
says-carried : {P : Type 0} (plain : Plain) (servers : Servers P) (Good : State P → Type 0) → IsCarried plain servers Good (SaysUnasked plain) → IsCarried plain servers Good (Says plain)
says-carried plain servers Good carried = record {
  same = λ world. (carried.same world).says;
  both = λ one two three first second before after. Says-both plain one two three first second before after;
  ignored = λ world place why. (carried.ignored world place why).says;
  answer = λ world client number reply sound stands. (carried.answer world client number reply sound stands).says;
  pushed = λ world client key item sound is. (carried.pushed world client key item sound is).says;
  reply = λ world client number call reply sound kept place stands. (carried.reply world client number call reply sound kept place stands).says;
  item = λ world client key item found sound here next place stands. (carried.item world client key item found sound here next place stands).says;
  accept = λ entry state steady empty may at stands. (carried.accept entry state steady empty may at stands).says;
  drain = λ state steady. (carried.drain state steady).says;
}

says-stepped : {P : Type 0} (plain : Plain) (Good : State P → Type 0) (step : State P → Option (Outcome (State P))) → IsStepped plain Good (SaysUnasked plain) step → IsStepped plain Good (Says plain) step
says-stepped plain Good step stepped = record {
  steps = λ state outcome is steady.
      let goes = stepped.steps state outcome is steady in
      (goes.0, goes.1.says);
}

-- a step of a drain is one of the three
steps-by : {P : Type 0} (plain : Plain) (servers : Servers P) (Good : State P → Type 0) (R : World → World → List Told → Type 0) → AreStepped plain servers Good R → (state : State P) (outcome : Outcome (State P)) → IsSteady plain Good state → (mirrored acked worked : Option (Outcome (State P))) → servers.mirror state ≡ mirrored → servers.ack state ≡ acked → servers.work state ≡ worked → or_else mirrored (or_else acked worked) ≡ Some outcome → IsSteady plain Good outcome.state × R state.world outcome.state.world outcome.told
steps-by plain servers Good R stepped state outcome steady (Some mirrored) acked worked mirror ack work is =
    let same : servers.mirror state ≡ Some outcome = cc in
    stepped.mirror.steps state outcome same steady
steps-by plain servers Good R stepped state outcome steady None (Some acked) worked mirror ack work is =
    let same : servers.ack state ≡ Some outcome = cc in
    stepped.ack.steps state outcome same steady
steps-by plain servers Good R stepped state outcome steady None None worked mirror ack work is =
    let same : servers.work state ≡ Some outcome = cc in
    stepped.work.steps state outcome same steady

module _ {Peers Group : Type 0} (kit : Kit Peers Group) (laws : IsKit kit) where
  pub at-serves : (setup : Setup) (fails : ℕ → ℕ) → IsServing (plain_of setup) (servers_at kit setup fails) kit.Good
  at-serves setup fails = laws.serves (plain_of setup) (device_by setup fails) (is_plain setup)

  pub at-unasked : (setup : Setup) (fails : ℕ → ℕ) → IsCarried (plain_of setup) (servers_at kit setup fails) kit.Good (SaysUnasked (plain_of setup))
  at-unasked setup fails = laws.unasked (plain_of setup) (device_by setup fails) (is_plain setup)

  pub at-steps : (setup : Setup) (fails : ℕ → ℕ) (state : State Peers) (outcome : Outcome (State Peers)) → IsSteady (plain_of setup) kit.Good state → advance (servers_at kit setup fails) state ≡ Some outcome → IsSteady (plain_of setup) kit.Good outcome.state × SaysUnasked (plain_of setup) state.world outcome.state.world outcome.told
  at-steps setup fails state outcome steady is =
      let servers = servers_at kit setup fails in
      steps-by (plain_of setup) servers kit.Good (SaysUnasked (plain_of setup)) (laws.stepped (plain_of setup) (device_by setup fails) (is_plain setup)) state outcome steady (servers.mirror state) (servers.ack state) (servers.work state) refl refl refl is

  pub calm-serves : (setup : Setup) → IsServing (plain_of setup) (calm_servers kit setup) kit.Good
  calm-serves setup = at-serves setup (λ number. 0)

  pub calm-unasked : (setup : Setup) → IsCarried (plain_of setup) (calm_servers kit setup) kit.Good (SaysUnasked (plain_of setup))
  calm-unasked setup = at-unasked setup (λ number. 0)

  pub calm-says : (setup : Setup) → IsCarried (plain_of setup) (calm_servers kit setup) kit.Good (Says (plain_of setup))
  calm-says setup = says-carried (plain_of setup) (calm_servers kit setup) kit.Good (calm-unasked setup)

  -- what a line of a script keeps, and what it says
  pub line-kept : (setup : Setup) (shelf : Shelf) (next : Line) (state : State Peers) (outcome : Outcome (State Peers)) → IsSteady (plain_of setup) kit.Good state → Happens (plain_of setup) shelf (calm_servers kit setup) next state outcome → IsSteady (plain_of setup) kit.Good outcome.state × Says (plain_of setup) state.world outcome.state.world outcome.told
  line-kept setup shelf next state outcome steady happens =
      let plain = plain_of setup in
      let servers = calm_servers kit setup in
      let steps = laws.stepped plain (device_by setup (λ number. 0)) (is_plain setup) in
      let says : AreStepped plain servers kit.Good (Says plain) = record {
        mirror = says-stepped plain kit.Good servers.mirror steps.mirror;
        ack = says-stepped plain kit.Good servers.ack steps.ack;
        work = says-stepped plain kit.Good servers.work steps.work;
      } in
      happens-kept plain (is_plain setup) shelf servers kit.Good (calm-serves setup) (calm-says setup) says next state outcome steady happens
