-- A server that starts from a journal's disk that tells no files can go on, whatever it found.
use Rattle.std.proofs.Common.{◌≡◌, inl, inr, ℕ, ◌||◌, None, List, [], length, refl, ap, sym, ◌∙◌, arith}
use Rattle.std.specs.Prelude.{is_some}
use Rattle.calls.specs.History.{Pushed}
use Rattle.service_laws.specs.PlainOf.{plain_of}
use Rattle.cluster_facts.specs.Types.{Message}
use Rattle.cluster_facts.specs.History.{Empty}
use Rattle.cluster_facts.specs.Messages.{messages_in}
use Rattle.journal_found.specs.Found.{texts_of}
use Rattle.journal_frames.specs.Frames.{framed}
use Rattle.journal_start.specs.Arms.{StopsByArms}
use Rattle.cluster_rounds.specs.declared.cluster.Cluster.{Cluster}
use Rattle.cluster_rounds.specs.Wild.{HasWild, StandsOn, always}
use Rattle.cluster_rounds.specs.Worlds.{any_state}
use Rattle.lone_server.specs.declared.lone.Lone.{Lone}
use Rattle.lone_server.specs.Restarting.{ComesBack, linked}
use Rattle.cold_servers.specs.declared.solo.Solo.{Solo}
use Rattle.cold_servers.specs.ColdKit.{cold_kit}
use Rattle.cold_servers.specs.ColdNodes.{IsDown}
use Rattle.cold_servers.specs.ColdSeen.{ColdSeen}
use Rattle.cold_servers.specs.Down.{RestartGoes}
use Rattle.cold_servers.specs.Silent.{IsSilent, IsUpAt}
use Rattle.cold_servers.specs.Steps.{AreDown}
use Rattle.cold_servers.proofs.FitSteps.{found-good}
use Rattle.cold_servers.proofs.PostSteps.{state-clients}
use Rattle.cold_servers.proofs.SilentLines.{rests-ok, unarmed-ok}

module _ (old : Cluster Solo) (servers : Lone) (history : Pushed) (between : List (List ℕ)) (held left : ColdSeen) (stands : StandsOn cold_kit any_state always old held) (down : AreDown old) (comes : ComesBack old.servers.lone servers old.history.entries history.entries [] between held.journal.files left.journal.files held.disk.files left.disk.files) (arms : StopsByArms {T = Unit {0}} held.journal left.journal held.disk left.disk (Rattle.std.specs.Prelude.Ok tt)) where
  abbrev new : Cluster Solo
  new = record old { servers = record { lone = servers }; history = history }

  -- what was found, as the server stands for it
  back-up : (net : List Message) → IsUpAt net servers
  back-up net =
      let rests : IsDown old.servers.lone = rests-ok old held stands down in
      let started = comes.started in
      let cold = comes.cold in
      let told = found-good started.bytes started.past started.follower started.found in
      let is : servers ≡ record old.servers.lone { node = linked cold.node; journal = cold.journal } = comes.installs.is in
      let end : servers.journal.end ≡ length (framed (texts_of started.found.messages)) = ap (λ (s : Lone). s.journal.end) is ∙ started.end in
      let number : servers.journal.number ≡ started.follower.saved.number = ap (λ (s : Lone). s.journal.number) is ∙ started.number in
      record {
        saved = started.follower.saved;
        owed = None;
        hand = Empty;
        good = told.good;
        owes = refl;
        node = ap (λ (s : Lone). s.node) is ∙ ap linked started.node;
        link = ap (λ (s : Lone). s.link) is ∙ rests.link;
        back = ap (λ (s : Lone). s.back) is ∙ rests.back;
        joined = number;
        bound = omega (arith, end, number, told.bound);
      }

  back-silent : (net : List Message) → held.journal.files ≡ None → IsSilent (record { lone = servers }) net left
  back-silent net untold =
      let rests : IsDown old.servers.lone = rests-ok old held stands down in
      let unarmed = unarmed-ok old held stands down in
      let disk = arms.unarmed_too unarmed.0 in
      let journal = arms.unarmed unarmed.1 in
      record {
        untold = comes.started.untold untold;
        armed = ap (λ (s : Lone). s.armed) comes.installs.is ∙ rests.armed ∙ (λ i. is_some (sym disk i) || is_some (sym journal i));
        stands = inl (back-up net);
      }

  goes-by : StandsOn cold_kit any_state always old held → held.journal.files ≡ None → HasWild cold_kit always new left
  goes-by (inl has) untold = record {
    seen = has.state.world;
    wild = record {
      setup = has.setup;
      clients = state-clients (plain_of has.setup) has.state.world has.good.steady.sound has.good.moment;
      shows = record { net = has.shows.net; agents = has.shows.agents; now = has.shows.now; callbacks = has.shows.callbacks };
      servers = back-silent (messages_in has.state.world.net) untold;
    };
    so = tt;
  }
  goes-by (inr has) untold = record {
    seen = has.seen;
    wild = record {
      setup = has.wild.setup;
      clients = has.wild.clients;
      shows = record { net = has.wild.shows.net; agents = has.wild.shows.agents; now = has.wild.shows.now; callbacks = has.wild.shows.callbacks };
      servers = back-silent (messages_in has.seen.net) untold;
    };
    so = tt;
  }

  pub starts-on : RestartGoes new held left
  starts-on = λ untold. goes-by stands untold
