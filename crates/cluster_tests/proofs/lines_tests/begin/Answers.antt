use Rattle.std.proofs.Common.{◌≡◌, ℕ, ℤ, None, List, [], refl, ap, sym, subst, ◌∙◌, inr, to_z, of_z, w64, rules}
use Rattle.disk_model.specs.Seen.{DiskSeen}
use Rattle.calls.specs.declared.saved.Saved.{Saved}
use Rattle.stream_config.specs.declared.attrs.StreamAttrs.{StreamAttrs}
use Rattle.plain_service.specs.Setups.{Setup, CanBegin}
use Rattle.plain_service.specs.Values.{saved_of}
use Rattle.service_laws.specs.PlainOf.{plain_of}
use Rattle.service_core.specs.Beginning.{BeginsAs}
use Rattle.cluster_facts.proofs.Keeping.{IsSound-start}
use Rattle.mirror.specs.declared.heard.Role.TheVariants.{Active}
use Rattle.mirror.specs.Replicas.{started, at_rest}
use Rattle.mirror.specs.Pairing.{alone}
use Rattle.cluster_rounds.specs.declared.cluster.Cluster.{Cluster}
use Rattle.cluster_rounds.specs.Worlds.{HasStateOn, IsGood, Shows, any_state}
use Rattle.group_servers.specs.declared.group.Group.{Group}
use Rattle.group_servers.specs.GroupKit.{group_kit}
use Rattle.cluster_tests.specs.Starting.{cluster_of, state_of}
use Rattle.cluster_tests.proofs.lines_tests.begin.Goals as goal

good : (setup : Setup) (callbacks : ℕ) → CanBegin setup → IsGood (group_kit 2) setup (state_of setup.start callbacks)
good setup callbacks begins = record {
  begins = begins;
  steady = record { sound = IsSound-start (plain_of setup) setup.start callbacks; good = record { agree = (tt, (tt, tt)); waits = tt; armed = tt; apart = (λ same. refl, (λ same. refl, tt)); names = refl; acts = refl } };
  range = tt;
  moment = begins.start;
}

shows : (setup : Setup) (callbacks : ℕ) → Shows (group_kit 2) setup (state_of setup.start callbacks) (cluster_of (alone (at_rest setup [])) setup.start callbacks)
shows setup callbacks = record {
  own = refl;
  net = tt;
  agents = record { shown = refl; rising = tt; listed = λ client. inr refl };
  history = refl;
  now = refl;
  callbacks = refl;
}

-- the cluster stands for its state
stands : (setup : Setup) (start : ℤ) (queue callbacks : ℕ) (wells : List StreamAttrs) (saved : Saved) → BeginsAs setup start queue wells → saved ≡ saved_of setup [] → (held : DiskSeen) → held.tally.armed ≡ None → HasStateOn (group_kit 2) any_state (cluster_of (alone (started Active saved)) start callbacks) held
stands setup start queue callbacks wells saved begins is held unarmed =
    let S : Saved → Type 0 = λ value. Shows (group_kit 2) setup (state_of setup.start callbacks) (cluster_of (alone (started Active value)) start callbacks) in
    let T : ℤ → Type 0 = λ time. Shows (group_kit 2) setup (state_of setup.start callbacks) (cluster_of (alone (at_rest setup [])) time callbacks) in
    record {
      setup = setup;
      state = state_of setup.start callbacks;
      good = good setup callbacks begins.sound;
      shows = subst S (sym is) (subst T begins.start_is (shows setup callbacks));
      count = unarmed;
      so = tt;
    }

pub returns-in-Ok : goal.returns-in-Ok
returns-in-Ok g c =
    let setup = c.requires.begins.0 in
    let held = g.D.SharedDisk.seen c.args._disk.now in
    let is : to_z w64 (of_z w64 c.args.start) ≡ c.args.start = search rules in
    let made = subst (λ time. c.cluster_of.result ≡ cluster_of c.start-active.result time c.args.callbacks) is c.cluster_of.ensures in
    let whole = made ∙ ap (λ active. cluster_of active c.args.start c.args.callbacks) c.start-active.ensures in
    let begun = stands setup c.args.start c.args.queue c.args.callbacks c.args.wells c.in-Ok.service c.requires.begins.1 (c.in-Ok.ensures setup (subst (λ time. BeginsAs setup time c.args.queue c.args.wells) (sym is) c.requires.begins.1)).stands held c.requires.unarmed in
    subst (λ (cluster : Cluster (Group 2)). HasStateOn (group_kit 2) any_state cluster held) (sym whole) begun
