-- The refusals that a line tells are those that are due.
use Rattle.std.proofs.Common.{◌≡◌, ℕ, ◌||◌, Bool, true, false, if◌then◌else◌, List, [], ◌∷◌, ◌++◌, length, Option, Some, None, refl, ap, sym, ◌∙◌}
use Rattle.std.specs.Prelude.{not}
use Rattle.ais_values.specs.FirstRow.{first_row}
use Rattle.disk_model.specs.Disk.{Files}
use Rattle.script_lines.specs.declared.line.Line.{Line}
use Rattle.script_lines.specs.declared.line.Line.TheVariants as line
use Rattle.plain_service.specs.Setups.{Setup}
use Rattle.cluster_facts.specs.Types.{Which, Log, Ntf, Status, VersionRefused, TryAgain, BadHandle, Ask, Start, Other, Call}
use Rattle.cluster_facts.specs.Messages.{messages_in, sent_by}
use Rattle.cluster_facts.specs.Service.{Plain}
use Rattle.cluster_facts.specs.Agents.{Agent, can_serve, service_of, has_handle, is_shut, refusal, dispatch_refusal}
use Rattle.cluster_facts.specs.Facts.{Sends, IsSound}
use Rattle.cluster_facts.specs.World.{World}
use Rattle.cluster_events.specs.Lines.{Told, Refused, Stood, Listed, Shown}
use Rattle.cluster_events.specs.Cores.{IsCored}
use Rattle.cluster_events.specs.Saying.{replies_told}
use Rattle.cluster_events.proofs.Promised.{gathered-without, gathered-handed}
use Rattle.cluster_events.proofs.Telling.{gathered-append}
use Rattle.cluster_events.proofs.Walking.{Others, IsShow, IsByKind}
use Rattle.cluster_events.proofs.Carrying.{IsTold}
use Rattle.service_laws.specs.PlainOf.{plain_of}
use Rattle.played_runs.specs.Games.{Game}
use Rattle.played_runs.specs.Kinds.{KeepsWaiting, Refuses, refused_of, kind_by}
use Rattle.played_runs.specs.Laws.{IsGame}
use Rattle.played_runs.specs.Promises.{OfAllLines}
use Rattle.played_runs.specs.Refusing.{call_refused, holds_service, rows_of_refusal, rows_of_dispatch, refused_as, refused_by, refusal_in, refusals_told, refusals_due, DeclinesRightly}
use Rattle.played_runs.proofs.Cores.{cored-alone}
use Rattle.played_runs.proofs.PlayLaws.{each-played, played-says}
use Rattle.played_runs.proofs.WaitingLaws.{played-waits}

pub refuses-told : (plain : Plain) → IsTold plain (Refuses Others)
refuses-told plain = record {
  same = λ world. refl;
  both = λ one two three first second before after.
      gathered-append refusal_in second first ∙ ap (λ (refused : List (ℕ × Status)). refused ++ refusals_told first) after ∙ before;
  ignored = λ world place why. refl;
  answer = λ world client number reply. refl;
  pushed = λ world client key item. refl;
  reply = λ world client number call reply sound kept place stands. refl;
  item = λ world client key item found sound here next place stands. refl;
}

pub refuses-cored : IsCored (Refuses Others)
refuses-cored = cored-alone (Refuses Others) (λ world one other hand next. refl) (λ world past hand next number entry. refl)

show-refuses : (line : Told) → IsShow line → refusals_told (line ∷ []) ≡ []
show-refuses (Refused text standing) shows = refl
show-refuses (Stood server role) shows = refl
show-refuses (Listed name count) shows = refl
show-refuses (Shown text) shows = refl
show-refuses _ shows = elim shows [ ]

pub refuses-by-kind : (plain : Plain) → IsByKind plain Refuses
refuses-by-kind plain = record {
  time = λ now world sound after. refl;
  declined = λ client asked status world sound is. ap (λ (found : Option Status). refused_as client found) (sym is);
  asked = λ client asked world sound is. ap (λ (found : Option Status). refused_as client found) (sym is);
  refused = λ client status world sound is. ap (λ (found : Option Status). refused_as client found) (sym is);
  handed = λ client callbacks after world sound is hands.
      gathered-handed refusal_in client (length (world.agents client).handed) callbacks (λ number callback. refl)
      ∙ ap (λ (found : Option Status). refused_as client found) (sym is);
  injected = λ bytes front why world sound. refl;
  shows = λ world line shows. show-refuses line shows;
  printed = λ old new told refuses. gathered-without refusal_in (λ place why. refl) told ∙ refuses;
}

-- Refusals, by the calls that were sent.

has-holds : (service : Which) (agent : Agent) (sent calls : List (ℕ × Call)) → Sends sent calls agent.next agent.log_handle agent.ntf_handle → has_handle service agent ≡ holds_service service sent
has-holds Log agent sent calls sends = sends.log_is
has-holds Ntf agent sent calls sends = sends.ntf_is

ask-refused : (asked : Ask) (agent : Agent) (sent calls : List (ℕ × Call)) → Sends sent calls agent.next agent.log_handle agent.ntf_handle → refusal asked agent ≡ first_row (rows_of_refusal asked sent agent.kept)
ask-refused (Start service version) agent sent calls sends =
    ap (λ (next : ℕ). first_row ((not (can_serve service version), VersionRefused) ∷ (is_shut next agent.kept, TryAgain) ∷ [])) sends.next_is
ask-refused (Other call) agent sent calls sends =
    ap (λ (held : Bool). first_row ((not held, BadHandle) ∷ (is_shut agent.next agent.kept, TryAgain) ∷ [])) (has-holds (service_of call) agent sent calls sends)
    ∙ ap (λ (next : ℕ). first_row ((not (holds_service (service_of call) sent), BadHandle) ∷ (is_shut next agent.kept, TryAgain) ∷ [])) sends.next_is

either-row : (held : Bool) → (if held then None else Some BadHandle) ≡ first_row ((not held, BadHandle) ∷ [])
either-row true = refl
either-row false = refl

dispatch-refused : (agent : Agent) (sent calls : List (ℕ × Call)) → Sends sent calls agent.next agent.log_handle agent.ntf_handle → dispatch_refusal agent ≡ first_row (rows_of_dispatch sent)
dispatch-refused agent sent calls sends =
    either-row (agent.log_handle || agent.ntf_handle)
    ∙ ap (λ (log : Bool). first_row ((not (log || agent.ntf_handle), BadHandle) ∷ [])) sends.log_is
    ∙ ap (λ (ntf : Bool). first_row ((not (holds_service Log sent || ntf), BadHandle) ∷ [])) sends.ntf_is

-- Each line.

asked-due : (setup : Setup) (client : ℕ) (asked : Ask) (told : List Told) (world : World) → IsSound (plain_of setup) world → KeepsWaiting world told → refused_as client (refusal asked (world.agents client)) ≡ call_refused client asked (replies_told client told) (sent_by client (messages_in world.net))
asked-due setup client asked told world sound waits =
    let sent = sent_by client (messages_in world.net) in
    ap (λ (status : Option Status). refused_as client status) (ask-refused asked (world.agents client) sent _ (sound.facts.clients client).sends)
    ∙ ap (λ (waiting : List (ℕ × Call)). refused_as client (first_row (rows_of_refusal asked sent waiting))) (waits client)

dispatched-due : (setup : Setup) (client : ℕ) (world : World) → IsSound (plain_of setup) world → refused_as client (dispatch_refusal (world.agents client)) ≡ refused_by client (rows_of_dispatch (sent_by client (messages_in world.net)))
dispatched-due setup client world sound =
    ap (λ (status : Option Status). refused_as client status) (dispatch-refused (world.agents client) (sent_by client (messages_in world.net)) _ (sound.facts.clients client).sends)

pub refused-due : (setup : Setup) (next : Option Line) (told : List Told) (world : World) → IsSound (plain_of setup) world → KeepsWaiting world told → refused_of (kind_by next) world ≡ refusals_due next told (messages_in world.net)
refused-due setup (Some (line.Log client asked)) told world sound waits = asked-due setup client asked told world sound waits
refused-due setup (Some (line.Ntf client asked)) told world sound waits = asked-due setup client asked told world sound waits
refused-due setup (Some (line.DispatchOne client)) told world sound waits = dispatched-due setup client world sound
refused-due setup (Some (line.DispatchAll client workers)) told world sound waits = dispatched-due setup client world sound
refused-due setup _ told world sound waits = refl

module _ {P L S W : Type 0} (game : Game P L S W) (is_game : IsGame game) where
  pub declines-rightly : (held : Option Files) → (OfAllLines game) held (DeclinesRightly game.shared)
  declines-rightly held =
      each-played game is_game held (λ setup. DeclinesRightly game.shared) (λ setup places first lines state told before next outcome after run done.
      let steady = (played-says game is_game setup places held first run).0 in
      (is_game.done setup held before.1 next state outcome after steady done).refuses
      ∙ refused-due setup (game.shared next) told state.world steady.sound (played-waits game is_game setup places held first run))
