-- What a cluster line that can stand in a script gives.
use Rattle.std.proofs.Common.{◌≡◌, ℕ, List, [], ◌∷◌, ap, sym, subst, ◌∙◌}
use Rattle.std.specs.Prelude.{ℤ}
use Rattle.script_lines.specs.declared.line.Line.{Line}
use Rattle.script_lines.specs.declared.line.Line.TheVariants.{Cluster}
use Rattle.script_lines.specs.declared.line.WellOptions.{WellOptions}
use Rattle.script_language.specs.Lines.{Spells}
use Rattle.stream_config.specs.declared.attrs.StreamAttrs.{StreamAttrs}
use Rattle.plain_service.specs.Setups.{Setup}
use Rattle.service_core.specs.Beginning.{BeginsAs}
use Rattle.cluster_lines.specs.Beginning.{Begins}
use Rattle.cluster_lines.proofs.BeginSpelled.{spelled-begins}
use Rattle.script_language.specs.Streams.{wells_of}

-- what that begins as
pub begins-as : (one : Line) (start : ℤ) (queue callbacks : ℕ) (alarm ntf sys : WellOptions) (wells : List StreamAttrs) → one ≡ Cluster start queue callbacks alarm ntf sys → wells ≡ wells_of alarm ntf sys
    → (raw : List ℕ) → Spells one raw → (setup : Setup) (places : ℕ) → Begins one setup places → BeginsAs setup start queue wells
begins-as one start queue callbacks alarm ntf sys wells is attributes raw spelled setup places begins =
    let tells : Begins (Cluster start queue callbacks alarm ntf sys) setup places = subst (λ l. Begins l setup places) is begins in
    let wells_by : Setup → List StreamAttrs = λ s. s.alarm ∷ s.notification ∷ s.system ∷ [] in
    record {
      start_is = ap (λ (s : Setup). s.start) tells.0;
      capacity_is = ap (λ (s : Setup). s.capacity) tells.0;
      attributes = attributes ∙ sym (ap wells_by tells.0);
      sound = spelled-begins one raw setup places spelled begins;
    }

-- the time and the places that it tells
pub tells-start : (one : Line) (start : ℤ) (queue callbacks : ℕ) (alarm ntf sys : WellOptions) → one ≡ Cluster start queue callbacks alarm ntf sys → (setup : Setup) (places : ℕ) → Begins one setup places → (start ≡ setup.start) × (callbacks ≡ places)
tells-start one start queue callbacks alarm ntf sys is setup places begins =
    let tells : Begins (Cluster start queue callbacks alarm ntf sys) setup places = subst (λ l. Begins l setup places) is begins in
    (sym (ap (λ (s : Setup). s.start) tells.0), sym tells.1)
