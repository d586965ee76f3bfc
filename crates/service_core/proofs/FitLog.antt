-- The log can be made again of a value that is fit.
use Rattle.std.proofs.Common.{◌≡◌, ◌+◌, ◌≤◌, List, [], ◌∷◌, map, refl, ap, sym, subst, arith}
use Rattle.std.specs.Prelude.{unsigned_abs}
use Rattle.stream_config.specs.declared.state.StreamState.{StreamState}
use Rattle.stream_config.specs.Fit.{HasFitFiles}
use Rattle.calls.specs.declared.saved.Saved.{Saved}
use Rattle.calls.specs.declared.saved.SavedStream.{SavedStream}
use Rattle.log_history.specs.Table.{OpenStream}
use Rattle.log_service.specs.State.{IsSoundStream, IsSoundTable, joined_streams, table_with}
use Rattle.log_service.proofs.FewLemmas.{few-known}
use Rattle.plain_service.specs.Fitness.{IsFit}
use Rattle.service_table.specs.Tables.{kept_stream_of, table_of_saved}
use Rattle.service_fit.proofs.RestoredParts.{streams-fit, names-fit, others-fit, few-fit}

few-opened : (state : StreamState) → HasFitFiles state → state.opened ≤ state.taken + 1
few-opened state files = let few = files.few in omega (arith, few)

pub log-fit : (saved : Saved) → IsFit saved → IsSoundTable (table_of_saved saved).log
log-fit saved fit = record {
  users = fit.streams.users.rising;
  streams = streams-fit IsSoundStream (λ stream passes openers opened files. record { passes = passes; openers = openers; opened = opened; few = few-opened stream.state files }) saved fit;
  few = few-known (table_of_saved saved).log.streams (names-fit saved fit) (others-fit saved fit) (few-fit saved fit);
}

-- the streams of a value, from their states, from those that have them open, and from their marks
pub joined-saved : (streams : List SavedStream) → joined_streams (map (λ (stream : SavedStream). stream.state) streams) (map (λ (stream : SavedStream). stream.openers) streams) (map (λ (stream : SavedStream). stream.mark) streams) ≡ map kept_stream_of streams
joined-saved [] = refl
joined-saved (stream ∷ streams) = ap (λ rest. kept_stream_of stream ∷ rest) (joined-saved streams)
