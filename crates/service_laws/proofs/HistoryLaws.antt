-- A history that is legal for the cluster, and whose entries lie within bounds, is one of the plain service.
use Rattle.std.proofs.Common.{◌≡◌, ℕ, suc, ◌==◌, Bool, true, false, cond, List, [], ◌∷◌, length, refl, subst, arith}
use Rattle.std.specs.Prelude.{ℤ}
use Rattle.std.proofs.lemmas.Bool.Decides.{nat_tests}
use Rattle.calls.specs.declared.call.Call.{Call}
use Rattle.calls.specs.declared.entry.Entry.{Entry}
use Rattle.calls.specs.declared.entry.Entry.TheVariants.{Called, Receipted}
use Rattle.cluster_facts.specs.History.{ReceiptsAreNew, IsLegal}
use Rattle.cluster_facts.specs.Lists.{IsNumbered}
use Rattle.cluster_facts.specs.Messages.{calls_in}
use Rattle.plain_service.specs.Setups.{Setup, CanBegin}
use Rattle.plain_service.specs.Legal.{IsHistory}
use Rattle.plain_service.specs.Replies.{calls_of}
use Rattle.service_laws.specs.PlainOf.{plain_of}
use Rattle.cluster_facts.specs.Ranges.{AreInRange}
use Rattle.service_laws.proofs.ServiceLaws.{new-receipt}

length-calls : (client : ℕ) (past : List Entry) → length (calls_in client past) ≡ length (calls_of client past)
length-calls client [] = refl
length-calls client (Called caller number time call ∷ past) = by_case (caller == client) (length-calls client past) where
  by_case : (mine : Bool) → length (calls_in client past) ≡ length (calls_of client past) → length (cond mine ((number, call) ∷ calls_in client past) (calls_in client past)) ≡ length (cond mine (call ∷ calls_of client past) (calls_of client past))
  by_case true same = omega (arith, same)
  by_case false same = same
length-calls client (Receipted caller key through time ∷ past) = length-calls client past

numbered-before : (mine : Bool) (number : ℕ) (call : Call) (calls : List (ℕ × Call)) → IsNumbered (cond mine ((number, call) ∷ calls) calls) → IsNumbered calls
numbered-before true number call calls numbered = numbered.1
numbered-before false number call calls numbered = numbered

own-number : (client number : ℕ) (call : Call) (calls : List (ℕ × Call)) → IsNumbered (cond (client == client) ((number, call) ∷ calls) calls) → number ≡ suc (length calls)
own-number client number call calls numbered =
    let same : (client == client) ≡ true = grind (arith, nat_tests) in
    let own = subst (λ mine. IsNumbered (cond mine ((number, call) ∷ calls) calls)) same numbered in own.0

history-by : (setup : Setup) → CanBegin setup → (past : List Entry) → ((client : ℕ) → IsNumbered (calls_in client past)) → ReceiptsAreNew (plain_of setup) past → AreInRange past → IsHistory setup past
history-by setup begin [] numbered new range = begin
history-by setup begin (Called client number time call ∷ past) numbered new range = (
  (
    record {
      caller = record { from = range.0.from; to = range.0.to };
      time = record { from = range.0.early; to = range.0.late };
      few = range.0.few;
    },
    omega (arith, own-number client number call (calls_in client past) (numbered client), length-calls client past),
  ),
  history-by setup begin past (λ other. numbered-before (client == other) number call (calls_in other past) (numbered other)) new range.1,
)
history-by setup begin (Receipted client key through time ∷ past) numbered new range = (
  (
    record {
      caller = record { from = range.0.from; to = range.0.to };
      time = record { from = range.0.early; to = range.0.late };
      few = range.0.few;
    },
    new-receipt setup past client key through new.0,
  ),
  history-by setup begin past numbered new.1 range.1,
)

-- **a legal history of a run is a history of the service**
pub history-of : (setup : Setup) → CanBegin setup → (now : ℤ) (past : List Entry) → IsLegal (plain_of setup) now past → AreInRange past → IsHistory setup past
history-of setup begin now past legal range = history-by setup begin past legal.numbered legal.receipts range
