-- What hearing a message and a push tell, over any servers.
-- Outcomes that differ at most in the places that lines on messages without effect name.
use Rattle.std.proofs.Common.{◌≡◌, ℕ, suc, Bool, true, false, ◌||◌, nat_lt, if◌then◌else◌, Option, Some, None, List, [], ◌∷◌, ◌++◌, length, refl, ap, sym, ◌∙◌, subst}
use Rattle.std.specs.List.{AllByRecursion}
use Rattle.cluster_facts.specs.Types.{Call, Reply, Entry, Called, Receipted, Message, Request, Answer, Delivery, Receipt}
use Rattle.cluster_facts.specs.Service.{Plain, answers_in, is_new}
use Rattle.cluster_facts.specs.History.{Hand, Empty, Waiting, Applied, Ready, Judged, New, Repeat, Old, Ahead, judged_call}
use Rattle.cluster_facts.specs.Messages.{Posting, Spelled}
use Rattle.cluster_facts.specs.World.{knows}
use Rattle.cluster_events.specs.Lines.{Told, Posted, Committed, Ignored}
use Rattle.cluster_events.specs.declared.lines.Why.{Why}
use Rattle.cluster_events.specs.Outcomes.{for_each}
use Rattle.cluster_events.specs.ClientEvents.{post, post_lines}
use Rattle.cluster_events.specs.Servers.{State, Servers, in_world}
use Rattle.cluster_events.specs.Events.{reply_at, post_again, request_as, receipt_as, hear_at_rest, hear_by, hear, push_by, push}
use Rattle.cluster_events.specs.Settling.{is_loud}
use Rattle.cluster_events.proofs.Carrying.{IsMadeItem}
use Rattle.event_text.specs.Texts.{printed}
use Rattle.cluster_clients.specs.Taken.{kept_lines}
use Rattle.cluster_clients.proofs.ToldLines.{SameButPlace, kept-append, less-one, loud-append, not-less, printed-append, same-outcome}
use Rattle.cluster_rounds.specs.Measured.{IsMeasured, Measured}

module _ {P : Type 0} (plain : Plain) (servers : Servers P) (one other : ℕ) where
  request-places : (client number : ℕ) (call : Call) (verdict : Judged) (state : State P) → SameButPlace (request_as plain servers one client number call verdict state) (request_as plain servers other client number call verdict state)
  request-places client number call New state = same-outcome (request_as plain servers one client number call New state)
  request-places client number call Repeat state = same-outcome (request_as plain servers one client number call Repeat state)
  request-places client number call Old state = record { state = refl; lines = refl; loud = refl }
  request-places client number call Ahead state = record { state = refl; lines = refl; loud = refl }

  receipt-places : (client key through : ℕ) (new : Bool) (state : State P) → SameButPlace (receipt_as servers one client key through new state) (receipt_as servers other client key through new state)
  receipt-places client key through true state = same-outcome (receipt_as servers one client key through true state)
  receipt-places client key through false state = record { state = refl; lines = refl; loud = refl }

  rest-places : (message : Message) (state : State P) → SameButPlace (hear_at_rest plain servers one message state) (hear_at_rest plain servers other message state)
  rest-places (Request client number call) state = request-places client number call (judged_call state.world.core.answered client number) state
  rest-places (Receipt client key through) state = receipt-places client key through (is_new plain state.world.core.answered client key through) state
  rest-places _ state = record { state = refl; lines = refl; loud = refl }

  hand-places : (message : Message) (hand : Hand) (state : State P) → SameButPlace (hear_by plain servers one message hand state) (hear_by plain servers other message hand state)
  hand-places message Empty state = rest-places message state
  hand-places message _ state = record { state = refl; lines = refl; loud = refl }

  pub hear-places : (message : Message) (state : State P) → SameButPlace (hear plain servers one message state) (hear plain servers other message state)
  hear-places message state = hand-places message state.world.core.hand state

-- What hearing a message did is told by the lengths of history and net.

either : (lines : List (List ℕ)) (a b : Bool) (x y : ℕ) → nat_lt x y ≡ a → (m n : ℕ) → nat_lt m n ≡ b → (if a || b then lines else []) ≡ (if nat_lt x y || nat_lt m n then lines else [])
either lines a b x y first m n second = λ i. if sym first i || sym second i then lines else []

measured-nothing : (past net : ℕ) → Measured past past net net []
measured-nothing past net = record {
  loud = sym (not-less past);
  lines = either [] false false past past (not-less past) net net (not-less net);
}

measured-ignored : (past net place : ℕ) (why : Why) → Measured past past net net (Ignored place why ∷ [])
measured-ignored past net place why = record {
  loud = sym (not-less past);
  lines = either (printed (Ignored place why ∷ [])) false false past past (not-less past) net net (not-less net);
}

pub measured-entry : (past net number : ℕ) (entry : Entry) → Measured past (suc past) net net (Committed number entry ∷ [])
measured-entry past net number entry = record {
  loud = sym (less-one past);
  lines = either (printed (Committed number entry ∷ [])) true false past (suc past) (less-one past) net net (not-less net);
}

measured-answer : (past net number client seq : ℕ) (reply : Reply) → Measured past past net (suc net) (Posted number (Answer client seq reply) ∷ [])
measured-answer past net number client seq reply = record {
  loud = sym (not-less past);
  lines = either (printed (Posted number (Answer client seq reply) ∷ [])) false true past past (not-less past) net (suc net) (less-one net);
}

-- a world is written with its hand, so that each case computes
abbrev state_with : {P : Type 0} → State P → Hand → State P
state_with state hand = record {
  world = record state.world { core = record { answered = state.world.core.answered; hand = hand } };
  peers = state.peers;
}

module _ {P : Type 0} (plain : Plain) (servers : Servers P) (Good : State P → Type 0) (measured : (entry : Entry) (state : State P) → state.world.core.hand ≡ Empty → Good state → IsMeasured state.world (servers.accept entry state)) (place : ℕ) where
  again-measured : (client number : ℕ) (found : Option Reply) (state : State P) → IsMeasured (state_with state Empty).world (in_world (post_again plain client number found) (state_with state Empty))
  again-measured client number None state = measured-nothing (length state.world.core.answered) (length state.world.net)
  again-measured client number (Some reply) state =
      let past = length state.world.core.answered in
      let net = state.world.net in
      let message = Answer client number reply in
      elim (knows plain message net) as (λ b. Measured past past (length net) (length (if b then net else Spelled message ∷ net)) (if b then [] else Posted (suc (length net)) message ∷ [])) [
        | true ↦ measured-nothing past (length net)
        | false ↦ measured-answer past (length net) (suc (length net)) client number reply
      ]

  request-measured : (client number : ℕ) (call : Call) (verdict : Judged) (state : State P) → Good (state_with state Empty) → IsMeasured (state_with state Empty).world (request_as plain servers place client number call verdict (state_with state Empty))
  request-measured client number call New state good = measured (Called client number state.world.now call) (state_with state Empty) refl good
  request-measured client number call Repeat state good =
      again-measured client number (reply_at number (answers_in plain client state.world.core.answered)) state
  request-measured client number call Old state good = measured-ignored (length state.world.core.answered) (length state.world.net) place Rattle.cluster_events.specs.declared.lines.Why.TheVariants.OldRequest
  request-measured client number call Ahead state good = measured-ignored (length state.world.core.answered) (length state.world.net) place Rattle.cluster_events.specs.declared.lines.Why.TheVariants.AheadRequest

  receipt-measured : (client key through : ℕ) (new : Bool) (state : State P) → Good (state_with state Empty) → IsMeasured (state_with state Empty).world (receipt_as servers place client key through new (state_with state Empty))
  receipt-measured client key through true state good = measured (Receipted client key through state.world.now) (state_with state Empty) refl good
  receipt-measured client key through false state good = measured-ignored (length state.world.core.answered) (length state.world.net) place Rattle.cluster_events.specs.declared.lines.Why.TheVariants.DoneReceipt

  rest-measured : (message : Message) (state : State P) → Good (state_with state Empty) → IsMeasured (state_with state Empty).world (hear_at_rest plain servers place message (state_with state Empty))
  rest-measured (Request client number call) state good = request-measured client number call (judged_call state.world.core.answered client number) state good
  rest-measured (Receipt client key through) state good = receipt-measured client key through (is_new plain state.world.core.answered client key through) state good
  rest-measured _ state good = measured-nothing (length state.world.core.answered) (length state.world.net)

  hand-measured : (message : Message) (hand : Hand) (state : State P) → Good (state_with state hand) → IsMeasured (state_with state hand).world (hear plain servers place message (state_with state hand))
  hand-measured message Empty state good = rest-measured message state good
  hand-measured message (Waiting entry) state good = measured-ignored (length state.world.core.answered) (length state.world.net) place (Rattle.cluster_events.specs.declared.lines.Why.TheVariants.Busy (suc (length state.world.core.answered)))
  hand-measured message (Applied entry) state good = measured-ignored (suc (length state.world.core.answered)) (length state.world.net) place (Rattle.cluster_events.specs.declared.lines.Why.TheVariants.Busy (suc (length state.world.core.answered)))
  hand-measured message (Ready entry) state good = measured-ignored (suc (length state.world.core.answered)) (length state.world.net) place (Rattle.cluster_events.specs.declared.lines.Why.TheVariants.Busy (suc (length state.world.core.answered)))

  pub hear-measured : (message : Message) (state : State P) → Good state → IsMeasured state.world (hear plain servers place message state)
  hear-measured message state good = hand-measured message state.world.core.hand state good

-- A push prints all its lines, and is not loud.

pub record IsQuiet (told : List Told) : Type 0 where
  pub lines : kept_lines told ≡ printed told
  pub quiet : is_loud told ≡ false

pub quiet-answer : (plain : Plain) (client number : ℕ) (reply : Reply) (net : List Posting) → IsQuiet (post_lines plain (Answer client number reply) net)
quiet-answer plain client number reply net =
    elim (knows plain (Answer client number reply) net) as (λ b. IsQuiet (if b then [] else Posted (suc (length net)) (Answer client number reply) ∷ [])) [
      | true ↦ record { lines = refl; quiet = refl }
      | false ↦ record { lines = refl; quiet = refl }
    ]

quiet-both : (second first : List Told) → IsQuiet first → IsQuiet second → IsQuiet (second ++ first)
quiet-both second first one two = record {
  lines = kept-append second first ∙ ap (λ l. l ++ kept_lines second) one.lines ∙ ap (λ l. printed first ++ l) two.lines ∙ sym (printed-append second first);
  quiet = loud-append second first ∙ ap (λ b. b || is_loud second) one.quiet ∙ two.quiet;
}

quiet-item : (plain : Plain) (past : List Entry) (item : Message) (net : List Posting) → IsMadeItem plain past item → IsQuiet (post_lines plain item net)
quiet-item plain past (Delivery client key item) net is =
    elim (knows plain (Delivery client key item) net) as (λ b. IsQuiet (if b then [] else Posted (suc (length net)) (Delivery client key item) ∷ [])) [
      | true ↦ record { lines = refl; quiet = refl }
      | false ↦ record { lines = refl; quiet = refl }
    ]
quiet-item plain past _ net is = elim is [ ]

post_all-quiet : {P : Type 0} (plain : Plain) (past : List Entry) (items : List Message) (state : State P) → AllByRecursion (IsMadeItem plain past) items → IsQuiet (for_each (λ item. in_world (post plain item)) items state).told
post_all-quiet plain past [] state made = record { lines = refl; quiet = refl }
post_all-quiet plain past (item ∷ items) state made =
    let after = (in_world (post plain item) state).state in
    quiet-both (for_each (λ one. in_world (post plain one)) items after).told (post_lines plain item state.world.net)
    (quiet-item plain past item state.world.net made.0)
    (post_all-quiet plain past items after made.1)

pub push-quiet : {P : Type 0} (plain : Plain) (servers : Servers P) (state : State P) → state.world.core.hand ≡ Empty → AllByRecursion (IsMadeItem plain state.world.core.answered) (plain.held state.world.core.answered) → IsQuiet (push plain servers state).told
push-quiet plain servers state empty made =
    let Q : Hand → Type 0 = λ hand. IsQuiet (push_by plain servers hand state).told in
    subst Q (sym empty) (post_all-quiet plain state.world.core.answered (plain.held state.world.core.answered) state made)
