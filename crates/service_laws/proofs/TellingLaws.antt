-- The first items of a subscription tell of the first sends for which it asked.
use Rattle.std.proofs.Common.{◌≡◌, ℕ, List, [], ◌∷◌, ◌++◌, map, refl, ap, sym, subst, ◌∙◌, append_assoc}
use Rattle.std.specs.List.{flat_map}
use Rattle.std.proofs.lemmas.Grind.{flat_map-append}
use Rattle.client_set.specs.Rising.{ComesFirst, IsRising}
use Rattle.sub_queue.specs.declared.item.Lost.{Lost}
use Rattle.sub_queue.specs.declared.item.Content.{Content}
use Rattle.sub_queue.specs.declared.item.Content.TheVariants.{Notified, Discarded}
use Rattle.sub_queue.specs.Items.{mark_of, marks_in}
use Rattle.calls.specs.declared.call.Call.{Call}
use Rattle.calls.specs.declared.entry.Entry.{Entry}
use Rattle.calls.specs.declared.reply.Callback.{Callback}
use Rattle.ntf_history.specs.Subscriptions.{Extends, losses_in}
use Rattle.plain_service.specs.Setups.{Setup}
use Rattle.plain_service.specs.Items.{made_for}
use Rattle.plain_service.specs.Asked.{lost_for, sends_asked, sends_dropped, lower_id}
use Rattle.plain_service.proofs.AskedLaws.{items-asked, items-dropped, sends-rising}
use Rattle.cluster_facts.specs.Agents.{callback_of}
use Rattle.cluster_events.specs.Taking.{items_in, taken_of, in_order, AreFirstItems}
use Rattle.cluster_events.proofs.Items.{taken-begins}
use Rattle.service_laws.specs.PlainOf.{plain_of}
use Rattle.service_laws.specs.Telling.{marks_told, losses_told, TellSends, IsFedBy, callbacks_of}

-- an item's callback tells what the item holds

marks-callbacks : (id : ℕ) (contents : List Content) → flat_map marks_told (map (callback_of id) contents) ≡ marks_in contents
marks-callbacks id [] = refl
marks-callbacks id (Notified notification ∷ contents) =
    ap (λ marks. mark_of notification ∷ marks) (marks-callbacks id contents)
marks-callbacks id (Discarded lost ∷ contents) = ap (λ marks. lost ++ marks) (marks-callbacks id contents)

losses-callbacks : (id : ℕ) (contents : List Content) → flat_map losses_told (map (callback_of id) contents) ≡ losses_in contents
losses-callbacks id [] = refl
losses-callbacks id (Notified notification ∷ contents) = losses-callbacks id contents
losses-callbacks id (Discarded lost ∷ contents) = ap (λ marks. lost ++ marks) (losses-callbacks id contents)

-- what the first callbacks tell stands in front of what all items and the losses behind them tell
front-told : (told : Callback → List Lost) (all taken later : List Callback) (whole lost marks : List Lost) → all ≡ taken ++ later → flat_map told all ≡ whole → whole ++ lost ≡ marks → Extends (flat_map told taken) marks
front-told told all taken later whole lost marks parts is sum = record {
  more = flat_map told later ++ lost;
  is =
      sym sum ∙ ap (λ all_marks. all_marks ++ lost) (sym is ∙ ap (flat_map told) parts ∙ flat_map-append told taken later) ∙ append_assoc (flat_map told taken) (flat_map told later) lost;
}

-- a front of what rises rises

front-first : (first : Lost) (front behind : List Lost) → ComesFirst lower_id first (front ++ behind) → ComesFirst lower_id first front
front-first first [] behind before = tt
front-first first (next ∷ front) behind before = (before.0, front-first first front behind before.1)

front-rises : (front behind : List Lost) → IsRising lower_id (front ++ behind) → IsRising lower_id front
front-rises [] behind rises = tt
front-rises (first ∷ front) behind rises = (front-first first front behind rises.0, front-rises front behind rises.1)

told-sends : (setup : Setup) (past : List Entry) (client key id : ℕ) (taken later : List Callback) → map (callback_of id) (made_for setup past client key) ≡ taken ++ later → TellSends setup past client key taken
told-sends setup past client key id taken later parts =
    let made = made_for setup past client key in
    let all = map (callback_of id) made in
    let lost = lost_for setup past client key in
    let asked = front-told marks_told all taken later (marks_in made) lost (sends_asked setup past client key) parts (marks-callbacks id made) (items-asked setup past client key) in
    record {
      asked = asked;
      dropped = front-told losses_told all taken later (losses_in made) lost (sends_dropped setup past client key) parts (losses-callbacks id made) (items-dropped setup past client key);
      once = front-rises (flat_map marks_told taken) asked.more (subst (IsRising lower_id) asked.is (sends-rising setup past client key));
    }

-- **the first items of a subscription tell of the first sends for which it asked while it lasted, each once and in order**
pub first-told : (setup : Setup) (past : List Entry) (sent : List (ℕ × Call)) (client key : ℕ) (taken : List Callback) → AreFirstItems (plain_of setup) past sent client key taken → TellSends setup past client key (in_order taken)
first-told setup past sent client key [] first = record {
  asked = record { more = sends_asked setup past client key; is = refl };
  dropped = record { more = sends_dropped setup past client key; is = refl };
  once = tt;
}
first-told setup past sent client key (last ∷ taken) first =
    told-sends setup past client key first.0 (in_order (last ∷ taken)) first.2.0 first.2.1

-- **and so do those that a client was fed of it**
pub fed-told : (setup : Setup) (past : List Entry) (sent : List (ℕ × Call)) (client key : ℕ) (marks : List (ℕ × ℕ)) (fed : List Callback) → IsFedBy setup past sent client marks fed → TellSends setup past client key (callbacks_of key marks fed)
fed-told setup past sent client key marks fed is =
    first-told setup past sent client key (taken_of key marks (items_in fed)) (taken-begins (plain_of setup) past sent client key marks fed is.numbered is.counted is.items)
