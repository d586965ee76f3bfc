-- How many entries a server has applied, and what its service tells of clients and receipts, by the history that it stands for.
use Rattle.std.proofs.Common.{◌≡◌, ℕ, suc, ◌+◌, List, ◌∷◌, length, refl, ap, sym, ◌∙◌}
use Rattle.std.specs.Prelude.{Option, Some, None, IsSome, option_map}
use Rattle.calls.specs.declared.reply.Reply.{Reply}
use Rattle.calls.specs.declared.entry.Entry.{Entry}
use Rattle.calls.specs.declared.saved.Saved.{Saved}
use Rattle.client_window.specs.Windows.{Kept}
use Rattle.plain_service.specs.Setups.{Setup}
use Rattle.plain_service.specs.Replies.{replies_to}
use Rattle.plain_service.specs.Changing.{past_of}
use Rattle.plain_service.specs.Items.{lasts_for, through_for, made_for, is_new_receipt}
use Rattle.plain_service.specs.Values.{saved_of}
use Rattle.ntf_history.proofs.AnswerLaws.{is_new-kept}
use Rattle.service_table.specs.Histories.{service_of}
use Rattle.service_table.proofs.SavedLaws.{value-is}
use Rattle.service_core.specs.Applying.{next_in, is_new_in}
use Rattle.service_core.proofs.FollowLaws.{next-is, new-is, window-is}
use Rattle.cluster_facts.specs.Service.{is_new}
use Rattle.service_laws.specs.PlainOf.{plain_of}
use Rattle.mirror.specs.declared.heard.Role.{Role}
use Rattle.mirror.specs.declared.owed.Owed.{Owed}
use Rattle.mirror.specs.Replicas.{ReplicaState, number_of}

abbrev pub server_with : Role → Option Saved → Option Owed → ReplicaState
server_with role service owed = record { role = role; service = service; owed = owed }

pub count-is : (setup : Setup) (past : List Entry) → (saved_of setup past).number ≡ length past
unfolding saved_of
count-is setup past = refl

-- a client's next number, by its replies
pub next-of : (setup : Setup) (past : List Entry) (client : ℕ) → next_in (saved_of setup past) client ≡ length (replies_to setup client past) + 1
next-of setup past client =
    ap (λ saved. next_in saved client) (sym (value-is setup past))
    ∙ next-is (service_of setup past) client
    ∙ ap (λ (window : Kept Reply). window.next) (window-is setup past client (service_of setup past) refl)

-- a receipt is new by the value where it is new by the history
new-by_table : (setup : Setup) (past : List Entry) (client key through : ℕ) → is_new_in (saved_of setup past) client key through ≡ is_new_receipt setup past client key through
unfolding service_of is_new_receipt
new-by_table setup past client key through =
    ap (λ saved. is_new_in saved client key through) (sym (value-is setup past))
    ∙ new-is (service_of setup past) client key through
    ∙ is_new-kept setup.capacity (past_of setup past).ntf client key through

new-by_plain : (setup : Setup) (past : List Entry) (client key through : ℕ) → is_new_receipt setup past client key through ≡ is_new (plain_of setup) past client key through
unfolding is_new_receipt lasts_for through_for made_for
new-by_plain setup past client key through = refl

pub new-of : (setup : Setup) (past : List Entry) (client key through : ℕ) → is_new_in (saved_of setup past) client key through ≡ is_new (plain_of setup) past client key through
new-of setup past client key through =
    new-by_table setup past client key through ∙ new-by_plain setup past client key through

-- a server whose parts stay is what it was
pub stays-is : (role : Role) (service : Option Saved) (owed later : Option Owed) (value : ReplicaState) (saved new : Saved) → server_with role service owed ≡ value → service ≡ Some saved → new ≡ saved → later ≡ owed → server_with role (Some new) later ≡ value
stays-is role service owed later value saved new is found same kept =
    ap (λ it. server_with role (Some it) later) same
    ∙ ap (server_with role (Some saved)) kept
    ∙ ap (λ it. server_with role it owed) (sym found)
    ∙ is

-- the number of the entry in hand, by the value of the service
pub number-found : (setup : Setup) (past : List Entry) (entry : Entry) (service : Option Saved) (saved : Saved) → service ≡ Some saved → service ≡ Some (saved_of setup (entry ∷ past)) → saved.number ≡ suc (length past)
number-found setup past entry service saved found is =
    let same : saved ≡ saved_of setup (entry ∷ past) = cc in
    ap (λ (value : Saved). value.number) same ∙ count-is setup (entry ∷ past)

pub some_same : (one other : Saved) → Some one ≡ Some other → one ≡ other
some_same one other is = cc

-- a server without a number has nothing in hand, where what is in hand is of a service
pub none-number : (server : ReplicaState) → (IsSome server.owed → IsSome server.service) → number_of server ≡ None → server.owed ≡ None
none-number server whole none = by server.service server.owed whole none
  where
    by : (service : Option Saved) (owed : Option Owed) → (IsSome owed → IsSome service) → option_map (λ (saved : Saved). saved.number) service ≡ None → owed ≡ None
    by service None whole none = refl
    by (Some saved) (Some owed) whole none = cc
    by None (Some owed) whole none = let some = whole refl in cc
