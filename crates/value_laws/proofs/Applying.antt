-- An entry that can follow a history can be applied to its value.
use Rattle.std.proofs.Common.{◌≡◌, ℕ, ◌+◌, List, length, refl, ap, sym, ◌∙◌, arith}
use Rattle.calls.specs.declared.entry.Entry.{Entry}
use Rattle.calls.specs.declared.entry.Entry.TheVariants.{Called, Receipted}
use Rattle.calls.specs.declared.reply.Reply.{Reply}
use Rattle.client_window.specs.Windows.{Kept}
use Rattle.plain_service.specs.Changing.{past_of}
use Rattle.plain_service.specs.Items.{is_new_receipt}
use Rattle.plain_service.specs.Legal.{CanFollow}
use Rattle.plain_service.specs.Replies.{next_number}
use Rattle.plain_service.specs.Setups.{Setup}
use Rattle.plain_service.specs.Values.{saved_of}
use Rattle.plain_service.proofs.ReplyLaws.{length-replies}
use Rattle.ntf_history.proofs.AnswerLaws.{is_new-kept}
use Rattle.service_table.specs.Histories.{service_of}
use Rattle.service_table.proofs.SavedLaws.{value-is}
use Rattle.service_core.specs.Applying.{CanApply, next_in, is_new_in}
use Rattle.service_core.proofs.FollowLaws.{next-is, new-is, window-is}

pub count-is : (setup : Setup) (past : List Entry) → (saved_of setup past).number ≡ length past
unfolding saved_of
count-is setup past = refl

next-told : (setup : Setup) (past : List Entry) (client : ℕ) → next_in (saved_of setup past) client ≡ next_number client past
next-told setup past client =
    ap (λ saved. next_in saved client) (sym (value-is setup past))
    ∙ next-is (service_of setup past) client
    ∙ ap (λ (window : Kept Reply). window.next) (window-is setup past client (service_of setup past) refl)
    ∙ ap (λ n. n + 1) (length-replies setup client past)

new-told : (setup : Setup) (past : List Entry) (client key through : ℕ) → is_new_in (saved_of setup past) client key through ≡ is_new_receipt setup past client key through
unfolding service_of is_new_receipt
new-told setup past client key through =
    ap (λ saved. is_new_in saved client key through) (sym (value-is setup past))
    ∙ new-is (service_of setup past) client key through
    ∙ is_new-kept setup.capacity (past_of setup past).ntf client key through

pub can-apply : (setup : Setup) (past : List Entry) (entry : Entry) → CanFollow setup entry past → CanApply entry (saved_of setup past)
can-apply setup past (Called client seq now call) can =
    let number = count-is setup past in
    let few = can.0.few in
    (record { caller = can.0.caller; time = can.0.time; few = omega arith }, can.1 ∙ sym (next-told setup past client))
can-apply setup past (Receipted client key through now) can =
    let number = count-is setup past in
    let few = can.0.few in
    (record { caller = can.0.caller; time = can.0.time; few = omega arith }, new-told setup past client key through ∙ can.1)
