-- The readers, of which one after another is told an alarm.
use Rattle.std.proofs.Common.{◌≡◌, ℕ, suc, ◌<◌, List, length, get_or, set, ap, sym, ◌∙◌, arith}
use Rattle.ntf_types.specs.declared.notification.Notification.{Notification}
use Rattle.calls.specs.declared.saved.SavedReader.{SavedReader}
use Rattle.service_parts.proofs.Fronts.{changed_front, length-changed_front, get_or-next, set-next}
use Rattle.service_table.specs.Steps.{told_alarm}

pub told-next : (client : ℕ) (alarm : Notification) (n : ℕ) (xs readers : List SavedReader) (element : SavedReader) → n < length readers → element ≡ get_or readers n element → readers ≡ changed_front (told_alarm client alarm) n xs → (new : SavedReader) → new ≡ told_alarm client alarm element → (m : ℕ) → m ≡ suc n → set readers n new ≡ changed_front (told_alarm client alarm) m xs
told-next client alarm n xs readers element within at so_far new is m next =
    let change = told_alarm client alarm in
    let long : length readers ≡ length xs = ap length so_far ∙ length-changed_front change n xs in
    let old : element ≡ get_or xs n element = at ∙ ap (λ ys. get_or ys n element) so_far ∙ get_or-next change n xs element in
    ap (λ ys. set ys n new) so_far
    ∙ ap (λ x. set (changed_front change n xs) n x) (is ∙ ap change old)
    ∙ set-next change n xs element (omega (arith, within, long))
    ∙ ap (λ k. changed_front change k xs) (sym next)
