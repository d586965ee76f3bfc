-- What a look at the queue tells a taker that took all.
use Rattle.std.proofs.Common.{◌≡◌, ℕ, suc, ◌+◌, ◌≤◌, max, Option, Some, None, MatchOption, IfNone, List, [], ◌∷◌, ◌++◌, length, take, sym, ap, subst, ◌∙◌, append-nil, length-append, arith}
use Rattle.std.proofs.Math.Seq.{take-append_seam}
use mathlib.Core.List.{IsPrefix}
use Rattle.crossbeam_queue.specs.Fifo.{Held}
use Rattle.calls.specs.declared.reply.Callback.{Callback}
use Rattle.callback_dispatch.specs.declared.numbered.Numbered.{Numbered}
use Rattle.callback_dispatch.specs.declared.rule.View.{View}
use Rattle.callback_dispatch.specs.Seen.{numbered}
use Rattle.callback_dispatch.specs.Rule.{TookAll, Learned, Popped, told}
use Rattle.callback_dispatch.proofs.Elements.{numbered-append, take-numbered, take-prefix_of, length-numbered, length-prefix}

prefix-numbered : (known all : List Callback) → IsPrefix known all → IsPrefix (numbered 1 known) (numbered 1 all)
prefix-numbered known all begins =
    let next : suc (length known) ≡ 1 + length known = omega arith in
    (numbered (suc (length known)) begins.0, sym (numbered-append 1 known begins.0 (suc (length known)) next) ∙ ap (numbered 1) begins.1)

took_known : (v : View) (items : List Numbered) → length items ≡ 0 → TookAll v items → IsPrefix (numbered 1 v.known) v.taken
took_known v [] none took =
    subst (IsPrefix (numbered 1 v.known)) (sym took.in_order ∙ append-nil v.taken) (prefix-numbered v.known took.all took.known)
took_known v (x ∷ items) none took = absurd (omega arith)

-- where nothing waits, all that is known was taken
pub nothing_waits : (v w : View) (result : Option Numbered) → MatchOption result ((w ≡ v) × Held 0 (Learned v)) (λ x. Popped v x w) → v.share ≡ 8 → IfNone result (IsPrefix (numbered 1 v.known) v.taken)
nothing_waits v w None ended whole = took_known v ended.1.0 ended.1.1 (ended.1.2.1 whole)
nothing_waits v w (Some x) ended whole = tt

-- what is known was taken, or waits
pub enough_waits : (v : View) (count : ℕ) → Held count (Learned v) → v.share ≡ 8 → length v.known ≤ length v.taken + count
enough_waits v count held whole =
    let took = held.2.1 whole in
    let within = length-prefix v.known took.all took.known in
    let both = ap length took.in_order in
    let long = length-numbered 1 took.all in
    let parts = length-append v.taken held.0 in
    let items = held.1 in
    omega arith

-- who took all that a feeder knows to be taken took the beginning of its list
pub exactly : (v : View) (fed : List Callback) (count : ℕ) (items : List Numbered) → Learned v items → v.share ≡ 8 → v.known ≡ fed → count ≤ v.count → length v.taken ≤ count → count ≤ length fed → (count ≡ length v.taken) × (v.taken ≡ numbered 1 (take (length v.taken) fed))
exactly v fed count items learned whole known low high within =
    let took = learned.1 whole in
    let most = took.count in
    let length_taken = length v.taken in
    let begins : IsPrefix fed took.all = subst (λ (l : List Callback). IsPrefix l took.all) known took.known in
    let first : v.taken ≡ take length_taken (v.taken ++ items) = sym (take-append_seam v.taken items) in (
      omega arith,
      first ∙ ap (take length_taken) took.in_order ∙ take-numbered length_taken 1 took.all ∙ ap (numbered 1) (take-prefix_of length_taken fed took.all begins (omega arith)),
    )

pub exactly-told : (v w old new : View) (fed : List Callback) (count : ℕ) (items : List Numbered) → old ≡ told v w → new ≡ old → Learned old items → v.share ≡ 8 → w.known ≡ fed → w.count ≡ count → length v.taken ≤ count → count ≤ length fed → (count ≡ length new.taken) × (new.taken ≡ numbered 1 (take (length new.taken) fed))
exactly-told v w old new fed count items is same learned whole known counted high within =
    let Exact : View → Type 0 = λ u. (count ≡ length u.taken) × (u.taken ≡ numbered 1 (take (length u.taken) fed)) in
    let low : count ≤ max v.count w.count = grind (arith, counted) in
    subst Exact (sym (same ∙ is)) (exactly (told v w) fed count items (subst (λ u. Learned u items) is learned) whole known low high within)
