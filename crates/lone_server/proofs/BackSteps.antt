-- What comes back: the entries that are found, the link to the journal, and the answers of a cold start beside another result.
use Rattle.std.proofs.Common.{◌≡◌, ◌⊎◌, inr, ℕ, false, suc, ◌+◌, List, [], ◌∷◌, ◌++◌, length, refl, ap, sym, subst, ◌∙◌, arith, append_assoc, append-nil}
use Rattle.std.specs.Prelude.{is_some, Option, None, Result, Ok, Err, IsErrOf, MatchResult}
use Rattle.std.proofs.lemmas.List.{reverse-append, length-reverse}
use Rattle.disk_model.specs.Seen.{DiskSeen}
use Rattle.calls.specs.declared.entry.Entry.{Entry}
use Rattle.wire.specs.declared.message.Message.TheVariants.{JoinAck}
use Rattle.mirror.specs.declared.heard.Heard.{Heard}
use Rattle.mirror.specs.declared.heard.Role.{Role}
use Rattle.mirror.specs.declared.heard.Role.TheVariants.{Active}
use Rattle.mirror.specs.declared.state.NodeState.{NodeState}
use Rattle.mirror.specs.declared.owed.Owed.{Owed}
use Rattle.mirror.specs.Pairing.{IsJoinBegun, IsReceived}
use Rattle.lead_server.specs.Heard.{IsConfirmed}
use Rattle.journal_start.specs.declared.cold.ColdAnswer.{ColdAnswer}
use Rattle.journal_start.specs.declared.cold.ColdAnswer.TheVariants.{Stopped}
use Rattle.journal_start.specs.Arms.{StopsByArms}
use Rattle.journal_start.specs.Starts.{RoseByEither}
use Rattle.lone_server.specs.Restarting.{found_lines, linked, new_lines, TakesAll, TakesOne}

-- The entries that are found.

pub found-more : (known before at : ℕ) (xs : List Entry) (x : Entry) → at ≡ before + length xs → found_lines known before (xs ++ x ∷ []) ≡ found_lines known before xs ++ new_lines known (suc at) x
found-more known before at [] x is =
    let same : before ≡ at = omega (arith, is) in
    append-nil (new_lines known (suc before) x) ∙ ap (λ n. new_lines known (suc n) x) same
found-more known before at (y ∷ ys) x is =
    let deeper = found-more known (suc before) at ys x (omega (arith, is)) in
    ap (λ lines. new_lines known (suc before) y ++ lines) deeper
    ∙ sym (append_assoc (new_lines known (suc before) y) (found_lines known (suc before) ys) (new_lines known (suc at) x))

-- one more is taken
pub takes-more : (known : ℕ) (entries : List Entry) (entry : Entry) (past found : List Entry) (first before after : List (List ℕ)) → TakesAll known entries past first before → TakesOne known entry past found before after → TakesAll known (entries ++ entry ∷ []) found first after
takes-more known entries entry past found first before after all one =
    let count : length past ≡ 0 + length entries = ap length all.history ∙ length-reverse entries ∙ (let n = length entries in omega arith) in
    record {
      history = one.history ∙ ap (λ rest. entry ∷ rest) all.history ∙ sym (reverse-append entries (entry ∷ []));
      lines =
          one.lines ∙ ap (λ front. front ++ new_lines known (suc (length past)) entry) all.lines
          ∙ append_assoc first (found_lines known 0 entries) (new_lines known (suc (length past)) entry)
          ∙ ap (λ back. first ++ back) (sym (found-more known 0 (length past) entries entry count));
    }

pub takes-none : (known : ℕ) (before : List (List ℕ)) → TakesAll known [] [] before before
takes-none known before = record { history = refl; lines = sym (append-nil before) }

-- The link to the journal.

pub linked-is : (number : ℕ) (old middle new : NodeState) (heard : Heard) → old.replica.role ≡ Active → old.replica.owed ≡ None → IsJoinBegun (is_some old.replica.owed) old heard middle → IsConfirmed (JoinAck number) middle new → new ≡ linked old
linked-is number old middle new heard role idle begun confirmed =
    let first : IsJoinBegun false old heard middle = subst (λ (owed : Option Owed). IsJoinBegun (is_some owed) old heard middle) idle begun in
    let acts : middle.replica.role ≡ Active = ap (λ (node : NodeState). node.replica.role) first.1 ∙ role in
    let last : IsReceived Active (JoinAck number) confirmed.moment middle confirmed.heard new =
    subst (λ (r : Role). IsReceived r (JoinAck number) confirmed.moment middle confirmed.heard new) acts confirmed.received
    in
    last.1 ∙ first.1

-- it was not confirmed
pub linked-or : (old middle new : NodeState) (heard : Heard) → old.replica.owed ≡ None → IsJoinBegun (is_some old.replica.owed) old heard middle → new ≡ middle → (new ≡ old) ⊎ (new ≡ linked old)
linked-or old middle new heard idle begun same =
    let first : IsJoinBegun false old heard middle = subst (λ (owed : Option Owed). IsJoinBegun (is_some owed) old heard middle) idle begun in
    inr (same ∙ first.1)

-- An answer beside another result.

pub either-as : {T U : Type 0} (one one_new two two_new : ℕ) (answer error : ColdAnswer) → RoseByEither {T = T} one one_new two two_new (Err answer) error → RoseByEither {T = U} one one_new two two_new (Err answer) error
either-as one one_new two two_new answer error rose = record {
  later = rose.later;
  later_too = rose.later_too;
  rose = λ is. let same : answer ≡ error = cc in rose.rose (ap Err same);
  stands = rose.stands;
}

pub arms-as : {T U : Type 0} (one one_new two two_new : DiskSeen) (answer : ColdAnswer) → StopsByArms {T = T} one one_new two two_new (Err answer) → StopsByArms {T = U} one one_new two two_new (Err answer)
arms-as one one_new two two_new answer arms = record {
  stopped = λ is. let same : answer ≡ Stopped = cc in arms.stopped (ap Err same);
  unarmed = arms.unarmed;
  unarmed_too = arms.unarmed_too;
}

-- or a result that no disk has a part in
still-stands : {U : Type 0} (one one_new two two_new : ℕ) (next : Result U ColdAnswer) (error : ColdAnswer) → (one_new ≡ one) × (two_new ≡ two) → MatchResult next (λ _. (one_new ≡ one) × (two_new ≡ two)) (λ answer. (answer ≡ error) ⊎ ((one_new ≡ one) × (two_new ≡ two)))
still-stands one one_new two two_new (Ok x) error stands = stands
still-stands one one_new two two_new (Err answer) error stands = inr stands

pub either-done : {T U : Type 0} (one one_new two two_new : ℕ) (done : T) (next : Result U ColdAnswer) (error : ColdAnswer) → (IsErrOf next error → ⊥) → RoseByEither {T = T} one one_new two two_new (Ok done) error → RoseByEither one one_new two two_new next error
either-done one one_new two two_new done next error never rose = record {
  later = rose.later;
  later_too = rose.later_too;
  rose = λ is. absurd (never is);
  stands = still-stands one one_new two two_new next error rose.stands;
}

pub arms-done : {T U : Type 0} (one one_new two two_new : DiskSeen) (done : T) (next : Result U ColdAnswer) → (IsErrOf next Stopped → ⊥) → StopsByArms {T = T} one one_new two two_new (Ok done) → StopsByArms one one_new two two_new next
arms-done one one_new two two_new done next never arms = record { stopped = λ is. absurd (never is); unarmed = arms.unarmed; unarmed_too = arms.unarmed_too }
