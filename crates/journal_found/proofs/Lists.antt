-- Lists by their last element, and bytes that begin with two lists of frames.
use Rattle.std.proofs.lemmas.List.{append-nil}
use Rattle.std.proofs.Common.{◌≡◌, ◌⊎◌, inl, inr, ⊎_elim, ℕ, List, [], ◌∷◌, ◌++◌, length, refl, sym, ap, ◌∙◌, append_assoc}
use Rattle.wire.proofs.Verdicts.{one_spelling}
use Rattle.wire.specs.declared.message.Message.{Message}
use Rattle.wire.specs.MessageSpelling.{message_text, MessageFits}
use Rattle.journal_frames.specs.Frames.{AreShort, frame, framed}
use Rattle.journal_frames.proofs.Frames.{same-frame}
use Rattle.journal_found.specs.Found.{texts_of, AllFit}

abbrev pub first_or : {X : Type 0} → X → List X → X
first_or other [] = other
first_or other (x ∷ xs) = x

abbrev pub behind_first : {X : Type 0} → List X → List X
behind_first [] = []
behind_first (x ∷ xs) = xs

pub never-empty : {X : Type 0} (xs : List X) (x : X) → [] ≡ xs ++ x ∷ [] → ⊥
never-empty [] x is = let long = ap length is in cc
never-empty (first ∷ xs) x is = let long = ap length is in cc

pub last-same : {X : Type 0} (xs ys : List X) (x y : X) → xs ++ x ∷ [] ≡ ys ++ y ∷ [] → (xs ≡ ys) × (x ≡ y)
last-same [] [] x y is = (refl, ap (first_or x) is)
last-same [] (first ∷ ys) x y is = absurd (never-empty ys y (ap behind_first is))
last-same (first ∷ xs) [] x y is = absurd (never-empty xs x (sym (ap behind_first is)))
last-same (first ∷ xs) (other ∷ ys) x y is =
    let rest = last-same xs ys x y (ap behind_first is) in
    let head : first ≡ other = ap (first_or first) is in
    (λ i. head i ∷ rest.0 i, rest.1)

-- a list is empty, or it has a last element
pub by-last : {X : Type 0} (xs : List X) → (xs ≡ []) ⊎ ((front : List X) × (last : X) × (xs ≡ front ++ last ∷ []))
by-last [] = inl refl
by-last (x ∷ xs) = inr (⊎_elim (λ none. ([], x, ap (λ l. x ∷ l) none)) (λ some. (x ∷ some.0, some.1, ap (λ l. x ∷ l) some.2)) (by-last xs))

pub texts-push : (messages : List Message) (last : Message) → texts_of (messages ++ last ∷ []) ≡ texts_of messages ++ message_text last ∷ []
texts-push [] last = refl
texts-push (first ∷ messages) last = ap (λ l. message_text first ∷ l) (texts-push messages last)

pub fits-push : (messages : List Message) (last : Message) → AllFit messages → MessageFits last → AllFit (messages ++ last ∷ [])
fits-push [] last all one = (one, tt)
fits-push (first ∷ messages) last all one = (all.0, fits-push messages last all.1 one)

pub same-messages : (one other : List Message) → AllFit one → AllFit other → texts_of one ≡ texts_of other → one ≡ other
same-messages [] [] fits all is = refl
same-messages [] (message ∷ other) fits all is = let long = ap length is in cc
same-messages (message ∷ one) [] fits all is = let long = ap length is in cc
same-messages (message ∷ one) (next ∷ other) fits all is =
    let text : message_text message ≡ message_text next = ap (first_or []) is in
    let first = (one_spelling message next [] fits.0 all.0 (sym text ∙ sym (append-nil (message_text message)))).0 in
    let rest = same-messages one other fits.1 all.1 (ap behind_first is) in
    λ i. first i ∷ rest i

-- what stands behind a list of messages, by another list with which the same bytes begin
pub record Further (one other : List Message) (rest tail : List ℕ) : Type 0 where
  pub more : List Message
  pub is : other ≡ one ++ more
  pub behind : rest ≡ framed (texts_of more) ++ tail
  pub fits : AllFit more
  pub short : AreShort (texts_of more)

-- **one of two lists of frames begins the other**
pub compare : (one other : List Message) (rest tail : List ℕ) → AllFit one → AllFit other → AreShort (texts_of one) → AreShort (texts_of other)
    → framed (texts_of one) ++ rest ≡ framed (texts_of other) ++ tail → Further one other rest tail ⊎ Further other one tail rest
compare [] other rest tail fits all short few is = inl (record { more = other; is = refl; behind = is; fits = all; short = few })
compare (message ∷ one) [] rest tail fits all short few is = inr (record { more = message ∷ one; is = refl; behind = sym is; fits = fits; short = short })
compare (message ∷ one) (next ∷ other) rest tail fits all short few is =
    let text = message_text message in
    let whole : frame text ++ (framed (texts_of one) ++ rest) ≡ frame (message_text next) ++ (framed (texts_of other) ++ tail) =
    sym (append_assoc (frame text) (framed (texts_of one)) rest) ∙ is ∙ append_assoc (frame (message_text next)) (framed (texts_of other)) tail in
    let parts = same-frame text (message_text next) (framed (texts_of one) ++ rest) (framed (texts_of other) ++ tail) short.0 few.0 whole in
    let first : message ≡ next = (one_spelling message next [] fits.0 all.0 (sym parts.0 ∙ sym (append-nil text))).0 in
    ⊎_elim
    (λ (further : Further one other rest tail). inl (record { more = further.more; is = λ i. sym first i ∷ further.is i; behind = further.behind; fits = further.fits; short = further.short }))
    (λ (further : Further other one tail rest). inr (record { more = further.more; is = λ i. first i ∷ further.is i; behind = further.behind; fits = further.fits; short = further.short }))
    (compare one other rest tail fits.1 all.1 short.1 few.1 parts.1)
