-- What the reading of a message comes to is what the bytes are.
use Rattle.std.proofs.Common.{◌≡◌, ℕ, zero, suc, ◌-◌, ◌<◌, ◌≤◌, List, [], ◌∷◌, ◌++◌, length, take, Result, Ok, Err, refl, sym, ◌∙◌, ap, subst, inl, inr, arith}
use Rattle.std.specs.Result.{IfOk}
use Rattle.std.proofs.lemmas.Bool.{cases_lt}
use Rattle.std.proofs.lemmas.List.{append-nil, append_assoc, length-append, take_at, take_all}
use Rattle.wire_code.specs.declared.fault.Fault.{Fault}
use Rattle.wire_code.specs.declared.fault.Fault.TheVariants as fault
use Rattle.wire_code.specs.Spelling.{IsBytes}
use Rattle.wire_code.specs.Reading.{wrong}
use Rattle.wire_code.proofs.Codes.{ok_is}
use Rattle.wire.specs.declared.message.Message.{Message}
use Rattle.wire.specs.declared.message.WireWhy.{WireWhy}
use Rattle.wire.specs.declared.message.WireWhy.TheVariants.{Trailing, Short, BadValue}
use Rattle.wire.specs.declared.message.WireAnswer.{WireAnswer}
use Rattle.wire.specs.declared.message.WireAnswer.TheVariants.{Memory, Refused}
use Rattle.wire.specs.MessageSpelling.{message_text, MessageFits}
use Rattle.wire.specs.MessageReading.{message_at}
use Rattle.wire.specs.Messages.{Spells, IsFront, IsPlace, IsReason, IsRefusedAt, IsRead, IsRefused}
use Rattle.wire.specs.Verdicts.{IsFault, IsVerdict}
use Rattle.wire.proofs.MessageCodes.{message_code}

-- a message's own spelling is read as it
read_own : (message : Message) → MessageFits message → message_at (message_text message) ≡ Ok (message, [])
read_own message fits = ap message_at (sym (append-nil (message_text message))) ∙ message_code.back message [] fits

pub one_spelling : (one other : Message) (more : List ℕ) → MessageFits one → MessageFits other → message_text other ≡ message_text one ++ more → (one ≡ other) × (more ≡ [])
one_spelling one other more fits_one fits_other same =
    let found : (one, more) ≡ (other, []) = ok_is _ _ (sym (message_code.back one more fits_one) ∙ ap message_at (sym same) ∙ read_own other fits_other) in
    (ap (λ (q : Message × List ℕ). q.0) found, ap (λ (q : Message × List ℕ). q.1) found)

pub read_spelled : (message : Message) (bytes : List ℕ) → Spells message bytes → message_at bytes ≡ Ok (message, [])
read_spelled message bytes spells = ap message_at spells.is ∙ read_own message spells.fits

-- a front that is longer, as the shorter one and what follows
take_further : (bytes front rest : List ℕ) (k : ℕ) → bytes ≡ front ++ rest → length front ≤ k → take k bytes ≡ front ++ take (k - length front) rest
take_further bytes [] rest k is long = ap (take k) is ∙ sym (ap (λ n. take n rest) (omega arith))
take_further bytes (byte ∷ front) rest zero is long = absurd (omega arith)
take_further bytes (byte ∷ front) rest (suc k) is long =
    let less : suc k - suc (length front) ≡ k - length front = omega arith in
    ap (take (suc k)) is ∙ ap (λ (t : List ℕ). byte ∷ t) (take_further (front ++ rest) front rest k refl (omega arith)) ∙ sym (ap (λ n. byte ∷ front ++ take n rest) less)

pub message_of : (bytes : List ℕ) → IsBytes bytes → (result : Result Message WireAnswer) → IsVerdict bytes (message_at bytes) result → IfOk result (λ message. Spells message bytes)
message_of bytes all (Ok message) verdict =
    let part = message_code.sound bytes all message [] verdict in
    record { fits = part.0; is = part.1 ∙ append-nil (message_text message) }
message_of bytes all (Err answer) verdict = tt

pub every_message_of : (bytes : List ℕ) (result : Result Message WireAnswer) → IsVerdict bytes (message_at bytes) result → (message : Message) → Spells message bytes → IsRead message result
every_message_of bytes (Ok found) verdict message spells =
    ap (λ (q : Message × List ℕ). q.0) (ok_is _ _ (sym verdict ∙ read_spelled message bytes spells))
every_message_of bytes (Err Memory) verdict message spells = tt
every_message_of bytes (Err (Refused place Trailing)) verdict message spells =
    let same = ok_is _ _ (sym verdict.1 ∙ read_spelled message bytes spells) in
    let none : length verdict.0.1 ≡ 0 = ap (λ (q : Message × List ℕ). length q.1) same in
    absurd (omega (arith, verdict.2))
every_message_of bytes (Err (Refused place Short)) verdict message spells =
    let never = sym verdict.0 ∙ read_spelled message bytes spells in cc
every_message_of bytes (Err (Refused place BadValue)) verdict message spells =
    let never = sym verdict.1 ∙ read_spelled message bytes spells in cc

-- behind a whole message no longer front is a spelling's
nothing_longer : (message : Message) (bytes rest : List ℕ) (other : ℕ) → MessageFits message → bytes ≡ message_text message ++ rest → 0 < length rest → length (message_text message) < other → IsFront (take other bytes) → ⊥
nothing_longer message bytes [] other fits is some over begins = absurd (omega arith)
nothing_longer message bytes (byte ∷ rest) other fits is some over begins =
    let text = message_text message in
    let last = take (other - length text - 1) rest in
    let one : other - length text ≡ suc (other - length text - 1) = omega arith in
    let longer : take other bytes ≡ text ++ byte ∷ last = take_further bytes text (byte ∷ rest) other is (omega arith) ∙ ap (λ n. text ++ take n (byte ∷ rest)) one in
    let whole : message_text begins.value ≡ text ++ (byte ∷ last ++ begins.more) = begins.is ∙ ap (λ (t : List ℕ). t ++ begins.more) longer ∙ append_assoc text (byte ∷ last) begins.more in
    let none : byte ∷ (last ++ begins.more) ≡ [] = (one_spelling message begins.value (byte ∷ last ++ begins.more) fits begins.fits whole).1 in
    cc

-- with a wrong byte no longer front is a spelling's
nothing_with : (front : List ℕ) (byte : ℕ) (rest bytes : List ℕ) (other : ℕ) → bytes ≡ front ++ byte ∷ rest → ((last : List ℕ) → message_at (front ++ byte ∷ last) ≡ wrong last) → length front < other → IsFront (take other bytes) → ⊥
nothing_with front byte rest bytes other is always over begins =
    let last = take (other - length front - 1) rest in
    let one : other - length front ≡ suc (other - length front - 1) = omega arith in
    let longer : take other bytes ≡ front ++ byte ∷ last = take_further bytes front (byte ∷ rest) other is (omega arith) ∙ ap (λ n. front ++ take n (byte ∷ rest)) one in
    let whole : message_text begins.value ≡ front ++ (byte ∷ last ++ begins.more) = begins.is ∙ ap (λ (t : List ℕ). t ++ begins.more) longer ∙ append_assoc front (byte ∷ last) begins.more in
    let never : ◌≡◌ {A = Result (Message × List ℕ) Fault} (Ok (begins.value, [])) (wrong (last ++ begins.more)) = sym (read_own begins.value begins.fits) ∙ ap message_at whole ∙ always (last ++ begins.more) in
    cc

-- the three refusals
trailing_at : (bytes : List ℕ) → IsBytes bytes → (message : Message) (rest : List ℕ) (place : ℕ) → message_at bytes ≡ Ok (message, rest) → 0 < length rest → place ≡ length bytes - length rest → IsRefusedAt bytes place Trailing
trailing_at bytes all message rest place read some is =
    let part = message_code.sound bytes all message rest read in
    let text = message_text message in
    let long : length text ≡ place = omega (arith, ap length part.1, length-append text rest) in
    let front : take place bytes ≡ text = ap (take place) part.1 ∙ take_at text rest place long in
    record {
      unspelled = λ other spells.
          let same = ok_is _ _ (sym read ∙ read_spelled other bytes spells) in
          let none : length rest ≡ 0 = ap (λ (q : Message × List ℕ). length q.1) same in
          absurd (omega arith);
      at = record {
        bound = omega arith;
        front = record { value = message; more = []; fits = part.0; is = sym (append-nil (take place bytes) ∙ front) };
        longest = λ other within begins.
            elim (cases_lt place other) [
              | inl over ↦ absurd (nothing_longer message bytes rest other part.0 part.1 some (omega arith) begins)
              | inr under ↦ under
            ];
      };
      reason = (omega (arith, ap length part.1, length-append text rest), (message, record { fits = part.0; is = front }));
    }

short_at : (bytes : List ℕ) → IsBytes bytes → (place : ℕ) → message_at bytes ≡ Err fault.Short → place ≡ length bytes → IsRefusedAt bytes place Short
short_at bytes all place read is =
    let begins = message_code.short bytes all read in
    record {
      unspelled = λ message spells. let never : ◌≡◌ {A = Result (Message × List ℕ) Fault} (Err fault.Short) (Ok (message, [])) = sym read ∙ read_spelled message bytes spells in cc;
      at = record {
        bound = omega arith;
        front = let P : List ℕ → Type 0 = IsFront in subst P (sym (take_all place bytes (omega arith))) begins;
        longest = λ other within front. omega arith;
      };
      reason = is;
    }

bad_at : (bytes : List ℕ) → IsBytes bytes → (left place : ℕ) → message_at bytes ≡ Err (fault.Bad left) → place ≡ length bytes - left → IsRefusedAt bytes place BadValue
bad_at bytes all left place read is =
    let part = message_code.bad bytes all left read in
    let long : length part.front ≡ place = omega (arith, part.left_is, ap length part.is, length-append part.front (part.byte ∷ part.rest)) in
    let front : take place bytes ≡ part.front = ap (take place) part.is ∙ take_at part.front (part.byte ∷ part.rest) place long in
    let within : place < length bytes = omega (arith, ap length part.is, length-append part.front (part.byte ∷ part.rest)) in
    record {
      unspelled = λ message spells. let never : ◌≡◌ {A = Result (Message × List ℕ) Fault} (Err (fault.Bad left)) (Ok (message, [])) = sym read ∙ read_spelled message bytes spells in cc;
      at = record {
        bound = omega arith;
        front = let P : List ℕ → Type 0 = IsFront in subst P (sym front) part.begins;
        longest = λ other bound begins.
            elim (cases_lt place other) [
              | inl over ↦ absurd (nothing_with part.front part.byte part.rest bytes other part.is part.always (omega arith) begins)
              | inr under ↦ under
            ];
      };
      reason = (
        within,
        λ message spells.
            let whole : bytes ≡ message_text message ++ part.byte ∷ part.rest = part.is ∙ ap (λ (t : List ℕ). t ++ part.byte ∷ part.rest) (sym front ∙ spells.is) in
            let never : ◌≡◌ {A = Result (Message × List ℕ) Fault} (Err (fault.Bad left)) (Ok (message, part.byte ∷ part.rest)) = sym read ∙ ap message_at whole ∙ message_code.back message (part.byte ∷ part.rest) spells.fits in
            cc,
      );
    }

pub fault_of : (bytes : List ℕ) → IsBytes bytes → (result : Result Message WireAnswer) → IsVerdict bytes (message_at bytes) result → (place : ℕ) (why : WireWhy) → result ≡ Err (Refused place why) → IsRefusedAt bytes place why
fault_of bytes all result verdict place why is =
    fault_at bytes all place why (subst (IsVerdict bytes (message_at bytes)) is verdict)
  where
    fault_at : (bytes : List ℕ) → IsBytes bytes → (place : ℕ) (why : WireWhy) → IsFault bytes (message_at bytes) place why → IsRefusedAt bytes place why
    fault_at bytes all place Trailing found = trailing_at bytes all found.0.0 found.0.1 place found.1 found.2 found.3
    fault_at bytes all place Short found = short_at bytes all place found.0 found.1
    fault_at bytes all place BadValue found = bad_at bytes all found.0 place found.1 found.2

-- there is one refusal at most
same_reason : (bytes : List ℕ) (place : ℕ) (one other : WireWhy) → IsReason bytes place one → IsReason bytes place other → one ≡ other
same_reason bytes place Trailing Trailing x y = refl
same_reason bytes place Trailing Short x y = absurd (omega (arith, x.0, y))
same_reason bytes place Trailing BadValue x y = absurd (y.1 x.1.0 x.1.1)
same_reason bytes place Short Trailing x y = absurd (omega (arith, y.0, x))
same_reason bytes place Short Short x y = refl
same_reason bytes place Short BadValue x y = absurd (omega (arith, y.0, x))
same_reason bytes place BadValue Trailing x y = absurd (x.1 y.1.0 y.1.1)
same_reason bytes place BadValue Short x y = absurd (omega (arith, x.0, y))
same_reason bytes place BadValue BadValue x y = refl

same_place : (bytes : List ℕ) (one other : ℕ) → IsPlace bytes one → IsPlace bytes other → one ≡ other
same_place bytes one other x y =
    let below = y.longest one x.bound x.front in
    let above = x.longest other y.bound y.front in
    omega arith

same_refusal : (bytes : List ℕ) (place other : ℕ) (why reason : WireWhy) → IsRefusedAt bytes place why → IsRefusedAt bytes other reason → (other ≡ place) × (reason ≡ why)
same_refusal bytes place other why reason x y =
    let places = same_place bytes other place y.at x.at in
    (places, same_reason bytes place reason why (subst (λ (n : ℕ). IsReason bytes n reason) places y.reason) x.reason)

pub every_fault_of : (bytes : List ℕ) → IsBytes bytes → (result : Result Message WireAnswer) → IsVerdict bytes (message_at bytes) result → (place : ℕ) (why : WireWhy) → IsRefusedAt bytes place why → IsRefused place why result
every_fault_of bytes all (Ok found) verdict place why refused = refused.unspelled found (message_of bytes all (Ok found) verdict)
every_fault_of bytes all (Err Memory) verdict place why refused = tt
every_fault_of bytes all (Err (Refused other reason)) verdict place why refused =
    same_refusal bytes place other why reason refused (fault_of bytes all (Err (Refused other reason)) verdict other reason refl)
