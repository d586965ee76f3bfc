-- To post a message that the net has changes nothing, and a call that was answered before is answered so again.
use Rattle.std.proofs.Common.{◌≡◌, ℕ, zero, suc, Bool, true, false, not, ◌||◌, if◌then◌else◌, Option, Some, None, List, [], ◌∷◌, length, refl, ap, sym, subst, ◌∙◌}
use Rattle.std.specs.Prelude.{ℤ}
use Rattle.std.specs.Str.{bytes_eq}
use Rattle.std.specs.Cmp.Lexicographic.{bytes_decides}
use Rattle.calls.specs.declared.call.Call.{Call}
use Rattle.calls.specs.declared.reply.Reply.{Reply}
use Rattle.calls.specs.declared.saved.Saved.{Saved}
use Rattle.wire.specs.declared.message.Message.{Message}
use Rattle.wire.specs.declared.message.Message.TheVariants.{Request}
use Rattle.wire.specs.MessageSpelling.{message_text}
use Rattle.wire.specs.Messages.{Spells}
use Rattle.message_net.specs.Nets as bytes
use Rattle.cluster_facts.proofs.Words.{by_test}
use Rattle.cluster_clients.specs.Spelled.{SpellingsTell}
use Rattle.cluster_clients.proofs.PostingSteps.{posts-known}
use Rattle.mirror.specs.declared.state.NodeState.{NodeState as Node}
use Rattle.mirror.specs.ByValue.{reply_again}
use Rattle.mirror.specs.Hearing.{repeated}
use Rattle.mirror.specs.Pairing.{IsHeard}
use Rattle.lead_server.specs.Again.{IsPosted, AnswersAs, is_answered, is_newest, is_reply, is_text, newest_like, reply_to, string_at}

same_bytes : (one other : List ℕ) → Some one ≡ Some other → one ≡ other
same_bytes one other is = cc

or-true : (b : Bool) → (b || true) ≡ true
or-true true = refl
or-true false = refl

-- the net knows what stands at a place
known-at : (place : ℕ) (string : List ℕ) (net : List (List ℕ)) → bytes.bytes_at place net ≡ Some string → bytes.knows string net ≡ true
known-at place string [] is = absurd (let e : None ≡ Some string = is in cc)
known-at place string (known ∷ net) is =
    let P : Bool → Type 0 = λ b. (if b then Some known else bytes.bytes_at place net) ≡ Some string → (bytes_eq string known || bytes.knows string net) ≡ true in
    by_test P place (suc (length net))
    (λ here found. ap (λ b. b || bytes.knows string net) ((bytes_decides string known).1 (sym (same_bytes known string found))))
    (λ below found. ap (λ b. bytes_eq string known || b) (known-at place string net found) ∙ or-true (bytes_eq string known))
    is

pub known-like : (place : Option ℕ) (string : List ℕ) (net : List (List ℕ)) → Some string ≡ string_at place net → bytes.knows string net ≡ true
known-like None string net is = absurd (let e : Some string ≡ None = is in cc)
known-like (Some place) string net is = known-at place string net (sym is)

-- what was found of a message's spelling
pub newest-by : (found : Option (List ℕ)) (message : Message) (string text : List ℕ) (front : ℕ) (net : List (List ℕ)) → Spells message string → text ≡ string → front ≡ bytes.front_of text → found ≡ newest_like front net → is_text found text ≡ is_newest message net
newest-by found message string text front net spells same first is =
    let whole : text ≡ message_text message = same ∙ spells.is in
    ap (λ (known : Option (List ℕ)). is_text known text) is
    ∙ ap (λ (number : ℕ). is_text (newest_like number net) text) first
    ∙ ap (λ (it : List ℕ). is_text (newest_like (bytes.front_of it) net) it) whole

pub is-posted : SpellingsTell → (message : Message) (string : List ℕ) (net : List (List ℕ)) → Spells message string → bytes.knows string net ≡ true → IsPosted message net
is-posted tell message string net spells known lines =
    posts-known tell message string net net lines lines spells (sym (ap (λ b. if b then net else string ∷ net) known)) (sym (ap not known)) refl

-- what is posted again whatever the call is
pub answers-as : (message : Message) (client seq : ℕ) (call : Call) (active : Node) (answer : Message) → message ≡ Request client seq call → ((other : Call) (now : ℤ) → IsHeard (Request client seq other) now active (repeated answer) active) → AnswersAs message active answer
answers-as message client seq call active answer is each now =
    subst (λ (it : Message). IsHeard it now active (repeated answer) active) (sym is) (each call now)

-- a call has a number above 0
pub reply-past : (saved : Saved) (client number : ℕ) → (number ≡ 0 → ⊥) → reply_again saved client number ≡ reply_to saved client number
reply-past saved client zero apart = absurd (apart refl)
reply-past saved client (suc number) apart = refl

-- by the reply that it gets again
pub answered-by : (saved : Saved) (message : Message) (client number : ℕ) (call : Call) (reply : Option Reply) (net : List (List ℕ)) → message ≡ Request client number call → reply ≡ reply_to saved client number → is_reply client number reply net ≡ is_answered saved message net
answered-by saved message client number call reply net is same =
    ap (λ (found : Option Reply). is_reply client number found net) same ∙ ap (λ (it : Message). is_answered saved it net) (sym is)

-- other messages get none
pub no-call : (saved : Saved) (message : Message) (net : List (List ℕ)) → ((client number : ℕ) (call : Call) → message ≡ Request client number call → ⊥) → is_answered saved message net ≡ false
no-call saved (Request client number call) net never = absurd (never client number call refl)
no-call saved _ net never = refl
