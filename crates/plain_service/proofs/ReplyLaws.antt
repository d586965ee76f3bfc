-- Replies stand once given: a longer history changes no earlier one; and each reply is that of the history before its entry.
use Rattle.std.proofs.Common.{◌≡◌, ◌≢◌, ℕ, ◌==◌, Bool, true, false, cond, List, [], ◌∷◌, ◌++◌, length, refl, ap, ◌∙◌, arith}
use Rattle.std.specs.Prelude.{ℤ}
use Rattle.std.proofs.lemmas.Bool.Decides.{nat_tests}
use Rattle.ais_values.specs.declared.status.Status.{Status}
use Rattle.ais_values.specs.declared.status.Status.TheVariants as status
use Rattle.calls.specs.declared.call.Call.{Call}
use Rattle.calls.specs.declared.reply.Reply.TheVariants.{Refused}
use Rattle.calls.specs.declared.entry.Entry.{Entry}
use Rattle.calls.specs.declared.entry.Entry.TheVariants.{Called, Receipted}
use Rattle.plain_service.specs.Setups.{Setup}
use Rattle.plain_service.specs.Answers.{status_of}
use Rattle.plain_service.specs.Changing.{past_of}
use Rattle.plain_service.specs.Replies.{ok_reply, reply_by, reply_of, calls_of, replies_to, EndsIn}

-- a client's call adds its reply to those given to the client before
pub replies-own : (setup : Setup) (client seq : ℕ) (now : ℤ) (call : Call) (past : List Entry) → replies_to setup client (Called client seq now call ∷ past) ≡ reply_of setup past client now call ∷ replies_to setup client past
replies-own setup client seq now call past =
    let same : (client == client) ≡ true = grind (arith, nat_tests) in
    ap (λ mine. cond mine (reply_of setup past client now call ∷ replies_to setup client past) (replies_to setup client past)) same

-- the replies that a client was given so far stand behind those that it is given later
EndsIn-more : {X : Type 0} (mine : Bool) (x : X) (late early : List X) → EndsIn late early → EndsIn (cond mine (x ∷ late) late) early
EndsIn-more true x late early ends = record { more = x ∷ ends.more; is = ap (λ xs. x ∷ xs) ends.is }
EndsIn-more false x late early ends = ends

pub replies-stand : (setup : Setup) (client : ℕ) (later past : List Entry) → EndsIn (replies_to setup client (later ++ past)) (replies_to setup client past)
replies-stand setup client [] past = record { more = []; is = refl }
replies-stand setup client (Called caller seq now call ∷ later) past =
    EndsIn-more (caller == client) (reply_of setup (later ++ past) caller now call) (replies_to setup client (later ++ past)) (replies_to setup client past) (replies-stand setup client later past)
replies-stand setup client (Receipted caller key through now ∷ later) past = replies-stand setup client later past

-- as many replies were given to a client as it made calls
pub length-replies : (setup : Setup) (client : ℕ) (past : List Entry) → length (replies_to setup client past) ≡ length (calls_of client past)
length-replies setup client [] = refl
length-replies setup client (Called caller seq now call ∷ past) = by_case (caller == client) (length-replies setup client past) where
  by_case : (mine : Bool) → length (replies_to setup client past) ≡ length (calls_of client past) → length (cond mine (reply_of setup past caller now call ∷ replies_to setup client past) (replies_to setup client past)) ≡ length (cond mine (call ∷ calls_of client past) (calls_of client past))
  by_case true same = omega (arith, same)
  by_case false same = same
length-replies setup client (Receipted caller key through now ∷ past) = length-replies setup client past

-- a call that the table refuses is told so, and another is told what an ok call is told
pub reply-refused : (setup : Setup) (past : List Entry) (client : ℕ) (now : ℤ) (call : Call) (refusal : Status) → refusal ≢ status.Ok → status_of setup (past_of setup past) client now call ≡ refusal → reply_of setup past client now call ≡ Refused refusal
unfolding reply_of
reply-refused setup past client now call refusal not_ok is = ap (λ s. reply_by s (ok_reply setup (past_of setup past) client now call)) is ∙ refused refusal not_ok where
  refused : (s : Status) → s ≢ status.Ok → reply_by s (ok_reply setup (past_of setup past) client now call) ≡ Refused s
  refused status.Ok never = absurd (never refl)
  refused _ never = refl

pub reply-ok : (setup : Setup) (past : List Entry) (client : ℕ) (now : ℤ) (call : Call) → status_of setup (past_of setup past) client now call ≡ status.Ok → reply_of setup past client now call ≡ ok_reply setup (past_of setup past) client now call
unfolding reply_of
reply-ok setup past client now call is = ap (λ s. reply_by s (ok_reply setup (past_of setup past) client now call)) is
