-- The windows after one more call: the client's has one reply more, and the others are as they were.
use Rattle.std.proofs.Common.{◌≡◌, ℕ, ◌+◌, ◌==◌, nat_lt, Bool, true, false, ◌||◌, cond, List, [], ◌∷◌, length, take, map, refl, ap, sym, ◌∙◌, arith}
use Rattle.std.specs.Prelude.{Some, ℤ, find}
use Rattle.std.specs.Option.{option_map_or}
use Rattle.std.proofs.lemmas.Bool.Decides.{nat_tests}
use Rattle.std.proofs.lemmas.Bool.{eqb-true, or_parts}
use Rattle.client_set.specs.Members.{has}
use Rattle.client_set.specs.Rising.{put, ComesFirst, IsRising}
use Rattle.client_set.proofs.RisingLaws.{IsOrder-nat_lt, IsRising-put, has-put, map-put}
use Rattle.client_window.specs.Windows.{Kept, window_of}
use Rattle.client_window.proofs.Keeping.{window_of-more}
use Rattle.calls.specs.declared.call.Call.{Call}
use Rattle.calls.specs.declared.reply.Reply.{Reply}
use Rattle.calls.specs.declared.entry.Entry.{Entry}
use Rattle.calls.specs.declared.entry.Entry.TheVariants.{Called, Receipted}
use Rattle.plain_service.specs.Setups.{Setup}
use Rattle.plain_service.specs.Replies.{reply_of, replies_to, callers}
use Rattle.plain_service.proofs.ReplyLaws.{replies-own}
use Rattle.service_table.specs.declared.caller.ClientWindow.{ClientWindow}
use Rattle.service_table.specs.Tables.{client_window, is_window_for, window_before}
use Rattle.service_table.specs.Steps.{window_for, with_reply, answered}
use Rattle.service_table.specs.Histories.{caller_of}

callers-rising : (entries : List Entry) → IsRising nat_lt (callers entries)
callers-rising [] = tt
callers-rising (Called client seq now call ∷ entries) = IsRising-put nat_lt IsOrder-nat_lt client (callers entries) (callers-rising entries)
callers-rising (Receipted client key through now ∷ entries) = callers-rising entries

-- the window that is found under a client
found-window : (window : ℕ → Kept Reply) (client : ℕ) (clients : List ℕ) → window_for client (map (λ other. client_window other (window other)) clients) ≡ cond (has client clients) (window client) (window_of [])
found-window window client [] = refl
found-window window client (other ∷ clients) = by_case (other == client) refl (found-window window client clients) where
  others : List ClientWindow
  others = map (λ one. client_window one (window one)) clients

  by_case : (mine : Bool) → (other == client) ≡ mine → window_for client (map (λ one. client_window one (window one)) clients) ≡ cond (has client clients) (window client) (window_of []) → option_map_or (λ (caller : ClientWindow). caller.window) (cond mine (Some (client_window other (window other))) (find (is_window_for client) (map (λ one. client_window one (window one)) clients))) (window_of []) ≡ cond (mine || has client clients) (window client) (window_of [])
  by_case true is rest = ap window (eqb-true other client is)
  by_case false is rest = rest

-- a client that made no call was given no reply
unanswered : (setup : Setup) (client : ℕ) (entries : List Entry) → has client (callers entries) ≡ false → replies_to setup client entries ≡ []
unanswered setup client [] none = refl
unanswered setup client (Called caller seq now call ∷ entries) none =
    let beside : (caller == client || has client (callers entries)) ≡ false = sym (has-put client caller (callers entries)) ∙ none in
    let rest = unanswered setup client entries (or_parts (caller == client) (has client (callers entries)) beside).1 in
    ap (λ mine. cond mine (reply_of setup entries caller now call ∷ replies_to setup client entries) (replies_to setup client entries)) (or_parts (caller == client) (has client (callers entries)) beside).0 ∙ rest
unanswered setup client (Receipted caller key through now ∷ entries) none = unanswered setup client entries none

pub window-kept : (setup : Setup) (client : ℕ) (entries : List Entry) → window_for client (map (caller_of setup entries) (callers entries)) ≡ window_of (replies_to setup client entries)
window-kept setup client entries =
    found-window (λ other. window_of (replies_to setup other entries)) client (callers entries)
    ∙ by_case (has client (callers entries)) refl where
      by_case : (called : Bool) → has client (callers entries) ≡ called → cond called (window_of (replies_to setup client entries)) (window_of []) ≡ window_of (replies_to setup client entries)
      by_case true is = refl
      by_case false is = ap (λ (all : List Reply). window_of all) (sym (unanswered setup client entries is))

more-window : (reply : Reply) (all : List Reply) → with_reply reply (window_of all) ≡ window_of (reply ∷ all)
more-window reply all = window_of-more reply all (length all + 1) (take 32 all) (take 32 (reply ∷ take 32 all)) refl refl

-- an element that is put among others takes the part of its own client's

module _ (f g : ℕ → ClientWindow) (client : ℕ) (beside : (other : ℕ) → (client == other) ≡ false → f other ≡ g other) where
  map-behind : (others : List ℕ) → ComesFirst nat_lt client others → map f others ≡ map g others
  map-behind [] first = refl
  map-behind (other ∷ others) first =
      let later : nat_lt client other ≡ true = first.0 in
      let apart : (client == other) ≡ false = grind (arith, nat_tests) in
      ap (λ x. x ∷ map f others) (beside other apart) ∙ ap (λ xs. g other ∷ xs) (map-behind others first.1)

  behind-all : (other : ℕ) (others : List ℕ) → nat_lt client other ≡ true → ComesFirst nat_lt other others → ComesFirst nat_lt client others
  behind-all other [] lt first = tt
  behind-all other (next ∷ others) lt first =
      let step : nat_lt other next ≡ true = first.0 in
      let there : nat_lt client next ≡ true = grind (arith, nat_tests) in
      (there, behind-all other others lt first.1)

  at-client : (other : ℕ) (others : List ℕ) → nat_lt client other ≡ false → nat_lt other client ≡ false → ComesFirst nat_lt other others → ComesFirst nat_lt client others
  at-client other [] low high first = tt
  at-client other (next ∷ others) low high first =
      let step : nat_lt other next ≡ true = first.0 in
      let there : nat_lt client next ≡ true = grind (arith, nat_tests) in
      (there, at-client other others low high first.1)

  put-beside : (new : ClientWindow) → new.client ≡ client → ((other : ℕ) → (f other).client ≡ other) → ((other : ℕ) → (g other).client ≡ other) → (others : List ℕ) → IsRising nat_lt others → put window_before new (map f others) ≡ put window_before new (map g others)
  put-beside new own f_own g_own [] rising = refl
  put-beside new own f_own g_own (other ∷ others) rising =
      by_case (nat_lt client other) (nat_lt other client) refl refl (put-beside new own f_own g_own others rising.1) where
        tests : (x : ClientWindow) (xs : List ClientWindow) (n : ℕ) → x.client ≡ n → put window_before new (x ∷ xs) ≡ cond (nat_lt client n) (new ∷ x ∷ xs) (cond (nat_lt n client) (x ∷ put window_before new xs) (new ∷ xs))
        tests x xs n is =
            ap (λ c. cond (nat_lt c x.client) (new ∷ x ∷ xs) (cond (nat_lt x.client c) (x ∷ put window_before new xs) (new ∷ xs))) own
            ∙ ap (λ k. cond (nat_lt client k) (new ∷ x ∷ xs) (cond (nat_lt k client) (x ∷ put window_before new xs) (new ∷ xs))) is

        placed : (below above : Bool) → nat_lt client other ≡ below → nat_lt other client ≡ above → put window_before new (map f others) ≡ put window_before new (map g others) → cond below (new ∷ f other ∷ map f others) (cond above (f other ∷ put window_before new (map f others)) (new ∷ map f others)) ≡ cond below (new ∷ g other ∷ map g others) (cond above (g other ∷ put window_before new (map g others)) (new ∷ map g others))
        placed true above low high rest =
            let apart : (client == other) ≡ false = grind (arith, nat_tests) in
            ap (λ x. new ∷ x ∷ map f others) (beside other apart)
            ∙ ap (λ xs. new ∷ g other ∷ xs) (map-behind others (behind-all other others low rising.0))
        placed false true low high rest =
            let apart : (client == other) ≡ false = grind (arith, nat_tests) in
            ap (λ x. x ∷ put window_before new (map f others)) (beside other apart)
            ∙ ap (λ xs. g other ∷ xs) rest
        placed false false low high rest = ap (λ xs. new ∷ xs) (map-behind others (at-client other others low high rising.0))

        by_case : (below above : Bool) → nat_lt client other ≡ below → nat_lt other client ≡ above → put window_before new (map f others) ≡ put window_before new (map g others) → put window_before new (f other ∷ map f others) ≡ put window_before new (g other ∷ map g others)
        by_case below above low high rest =
            tests (f other) (map f others) other (f_own other)
            ∙ placed (nat_lt client other) (nat_lt other client) refl refl rest
            ∙ sym (tests (g other) (map g others) other (g_own other))

-- **the windows after a call**
pub windows-called : (setup : Setup) (client seq : ℕ) (now : ℤ) (call : Call) (entries : List Entry) → map (caller_of setup (Called client seq now call ∷ entries)) (callers (Called client seq now call ∷ entries)) ≡ answered client (reply_of setup entries client now call) (map (caller_of setup entries) (callers entries))
windows-called setup client seq now call entries =
    let now_of = caller_of setup (Called client seq now call ∷ entries) in
    let then_of = caller_of setup entries in
    let reply = reply_of setup entries client now call in
    let own : now_of client ≡ client_window client (with_reply reply (window_for client (map then_of (callers entries)))) =
    ap (λ (all : List Reply). client_window client (window_of all)) (replies-own setup client seq now call entries)
    ∙ ap (client_window client) (sym (more-window reply (replies_to setup client entries)))
    ∙ ap (λ window. client_window client (with_reply reply window)) (sym (window-kept setup client entries)) in
    map-put now_of nat_lt window_before (λ _ _. refl) client (callers entries)
    ∙ put-beside now_of then_of client
    (λ other apart. ap (λ (mine : Bool). client_window other (window_of (cond mine (reply ∷ replies_to setup other entries) (replies_to setup other entries)))) apart)
    (now_of client) refl (λ _. refl) (λ _. refl) (callers entries) (callers-rising entries)
    ∙ ap (λ new. put window_before new (map then_of (callers entries))) own
