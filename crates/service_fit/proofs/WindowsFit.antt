-- The windows of a fit value stay fit as one has a reply more, and no client's next number falls.
use Rattle.std.proofs.Common.{◌≡◌, ℕ, ◌+◌, ◌<◌, ◌≤◌, ◌==◌, nat_lt, Bool, true, false, cond, List, [], ◌∷◌, length, take, reverse, map, refl, ap, sym, ◌∙◌, subst, arith}
use Rattle.std.specs.Prelude.{Option, Some, None, find, option_map, MatchOption}
use Rattle.std.specs.Option.{option_map_or}
use Rattle.std.specs.List.{AllByRecursion}
use Rattle.std.proofs.lemmas.Bool.Decides.{nat_tests}
use Rattle.std.proofs.lemmas.List.{length-reverse, reverse-reverse}
use Rattle.client_set.specs.Rising.{put, IsOrder, IsRising}
use Rattle.client_set.proofs.RisingLaws.{IsRising-put, IsOrder-nat_lt}
use Rattle.log_history.proofs.FirstLaws.{find-map}
use Rattle.client_window.specs.Windows.{Kept, window_of, HasRepliesBefore}
use Rattle.client_window.proofs.Keeping.{HasRepliesBefore-more}
use Rattle.calls.specs.declared.reply.Reply.{Reply}
use Rattle.calls.specs.declared.saved.SavedWindow.{SavedWindow}
use Rattle.plain_service.specs.Fitness.{AreClients, IsFitWindow}
use Rattle.plain_service.specs.Legal.{IsClient}
use Rattle.plain_service.proofs.ListLaws.{each-weaker, each-put, each-both, each-mapped, mapped-each}
use Rattle.service_table.specs.declared.caller.ClientWindow.{ClientWindow}
use Rattle.service_table.specs.Tables.{client_window, saved_window, is_window_for, window_before}
use Rattle.service_table.specs.Steps.{window_for, with_reply, answered}
use Rattle.service_fit.proofs.RisingMaps.{rising-mapped, mapped-rising}

-- orders by a client's number

pub IsOrder-by : {X : Type 0} (client : X → ℕ) → IsOrder (λ x y. nat_lt (client x) (client y))
IsOrder-by client = record {
  self = λ x. IsOrder-nat_lt.self (client x);
  onward = λ x y z. IsOrder-nat_lt.onward (client x) (client y) (client z);
  beside = λ x y z. IsOrder-nat_lt.beside (client x) (client y) (client z);
}

-- the window that is found once one is put in its place

apart-above : (x new other : ℕ) → nat_lt x new ≡ true → (x == other) ≡ true → (new == other) ≡ false
apart-above x new other less same = grind (arith, nat_tests)

apart-same : (x new other : ℕ) → nat_lt new x ≡ false → nat_lt x new ≡ false → (new == other) ≡ false → (x == other) ≡ false
apart-same x new other low high apart = grind (arith, nat_tests)

put-found : (new : ClientWindow) (other : ℕ) (windows : List ClientWindow) → find (is_window_for other) (put window_before new windows) ≡ cond (new.client == other) (Some new) (find (is_window_for other) windows)
put-found new other [] = refl
put-found new other (x ∷ xs) = placed (nat_lt new.client x.client) (nat_lt x.client new.client) refl refl (put-found new other xs) where
  rest : Option ClientWindow
  rest = find (is_window_for other) xs

  swapped : (mine theirs : Bool) → (theirs ≡ true → mine ≡ false) → cond theirs (Some x) (cond mine (Some new) (find (is_window_for other) xs)) ≡ cond mine (Some new) (cond theirs (Some x) (find (is_window_for other) xs))
  swapped true true never = let e : true ≡ false = never refl in cc
  swapped true false never = refl
  swapped false true never = refl
  swapped false false never = refl

  replaced : (mine theirs : Bool) → (mine ≡ false → theirs ≡ false) → cond mine (Some new) (find (is_window_for other) xs) ≡ cond mine (Some new) (cond theirs (Some x) (find (is_window_for other) xs))
  replaced true theirs never = refl
  replaced false true never = let e : true ≡ false = never refl in cc
  replaced false false never = refl

  placed : (low high : Bool) → nat_lt new.client x.client ≡ low → nat_lt x.client new.client ≡ high → find (is_window_for other) (put window_before new xs) ≡ cond (new.client == other) (Some new) (find (is_window_for other) xs) → find (is_window_for other) (cond low (new ∷ x ∷ xs) (cond high (x ∷ put window_before new xs) (new ∷ xs))) ≡ cond (new.client == other) (Some new) (cond (x.client == other) (Some x) (find (is_window_for other) xs))
  placed true high below above behind = refl
  placed false true below above behind =
      ap (λ found. cond (x.client == other) (Some x) found) behind
      ∙ swapped (new.client == other) (x.client == other) (apart-above x.client new.client other above)
  placed false false below above behind =
      replaced (new.client == other) (x.client == other) (apart-same x.client new.client other below above)

-- a client made a call of this number

abbrev pub WasCalled : Option ClientWindow → (number : ℕ) → Type 0
WasCalled found number = MatchOption found ⊥ (λ caller. number < caller.window.next)

abbrev pub HasCalledIn : List ClientWindow → (client number : ℕ) → Type 0
HasCalledIn windows client number = WasCalled (find (is_window_for client) windows) number

called-below : (found : Option ClientWindow) (number : ℕ) → WasCalled found number → number < (option_map_or (λ (caller : ClientWindow). caller.window) found (window_of [])).next
called-below None number called = absurd called
called-below (Some caller) number called = called

-- **its number is below that of the client's next one**
pub called-number : (windows : List ClientWindow) (client number : ℕ) → HasCalledIn windows client number → number < (window_for client windows).next
called-number windows client number called = called-below (find (is_window_for client) windows) number called

module _ (client : ℕ) (reply : Reply) (windows : List ClientWindow) where
  abbrev pub now : ClientWindow
  now = client_window client (with_reply reply (window_for client windows))

  found-now : (other : ℕ) → find (is_window_for other) (answered client reply windows) ≡ cond (client == other) (Some now) (find (is_window_for other) windows)
  found-now other = put-found now other windows

  -- **a call that was made stays made**
  pub called-later : (other number : ℕ) → HasCalledIn windows other number → HasCalledIn (answered client reply windows) other number
  called-later other number called =
      subst (λ found. WasCalled found number) (sym (found-now other)) (by_case (client == other) refl) where
        by_case : (mine : Bool) → (client == other) ≡ mine → WasCalled (cond mine (Some now) (find (is_window_for other) windows)) number
        by_case true is =
            let same : client ≡ other = grind (arith, nat_tests) in
            let below = called-number windows other number called in
            let e = ap (λ c. (window_for c windows).next) same in
            omega (arith, below, e)
        by_case false is = called

  -- **and this call is made then**
  pub called-now : (seq : ℕ) → seq ≡ (window_for client windows).next → HasCalledIn (answered client reply windows) client seq
  called-now seq next =
      let same : (client == client) ≡ true = grind (arith, nat_tests) in
      subst (λ found. WasCalled found seq) (sym (found-now client))
      (subst (λ mine. WasCalled (cond mine (Some now) (find (is_window_for client) windows)) seq) (sym same) (omega (arith, next)))

-- the windows of a fit value

pub record IsFitCaller (number : ℕ) (caller : ClientWindow) : Type 0 where
  pub client : IsClient caller.client
  pub replies : HasRepliesBefore caller.window.next (length caller.window.replies)
  pub next : caller.window.next ≤ number + 1

pub record AreFitCallers (number : ℕ) (windows : List ClientWindow) : Type 0 where
  pub order : IsRising window_before windows
  pub each : AllByRecursion (IsFitCaller number) windows

pub record IsFitKept (number : ℕ) (window : Kept Reply) : Type 0 where
  pub replies : HasRepliesBefore window.next (length window.replies)
  pub next : window.next ≤ number + 1

window-fit : (number client : ℕ) (windows : List ClientWindow) → AllByRecursion (IsFitCaller number) windows → IsFitKept number (window_for client windows)
window-fit number client [] each = record { replies = record { first = omega arith; kept = refl }; next = omega arith }
window-fit number client (x ∷ windows) each = by_case (x.client == client) (window-fit number client windows each.1) where
  by_case : (mine : Bool) → IsFitKept number (window_for client windows) → IsFitKept number (option_map_or (λ (caller : ClientWindow). caller.window) (cond mine (Some x) (find (is_window_for client) windows)) (window_of []))
  by_case true behind = record { replies = each.0.replies; next = each.0.next }
  by_case false behind = behind

-- **how many calls a client made**
pub next-few : (client number : ℕ) (windows : List ClientWindow) → AllByRecursion (IsFitCaller number) windows → (window_for client windows).next ≤ number + 1
next-few client number windows each = (window-fit number client windows each).next

pub callers-later : (number : ℕ) (windows : List ClientWindow) → AreFitCallers number windows → AreFitCallers (number + 1) windows
callers-later number windows fit = record {
  order = fit.order;
  each = each-weaker (IsFitCaller number) (IsFitCaller (number + 1)) (λ caller is. record { client = is.client; replies = is.replies; next = omega (arith, is.next) }) windows fit.each;
}

-- **the windows after a call**
-- the replies of a window that keeps one more
replies-more : (next : ℕ) (reply : Reply) (kept : List Reply) → HasRepliesBefore next (length kept) → HasRepliesBefore (next + 1) (length (take 32 (reply ∷ kept)))
replies-more next reply kept before =
    let now = take 32 (reply ∷ kept) in
    let turned = reverse-reverse now ∙ ap (λ (replies : List Reply). take 32 (reply ∷ replies)) (sym (reverse-reverse kept)) in
    let oldest_first = subst (HasRepliesBefore next) (sym (length-reverse kept)) before in
    subst (HasRepliesBefore (next + 1)) (length-reverse now) (HasRepliesBefore-more next reply (reverse kept) (reverse now) oldest_first turned)

pub callers-answered : (number client : ℕ) (reply : Reply) (windows : List ClientWindow) → IsClient client → AreFitCallers number windows → AreFitCallers (number + 1) (answered client reply windows)
callers-answered number client reply windows caller fit =
    let before = window-fit number client windows fit.each in
    let window = window_for client windows in
    let new = client_window client (with_reply reply window) in
    record {
      order = IsRising-put window_before (IsOrder-by (λ (one : ClientWindow). one.client)) new windows fit.order;
      each = each-put (IsFitCaller (number + 1)) window_before new windows
          (record { client = caller; replies = replies-more window.next reply window.replies before.replies; next = omega (arith, before.next) })
          (callers-later number windows fit).each;
    }

-- the windows as they are saved

module _ (number : ℕ) (windows : List ClientWindow) where
  abbrev pub client_of : SavedWindow → ℕ
  client_of window = window.client

  abbrev pub saved_before : SavedWindow → SavedWindow → Bool
  saved_before one other = nat_lt one.client other.client

  replies-same : (caller : ClientWindow) → length (reverse caller.window.replies) ≡ length caller.window.replies
  replies-same caller = length-reverse caller.window.replies

  pub callers-of : AreClients (map client_of (map saved_window windows)) → AllByRecursion (IsFitWindow number) (map saved_window windows) → AreFitCallers number windows
  callers-of clients each = record {
    order = mapped-rising saved_window saved_before window_before (λ _ _. refl) windows
        (mapped-rising client_of nat_lt saved_before (λ _ _. refl) (map saved_window windows) clients.rising);
    each = each-weaker (λ caller. IsClient caller.client × IsFitWindow number (saved_window caller)) (IsFitCaller number)
        (λ caller is. record { client = is.0; replies = subst (HasRepliesBefore caller.window.next) (replies-same caller) is.1.replies; next = is.1.next }) windows
        (each-both (λ (caller : ClientWindow). IsClient caller.client) (λ caller. IsFitWindow number (saved_window caller)) windows
        (mapped-each (λ (window : SavedWindow). IsClient window.client) saved_window windows (mapped-each IsClient client_of (map saved_window windows) clients.each))
        (mapped-each (IsFitWindow number) saved_window windows each));
  }

  pub clients-saved : AreFitCallers number windows → AreClients (map client_of (map saved_window windows))
  clients-saved fit = record {
    rising = rising-mapped client_of nat_lt saved_before (λ _ _. refl) (map saved_window windows)
        (rising-mapped saved_window saved_before window_before (λ _ _. refl) windows fit.order);
    each = each-mapped IsClient client_of (map saved_window windows)
        (each-mapped (λ (window : SavedWindow). IsClient window.client) saved_window windows
        (each-weaker (IsFitCaller number) (λ caller. IsClient caller.client) (λ caller is. is.client) windows fit.each));
  }

  pub windows-saved : AreFitCallers number windows → AllByRecursion (IsFitWindow number) (map saved_window windows)
  windows-saved fit =
      each-mapped (IsFitWindow number) saved_window windows
      (each-weaker (IsFitCaller number) (λ caller. IsFitWindow number (saved_window caller))
      (λ caller is. record { replies = subst (HasRepliesBefore caller.window.next) (sym (replies-same caller)) is.replies; next = is.next }) windows fit.each)

-- a call that was made, by the saved windows

abbrev pub WasSaved : Option SavedWindow → (number : ℕ) → Type 0
WasSaved found number = MatchOption found ⊥ (λ window. number < window.next)

found-saved : (client : ℕ) (windows : List ClientWindow) → find (λ (window : SavedWindow). window.client == client) (map saved_window windows) ≡ option_map saved_window (find (is_window_for client) windows)
found-saved client windows =
    find-map saved_window (is_window_for client) (λ (window : SavedWindow). window.client == client) (λ _. refl) windows

saved-of : (found : Option ClientWindow) (number : ℕ) → WasCalled found number → WasSaved (option_map saved_window found) number
saved-of None number called = called
saved-of (Some caller) number called = called

of-saved : (found : Option ClientWindow) (number : ℕ) → WasSaved (option_map saved_window found) number → WasCalled found number
of-saved None number called = called
of-saved (Some caller) number called = called

pub called-saved : (windows : List ClientWindow) (client number : ℕ) → HasCalledIn windows client number → WasSaved (find (λ (window : SavedWindow). window.client == client) (map saved_window windows)) number
called-saved windows client number called =
    subst (λ found. WasSaved found number) (sym (found-saved client windows)) (saved-of (find (is_window_for client) windows) number called)

pub called-of : (windows : List ClientWindow) (client number : ℕ) → WasSaved (find (λ (window : SavedWindow). window.client == client) (map saved_window windows)) number → HasCalledIn windows client number
called-of windows client number called =
    of-saved (find (is_window_for client) windows) number (subst (λ found. WasSaved found number) (found-saved client windows) called)
