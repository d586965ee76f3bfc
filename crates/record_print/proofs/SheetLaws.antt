-- What laying text over a sheet, skipping places and closing a window leave.
use Rattle.std.proofs.Common.{◌≡◌, ℕ, ◌+◌, ◌-◌, ◌<◌, ◌≤◌, min, List, [], ◌∷◌, ◌++◌, length, take, drop, map, get_or, ◌⊎◌, inl, inr, refl, sym, ap, ◌∙◌, arith, length-append, length-take, length-drop, append_assoc, append-nil, subst}
use Rattle.std.proofs.lemmas.Bool.{cases_lt}
use Rattle.std.proofs.lemmas.List.{length-replicate, length-map, get_or-take, get_or-drop, get_or_append_left, get_or-append_right, get_or_past, get_or_default, get_or-replicate, get_or-map, length-take-le, same_lists}
use Rattle.record_print.specs.Printing.{spaces, fitted, line_of}
use Rattle.record_print.specs.Sheets.{Shows, Has, Adds}
use Rattle.record_print.specs.declared.sheet.Sheet.{Sheet}
use Rattle.record_print.proofs.LineLaws.{places_sized}

length-laid : (bytes more : List ℕ) (used visible : ℕ) → used + visible ≤ length bytes → visible ≤ length more → length (take used bytes ++ take visible more ++ drop (used + visible) bytes) ≡ length bytes
length-laid bytes more used visible inside within =
    let front_long = length-take-le used bytes (omega arith) in
    let laid_long = length-take-le visible more within in
    let part_long = length-append (take used bytes) (take visible more) in
    let rest_long = length-drop (used + visible) bytes in
    let whole_long = length-append (take used bytes ++ take visible more) (drop (used + visible) bytes) in
    omega arith

length-changed : (f : ℕ → ℕ) (bytes : List ℕ) (start end : ℕ) → start ≤ end → end ≤ length bytes → length (take start bytes ++ map f (take (end - start) (drop start bytes)) ++ drop end bytes) ≡ length bytes
length-changed f bytes start end order inside =
    let front_long = length-take-le start bytes (omega arith) in
    let drop_long = length-drop start bytes in
    let part_long = length-take-le (end - start) (drop start bytes) (omega arith) in
    let mapped_long = length-map (take (end - start) (drop start bytes)) f in
    let both_long = length-append (take start bytes) (map f (take (end - start) (drop start bytes))) in
    let rest_long = length-drop end bytes in
    let whole_long = length-append (take start bytes ++ map f (take (end - start) (drop start bytes))) (drop end bytes) in
    omega arith

-- what is seen of a text at a place: its byte below the limit, else a space
abbrev seen : ℕ → List ℕ → ℕ → ℕ
seen limit text k = get_or (take limit text) k 32

seen_below : (limit : ℕ) (text : List ℕ) (k : ℕ) → k < limit → seen limit text k ≡ get_or text k 32
seen_below limit text k h = get_or-take limit text k 32 h

seen_past : (limit : ℕ) (text : List ℕ) (k : ℕ) → (limit ≤ k) ⊎ (length text ≤ k) → seen limit text k ≡ 32
seen_past limit text k h =
    get_or_past (take limit text) k 32 (let long = length-take limit text in elim h [ inl l ↦ omega arith | inr t ↦ omega arith ])

-- text laid over the bytes that are left, as far as the limit and the last byte
pub lay_shows : (bytes more : List ℕ) (used limit : ℕ) (text : List ℕ) (count visible : ℕ) → Shows bytes used limit text → used ≤ limit → limit ≤ length bytes → 0 < length bytes → count ≡ min (length more) (limit - used) → visible ≡ min count (length bytes - 1 - used) → Shows (take used bytes ++ take visible more ++ drop (used + visible) bytes) (used + count) limit (text ++ more)
lay_shows bytes more used limit text count visible shows within room some count_is visible_is =
    let used_is = shows.used_is in
    let long = length-append text more in
    let front_long : length (take used bytes) ≡ used = length-take-le used bytes (omega arith) in
    let laid_long : length (take visible more) ≡ visible = length-take-le visible more (omega arith) in
    let part_long = length-append (take used bytes) (take visible more) in
    let rest_long = length-drop (used + visible) bytes in
    let whole_long = length-append (take used bytes ++ take visible more) (drop (used + visible) bytes) in
    let behind : (k d : ℕ) → used + visible ≤ k → get_or (take used bytes ++ take visible more ++ drop (used + visible) bytes) k d ≡ get_or bytes k d =
    λ k d h. get_or-append_right (take used bytes ++ take visible more) (drop (used + visible) bytes) (used + visible) k d (omega arith) h
    ∙ get_or-drop (used + visible) bytes (k - (used + visible)) d
    ∙ ap (λ i. get_or bytes i d) (omega arith) in
    record {
      used_is = omega arith;
      shown = λ k inside. elim (cases_lt k (used + visible)) [
        | inr past ↦
            behind k 0 past ∙ shows.shown k (omega arith)
            ∙ seen_past limit text k (elim (cases_lt (length text) (k + 1)) [ inl t ↦ inr (omega arith) | inr f ↦ inl (omega arith) ])
            ∙ sym (seen_past limit (text ++ more) k (elim (cases_lt (length (text ++ more)) (k + 1)) [ inl t ↦ inr (omega arith) | inr f ↦ inl (omega arith) ]))
        | inl laid ↦ elim (cases_lt k used) [
          | inl old ↦
              get_or_append_left (take used bytes ++ take visible more) (drop (used + visible) bytes) 0 k (omega arith)
              ∙ get_or_append_left (take used bytes) (take visible more) 0 k (omega arith)
              ∙ get_or-take used bytes k 0 old
              ∙ shows.shown k (omega arith)
              ∙ seen_below limit text k (omega arith)
              ∙ sym (get_or_append_left text more 32 k (omega arith))
              ∙ sym (seen_below limit (text ++ more) k (omega arith))
          | inr new ↦
              get_or_append_left (take used bytes ++ take visible more) (drop (used + visible) bytes) 0 k (omega arith)
              ∙ get_or-append_right (take used bytes) (take visible more) used k 0 front_long new
              ∙ get_or-take visible more (k - used) 0 (omega arith)
              ∙ get_or_default more (k - used) 0 32 (omega arith)
              ∙ sym (get_or-append_right text more used k 32 (omega arith) new)
              ∙ sym (seen_below limit (text ++ more) k (omega arith))
        ]
      ];
      ended = ap (λ n. get_or (take used bytes ++ take visible more ++ drop (used + visible) bytes) (n - 1) 0) (omega arith)
          ∙ elim (cases_lt (length bytes - 1) (used + visible)) [
            | inr past ↦ behind (length bytes - 1) 0 past ∙ shows.ended
            | inl full ↦
                get_or_append_left (take used bytes ++ take visible more) (drop (used + visible) bytes) 0 (length bytes - 1) (omega arith)
                ∙ get_or_append_left (take used bytes) (take visible more) 0 (length bytes - 1) (omega arith)
                ∙ get_or-take used bytes (length bytes - 1) 0 (omega arith) ∙ shows.ended
          ];
    }

-- the same is seen of two texts that differ in spaces behind their end, or behind the limit
same_seen : (limit : ℕ) (one other : List ℕ) (k : ℕ) → (k < limit → get_or one k 32 ≡ get_or other k 32) → seen limit one k ≡ seen limit other k
same_seen limit one other k same =
    elim (cases_lt k limit) [
      | inl below ↦ seen_below limit one k below ∙ same below ∙ sym (seen_below limit other k below)
      | inr past ↦ seen_past limit one k (inl past) ∙ sym (seen_past limit other k (inl past))
    ]

length-spaces : (count : ℕ) → length (spaces count) ≡ count
length-spaces count = length-replicate {A = ℕ} count 32

-- spaces behind a text are not told apart from none
spaces_behind : (text : List ℕ) (count k : ℕ) → get_or (text ++ spaces count) k 32 ≡ get_or text k 32
spaces_behind text count k =
    elim (cases_lt k (length text)) [
      | inl front ↦ get_or_append_left text (spaces count) 32 k front
      | inr behind ↦
          let blank : get_or (spaces count) (k - length text) 32 ≡ 32 = elim (cases_lt (k - length text) count) [
            | inl within ↦ get_or-replicate count (k - length text) 32 32 within
            | inr past ↦ get_or_past (spaces count) (k - length text) 32 (let long = length-spaces count in omega arith)
          ] in
          get_or-append_right text (spaces count) (length text) k 32 refl behind ∙ blank ∙ sym (get_or_past text k 32 behind)
    ]

-- on a sheet that is full more text is not seen
pub full_shows : (bytes : List ℕ) (used limit : ℕ) (text more : List ℕ) → Shows bytes used limit text → limit ≤ used → Shows bytes used limit (text ++ more)
full_shows bytes used limit text more shows full =
    let used_is = shows.used_is in
    let long = length-append text more in
    record {
      used_is = omega arith;
      shown = λ k inside. shows.shown k inside ∙ same_seen limit text (text ++ more) k (λ below. sym (get_or_append_left text more 32 k (omega arith)));
      ended = shows.ended;
    }

-- a text cut or padded to a width, at a place
fitted_at : (width : ℕ) (text : List ℕ) (k : ℕ) → get_or (fitted width text) k 32 ≡ seen width text k
fitted_at width text k = spaces_behind (take width text) (width - length text) k

pub length-fitted : (width : ℕ) (text : List ℕ) → length (fitted width text) ≡ width
length-fitted width text =
    let whole = length-append (take width text) (spaces (width - length text)) in
    let front = length-take width text in
    let blank = length-spaces (width - length text) in
    omega arith

-- the window is closed: what was written into it stands cut or padded
pub widen_shows : (bytes : List ℕ) (used window size width : ℕ) (text base : List ℕ) → Shows bytes used window (text ++ base) → size ≡ length bytes → window ≡ min (min (length text) size + width) size → Shows bytes window size (text ++ fitted width base)
widen_shows bytes used window size width text base shows size_is window_is =
    let long = length-append text (fitted width base) in
    let wide = length-fitted width base in
    record {
      used_is = omega arith;
      shown = λ k inside. shows.shown k inside ∙ elim (cases_lt k (length text)) [
        | inl front ↦
            let below : k < window = omega arith in
            seen_below window (text ++ base) k below ∙ get_or_append_left text base 32 k front
            ∙ sym (get_or_append_left text (fitted width base) 32 k front) ∙ sym (seen_below size (text ++ fitted width base) k (omega arith))
        | inr behind ↦
            sym (seen_below size (text ++ fitted width base) k (omega arith) ∙ get_or-append_right text (fitted width base) (length text) k 32 refl behind ∙ fitted_at width base (k - length text)
            ∙ elim (cases_lt k window) [
              | inl below ↦ seen_below width base (k - length text) (omega arith) ∙ sym (get_or-append_right text base (length text) k 32 refl behind) ∙ sym (seen_below window (text ++ base) k below)
              | inr past ↦ seen_past width base (k - length text) (inl (omega arith)) ∙ sym (seen_past window (text ++ base) k (inl past))
            ])
      ];
      ended = shows.ended;
    }

-- a sheet whose limit is its size is the line of its text
shows_sized : (bytes : List ℕ) (used size : ℕ) (text : List ℕ) → Shows bytes used size text → size ≡ length bytes → 0 < size → bytes ≡ fitted (size - 1) text ++ 10 ∷ []
shows_sized bytes used size text shows size_is some =
    let wide = length-fitted (size - 1) text in
    let long = length-append (fitted (size - 1) text) (10 ∷ []) in
    same_lists bytes (fitted (size - 1) text ++ 10 ∷ []) (omega arith)
    (λ k d inside. get_or_default bytes k d 0 (omega arith) ∙ elim (cases_lt (k + 1) size) [
      | inl front ↦
          shows.shown k (omega arith) ∙ seen_below size text k (omega arith) ∙ sym (seen_below (size - 1) text k (omega arith)) ∙ sym (fitted_at (size - 1) text k)
          ∙ sym (get_or_append_left (fitted (size - 1) text) (10 ∷ []) 32 k (omega arith)) ∙ get_or_default (fitted (size - 1) text ++ 10 ∷ []) k 32 d (omega arith)
      | inr last ↦
          let place : k ≡ length bytes - 1 = omega arith in
          let first : k - (size - 1) ≡ 0 = omega arith in
          ap (λ i. get_or bytes i 0) place ∙ shows.ended
          ∙ sym (get_or-append_right (fitted (size - 1) text) (10 ∷ []) (size - 1) k d wide (omega arith) ∙ ap (λ i. get_or (10 ∷ []) i d) first)
    ])

pub shows_line : (bytes : List ℕ) (used size : ℕ) (text : List ℕ) → Shows bytes used size text → size ≡ length bytes → 0 < size → bytes ≡ line_of size text
shows_line bytes used size text shows size_is some =
    shows_sized bytes used size text shows size_is some
    ∙ ap (λ places. take places text ++ spaces (size - 1 - length text) ++ 10 ∷ []) (sym (places_sized size some))

-- the bytes that were laid last, each changed by a function
pub change_shows : (f : ℕ → ℕ) (bytes new more : List ℕ) (start end used limit : ℕ) (text : List ℕ) → Shows bytes used limit (text ++ more) → start ≡ min (min (length text) limit) end → end ≡ min used (length bytes - 1) → limit ≤ length bytes → 0 < length bytes → new ≡ take start bytes ++ map f (take (end - start) (drop start bytes)) ++ drop end bytes → Shows new used limit (text ++ map f more)
change_shows f bytes new more start end used limit text shows start_is end_is room some new_is =
    let used_is = shows.used_is in
    let long = length-append text more in
    let long' = length-append text (map f more) in
    let same_long = length-map more f in
    let front = take start bytes in
    let part = take (end - start) (drop start bytes) in
    let front_long : length (take start bytes) ≡ start = length-take-le start bytes (omega arith) in
    let drop_long = length-drop start bytes in
    let part_long : length (take (end - start) (drop start bytes)) ≡ end - start = length-take-le (end - start) (drop start bytes) (omega arith) in
    let mapped_long = length-map (take (end - start) (drop start bytes)) f in
    let both_long = length-append (take start bytes) (map f (take (end - start) (drop start bytes))) in
    let rest_long = length-drop end bytes in
    let whole_long = length-append (take start bytes ++ map f (take (end - start) (drop start bytes))) (drop end bytes) in
    let size : length new ≡ length bytes = ap length new_is ∙ omega arith in
    let behind : (k : ℕ) → end ≤ k → get_or new k 0 ≡ get_or bytes k 0 =
    λ k h. ap (λ l. get_or l k 0) new_is
    ∙ get_or-append_right (take start bytes ++ map f (take (end - start) (drop start bytes))) (drop end bytes) end k 0 (omega arith) h
    ∙ get_or-drop end bytes (k - end) 0 ∙ ap (λ i. get_or bytes i 0) (omega arith) in
    record {
      used_is = omega arith;
      shown = λ k inside. elim (cases_lt k end) [
        | inr past ↦
            behind k past ∙ shows.shown k (omega arith)
            ∙ seen_past limit (text ++ more) k (elim (cases_lt (length (text ++ more)) (k + 1)) [ inl t ↦ inr (omega arith) | inr g ↦ inl (omega arith) ])
            ∙ sym (seen_past limit (text ++ map f more) k (elim (cases_lt (length (text ++ map f more)) (k + 1)) [ inl t ↦ inr (omega arith) | inr g ↦ inl (omega arith) ]))
        | inl before ↦ elim (cases_lt k start) [
          | inl old ↦
              ap (λ l. get_or l k 0) new_is
              ∙ get_or_append_left (take start bytes ++ map f (take (end - start) (drop start bytes))) (drop end bytes) 0 k (omega arith)
              ∙ get_or_append_left (take start bytes) (map f (take (end - start) (drop start bytes))) 0 k (omega arith)
              ∙ get_or-take start bytes k 0 old
              ∙ shows.shown k (omega arith)
              ∙ seen_below limit (text ++ more) k (omega arith) ∙ get_or_append_left text more 32 k (omega arith)
              ∙ sym (get_or_append_left text (map f more) 32 k (omega arith)) ∙ sym (seen_below limit (text ++ map f more) k (omega arith))
          | inr laid ↦
              ap (λ l. get_or l k 0) new_is
              ∙ get_or_append_left (take start bytes ++ map f (take (end - start) (drop start bytes))) (drop end bytes) 0 k (omega arith)
              ∙ get_or-append_right (take start bytes) (map f (take (end - start) (drop start bytes))) start k 0 front_long laid
              ∙ get_or-map f (take (end - start) (drop start bytes)) (k - start) 0 0 (omega arith)
              ∙ ap f (get_or-take (end - start) (drop start bytes) (k - start) 0 (omega arith)
              ∙ get_or-drop start bytes (k - start) 0 ∙ ap (λ i. get_or bytes i 0) (omega arith)
              ∙ shows.shown k (omega arith) ∙ seen_below limit (text ++ more) k (omega arith)
              ∙ get_or-append_right text more start k 32 (omega arith) laid ∙ get_or_default more (k - start) 32 0 (omega arith))
              ∙ sym (get_or-map f more (k - start) 0 32 (omega arith))
              ∙ sym (get_or-append_right text (map f more) start k 32 (omega arith) laid) ∙ sym (seen_below limit (text ++ map f more) k (omega arith))
        ]
      ];
      ended = ap (λ n. get_or new (n - 1) 0) size ∙ behind (length bytes - 1) (omega arith) ∙ shows.ended;
    }

-- a sheet over which text was laid as far as the limit and the last byte
pub put_adds : (old new : Sheet) (more : List ℕ) (count visible : ℕ) → new.limit ≡ old.limit → new.used ≡ old.used + count → count ≡ min (length more) (old.limit - old.used) → visible ≡ min count (length old.bytes.items - 1 - old.used) → new.bytes.items ≡ take old.used old.bytes.items ++ take visible more ++ drop (old.used + visible) old.bytes.items → Adds old new more
put_adds old new more count visible limit used count_is visible_is bytes =
    let some = old.some in
    let room = old.room in
    let within = old.within in
    record {
      limit = limit;
      size = ap length bytes ∙ length-laid old.bytes.items more old.used visible (omega arith) (omega arith);
      text = λ text has.
          let laid = lay_shows old.bytes.items more old.used old.limit text count visible has (omega arith) (omega arith) (omega arith) count_is visible_is in
          rw (bytes, used, limit) laid;
    }

-- a sheet whose last text was changed, byte by byte
pub change_adds : (f : ℕ → ℕ) (old middle new : Sheet) (more : List ℕ) (start end : ℕ) → Adds old middle more → start ≡ min old.used end → end ≡ min middle.used (length middle.bytes.items - 1) → new.limit ≡ middle.limit → new.used ≡ middle.used → new.bytes.items ≡ take start middle.bytes.items ++ map f (take (end - start) (drop start middle.bytes.items)) ++ drop end middle.bytes.items → Adds old new (map f more)
change_adds f old middle new more start end adds start_is end_is limit used bytes =
    let some = middle.some in
    let room = middle.room in
    let within = middle.within in
    record {
      limit = limit ∙ adds.limit;
      size = ap length bytes ∙ length-changed f middle.bytes.items start end (omega arith) (omega arith) ∙ adds.size;
      text = λ text has.
          let was = has.used_is in
          let same = adds.limit in
          rw (used, limit)
          (change_shows f middle.bytes.items new.bytes.items more start end middle.used middle.limit text (adds.text text has) (omega arith) end_is room some bytes);
    }

-- one text behind another
pub adds_then : (one two three : Sheet) (first second : List ℕ) → Adds one two first → Adds two three second → Adds one three (first ++ second)
adds_then one two three first second a b =
    record {
      limit = b.limit ∙ a.limit;
      size = b.size ∙ a.size;
      text = λ text has. subst (Has three) (append_assoc text first second) (b.text (text ++ first) (a.text text has));
    }

-- nothing
pub adds_none : (sheet : Sheet) → Adds sheet sheet []
adds_none sheet = record { limit = refl; size = refl; text = λ text has. subst (Has sheet) (sym (append-nil text)) has }

-- text that a full sheet does not show
pub full_adds : (old new : Sheet) (text more : List ℕ) → Adds old new text → new.limit ≤ new.used → Adds old new (text ++ more)
full_adds old new text more a full =
    record {
      limit = a.limit;
      size = a.size;
      text = λ before has. subst (Has new) (append_assoc before text more) (full_shows new.bytes.items new.used new.limit (before ++ text) more (a.text before has) full);
    }
