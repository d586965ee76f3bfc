-- The last marks follow from the replies that were taken.
use Rattle.std.proofs.Common.{◌≡◌, ◌≢◌, ℕ, ◌+◌, ◌<◌, ◌≤◌, ◌⊎◌, Bool, true, false, ◌==◌, cond, List, [], ◌∷◌, ◌++◌, length, Option, Some, None, refl, sym, ap, subst, ◌∙◌, inl, inr, arith}
use Rattle.std.specs.Option.{option_to_list}
use Rattle.std.proofs.lemmas.Bool.{ltb-true, ltb-false}
use Rattle.stream_config.specs.Equality.{same_name}
use Rattle.stream_config.proofs.Equalities.{decides_name}
use Rattle.cluster_facts.specs.Types.{Call, Reply, StreamName, Mark}
use Rattle.cluster_facts.specs.Lists.{Stands, IsNumbered, without}
use Rattle.cluster_facts.specs.Agents.{kept_call, mark_of, told_mark, is_later, put_mark, marks_with}
use Rattle.cluster_facts.specs.Facts.{Keeps, IsLast}
use Rattle.cluster_facts.specs.Facts.Keeps.{starts, waits, answered}
use Rattle.cluster_facts.proofs.Words.{by_test, Stands-left, Stands-right, Stands-append}

-- calls of lower numbers stay as they are
keeps-others : (number : ℕ) {heard : List (ℕ × Reply)} {sent kept : List (ℕ × Call)} {told : List (StreamName × Mark)} → IsNumbered sent → length sent < number → Keeps heard sent kept told
    → (without (λ call. call.0 == number) kept) ≡ kept
keeps-others number numbered above starts = refl
keeps-others number numbered above (waits {sent = sent} {kept = kept} call rest) =
    let deeper = keeps-others number numbered.1 (omega (arith, above)) rest in
    let P : Bool → Type 0 = λ b. cond b ((without (λ call. call.0 == number) kept)) (call ∷ (without (λ call. call.0 == number) kept)) ≡ call ∷ kept in
    by_test P call.0 number (λ same. absurd (let is = numbered.0 in omega (arith, same, is, above))) (λ different. ap (λ ks. call ∷ ks) deeper)
keeps-others number numbered above (answered call reply stands rest) = keeps-others number numbered.1 (omega (arith, above)) rest

-- one mark more, wherever it stands
record IsOneMore (one : Option (StreamName × Mark)) (old new : List (StreamName × Mark)) : Type 0 where
  new_is : (seen : StreamName × Mark) → Stands seen new → Stands seen (option_to_list one) ⊎ Stands seen old
  one_is : (seen : StreamName × Mark) → Stands seen (option_to_list one) → Stands seen new
  old_is : (seen : StreamName × Mark) → Stands seen old → Stands seen new

one-more : (one : Option (StreamName × Mark)) (old : List (StreamName × Mark)) → IsOneMore one old (option_to_list one ++ old)
one-more one old = record {
  new_is = λ seen there. Stands-append seen (option_to_list one) old there;
  one_is = λ seen there. Stands-left seen (option_to_list one) old there;
  old_is = λ seen there. Stands-right seen (option_to_list one) old there;
}

more-behind : (one : Option (StreamName × Mark)) (front old new : List (StreamName × Mark)) → IsOneMore one old new → IsOneMore one (front ++ old) (front ++ new)
more-behind one front old new is = record {
  new_is = λ seen there. elim (Stands-append seen front new there) [
    | inl left ↦ inr (Stands-left seen front old left)
    | inr right ↦ elim (is.new_is seen right) [ inl own ↦ inl own | inr before ↦ inr (Stands-right seen front old before) ]
  ];
  one_is = λ seen there. Stands-right seen front new (is.one_is seen there);
  old_is = λ seen there. elim (Stands-append seen front old there) [
    | inl left ↦ Stands-left seen front new left
    | inr right ↦ Stands-right seen front new (is.old_is seen right)
  ];
}

-- a reply is taken: its call waits no more
keeps-reply : (number : ℕ) (call : Call) (reply : Reply) {heard : List (ℕ × Reply)} {sent kept : List (ℕ × Call)} {told : List (StreamName × Mark)} → IsNumbered sent → Stands (number, reply) heard
    → kept_call number kept ≡ Some call → Keeps heard sent kept told → (now : List (StreamName × Mark)) × Keeps heard sent ((without (λ call. call.0 == number) kept)) now × IsOneMore (told_mark call reply) told now
keeps-reply number call reply numbered stands found starts = cc
keeps-reply number call reply {heard = heard} numbered stands found (waits {sent = sent} {kept = kept} {told = told} first rest) =
    let P : Bool → Type 0 = λ b. cond b (Some first.1) (kept_call number kept) ≡ Some call
    → (now : List (StreamName × Mark)) × Keeps heard (first ∷ sent) (cond b ((without (λ call. call.0 == number) kept)) (first ∷ (without (λ call. call.0 == number) kept))) now × IsOneMore (told_mark call reply) told now in
    by_test P first.0 number
    (λ same here.
    let is = numbered.0 in
    let calls : first.1 ≡ call = cc in
    let others : (without (λ call. call.0 == number) kept) ≡ kept = keeps-others number numbered.1 (omega (arith, same, is)) rest in
    let own : Keeps heard (first ∷ sent) kept (option_to_list (told_mark first.1 reply) ++ told) = answered first reply (subst (λ n. Stands (n, reply) heard) (sym same) stands) rest in (
      option_to_list (told_mark call reply) ++ told,
      subst (λ c. Keeps heard (first ∷ sent) ((without (λ call. call.0 == number) kept)) (option_to_list (told_mark c reply) ++ told)) calls
          (subst (λ ks. Keeps heard (first ∷ sent) ks (option_to_list (told_mark first.1 reply) ++ told)) (sym others) own),
      one-more (told_mark call reply) told,
    ))
    (λ different there.
    let deeper = keeps-reply number call reply numbered.1 stands there rest in
    (deeper.0, waits first deeper.1, deeper.2))
    found
keeps-reply number call reply {heard = heard} numbered stands found (answered {sent = sent} {kept = kept} {told = told} first answer standing rest) =
    let deeper = keeps-reply number call reply numbered.1 stands found rest in
    (option_to_list (told_mark first.1 answer) ++ deeper.0, answered first answer standing deeper.1, more-behind (told_mark call reply) (option_to_list (told_mark first.1 answer)) told deeper.0 deeper.2)

same-twice : {X : Type 0} (b : Bool) (x y z : X) → cond b x y ≡ cond b x (cond b z y)
same-twice true x y z = refl
same-twice false x y z = refl

never-both : {X : Type 0} (one other : Bool) (x y z : X) → (one ≡ true → other ≡ true → ⊥) → cond one x (cond other y z) ≡ cond other y (cond one x z)
never-both true true x y z both = absurd (both refl refl)
never-both true false x y z both = refl
never-both false other x y z both = refl

-- the mark that was put is that of its stream, and other streams keep theirs
mark_of-put : (seen : StreamName × Mark) (name : StreamName) (marks : List (StreamName × Mark)) → mark_of name (put_mark seen marks) ≡ cond (same_name seen.0 name) seen.1 (mark_of name marks)
mark_of-put seen name [] = refl
mark_of-put seen name (other ∷ marks) = by_case (same_name seen.0 other.0) refl (mark_of-put seen name marks) where
  by_case : (b : Bool) → same_name seen.0 other.0 ≡ b → mark_of name (put_mark seen marks) ≡ cond (same_name seen.0 name) seen.1 (mark_of name marks)
      → mark_of name (cond b (seen ∷ marks) (other ∷ put_mark seen marks)) ≡ cond (same_name seen.0 name) seen.1 (cond (same_name other.0 name) other.1 (mark_of name marks))
  by_case true is rest =
      let same : seen.0 ≡ other.0 = (decides_name seen.0 other.0).0 is in
      same-twice (same_name seen.0 name) seen.1 (mark_of name marks) other.1
      ∙ ap (λ s. cond (same_name seen.0 name) seen.1 (cond (same_name s name) other.1 (mark_of name marks))) same
  by_case false is rest =
      ap (λ m. cond (same_name other.0 name) other.1 m) rest
      ∙ never-both (same_name other.0 name) (same_name seen.0 name) other.1 seen.1 (mark_of name marks) (λ one two.
      let same : seen.0 ≡ other.0 = (decides_name seen.0 name).0 two ∙ sym ((decides_name other.0 name).0 one) in
      let no : true ≡ false = sym ((decides_name seen.0 other.0).1 same) ∙ is in
      absurd (cc))

-- the last mark behind one more
last-mark : (one : Option (StreamName × Mark)) (told now marks : List (StreamName × Mark)) (name : StreamName) → IsOneMore one told now → IsLast told name (mark_of name marks) → IsLast now name (mark_of name (marks_with one marks))
last-mark None told now marks name more last = record {
  stands = elim last.stands [ inl first ↦ inl first | inr there ↦ inr (more.old_is (name, mark_of name marks) there) ];
  most = λ mark there. elim (more.new_is (name, mark) there) [ inl own ↦ absurd own | inr before ↦ last.most mark before ];
}
last-mark (Some seen) told now marks name more last = by_case (is_later marks seen) refl where
  by_case : (b : Bool) → is_later marks seen ≡ b → IsLast now name (mark_of name (cond b (put_mark seen marks) marks))
  by_case true later =
      subst (λ m. IsLast now name m) (sym (mark_of-put seen name marks)) (by_name (same_name seen.0 name) refl) where
        by_name : (b : Bool) → same_name seen.0 name ≡ b → IsLast now name (cond b seen.1 (mark_of name marks))
        by_name true is =
            let same : seen.0 ≡ name = (decides_name seen.0 name).0 is in
            let above = ltb-true (mark_of seen.0 marks).since seen.1.since later in
            record {
              stands = inr (subst (λ s. Stands (s, seen.1) now) same (more.one_is seen (inl refl)));
              most = λ mark there. elim (more.new_is (name, mark) there) [
                | inl own ↦ elim own [ inl is ↦ (let e : mark.since ≡ seen.1.since = ap (λ (s : StreamName × Mark). s.1.since) is in omega (arith, e)) | inr none ↦ absurd none ]
                | inr before ↦
                    let le = last.most mark before in
                    let at : (mark_of name marks).since < seen.1.since = subst (λ s. (mark_of s marks).since < seen.1.since) same above in
                    omega (arith, le, at)
              ];
            }
        by_name false is =
            let different : seen.0 ≢ name = λ same. (let yes : same_name seen.0 name ≡ true = (decides_name seen.0 name).1 same in let no : true ≡ false = sym yes ∙ is in absurd (cc)) in
            record {
              stands = elim last.stands [ inl first ↦ inl first | inr there ↦ inr (more.old_is (name, mark_of name marks) there) ];
              most = λ mark there. elim (more.new_is (name, mark) there) [
                | inl own ↦ elim own [ inl is ↦ absurd (different (sym (ap (λ (s : StreamName × Mark). s.0) is))) | inr none ↦ absurd none ]
                | inr before ↦ last.most mark before
              ];
            }
  by_case false early =
      let low = ltb-false (mark_of seen.0 marks).since seen.1.since early in
      record {
        stands = elim last.stands [ inl first ↦ inl first | inr there ↦ inr (more.old_is (name, mark_of name marks) there) ];
        most = λ mark there. elim (more.new_is (name, mark) there) [
          | inl own ↦ elim own [
            | inl is ↦
                let mine : mark.since ≡ seen.1.since = ap (λ (s : StreamName × Mark). s.1.since) is in
                let at : name ≡ seen.0 = ap (λ (s : StreamName × Mark). s.0) is in
                subst (λ s. mark.since ≤ (mark_of s marks).since) (sym at) (omega (arith, mine, low))
            | inr none ↦ absurd none
          ]
          | inr before ↦ last.most mark before
        ];
      }

-- **the last marks follow from the replies taken, behind one more**
pub last-taken : (number : ℕ) (call : Call) (reply : Reply) (heard : List (ℕ × Reply)) (sent kept : List (ℕ × Call)) (told marks : List (StreamName × Mark)) → IsNumbered sent → Stands (number, reply) heard
    → kept_call number kept ≡ Some call → Keeps heard sent kept told → ((name : StreamName) → IsLast told name (mark_of name marks))
    → (now : List (StreamName × Mark)) × Keeps heard sent ((without (λ call. call.0 == number) kept)) now × ((name : StreamName) → IsLast now name (mark_of name (marks_with (told_mark call reply) marks)))
last-taken number call reply heard sent kept told marks numbered stands found keeps last =
    let taken = keeps-reply number call reply numbered stands found keeps in
    (taken.0, taken.1, λ name. last-mark (told_mark call reply) told taken.0 marks name taken.2 (last name))
