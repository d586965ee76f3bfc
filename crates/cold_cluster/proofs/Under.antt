-- Servers that do, under something more that they keep, what others do: what is asked of these holds of them.
use Rattle.std.proofs.Common.{◌≡◌, ℕ, zero, suc, true, Option, Some, None, List, ◌++◌, refl, sym, ap, subst, ◌∙◌}
use Rattle.cluster_facts.specs.Types.{Entry}
use Rattle.cluster_facts.specs.Service.{Plain}
use Rattle.cluster_facts.specs.World.{World}
use Rattle.cluster_events.specs.Lines.{Told}
use Rattle.cluster_events.specs.Outcomes.{Outcome, and_then}
use Rattle.cluster_events.specs.Servers.{State, Servers, or_else, advance, after_step, advances, drain}
use Rattle.cluster_events.specs.Serving.{Accepts, Drains, IsServing, IsCarried, IsSteady, IsStepped, AreStepped}
use Rattle.cluster_events.specs.Settling.{is_loud}

module _ {P Q : Type 0} (get : Q → P) where
  abbrev pub under : State Q → State P
  under state = record { world = state.world; peers = get state.peers }

  -- an outcome is another one, under what is kept more
  pub record Same (outcome : Outcome (State Q)) (other : Outcome (State P)) : Type 0 where
    pub state : under outcome.state ≡ other.state
    pub told : outcome.told ≡ other.told

  abbrev pub SameStep : Option (Outcome (State Q)) → Option (Outcome (State P)) → Type 0
  SameStep None None = Unit {0}
  SameStep (Some outcome) (Some other) = Same outcome other
  SameStep _ _ = ⊥

  pub record Does (T : Servers Q) (S : Servers P) : Type 0 where
    pub accept : (entry : Entry) (state : State Q) → Same (T.accept entry state) (S.accept entry (under state))
    pub mirror : (state : State Q) → SameStep (T.mirror state) (S.mirror (under state))
    pub ack : (state : State Q) → SameStep (T.ack state) (S.ack (under state))
    pub work : (state : State Q) → SameStep (T.work state) (S.work (under state))
    pub steps : T.steps ≡ S.steps

  either-same : (one two : Option (Outcome (State Q))) (first second : Option (Outcome (State P))) → SameStep one first → SameStep two second → SameStep (or_else one two) (or_else first second)
  either-same None two None second same other = other
  either-same (Some o) two (Some p) second same other = same
  either-same None two (Some p) second same other = elim same [ ]
  either-same (Some o) two None second same other = elim same [ ]

  module _ (T : Servers Q) (S : Servers P) (does : Does T S) where
    advance-same : (state : State Q) → SameStep (advance T state) (advance S (under state))
    advance-same state =
        either-same (T.mirror state) (or_else (T.ack state) (T.work state)) (S.mirror (under state)) (or_else (S.ack (under state)) (S.work (under state))) (does.mirror state)
        (either-same (T.ack state) (T.work state) (S.ack (under state)) (S.work (under state)) (does.ack state) (does.work state))

    after-same : (one : State Q → Outcome (State Q)) (other : State P → Outcome (State P)) → ((state : State Q) → Same (one state) (other (under state)))
        → (state : State Q) (step : Option (Outcome (State Q))) (next : Option (Outcome (State P))) → SameStep step next → Same (after_step one step state) (after_step other next (under state))
    after-same one other same state None None step = record { state = refl; told = refl }
    after-same one other same state (Some outcome) (Some first) step =
        let S : State P → Type 0 = λ middle. Same (and_then outcome one) (record { state = (other middle).state; told = (other middle).told ++ first.told }) in
        let next = same outcome.state in
        subst S step.state (record { state = next.state; told = λ i. next.told i ++ step.told i })
    after-same one other same state None (Some first) step = elim step [ ]
    after-same one other same state (Some outcome) None step = elim step [ ]

    pub advances-same : (steps : ℕ) (state : State Q) → Same (advances T steps state) (advances S steps (under state))
    advances-same zero state = record { state = refl; told = refl }
    advances-same (suc steps) state =
        after-same (advances T steps) (advances S steps) (advances-same steps) state (advance T state) (advance S (under state)) (advance-same state)

    pub drain-same : (state : State Q) → Same (drain T state) (drain S (under state))
    drain-same state = subst (λ n. Same (advances T n state) (drain S (under state))) (sym does.steps) (advances-same S.steps state)

    module _ (plain : Plain) (Good : State P → Type 0) where
      abbrev Kept : State Q → Type 0
      Kept state = Good (under state)

      lower : (state : State Q) → IsSteady plain Kept state → IsSteady plain Good (under state)
      lower state steady = record { sound = steady.sound; good = steady.good }

      raise : (state : State Q) → IsSteady plain Good (under state) → IsSteady plain Kept state
      raise state steady = record { sound = steady.sound; good = steady.good }

      accepts-raise : (entry : Entry) (old new : State Q) → Accepts Good entry (under old) (under new) → Accepts Kept entry old new
      accepts-raise entry old new is = record { hand = is.hand; accepted = is.accepted; world = is.world; good = is.good }

      drains-raise : (old new : State Q) → Drains plain Good (under old) (under new) → Drains plain Kept old new
      drains-raise old new is = record {
        empty = is.empty;
        done = is.done;
        agents = is.agents;
        stays = is.stays;
        steady = raise new is.steady;
        idle = is.idle;
      }

      -- **they serve**
      pub serves-under : IsServing plain S Good → IsServing plain T Kept
      serves-under serving = record {
        front = λ state world same good. serving.front (under state) world same good;
        accepts = λ entry state empty good.
            accepts-raise entry state (T.accept entry state).state
            (subst (Accepts Good entry (under state)) (sym (does.accept entry state).state) (serving.accepts entry (under state) empty good));
        drains = λ state steady.
            drains-raise state (drain T state).state
            (subst (Drains plain Good (under state)) (sym (drain-same state).state) (serving.drains (under state) (lower state steady)));
        commits = λ entry state empty good.
            let accepted = does.accept entry state in
            let drained = drain-same (T.accept entry state).state in
            let L : State P → List Told → List Told → Type 0 = λ middle told first. (told ≡ (drain S middle).told) → is_loud ((drain S middle).told ++ first) ≡ true → is_loud (told ++ first) ≡ true in
            let loud = serving.commits entry (under state) empty good in
            let told : (drain T (T.accept entry state).state).told ≡ (drain S (S.accept entry (under state)).state).told = drained.told ∙ ap (λ s. (drain S s).told) accepted.state in
            ap (λ (l : List Told). is_loud (l ++ (T.accept entry state).told)) told ∙ ap (λ (l : List Told). is_loud ((drain S (S.accept entry (under state)).state).told ++ l)) accepted.told ∙ loud;
      }

      -- **and carry what these carry**
      pub carries-under : (R : World → World → List Told → Type 0) → IsCarried plain S Good R → IsCarried plain T Kept R
      carries-under R carried = record {
        same = carried.same;
        both = carried.both;
        ignored = carried.ignored;
        answer = carried.answer;
        pushed = carried.pushed;
        reply = carried.reply;
        item = carried.item;
        accept = λ entry state steady empty may at stands.
            let same = does.accept entry state in
            let is = carried.accept entry (under state) (lower state steady) empty may at stands in
            subst (λ (o : Outcome (State P)). R state.world o.state.world o.told) (outcome-is (T.accept entry state) (S.accept entry (under state)) same) is;
        drain = λ state steady.
            let same = drain-same state in
            let is = carried.drain (under state) (lower state steady) in
            subst (λ (o : Outcome (State P)). R state.world o.state.world o.told) (outcome-is (drain T state) (drain S (under state)) same) is;
      } where
        outcome-is : (one : Outcome (State Q)) (other : Outcome (State P)) → Same one other → other ≡ record { state = under one.state; told = one.told }
        outcome-is one other same = λ i. record { state = sym same.state i; told = sym same.told i }

      -- **and each step of theirs does**
      stepped-by : (R : World → World → List Told → Type 0) (step : State Q → Option (Outcome (State Q))) (other : State P → Option (Outcome (State P))) → ((state : State Q) → SameStep (step state) (other (under state)))
          → IsStepped plain Good R other → IsStepped plain Kept R step
      stepped-by R step other same stepped = record { steps = λ state outcome is steady. by-found state outcome steady (other (under state)) refl (subst (λ found. SameStep found (other (under state))) is (same state)) }
        where
          by-found : (state : State Q) (outcome : Outcome (State Q)) → IsSteady plain Kept state → (found : Option (Outcome (State P))) → other (under state) ≡ found → SameStep (Some outcome) (other (under state))
              → IsSteady plain Kept outcome.state × R state.world outcome.state.world outcome.told
          by-found state outcome steady None is alike = elim (subst (SameStep (Some outcome)) is alike) [ ]
          by-found state outcome steady (Some made) is alike =
              let one : Same outcome made = subst (SameStep (Some outcome)) is alike in
              let goes = stepped.steps (under state) made is (lower state steady) in
              let S : State P → List Told → Type 0 = λ now told. IsSteady plain Good now × R state.world now.world told in
              let so = subst (λ now. S now outcome.told) (sym one.state) (subst (S made.state) (sym one.told) goes) in
              (raise outcome.state so.0, so.1)

      pub are-stepped-under : (R : World → World → List Told → Type 0) → AreStepped plain S Good R → AreStepped plain T Kept R
      are-stepped-under R stepped = record {
        mirror = stepped-by R T.mirror S.mirror does.mirror stepped.mirror;
        ack = stepped-by R T.ack S.ack does.ack stepped.ack;
        work = stepped-by R T.work S.work does.work stepped.work;
      }
