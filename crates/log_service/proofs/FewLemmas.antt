-- The well-known streams and at most 64 of applications are few.
use Rattle.std.proofs.Common.{◌≡◌, ℕ, ◌≤◌, suc, true, cond, List, [], ◌∷◌, length, take, drop, map, refl, ap, sym, ◌∙◌, subst, arith}
use Rattle.std.specs.List.{AllByRecursion}
use Rattle.stream_config.specs.declared.attrs.StreamName.TheVariants as name
use Rattle.log_history.specs.Names.{is_application}
use Rattle.log_history.specs.Table.{OpenStream}
use Rattle.log_history.specs.KeptAnswers.{is_of_application}
use Rattle.log_service.specs.State.{AreFew, applications_in, others_in}

abbrev pub IsApplications : OpenStream → Type 0
IsApplications stream = is_of_application stream ≡ true

no-others : (streams : List OpenStream) → AllByRecursion IsApplications streams → others_in streams ≡ 0
no-others [] all = refl
no-others (stream ∷ streams) all =
    ap (λ b. cond b (others_in streams) (suc (others_in streams))) all.0 ∙ no-others streams all.1

all-applications : (streams : List OpenStream) → AllByRecursion IsApplications streams → applications_in streams ≡ length streams
all-applications [] all = refl
all-applications (stream ∷ streams) all =
    ap (λ b. cond b (suc (applications_in streams)) (applications_in streams)) all.0 ∙ ap suc (all-applications streams all.1)

pub few-known : (streams : List OpenStream) → map (λ (stream : OpenStream). stream.state.name) (take 3 streams) ≡ name.Alarm ∷ name.Notification ∷ name.System ∷ [] → AllByRecursion IsApplications (drop 3 streams) → length (drop 3 streams) ≤ 64 → AreFew streams
few-known [] names all most = absurd cc
few-known (one ∷ []) names all most = absurd cc
few-known (one ∷ two ∷ []) names all most = absurd cc
few-known (one ∷ two ∷ three ∷ streams) names all most =
    let first : one.state.name ≡ name.Alarm = cc in
    let second : two.state.name ≡ name.Notification = cc in
    let third : three.state.name ≡ name.System = cc in
    let others : others_in (one ∷ two ∷ three ∷ streams) ≡ 3 =
    ap (λ n. cond (is_application n) (others_in (two ∷ three ∷ streams)) (suc (others_in (two ∷ three ∷ streams)))) first
    ∙ ap (λ n. suc (cond (is_application n) (others_in (three ∷ streams)) (suc (others_in (three ∷ streams))))) second
    ∙ ap (λ n. suc (suc (cond (is_application n) (others_in streams) (suc (others_in streams))))) third
    ∙ ap (λ n. suc (suc (suc n))) (no-others streams all) in
    let applications : applications_in (one ∷ two ∷ three ∷ streams) ≡ length streams =
    ap (λ n. cond (is_application n) (suc (applications_in (two ∷ three ∷ streams))) (applications_in (two ∷ three ∷ streams))) first
    ∙ ap (λ n. cond (is_application n) (suc (applications_in (three ∷ streams))) (applications_in (three ∷ streams))) second
    ∙ ap (λ n. cond (is_application n) (suc (applications_in streams)) (applications_in streams)) third
    ∙ all-applications streams all in
    record { others = omega arith; applications = subst (λ (n : ℕ). n ≤ 64) (sym applications) most }
