-- What a line that can stand in a script gives: its clients, its time, its workers and its count are in range, and a cluster line's
-- start, queue and streams are such that a cluster can open.
use Rattle.std.proofs.Common.{ℕ, List, [], ◌∷◌, inl, inr, sym, subst}
use Rattle.std.specs.Prelude.{codes}
use Rattle.sub_queue.specs.Queue.{IsCapacity}
use Rattle.script_lines.specs.declared.line.Line.{Line}
use Rattle.script_lines.specs.declared.line.Line.TheVariants.{Cluster}
use Rattle.script_lines.specs.declared.line.Line.TheVariants as line
use Rattle.script_grammar.specs.Grammar.{Known, Word, Part, OneOf}
use Rattle.script_language.specs.Control.{HasSoundStreams, IsSetting, IsCluster, IsTimeLine, IsDeliver, IsResend, IsInject, IsCrash, IsArm, IsRestart, IsDispatch, dispatch_forms, IsCat}
use Rattle.script_language.specs.Lines.{IsLogLine, IsNtfLine, line_forms, Spells}
use Rattle.plain_service.specs.Setups.{IsMoment}
use Rattle.cluster_lines.specs.Lines.{IsInRange}

-- a cluster line with streams that pass, a moment and a capacity
abbrev pub CanOpen : Line → Type 0
CanOpen (Cluster start queue callbacks alarm ntf sys) =
    HasSoundStreams (Cluster start queue callbacks alarm ntf sys) × IsMoment start × IsCapacity queue
CanOpen _ = Unit {0}

abbrev pub IsFit : Line → Type 0
IsFit one = IsInRange one × CanOpen one

-- all lines that are spelled so are fit
abbrev Gives : (Line → List ℕ → Type 0) → Type 0
Gives S = (one : Line) (text : List ℕ) → S one text → IsFit one

known : (made : Line) → IsFit made → Gives (Known made)
known made can one text is = subst IsFit (sym is.0) can

word : (front : List ℕ) (S : Line → List ℕ → Type 0) → Gives S → Gives (Word front S)
word front S each one text (rest, is, spelled) = each one rest spelled

part : {A : Type 0} (S : A → List ℕ → Type 0) (Q : A → Line → List ℕ → Type 0) → ((a : A) (own : List ℕ) → S a own → Gives (Q a)) → Gives (Part S Q)
part S Q each one text (a, front, rest, is, own, spelled) = each a front own one rest spelled

abbrev AllGive : List (List ℕ × (Line → List ℕ → Type 0)) → Type 0
AllGive [] = Unit {0}
AllGive (form ∷ forms) = Gives form.1 × AllGive forms

one_of : (forms : List (List ℕ × (Line → List ℕ → Type 0))) → AllGive forms → Gives (OneOf forms)
one_of [] all one text spelled = absurd spelled
one_of (form ∷ forms) all one text (inl spelled) = word form.0 form.1 all.0 one text spelled
one_of (form ∷ forms) all one text (inr spelled) = one_of forms all.1 one text spelled

log-gives : Gives IsLogLine
unfolding IsLogLine
log-gives = part _ _ (λ client own range. word (codes " ") _ (part _ _ (λ ask text is. known _ (record { from = range.0; to = range.1 }, tt))))

ntf-gives : Gives IsNtfLine
unfolding IsNtfLine
ntf-gives = part _ _ (λ client own range. word (codes " ") _ (part _ _ (λ ask text is. known _ (record { from = range.0; to = range.1 }, tt))))

time-gives : Gives IsTimeLine
unfolding IsTimeLine
time-gives = part _ _ (λ now own range. known _ (record { from = range.0; to = range.1 }, tt))

deliver-gives : Gives IsDeliver
unfolding IsDeliver
deliver-gives = part _ _ (λ place own range. known _ (tt, tt))

resend-gives : Gives IsResend
unfolding IsResend
resend-gives = part _ _ (λ client own range. known _ (tt, tt))

inject-gives : Gives IsInject
unfolding IsInject
inject-gives = part _ _ (λ bytes own range. known _ (tt, tt))

crash-gives : Gives IsCrash
unfolding IsCrash
crash-gives = part _ _ (λ server own range. known _ (tt, tt))

arm-gives : Gives IsArm
unfolding IsArm
arm-gives = part _ _ (λ server own range. word (codes " ") _ (part _ _ (λ count text is. known _ (is.0, tt))))

restart-gives : Gives IsRestart
unfolding IsRestart
restart-gives = part _ _ (λ server own range. known _ (tt, tt))

cat-gives : Gives IsCat
unfolding IsCat
cat-gives = part _ _ (λ name own range. known _ (tt, tt))

dispatch-gives : Gives IsDispatch
unfolding IsDispatch
dispatch-gives =
    part _ _ (λ client own range. one_of (dispatch_forms client) (known (line.DispatchOne client) (tt, tt), (part _ _ (λ workers text count. known (line.DispatchAll client workers) ((count.0, count.1), tt)), tt)))

-- the setting's own time and lengths are in range
abbrev Opens : Line → Type 0
Opens (Cluster start queue callbacks alarm ntf sys) = IsMoment start × IsCapacity queue
Opens _ = Unit {0}

setting-opens : (one : Line) (text : List ℕ) → IsSetting one text → IsInRange one × Opens one
unfolding IsSetting
setting-opens one text (start, f0, r0, e0, time, (r1, e1, (queue, f2, r2, e2, length, (r3, e3, (callbacks, f4, r4, e4, more, (alarm, f5, r5, e5, a, (ntf, f6, r6, e6, n, (sys, f7, r7, e7, s, is)))))))) =
    let O : Line → Type 0 = λ line. IsInRange line × Opens line in
    subst O (sym is.0) (tt, (record { from = time.0; to = time.1 }, record { some = length.0; most = length.1 }))

cluster-both : (one : Line) → HasSoundStreams one → Opens one → CanOpen one
cluster-both (Cluster start queue callbacks alarm ntf sys) sound opens = (sound, opens.0, opens.1)
cluster-both _ sound opens = tt

cluster-gives : Gives IsCluster
cluster-gives one text (sound, setting) =
    let opens = setting-opens one text setting in
    (opens.0, cluster-both one sound opens.1)

-- **a line of a script is fit**
pub spelled-fits : (one : Line) (raw : List ℕ) → Spells one raw → IsFit one
unfolding Spells
spelled-fits =
    one_of line_forms (
      log-gives,
      (
        ntf-gives,
        (
          cluster-gives,
          (
            time-gives,
            (
              deliver-gives,
              (
                resend-gives,
                (
                  known line.Mirror (tt, tt),
                  (
                    known line.Ack (tt, tt),
                    (
                      known line.Work (tt, tt),
                      (
                        known line.Push (tt, tt),
                        (
                          inject-gives,
                          (
                            known line.Settle (tt, tt),
                            (crash-gives, (arm-gives, (known line.Disarm (tt, tt), (restart-gives, (dispatch-gives, (known line.Servers (tt, tt), (known line.Files (tt, tt), (cat-gives, tt)))))))),
                          ),
                        ),
                      ),
                    ),
                  ),
                ),
              ),
            ),
          ),
        ),
      ),
    )
