-- Worked rows of a client's agent.
use Rattle.std.proofs.Common.{◌≡◌, ℕ, zero, suc, Some, None, [], ◌∷◌, refl}
use Rattle.cluster_facts.specs.Types.{Log, Ntf, Start, Other, LogInit, LogFini, LogClose, NtfUnsubscribe, VersionRefused, BadHandle, TryAgain, Done, Request}
use Rattle.stream_config.specs.declared.attrs.StreamName.TheVariants.{System}
use Rattle.cluster_facts.specs.Agents.{Agent, fresh, refusal, dispatch_refusal, after_call, after_reply, resent}
use Rattle.cluster_facts.specs.History.{judged, New, Repeat, Old, Ahead}

-- a client asks for version B.1.1 of the log service, which the agent refuses; A.2.9 is served
refuses_other_release : refusal (Start Log (record { release = 66; major = 1; minor = 1 })) fresh ≡ Some VersionRefused
refuses_other_release = refl

refuses_later_major : refusal (Start Ntf (record { release = 65; major = 2; minor = 0 })) fresh ≡ Some VersionRefused
refuses_later_major = refl

serves_any_minor : refusal (Start Log (record { release = 65; major = 2; minor = 9 })) fresh ≡ None
serves_any_minor = refl

-- without a handle a call is refused, also after a finalisation that was only sent
refuses_without_handle : refusal (Other (LogClose System)) fresh ≡ Some BadHandle
refuses_without_handle = refl

abbrev initialised : Agent
initialised = after_reply 1 LogInit Done (after_call LogInit fresh)

refuses_after_finalisation : refusal (Other (LogClose System)) (after_call LogFini initialised) ≡ Some BadHandle
refuses_after_finalisation = refl

refuses_other_service : refusal (Other (NtfUnsubscribe 9)) initialised ≡ Some BadHandle
refuses_other_service = refl

hands_out_with_a_handle : dispatch_refusal initialised ≡ None
hands_out_with_a_handle = refl

-- of 33 calls without reply the 33rd is refused
abbrev closing : ℕ → Agent
closing zero = initialised
closing (suc times) = after_call (LogClose System) (closing times)

sends_32_calls : refusal (Other (LogClose System)) (closing 31) ≡ None
sends_32_calls = refl

refuses_the_next : refusal (Other (LogClose System)) (closing 32) ≡ Some TryAgain
refuses_the_next = refl

-- what is sent again: the calls without reply, by number
sends_again : resent 1 (closing 2) ≡ Request 1 2 (LogClose System) ∷ Request 1 3 (LogClose System) ∷ []
sends_again = refl

-- of 40 calls in the history number 41 is new, 42 is ahead, 9 is a repeat and 8 is old
judges_new : judged 41 40 ≡ New
judges_new = refl

judges_ahead : judged 42 40 ≡ Ahead
judges_ahead = refl

judges_repeat : judged 9 40 ≡ Repeat
judges_repeat = refl

judges_old : judged 8 40 ≡ Old
judges_old = refl
