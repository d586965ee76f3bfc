-- Clusters that may stand for no history, one event after another.
use Rattle.std.proofs.Common.{◌≡◌, inl, inr, ⊎_elim, ℕ, zero, suc, ◌<◌, get_or, arith, List, [], ◌∷◌, length, sym, subst}
use Rattle.std.specs.Prelude.{Result, Ok, Err, OnOk}
use Rattle.std.specs.List.{AllByRecursion}
use Rattle.disk_model.specs.declared.answers.DiskAnswer.{DiskAnswer}
use Rattle.disk_model.specs.declared.answers.DiskAnswer.TheVariants.{Memory, Failed, Stopped}
use Rattle.wire.specs.MessageSpelling.{MessageFits, MessageInRange}
use Rattle.cluster_facts.specs.Types.{Message, Request, Answer, Delivery, Receipt}
use Rattle.cluster_facts.specs.Lists.{Stands}
use Rattle.cluster_facts.specs.Messages.{Posting, Spelled, Raw, messages_in}
use Rattle.cluster_facts.specs.World.{World}
use Rattle.cluster_facts.proofs.Words.{All-map, All-at as All-stands}
use Rattle.cluster_clients.specs.Spelled.{AreSpelled}
use Rattle.cluster_events.specs.Servers.{State}
use Rattle.cluster_rounds.specs.declared.cluster.Cluster.{Cluster}
use Rattle.cluster_rounds.specs.Kits.{Kit}
use Rattle.cluster_rounds.specs.Worlds.{HasStateOf, HasStateOn}
use Rattle.cluster_rounds.specs.Wild.{NamesCall, AreClients, ShowsClients, Posted, AllPosted, Grows, IsWild, StandsOf, StandsOn, WildOn, GoesWild}

-- What stands in the net is in range.

spelled-fits : (message : Message) (postings : List Posting) (net : List (List ℕ)) → AreSpelled postings net → Stands message (messages_in postings) → MessageFits message
spelled-fits message [] net spelled stands = elim stands [ ]
spelled-fits message (posting ∷ postings) [] spelled stands = elim spelled [ ]
spelled-fits message (Raw bytes front why ∷ postings) (known ∷ net) spelled stands = spelled-fits message postings net spelled.1 stands
spelled-fits message (Spelled other ∷ postings) (known ∷ net) spelled (inl same) = subst MessageFits (sym same) spelled.0.fits
spelled-fits message (Spelled other ∷ postings) (known ∷ net) spelled (inr stands) = spelled-fits message postings net spelled.1 stands

fits-named : (net : List Message) (message : Message) → NamesCall net message → MessageFits message → MessageInRange message
fits-named net (Request client number call) named fits = (fits.0, fits.1)
fits-named net (Answer client number reply) named fits = (fits.0, fits.1)
fits-named net (Delivery client key item) named fits = (fits.0, fits.1, record { number = fits.2.number })
fits-named net (Receipt client key through) named fits = (fits.0, fits.1, fits.2)
fits-named net _ named fits = elim named [ ]

pub posted-range : {S : Type 0} (seen : World) (world : Cluster S) (message : Message) → AreClients seen → ShowsClients seen world → Posted message seen → MessageInRange message
posted-range seen world message clients shows stands =
    let net = messages_in seen.net in
    fits-named net message (All-stands (NamesCall net) message net clients.named stands) (spelled-fits message seen.net world.net shows.net stands)

pub all-posted-range : {S : Type 0} (seen : World) (world : Cluster S) (messages : List Message) → AreClients seen → ShowsClients seen world → AllPosted messages seen → AllByRecursion MessageInRange messages
all-posted-range seen world messages clients shows posted = All-map (λ message. Posted message seen) MessageInRange messages (λ message stands. posted-range seen world message clients shows stands) posted

pub All-at : (P : Message → Type 0) (index : ℕ) (messages : List Message) (one : Message) → AllByRecursion P messages → index < length messages → one ≡ get_or messages index one → P one
All-at P index [] one all below is = absurd (omega (arith, below))
All-at P zero (first ∷ messages) one all below is = subst P (sym is) all.0
All-at P (suc index) (first ∷ messages) one all below is = All-at P index messages one all.1 (omega (arith, below)) is

pub on-ok : {T E P : Type 0} (result : Result T E) → P → OnOk result P
on-ok (Ok value) p = p
on-ok (Err error) p = tt

module _ {Peers Group : Type 0} (kit : Kit Peers Group) where
  abbrev pub wild-same : (seen : World) (world : Cluster Group) (disks : kit.Seen) → (IsWild kit) seen world disks → (WildOn kit) seen world disks
  wild-same seen world disks wild = record { now = seen; wild = wild; net = λ message posted. posted }

  abbrev pub wild-both : (seen : World) (two three : Cluster Group) (held told : kit.Seen) → (first : (WildOn kit) seen two held) → (WildOn kit) first.now three told → (WildOn kit) seen three told
  wild-both seen two three held told first next = record { now = next.now; wild = next.wild; net = λ message posted. next.net message (first.net message posted) }

  -- one event behind others: the first was done
  pub goes-off : (T U : Type 0) (Q O : World → Type 0) (answer : DiskAnswer) (old now new : Cluster Group) (held told left : kit.Seen)
      → ((seen : World) → (IsWild kit) seen old held → Q seen → (WildOn kit) seen now told) → ((one two : World) → Grows one two → Q one → O two)
      → (GoesWild kit) {T = T} O (Err answer) now new told left → (GoesWild kit) {T = U} Q (Err answer) old new held left
  goes-off T U Q O Stopped old now new held told left first asked second = λ seen wild so.
      let one = first seen wild so in
      wild-both seen now new told left one (second one.now one.wild (asked seen one.now one.net so))
  goes-off T U Q O Memory old now new held told left first asked second = tt
  goes-off T U Q O Failed old now new held told left first asked second = tt

  -- what is asked of the next event: the state that the cluster stands for, or the weak facts
  pub asks-on : {P R : State Peers → Type 0} (Q O : World → Type 0) (old now : Cluster Group) (held told : kit.Seen) → (StandsOn kit) P Q old held
      → ((HasStateOn kit) P old held → (HasStateOn kit) R now told) → ((seen : World) → (IsWild kit) seen old held → Q seen → (on : (WildOn kit) seen now told) × O on.now)
      → (StandsOn kit) R O now told
  asks-on Q O old now held told stands strong weak =
      ⊎_elim (λ has. inl (strong has)) (λ has. let next = weak has.seen has.wild has.so in inr (record { seen = next.0.now; wild = next.0.wild; so = next.1 })) stands

  -- of one that leaves the disk alone
  pub asks-of : {P R : State Peers → Type 0} (Q O : World → Type 0) (old now : Cluster Group) (held told : kit.Seen) → (StandsOn kit) P Q old held
      → ((HasStateOn kit) P old held → (HasStateOf kit) R now) → ((seen : World) → (IsWild kit) seen old held → Q seen → (on : (WildOn kit) seen now told) × O on.now)
      → (StandsOf kit) R O now
  asks-of Q O old now held told stands strong weak =
      ⊎_elim (λ has. inl (strong has)) (λ has. let next = weak has.seen has.wild has.so in inr (told, record { seen = next.0.now; wild = next.0.wild; so = next.1 })) stands

  -- the same where both leave the disk alone
  pub asks-from : {P R : State Peers → Type 0} (Q O : World → Type 0) (old now : Cluster Group) → (StandsOf kit) P Q old → ((HasStateOf kit) P old → (HasStateOf kit) R now)
      → ((disks : kit.Seen) (seen : World) → (IsWild kit) seen old disks → Q seen → (on : (WildOn kit) seen now disks) × O on.now) → (StandsOf kit) R O now
  asks-from Q O old now stands strong weak =
      ⊎_elim (λ has. inl (strong has)) (λ has. let next = weak has.0 has.1.seen has.1.wild has.1.so in inr (has.0, record { seen = next.0.now; wild = next.0.wild; so = next.1 })) stands

  -- the same event, where something else is asked of the net
  pub goes-so : {T : Type 0} (Q O : World → Type 0) (result : Result T DiskAnswer) (old new : Cluster Group) (held left : kit.Seen)
      → ((seen : World) → (IsWild kit) seen old held → Q seen → O seen) → (GoesWild kit) {T = T} O result old new held left → (GoesWild kit) {T = T} Q result old new held left
  goes-so Q O (Ok done) old new held left asked goes = λ seen wild so. goes seen wild (asked seen wild so)
  goes-so Q O (Err Stopped) old new held left asked goes = λ seen wild so. goes seen wild (asked seen wild so)
  goes-so Q O (Err Memory) old new held left asked goes = tt
  goes-so Q O (Err Failed) old new held left asked goes = tt
