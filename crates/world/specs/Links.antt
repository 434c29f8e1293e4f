-- What is said on the links of a life, and the events that result.
use Rattle.std.specs.Prelude.{◌≡◌, ◌≢◌, ◌⊎◌, ℕ, List, [], ◌∷◌, ◌++◌, Option, Some, None, nat_eq}
use Rattle.std.specs.Prelude.{if◌then◌else◌}
use Rattle.std.specs.BTreeMap.{get}
use Rattle.std.specs.Ordering.{nat_cmp}
use Rattle.lw_types.specs.declared.refusal.Refusal.{Refusal}
use Rattle.link_messages.specs.declared.message.Peer.{Peer}
use Rattle.link_messages.specs.declared.message.Peer.TheVariants.{Application}
use Rattle.link_messages.specs.declared.message.Message.{Message}
use Rattle.link_messages.specs.declared.message.Message.TheVariants.{Greeting, Copy, Line}
use Rattle.gateway_wire.specs.declared.request.Request.{Request}
use Rattle.gateway_wire.specs.Request.{IsRequestInRange, IsRequestLine, request_line, command_of}
use Rattle.link_messages.specs.Stream.{End, Fault, IsSaid, peer_after, peer_after_one}
use Rattle.link_messages.specs.Feeding.{FeedState, Feeds, fault_in, new_feed}
use Rattle.session_core.specs.declared.event.Event.{Event}
use Rattle.session_core.specs.declared.event.Event.TheVariants as events
use Rattle.world.specs.declared.links.Links.{Links}

-- bytes that came on a link, by its number
pub record Piece : Type 0 where
  pub link : ℕ
  pub bytes : List ℕ

-- all that came over a link, from these pieces
abbrev pub stream_on : ℕ → List Piece → List ℕ
stream_on link [] = []
stream_on link (piece ∷ pieces) =
    if nat_eq piece.link link then piece.bytes ++ stream_on link pieces else stream_on link pieces

-- the command of the request of an application that a line is, if it is one
abbrev pub AsksFor : Option Peer → List ℕ → Option Event → Type 0
AsksFor (Some (Application application)) line (Some event) =
    (request : Request) × IsRequestInRange request × (line ≡ request_line request)
    × (event ≡ events.Ask (command_of application request))
AsksFor (Some (Application application)) line None = ¬ (IsRequestLine line)
AsksFor peer line event = event ≡ None

-- the event of a message of this peer, if it has one
abbrev pub HandsIn : Option Peer → Message → Option Event → Type 0
HandsIn peer (Greeting greeted) event = event ≡ None
HandsIn peer (Copy copy) event = event ≡ Some (events.Hear copy)
HandsIn peer (Line line) event = AsksFor peer line event

-- this event, if there is one, and then the others
abbrev pub before_others : Option Event → List Event → List Event
before_others None others = others
before_others (Some event) others = event ∷ others

-- those of messages, one after another
abbrev pub AreHandedIn : Option Peer → List Message → List Event → Type 0
AreHandedIn peer [] handed_in = handed_in ≡ []
AreHandedIn peer (message ∷ messages) handed_in =
    (first : Option Event) × (others : List Event) × HandsIn peer message first
    × AreHandedIn (peer_after_one peer message) messages others
    × (handed_in ≡ before_others first others)

-- A piece after what came over its link has these events, and this fault after them: those of the
-- messages that the link's bytes say with it and didn't say without it.
abbrev pub Completes : List ℕ → List ℕ → List Event → Option Refusal → Type 0
Completes stream piece handed_in fault =
    (before : List Message) × (others : List Message) × (end : End) × (now : End)
    × IsSaid None stream before end × IsSaid None (stream ++ piece) (before ++ others) now
    × AreHandedIn (peer_after None before) others handed_in × (fault ≡ fault_in now)

-- a piece adds nothing to what a link has said: it is empty, or a fault stands before it
abbrev pub AddsNothing : List ℕ → List ℕ → Type 0
AddsNothing stream piece =
    (piece ≡ []) ⊎ ((messages : List Message) × (refusal : Refusal)
    × IsSaid None stream messages (Fault refusal))

-- what these links have heard
abbrev pub or_nothing : Option FeedState → FeedState
or_nothing None = new_feed
or_nothing (Some heard) = heard

abbrev pub heard_on : Links → ℕ → FeedState
heard_on links link = or_nothing (get nat_cmp links.feeders link)

-- these bytes came on a link: what it says with them, and nothing else changed
abbrev pub SaysMore : Links → ℕ → List ℕ → Links → List Event → Option Refusal → Type 0
SaysMore old link piece new handed_in fault =
    (messages : List Message) × Feeds (heard_on old link) piece messages (heard_on new link)
    × AreHandedIn (heard_on old link).peer messages handed_in
    × (fault ≡ fault_in (heard_on new link).end)
    × ((other : ℕ) → other ≢ link → heard_on new other ≡ heard_on old other)

-- it is what the bytes say that came over a link
abbrev pub HasSaid : List ℕ → FeedState → Type 0
HasSaid stream heard =
    (messages : List Message) × IsSaid None stream messages heard.end
    × (heard.peer ≡ peer_after None messages)
