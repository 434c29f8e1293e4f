-- Reading a message from left to right. It is proved that this gives exactly what is said.
use Rattle.std.specs.Prelude.{◌≡◌, ℕ, ℤ, ◌==◌, ◌&&◌, not, nat_lt, nat_le, Bool, List, [], ◌∷◌}
use Rattle.std.specs.Prelude.{length, if◌then◌else◌, Option, Some, None, Result, Err, MatchResult}
use Rattle.std.specs.List.{list_all}
use Rattle.std.specs.Int.{w16, w32, cast_signed}
use Rattle.byte_fields.specs.Reading.{Reader, ◌>>=◌, both, seen_as, whole, be_at, byte_at}
use Rattle.byte_fields.specs.Reading.{ranged_at, be_eui_at}
use Rattle.lw_types.specs.FrameCopy.{frame_copy}
use Rattle.lw_types.specs.declared.identifiers.Eui.{Eui}
use Rattle.lw_types.specs.declared.frame_copy.Reception.{Reception}
use Rattle.lw_types.specs.declared.refusal.Refusal.{Refusal}
use Rattle.lw_types.specs.declared.refusal.Refusal.TheVariants.{BadMessage, OutOfMemory}
use Rattle.link_messages.specs.declared.message.Peer.{Peer}
use Rattle.link_messages.specs.declared.message.Peer.TheVariants.{Gateway, Application}
use Rattle.link_messages.specs.declared.message.Message.{Message}
use Rattle.link_messages.specs.declared.message.Message.TheVariants.{Greeting, Copy, Line}
use Rattle.link_messages.specs.declared.message.TheConstants.{GATEWAY_GREETING, UPLINK_COPY}
use Rattle.link_messages.specs.declared.message.TheConstants.{APPLICATION_GREETING, REQUEST}

abbrev pub signed_at : Reader ℤ
signed_at = seen_as (cast_signed w16) (be_at w16)

abbrev pub reception_from : Eui × (ℕ × (ℕ × (ℤ × (ℤ × ℕ)))) → Reception × ℕ
reception_from x = (
  record {
    gateway = x.0;
    frequency = x.1.0;
    data_rate = x.1.1.0;
    snr = x.1.1.1.0;
    rssi = x.1.1.1.1.0;
  },
  x.1.1.1.1.1,
)

-- how a gateway heard a frame, and its stamp
unfoldable pub reception_at : Reader (Reception × ℕ)
reception_at =
    seen_as reception_from (both be_eui_at
    (both (be_at w32) (both byte_at (both signed_at (both signed_at (be_at w32))))))

abbrev pub copy_from : Eui → (Reception × ℕ) × List ℕ → Option Message
copy_from gateway x =
    if x.0.0.gateway.0 == gateway.0
    && nat_le (length x.1) 255 then Some (Copy (frame_copy x.0.0 x.0.1 x.1)) else None

-- a copy from this gateway
abbrev pub copy_at : Eui → List ℕ → Option Message
copy_at gateway bytes = reception_at bytes >>= copy_from gateway

abbrev pub is_line_byte : ℕ → Bool
is_line_byte byte = nat_lt byte 128 && not (byte == 10)

abbrev pub line_at : List ℕ → Option Message
line_at bytes = if list_all is_line_byte bytes then Some (Line bytes) else None

abbrev pub gateway_at : List ℕ → Option Message
gateway_at fields = whole be_eui_at fields >>= λ eui. Some (Greeting (Gateway eui))

abbrev pub application_at : List ℕ → Option Message
application_at fields =
    whole (ranged_at 0 15) fields >>= λ number. Some (Greeting (Application number))

abbrev pub greeting_at : ℕ → List ℕ → Option Message
greeting_at kind fields =
    if kind == GATEWAY_GREETING then gateway_at fields
    else if kind == APPLICATION_GREETING then application_at fields
    else None

-- the message of this content, if it may be said
unfoldable pub message_at : Option Peer → List ℕ → Option Message
message_at peer [] = None
message_at None (kind ∷ fields) = greeting_at kind fields
message_at (Some (Gateway gateway)) (kind ∷ fields) =
    if kind == UPLINK_COPY then copy_at gateway fields else None
message_at (Some (Application application)) (kind ∷ fields) =
    if kind == REQUEST then line_at fields else None

-- a function returns what is wanted, for which it may take memory, or that there is no message
abbrev pub Reads : Result Message Refusal → Option Message → Type 0
Reads result None = result ≡ Err BadMessage
Reads result (Some message) = MatchResult result (λ m. m ≡ message) (λ e. e ≡ OutOfMemory)
