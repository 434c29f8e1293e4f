-- Reading a device record of a version from left to right, field by field. The contract of
-- `read_device` says that reading gives back what is spelled, and nothing else.
use Rattle.std.specs.Prelude.{◌≡◌, ℕ, zero, suc, ◌^◌, Bool, true, ◌&&◌, List, [], ◌∷◌, length}
use Rattle.std.specs.Prelude.{nat_le, nat_lt, ◌==◌, if◌then◌else◌, Option, Some, None, unwrap_or}
use Rattle.std.specs.Prelude.{option_map}
use Rattle.std.specs.Option.{option_map_or}
use Rattle.std.specs.Int.{Width, w16, w32, w64}
use Rattle.lw_types.specs.declared.identifiers.Eui.{Eui}
use Rattle.lw_types.specs.declared.key.Key.{Key}
use Rattle.lw_types.specs.declared.payload.TheConstants.{LONGEST_PAYLOAD}
use Rattle.byte_fields.specs.Reading.{Reader, ◌>>=◌, both, seen_as, that, whole, be_at, be_eui_at}
use Rattle.byte_fields.specs.Reading.{counted_at, flag_at, key_at, ranged_at}
use Rattle.byte_fields.specs.Reading.{three_be_bytes_at}
use Rattle.mac_commands.specs.Queueable.{AreQueueable}
use Rattle.devices.specs.declared.Tag.{Tag}
use Rattle.devices.specs.declared.activation.Session.{Session}
use Rattle.devices.specs.declared.activation.CurrentSession.{CurrentSession}
use Rattle.devices.specs.declared.channels.Channels.{Channels}
use Rattle.devices.specs.declared.channels.Channels.TheVariants.{Three, Eight}
use Rattle.devices.specs.declared.queue.Item.{Item}
use Rattle.devices.specs.declared.device.Device.{Device}
use Rattle.devices.specs.Activation.{Grants, current_nonce}
use Rattle.devices.specs.declared.TheConstants.{LAST_HEARD}
use Rattle.devices.specs.declared.queue.TheConstants.ItemQueue.{MOST as MOST_ITEMS}
use Rattle.record_codec.specs.Version.{longest_mac_queue}
use Rattle.record_codec.specs.declared.version.RecordVersion.{RecordVersion}
use Rattle.record_codec.specs.declared.version.RecordVersion.TheVariants.{V1, V2}

-- ---- fields

-- a flag and a number, which is 0 if the flag is 0
abbrev pub flagged_value : Bool × ℕ → Option ℕ
flagged_value x = if x.0 then Some x.1 else None

abbrev pub is_plain : Bool × ℕ → Bool
is_plain x = if x.0 then true else x.1 == 0

unfoldable pub flagged_at : Width → Reader (Option ℕ)
flagged_at w = seen_as flagged_value (that is_plain (both flag_at (be_at w)))

abbrev pub awaited_at : Reader (Option Tag)
awaited_at = seen_as (option_map (λ n. record { 0 = n })) (flagged_at w32)

-- ---- sessions

abbrev pub is_join_nonce : ℕ → Bool
is_join_nonce n = nat_lt 0 n && nat_lt n (2 ^ 24)

abbrev pub nonce_from : ℕ → Option ℕ
nonce_from n = if is_join_nonce n then Some n else None

-- 00 if no session exists, 01 before one of three channels, 02 before one of eight
abbrev pub channels_at : Reader (Option Channels)
channels_at [] = None
channels_at (zero ∷ rest) = Some (None, rest)
channels_at (suc zero ∷ rest) = Some (Some Three, rest)
channels_at (suc (suc zero) ∷ rest) = Some (Some Eight, rest)
channels_at (suc (suc (suc byte)) ∷ rest) = None

-- the field of a session that has these channels, if one exists
abbrev pub where_there : {X : Type 0} → (Channels → Reader X) → Option Channels → Reader (Option X)
where_there field None = λ bytes. Some (None, bytes)
where_there field (Some channels) = seen_as Some (field channels)

-- the channels, and after them the field
abbrev pub optional_by : {X : Type 0} → (Channels → Reader X) → Reader (Option X)
optional_by field bytes = channels_at bytes >>= λ given. where_there field given.0 given.1

abbrev pub session_from : Channels → ℕ × (Key × Key) → Session
session_from channels x =
    record { join_nonce = x.0; nwk_skey = x.1.0; app_skey = x.1.1; channels = channels }

unfoldable pub session_at : Channels → Reader Session
session_at channels =
    seen_as (session_from channels)
    (both (that is_join_nonce three_be_bytes_at) (both key_at key_at))

abbrev pub current_from : Session × (ℕ × ℕ) → CurrentSession
current_from x = record { session = x.0; last_up = x.1.0; next_down = x.1.1 }

unfoldable pub current_at : Channels → Reader CurrentSession
current_at channels =
    seen_as current_from (both (session_at channels)
    (both (be_at w32) (that (λ n. nat_le n (2 ^ 32)) (be_at w64))))

abbrev pub grants_from : Option ℕ × (Option CurrentSession × Option Session) → Grants
grants_from x = record { granted = x.0; current = x.1.0; pending = x.1.1 }

-- whether no session is above the last grant, and the pending one is the later one
abbrev pub are_in_order : Grants → Bool
are_in_order g =
    nat_le (current_nonce g.current) (unwrap_or g.granted 0)
    && option_map_or (λ s. nat_le s.join_nonce (unwrap_or g.granted 0)
    && nat_lt (current_nonce g.current) s.join_nonce) g.pending true

unfoldable pub activation_at : Reader Grants
activation_at =
    that are_in_order (seen_as grants_from
    (both (seen_as nonce_from three_be_bytes_at)
    (both (optional_by current_at) (optional_by session_at))))

-- ---- queues

-- whole commands or not; this is tested of the whole queue
abbrev pub mac_queue_at : RecordVersion → Reader (List ℕ)
mac_queue_at version = that (λ bytes. nat_le (length bytes) (longest_mac_queue version)) counted_at

abbrev pub payload_at : Reader (List ℕ)
payload_at = that (λ bytes. nat_le (length bytes) LONGEST_PAYLOAD) counted_at

abbrev pub item_from : ℕ × (ℕ × (Bool × List ℕ)) → Item
item_from x =
    record { tag = record { 0 = x.0 }; port = x.1.0; confirmed = x.1.1.0; payload = x.1.1.1 }

unfoldable pub item_at : Reader Item
item_at = seen_as item_from (both (be_at w32) (both (ranged_at 1 223) (both flag_at payload_at)))

unfoldable pub items_at : ℕ → Reader (List Item)
items_at zero bytes = Some ([], bytes)
items_at (suc n) bytes =
    item_at bytes >>= λ first. items_at n first.1 >>= λ others. Some (first.0 ∷ others.0, others.1)

unfoldable pub item_queue_at : Reader (List Item)
item_queue_at bytes = ranged_at 0 MOST_ITEMS bytes >>= λ n. items_at n.0 n.1

-- this number of items, where they stand at the front of the bytes
abbrev pub items_in : ℕ → List ℕ → List Item
items_in n bytes = option_map_or (λ x. x.0) (items_at n bytes) []

-- ---- the count of uplinks

-- 0 in version 1, which has no bytes for it
abbrev pub heard_at : RecordVersion → Reader ℕ
heard_at V1 bytes = Some (0, bytes)
heard_at V2 bytes = that (λ n. nat_le n LAST_HEARD) (be_at w64) bytes

-- ---- the record

abbrev pub Head : Type 0
Head = Eui × (Eui × (Key × (ℕ × (ℕ × ℕ))))

unfoldable pub head_at : Reader Head
head_at =
    both be_eui_at (both be_eui_at
    (both key_at (both (ranged_at 0 15) (both (ranged_at 0 5) (ranged_at 1 15)))))

-- the fields in the order of the record
abbrev pub Fields : Type 0
Fields = Head × (Option ℕ × (Grants × (Option Tag × (List ℕ × (List Item × ℕ)))))

abbrev pub device_from : Fields → Device
device_from x =
    record {
      dev_eui = x.0.0;
      join_eui = x.0.1.0;
      app_key = x.0.1.1.0;
      application = x.0.1.1.1.0;
      rx1_offset = x.0.1.1.1.1.0;
      rx_delay = x.0.1.1.1.1.1;
      last_dev_nonce = x.1.0;
      activation = x.1.1.0;
      awaited = x.1.1.1.0;
      mac_queue = x.1.1.1.1.0;
      items = x.1.1.1.1.1.0;
      heard = x.1.1.1.1.1.1;
    }

unfoldable pub device_at : RecordVersion → Reader Device
device_at version =
    seen_as device_from (both head_at
    (both (flagged_at w16) (both activation_at
    (both awaited_at (both (mac_queue_at version)
    (both item_queue_at (heard_at version)))))))

-- a device that is all of the bytes, whatever commands wait for it
unfoldable pub record_at : RecordVersion → List ℕ → Option Device
record_at version = whole (device_at version)

-- the bytes aren't the record of a device for which whole commands wait
abbrev pub IsNoRecord : RecordVersion → List ℕ → Type 0
IsNoRecord version bytes =
    (device : Device) → record_at version bytes ≡ Some device → ¬ AreQueueable device.mac_queue
