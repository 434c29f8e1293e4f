-- The layout of a device record in each version: numbers with the highest byte first, one field
-- after another.
use Rattle.std.specs.Prelude.{◌≡◌, ℕ, ◌^◌, ◌<◌, ◌≤◌, List, [], ◌∷◌, ◌++◌, length}
use Rattle.std.specs.Prelude.{Option, Some, None, option_map, IfSome}
use Rattle.std.specs.List.{flat_map, AllByRecursion}
use Rattle.std.specs.Int.{Width, w16, w32, w64, to_be_bytes}
use Rattle.lw_types.specs.Hex.{IsBytes}
use Rattle.lw_types.specs.Values.{IsKey}
use Rattle.lw_types.specs.declared.payload.TheConstants.{LONGEST_PAYLOAD}
use Rattle.byte_fields.specs.Spelling.{flag, three_be_bytes, counted_bytes}
use Rattle.devices.specs.declared.Tag.{Tag}
use Rattle.devices.specs.declared.activation.Session.{Session}
use Rattle.devices.specs.declared.activation.CurrentSession.{CurrentSession}
use Rattle.devices.specs.declared.channels.Channels.{Channels}
use Rattle.devices.specs.declared.channels.Channels.TheVariants.{Three, Eight}
use Rattle.devices.specs.declared.queue.Item.{Item}
use Rattle.devices.specs.declared.device.Device.{Device}
use Rattle.devices.specs.Activation.{Grants, AreInOrder}
use Rattle.devices.specs.declared.TheConstants.{LAST_HEARD}
use Rattle.devices.specs.declared.queue.TheConstants.ItemQueue.{MOST as MOST_ITEMS}
use Rattle.mac_commands.specs.Queueable.{AreQueueable}
use Rattle.record_codec.specs.Version.{longest_mac_queue}
use Rattle.record_codec.specs.declared.version.RecordVersion.{RecordVersion}
use Rattle.record_codec.specs.declared.version.RecordVersion.TheVariants.{V1, V2}

-- ---- the fields

-- three bytes
abbrev pub nonce : ℕ → List ℕ
nonce n = three_be_bytes n

-- a flag and a number, which is 0 if none exists
abbrev pub flagged_number : Width → Option ℕ → List ℕ
flagged_number w None = 0 ∷ to_be_bytes w 0
flagged_number w (Some n) = 1 ∷ to_be_bytes w n

abbrev pub dev_nonce : Option ℕ → List ℕ
dev_nonce o = flagged_number w16 o

abbrev pub awaited_bytes : Option Tag → List ℕ
awaited_bytes o = flagged_number w32 (option_map (λ tag. tag.0) o)

-- three bytes, which are 0 if nothing was granted
abbrev pub granted_bytes : Option ℕ → List ℕ
granted_bytes None = nonce 0
granted_bytes (Some n) = nonce n

-- without its channels, which the byte before it gives
abbrev pub session : Session → List ℕ
session s = nonce s.join_nonce ++ (s.nwk_skey.0 ++ s.app_skey.0)

abbrev pub current_session : CurrentSession → List ℕ
current_session c = session c.session ++ (to_be_bytes w32 c.last_up ++ to_be_bytes w64 c.next_down)

-- the byte that says whether a session exists, and which channels it has; 0 means none
abbrev pub channels_byte : Channels → ℕ
channels_byte Three = 1
channels_byte Eight = 2

abbrev pub optional_current : Option CurrentSession → List ℕ
optional_current None = 0 ∷ []
optional_current (Some c) = channels_byte c.session.channels ∷ current_session c

abbrev pub optional_session : Option Session → List ℕ
optional_session None = 0 ∷ []
optional_session (Some s) = channels_byte s.channels ∷ session s

abbrev pub activation : Grants → List ℕ
activation g =
    granted_bytes g.granted ++ (optional_current g.current ++ optional_session g.pending)

abbrev pub item : Item → List ℕ
item i = to_be_bytes w32 i.tag.0 ++ (i.port ∷ [] ++ (flag i.confirmed ++ counted_bytes i.payload))

-- a byte with the number of items, and each item
abbrev pub item_queue : List Item → List ℕ
item_queue items = length items ∷ flat_map item items

-- the count of uplinks, which version 1 doesn't have
abbrev pub heard_bytes : RecordVersion → ℕ → List ℕ
heard_bytes V1 n = []
heard_bytes V2 n = to_be_bytes w64 n

-- ---- the record

-- what a device was provisioned with
abbrev pub head : Device → List ℕ
head d =
    to_be_bytes w64 d.dev_eui.0
    ++ (to_be_bytes w64 d.join_eui.0
    ++ (d.app_key.0
    ++ (d.application ∷ d.rx1_offset ∷ d.rx_delay ∷ [])))

-- the one spelling of a device in a version
unfoldable pub spelling : RecordVersion → Device → List ℕ
spelling version d =
    head d
    ++ (dev_nonce d.last_dev_nonce
    ++ (activation d.activation
    ++ (awaited_bytes d.awaited
    ++ (counted_bytes d.mac_queue
    ++ (item_queue d.items
    ++ heard_bytes version d.heard)))))

-- ---- which values exist

abbrev pub IsJoinNonce : ℕ → Type 0
IsJoinNonce n = (0 < n) × (n < 2 ^ 24)

pub record IsSession (s : Session) : Type 0 where
  pub join_nonce : IsJoinNonce s.join_nonce
  pub nwk_skey : IsKey s.nwk_skey
  pub app_skey : IsKey s.app_skey

pub record IsCurrentSession (c : CurrentSession) : Type 0 where
  pub session : IsSession c.session
  pub last_up : c.last_up < 2 ^ 32
  pub next_down : c.next_down ≤ 2 ^ 32

pub record AreGrants (g : Grants) : Type 0 where
  pub granted : IfSome g.granted IsJoinNonce
  pub current : IfSome g.current IsCurrentSession
  pub pending : IfSome g.pending IsSession
  pub in_order : AreInOrder g

pub record IsItem (i : Item) : Type 0 where
  pub tag : i.tag.0 < 2 ^ 32
  pub port : (1 ≤ i.port) × (i.port ≤ 223)
  pub payload : IsBytes i.payload × (length i.payload ≤ LONGEST_PAYLOAD)

-- what a device was provisioned with is in its ranges
pub record HeadIsInRange (d : Device) : Type 0 where
  pub dev_eui : d.dev_eui.0 < 2 ^ 64
  pub join_eui : d.join_eui.0 < 2 ^ 64
  pub app_key : IsKey d.app_key
  pub application : d.application ≤ 15
  pub rx1_offset : d.rx1_offset ≤ 5
  pub rx_delay : (1 ≤ d.rx_delay) × (d.rx_delay ≤ 15)

-- no uplink is counted in version 1
abbrev pub IsHeardIn : RecordVersion → ℕ → Type 0
IsHeardIn V1 n = n ≡ 0
IsHeardIn V2 n = n ≤ LAST_HEARD

-- a device that version 1 can express: no uplink is counted, and at most 64 bytes of MAC commands
-- wait
pub record IsToldByV1 (d : Device) : Type 0 where
  pub heard : d.heard ≡ 0
  pub mac_queue : length d.mac_queue ≤ longest_mac_queue V1

-- a device that a version can express; version 2 can express each device
abbrev pub IsToldBy : RecordVersion → Device → Type 0
IsToldBy V1 d = IsToldByV1 d
IsToldBy V2 d = Unit {0}

-- a device that has a record in a version: its fields are in their ranges. In the newest version
-- each device of a program has one
pub record IsDevice (version : RecordVersion) (d : Device) : Type 0 where
  pub head : HeadIsInRange d
  pub last_dev_nonce : IfSome d.last_dev_nonce (λ n. n < 2 ^ 16)
  pub activation : AreGrants d.activation
  pub awaited : IfSome d.awaited (λ tag. tag.0 < 2 ^ 32)
  pub mac_queue : IsBytes d.mac_queue × (length d.mac_queue ≤ longest_mac_queue version)
      × AreQueueable d.mac_queue
  pub items : (length d.items ≤ MOST_ITEMS) × AllByRecursion IsItem d.items
  pub heard : IsHeardIn version d.heard

-- the bytes are some device's record in a version
abbrev pub IsSomeRecord : RecordVersion → List ℕ → Type 0
IsSomeRecord version bytes =
    (device : Device) × IsDevice version device × (bytes ≡ spelling version device)
