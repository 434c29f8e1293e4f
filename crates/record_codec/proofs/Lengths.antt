-- How long a record is.
use Rattle.std.proofs.Common.{◌≡◌, ℕ, ◌+◌, ◌*◌, ◌≤◌, false, true, Bool, List, [], ◌∷◌, ◌++◌, length, Option, Some, None, ap, arith}
use Rattle.std.specs.Prelude.{IfSome}
use Rattle.std.specs.Int.{w32, w64, to_be_bytes}
use Rattle.std.specs.List.{flat_map, AllByRecursion}
use Rattle.std.proofs.lemmas.List.{length-append}
use Rattle.std.proofs.lemmas.List.Concat.{flat_map-cons}
use Rattle.devices.specs.declared.Tag.{Tag}
use Rattle.devices.specs.declared.activation.Session.{Session}
use Rattle.devices.specs.declared.activation.CurrentSession.{CurrentSession}
use Rattle.devices.specs.declared.device.Device.{Device}
use Rattle.devices.specs.declared.queue.Item.{Item}
use Rattle.devices.specs.Activation.{Grants}
use Rattle.byte_fields.specs.Spelling.{counted_bytes, flag}
use Rattle.record_codec.specs.declared.version.RecordVersion.{RecordVersion}
use Rattle.record_codec.specs.declared.version.RecordVersion.TheVariants.{V1, V2}
use Rattle.record_codec.specs.DeviceRecord.{activation, awaited_bytes, current_session, dev_nonce, granted_bytes, head, heard_bytes, item, item_queue, optional_current, optional_session, session, spelling, AreGrants, IsCurrentSession, IsDevice, IsItem, IsSession}

abbrev pub Has : ℕ → ℕ → List ℕ → Type 0
Has least most bytes = (least ≤ length bytes) × (length bytes ≤ most)

has-append : (a b c d : ℕ) (first second : List ℕ) → Has a b first → Has c d second → Has (a + c) (b + d) (first ++ second)
has-append a b c d first second h k =
    let len = length-append first second in
    let h0 = h.0 in
    let h1 = h.1 in
    let k0 = k.0 in
    let k1 = k.1 in
    (omega arith, omega arith)

has_flag : (f : Bool) → Has 1 1 (flag f)
has_flag true = (omega arith, omega arith)
has_flag false = (omega arith, omega arith)

pub has_dev_nonce : (o : Option ℕ) → Has 3 3 (dev_nonce o)
has_dev_nonce None = (omega arith, omega arith)
has_dev_nonce (Some n) = (omega arith, omega arith)

pub has_awaited : (o : Option Tag) → Has 5 5 (awaited_bytes o)
has_awaited None = (omega arith, omega arith)
has_awaited (Some tag) = (omega arith, omega arith)

pub has_granted : (o : Option ℕ) → Has 3 3 (granted_bytes o)
has_granted None = (omega arith, omega arith)
has_granted (Some n) = (omega arith, omega arith)

has_session : (s : Session) → IsSession s → Has 35 35 (session s)
has_session s h =
    let len = length-append s.nwk_skey.0 s.app_skey.0 in
    let nwk = h.nwk_skey.1 in
    let app = h.app_skey.1 in
    (omega arith, omega arith)

has_current : (c : CurrentSession) → IsCurrentSession c → Has 47 47 (current_session c)
has_current c h = has-append 35 35 12 12 (session c.session) (to_be_bytes w32 c.last_up ++ to_be_bytes w64 c.next_down) (has_session c.session h.session) (omega arith, omega arith)

pub has_optional_current : (o : Option CurrentSession) → IfSome o IsCurrentSession → Has 1 48 (optional_current o)
has_optional_current None h = (omega arith, omega arith)
has_optional_current (Some c) h = let k = has_current c h in let k0 = k.0 in let k1 = k.1 in (omega arith, omega arith)

pub has_optional_session : (o : Option Session) → IfSome o IsSession → Has 1 36 (optional_session o)
has_optional_session None h = (omega arith, omega arith)
has_optional_session (Some s) h = let k = has_session s h in let k0 = k.0 in let k1 = k.1 in (omega arith, omega arith)

has_activation : (g : Grants) → AreGrants g → Has 5 87 (activation g)
has_activation g h =
    has-append 3 3 2 84 (granted_bytes g.granted) (optional_current g.current ++ optional_session g.pending) (has_granted g.granted)
    (has-append 1 48 1 36 (optional_current g.current) (optional_session g.pending) (has_optional_current g.current h.current) (has_optional_session g.pending h.pending))

pub has_counted : (bytes : List ℕ) (most : ℕ) → length bytes ≤ most → Has 1 (1 + most) (counted_bytes bytes)
has_counted bytes most le = (omega arith, omega arith)

pub has_item : (i : Item) → IsItem i → Has 7 249 (item i)
has_item i h =
    has-append 4 4 3 245 (to_be_bytes w32 i.tag.0) (i.port ∷ [] ++ (flag i.confirmed ++ counted_bytes i.payload)) (omega arith, omega arith)
    (has-append 1 1 2 244 (i.port ∷ []) (flag i.confirmed ++ counted_bytes i.payload) (omega arith, omega arith)
    (has-append 1 1 1 243 (flag i.confirmed) (counted_bytes i.payload) (has_flag i.confirmed) (has_counted i.payload 242 h.payload.1)))

items_most : (items : List Item) → AllByRecursion IsItem items → length (flat_map item items) ≤ 249 * length items
items_most [] h = omega arith
items_most (i ∷ items) h =
    let one = (has_item i h.0).1 in
    let more = items_most items h.1 in
    let len = length-append (item i) (flat_map item items) in
    let whole : length (flat_map item (i ∷ items)) ≡ length (item i ++ flat_map item items) = ap length (flat_map-cons item i items) in
    omega arith

has_items : (items : List Item) → length items ≤ 16 → AllByRecursion IsItem items → Has 1 3985 (item_queue items)
has_items items few h = let most = items_most items h in (omega arith, omega arith)

has_head : (v : RecordVersion) (d : Device) → IsDevice v d → Has 35 35 (head d)
has_head v d h =
    let len = length-append d.app_key.0 (d.application ∷ d.rx1_offset ∷ d.rx_delay ∷ []) in
    let key = h.head.app_key.1 in
    (omega arith, omega arith)

-- a record with a MAC queue and a count of these lengths
has_parts : (v : RecordVersion) (queue count : ℕ) (d : Device) → IsDevice v d → length d.mac_queue ≤ queue → Has count count (heard_bytes v d.heard) → Has (50 + count) (4116 + queue + count) (spelling v d)
unfolding spelling
has_parts v queue count d h few heard =
    let queues = has-append 1 (1 + queue) (1 + count) (3985 + count) (counted_bytes d.mac_queue) (item_queue d.items ++ heard_bytes v d.heard) (has_counted d.mac_queue queue few)
    (has-append 1 3985 count count (item_queue d.items) (heard_bytes v d.heard) (has_items d.items h.items.0 h.items.1) heard) in
    let behind = has-append 5 87 _ _ (activation d.activation) (awaited_bytes d.awaited ++ (counted_bytes d.mac_queue ++ (item_queue d.items ++ heard_bytes v d.heard))) (has_activation d.activation h.activation)
    (has-append 5 5 _ _ (awaited_bytes d.awaited) (counted_bytes d.mac_queue ++ (item_queue d.items ++ heard_bytes v d.heard)) (has_awaited d.awaited) queues) in
    let whole = has-append 35 35 _ _ (head d) (dev_nonce d.last_dev_nonce ++ (activation d.activation ++ (awaited_bytes d.awaited ++ (counted_bytes d.mac_queue ++ (item_queue d.items ++ heard_bytes v d.heard))))) (has_head v d h)
    (has-append 3 3 _ _ (dev_nonce d.last_dev_nonce) (activation d.activation ++ (awaited_bytes d.awaited ++ (counted_bytes d.mac_queue ++ (item_queue d.items ++ heard_bytes v d.heard)))) (has_dev_nonce d.last_dev_nonce) behind) in
    let least = whole.0 in
    let most = whole.1 in
    (omega arith, omega arith)

pub has_spelling_v1 : (d : Device) → IsDevice V1 d → Has 50 4180 (spelling V1 d)
has_spelling_v1 d h = has_parts V1 64 0 d h h.mac_queue.1 (omega arith, omega arith)

pub has_spelling_v2 : (d : Device) → IsDevice V2 d → Has 58 4252 (spelling V2 d)
has_spelling_v2 d h = has_parts V2 128 8 d h h.mac_queue.1 (omega arith, omega arith)

pub has_spelling : (v : RecordVersion) (d : Device) → IsDevice v d → Has 50 4252 (spelling v d)
has_spelling V1 d h = let long = has_spelling_v1 d h in let least = long.0 in let most = long.1 in (omega arith, omega arith)
has_spelling V2 d h = let long = has_spelling_v2 d h in let least = long.0 in let most = long.1 in (omega arith, omega arith)
