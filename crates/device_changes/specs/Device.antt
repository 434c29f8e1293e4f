-- What a change does to the record of its device.
use Rattle.std.specs.Prelude.{ℕ, ◌==◌, Bool, nat_eq, if◌then◌else◌, Option, Some, None, []}
use Rattle.std.specs.Prelude.{unwrap_or}
use Rattle.std.specs.Cmp.Lexicographic.{pointwise}
use Rattle.lw_types.specs.declared.key.Key.{Key}
use Rattle.devices.specs.Activation.{grants_of}
use Rattle.devices.specs.Device.{new_device}
use Rattle.devices.specs.Restored.{raised_device}
use Rattle.devices.specs.declared.device.Device.{Device}
use Rattle.device_changes.specs.declared.change.Amendment.{Amendment}
use Rattle.device_changes.specs.declared.change.Change.{Change}
use Rattle.device_changes.specs.declared.change.Change.TheVariants.{Import, Amend, Retire}
use Rattle.device_changes.specs.declared.change.Importing.{Importing}
use Rattle.device_changes.specs.declared.change.Retirement.{Retirement}

-- ---- an imported device

-- the last JoinNonce granted; 0 stands for none
abbrev pub last_granted : ℕ → Option ℕ
last_granted last = if last == 0 then None else Some last

-- a device that was just provisioned, without a session, whose nonces go on from the last ones of
-- the other network
abbrev pub imported_device : Importing → Device
imported_device i =
    record (new_device i.provisioning) {
      last_dev_nonce = i.last_dev_nonce;
      activation = grants_of (last_granted i.last_join_nonce) None None;
    }

-- ---- an amended device

-- neither a current nor a pending session is left, so no answer is awaited; the last granted
-- JoinNonce stays
abbrev pub without_sessions : Device → Device
without_sessions d =
    record d { activation = grants_of d.activation.granted None None; awaited = None }

-- nothing waits for the device: no item, no answer to one, and no MAC command
abbrev pub without_queues : Device → Device
without_queues d = record d { awaited = None; mac_queue = []; items = [] }

abbrev pub are_same_keys : Key → Key → Bool
are_same_keys a b = pointwise nat_eq a.0 b.0

-- another AppKey ends the sessions
abbrev pub with_app_key : Option Key → Device → Device
with_app_key None d = d
with_app_key (Some key) d =
    if are_same_keys key d.app_key then d else record (without_sessions d) { app_key = key }

-- another application gets nothing that waits for the device
abbrev pub with_application : Option ℕ → Device → Device
with_application None d = d
with_application (Some number) d =
    if number == d.application then d else record (without_queues d) { application = number }

-- the last granted JoinNonce is raised; it is never lowered
abbrev pub with_join_nonce : Option ℕ → Device → Device
with_join_nonce None d = d
with_join_nonce (Some last) d = raised_device last d

-- what is given of these is set
abbrev pub with_settings : Amendment → Device → Device
with_settings a d =
    record d {
      join_eui = unwrap_or a.join_eui d.join_eui;
      rx1_offset = unwrap_or a.rx1_offset d.rx1_offset;
      rx_delay = unwrap_or a.rx_delay d.rx_delay;
      last_dev_nonce = unwrap_or a.last_dev_nonce d.last_dev_nonce;
    }

abbrev pub amended_device : Amendment → Device → Device
amended_device a d =
    with_join_nonce a.last_join_nonce
    (with_application a.application (with_app_key a.app_key (with_settings a d)))

-- ---- a retired device

-- it has no session and an AppKey that nobody knows, and nothing waits for it; both nonces stay
abbrev pub retired_device : Retirement → Device → Device
retired_device r d = record (without_queues (without_sessions d)) { app_key = r.app_key }

-- ---- any change

-- an import doesn't change a device that the table has
abbrev pub record_with_change : Change → Device → Device
record_with_change (Import i) d = d  -- not reached
record_with_change (Amend a) d = amended_device a d
record_with_change (Retire r) d = retired_device r d
