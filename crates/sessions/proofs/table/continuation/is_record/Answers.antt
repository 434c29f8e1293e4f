use Rattle.std.proofs.Common.{◌≡◌, ◌↔◌, Option, Some, Bool, IsTrue, ap}
use Rattle.std.specs.Option.{option_copied}
use Rattle.devices.specs.declared.device.Device.{Device}
use Rattle.sessions.proofs.table.continuation.is_record.Goals as goal

same-device : (a b : Device) → ◌≡◌ {A = Option Device} (Some a) (Some b) → a ≡ b
same-device a b h = cc

-- two records are the same if both exist and are the same
both : (r : Bool) (a b : Device) (before found : Option Device) → before ≡ Some a → found ≡ Some b → (IsTrue r ↔ (a ≡ b)) → IsTrue r ↔ (before ≡ found)
both r a b before found at-before at-found same = rw (at-before, at-found) (λ t. ap (λ (x : Device). Some x) (same.0 t), λ h. same.1 (same-device a b h))

pub returns-in-Some-Some : goal.returns-in-Some-Some
returns-in-Some-Some c =
    both _ c.in-Some-Some.device c.in-Some-Some.other.now c.args.before.now (option_copied c.args.found) c.in-Some-Some.is-0 (ap option_copied c.in-Some-Some.is-1)
    c.same_as.ensures
