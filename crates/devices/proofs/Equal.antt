-- The derived comparisons distinguish equal values from others.
use Rattle.std.proofs.Common.{◌≡◌, ◌&&◌, List, Bool, true, false, Option, Some, None, rules, refl, ap, nat_eq}
use Rattle.std.specs.Bool.{Decides}
use Rattle.std.specs.Option.{option_eq}
use Rattle.std.specs.Cmp.Lexicographic.{pointwise, pointwise_decides}
use Rattle.std.proofs.Common.{sym}
use Rattle.std.specs.Cmp.{unsigned_Decides}
use Rattle.std.proofs.lemmas.Bool.{false≢true}
use Rattle.std.proofs.lemmas.Option.{none-some, same_Some}
use Rattle.std.proofs.lemmas.Slice.Eq.{bytes_eq-Decides}
use Rattle.lw_types.specs.declared.identifiers.Eui.{Eui}
use Rattle.lw_types.specs.declared.key.Key.{Key}
use Rattle.devices.specs.declared.Tag.{Tag}
use Rattle.devices.specs.contracts.TagPartialEq.TheImpl as tag
use Rattle.devices.specs.declared.queue.Item.{Item}
use Rattle.devices.specs.contracts.queue.ItemPartialEq.TheImpl as item
use Rattle.devices.specs.declared.activation.Session.{Session}
use Rattle.devices.specs.contracts.activation.SessionPartialEq.TheImpl as session
use Rattle.devices.specs.declared.activation.CurrentSession.{CurrentSession}
use Rattle.devices.specs.contracts.activation.CurrentSessionPartialEq.TheImpl as current
use Rattle.devices.specs.Activation.{Grants}
use Rattle.devices.specs.contracts.activation.ActivationPartialEq.TheImpl as activation
use Rattle.devices.specs.declared.device.Device.{Device}
use Rattle.devices.specs.contracts.device.DevicePartialEq.TheImpl as device

-- two tests that decide two statements decide both together
both : {A B : Type 0} (p q : Bool) → Decides p A → Decides q B → Decides (p && q) (A × B)
both true q a b = (λ e. (a.0 refl, b.0 e), λ h. b.1 h.1)
both false q a b = (λ e. absurd (false≢true e), λ h. absurd (false≢true (a.1 h.0)))

iff : {A B : Type 0} {p : Bool} → Decides p A → (A → B) → (B → A) → Decides p B
iff d to from = (λ e. to (d.0 e), λ h. d.1 (from h))

options : {T : Type 0} {E : T → T → Bool} → ((x y : T) → Decides (E x y) (x ≡ y)) → (a b : Option T) → Decides (option_eq E a b) (a ≡ b)
options d None None = (λ _. refl, λ _. refl)
options d None (Some y) = (λ e. absurd (false≢true e), λ h. absurd (none-some y h))
options d (Some x) None = (λ e. absurd (false≢true e), λ h. absurd (none-some x (sym h)))
options d (Some x) (Some y) = (λ e. ap Some ((d x y).0 e), λ h. (d x y).1 (same_Some x y h))

pub item_decides : (a b : Item) → Decides (item.ghosts.eq a b) (a ≡ b)
item_decides a b = search rules

pub items_decide : (xs ys : List Item) → Decides (pointwise item.ghosts.eq xs ys) (xs ≡ ys)
items_decide = pointwise_decides item_decides

session_decides : (a b : Session) → Decides (session.ghosts.eq a b) (a ≡ b)
session_decides a b = search rules

current_decides : (a b : CurrentSession) → Decides (current.ghosts.eq a b) (a ≡ b)
current_decides a b = search (rules, session_decides)

activation_decides : (a b : Grants) → Decides (activation.ghosts.eq a b) (a ≡ b)
activation_decides a b =
    iff (both _ _ (options unsigned_Decides a.granted b.granted) (both _ _ (options current_decides a.current b.current) (options session_decides a.pending b.pending)))
    (λ h i. record { granted = h.0 i; current = h.1.0 i; pending = h.1.1 i })
    (λ e. (λ i. (e i).granted, (λ i. (e i).current, λ i. (e i).pending)))

tag_decides : (a b : Tag) → Decides (tag.ghosts.eq a b) (a ≡ b)
tag_decides a b = search rules

eui_decides : (a b : Eui) → Decides (nat_eq a.0 b.0) (a ≡ b)
eui_decides a b = iff (unsigned_Decides a.0 b.0) (λ h i. record { 0 = h i }) (λ e i. (e i).0)

key_decides : (a b : Key) → Decides (pointwise nat_eq a.0 b.0) (a ≡ b)
key_decides a b = iff (bytes_eq-Decides a.0 b.0) (λ h i. record { 0 = h i }) (λ e i. (e i).0)

pub device_decides : (a b : Device) → Decides (device.ghosts.eq a b) (a ≡ b)
device_decides a b =
    iff
    (both _ _ (eui_decides a.dev_eui b.dev_eui) (both _ _ (eui_decides a.join_eui b.join_eui) (both _ _ (key_decides a.app_key b.app_key)
    (both _ _ (unsigned_Decides a.application b.application) (both _ _ (unsigned_Decides a.rx1_offset b.rx1_offset) (both _ _ (unsigned_Decides a.rx_delay b.rx_delay)
    (both _ _ (options unsigned_Decides a.last_dev_nonce b.last_dev_nonce) (both _ _ (activation_decides a.activation b.activation)
    (both _ _ (options tag_decides a.awaited b.awaited) (both _ _ (bytes_eq-Decides a.mac_queue b.mac_queue) (both _ _ (items_decide a.items b.items) (unsigned_Decides a.heard b.heard))))))))))))
    (λ h i. record {
      dev_eui = h.0 i;
      join_eui = h.1.0 i;
      app_key = h.1.1.0 i;
      application = h.1.1.1.0 i;
      rx1_offset = h.1.1.1.1.0 i;
      rx_delay = h.1.1.1.1.1.0 i;
      last_dev_nonce = h.1.1.1.1.1.1.0 i;
      activation = h.1.1.1.1.1.1.1.0 i;
      awaited = h.1.1.1.1.1.1.1.1.0 i;
      mac_queue = h.1.1.1.1.1.1.1.1.1.0 i;
      items = h.1.1.1.1.1.1.1.1.1.1.0 i;
      heard = h.1.1.1.1.1.1.1.1.1.1.1 i;
    })
    (λ e. (
      λ i. (e i).dev_eui,
      (
        λ i. (e i).join_eui,
        (
          λ i. (e i).app_key,
          (
            λ i. (e i).application,
            (
              λ i. (e i).rx1_offset,
              (
                λ i. (e i).rx_delay,
                (λ i. (e i).last_dev_nonce, (λ i. (e i).activation, (λ i. (e i).awaited, (λ i. (e i).mac_queue, (λ i. (e i).items, λ i. (e i).heard))))),
              ),
            ),
          ),
        ),
      ),
    ))
