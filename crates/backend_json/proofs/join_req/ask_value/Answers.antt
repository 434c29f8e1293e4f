use Rattle.std.proofs.Common.{List, ℕ, Some, ap, refl}
use Rattle.lw_types.specs.Hex.{eui_text, hex_text}
use Rattle.backend_json.specs.Messages.{eui}
use Rattle.backend_json.proofs.join_req.ask_value.Goals as goal

pub returns : goal.returns
returns c =
    let h0 = c.new.ensures in
    let h1 = c.text.ensures _ _ h0 refl in
    let h2 = c.text-2.ensures _ _ h1 refl in
    let h3 = c.text-3.ensures _ _ h2 refl in
    let h4 = c.text-4.ensures _ _ h3 (ap (λ n. Some (eui_text (eui n))) c.dev_eui.ensures) in
    let h5 = c.text-5.ensures _ _ h4 refl in
    let h6 = c.text-6.ensures _ _ h5 refl in
    let h7 = c.text-7.ensures _ _ h6 (ap (λ (bytes : List ℕ). Some (hex_text bytes)) c.bytes.ensures.value) in
    let h8 = c.text-8.ensures _ _ h7 refl in
    let h9 = c.text-9.ensures _ _ h8 (ap (λ n. Some (eui_text (eui n))) c.join_eui.ensures) in
    let h10 = c.number.ensures _ _ h9 c.get.ensures.value in
    let h11 = c.text-10.ensures _ _ h10 refl in
    let h12 = c.number-2.ensures _ _ h11 c.from.ensures in
    c.whole.ensures _ h12
