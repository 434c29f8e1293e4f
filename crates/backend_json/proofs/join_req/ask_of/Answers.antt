use Rattle.std.proofs.Common.{rules, sym, ◌∙◌}
use Rattle.join_server.specs.Request.{dev_eui_of, join_eui_of}
use Rattle.backend_json.specs.Messages.{eui}
use Rattle.backend_json.proofs.Numbers.{number_of_part}
use Rattle.backend_json.proofs.Equal.{inside, behind, behind_five, no_value, refused}
use Rattle.backend_json.proofs.join_req.ask_of.Goals as goal

pub returns-in_err-pass_cf_list : goal.returns-in_err-pass_cf_list
returns-in_err-pass_cf_list c =
    refused _ c.from_residual-in_err-pass_cf_list.result c.from_residual-in_err-pass_cf_list.ensures
    (λ ask is h.
    c.in_err-pass_cf_list.ensures _ (inside (sym c.in_ok-rest.ensures ∙ h)))

pub returns-in_err-dl_settings : goal.returns-in_err-dl_settings
returns-in_err-dl_settings c =
    refused _ c.from_residual-in_err-dl_settings.result c.from_residual-in_err-dl_settings.ensures
    (λ ask is h.
    let r0 = behind c.in_ok-pass_cf_list.ensures (inside (sym c.in_ok-rest.ensures ∙ h)) in
    no_value (c.in_err-dl_settings.ensures.only ask.dl_settings ask.dev_addr (eui (dev_eui_of ask.request)) _ is.dl_settings is.dev_addr (number_of_part 9 ask.request is.request.1) r0))

pub returns-in_err-request : goal.returns-in_err-request
returns-in_err-request c =
    refused _ c.from_residual-in_err-request.result c.from_residual-in_err-request.ensures
    (λ ask is h.
    let r0 = behind c.in_ok-pass_cf_list.ensures (inside (sym c.in_ok-rest.ensures ∙ h)) in
    let r1 = behind_five c.in_ok-dl_settings.ensures.found r0 in
    no_value (c.in_err-request.ensures.only ask.request _ is.request r1))

pub returns-in_err-text : goal.returns-in_err-text
returns-in_err-text c =
    refused _ c.from_residual-in_err-text.result c.from_residual-in_err-text.ensures
    (λ ask is h.
    let r0 = behind c.in_ok-pass_cf_list.ensures (inside (sym c.in_ok-rest.ensures ∙ h)) in
    let r1 = behind_five c.in_ok-dl_settings.ensures.found r0 in
    let r2 = behind c.in_ok-request.ensures.found r1 in
    c.in_err-text.ensures _ r2)

pub returns-in_err-join_eui : goal.returns-in_err-join_eui
returns-in_err-join_eui c =
    refused _ c.from_residual-in_err-join_eui.result c.from_residual-in_err-join_eui.ensures
    (λ ask is h.
    let r0 = behind c.in_ok-pass_cf_list.ensures (inside (sym c.in_ok-rest.ensures ∙ h)) in
    let r1 = behind_five c.in_ok-dl_settings.ensures.found r0 in
    let r2 = behind c.in_ok-request.ensures.found r1 in
    let r3 = behind c.in_ok-text.ensures r2 in
    no_value (c.in_err-join_eui.ensures.only (eui (join_eui_of ask.request)) _ (number_of_part 1 ask.request is.request.1) r3))

pub returns-in_err-rx_delay : goal.returns-in_err-rx_delay
returns-in_err-rx_delay c =
    refused _ c.from_residual-in_err-rx_delay.result c.from_residual-in_err-rx_delay.ensures
    (λ ask is h.
    let r0 = behind c.in_ok-pass_cf_list.ensures (inside (sym c.in_ok-rest.ensures ∙ h)) in
    let r1 = behind_five c.in_ok-dl_settings.ensures.found r0 in
    let r2 = behind c.in_ok-request.ensures.found r1 in
    let r3 = behind c.in_ok-text.ensures r2 in
    let r4 = behind c.in_ok-join_eui.ensures.found r3 in
    no_value (c.in_err-rx_delay.ensures.only ask.rx_delay ask.net_id ask.transaction is.rx_delay is.net_id is.transaction r4))

pub returns-else-is_of_pair : goal.returns-else-is_of_pair
returns-else-is_of_pair c ask is h =
    let r0 = behind c.in_ok-pass_cf_list.ensures (inside (sym c.in_ok-rest.ensures ∙ h)) in
    let r1 = behind_five c.in_ok-dl_settings.ensures.found r0 in
    let r2 = behind c.in_ok-request.ensures.found r1 in
    let r3 = behind c.in_ok-text.ensures r2 in
    let device = c.in_ok-dl_settings.ensures.only ask.dl_settings ask.dev_addr (eui (dev_eui_of ask.request)) _ is.dl_settings is.dev_addr (number_of_part 9 ask.request is.request.1) r0 in
    let request = c.in_ok-request.ensures.only ask.request _ is.request r1 in
    let join_eui = c.in_ok-join_eui.ensures.only (eui (join_eui_of ask.request)) _ (number_of_part 1 ask.request is.request.1) r3 in
    search (rules, device, request, join_eui)
