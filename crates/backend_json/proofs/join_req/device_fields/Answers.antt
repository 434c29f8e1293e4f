use Rattle.std.proofs.Common.{rules, ◌∷◌, []}
use Rattle.backend_json.proofs.Equal.{behind, no_value}
use Rattle.backend_json.proofs.join_req.device_fields.Goals as goal

pub returns-in_err-dl_settings-clause-only : goal.returns-in_err-dl_settings-clause-only
returns-in_err-dl_settings-clause-only c dl_settings dev_addr dev_eui others s a d h =
    elim (no_value (c.in_err-dl_settings.ensures.only (record { 0 = dl_settings ∷ [] }) _ (search rules) h)) [ ]

pub returns-in_err-dev_addr-clause-only : goal.returns-in_err-dev_addr-clause-only
returns-in_err-dev_addr-clause-only c dl_settings dev_addr dev_eui others s a d h =
    let r1 = behind c.in_ok-dl_settings.ensures.found h in
    elim (no_value (c.in_err-dev_addr.ensures.only dev_addr _ a r1)) [ ]

pub returns-in_err-dev_eui-clause-only : goal.returns-in_err-dev_eui-clause-only
returns-in_err-dev_eui-clause-only c dl_settings dev_addr dev_eui others s a d h =
    let r1 = behind c.in_ok-dl_settings.ensures.found h in
    let r2 = behind c.in_ok-dev_addr.ensures.found r1 in
    elim (no_value (c.in_err-dev_eui.ensures.only dev_eui _ d r2)) [ ]

pub returns-in_err-text-clause-only : goal.returns-in_err-text-clause-only
returns-in_err-text-clause-only c dl_settings dev_addr dev_eui others s a d h =
    let r1 = behind c.in_ok-dl_settings.ensures.found h in
    let r2 = behind c.in_ok-dev_addr.ensures.found r1 in
    let r3 = behind c.in_ok-dev_eui.ensures.found r2 in
    elim (c.in_err-text.ensures _ r3) [ ]

pub returns-in_err-text-2-clause-only : goal.returns-in_err-text-2-clause-only
returns-in_err-text-2-clause-only c dl_settings dev_addr dev_eui others s a d h =
    let r1 = behind c.in_ok-dl_settings.ensures.found h in
    let r2 = behind c.in_ok-dev_addr.ensures.found r1 in
    let r3 = behind c.in_ok-dev_eui.ensures.found r2 in
    let r4 = behind c.in_ok-text.ensures r3 in
    elim (c.in_err-text-2.ensures _ r4) [ ]

pub returns-clause-only : goal.returns-clause-only
returns-clause-only c dl_settings dev_addr dev_eui others s a d h =
    let r1 = behind c.in_ok-dl_settings.ensures.found h in
    let r2 = behind c.in_ok-dev_addr.ensures.found r1 in
    let first = c.in_ok-dl_settings.ensures.only (record { 0 = dl_settings ∷ [] }) _ (search rules) h in
    let second = c.in_ok-dev_addr.ensures.only dev_addr _ a r1 in
    let third = c.in_ok-dev_eui.ensures.only dev_eui _ d r2 in
    search (rules, first, second, third)
