use Rattle.std.proofs.Common.{Some, None, ◌∙◌, arith}
use Rattle.store_files.proofs.RecordLines.{is_granted, parted, same}
use Rattle.store_files.proofs.record.session_in_line.Goals as goal

pub returns-in_err-dev_eui-clause-only : goal.returns-in_err-dev_eui-clause-only
returns-in_err-dev_eui-clause-only c = λ s eui nonce is. absurd (parted _ None s c.in_err-dev_eui.ensures.cases is)

pub returns-in_err-dev_eui-2-clause-only : goal.returns-in_err-dev_eui-2-clause-only
returns-in_err-dev_eui-2-clause-only c = λ s eui nonce is.
    let parts = parted c.args.line.now (Some (c.in_ok-dev_eui.dev_eui, c.in_ok-dev_eui.join_nonce)) s c.in_ok-dev_eui.ensures.cases is in
    absurd (cc (c.in_err-dev_eui-2.ensures.only s.dev_eui eui parts.0))

pub returns-in_err-from_text-clause-only : goal.returns-in_err-from_text-clause-only
returns-in_err-from_text-clause-only c = λ s eui nonce is.
    let parts = parted c.args.line.now (Some (c.in_ok-dev_eui.dev_eui, c.in_ok-dev_eui.join_nonce)) s c.in_ok-dev_eui.ensures.cases is in
    absurd (cc (c.in_err-from_text.ensures.only s.join_nonce (omega (arith, nonce.1)) parts.1))

pub returns-in_err-join_nonce-clause-only : goal.returns-in_err-join_nonce-clause-only
returns-in_err-join_nonce-clause-only c = λ s eui nonce is.
    let parts = parted c.args.line.now (Some (c.in_ok-dev_eui.dev_eui, c.in_ok-dev_eui.join_nonce)) s c.in_ok-dev_eui.ensures.cases is in
    let number = same c.in_ok-from_text.field-0 s.join_nonce (c.in_ok-from_text.ensures.only s.join_nonce (omega (arith, nonce.1)) parts.1) in
    absurd (c.in_err-join_nonce.ensures (is_granted c.in_ok-from_text.field-0 s.join_nonce nonce number))

pub returns-clause-only : goal.returns-clause-only
returns-clause-only c = λ s eui nonce is.
    let parts = parted c.args.line.now (Some (c.in_ok-dev_eui.dev_eui, c.in_ok-dev_eui.join_nonce)) s c.in_ok-dev_eui.ensures.cases is in
    let number = same c.in_ok-from_text.field-0 s.join_nonce (c.in_ok-from_text.ensures.only s.join_nonce (omega (arith, nonce.1)) parts.1) in
    let device = same c.in_ok-dev_eui-2.dev_eui s.dev_eui (c.in_ok-dev_eui-2.ensures.only s.dev_eui eui parts.0) in
    let granted = c.in_ok-join_nonce.ensures.1 ∙ number in
    (λ k. Some (record { dev_eui = device k; join_nonce = granted k }))
