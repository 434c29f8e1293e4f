use Rattle.std.proofs.Common.{subst, sym}
use Rattle.std.specs.Fmt.{decimal}
use Rattle.device_lists.specs.Values.{IsGivenOr, IsIn, text_in}
use Rattle.device_lists.proofs.Given.{on_err}
use Rattle.device_lists.proofs.values.importing_of.Goals as goal

pub returns-in_err-rx1_offset-clause-value : goal.returns-in_err-rx1_offset-clause-value
returns-in_err-rx1_offset-clause-value c =
    on_err _ c.from_residual-in_err-rx1_offset.result _ _ c.from_residual-in_err-rx1_offset.ensures.1
    (λ i is. c.in_err-rx1_offset.ensures.value i.provisioning.rx1_offset
    (subst (λ d. IsGivenOr (IsIn 0 5) decimal d (text_in c.args.fields.now.offset) i.provisioning.rx1_offset) (sym c.usual_offset.ensures) is.rx1_offset))

pub returns-in_err-rx_delay-clause-value : goal.returns-in_err-rx_delay-clause-value
returns-in_err-rx_delay-clause-value c =
    on_err _ c.from_residual-in_err-rx_delay.result _ _ c.from_residual-in_err-rx_delay.ensures.1
    (λ i is. c.in_err-rx_delay.ensures.value i.provisioning.rx_delay
    (subst (λ d. IsGivenOr (IsIn 1 15) decimal d (text_in c.args.fields.now.delay) i.provisioning.rx_delay) (sym c.usual_delay.ensures) is.rx_delay))

pub returns-in_err-last_join_nonce-clause-value : goal.returns-in_err-last_join_nonce-clause-value
returns-in_err-last_join_nonce-clause-value c =
    on_err _ c.from_residual-in_err-last_join_nonce.result _ _ c.from_residual-in_err-last_join_nonce.ensures.1
    (λ i is. c.in_err-last_join_nonce.ensures.value i.last_join_nonce
    (subst (λ d. IsGivenOr (IsIn 0 16777215) decimal d (text_in c.args.fields.now.last_join_nonce) i.last_join_nonce) (sym c.no_join_nonce.ensures) is.last_join_nonce))
