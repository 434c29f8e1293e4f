use Rattle.lw_types.proofs.Decimals.{IsWord-decimal, IsWord-signed_decimal}
use Rattle.lw_types.proofs.ValueTexts.{IsWord-dev_addr_text, IsWord-eui_text, IsWord-field_text, IsWord-hex_text, IsWord-key_text, IsWord-net_id_text}
use Rattle.lw_types.proofs.laws.each_text_is_a_word.Goals as goal

pub returns-clause-hex : goal.returns-clause-hex
returns-clause-hex c = IsWord-hex_text

pub returns-clause-fields : goal.returns-clause-fields
returns-clause-fields c = IsWord-field_text

pub returns-clause-euis : goal.returns-clause-euis
returns-clause-euis c = IsWord-eui_text

pub returns-clause-addresses : goal.returns-clause-addresses
returns-clause-addresses c = IsWord-dev_addr_text

pub returns-clause-networks : goal.returns-clause-networks
returns-clause-networks c = IsWord-net_id_text

pub returns-clause-keys : goal.returns-clause-keys
returns-clause-keys c = IsWord-key_text

pub returns-clause-decimals : goal.returns-clause-decimals
returns-clause-decimals c = IsWord-decimal

pub returns-clause-signed : goal.returns-clause-signed
returns-clause-signed c = IsWord-signed_decimal
