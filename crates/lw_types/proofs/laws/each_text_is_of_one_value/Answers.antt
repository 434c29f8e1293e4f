use Rattle.std.proofs.lemmas.Fmt.{decimal_injective}
use Rattle.lw_types.proofs.Decimals.{signed_injective}
use Rattle.lw_types.proofs.FieldTexts.{field_text_injective}
use Rattle.lw_types.proofs.UpperHex.{hex_text_injective}
use Rattle.lw_types.proofs.ValueTexts.{dev_addr_text_injective, eui_text_injective, key_text_injective, net_id_text_injective}
use Rattle.lw_types.proofs.laws.each_text_is_of_one_value.Goals as goal

pub returns-clause-hex : goal.returns-clause-hex
returns-clause-hex c = hex_text_injective

pub returns-clause-fields : goal.returns-clause-fields
returns-clause-fields c = field_text_injective

pub returns-clause-euis : goal.returns-clause-euis
returns-clause-euis c = eui_text_injective

pub returns-clause-addresses : goal.returns-clause-addresses
returns-clause-addresses c = dev_addr_text_injective

pub returns-clause-networks : goal.returns-clause-networks
returns-clause-networks c = net_id_text_injective

pub returns-clause-keys : goal.returns-clause-keys
returns-clause-keys c = key_text_injective

pub returns-clause-decimals : goal.returns-clause-decimals
returns-clause-decimals c = decimal_injective

pub returns-clause-signed : goal.returns-clause-signed
returns-clause-signed c = signed_injective
