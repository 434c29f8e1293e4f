use Rattle.std.proofs.Common.{refl}
use Rattle.aes128.specs.Field.{◌•◌, terms_times, inverse, inverse_up_to, power}
use Rattle.aes128.specs.Cipher.{s_box, round_key}
use Rattle.aes128.proofs.laws.the_round_keys_of_the_standard.Goals as goal

pub returns-clause-first_of_a : goal.returns-clause-first_of_a
unfolding ◌•◌ terms_times inverse inverse_up_to power s_box round_key
returns-clause-first_of_a c = refl

pub returns-clause-last_of_a : goal.returns-clause-last_of_a
unfolding ◌•◌ terms_times inverse inverse_up_to power s_box round_key
returns-clause-last_of_a c = refl

pub returns-clause-first_of_c : goal.returns-clause-first_of_c
unfolding ◌•◌ terms_times inverse inverse_up_to power s_box round_key
returns-clause-first_of_c c = refl

pub returns-clause-last_of_c : goal.returns-clause-last_of_c
unfolding ◌•◌ terms_times inverse inverse_up_to power s_box round_key
returns-clause-last_of_c c = refl
