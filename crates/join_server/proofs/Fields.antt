-- The fields of a Join-Accept are bytes.
use Rattle.std.proofs.Common.{rules, ℕ, List, ◌<◌, ◌^◌, ◌/◌, ◌%◌, [], ◌∷◌, ◌++◌, arith}
use Rattle.std.specs.Prelude.{All, replicate}
use Rattle.std.specs.List.{flat_map}
use Rattle.std.specs.Int.{w32, to_le_bytes}
use Rattle.std.proofs.lemmas.List.Elements.{All-append, All-cons, All-take}
use Rattle.frame_crypt.specs.Joins.{three_le_bytes}
use Rattle.region_eu868.specs.Region.{cf_frequency, cf_list, later_channels}
use Rattle.join_server.specs.declared.ask.JoinAsk.{JoinAsk}
use Rattle.join_server.specs.Join.{accept_fields}
use Rattle.lw_types.specs.Values.{IsByte}

none : All IsByte []
none = search rules

four : (a b c d : ℕ) → a < 2 ^ 8 → b < 2 ^ 8 → c < 2 ^ 8 → d < 2 ^ 8 → All IsByte (a ∷ b ∷ c ∷ d ∷ [])
four a b c d pa pb pc pd =
    All-cons IsByte a (b ∷ c ∷ d ∷ []) pa (All-cons IsByte b (c ∷ d ∷ []) pb (All-cons IsByte c (d ∷ []) pc (All-cons IsByte d [] pd none)))

four_bytes : (n : ℕ) → All IsByte (to_le_bytes w32 n)
four_bytes n = four (n % 256) (n / 256 % 256) (n / 65536 % 256) (n / 16777216 % 256) (omega arith) (omega arith) (omega arith) (omega arith)

three_bytes : (n : ℕ) → All IsByte (three_le_bytes n)
three_bytes n = All-take IsByte 3 (to_le_bytes w32 n) (four_bytes n)

frequencies : (fs : List ℕ) → All IsByte (flat_map cf_frequency fs)
frequencies [] = none
frequencies (f ∷ fs) = All-append IsByte (cf_frequency f) (flat_map cf_frequency fs) (three_bytes (f / 100)) (frequencies fs)

-- the CFList and the four bytes for the MIC
list_and_zeros : All IsByte (cf_list ++ replicate 4 0)
list_and_zeros =
    let list = All-append IsByte (flat_map cf_frequency later_channels) (0 ∷ []) (frequencies later_channels) (All-cons IsByte 0 [] (omega arith) none) in
    All-append IsByte cf_list (replicate 4 0) list (four 0 0 0 0 (omega arith) (omega arith) (omega arith) (omega arith))

pub accept_bytes : (join_nonce : ℕ) (ask : JoinAsk) → ask.dl_settings < 2 ^ 8 → ask.rx_delay < 2 ^ 8 → All IsByte (accept_fields join_nonce ask)
accept_bytes join_nonce ask settings delay =
    let none = cf_list ++ replicate 4 0 in
    let options = ask.dl_settings ∷ ask.rx_delay ∷ none in
    let addr = to_le_bytes w32 ask.dev_addr.0 in
    let net = three_le_bytes ask.net_id in
    let nonce = three_le_bytes join_nonce in
    All-cons IsByte 0x20 (nonce ++ (net ++ (addr ++ options))) (omega arith)
    (All-append IsByte nonce (net ++ (addr ++ options)) (three_bytes join_nonce)
    (All-append IsByte net (addr ++ options) (three_bytes ask.net_id)
    (All-append IsByte addr options (four_bytes ask.dev_addr.0)
    (All-cons IsByte ask.dl_settings (ask.rx_delay ∷ none) settings (All-cons IsByte ask.rx_delay none delay list_and_zeros)))))
