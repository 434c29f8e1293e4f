-- The address of a session, and the device that it leads to (TS001-1.0.4 §6.1.1.1).
use Rattle.std.specs.Prelude.{ℕ, ◌+◌, ◌*◌, ◌/◌, ◌%◌, ◌^◌}
use Rattle.lw_types.specs.declared.identifiers.DevAddr.{DevAddr}

-- the part of an address that distinguishes the devices of a network: the slot, and 13 bits of the
-- JoinNonce, so that a device's address changes with each join
abbrev pub nwk_addr : ℕ → ℕ → ℕ
nwk_addr slot join_nonce = slot * 8192 + join_nonce % 8192

-- a DevAddr: the low six bits of the NetID, then the NwkAddr of 25 bits
abbrev pub dev_addr : ℕ → ℕ → ℕ → DevAddr
dev_addr net_id slot join_nonce = record { 0 = net_id % 64 * 2 ^ 25 + nwk_addr slot join_nonce }

-- the slot that an address leads to, for any network
abbrev pub slot_at : ℕ → ℕ
slot_at address = address % 2 ^ 25 / 8192
