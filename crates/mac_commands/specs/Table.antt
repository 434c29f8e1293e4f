-- The MAC commands of class A devices (TS001-1.0.4 §5). Other commands are unknown.
use Rattle.std.specs.Prelude.{ℕ}
use Rattle.mac_commands.specs.declared.cid.Cid.{Cid}
use Rattle.mac_commands.specs.declared.cid.Cid.TheVariants.{LinkCheck, LinkAdr, DutyCycle}
use Rattle.mac_commands.specs.declared.cid.Cid.TheVariants.{RxParamSetup, DevStatus, NewChannel}
use Rattle.mac_commands.specs.declared.cid.Cid.TheVariants.{RxTimingSetup, TxParamSetup, DlChannel}
use Rattle.mac_commands.specs.declared.cid.Cid.TheVariants.{DeviceTime}
use Rattle.lw_types.specs.declared.direction.Direction.{Direction}
use Rattle.lw_types.specs.declared.direction.Direction.TheVariants.{Up, Down}

-- the identifier's byte, and the lengths of the payload after it in an uplink and in a downlink
pub record Row : Type 0 where
  pub number : ℕ
  pub up : ℕ
  pub down : ℕ

-- the MAC commands of class A (§5)
abbrev pub row : Cid → Row
row LinkCheck = record { number = 0x02; up = 0; down = 2 }
row LinkAdr = record { number = 0x03; up = 1; down = 4 }
row DutyCycle = record { number = 0x04; up = 0; down = 1 }
row RxParamSetup = record { number = 0x05; up = 1; down = 4 }
row DevStatus = record { number = 0x06; up = 2; down = 0 }
row NewChannel = record { number = 0x07; up = 1; down = 5 }
row RxTimingSetup = record { number = 0x08; up = 0; down = 1 }
row TxParamSetup = record { number = 0x09; up = 0; down = 1 }
row DlChannel = record { number = 0x0A; up = 1; down = 4 }
row DeviceTime = record { number = 0x0D; up = 0; down = 5 }

abbrev pub cid_number : Cid → ℕ
cid_number cid = (row cid).number

abbrev pub payload_len : Direction → Cid → ℕ
payload_len Up cid = (row cid).up
payload_len Down cid = (row cid).down
