use Rattle.std.proofs.Common.{[], inr}
use Rattle.gateway_server.proofs.names_file.NamesFileNameSource.read.Goals as goal

pub returns-in-Ok : goal.returns-in-Ok
returns-in-Ok g c = inr (_, c.read.ensures)

pub returns-in-Err : goal.returns-in-Err
returns-in-Err g c = inr ([], tt)
