use Rattle.phy_payload.proofs.Requests.{request_each, request_fields, request_shape}
use Rattle.phy_payload.proofs.laws.a_join_request_has_23_bytes.Goals as goal

pub returns-clause-shape : goal.returns-clause-shape
returns-clause-shape c = request_shape

pub returns-clause-fields : goal.returns-clause-fields
returns-clause-fields c = request_fields

pub returns-clause-each : goal.returns-clause-each
returns-clause-each c = request_each
