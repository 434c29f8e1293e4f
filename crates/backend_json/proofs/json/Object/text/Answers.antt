use Rattle.serde_json.specs.Data.{string}
use Rattle.backend_json.proofs.json.Object.text.Goals as goal

pub returns : goal.returns
returns g c members text h shown = c.value.ensures members (string text) h (c.text_value-text.ensures text shown)
