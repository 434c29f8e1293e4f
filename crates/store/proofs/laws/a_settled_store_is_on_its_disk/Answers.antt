use Rattle.std.proofs.Common.{subst, sym}
use Rattle.gate_log.specs.Areas.{Holds}
use Rattle.record_codec.specs.Version.{newest}
use Rattle.store.proofs.laws.a_settled_store_is_on_its_disk.Goals as goal

pub returns : goal.returns
returns c s settled image permitted =
    let kept = c.settled_disk_keeps_its_content.ensures s.log.disk settled.rest.settled image permitted in
    record {
      version = newest;
      contents = settled.contents;
      holds = subst (Holds settled.contents) (sym kept) settled.rest.holds;
      says = settled.says;
    }
