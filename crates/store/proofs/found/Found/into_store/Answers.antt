use Rattle.std.proofs.Common.{◌∙◌, false, sym, ap, subst, refl}
use Rattle.std.specs.Prelude.{MatchBool}
use Rattle.gate_log.specs.declared.layout.Areas.{Areas}
use Rattle.gate_log.specs.declared.layout.Header.{Header}
use Rattle.gate_log.specs.Areas.{IsClosedArea, IsOpenArea}
use Rattle.gate_log.specs.Log.{LogState}
use Rattle.gate_log.specs.Opening.{disk_in_opening}
use Rattle.store.specs.Image.{Says}
use Rattle.store.specs.State.{IsOpened, StoreState}
use Rattle.store.proofs.found.Found.into_store.Goals as goal

pub returns-clause-opened : goal.returns-clause-opened
returns-clause-opened g c honest found =
    let content = (g.D.Disk.state (disk_in_opening c.args.opening)).content in
    let self = c.args.self in
    let with_log : LogState → StoreState = λ l. record { log = l; table = self.table; seq = self.seq; failed = false } in
    subst (IsOpened content) (sym (c.new.ensures.store ∙ ap with_log c.into_log.ensures.log)) (record {
      settled = record {
        contents = found.contents;
        rest = record {
          settled = c.into_log.ensures.settled honest;
          holds = found.holds;
          knows = record { areas = sym found.areas; generation = ap (λ (h : Header). h.generation) (sym found.header); next = found.next };
          other_gate = subst (λ (x : Areas). MatchBool self.live.other_open (IsOpenArea x.other content) (IsClosedArea x.other content)) (sym found.areas) found.live.other_gate;
        };
        says = subst (λ v. Says v found.contents self.table self.seq) c.requires.version found.says;
      };
      was = record { version = self.version; contents = found.contents; holds = found.holds; says = found.says };
      only = found.only;
      same = λ new. refl;
    })
