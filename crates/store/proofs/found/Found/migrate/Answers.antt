use Rattle.std.proofs.Common.{◌≡◌, ◌∙◌, ◌+◌, inl, inr, length, ap, refl, subst, sym}
use Rattle.disk.specs.Outlook.{IsArmed}
use Rattle.disk.specs.State.{IsPermitted}
use Rattle.gate_log.specs.Log.{log_disk as disk_of_log}
use Rattle.gate_log.specs.Opening.{disk_in_opening}
use Rattle.store.specs.Image.{HoldsTable}
use Rattle.store.specs.State.{IsOpened, StoreState}
use Rattle.store.proofs.found.Found.migrate.Goals as goal

pub returns-in-Ok : goal.returns-in-Ok
returns-in-Ok g c =
    let self = c.args.self in
    let state = g.D.Disk.state in
    let failures = g.D.Disk.failures in
    let outlook = g.D.Disk.outlook in
    let content = (state (disk_in_opening c.args.opening)).content in
    let same = c.new.ensures.disk in
    let logged = c.into_log-log.ensures.disk in
    let is = c.in-Ok.ensures in
    record {
      opened = λ honest found.
          let was : HoldsTable self.table self.seq content = record { version = self.version; contents = found.contents; holds = found.holds; says = found.says } in
          let rest = c.into_log-log.ensures.rest honest found.contents found.holds found.live found.areas found.header found.next in
          subst (IsOpened content) (sym c.new.ensures.store) (record {
            settled = is.settled honest self.version found.contents self.table rest found.says refl refl;
            was = was;
            only = found.only;
            same = λ new. absurd (new (self.table, (self.seq, (was, c.requires.older))));
          });
      healthy = (ap (λ (s : StoreState). s.failed) c.new.ensures.store, ap failures same ∙ (is.cause ∙ ap failures logged));
      older = tt;
      refused = tt;
      unarmed = λ all. ap outlook same ∙ (is.unarmed (ap outlook logged ∙ all)).0;
      armed = λ armed. subst (λ d. IsArmed (outlook d)) (sym same) (is.armed (subst (λ d. IsArmed (outlook d)) (sym logged) armed));
      kept = λ honest found. tt;
      same_length = tt;
    }

pub returns-in-Err : goal.returns-in-Err
returns-in-Err g c =
    let self = c.args.self in
    let state = g.D.Disk.state in
    let failures = g.D.Disk.failures in
    let outlook = g.D.Disk.outlook in
    let content = (state (disk_in_opening c.args.opening)).content in
    let closed = c.close.ensures in
    let logged = c.into_log-log.ensures.disk in
    let is = c.in-Err.ensures in
    record {
      opened = λ honest found. tt;
      healthy = tt;
      older = c.requires.older;
      refused = elim is.cause [
        | inl (memory, same) ↦ inl (memory, closed ∙ (ap disk_of_log same ∙ logged))
        | inr (failed, more) ↦ inr (failed, ap failures closed ∙ (more ∙ ap (λ d. failures d + 1) logged))
      ];
      unarmed = λ all. let is = is.unarmed (ap outlook logged ∙ all) in (is.1, ap outlook closed ∙ is.0);
      armed = λ armed. (
        λ failed. ap outlook closed ∙ is.armed (subst (λ d. IsArmed (outlook d)) (sym logged) armed) failed,
        λ other. elim is.cause [
          | inl (memory, same) ↦ subst (λ d. IsArmed (outlook d)) (sym (closed ∙ (ap disk_of_log same ∙ logged))) armed
          | inr (failed, more) ↦ absurd (other failed)
        ],
      );
      kept = λ honest found t seq holds image permitted.
          let rest = c.into_log-log.ensures.rest honest found.contents found.holds found.live found.areas found.header found.next in
          let only = found.only t seq holds in
          let held : HoldsTable self.table self.seq image = elim (is.images honest self.version found.contents self.table rest found.says refl refl image (subst (λ d. IsPermitted (state d) image) closed permitted)) [
            | inl old ↦ old
            | inr new ↦ new
          ] in
          subst (λ u. HoldsTable u seq image) (sym only.0) (subst (λ n. HoldsTable self.table n image) (sym only.1) held);
      same_length = ap (λ d. length (state d).content) closed ∙ (is.same_length ∙ ap (λ d. length (state d).content) logged);
    }
