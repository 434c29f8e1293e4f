use Rattle.std.proofs.Common.{rules, ◌+◌, ◌∙◌, List, ℕ, false, drop, inr, sym, ap, subst}
use Rattle.gate_log.specs.declared.layout.Areas.{Areas}
use Rattle.gate_log.specs.Log.{LogState}
use Rattle.sessions.specs.Table.{TableState}
use Rattle.store.specs.Formatting.{IsFormatImage}
use Rattle.store.specs.Image.{area_a, area_b}
use Rattle.store.specs.State.{IsSettled, StoreState}
use Rattle.store.proofs.EmptyStore.{settled_empty}
use Rattle.store.proofs.formatting.format_back.Goals as goal

pub returns-in-Ok-write_empty-clause-made : goal.returns-in-Ok-write_empty-clause-made
returns-in-Ok-write_empty-clause-made g c =
    let net_id = c.args.net_id in
    let slots = c.in-Some.slots in
    let state = g.D.Disk.state c.write_empty.new.disk in
    let store_at : TableState → LogState → StoreState = λ t l. record { log = l; table = t; seq = 0; failed = false } in
    let log_at : Areas → ℕ → LogState = λ a n. record { disk = state; areas = a; next = n; generation = 1; other_open = false } in
    let e = c.in-Ok-write_empty.ensures in
    let log = c.new-in-Ok-write_empty.ensures.log ∙ (ap (λ (a : Areas). log_at a c.in-Ok-write_empty.next) c.both_areas.ensures ∙ ap (log_at (record { live = area_a slots; other = area_b slots })) e.next) in
    let is = c.new-in-Ok-write_empty-2.ensures.store ∙ (ap (store_at c.in-Ok.table) log ∙ ap (λ (t : TableState). store_at t (log_at (record { live = area_a slots; other = area_b slots }) ((area_a slots).start + 30))) c.in-Ok.ensures) in
    record {
      empty = search rules;
      healthy = search rules;
      settled = λ honest. subst IsSettled (sym is)
          (settled_empty c.a_closed_area_is_older.ensures net_id slots state e.in_range.0 e.in_range.1 (e.settled honest) (e.same_length ∙ (sym c.len.ensures ∙ (c.if-len-disk_len.false ∙ c.disk_len.ensures))) (e.area honest) (e.other_area honest) (e.front honest));
      other_area = search rules;
      fits = search rules;
      generation = search rules;
      refused = search rules;
      unarmed = search rules;
    }

pub returns-in-Err-write_empty-clause-images : goal.returns-in-Err-write_empty-clause-images
returns-in-Err-write_empty-clause-images g c honest nothing image permitted =
    let old = (g.D.Disk.state c.args.disk).content in
    subst (λ k. IsFormatImage c.args.net_id k old image) (c.in-Some.ensures.1) (c.in-Err-write_empty.ensures.images honest nothing image permitted)

pub returns-in_default-clause-images : goal.returns-in_default-clause-images
returns-in_default-clause-images g c honest nothing image permitted =
    inr (inr (ap (λ (l : List ℕ). drop 1 l) (c.settled_disk_keeps_its_content.ensures (g.D.Disk.state c.args.disk) nothing image permitted)))

pub returns-then-len-disk_len-clause-images : goal.returns-then-len-disk_len-clause-images
returns-then-len-disk_len-clause-images g c honest nothing image permitted =
    inr (inr (ap (λ (l : List ℕ). drop 1 l) (c.settled_disk_keeps_its_content.ensures (g.D.Disk.state c.args.disk) nothing image permitted)))

pub returns-in-Err-clause-images : goal.returns-in-Err-clause-images
returns-in-Err-clause-images g c honest nothing image permitted =
    inr (inr (ap (λ (l : List ℕ). drop 1 l) (c.settled_disk_keeps_its_content.ensures (g.D.Disk.state c.args.disk) nothing image permitted)))
