use Rattle.std.proofs.Common.{◌∙◌, length, sym, ap, subst, refl}
use Rattle.sessions.specs.Table.{TableState, empty_table}
use Rattle.store.specs.Image.{IsCheckpointOf}
use Rattle.store_layout.specs.Entries.{Replay}
use Rattle.store.proofs.area_table.checkpoint.Goals as goal

pub returns-then-devices-from-clause-put : goal.returns-then-devices-from-clause-put
returns-then-devices-from-clause-put c other = (
  refl,
  λ t is.
      let s = c.args.superblock.now in
      let put = subst (λ (x : TableState). Replay c.args.version x c.args.records.now c.args.count (c.in_ok-replay.ensures.replayed.0) c.replay.new.table) c.requires c.in_ok-replay.ensures.replayed.1 in
      let same = c.bytes_replay_in_one_way.ensures.table c.args.version (empty_table s.net_id s.slots) t c.replay.new.table c.args.records.now c.args.count is.entries c.in_ok-replay.ensures.replayed.0 is.replay put in
      c.if-devices-from.true (ap length c.devices.ensures.devices ∙ (ap (λ (x : TableState). length x.devices) (sym same) ∙ (is.own_slots ∙ sym c.from.ensures))),
)

pub returns-clause-put : goal.returns-clause-put
returns-clause-put c t =
    let s = c.args.superblock.now in
    let put = subst (λ (x : TableState). Replay c.args.version x c.args.records.now c.args.count (c.in_ok-replay.ensures.replayed.0) c.replay.new.table) c.requires c.in_ok-replay.ensures.replayed.1 in (
      λ is. c.bytes_replay_in_one_way.ensures.table c.args.version (empty_table s.net_id s.slots) t c.replay.new.table c.args.records.now c.args.count is.entries c.in_ok-replay.ensures.replayed.0 is.replay put,
      λ same.
          subst (IsCheckpointOf c.args.version s.net_id s.slots c.args.records.now c.args.count) (sym same)
          (record { entries = c.in_ok-replay.ensures.replayed.0; replay = put; own_slots = ap length (sym c.devices.ensures.devices) ∙ (c.if-devices-from.false ∙ c.from.ensures) }),
    )
