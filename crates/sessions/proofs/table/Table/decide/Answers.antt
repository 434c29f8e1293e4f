use Rattle.std.proofs.Common.{refl}
use Rattle.sessions.specs.Table.{step}
use Rattle.sessions.specs.Decision.{IsDecision, IsStepped}
use Rattle.sessions.proofs.Runs.{AnswersTo-err, AnswersTo-is, AnswersTo-memory, AnswersTo-ok, Fits-decision, IsStepped-before, IsStepped-step}
use Rattle.sessions.proofs.table.Table.decide.Goals as goal

pub invariant_of-result : goal.invariant_of-result
invariant_of-result c =
    let t = c.args.self.now in
    let s = AnswersTo-ok c.args.command (step t c.args.command) IsStepped c.in_ok-slot.field-0 c.in_ok-slot.ensures in
    record { is_step = IsStepped-step t c.args.command s.0 c.net_id.result c.in_ok-before.before c.in_ok-slot.field-0 s.1 s.2 c.net_id.ensures c.in_ok-before.ensures }

pub returns-clause-decides : goal.returns-clause-decides
returns-clause-decides c =
    let t = c.args.self.now in
    let s = AnswersTo-ok c.args.command (step t c.args.command) IsStepped c.in_ok-slot.field-0 c.in_ok-slot.ensures in
    AnswersTo-is c.args.command (step t c.args.command) (IsDecision t c.args.seq c.args.command) s.0 _ s.1
    (record {
      net = c.net_id.ensures;
      number = refl;
      command = refl;
      slot = s.2.slot;
      before = IsStepped-before t c.args.command s.0 c.in_ok-before.before c.in_ok-slot.field-0 s.1 s.2 c.in_ok-before.ensures;
      after = s.2.after;
      effects = s.2.effects;
    })

pub returns-clause-fits : goal.returns-clause-fits
returns-clause-fits c =
    let t = c.args.self.now in
    let s = AnswersTo-ok c.args.command (step t c.args.command) IsStepped c.in_ok-slot.field-0 c.in_ok-slot.ensures in
    Fits-decision t c.args.seq c.args.command s.0 _ c.devices.ensures.few c.devices_are_apart.ensures s.1
    (record {
      net = c.net_id.ensures;
      number = refl;
      command = refl;
      slot = s.2.slot;
      before = IsStepped-before t c.args.command s.0 c.in_ok-before.before c.in_ok-slot.field-0 s.1 s.2 c.in_ok-before.ensures;
      after = s.2.after;
      effects = s.2.effects;
    })

pub returns-in_err-slot-clause-decides : goal.returns-in_err-slot-clause-decides
returns-in_err-slot-clause-decides c =
    let t = c.args.self.now in
    AnswersTo-err c.args.command (step t c.args.command) IsStepped (IsDecision t c.args.seq c.args.command) c.in_err-slot.field-0.0 c.from_residual.result
    c.from_residual.ensures.1 c.in_err-slot.ensures

pub returns-in_err-before-clause-decides : goal.returns-in_err-before-clause-decides
returns-in_err-before-clause-decides c =
    let t = c.args.self.now in
    let s = AnswersTo-ok c.args.command (step t c.args.command) IsStepped c.in_ok-slot.field-0 c.in_ok-slot.ensures in
    AnswersTo-memory c.args.command (step t c.args.command) (IsDecision t c.args.seq c.args.command) s.0 c.in_err-before.field-0.0 c.from_residual-in_err-before.result s.1
    c.from_residual-in_err-before.ensures.1 c.in_err-before.ensures
