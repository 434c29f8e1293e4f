use Rattle.std.proofs.Common.{[], subst, sym}
use Rattle.std.specs.Prelude.{string_bytes}
use Rattle.gateway_server.proofs.Obeying.{itself, of_early, of_life, of_nothing, of_text, told_on}
use Rattle.gateway_server.specs.Told.{outcome_with}
use Rattle.gateway_server.proofs.running.obey.Goals as goal

pub returns-in-List : goal.returns-in-List
returns-in-List g c =
    of_text (λ m o. g.C.Commands.ends c.args.commands.now m o c.list.new.self)
    _ _ g.O.Write.contents _ _ string_bytes _ _ c.in-List.is tt
    c.list.ensures c.tell_outcome.ensures.ok c.tell_outcome.ensures.err

pub returns-in-Devices : goal.returns-in-Devices
returns-in-Devices g c =
    of_text (λ m o. g.C.Commands.ends c.args.commands.now m o c.devices.new.self)
    _ _ g.O.Write.contents _ _ string_bytes _ _ c.in-Devices.is tt
    c.devices.ensures c.tell_outcome-in-Devices.ensures.ok c.tell_outcome-in-Devices.ensures.err

pub returns-in-Restore : goal.returns-in-Restore
returns-in-Restore g c =
    of_text (λ m o. g.C.Commands.ends c.args.commands.now m o c.restore.new.self)
    _ _ g.O.Write.contents _ _ string_bytes _ _ c.in-Restore.is tt
    c.restore.ensures c.tell_outcome-in-Restore.ensures.ok c.tell_outcome-in-Restore.ensures.err

pub returns-in-Status : goal.returns-in-Status
returns-in-Status g c =
    of_text (λ m o. g.C.Commands.ends c.args.commands.now m o c.status.new.self)
    _ _ g.O.Write.contents _ _ string_bytes _ _ c.in-Status.is tt
    c.status.ensures c.tell_outcome-in-Status.ensures.ok c.tell_outcome-in-Status.ensures.err

pub returns-in-Edit : goal.returns-in-Edit
returns-in-Edit g c =
    of_text (λ m o. g.C.Commands.ends c.args.commands.now m o c.edit.new.self)
    _ _ g.O.Write.contents _ _ string_bytes _ _ c.in-Edit.is tt
    c.edit.ensures c.tell_outcome-in-Edit.ensures.ok c.tell_outcome-in-Edit.ensures.err

pub returns-in-Copy : goal.returns-in-Copy
returns-in-Copy g c =
    of_text (λ m o. g.C.Commands.ends c.args.commands.now m o c.copy.new.self)
    _ _ g.O.Write.contents _ _ string_bytes _ _ c.in-Copy.is tt
    c.copy.ensures c.tell_outcome-in-Copy.ensures.ok c.tell_outcome-in-Copy.ensures.err

pub returns-in-Format : goal.returns-in-Format
returns-in-Format g c =
    of_nothing (λ m o. g.C.Commands.ends c.args.commands.now m o c.format.new.self)
    _ _ g.O.Write.contents _ _ _ c.in-Format.is
    c.format.ensures c.tell_nothing.ensures.ok c.tell_nothing.ensures.err

pub returns-in-Stop : goal.returns-in-Stop
returns-in-Stop g c =
    of_nothing (λ m o. g.C.Commands.ends c.args.commands.now m o c.stop.new.self)
    _ _ g.O.Write.contents _ _ _ c.in-Stop.is
    c.stop.ensures c.tell_nothing-in-Stop.ensures.ok c.tell_nothing-in-Stop.ensures.err

pub returns-in-Reload : goal.returns-in-Reload
returns-in-Reload g c =
    of_nothing (λ m o. g.C.Commands.ends c.args.commands.now m o c.reload.new.self)
    _ _ g.O.Write.contents _ _ _ c.in-Reload.is
    c.reload.ensures c.tell_nothing-in-Reload.ensures.ok c.tell_nothing-in-Reload.ensures.err

pub returns-in-Serve : goal.returns-in-Serve
returns-in-Serve g c =
    of_life (λ m o. g.C.Commands.ends c.args.commands.now m o c.life_ended.new.self)
    _ _ g.O.Write.contents _ _ _ c.in-Serve.is tt
    c.life_ended.ensures c.tell_life.ensures.ok c.tell_life.ensures.err

pub returns-in-Run : goal.returns-in-Run
returns-in-Run g c =
    of_early (λ m o. g.C.Commands.ends c.args.commands.now m o c.life_ended-in-Run.new.self)
    _ _ g.O.Write.contents _ _ _ _ c.in-Run.is tt tt
    c.life_ended-in-Run.ensures c.tell_run.ensures.ok (told_on _ _ _ _ tt c.tell_run.ensures.err)

pub returns-in-Watch : goal.returns-in-Watch
returns-in-Watch g c =
    of_early (λ m o. g.C.Commands.ends c.args.commands.now m o c.watch.new.self)
    _ _ g.O.Write.contents _ _ _ _ c.in-Watch.is tt tt
    (subst (λ m. g.C.Commands.ends c.args.commands.now m (outcome_with (λ _. []) c.watch.result)
    c.watch.new.self) (sym c.in-Watch.is) c.watch.ensures.ended) (λ ok. ok)
    (itself _ _ c.watch.result c.watch.ensures.quiet)
