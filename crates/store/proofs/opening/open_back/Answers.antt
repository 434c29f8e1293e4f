use Rattle.std.proofs.Common.{◌∙◌, ap}
use Rattle.std.proofs.lemmas.Result.{IfErr-weaker}
use Rattle.disk.specs.State.{State}
use Rattle.gate_log.specs.Opening.{disk_in_opening}
use Rattle.store.proofs.Answering.{keeps_settled, kept, made, never_refused, unmade}
use Rattle.store.proofs.HoldingOn.{holds_content, holds_on_same}
use Rattle.store.proofs.opening.open_back.Goals as goal

pub returns-in-Err-clause-kept : goal.returns-in-Err-clause-kept
returns-in-Err-clause-kept g c honest = holds_on_same (g.D.Disk.state c.args.disk) (g.D.Disk.state c.in-Err.disk) (c.in-Err.ensures.failed honest)

pub returns-in-Ok-read_store-clause-made : goal.returns-in-Ok-read_store-clause-made
returns-in-Ok-read_store-clause-made g c =
    let is = c.in-Ok.ensures in
    let read = c.in-Ok-read_store.ensures in
    made g.D.Disk c.args.disk (disk_in_opening c.in-Ok.opening) (disk_in_opening c.read_store.new.opening) c.in-Ok-read_store.found c.open.result is.content is.cause is.foreseen
    read.reads read.found c.open.ensures c.what_is_held_is_live.ensures.live c.what_is_held_is_live.ensures.room

pub returns-in-Ok-read_store-clause-same : goal.returns-in-Ok-read_store-clause-same
returns-in-Ok-read_store-clause-same g c honest new =
    let is = c.in-Ok.ensures in
    let read = c.in-Ok-read_store.ensures in
    never_refused g.D.Disk c.args.disk (disk_in_opening c.in-Ok.opening) (disk_in_opening c.read_store.new.opening) c.in-Ok-read_store.found c.open.result is.content is.cause is.foreseen
    read.reads read.found c.open.ensures honest new _

pub returns-in-Ok-read_store-clause-still : goal.returns-in-Ok-read_store-clause-still
returns-in-Ok-read_store-clause-still g c honest new nothing =
    let is = c.in-Ok.ensures in
    let read = c.in-Ok-read_store.ensures in
    never_refused g.D.Disk c.args.disk (disk_in_opening c.in-Ok.opening) (disk_in_opening c.read_store.new.opening) c.in-Ok-read_store.found c.open.result is.content is.cause is.foreseen
    read.reads read.found c.open.ensures honest new _

pub returns-in-Ok-read_store-clause-settled : goal.returns-in-Ok-read_store-clause-settled
returns-in-Ok-read_store-clause-settled g c honest new =
    let is = c.in-Ok.ensures in
    let read = c.in-Ok-read_store.ensures in
    never_refused g.D.Disk c.args.disk (disk_in_opening c.in-Ok.opening) (disk_in_opening c.read_store.new.opening) c.in-Ok-read_store.found c.open.result is.content is.cause is.foreseen
    read.reads read.found c.open.ensures honest new _

pub returns-in-Ok-read_store-clause-kept : goal.returns-in-Ok-read_store-clause-kept
returns-in-Ok-read_store-clause-kept g c honest =
    let state = g.D.Disk.state in
    let is = c.in-Ok.ensures in
    let read = c.in-Ok-read_store.ensures in
    IfErr-weaker c.open.result _ _ (λ e still. holds_content (state c.args.disk) (state e.0) still)
    (kept g.D.Disk c.args.disk (disk_in_opening c.in-Ok.opening) (disk_in_opening c.read_store.new.opening) c.in-Ok-read_store.found c.open.result is.content is.cause is.foreseen
    read.reads read.found c.open.ensures honest)

pub returns-in-Err-read_store-clause-kept : goal.returns-in-Err-read_store-clause-kept
returns-in-Err-read_store-clause-kept g c honest =
    let state = g.D.Disk.state in
    let closed = c.close.ensures.disk in
    let read = c.in-Err-read_store.ensures.reads.same honest in
    holds_content (state c.args.disk) (state c.close.result)
    (keeps_settled c.settled_disk_keeps_its_content.ensures (state c.args.disk).content (state c.close.result) (c.close.ensures.settled honest)
    (ap (λ d. (state d).content) closed ∙ (ap (λ (s : State). s.content) read ∙ c.in-Ok.ensures.content honest)))

pub returns-in-Err-read_store-clause-made : goal.returns-in-Err-read_store-clause-made
returns-in-Err-read_store-clause-made g c =
    let is = c.in-Ok.ensures in
    let read = c.in-Err-read_store.ensures in
    unmade g.D.Disk c.args.disk (disk_in_opening c.in-Ok.opening) (disk_in_opening c.read_store.new.opening) c.close.result c.in-Err-read_store.refusal is.content is.foreseen read.reads
    read.refused read.memory
