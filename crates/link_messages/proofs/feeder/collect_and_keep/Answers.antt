use Rattle.link_messages.proofs.Hearing.{heard_rest}
use Rattle.link_messages.proofs.Wanting.{if-err, takes-gathered}
use Rattle.link_messages.proofs.feeder.collect_and_keep.Goals as goal

pub keep-requires : goal.keep-requires
keep-requires c =
    (heard_rest c.args.peer.now c.args.stream.now c.args.messages.now.items c.collect.new.messages.items c.collect.new.peer c.in_ok-left.fault c.in_ok-left.left.now c.in_ok-left.ensures.heard c.in-None.is).0

pub returns-in_ok-keep-in-None-clause-heard : goal.returns-in_ok-keep-in-None-clause-heard
returns-in_ok-keep-in-None-clause-heard c =
    let h = heard_rest c.args.peer.now c.args.stream.now c.args.messages.now.items c.collect.new.messages.items c.collect.new.peer c.in_ok-left.fault c.in_ok-left.left.now c.in_ok-left.ensures.heard c.in-None.is in
    rw c.in_ok-keep-in-None.ensures.ok h

pub returns-in_err-keep-in-None-clause-wanted : goal.returns-in_err-keep-in-None-clause-wanted
returns-in_err-keep-in-None-clause-wanted c =
    let h = heard_rest c.args.peer.now c.args.stream.now c.args.messages.now.items c.collect.new.messages.items c.collect.new.peer c.in_ok-left.fault c.in_ok-left.left.now c.in_ok-left.ensures.heard c.in-None.is in
    if-err c.from_residual-in_err-keep-in-None.result (takes-gathered c.args.peer.now c.args.stream.now c.in_ok-left.left.now c.args.messages.now.items c.collect.new.messages.items c.collect.new.peer h.1)
