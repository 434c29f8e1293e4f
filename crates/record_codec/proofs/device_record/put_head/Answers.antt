use Rattle.std.proofs.lemmas.Result.{on_ok_weaker}
use Rattle.record_codec.proofs.Loop.{four_written}
use Rattle.record_codec.proofs.device_record.put_head.Goals as goal

pub returns-clause-written : goal.returns-clause-written
returns-clause-written c =
    on_ok_weaker c.put_terms.result (four_written _ _ _ _ _ _ _ _ _ c.in_ok-put_eui.ensures.written c.in_ok-put_eui-2.ensures.written c.in_ok-put_key.ensures.written) c.put_terms.ensures.written
