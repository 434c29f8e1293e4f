use Rattle.std.proofs.Common.{◌≡◌, ◌++◌, ◌∷◌, [], append_assoc}
use Rattle.std.specs.Int.{w64, to_le_bytes}
use Rattle.phy_payload.specs.Frame.{mhdr}
use Rattle.phy_payload.proofs.write.put_join_request.Goals as goal

pub returns-clause-written : goal.returns-clause-written
returns-clause-written c =
    let out = c.args.out.now.items in
    let request = c.args.request.now in
    let kind : c.push.new.self.items ≡ out ++ mhdr 0 ∷ [] = c.in_ok-push.ensures.items in
    let join_eui : c.put_le_eui.new.out.items ≡ c.push.new.self.items ++ to_le_bytes w64 request.join_eui.0 = c.in_ok-put_le_eui.ensures.written in
    let dev_eui : c.put_le_eui-2.new.out.items ≡ c.put_le_eui.new.out.items ++ to_le_bytes w64 request.dev_eui.0 = c.in_ok-put_le_eui-2.ensures.written in
    let dev_nonce : c.extend_from_slice.new.self.items ≡ c.put_le_eui-2.new.out.items ++ c.to_le_bytes.result = c.in_ok-extend_from_slice.ensures.items in
    let mic : c.put_mic.new.out.items ≡ c.extend_from_slice.new.self.items ++ request.mic.0 = c.in_ok-put_mic.ensures.written in
    rw (mic, dev_nonce, dev_eui, join_eui, kind, c.to_le_bytes.ensures) (simp append_assoc)
