use Rattle.std.proofs.Common.{◌≡◌, ◌+◌, ◌≤◌, ◌∷◌, ◌++◌, ◌∙◌, ℕ, List, [], ap, arith, drop, length, length-append, rules, sym, take}
use Rattle.std.proofs.lemmas.List.{drop_at, take_at}
use Rattle.std.specs.String.{string_bytes}
use Rattle.lw_types.specs.Hex.{field_text}
use Rattle.lw_types.specs.Words.{line_of}
use Rattle.gateway_wire.specs.AppLine.{heard_words}
use Rattle.gateway_wire.specs.UpLine.{head_of_up, line_of_up}
use Rattle.gateway_wire.specs.declared.uplink.UpFields.{UpFields}
use Rattle.gateway_wire.proofs.UpLines.{AreParts, around_payload, frame_of_parts}
use Rattle.gateway_wire.proofs.uplink.put_uplink.Goals as goal

abbrev head_of : UpFields → List ℕ
head_of up = line_of (head_of_up up)

abbrev heard_of : UpFields → List ℕ
heard_of up = line_of (heard_words up.copies up.best.now)

-- the length of the line is the sum that the body computes
sum_of : (up : UpFields) (len field : ℕ) → len ≡ length ((head_of up ++ 32 ∷ []) ++ 32 ∷ heard_of up) → field ≡ length (field_text up.payload.now)
    → len + field ≡ length (line_of_up up)
sum_of up len field one two =
    let h = head_of up in
    let t = heard_of up in
    let p = field_text up.payload.now in
    omega (arith, one, two, length-append (h ++ 32 ∷ []) (32 ∷ t), length-append h (32 ∷ []), ap length (around_payload up), length-append h (32 ∷ (p ++ 32 ∷ t)), length-append p (32 ∷ t))

pub overflow_add-len : goal.overflow_add-len
overflow_add-len c =
    let up = c.args.up.now in
    let first : string_bytes c.write.new.self ≡ head_of up ++ 32 ∷ [] = search rules in
    let second : string_bytes c.write-2.new.self ≡ (head_of up ++ 32 ∷ []) ++ 32 ∷ heard_of up = search rules in
    let bytes = c.as_bytes.ensures in
    let len : c.len.result ≡ length ((head_of up ++ 32 ∷ []) ++ 32 ∷ heard_of up) = c.len.ensures ∙ (sym bytes.len ∙ ap length (bytes.value ∙ second)) in
    let field : c.field_len.result ≡ length (field_text up.payload.now) = c.field_len.ensures ∙ ap (λ (p : List ℕ). length (field_text p)) c.as_slice-payload.ensures.bytes in
    omega (arith, sum_of up c.len.result c.field_len.result len field, c.line_is_short.ensures)

pub put_answer_head-requires : goal.put_answer_head-requires
put_answer_head-requires c =
    let up = c.args.up.now in
    let first : string_bytes c.write.new.self ≡ head_of up ++ 32 ∷ [] = search rules in
    let second : string_bytes c.write-2.new.self ≡ (head_of up ++ 32 ∷ []) ++ 32 ∷ heard_of up = search rules in
    let bytes = c.as_bytes.ensures in
    let len : c.len.result ≡ length ((head_of up ++ 32 ∷ []) ++ 32 ∷ heard_of up) = c.len.ensures ∙ (sym bytes.len ∙ ap length (bytes.value ∙ second)) in
    let field : c.field_len.result ≡ length (field_text up.payload.now) = c.field_len.ensures ∙ ap (λ (p : List ℕ). length (field_text p)) c.as_slice-payload.ensures.bytes in
    omega (arith, sum_of up c.len.result c.field_len.result len field, c.line_is_short.ensures)

pub returns-clause-put : goal.returns-clause-put
returns-clause-put c =
    let up = c.args.up.now in
    let head = head_of up in
    let heard = heard_of up in
    let first : string_bytes c.write.new.self ≡ head ++ 32 ∷ [] = search rules in
    let second : string_bytes c.write-2.new.self ≡ (head ++ 32 ∷ []) ++ 32 ∷ heard = search rules in
    let bytes = c.as_bytes.ensures in
    let split = c.split_at.ensures in
    let cut : length (head ++ 32 ∷ []) ≡ c.len-cut.result = omega (arith, c.len-cut.ensures, c.write.new.self.bytes.ok.0, ap length first) in
    let len : c.len.result ≡ length ((head ++ 32 ∷ []) ++ 32 ∷ heard) = c.len.ensures ∙ (sym bytes.len ∙ ap length (bytes.value ∙ second)) in
    let payload = c.as_slice-payload.ensures.bytes in
    let field : c.field_len.result ≡ length (field_text up.payload.now) = c.field_len.ensures ∙ ap (λ (p : List ℕ). length (field_text p)) payload in
    let parts : AreParts (line_of_up up) head (field_text up.payload.now) heard c.split_at.result.0.now c.split_at.result.1.now (c.len.result + c.field_len.result) =
    record {
      line_is = around_payload up;
      len_is = sum_of up c.len.result c.field_len.result len field;
      front = split.front ∙ (ap (λ (l : List ℕ). take c.len-cut.result l) (bytes.value ∙ second) ∙ take_at (head ++ 32 ∷ []) (32 ∷ heard) c.len-cut.result cut);
      back = split.back ∙ (ap (λ (l : List ℕ). drop c.len-cut.result l) (bytes.value ∙ second) ∙ drop_at (head ++ 32 ∷ []) (32 ∷ heard) c.len-cut.result cut);
    } in
    frame_of_parts _ _ _ _ _ _ _ parts c.args.bytes.now.items c.put_answer_head.new.bytes.items c.extend_from_slice.new.self.items c.put_field.new.bytes.items c.extend_from_slice-2.new.self.items
    c.in_ok-put_answer_head.ensures c.in_ok-extend_from_slice.ensures.items
    (c.in_ok-put_field.ensures ∙ ap (λ (p : List ℕ). c.extend_from_slice.new.self.items ++ field_text p) payload)
    c.in_ok-extend_from_slice-2.ensures.items
