-- A frame that is read is the frame that was written, and what was written is read again.
use Rattle.std.proofs.Common.{◌≡◌, ℕ, suc, ◌+◌, ◌%◌, ◌≤◌, ◌==◌, Bool, true, false, cond, ltb, List, [], ◌∷◌, ◌++◌, length, Option, Some, None, Result, Ok, Err, refl, sym, ap, subst, ◌∙◌, arith, inl, inr, ◌⊎◌}
use Rattle.std.specs.Prelude.{IfErr, IfOk, MatchResult}
use Rattle.std.proofs.lemmas.Bool.{eqb-true, le-leb, le-ltb, lt-leb, ltb-false, ltb-true}
use Rattle.std.proofs.lemmas.List.{length-append}
use Rattle.lw_types.specs.Hex.{IsBytes}
use Rattle.lw_types.specs.declared.refusal.Refusal.{Refusal}
use Rattle.lw_types.specs.declared.refusal.Refusal.TheVariants.{Malformed, OutOfMemory}
use Rattle.phy_payload.specs.declared.phy.Phy.{Phy}
use Rattle.phy_payload.specs.declared.phy.Phy.TheVariants as phy
use Rattle.phy_payload.specs.declared.join.JoinAccept.{JoinAccept}
use Rattle.phy_payload.specs.declared.join.JoinAccept.TheVariants.{Short, WithCfList}
use Rattle.phy_payload.specs.declared.control.Control.{Control}
use Rattle.phy_payload.specs.declared.control.Control.TheVariants.{Uplink, Downlink}
use Rattle.lw_types.specs.declared.direction.Direction.{Direction}
use Rattle.lw_types.specs.declared.direction.Direction.TheVariants.{Up, Down}
use Rattle.phy_payload.specs.declared.data_frame.DataFrame.{DataFrame}
use Rattle.phy_payload.specs.Contents.{carried_contents}
use Rattle.phy_payload.specs.Frame.{data_type, f_ctrl, mhdr, port_and_payload, refusal_of, sealed_bytes, spelling, FitsPhy, IsDataFrame, IsJoinAccept, IsJoinRequest, IsPhy, IsSomePhyInMemory, TakesMemory}
use Rattle.phy_payload.specs.Reading.{accept_at, body_at, contents_at, control_of, data_at, fhdr_at, port_payload_of, mic_off, or_malformed, phy_at, request_at, ReadsFrame}
use Rattle.byte_fields.specs.Reading.{◌>>=◌, front_at, whole}
use Rattle.byte_fields.proofs.FieldLemmas.{IsBytes-after, bind_some, chosen_some, front_field, guard_some, some_is, whole_again, whole_takes}
use Rattle.phy_payload.proofs.FrameFields.{control_again, control_byte, control_takes, dir_of, head_field, head_text, port_payload_again, port_payload_takes, mic_again, mic_takes, request_field, request_text, same_type, type_of}
use Rattle.phy_payload.proofs.Lengths.{has_spelling}

-- ---- data frames

-- a data frame after its MHDR, before its MIC
abbrev data_text : DataFrame → List ℕ
data_text d = head_text (d.dev_addr.0, (f_ctrl d.control (length d.contents.f_opts), d.f_cnt)) ++ (d.contents.f_opts ++ port_and_payload d.contents.port_payload)

-- what was read is such a frame
abbrev IsReadAs : Direction → Bool → List ℕ → DataFrame → Type 0
IsReadAs direction confirmed body d = IsDataFrame d × (dir_of d.control ≡ direction) × (d.confirmed ≡ confirmed) × (body ≡ data_text d ++ d.mic.0)

data_takes : (direction : Direction) (confirmed : Bool) (body : List ℕ) (d : DataFrame) → IsBytes body → length body ≤ 254 → data_at direction confirmed body ≡ Some d → IsReadAs direction confirmed body d
unfolding data_at
data_takes direction confirmed body d fits short e =
    let s = bind_some (mic_off body) (λ parts. fhdr_at parts.0 >>= λ head. control_of direction head.0.1.0 >>= λ control. contents_at confirmed control head.0 parts.1 head.1) d e in
    let front = s.0.0 in
    let mic = s.0.1 in
    let split = mic_takes body s.0 fits s.1 in
    let t = bind_some (fhdr_at front) (λ head. control_of direction head.0.1.0 >>= λ control. contents_at confirmed control head.0 mic head.1) d s.2 in
    let addr : ℕ = t.0.0.0 in
    let byte : ℕ = t.0.0.1.0 in
    let cnt : ℕ = t.0.0.1.1 in
    let rest = t.0.1 in
    let head = head_field.takes front t.0.0 rest split.0 t.1 in
    let u = bind_some (control_of direction byte) (λ control. contents_at confirmed control t.0.0 mic rest) d t.2 in
    let control = u.0 in
    let is_control = control_takes direction byte control head.0.1.0 u.1 in
    let after : IsBytes rest = IsBytes-after (head_text t.0.0) rest (subst IsBytes head.1 split.0) in
    let v = bind_some (front_at (byte % 16) rest) (λ opts. Some (record { confirmed = confirmed; dev_addr = record { 0 = addr }; control = control; f_cnt = cnt; contents = carried_contents opts.0 (port_payload_of opts.1); mic = mic })) d u.2 in
    let opts = v.0.0 in
    let sent = v.0.1 in
    let cut = (front_field (byte % 16)).takes rest opts sent after v.1 in
    let few : length opts ≡ byte % 16 = cut.0.1 in
    let last : IsBytes sent = IsBytes-after opts sent (subst IsBytes cut.1 after) in
    let len_front : length front ≡ length (head_text t.0.0) + length rest = ap length head.1 ∙ length-append (head_text t.0.0) rest in
    let len_rest : length rest ≡ length opts + length sent = ap length cut.1 ∙ length-append opts sent in
    let len_body = split.3 in
    let port_payload = port_payload_takes sent (length opts) last (omega arith) (omega arith) in
    let made : DataFrame = record { confirmed = confirmed; dev_addr = record { 0 = addr }; control = control; f_cnt = cnt; contents = carried_contents opts (port_payload_of sent); mic = mic } in
    let whole_byte : byte ≡ f_ctrl control (length opts) = sym is_control.1 ∙ ap (f_ctrl control) (sym few) in
    let text : front ≡ data_text made =
    head.1 ∙ ap (λ (b : ℕ). head_text (addr, (b, cnt)) ++ rest) whole_byte ∙ ap (λ (r : List ℕ). head_text (addr, (f_ctrl control (length opts), cnt)) ++ r) (cut.1 ∙ ap (λ (r : List ℕ). opts ++ r) port_payload.2) in
    let in_range : IsDataFrame made = record { dev_addr = head.0.0; f_cnt = head.0.1.1; contents = record { f_opts = (cut.0.0, omega arith); port_payload = port_payload.0; fits = port_payload.1 }; mic = split.1 } in
    subst (IsReadAs direction confirmed body) (some_is made d v.2) (in_range, is_control.0, refl, split.2 ∙ ap (λ (f : List ℕ). f ++ mic.0) text)

data_again : (d : DataFrame) → IsDataFrame d → data_at (dir_of d.control) d.confirmed (data_text d ++ d.mic.0) ≡ Some d
unfolding data_at
data_again d h =
    let opts = d.contents.f_opts in
    let few : length opts ≤ 15 = h.contents.f_opts.1 in
    let byte : ℕ = f_ctrl d.control (length opts) in
    let ctrl = control_byte d.control (length opts) few in
    let rest = opts ++ port_and_payload d.contents.port_payload in
    let mic = mic_again (data_text d) d.mic h.mic in
    let head = head_field.again (d.dev_addr.0, (byte, d.f_cnt)) rest (h.dev_addr, (ctrl.0, h.f_cnt)) in
    let control = control_again d.control (length opts) few in
    let cut : front_at (byte % 16) rest ≡ Some (opts, port_and_payload d.contents.port_payload) =
    (front_field (byte % 16)).again opts (port_and_payload d.contents.port_payload) (h.contents.f_opts.0, sym ctrl.1) in
    rw (mic, head, control, cut, port_payload_again d.contents.port_payload) refl

-- ---- what follows an MHDR

abbrev done : {A : Type 0} → A → Result A Refusal
done x = Ok x

ok_is : {A : Type 0} (x y : A) → done x ≡ done y → x ≡ y
ok_is x y e = cc

or_ok : {X : Type 0} (f : X → Phy) (o : Option X) (frame : Phy) → or_malformed f o ≡ Ok frame → (x : X) × (o ≡ Some x) × (f x ≡ frame)
or_ok f None frame e = absurd cc
or_ok f (Some x) frame e = (x, refl, ok_is (f x) frame e)

or_err : {X : Type 0} (f : X → Phy) (o : Option X) (e : Refusal) → or_malformed f o ≡ Err e → e ≡ Malformed
or_err f None e h = cc
or_err f (Some x) e h = absurd cc

-- a frame of this MHDR and body
abbrev IsFrameOf : ℕ → List ℕ → Phy → Type 0
IsFrameOf first body frame = IsPhy (first ∷ body) frame

request_found : (body : List ℕ) (frame : Phy) → IsBytes body → or_malformed phy.JoinRequest (whole request_at body) ≡ Ok frame → IsFrameOf (mhdr 0) body frame
unfolding spelling
request_found body frame fits e =
    let o = or_ok phy.JoinRequest (whole request_at body) frame e in
    let t = whole_takes IsJoinRequest request_text request_at request_field body o.0 fits o.1 in
    subst (IsFrameOf (mhdr 0) body) o.2 (t.0, ap (λ (b : List ℕ). mhdr 0 ∷ b) t.1)

accept_takes : (body : List ℕ) (a : JoinAccept) → IsBytes body → accept_at body ≡ Some a → IsJoinAccept a × (body ≡ sealed_bytes a)
accept_takes body a fits e =
    elim (chosen_some (length body == 16) (Some (Short body)) (cond (length body == 32) (Some (WithCfList body)) None) (Some a) e) [
      | inl h ↦ subst (λ (x : JoinAccept). IsJoinAccept x × (body ≡ sealed_bytes x)) (some_is (Short body) a h.1) ((fits, eqb-true (length body) 16 h.0), refl)
      | inr h ↦
          let g = guard_some (length body == 32) (WithCfList body) a h.1 in
          subst (λ (x : JoinAccept). IsJoinAccept x × (body ≡ sealed_bytes x)) g.1 ((fits, eqb-true (length body) 32 g.0), refl)
    ]

accept_again : (a : JoinAccept) → IsJoinAccept a → accept_at (sealed_bytes a) ≡ Some a
accept_again (Short sealed) h = rw h.1 refl
accept_again (WithCfList sealed) h = rw h.1 refl

accept_found : (body : List ℕ) (frame : Phy) → IsBytes body → or_malformed phy.JoinAccept (accept_at body) ≡ Ok frame → IsFrameOf (mhdr 1) body frame
unfolding spelling
accept_found body frame fits e =
    let o = or_ok phy.JoinAccept (accept_at body) frame e in
    let t = accept_takes body o.0 fits o.1 in
    subst (IsFrameOf (mhdr 1) body) o.2 (t.0, ap (λ (b : List ℕ). mhdr 1 ∷ b) t.1)

data_found : (direction : Direction) (confirmed : Bool) (body : List ℕ) (frame : Phy) → IsBytes body → length body ≤ 254 → or_malformed phy.DataFrame (data_at direction confirmed body) ≡ Ok frame
    → IsFrameOf (mhdr (type_of direction confirmed)) body frame
unfolding spelling
data_found direction confirmed body frame fits short e =
    let o = or_ok phy.DataFrame (data_at direction confirmed body) frame e in
    let d = o.0 in
    let t = data_takes direction confirmed body d fits short o.1 in
    let header : type_of direction confirmed ≡ data_type d.control d.confirmed = sym (same_type d.control d.confirmed ∙ ap (λ (w : Direction). type_of w d.confirmed) t.1 ∙ ap (type_of direction) t.2) in
    let text : mhdr (type_of direction confirmed) ∷ body ≡ spelling (phy.DataFrame d) =
    ap (λ (b : List ℕ). mhdr (type_of direction confirmed) ∷ b) t.3 ∙ ap (λ (n : ℕ). mhdr n ∷ (data_text d ++ d.mic.0)) header in
    subst (IsFrameOf (mhdr (type_of direction confirmed)) body) o.2 (t.0, text)

-- ---- all of a frame

body_found : (first : ℕ) (body : List ℕ) (frame : Phy) → IsBytes body → length body ≤ 254 → body_at first body ≡ Ok frame → IsFrameOf first body frame
body_found first body frame fits short e =
    let is : (n : ℕ) → (first == n) ≡ true → IsFrameOf n body frame → IsFrameOf first body frame = λ n test h. subst (λ (k : ℕ). IsFrameOf k body frame) (sym (eqb-true first n test)) h in
    elim (chosen_some (first == mhdr 0) _ _ (done frame) e) [
      | inl h ↦ is (mhdr 0) h.0 (request_found body frame fits h.1)
      | inr h0 ↦ elim (chosen_some (first == mhdr 1) _ _ (done frame) h0.1) [
        | inl h ↦ is (mhdr 1) h.0 (accept_found body frame fits h.1)
        | inr h1 ↦ elim (chosen_some (first == mhdr 2) _ _ (done frame) h1.1) [
          | inl h ↦ is (mhdr 2) h.0 (data_found Up false body frame fits short h.1)
          | inr h2 ↦ elim (chosen_some (first == mhdr 3) _ _ (done frame) h2.1) [
            | inl h ↦ is (mhdr 3) h.0 (data_found Down false body frame fits short h.1)
            | inr h3 ↦ elim (chosen_some (first == mhdr 4) _ _ (done frame) h3.1) [
              | inl h ↦ is (mhdr 4) h.0 (data_found Up true body frame fits short h.1)
              | inr h4 ↦ elim (chosen_some (first == mhdr 5) _ _ (done frame) h4.1) [
                | inl h ↦ is (mhdr 5) h.0 (data_found Down true body frame fits short h.1)
                | inr h5 ↦ elim (chosen_some (first == mhdr 6) _ _ (done frame) h5.1) [
                  | inl h ↦ absurd (let no = h.1 in cc)
                  | inr h6 ↦ elim (chosen_some (first == mhdr 7) _ _ (done frame) h6.1) [
                    | inl h ↦ absurd (let no = h.1 in cc)
                    | inr h ↦ absurd (let no = h.1 in cc)
                  ]
                ]
              ]
            ]
          ]
        ]
      ]
    ]

pub phy_takes : (bytes : List ℕ) (frame : Phy) → IsBytes bytes → phy_at bytes ≡ Ok frame → IsPhy bytes frame
unfolding phy_at
phy_takes [] frame fits e = absurd cc
phy_takes (first ∷ body) frame fits e =
    elim (chosen_some (ltb 254 (length body)) (Err Malformed) (body_at first body) (Ok frame) e) [
      | inl h ↦ absurd (let no = h.1 in cc)
      | inr h ↦ body_found first body frame (λ i. fits (suc i)) (ltb-false 254 (length body) h.0) h.1
    ]

-- what follows the MHDR of a data frame is read so
data_body : (control : Control) (confirmed : Bool) (body : List ℕ) → body_at (mhdr (data_type control confirmed)) body ≡ or_malformed phy.DataFrame (data_at (dir_of control) confirmed body)
data_body (Uplink adr request ack) true body = refl
data_body (Uplink adr request ack) false body = refl
data_body (Downlink adr ack pending) true body = refl
data_body (Downlink adr ack pending) false body = refl

pub short_enough : (frame : Phy) → FitsPhy frame → length (spelling frame) ≤ 255
short_enough frame h = (has_spelling frame h).1

pub phy_again : (frame : Phy) → FitsPhy frame → phy_at (spelling frame) ≡ Ok frame
unfolding phy_at spelling
phy_again (phy.JoinRequest r) h =
    let most : length (spelling (phy.JoinRequest r)) ≤ 255 = short_enough (phy.JoinRequest r) h in
    let short : ltb 254 (length (request_text r)) ≡ false = le-ltb 254 (length (request_text r)) (omega arith) in
    rw (short, whole_again IsJoinRequest request_text request_at request_field r h) refl
phy_again (phy.JoinAccept a) h =
    let most : length (spelling (phy.JoinAccept a)) ≤ 255 = short_enough (phy.JoinAccept a) h in
    let short : ltb 254 (length (sealed_bytes a)) ≡ false = le-ltb 254 (length (sealed_bytes a)) (omega arith) in
    rw (short, accept_again a h) refl
phy_again (phy.DataFrame d) h =
    let most : length (spelling (phy.DataFrame d)) ≤ 255 = short_enough (phy.DataFrame d) h in
    let body = data_text d ++ d.mic.0 in
    let short : ltb 254 (length body) ≡ false = le-ltb 254 (length body) (omega arith) in
    rw (short, data_body d.control d.confirmed body, data_again d h) refl

-- ---- refusals

no_frame : (first : ℕ) (body : List ℕ) (e : Refusal) → length body ≤ 254 → body_at first body ≡ Err e → e ≡ refusal_of (first ∷ body)
no_frame first body e short h =
    let small = le-leb (length body) 254 short in
    let malformed : (n : ℕ) → (first == n) ≡ true → refusal_of (n ∷ body) ≡ Malformed → e ≡ Malformed → e ≡ refusal_of (first ∷ body) = λ n test is given. given ∙ sym is ∙ ap (λ (k : ℕ). refusal_of (k ∷ body)) (sym (eqb-true first n test)) in
    elim (chosen_some (first == mhdr 0) _ _ (Err e) h) [
      | inl t ↦ malformed (mhdr 0) t.0 (rw small refl) (or_err phy.JoinRequest _ e t.1)
      | inr t0 ↦ elim (chosen_some (first == mhdr 1) _ _ (Err e) t0.1) [
        | inl t ↦ malformed (mhdr 1) t.0 (rw small refl) (or_err phy.JoinAccept _ e t.1)
        | inr t1 ↦ elim (chosen_some (first == mhdr 2) _ _ (Err e) t1.1) [
          | inl t ↦ malformed (mhdr 2) t.0 (rw small refl) (or_err phy.DataFrame _ e t.1)
          | inr t2 ↦ elim (chosen_some (first == mhdr 3) _ _ (Err e) t2.1) [
            | inl t ↦ malformed (mhdr 3) t.0 (rw small refl) (or_err phy.DataFrame _ e t.1)
            | inr t3 ↦ elim (chosen_some (first == mhdr 4) _ _ (Err e) t3.1) [
              | inl t ↦ malformed (mhdr 4) t.0 (rw small refl) (or_err phy.DataFrame _ e t.1)
              | inr t4 ↦ elim (chosen_some (first == mhdr 5) _ _ (Err e) t4.1) [
                | inl t ↦ malformed (mhdr 5) t.0 (rw small refl) (or_err phy.DataFrame _ e t.1)
                | inr t5 ↦ elim (chosen_some (first == mhdr 6) _ _ (Err e) t5.1) [
                  | inl t ↦ rw (small, t.0) (let is = t.1 in cc)
                  | inr t6 ↦ elim (chosen_some (first == mhdr 7) _ _ (Err e) t6.1) [
                    | inl t ↦ rw (small, t6.0, t.0) (let is = t.1 in cc)
                    | inr t ↦ rw (small, t6.0, t.0) (let is = t.1 in cc)
                  ]
                ]
              ]
            ]
          ]
        ]
      ]
    ]

phy_refuses : (bytes : List ℕ) (e : Refusal) → phy_at bytes ≡ Err e → e ≡ refusal_of bytes
unfolding phy_at
phy_refuses [] e h = cc
phy_refuses (first ∷ body) e h =
    elim (chosen_some (ltb 254 (length body)) (Err Malformed) (body_at first body) (Err e) h) [
      | inl t ↦
          let long = lt-leb (length body) 254 (ltb-true 254 (length body) t.0) in
          rw long (let is = t.1 in cc)
      | inr t ↦ no_frame first body e (ltb-false 254 (length body) t.0) t.1
    ]

-- ---- what reading returns

pub is_found : (bytes : List ℕ) (r : Result Phy Refusal) → IsBytes bytes → ReadsFrame r (phy_at bytes) → IfOk r (λ frame. IsPhy bytes frame)
is_found bytes (Ok frame) fits given = phy_takes bytes frame fits given
is_found bytes (Err e) fits given = tt

pub is_only : (bytes : List ℕ) (r : Result Phy Refusal) (frame : Phy) → IsPhy bytes frame → ReadsFrame r (phy_at bytes) → MatchResult r (λ found. found ≡ frame) (λ e. (e ≡ OutOfMemory) × TakesMemory frame)
is_only bytes (Ok found) frame h given = ok_is found frame (sym given ∙ ap phy_at h.1 ∙ phy_again frame h.0)
is_only bytes (Err e) frame h given = subst (ReadsFrame (Err e)) (ap phy_at h.1 ∙ phy_again frame h.0) given

refused_as : (bytes : List ℕ) (e : Refusal) (wanted : Result Phy Refusal) → IsBytes bytes → phy_at bytes ≡ wanted → ReadsFrame (Err e) wanted → ((e ≡ OutOfMemory) × IsSomePhyInMemory bytes) ⊎ (e ≡ refusal_of bytes)
refused_as bytes e (Ok frame) fits is given = inl (given.0, (frame, phy_takes bytes frame fits is, given.1))
refused_as bytes e (Err refusal) fits is given = inr (given ∙ phy_refuses bytes refusal is)

pub is_refused : (bytes : List ℕ) (r : Result Phy Refusal) → IsBytes bytes → ReadsFrame r (phy_at bytes) → IfErr r (λ e. ((e ≡ OutOfMemory) × IsSomePhyInMemory bytes) ⊎ (e ≡ refusal_of bytes))
is_refused bytes (Ok frame) fits given = tt
is_refused bytes (Err e) fits given = refused_as bytes e (phy_at bytes) fits refl given

-- no two frames share a spelling
pub one_frame : (bytes : List ℕ) (a b : Phy) → IsPhy bytes a → IsPhy bytes b → a ≡ b
one_frame bytes a b h k = ok_is a b (sym (phy_again a h.0) ∙ ap phy_at (sym h.1 ∙ k.1) ∙ phy_again b k.0)
