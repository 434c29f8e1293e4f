use Rattle.std.proofs.Common.{◌≡◌, ◌⊎◌, ◌∷◌, ◌++◌, inl, inr, ◌∙◌, ◌+◌, ◌-◌, ℕ, Bool, true, false, MatchBool, List, [], length, take, cond, sym, ap, subst, refl, rules, arith}
use Rattle.devices.specs.declared.command.Command.{Command}
use Rattle.disk.specs.declared.sim.Image.{Image}
use Rattle.disk.specs.Outlook.Outlook.{AllSucceed, FailsAfter}
use Rattle.sessions.specs.Table.{TableState}
use Rattle.dedup.specs.Groups.{Arrival}
use Rattle.world.specs.Links.{Piece}
use Rattle.world.specs.declared.step.Step.TheVariants.{Crash}
use Rattle.world.specs.declared.answer.Answer.TheVariants.{Opened}
use Rattle.world.specs.Answers.{Leaves}
use Rattle.world.specs.Calls.{CallRecord, MaySucceed, outlook_after_opening}
use Rattle.world.specs.Course.Checkpoint.{NotUnderWay}
use Rattle.world.specs.Course.{Course, decided_commands, new_store, table_from}
use Rattle.store.specs.Flights.{Flight, MayLeave, Stage}
use Rattle.store.specs.Flights.Stage.{Durable, GateWritten, Unsure}
use Rattle.world_model.specs.Plain.{PlainState, Goes, flights_of, kept_with, left_of}
use Rattle.world_model.proofs.model.Plain.crash.Goals as goal

-- the model after an opening that found these commands
abbrev landed : PlainState → CallRecord → List Command → List Command → ℕ → List Arrival → List Piece → PlainState
landed old calls settled untaken emitted arrivals pieces =
    record {
      origin = old.origin;
      calls = calls;
      course = record {
        settled = settled;
        flights = [];
        checkpoint = NotUnderWay;
        given_up = [];
        untaken = untaken;
        made = 0;
        left = old.course.left;
        emitted = emitted;
        is_open = true;
        clock = 0;
        arrivals = arrivals;
        shut = 0;
        pieces = pieces;
      };
    }

-- the durable batches are left, and the one after them is left or not
doubt : (flew : Bool) (with_it without : List Command) → (cond flew with_it without ≡ without) ⊎ (cond flew with_it without ≡ with_it)
doubt true with_it without = inr refl
doubt false with_it without = inl refl

left_by : (flew : Bool) (stage : Stage) (settled batch : List Command) (flights : List (Flight Command)) → MayLeave (settled ++ batch) flights (left_of flew (settled ++ batch) flights)
    → MayLeave settled (record { batch = batch; stage = stage } ∷ flights) (left_of flew settled (record { batch = batch; stage = stage } ∷ flights))
left_by flew Durable settled batch flights behind = behind
left_by flew GateWritten settled batch flights behind = doubt flew (settled ++ batch) settled
left_by flew Unsure settled batch flights behind = doubt flew (settled ++ batch) settled
left_by flew stage settled batch flights behind = refl

leaves_left : (flew : Bool) (settled : List Command) (flights : List (Flight Command)) → MayLeave settled flights (left_of flew settled flights)
leaves_left flew settled [] = refl
leaves_left flew settled (flight ∷ flights) = left_by flew flight.stage settled flight.batch flights (leaves_left flew (settled ++ flight.batch) flights)

both_ways : (b : Bool) (X : Type 0) → X → MatchBool b X X
both_ways true X x = x
both_ways false X x = x

-- it is where the crash leads
crashed : (front : (c : Course) (kept : List Command) → Leaves c kept → take (length kept) (decided_commands c) ≡ kept) (v old : PlainState) → v ≡ old
    → (image : Image) (flew : Bool) (kept untaken : List Command) (devices seq emitted : ℕ) (arrivals : List Arrival) (pieces : List Piece) → v.origin.number ≡ 0 → Leaves v.course (kept_with flew v.course)
    → kept ≡ kept_with flew v.course → seq ≡ length kept → devices ≡ length (table_from v.origin kept).devices → untaken ≡ []
    → emitted ≡ length v.course.left → v.calls.coming ≡ AllSucceed → arrivals ≡ [] → pieces ≡ []
    → Goes old (Crash image) (Opened devices seq) (landed v v.calls kept untaken emitted arrivals pieces)
crashed front v old is image flew kept untaken devices seq emitted arrivals pieces new leaves found number count empty lost unarmed forgot unsaid =
    let cut : seq - v.origin.number ≡ length kept = omega (arith, new, number) in
    let settled : kept ≡ take (seq - v.origin.number) (decided_commands v.course) =
    found
    ∙ (sym (front v.course (kept_with flew v.course) leaves) ∙ ap (λ n. take n (decided_commands v.course)) (ap length (sym found) ∙ sym cut)) in
    let first = take (seq - v.origin.number) (decided_commands v.course) in
    let told : seq ≡ v.origin.number + length kept = omega (arith, new, number) in
    subst (λ (o : PlainState). Goes o (Crash image) (Opened devices seq) (landed v v.calls kept untaken emitted arrivals pieces)) is (
      both_ways v.course.is_open _ (kept, subst (Leaves v.course) (sym found) leaves, told, count),
      (
        subst MaySucceed (sym unarmed) tt,
        ap (λ s. landed v v.calls s untaken emitted arrivals pieces) settled
            ∙ (ap (λ u. landed v v.calls first u emitted arrivals pieces) empty
            ∙ (ap (λ n. landed v v.calls first [] n arrivals pieces) lost
            ∙ (ap (λ a. landed v v.calls first [] (length v.course.left) a pieces) forgot
            ∙ (ap (landed v v.calls first [] (length v.course.left) []) unsaid
            ∙ ap (λ o. landed v (record v.calls { coming = o }) first [] (length v.course.left) [] []) (unarmed ∙ sym (ap outlook_after_opening unarmed)))))),
      ),
    )

pub returns : goal.returns
returns c =
    let number : c.len.result ≡ length c.in_ok-kept.kept.items = search (rules) in
    let lost : c.len-self-inside.result ≡ length c.self.inside.left.items = search (rules) in
    let count =
    ap length c.devices.ensures.devices
    ∙ ap (λ (t : TableState). length t.devices)
    (c.in_ok-table.ensures ∙ ap (table_from (new_store c.self.inside.net_id c.self.inside.slots)) c.deref.ensures.value) in
    crashed c.what_a_crash_leaves.ensures.beginning _ _ c.self.view_is c.args.image.now c.flew-flew.result c.in_ok-kept.kept.items c.clear.new.self.items
    (length c.devices.result.now) c.len.result c.len-self-inside.result c.clear-2.new.self.items c.clear-3.new.self.items refl (leaves_left c.flew-flew.result c.self.inside.settled.items (flights_of c.self.inside.under_way)) c.in_ok-kept.ensures number count c.clear.ensures.items lost
    (ap (λ b. cond b (FailsAfter 0) AllSucceed) c.if-self.false) c.clear-2.ensures.items c.clear-3.ensures.items
