use Rattle.std.proofs.Common.{◌≡◌, ◌≢◌, ◌∙◌, List, Option, false, Ok, Err, refl, sym, ap, subst}
use Rattle.std.proofs.lemmas.Option.{MatchOption-at_some}
use Rattle.std.specs.Bool.{MatchBool}
use Rattle.lw_types.specs.declared.refusal.Refusal.TheVariants.{OutOfMemory}
use Rattle.devices.specs.declared.heard.Heard.{Heard}
use Rattle.dedup.specs.Windows.{Window, IsOldestDue, NoneDue}
use Rattle.session_core.specs.State.{DecisionsState}
use Rattle.session_core.specs.Core.{CoreState, with_outcome}
use Rattle.session_core.specs.Events.{has_due}
use Rattle.session_core.specs.KeptCore.{core_of}
use Rattle.session_core.specs.Observing.{ClosesOldestSeen, DecidesOldest, KeepsOldest, RefusesOldest}
use Rattle.session_core.specs.declared.observed.DecidedFrame.{DecidedFrame}
use Rattle.session_core.proofs.Oldest.{decided-seen, refused-seen, there-is}
use Rattle.session_core.proofs.Windows.{due-none, opened-rest}
use Rattle.session_core.proofs.events.Core.close_oldest.Goals as goal

pub invariant_of-self-in-Ok-Some : goal.invariant_of-self-in-Ok-Some
invariant_of-self-in-Ok-Some c =
    let decides : DecidesOldest c.get-now.result c.self.inside.decisions c.self.inside.windows c.in-Ok-Some.decided c.keep_oldest.new.self c.keep_oldest.new.windows =
    subst (λ (o : Option DecidedFrame). KeepsOldest c.get-now.result c.self.inside.decisions c.self.inside.windows (Ok o) c.keep_oldest.new.self c.keep_oldest.new.windows)
    c.in-Ok-Some.field-0-is c.in-Ok-Some.ensures in
    let oldest = subst (λ now. IsOldestDue now c.self.inside.windows decides.heard c.keep_oldest.new.windows) c.get-now.ensures.value decides.oldest in
    record {
      opened = opened-rest c.self.inside.clock c.self.inside.windows c.keep_oldest.new.windows decides.heard oldest c.self.invariant.opened;
      room = c.self.invariant.room;
    }

pub unwrap-heard-requires : goal.unwrap-heard-requires
unwrap-heard-requires c =
    let refuses : RefusesOldest c.get-now.result c.self.inside.decisions c.self.inside.windows c.in-Err.refusal
    × ((c.keep_oldest.new.self ≡ c.self.inside.decisions) × (c.keep_oldest.new.windows ≡ c.self.inside.windows)) = c.in-Err.ensures in
    there-is c.get-now.result c.keep_oldest.new.windows refuses.0.rest c.close.new.self refuses.0.heard c.close.result
    (subst (λ (ws : List Window). IsOldestDue c.get-now.result ws refuses.0.heard refuses.0.rest) (sym refuses.1.1) refuses.0.oldest) c.close.ensures

pub invariant_of-self-in-Err : goal.invariant_of-self-in-Err
invariant_of-self-in-Err c =
    let refuses : RefusesOldest c.get-now.result c.self.inside.decisions c.self.inside.windows c.in-Err.refusal
    × ((c.keep_oldest.new.self ≡ c.self.inside.decisions) × (c.keep_oldest.new.windows ≡ c.self.inside.windows)) = c.in-Err.ensures in
    let closed = MatchOption-at_some ((c.close.new.self ≡ c.keep_oldest.new.windows) × NoneDue c.get-now.result c.keep_oldest.new.windows)
    (λ (x : Heard). IsOldestDue c.get-now.result c.keep_oldest.new.windows x c.close.new.self) c.unwrap-heard.result c.unwrap-heard.ensures c.close.ensures in
    let there = subst (λ (ws : List Window). IsOldestDue c.get-now.result ws c.unwrap-heard.result c.close.new.self) refuses.1.1 closed in
    let oldest = subst (λ now. IsOldestDue now c.self.inside.windows c.unwrap-heard.result c.close.new.self) c.get-now.ensures.value there in
    record {
      opened = opened-rest c.self.inside.clock c.self.inside.windows c.close.new.self c.unwrap-heard.result oldest c.self.invariant.opened;
      room = c.self.invariant.room;
    }

pub returns-in-Ok-None : goal.returns-in-Ok-None
returns-in-Ok-None c =
    let none : NoneDue c.get-now.result c.self.inside.windows
    × ((c.keep_oldest.new.self ≡ c.self.inside.decisions) × (c.keep_oldest.new.windows ≡ c.self.inside.windows)) =
    subst (λ (o : Option DecidedFrame). KeepsOldest c.get-now.result c.self.inside.decisions c.self.inside.windows (Ok o) c.keep_oldest.new.self c.keep_oldest.new.windows)
    c.in-Ok-None.field-0-is c.in-Ok-None.ensures in
    let due = due-none c.self.inside.clock c.self.inside.windows (subst (λ now. NoneDue now c.self.inside.windows) c.get-now.ensures.value none.0) in (
      (
        ap (λ (d : DecisionsState). record (core_of c.self.inside) { decisions = d; windows = c.keep_oldest.new.windows }) none.1.0
            ∙ (ap (λ (ws : List Window). record (core_of c.self.inside) { windows = ws }) none.1.1 ∙ c.self.view_is),
        refl,
      ),
      subst (λ (s : CoreState). has_due s ≡ false) c.self.view_is due,
    )

pub returns-in-Ok-Some : goal.returns-in-Ok-Some
returns-in-Ok-Some c =
    let decides : DecidesOldest c.get-now.result c.self.inside.decisions c.self.inside.windows c.in-Ok-Some.decided c.keep_oldest.new.self c.keep_oldest.new.windows =
    subst (λ (o : Option DecidedFrame). KeepsOldest c.get-now.result c.self.inside.decisions c.self.inside.windows (Ok o) c.keep_oldest.new.self c.keep_oldest.new.windows)
    c.in-Ok-Some.field-0-is c.in-Ok-Some.ensures in
    subst (λ (old : CoreState). ClosesOldestSeen old c.noted.new.self c.args.observed.now c.add.new.self) c.self.view_is
    (decided-seen (core_of c.self.inside) c.get-now.result c.in-Ok-Some.decided c.keep_oldest.new.self c.keep_oldest.new.windows c.noted.new.self c.args.observed.now c.add.new.self
    c.get-now.ensures.value decides c.noted.ensures.noted c.add.ensures)

pub returns-else-is_starved : goal.returns-else-is_starved
returns-else-is_starved c =
    let refuses : RefusesOldest c.get-now.result c.self.inside.decisions c.self.inside.windows c.in-Err.refusal
    × ((c.keep_oldest.new.self ≡ c.self.inside.decisions) × (c.keep_oldest.new.windows ≡ c.self.inside.windows)) = c.in-Err.ensures in
    let memory = subst (λ b. MatchBool b (c.in-Err.refusal ≡ OutOfMemory) (c.in-Err.refusal ≢ OutOfMemory)) c.if-is_starved.false c.is_starved.ensures in
    let closed = MatchOption-at_some ((c.close.new.self ≡ c.keep_oldest.new.windows) × NoneDue c.get-now.result c.keep_oldest.new.windows)
    (λ (x : Heard). IsOldestDue c.get-now.result c.keep_oldest.new.windows x c.close.new.self) c.unwrap-heard.result c.unwrap-heard.ensures c.close.ensures in
    let there = subst (λ (ws : List Window). IsOldestDue c.get-now.result ws c.unwrap-heard.result c.close.new.self) refuses.1.1 closed in
    let noted = c.noted-in-Err.ensures.noted
    ∙ ap (λ (d : DecisionsState). with_outcome (record (core_of c.self.inside) { decisions = d; windows = c.close.new.self }) d (Err c.in-Err.refusal)) refuses.1.0 in
    subst (λ (old : CoreState). ClosesOldestSeen old c.noted-in-Err.new.self c.args.observed.now c.add-in-Err.new.self) c.self.view_is
    (refused-seen (core_of c.self.inside) c.get-now.result c.in-Err.refusal c.unwrap-heard.result c.close.new.self c.noted-in-Err.new.self c.args.observed.now c.add-in-Err.new.self
    c.get-now.ensures.value refuses.0 memory there noted c.add-in-Err.ensures)
