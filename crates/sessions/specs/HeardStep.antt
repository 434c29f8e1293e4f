-- What a frame does, before the frame moves into its decision.
use Rattle.std.specs.Prelude.{◌≡◌, ℕ, Result, Ok, Err, MatchResult}
use Rattle.lw_types.specs.declared.refusal.Refusal.{Refusal}
use Rattle.devices.specs.DeviceStep.{device_step}
use Rattle.devices.specs.declared.command.Command.TheVariants as command
use Rattle.devices.specs.declared.heard.Heard.{Heard}
use Rattle.sessions.specs.Decision.{Decides, FitsTable}
use Rattle.sessions.specs.Step.{step1}
use Rattle.sessions.specs.Table.{TableState}
use Rattle.sessions.specs.declared.decision.Decision.{Decision}
use Rattle.sessions.specs.declared.heard_step.HeardStep.{HeardStep}

-- it is what this frame does
abbrev pub IsStepOf : HeardStep → Heard → Type 0
IsStepOf s heard =
    step1 s.net_id s.slot s.before (command.Heard heard) ≡ Ok (device_step s.after s.effects)

-- the decision with the frame
abbrev pub heard_decision : (s : HeardStep) (heard : Heard) (is : IsStepOf s heard) → Decision
heard_decision s heard is =
    record {
      net_id = s.net_id;
      seq = s.seq;
      slot = s.slot;
      before = s.before;
      command = command.Heard heard;
      after = s.after;
      effects = s.effects;
      is_step = is;
    }

-- with the frame, it is the decision that the table makes of it
abbrev pub Becomes : TableState → ℕ → Heard → HeardStep → Type 0
Becomes t seq heard s =
    (is : IsStepOf s heard)
    × (Decides t seq (command.Heard heard) (Ok (heard_decision s heard is))
    × FitsTable t (heard_decision s heard is))

-- the frame's step, which becomes its decision; or its refusal
abbrev pub StepsHeard : TableState → ℕ → Heard → Result HeardStep Refusal → Type 0
StepsHeard t seq heard result =
    MatchResult result (Becomes t seq heard)
    (λ e. Decides t seq (command.Heard heard) (Err e))
