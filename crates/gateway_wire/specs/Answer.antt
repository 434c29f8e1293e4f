-- A line to an application, as a frame of the wire.
use Rattle.std.specs.Prelude.{ℕ, ◌+◌, List, [], ◌∷◌, ◌++◌, Result, Ok, Err, length, nat_lt}
use Rattle.std.specs.Prelude.{codes, if◌then◌else◌}
use Rattle.std.specs.Fmt.{decimal}
use Rattle.std.specs.Int.{w16, to_be_bytes}
use Rattle.lw_types.specs.Refusal.{number_of}
use Rattle.lw_types.specs.Words.{line_of}
use Rattle.lw_types.specs.declared.refusal.Refusal.{Refusal}
use Rattle.lw_types.specs.declared.refusal.Refusal.TheVariants.{FrameTooLong}
use Rattle.link_messages.specs.Wire.{wire_frame}
use Rattle.gateway_wire.specs.declared.answer.TheConstants.{ANSWER, LONGEST_ANSWER}

-- the content is 13 (hex) and the line
abbrev pub answer_frame : List ℕ → List ℕ
answer_frame line = wire_frame (ANSWER ∷ line)

-- what comes before a line of this length in its frame
abbrev pub answer_head : ℕ → List ℕ
answer_head len = to_be_bytes w16 (1 + len) ++ ANSWER ∷ []

-- the frame of a line, if it fits
abbrev pub short_answer_frame : List ℕ → Result (List ℕ) Refusal
short_answer_frame line =
    if nat_lt LONGEST_ANSWER (length line) then Err FrameTooLong else Ok (answer_frame line)

-- the answer to a refused request
abbrev pub refused_line : Refusal → List ℕ
refused_line refusal = line_of (codes "refused" ∷ decimal (number_of refusal) ∷ [])
