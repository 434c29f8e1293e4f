use Rattle.std.proofs.Common.{rules, subst, Option}
use Rattle.std.specs.Option.{MatchOption}
use Rattle.join_server.proofs.request.JoinRequestBytesFromText.from_text.Goals as goal

abbrev IsNone : {A : Type 0} → Option A → Type 0
IsNone result = MatchOption result (Unit {0}) (λ _. ⊥)

-- src/request.rt:96:31
pub returns-in_err-bytes-clause-only : goal.returns-in_err-bytes-clause-only
returns-in_err-bytes-clause-only c x is e =
    elim (subst IsNone (c.in_err-bytes.ensures.only (record { 0 = x }) (is.1, is.0.0) e) tt) [ ]

-- src/request.rt:95:5
pub returns-clause-only : goal.returns-clause-only
returns-clause-only c x is e =
    let found = c.in_ok-bytes.ensures.only (record { 0 = x }) (is.1, is.0.0) e in
    search (rules, found)
