use Rattle.std.proofs.Common.{◌≡◌, ◌<◌, ◌≤◌, ◌+◌, ℕ, List, sym, ap, subst, arith}
use Rattle.std.specs.Prelude.{MatchOption, Option, true}
use Rattle.gate_log.specs.declared.layout.Area.{Area}
use Rattle.gate_log.specs.declared.layout.Header.{Header}
use Rattle.gate_log.specs.declared.live.Live.{Live}
use Rattle.gate_log.specs.Areas.{HasHeader, IsClosedArea}
use Rattle.gate_log.specs.Live.{IsLiveAs}
use Rattle.gate_log.proofs.Headers.{gate_is_open, one_header}
use Rattle.gate_log.proofs.live.Live.of.Goals as goal

-- what was read of an area
abbrev Read : Area → List ℕ → Option Header → Type 0
Read area disk header = MatchOption header (IsClosedArea area disk) (λ h. HasHeader area h disk)

both_open : (a b : Area) (h k : Header) (disk : List ℕ) → b.start + 31 ≤ b.end → HasHeader a h disk → HasHeader b k disk → k.generation < h.generation → IsLiveAs (record { areas = record { live = a; other = b }; header = h; other_open = true }) disk
both_open a b h k disk room has other older = record {
  is = record {
    header = has;
    other = λ (x : Header) (is : HasHeader b x disk). let same : x ≡ k = one_header b disk x k is other in omega (arith, older, ap (λ (y : Header). y.generation) same);
  };
  other_gate = gate_is_open b disk k (omega (arith, room)) other;
}

pub returns-in-None-Some-clause-live : goal.returns-in-None-Some-clause-live
returns-in-None-Some-clause-live c disk first second =
    c.beside_closed.ensures.live disk (subst (Read c.args.b disk) c.in-None-Some.is-1 second) (subst (Read c.args.a disk) c.in-None-Some.is-0 first)

pub returns-in-Some-None-clause-live : goal.returns-in-Some-None-clause-live
returns-in-Some-None-clause-live c disk first second =
    c.beside_closed-in-Some-None.ensures.live disk (subst (Read c.args.a disk) c.in-Some-None.is-0 first) (subst (Read c.args.b disk) c.in-Some-None.is-1 second)

pub returns-then-h-k-clause-live : goal.returns-then-h-k-clause-live
returns-then-h-k-clause-live c disk first second =
    subst (λ (l : Live). IsLiveAs l disk) (sym c.new.ensures)
    (both_open c.args.a c.args.b c.in-Some-Some.h c.in-Some-Some.k disk c.requires.room_b (subst (Read c.args.a disk) c.in-Some-Some.is-0 first) (subst (Read c.args.b disk) c.in-Some-Some.is-1 second) c.if-h-k.true)

pub returns-then-k-h-clause-live : goal.returns-then-k-h-clause-live
returns-then-k-h-clause-live c disk first second =
    subst (λ (l : Live). IsLiveAs l disk) (sym c.new-then-k-h.ensures)
    (both_open c.args.b c.args.a c.in-Some-Some.k c.in-Some-Some.h disk c.requires.room_a (subst (Read c.args.b disk) c.in-Some-Some.is-1 second) (subst (Read c.args.a disk) c.in-Some-Some.is-0 first) c.if-k-h.true)
