-- The windows after one closed, and after a copy was taken.
use Rattle.std.proofs.Common.{◌≡◌, ℕ, ◌≤◌, ◌<◌, false, List, length, ap, arith, Ok, Err, refl}
use Rattle.std.specs.Prelude.{All, Result}
use Rattle.std.proofs.lemmas.List.Elements.{All-rest, All-same, All-weaker}
use Rattle.lw_types.specs.Answer.{Answers}
use Rattle.lw_types.specs.declared.frame_copy.FrameCopy.{FrameCopy}
use Rattle.lw_types.specs.declared.refusal.Refusal.{Refusal}
use Rattle.devices.specs.declared.heard.Heard.{Heard}
use Rattle.dedup.specs.Windows.{Window, windows_with, is_due, IsCurrent, IsOldestDue, NoneDue}

pub rest_opened : (now : ℕ) (ws rest : List Window) (heard : Heard) → IsOldestDue now ws heard rest → All (λ w. w.opened ≤ now) ws → All (λ w. w.opened ≤ now) rest
rest_opened now ws rest heard o all = All-rest (λ w. w.opened ≤ now) o.window rest ws o.oldest all

pub rest_shorter : (now : ℕ) (ws rest : List Window) (heard : Heard) → IsOldestDue now ws heard rest → length rest < length ws
rest_shorter now ws rest heard o = let e = ap length o.oldest in omega arith

pub none_left : (now : ℕ) (ws after : List Window) → after ≡ ws → NoneDue now ws → All (λ w. w.opened ≤ now) ws → IsCurrent now after
none_left now ws after same none all = All-same (λ w. (w.opened ≤ now) × (is_due now w ≡ false)) after ws same (λ k d lt. (all k d lt, none k d lt))

-- if a copy that is taken makes no window due, each window opened at this moment or before
pub taken_opened : (now : ℕ) (ws after : List Window) (copy : FrameCopy) → ((xs ys : List Window) (n : ℕ) (c : FrameCopy) → IsCurrent n xs → windows_with xs n c ≡ Ok ys → IsCurrent n ys)
    → IsCurrent now ws → Answers {B = Unit {0}} (windows_with ws now copy) (λ xs _. after ≡ xs) (Ok (tt {0})) → All (λ w. w.opened ≤ now) after
taken_opened now ws after copy law current = by (windows_with ws now copy) refl
  where
    by : (r : Result (List Window) Refusal) → windows_with ws now copy ≡ r → Answers {B = Unit {0}} r (λ xs _. after ≡ xs) (Ok (tt {0})) → All (λ w. w.opened ≤ now) after
    by (Ok xs) is same = All-weaker (λ w. (w.opened ≤ now) × (is_due now w ≡ false)) (λ w. w.opened ≤ now) (λ w h. h.0) after
        (All-same (λ w. (w.opened ≤ now) × (is_due now w ≡ false)) after xs same (law ws xs now copy current is))
    by (Err e) is same = absurd (cc)
