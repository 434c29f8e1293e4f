-- Windows computed anew.
use Rattle.std.proofs.Common.{◌≡◌, ◌∙◌, ◌<◌, ◌+◌, ℕ, true, cond, List, [], ◌∷◌, ◌++◌, drop, get_or, length, Result, Ok, Err, ap, sym, refl, ◌||◌}
use Rattle.std.specs.Prelude.{nat_le}
use Rattle.std.specs.List.{list_any}
use Rattle.std.specs.Result.{result_err}
use Rattle.std.proofs.lemmas.List.{drop_more}
use Rattle.lw_types.specs.declared.frame_copy.FrameCopy.{FrameCopy}
use Rattle.lw_types.specs.declared.refusal.Refusal.{Refusal}
use Rattle.lw_types.specs.declared.refusal.Refusal.TheVariants.{WindowsFull}
use Rattle.devices.specs.Heard.{with_hearing}
use Rattle.dedup.specs.declared.TheConstants.{MOST_WINDOWS}
use Rattle.dedup.specs.Windows.{Window, windows_with, hearing_of, is_of, joined_windows, opened_by, result_map, with_hearings}

same_err : {A B : Type 0} (f : A → B) (r : Result A Refusal) → result_err (result_map f r) ≡ result_err r
same_err f (Ok x) = refl
same_err f (Err e) = refl

-- a copy is refused by the first window of its bytes
pub refused_there : (ws : List Window) (i : ℕ) (w : Window) (copy : FrameCopy) (now : ℕ) → i < length ws → w ≡ get_or ws i w → is_of copy.phy_payload w ≡ true
    → list_any (is_of copy.phy_payload) (drop i ws) ≡ list_any (is_of copy.phy_payload) ws
    → result_err (joined_windows (drop i ws) copy) ≡ result_err (joined_windows ws copy)
    → result_err (with_hearing w.hearings (hearing_of copy)) ≡ result_err (windows_with ws now copy)
refused_there ws i w copy now within there own none same =
    let next : drop i ws ≡ w ∷ drop (i + 1) ws = drop_more ws i w within ∙ ap (λ x. x ∷ drop (i + 1) ws) (sym there) in
    let some : list_any (is_of copy.phy_payload) ws ≡ true =
    sym none ∙ (ap (list_any (is_of copy.phy_payload)) next ∙ ap (λ b. b || list_any (is_of copy.phy_payload) (drop (i + 1) ws)) own) in
    let by_it : result_err (joined_windows (drop i ws) copy) ≡ result_err (with_hearing w.hearings (hearing_of copy)) =
    ap (λ xs. result_err (joined_windows xs copy)) next
    ∙ (ap (λ b. result_err (cond b (result_map (λ hearings. with_hearings w hearings ∷ drop (i + 1) ws) (with_hearing w.hearings (hearing_of copy))) (result_map (λ rest. w ∷ rest) (joined_windows (drop (i + 1) ws) copy)))) own
    ∙ same_err (λ hearings. with_hearings w hearings ∷ drop (i + 1) ws) (with_hearing w.hearings (hearing_of copy))) in
    sym by_it ∙ (same ∙ sym (ap (λ b. result_err (cond b (joined_windows ws copy) (cond (nat_le MOST_WINDOWS (length ws)) (Err WindowsFull) (Ok (ws ++ opened_by now copy ∷ []))))) some))
