-- the windows that are left refuse the copy as all do
use Rattle.std.proofs.Common.{◌≡◌, drop}
use Rattle.std.specs.List.{list_any}
use Rattle.std.specs.Result.{result_err}
use Rattle.dedup.specs.Windows.{is_of, joined_windows}
use Rattle.world_model.proofs.gathering.refusal_by.Given as goal

abbrev pub invariant-loop-window : goal.invariant-loop-window
invariant-loop-window l =
    (list_any (is_of l.copy.phy_payload) (drop l.window-index l.windows) ≡ list_any (is_of l.copy.phy_payload) l.windows)
    × (result_err (joined_windows (drop l.window-index l.windows) l.copy) ≡ result_err (joined_windows l.windows l.copy))
