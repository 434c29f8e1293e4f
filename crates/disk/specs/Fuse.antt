use Rattle.std.specs.Prelude.{◌≢◌, ℕ, Option, Some, None}
use Rattle.disk.specs.declared.fuse.Fuse.{Fuse}
use Rattle.disk.specs.Outlook.{Outlook}
use Rattle.disk.specs.Outlook.Outlook.{Unknown, AllSucceed, FailsAfter}

-- what a fuse foresees: no failure, or one after this number of calls
abbrev pub outlook_from : Option ℕ → Outlook
outlook_from None = AllSucceed
outlook_from (Some n) = FailsAfter n

abbrev pub outlook_of : Fuse → Outlook
outlook_of fuse = outlook_from fuse.left

abbrev pub failures_of : Fuse → ℕ
failures_of fuse = fuse.failures

-- a fuse always foresees something
pub is_foreseen_from : (left : Option ℕ) → outlook_from left ≢ Unknown
is_foreseen_from None = λ same. cc
is_foreseen_from (Some n) = λ same. cc
