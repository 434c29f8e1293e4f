-- The lines that are printed at the end of a life, and about a changed store.
use Rattle.std.specs.Prelude.{ℕ, List, ◌++◌, codes}
use Rattle.lnsd_life.specs.declared.report.LifeReport.{LifeReport}
use Rattle.lnsd_operator.specs.Counted.{count_line}
use Rattle.store_edits.specs.declared.editing.EditCounts.{EditCounts}

-- how a life of links that all connected has ended
abbrev pub report_text : LifeReport → List ℕ
report_text r =
    count_line (codes "dropped") r.dropped ++ count_line (codes "faulted") r.faulted

-- how a life of links that came and went has ended
abbrev pub run_text : LifeReport → List ℕ
run_text r =
    report_text r ++ count_line (codes "taken_over") r.taken_over
    ++ count_line (codes "silent") r.silent

-- what was done to the devices of a store
abbrev pub counts_text : EditCounts → List ℕ
counts_text c =
    (((count_line (codes "changed") c.changed ++ count_line (codes "devices") c.devices)
    ++ count_line (codes "slots") c.slots)
    ++ count_line (codes "sessions_ended") c.sessions_ended)
    ++ count_line (codes "items_dropped") c.items_dropped
