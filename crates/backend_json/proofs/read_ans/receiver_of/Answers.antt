use Rattle.backend_json.proofs.read_ans.receiver_of.Goals as goal

pub returns-in_err-text-clause-only : goal.returns-in_err-text-clause-only
returns-in_err-text-clause-only c receiver others few h = elim (c.in_err-text.ensures _ h) [ ]
