use Rattle.lnsd_life.proofs.serving.begin.Given as goal

abbrev pub ghosts-serve_life : goal.ghosts-serve_life
ghosts-serve_life g a = record { made_name = a.made.name; made_parts = a.made.parts; taken_name = a.taken.name; history = a.history.seen.book }
