use Rattle.thread_tests.proofs.locked_tests.plays_alone.Given as goal

abbrev pub ghosts-plays : goal.ghosts-plays
ghosts-plays g a = record { made_name = a.made.name; made_parts = a.made.parts; taken_name = a.taken.name; history = a.history.seen.book }
