use Rattle.thread_tests.proofs.threads_tests.two_make_together.Given as goal

abbrev pub ghosts-two_make : goal.ghosts-two_make
ghosts-two_make g a = record { made_name = a.made.name; made_parts = a.made.parts; taken_name = a.taken.name; history = a.history.seen.book }
