use Rattle.queue_threads.proofs.recording.record_beside.Given as goal

abbrev pub ghosts-record_named : goal.ghosts-record_named
ghosts-record_named g a = record { queue = a.recorder.now.queue }
