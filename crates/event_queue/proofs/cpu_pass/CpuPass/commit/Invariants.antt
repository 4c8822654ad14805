use Rattle.rmi_view.specs.Seen.{reply_seen}
use Rattle.event_queue.proofs.cpu_pass.CpuPass.commit.Given as goal

abbrev pub ghosts-commit_on : goal.ghosts-commit_on
ghosts-commit_on a = record { cpu = a._cpu; reply = reply_seen a._reply }
