-- No call returns there.
use Rattle.registers.proofs.CpuLaws.{AreCpus-call}
use Rattle.registers.proofs.scan.read_event.Goals as goal

pub returns-in-None : goal.returns-in-None
returns-in-None c = record {
  cpus = AreCpus-call c.args.setting.now.history.now.recorded c.args.place c.args.scan.now.cpus c.requires.scan.cpus c.in-None.ensures.none;
  slots = c.pass_call.ensures;
}
