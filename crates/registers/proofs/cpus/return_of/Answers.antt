-- The CPU's call returns there.
use Rattle.std.proofs.Common.{None, arith, refl, slice_index_or}
use Rattle.std.proofs.lemmas.Option.{slice_get-get_or}
use Rattle.registers.specs.declared.cpus.Cpu.{Cpu}
use Rattle.registers.proofs.CpuLaws.{IsReturn-of, is_cpu_at}
use Rattle.registers.proofs.cpus.return_of.Goals as goal

none : Cpu
none = record { number = 0; places = None; entered = None }

pub returns : goal.returns
unfolding none
returns c =
    let history = c.args.history.now.recorded in
    let cpus = c.args.cpus.now in
    let size = c.requires.cpus.size in
    let under = c.requires.cpu in (
      refl,
      IsReturn-of history c.args.place c.args.cpu cpus (slice_index_or cpus c.args.cpu none) c.in_ok-places.places c.in_ok-places-2.field-0
          (is_cpu_at history c.args.place cpus c.args.cpu none c.requires.cpus c.requires.cpu)
          (slice_get-get_or cpus c.args.cpu none (omega (arith, size, under))) c.in_ok-places.was c.in_ok-places-2.was c.if-branch-place.false,
    )
