-- Each CPU in turn stands where it stands at first.
use Rattle.std.proofs.Common.{◌∙◌, arith, inl, inr, subst, sym}
use Rattle.std.proofs.lemmas.List.{length-set}
use Rattle.std.proofs.lemmas.Option.{slice_get_within}
use Rattle.registers.specs.declared.cpus.Cpu.{Cpu}
use Rattle.registers.specs.Cpus.{IsCpu}
use Rattle.registers.proofs.Elements.{slice_get-set_cases}
use Rattle.registers.proofs.cpus.first_cpus.Goals as goal

pub loop-cpu-preserved : goal.loop-cpu-preserved
loop-cpu-preserved c =
    let events = c.args.history.now.recorded.events in
    let at = c.loop-cpu.cpu in
    record {
      size = length-set c.loop-cpu.cpus at c.first_cpu.result ∙ c.loop-cpu.invariant.size;
      each = λ cpu one is under. elim (slice_get-set_cases c.loop-cpu.cpus at c.first_cpu.result cpu one is) [
        | inl here ↦
            subst (λ cpu. IsCpu events 0 cpu one) (sym here.0) (subst (λ (o : Cpu). IsCpu events 0 at o) (sym here.1) c.first_cpu.ensures)
        | inr there ↦ let apart = there.0 in c.loop-cpu.invariant.each cpu one there.1 (omega (arith, under, apart))
      ];
    }

pub returns : goal.returns
returns c = record {
  size = c.loop-cpu.invariant.size;
  each = λ cpu one is.
      let within = slice_get_within c.loop-cpu.cpus cpu one is in
      c.loop-cpu.invariant.each cpu one is (omega (arith, within, c.loop-cpu.invariant.size));
}
