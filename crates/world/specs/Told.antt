-- Reports as the definitions have them.
use Rattle.rmm_spec.specs.Waits as waits
use Rattle.world.specs.declared.turned.Kind.{Kind}
use Rattle.world.specs.declared.turned.Kind.TheVariants as kind
use Rattle.world.specs.declared.turned.Turned.{Turned}
use Rattle.world.specs.declared.turned.Turned.TheVariants as turned

abbrev pub kind_from : Kind → waits.Kind
kind_from kind.Call = waits.Call
kind_from kind.Take = waits.Take
kind_from kind.Free = waits.Free
kind_from kind.Commit = waits.Commit
kind_from kind.GiveUp = waits.GiveUp
kind_from kind.Return = waits.Return
kind_from kind.Stop = waits.Stop

abbrev pub report_of : Turned → waits.Report
report_of (turned.Did kind) = waits.Did (kind_from kind)
report_of (turned.Blocked granule) = waits.Blocked granule
report_of turned.Idle = waits.Idle
