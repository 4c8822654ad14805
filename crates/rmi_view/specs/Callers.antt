-- Callers as the definitions' classes.
use Rattle.rmm_spec.specs.Call.{Class, ByHost, ByRealm, ByExit}
use Rattle.rmi_view.specs.declared.caller.Caller.{Caller}
use Rattle.rmi_view.specs.declared.caller.Caller.TheVariants as caller

abbrev pub class_from : Caller → Class
class_from caller.Host = ByHost
class_from caller.Realm = ByRealm
class_from caller.Rec = ByExit
