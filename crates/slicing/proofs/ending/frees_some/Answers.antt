-- Only two functions give back a granule that they don't name.
use Rattle.std.proofs.Common.{◌≡◌, false, refl}
use Rattle.rmm_spec.specs.declared.call.Call.{Call}
use Rattle.rmm_spec.specs.declared.call.Call.TheVariants as call
use Rattle.verdict_laws.specs.Separate.{is_freed}
use Rattle.slicing.proofs.ending.frees_some.Goals as goal

pub returns-in_default : goal.returns-in_default
unfolding is_freed
returns-in_default c is given granule = by c.args.call.now refl
  where
    by : (called : Call) → c.args.call.now ≡ called → is_freed called given granule ≡ false
    by (call.DataDestroy rd ipa) same = absurd (c.in_default.not-DataDestroy rd ipa same)
    by (call.RttRemove removal rd ipa level) same = absurd (c.in_default.not-RttRemove removal rd ipa level same)
    by _ same = refl
