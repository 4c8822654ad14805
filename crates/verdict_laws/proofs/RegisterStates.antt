-- What a state knows of a register: the REC that each CPU runs is the one that it entered last, and the register's value is the realm's.
use Rattle.verdict_laws.proofs.Common.{Measurement, RealmRecord, RecRecord, State, Register}
use Rattle.std.specs.Prelude.{◌≡◌, ℕ, ◌==◌, Bool, Option, Some}
use Rattle.rmm_spec.specs.Change.{measurement_at}

-- what is known after a run, where each CPU entered that REC last, and the register has that value
pub record Knows (s : State) (register : Register) (mine : ℕ → Bool) (entered : ℕ → Option ℕ) (value : Option Measurement) : Type 0 where
  pub running : (g cpu : ℕ) (c : RecRecord) → s.rec g ≡ Some c → c.cpu ≡ Some cpu → entered cpu ≡ Some g
  pub owned : (g : ℕ) (c : RecRecord) → s.rec g ≡ Some c → mine g ≡ (c.owner == register.rd)
  pub holds : (realm : RealmRecord) → s.realm register.rd ≡ Some realm → value ≡ Some (measurement_at realm register.index)
