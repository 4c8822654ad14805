-- What a judged order leaves behind.
use Rattle.std.specs.Prelude.{◌≡◌, ℕ, ◌+◌, List, take}
use Rattle.rmm_spec.specs.declared.line.Line.{Line}
use Rattle.rmm_spec.specs.declared.verdict.Verdict.{Verdict}
use Rattle.rmm_spec.specs.declared.verdict.Verdict.TheVariants as verdict
use Rattle.rmm_spec.specs.HistoryText.{History}
use Rattle.rmm_spec.specs.State.{State}
use Rattle.rmm_spec.specs.FirstFault.{Passes}

-- the lines before the step that fails lead to the state, or all lines where none fails
abbrev pub IsLeftBy : Verdict → History → List Line → State → Type 0
IsLeftBy (verdict.HistoryFault line) history lines s = ⊥
IsLeftBy (verdict.CertificateFault line) history lines s = ⊥
IsLeftBy (verdict.Yes count) history lines s = Passes history lines s
IsLeftBy (verdict.No step why) history lines s = (count : ℕ) × (step ≡ count + 1) × Passes history (take count lines) s
