-- What outputs hold of texts, and why a text isn't written whole.
use Rattle.std.specs.Prelude.{◌≡◌, ℕ, ◌<◌, Bool, true, false, List, ◌++◌, length, Option}
use Rattle.std.specs.Io.KnownBytes.{Appends}
use Rattle.rmm_spec.specs.CertificateText.{certificate_text}
use Rattle.rmm_spec.specs.HistoryText.{history_text}
use Rattle.merging.specs.Merge.{Merge, history_of}
use Rattle.merging.specs.Run.{lines_merged}
use Rattle.merging.specs.declared.fault.WriteFault.{WriteFault}
use Rattle.merging.specs.declared.fault.WriteFault.TheVariants.{History, Certificate, NoMemory}

-- what an output holds, where that is known, and whether it has failed
pub record Held : Type 0 where
  pub contents : Option (List ℕ)
  pub has_failed : Bool

-- known bytes grew by what stands before the rest of a text
pub record GrowsUpTo (rest text : List ℕ) (old new : Option (List ℕ)) : Type 0 where
  pub front : List ℕ
  pub is_text : text ≡ front ++ rest
  pub appends : Appends old new front

-- the output has taken a beginning of the text, or all of it
pub record HasFront (text : List ℕ) (old new : Held) : Type 0 where
  pub rest : List ℕ
  pub grows : GrowsUpTo rest text old.contents new.contents
  pub going : new.has_failed ≡ false

-- the output has failed, and lacks the end of the text
pub record LacksEnd (text : List ℕ) (old new : Held) : Type 0 where
  pub rest : List ℕ
  pub some : 0 < length rest
  pub grows : GrowsUpTo rest text old.contents new.contents
  pub failed : new.has_failed ≡ true

-- two outputs, before and after a call that writes to both
pub record Outputs : Type 0 where
  pub history_before : Held
  pub history_after : Held
  pub certificate_before : Held
  pub certificate_after : Held

abbrev pub outputs : Held → Held → Held → Held → Outputs
outputs a b c d = record { history_before = a; history_after = b; certificate_before = c; certificate_after = d }

-- One of them has failed within its text, and the other one hasn't.
abbrev pub IsCut : List ℕ → List ℕ → Outputs → WriteFault → Type 0
IsCut history certificate both History =
    LacksEnd history both.history_before both.history_after × HasFront certificate both.certificate_before both.certificate_after
IsCut history certificate both Certificate =
    HasFront history both.history_before both.history_after × LacksEnd certificate both.certificate_before both.certificate_after
IsCut history certificate both NoMemory = ⊥

-- of a run's texts: where memory is refused nothing is written
abbrev pub IsUnwritten : Merge → Outputs → WriteFault → Type 0
IsUnwritten merge both NoMemory = (both.history_after ≡ both.history_before) × (both.certificate_after ≡ both.certificate_before)
IsUnwritten merge both History = IsCut (history_text (history_of merge)) (certificate_text (lines_merged merge.events)) both History
IsUnwritten merge both Certificate = IsCut (history_text (history_of merge)) (certificate_text (lines_merged merge.events)) both Certificate
