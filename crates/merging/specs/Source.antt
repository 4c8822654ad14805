-- What was taken of a source, and why no texts were made of it.
use Rattle.std.specs.Prelude.{⊤, ℕ, List, ◌++◌, Option, Some, None, Result, Ok, Err}
use Rattle.merging.specs.Faults as reading
use Rattle.merging.specs.Pieces.{HasRead}
use Rattle.merging.specs.declared.event_fault.EventsFault.{EventsFault}
use Rattle.merging.specs.declared.reader.Reader.{Reader}
use Rattle.merging.specs.Texts.{IsFaultOfText}
use Rattle.merging.specs.declared.source.SourceFault.{SourceFault}
use Rattle.merging.specs.declared.source.SourceFault.TheVariants.{Events, Device, NoMemory}
use Rattle.merging.specs.declared.texts.Asked.{Asked}
use Rattle.merging.specs.declared.texts.TextFault.{TextFault}
use Rattle.merging.specs.declared.texts.TextFault.TheVariants.{Text}

-- the text was read, or it begins so that each text with this beginning has the fault
abbrev pub IsTakenAs : Reader → Option EventsFault → List ℕ → Type 0
IsTakenAs reader None text = HasRead reader text
IsTakenAs reader (Some fault) text = (more : List ℕ) → reading.IsFaultOf (text ++ more) fault

-- of a source that gave its whole text
abbrev pub IsFaultOfSource : (List ℕ → Type 0) → Asked → SourceFault → Type 0
IsFaultOfSource whole asked (Events given) = (text : List ℕ) × (whole text × IsFaultOfText text asked given)
IsFaultOfSource whole asked Device = ⊤
IsFaultOfSource whole asked NoMemory = ⊤

-- the same of its lines alone
abbrev pub IsUnreadText : (List ℕ → Type 0) → TextFault → Type 0
IsUnreadText whole (Text given) = (text : List ℕ) × (whole text × reading.IsFaultOf text given)
IsUnreadText whole given = ⊥

abbrev pub IsUnread : (List ℕ → Type 0) → SourceFault → Type 0
IsUnread whole (Events given) = IsUnreadText whole given
IsUnread whole Device = ⊤
IsUnread whole NoMemory = ⊤

-- how often the device has failed
abbrev pub source_failures : {T : Type 0} → Result T SourceFault → ℕ
source_failures (Ok value) = 0
source_failures (Err (Events given)) = 0
source_failures (Err Device) = 1
source_failures (Err NoMemory) = 0
