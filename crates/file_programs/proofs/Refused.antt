-- Why arguments ask for nothing.
use Rattle.std.proofs.Common.{◌≡◌, ◌⊎◌, List, inl, inr, rules}
use Rattle.clap.specs.Words.{App, IsAmong, Row, Text, fault_of}
use Rattle.clap.specs.declared.error.kind.ErrorKind.{ErrorKind}
use Rattle.clap.specs.declared.error.kind.ErrorKind.TheVariants.{OutOfMemory}
use Rattle.file_programs.specs.Arguments.{AskForNothing, IsRefusalOf}
use Rattle.file_programs.specs.declared.parsing.Refusal.{Refusal}
use Rattle.file_programs.specs.declared.parsing.Refusal.TheVariants.{Shown, Arguments, NoMemory}

-- clap refuses them by an error of this kind
pub AskForNothing-kind : {A : Type 0} (command : App) (IsAsked : List Row → A → Type 0) (arguments : List Text) (kind : ErrorKind) (refusal : Refusal)
    → (kind ≡ OutOfMemory) ⊎ IsAmong kind (fault_of command arguments) → IsRefusalOf kind refusal → AskForNothing command IsAsked arguments refusal
AskForNothing-kind command IsAsked arguments kind (Shown text) told shown = search rules
AskForNothing-kind command IsAsked arguments kind (Arguments text) (inl refused) fault = absurd (fault.2 refused)
AskForNothing-kind command IsAsked arguments kind (Arguments text) (inr among) fault = inl (kind, among, fault)
AskForNothing-kind command IsAsked arguments kind NoMemory told is = tt
