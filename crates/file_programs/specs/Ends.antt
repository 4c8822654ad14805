-- How a program that reads whole files ends.
use Rattle.std.specs.Prelude.{◌≡◌, ◌⊎◌, ℕ, List, [], ◌++◌, codes, string_bytes}
use Rattle.std.specs.declared.io.ErrorKind.{ErrorKind}
use Rattle.std.specs.declared.io.ErrorKind.TheVariants.{BrokenPipe}
use Rattle.file_programs.specs.declared.parsing.Refusal.{Refusal}
use Rattle.file_programs.specs.declared.parsing.Refusal.TheVariants as refusal
use Rattle.file_programs.specs.declared.fault.Fault.{Fault}
use Rattle.file_programs.specs.declared.fault.Fault.TheVariants as fault

-- its exit status after a fault; that of a closed pipe is a shell's of a program that SIGPIPE ends
abbrev pub status_of : Fault → ℕ
status_of fault.Arguments = 2
status_of (fault.Usage text) = 2
status_of (fault.CannotRead path) = 3
status_of (fault.CannotWrite path) = 3
status_of fault.CannotPrint = 3
status_of fault.ClosedPipe = 141
status_of fault.NoMemory = 3

-- what it writes of one to standard error
abbrev pub line_of : List ℕ → Fault → List ℕ
line_of program fault.Arguments = program ++ codes ": arguments\n"
line_of program (fault.Usage text) = string_bytes text
line_of program (fault.CannotRead path) = program ++ (codes ": cannot read " ++ (string_bytes path ++ codes "\n"))
line_of program (fault.CannotWrite path) = program ++ (codes ": cannot write " ++ (string_bytes path ++ codes "\n"))
line_of program fault.CannotPrint = program ++ codes ": cannot write standard output\n"
line_of program fault.ClosedPipe = []
line_of program fault.NoMemory = program ++ codes ": no memory\n"

-- the fault where standard output fails so
abbrev pub print_fault : ErrorKind → Fault
print_fault BrokenPipe = fault.ClosedPipe
print_fault _ = fault.CannotPrint

abbrev pub IsPrintFault : Fault → Type 0
IsPrintFault ended = (ended ≡ fault.ClosedPipe) ⊎ (ended ≡ fault.CannotPrint)

-- the fault with which it ends where arguments ask for no work: help and the version are printed, where the output takes them
abbrev pub IsShownAs : Refusal → Fault → Type 0
IsShownAs (refusal.Shown text) ended = IsPrintFault ended
IsShownAs (refusal.Arguments text) ended = ended ≡ fault.Usage text
IsShownAs refusal.NoMemory ended = ended ≡ fault.NoMemory
