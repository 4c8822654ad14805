-- Reads of a reader of which it is known what is left.
use Rattle.std.proofs.Common.{ℕ, List, Option, Some, None, Result, Ok, Err, subst}
use Rattle.std.specs.Io.KnownBytes.{Keeps, ReadConsumes}

-- a read behind one that gave nothing
pub kept_then_read : {E : Type 0} (old middle new : Option (List ℕ)) (result : Result ℕ E) (piece : List ℕ) → Keeps old middle
    → ReadConsumes middle new result piece → ReadConsumes old new result piece
kept_then_read None middle new (Ok count) piece kept read = (tt, read.1)
kept_then_read None middle new (Err error) piece kept read = tt
kept_then_read (Some xs) None new result piece kept read = absurd kept
kept_then_read (Some xs) (Some ys) new result piece kept read = subst (λ zs. ReadConsumes (Some zs) new result piece) kept read
