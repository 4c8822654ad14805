-- The text of a line: its parts behind the first, and what follows its head.
use Rattle.std.proofs.Common.{◌≡◌, ℕ, ◌<◌, List, [], ◌∷◌, ◌++◌, length, sym, ap, arith, append_assoc}
use Rattle.std.proofs.lemmas.List.{append-nil}
use Rattle.rmm_spec.specs.Text.{decimal, line_text}
use Rattle.rmi_codec.specs.Head.{head_text}
use Rattle.rmi_codec.specs.Spaced.{spaced}

-- the parts behind the first, each behind a space
pub line_text-spaced : (part : List ℕ) (parts : List (List ℕ)) → line_text (part ∷ parts) ≡ part ++ spaced parts
line_text-spaced part [] = sym (append-nil part)
line_text-spaced part (next ∷ parts) = ap (λ rest. part ++ 32 ∷ rest) (line_text-spaced next parts)

-- a line that goes on behind its head
pub line_text-head : (letter cpu number : ℕ) (parts : List (List ℕ)) → 0 < length parts
    → line_text ((letter ∷ []) ∷ decimal cpu ∷ decimal number ∷ parts) ≡ head_text letter cpu number ++ 32 ∷ line_text parts
unfolding head_text
line_text-head letter cpu number [] some = absurd (omega arith)
line_text-head letter cpu number (part ∷ parts) some =
    ap (λ rest. letter ∷ 32 ∷ rest) (sym (append_assoc (decimal cpu) (32 ∷ decimal number) (32 ∷ line_text (part ∷ parts))))
