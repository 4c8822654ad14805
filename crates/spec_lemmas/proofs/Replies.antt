-- Replies of one word.
use Rattle.std.proofs.Common.{◌≡◌, ℕ, [], ◌∷◌, ap}
use Rattle.std.specs.List.{slice_index}
use Rattle.rmm_spec.specs.declared.reply.Reply.{Reply}
use Rattle.rmm_spec.specs.declared.reply.Reply.TheVariants as reply
use Rattle.rmm_spec.specs.Rows.{ok}

-- the first word of a reply
first_word : Reply → ℕ
first_word (reply.Ok words) = slice_index words.items 0
first_word _ = 0

-- the word of a reply of one word
pub word_of : (a b : ℕ) → ok (a ∷ []) ≡ ok (b ∷ []) → a ≡ b
unfolding first_word
word_of a b same = ap first_word same
