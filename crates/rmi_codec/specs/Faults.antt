-- What a fault says of the parts of a line. Where several apply, any of them may be reported.
use Rattle.std.specs.Prelude.{◌≡◌, ◌≢◌, ℕ, ◌^◌, ◌<◌, List, [], ◌∷◌, ◌⊎◌, length, drop, codes, Contains}
use Rattle.std.specs.List.{Any}
use Rattle.rmm_spec.specs.declared.function_id.FunctionId.{FunctionId}
use Rattle.rmm_spec.specs.Function.{number_of, word_count}
use Rattle.rmm_spec.specs.Text.{decimal, word, fixed_hex}
use Rattle.rmi_codec.specs.declared.fault.CodecFault.{CodecFault}
use Rattle.rmi_codec.specs.declared.fault.CodecFault.TheVariants.{UnknownNumber, WordCount, BadWord, BadSpacing, BadForm}

abbrev pub IsNoWord : List ℕ → Type 0
IsNoWord part = (w : ℕ) → w < 2 ^ 64 → part ≢ word w

abbrev pub IsNoByte : List ℕ → Type 0
IsNoByte part = (n : ℕ) → n < 256 → part ≢ decimal n

abbrev pub IsCommandFault : CodecFault → List (List ℕ) → Type 0
IsCommandFault UnknownNumber parts =
    (f : FunctionId) (rest : List (List ℕ)) → parts ≢ fixed_hex 8 (number_of f) ∷ rest
IsCommandFault WordCount parts =
    (f : FunctionId) × (rest : List (List ℕ)) × (parts ≡ fixed_hex 8 (number_of f) ∷ rest) × (length rest ≢ word_count f)
IsCommandFault BadWord parts = Any IsNoWord (drop 1 parts)
IsCommandFault BadSpacing parts = Contains parts []
IsCommandFault BadForm parts = ⊥

-- what stands behind the form doesn't fit it: more than ten words, not a status and an index, or something where nothing may be
abbrev pub IsFormFault : List ℕ → List (List ℕ) → Type 0
IsFormFault form rest =
    (form ≡ codes "ok" → 10 < length rest) × (form ≡ codes "err" → length rest ≢ 2) × (form ≡ codes "misplaced" → rest ≢ [])

abbrev pub IsReplyFault : CodecFault → List (List ℕ) → Type 0
IsReplyFault UnknownNumber parts = ⊥
IsReplyFault WordCount parts = ⊥
IsReplyFault BadWord parts =
    (rest : List (List ℕ)) × (((parts ≡ codes "ok" ∷ rest) × Any IsNoWord rest) ⊎ ((parts ≡ codes "err" ∷ rest) × Any IsNoByte rest))
IsReplyFault BadSpacing parts = Contains parts []
IsReplyFault BadForm parts =
    (form : List ℕ) (rest : List (List ℕ)) → parts ≡ form ∷ rest → IsFormFault form rest

-- of a first part that isn't the number that it is to be
abbrev pub IsPartFault : CodecFault → List (List ℕ) → Type 0
IsPartFault UnknownNumber parts = ⊥
IsPartFault WordCount parts = ⊥
IsPartFault BadWord parts = parts ≢ []
IsPartFault BadSpacing parts = (rest : List (List ℕ)) × (parts ≡ [] ∷ rest)
IsPartFault BadForm parts = parts ≡ []

-- of the words at the end of a line, of which more than ten are reported by the fault that the reader chose
abbrev pub IsWordsFault : CodecFault → CodecFault → List (List ℕ) → Type 0
IsWordsFault excess reported parts =
    ((reported ≡ BadWord) × Any IsNoWord parts) ⊎ (((reported ≡ BadSpacing) × Contains parts []) ⊎ ((reported ≡ excess) × (10 < length parts)))

-- of a status or an index that is to be the first part
abbrev pub IsSmallFault : CodecFault → List (List ℕ) → Type 0
IsSmallFault UnknownNumber parts = ⊥
IsSmallFault WordCount parts = ⊥
IsSmallFault BadWord parts = Any IsNoByte parts
IsSmallFault BadSpacing parts = Contains parts []
IsSmallFault BadForm parts = parts ≡ []

-- of an end that is to come
abbrev pub IsEndFault : CodecFault → List (List ℕ) → Type 0
IsEndFault UnknownNumber parts = ⊥
IsEndFault WordCount parts = ⊥
IsEndFault BadWord parts = ⊥
IsEndFault BadSpacing parts = Contains parts []
IsEndFault BadForm parts = parts ≢ []
