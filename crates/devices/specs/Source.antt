-- What a source's answers say of the device.
use Rattle.std.specs.Prelude.{◌≡◌, ℕ, ◌+◌, ◌-◌, ◌^◌, ◌<◌, min, List, [], ◌∷◌, length, Option, IfSome, Result, Ok, Err}
use Rattle.std.specs.List.{flat_map}
use Rattle.devices.specs.declared.source.ReadError.{ReadError}
use Rattle.devices.specs.declared.source.ReadError.TheVariants as errors

-- a source goes from one state to another by reads, each of which gives one of these pieces
abbrev pub GivesPieces : {S : Type 0} → (S → List ℕ → S → Type 0) → S → List (List ℕ) → S → Type 0
GivesPieces gives old [] new = new ≡ old
GivesPieces {S} gives old (piece ∷ pieces) new = (middle : S) × (gives old piece middle × GivesPieces gives middle pieces new)

-- and the pieces make up the text
abbrev pub Gives : {S : Type 0} → (S → List ℕ → S → Type 0) → S → List ℕ → S → Type 0
Gives gives old text new = (pieces : List (List ℕ)) × ((text ≡ flat_map (λ piece. piece) pieces) × GivesPieces gives old pieces new)

-- the source gave the text, which is all that was left, where that is known
pub record GivesWhole {S : Type 0} (gives : S → List ℕ → S → Type 0) (left : Option (List ℕ)) (old new : S) (text : List ℕ) : Type 0 where
  pub given : Gives gives old text new
  pub whole : IfSome left (λ all. text ≡ all)

-- the source gave the text, and in the read after it memory was refused to it
pub record IsRefused {S : Type 0} (gives : S → List ℕ → S → Type 0) (refuses : S → S → Type 0) (old new : S) : Type 0 where
  pub text : List ℕ
  pub middle : S
  pub given : Gives gives old text middle
  pub refused : refuses middle new

-- the source gave a byte or more
abbrev pub GivesSome : {S : Type 0} → (S → List ℕ → S → Type 0) → S → S → Type 0
GivesSome gives old new = (text : List ℕ) × Gives gives old text new × (0 < length text)

-- what a call did to a source: the text that it gave, which is all that was left of its text, its end, no read at all, memory
-- that was refused to it, and its failures until then and now
pub record Reading : Type 1 where
  pub given : List ℕ → Type 0
  pub whole : List ℕ → Type 0
  pub is_ended : Type 0
  pub is_untouched : Type 0
  pub is_refused : Type 0
  pub failures_before : ℕ
  pub failures_after : ℕ

abbrev pub reading : {S : Type 0} → (S → List ℕ → S → Type 0) → (S → Type 0) → (S → Option (List ℕ)) → (S → S → Type 0) → (S → ℕ) → S → S → Reading
reading gives is_ended left refuses failures old new = record {
  given = λ text. Gives gives old text new;
  whole = GivesWhole gives (left old) old new;
  is_ended = is_ended new;
  is_untouched = new ≡ old;
  is_refused = IsRefused gives refuses old new;
  failures_before = failures old;
  failures_after = failures new;
}

-- one more, up to the greatest number that is kept
abbrev pub one_more : ℕ → ℕ
one_more count = min (count + 1) (2 ^ 64 - 1)

-- how many failures the answer reports
abbrev pub read_failures : {T : Type 0} → Result T ReadError → ℕ
read_failures (Ok value) = 0
read_failures (Err errors.Device) = 1
read_failures (Err errors.NoMemory) = 0
