-- The keys of a scenario's document, and the kind of value that each holds. How a document is written is another grammar's:
-- here it is the values at its keys, and a value is what is read from it as a whole number, a text or a list.
-- This project's own.
use Rattle.std.specs.Prelude.{◌≡◌, ℕ, ℤ, pos, Bool, true, List, [], ◌∷◌, codes, Option, Some, None, option_map, option_and_then}
use Rattle.std.specs.List.{list_all, list_any}
use Rattle.std.specs.Str.{bytes_eq}
use Rattle.rmm_spec.specs.Scenario.{Stated}

-- the kinds of value that a scenario has: what a value is, where it is of that kind
pub record Kinds (Value : Type 0) : Type 0 where
  pub whole : Value → Option ℤ
  pub text : Value → Option (List ℕ)
  pub items : Value → Option (List Value)

-- the keys that are there, and what stands under each
pub record Document (Value : Type 0) : Type 0 where
  pub keys : List (List ℕ)
  pub value_at : List ℕ → Option Value

abbrev pub is_key : List ℕ → Bool
is_key key = list_any (λ known. bytes_eq known key)
    (codes "granules" ∷ codes "cpus" ∷ codes "programs" ∷ codes "queue" ∷ codes "turns" ∷ codes "limit" ∷ codes "version" ∷ [])

-- what the values are, where all are of one kind
abbrev pub each_value : {Value A : Type 0} → (Value → Option A) → List Value → Option (List A)
each_value kind [] = Some []
each_value kind (value ∷ values) = option_and_then (λ x. option_map (λ xs. x ∷ xs) (each_value kind values)) (kind value)

abbrev pub texts : {Value : Type 0} → Kinds Value → Value → Option (List (List ℕ))
texts kinds value = option_and_then (each_value kinds.text) (kinds.items value)

abbrev pub lists_of_texts : {Value : Type 0} → Kinds Value → Value → Option (List (List (List ℕ)))
lists_of_texts kinds value = option_and_then (each_value (texts kinds)) (kinds.items value)

-- what a key holds that may be left out
abbrev pub or_left_out : {Value A : Type 0} → A → (Value → Option A) → Option Value → Option A
or_left_out absent kind None = Some absent
or_left_out absent kind (Some value) = kind value

-- Three keys have to be there, four may be left out, and there are no others.
pub record States {Value : Type 0} (kinds : Kinds Value) (document : Document Value) (stated : Stated) : Type 0 where
  pub known : list_all is_key document.keys ≡ true
  pub granules : option_and_then kinds.whole (document.value_at (codes "granules")) ≡ Some stated.granules
  pub cpus : option_and_then kinds.whole (document.value_at (codes "cpus")) ≡ Some stated.cpus
  pub programs : option_and_then (lists_of_texts kinds) (document.value_at (codes "programs")) ≡ Some stated.programs
  pub queue : or_left_out (pos 4096) kinds.whole (document.value_at (codes "queue")) ≡ Some stated.queue
  pub turns : or_left_out [] (texts kinds) (document.value_at (codes "turns")) ≡ Some stated.turns
  pub limit : or_left_out (pos 1000000) kinds.whole (document.value_at (codes "limit")) ≡ Some stated.limit
  pub version : or_left_out (pos 1) kinds.whole (document.value_at (codes "version")) ≡ Some stated.version
