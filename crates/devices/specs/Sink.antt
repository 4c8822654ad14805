-- What a sink's answers say of the device.
use Rattle.std.specs.Prelude.{◌≡◌, ℕ, ◌-◌, ◌^◌, ◌<◌, List, [], ◌++◌, length, take, nat_lt, if◌then◌else◌, Option, Result, Ok, Err}
use Rattle.std.specs.Io.KnownBytes.{Appends}

-- the bytes that the device took of those handed to it
abbrev pub taken_of : {E : Type 0} → Result ℕ E → List ℕ → List ℕ
taken_of (Ok count) bytes = take count bytes
taken_of (Err error) bytes = []

-- how many failures the answer reports
abbrev pub write_failures : {T E : Type 0} → Result T E → ℕ
write_failures (Ok value) = 0
write_failures (Err error) = 1

-- the device took some first bytes of the whole, and not the last, and it holds them behind what it held
pub record HoldsBeginning (whole before after : List ℕ) (held_before held_after : Option (List ℕ)) : Type 0 where
  pub count : ℕ
  pub short : count < length whole
  pub taken : after ≡ before ++ take count whole
  pub contents : Appends held_before held_after (take count whole)

-- what a call did to a sink: the bytes that its device took until then and now, what it held where that is known, its failures,
-- and the room that it had
pub record Writing : Type 0 where
  pub taken_before : List ℕ
  pub taken_after : List ℕ
  pub held_before : Option (List ℕ)
  pub held_after : Option (List ℕ)
  pub room : ℕ
  pub failures_before : ℕ
  pub failures_after : ℕ

abbrev pub writing : {K : Type 0} → (K → List ℕ) → (K → Option (List ℕ)) → (K → ℕ) → (K → ℕ) → K → K → Writing
writing taken contents room failures old new = record {
  taken_before = taken old;
  taken_after = taken new;
  held_before = contents old;
  held_after = contents new;
  room = room old;
  failures_before = failures old;
  failures_after = failures new;
}

-- the bytes that fit behind so many without new memory, where one more failure can still be counted
abbrev pub prepared_room : ℕ → ℕ → ℕ → ℕ
prepared_room len capacity failures = if nat_lt failures (2 ^ 64 - 1) then capacity - len else 0
