-- What a realm was made of and what it says of itself: its initial measurement (RIM) and its extensible measurements (REM).
-- After DEN0137 (realm measurement), with this project's own layout of what is hashed. The hashes are SHA-256 and SHA-512 (FIPS 180-4).
use Rattle.std.specs.Prelude.{ℕ, zero, suc, ◌==◌, if◌then◌else◌, List, [], ◌∷◌, ◌++◌, drop, replicate}
use Rattle.std.specs.Int.{w64, to_le_bytes, from_le_bytes}
use Rattle.std.specs.List.{flat_map}
use Rattle.sha2.specs.Sha256.{sha256}
use Rattle.sha2.specs.Sha512.{sha512}
use Rattle.rmm_spec.specs.declared.function_id.FunctionId.TheVariants.{RealmCreate}
use Rattle.rmm_spec.specs.declared.measurement.Measurement.{Measurement}
use Rattle.rmm_spec.specs.declared.measurement.Measurement.TheVariants.{Sha256, Sha512}
use Rattle.rmm_spec.specs.Function.{number_of}

-- the bytes of words, 8 for each, the lowest of them first
unfoldable pub words_bytes : List ℕ → List ℕ
words_bytes words = flat_map (to_le_bytes w64) words

-- so many words, read from the front of the bytes
unfoldable pub first_words : ℕ → List ℕ → List ℕ
first_words zero bytes = []
first_words (suc count) bytes = from_le_bytes w64 bytes ∷ first_words count (drop 8 bytes)

-- a measurement as words: four of one by SHA-256, and eight of one by SHA-512
unfoldable pub measurement_words : Measurement → List ℕ
measurement_words (Sha256 bytes) = first_words 4 bytes
measurement_words (Sha512 bytes) = first_words 8 bytes

-- the digest of the bytes, by the hash of that number (DEN0137, RmiHashAlgorithm): SHA-512 is 1, and SHA-256 is 0
abbrev pub measured_by : ℕ → List ℕ → Measurement
measured_by algo bytes = if algo == 1 then Sha512 (sha512 bytes) else Sha256 (sha256 bytes)

-- the digest of the measurement so far and these bytes, by its own hash
abbrev pub extended : Measurement → List ℕ → Measurement
extended (Sha256 old) bytes = Sha256 (sha256 (old ++ bytes))
extended (Sha512 old) bytes = Sha512 (sha512 (old ++ bytes))

-- the RIM of a realm that was just made
unfoldable pub rim_begin : ℕ → ℕ → ℕ → Measurement
rim_begin width level algo = measured_by algo (words_bytes (number_of RealmCreate ∷ width ∷ level ∷ algo ∷ []))

-- the RIM after a command that is measured by these words
unfoldable pub rim_extended : Measurement → List ℕ → Measurement
rim_extended rim words = extended rim (words_bytes words)

-- each REM of a realm that was just made with that hash
unfoldable pub rem_start : ℕ → Measurement
rem_start algo = if algo == 1 then Sha512 (replicate 64 0) else Sha256 (replicate 32 0)

-- the REM after it was extended by these bytes
unfoldable pub rem_extended : Measurement → List ℕ → Measurement
rem_extended rem bytes = extended rem bytes
