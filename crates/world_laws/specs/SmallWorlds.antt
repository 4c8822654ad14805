-- Small worlds, written out: what two CPUs do on a few granules, and takes by other rules than the rising one.
use Rattle.std.specs.Prelude.{◌≡◌, ℕ, zero, suc, ◌≤◌, false, ◌⊎◌, IsTrue, List, [], ◌∷◌, ◌++◌, map, Contains, length, None}
use Rattle.rmm_spec.specs.declared.version.Version.TheVariants.{One}
use Rattle.rmm_spec.specs.declared.command.Command.{Command}
use Rattle.rmm_spec.specs.declared.event.Event.{Event}
use Rattle.rmm_spec.specs.declared.event.Event.TheVariants.{Called}
use Rattle.rmm_spec.specs.declared.function_id.FunctionId.{FunctionId}
use Rattle.rmm_spec.specs.declared.function_id.FunctionId.TheVariants as function
use Rattle.rmm_spec.specs.declared.reply.Reply.{Reply}
use Rattle.rmm_spec.specs.HistoryText.{Config}
use Rattle.rmm_spec.specs.Call.{call_of}
use Rattle.rmm_spec.specs.Lookup.{is_granule}
use Rattle.rmm_spec.specs.Rows.{Needed, ok, input_error}
use Rattle.rmm_spec.specs.Step.Terms.{named}
use Rattle.rmm_spec.specs.Cell.{Cell, Delegated, tag_of, is_data}
use Rattle.rmm_spec.specs.Shape.{Outside}
use Rattle.rmm_spec.specs.Local.{HeldCell, Hold}
use Rattle.rmm_spec.specs.World.{World, Move, Happens, IsDeciding, held_cells}
use Rattle.rmm_spec.specs.World as move
use Rattle.rmm_spec.specs.Locks.{needs, IsNextNamed, IsNextPart}
use Rattle.world_laws.specs.Replaced.{held_at}

-- a function's number and its words
abbrev pub command_of : FunctionId → List ℕ → Command
command_of function words = record { function = function; words = record { items = words } }

-- ---- takes by a rule

-- a take among the moves goes by the rule, which says what a CPU may take
abbrev pub GoesBy : (World → ℕ → ℕ → Type 0) → World → Move → Type 0
GoesBy may w (move.Take cpu granule) = may w cpu granule
GoesBy may w _ = Unit {0}

-- from old, these moves in order lead to last, and each take goes by the rule
abbrev pub HappenBy : (World → ℕ → ℕ → Type 0) → World → List Move → World → Type 0
HappenBy may old [] last = last ≡ old
HappenBy may old (m ∷ moves) last = (next : World) × GoesBy may old m × Happens old m next × HappenBy may next moves last

-- CPU 0 may take what CPU 1 holds, and CPU 1 what CPU 0 holds
pub record WaitForEachOther (may : World → ℕ → ℕ → Type 0) (w : World) (zero_wants one_wants : ℕ) : Type 0 where
  pub zero_may : may w 0 zero_wants
  pub one_holds : Contains (w.taken 1) zero_wants
  pub one_may : may w 1 one_wants
  pub zero_holds : Contains (w.taken 0) one_wants

-- the rule by which a command's granules are taken in the order of its words, each with the tag that is needed there
pub record IsWordTake (w : World) (cpu granule : ℕ) : Type 0 where
  pub deciding : IsDeciding w cpu
  pub tags : (h : HeldCell) (n : Needed) → Contains (held_cells w cpu) h → Contains (named (call_of deciding.command)) n
      → n.granule ≡ h.granule → tag_of h.cell ≡ n.tag
  pub rest : List ℕ
  pub in_order : map (λ (n : Needed). n.granule) (named (call_of deciding.command)) ≡ w.taken cpu ++ granule ∷ rest

-- all that is asked of a rising take but that strays are parts of what is held
pub record IsUnguardedTake (config : Config) (names : List Needed) (held : List HeldCell) (granule : ℕ) : Type 0 where
  pub is_lock : IsTrue (is_granule config.granules granule)
  pub is_new : (h : HeldCell) → Contains held h → h.granule ≡ granule → ⊥
  pub room : length held ≤ 5
  pub no_data : (h : HeldCell) → Contains held h → is_data h.cell ≡ false
  pub tags : (h : HeldCell) (n : Needed) → Contains held h → Contains names n → n.granule ≡ h.granule → tag_of h.cell ≡ n.tag
  pub upwards : IsNextNamed names held granule ⊎ IsNextPart held granule

-- the rule by which such takes are allowed
pub record IsUnguarded (w : World) (cpu granule : ℕ) : Type 0 where
  pub deciding : IsDeciding w cpu
  pub take : IsUnguardedTake w.config (needs (w.place cpu) deciding.learnt (call_of deciding.command)) (held_cells w cpu) granule

-- ---- moves

-- the granules are freed, the last first
abbrev pub freeing : ℕ → List ℕ → List Move
freeing cpu [] = []
freeing cpu (granule ∷ granules) = freeing cpu granules ++ move.Free cpu granule None ∷ []

-- a CPU's moves from its first lock to its return, with its reply and what it then holds
abbrev pub served_by : ℕ → List ℕ → Reply → Hold → List Move
served_by cpu granules given held =
    map (λ granule. move.Take cpu granule) granules ++ (move.Commit cpu given held ∷ (freeing cpu granules ++ move.Return cpu ∷ []))

-- ---- two CPUs that delegate one granule

abbrev pub two_cpus : Config
two_cpus = record { granules = 4; cpus = 2; version = One }

abbrev pub delegate : ℕ → Command
delegate granule = command_of function.GranuleDelegate (granule ∷ [])

abbrev pub both_delegate : ℕ → List Command
both_delegate cpu = delegate 0x1000 ∷ []

-- a CPU outside of RECs that holds the granule with this cell; there are no realms
abbrev pub holding_at : ℕ → Cell → Hold
holding_at granule cell = record { cells = held_at granule cell ∷ []; side = record { vmids = λ _. None; rec_counts = λ _. 0 }; place = Outside }

abbrev pub delegates : ℕ → ℕ → Reply → List Move
delegates cpu granule given = served_by cpu (granule ∷ []) given (holding_at granule Delegated)

-- both CPUs call, and the first is served before the second
abbrev pub in_order : ℕ → ℕ → List Move
in_order first second = move.Call 0 ∷ move.Call 1 ∷ (delegates first 0x1000 (ok []) ++ delegates second 0x1000 input_error)

-- both CPUs call, and CPU 0 commits and stops
abbrev pub stopped_after_commit : List Move
stopped_after_commit =
    move.Call 0 ∷ move.Call 1 ∷ move.Take 0 0x1000 ∷ move.Commit 0 (ok []) (holding_at 0x1000 Delegated) ∷ move.Stop 0 ∷ []

abbrev pub both_called : List Event
both_called = Called 0 0 (delegate 0x1000) ∷ Called 1 0 (delegate 0x1000) ∷ []

-- ---- two CPUs that make a realm of the same two granules

abbrev pub realm_of : ℕ → ℕ → Command
realm_of rd root = command_of function.RealmCreate (rd ∷ root ∷ 39 ∷ 1 ∷ 1 ∷ 0 ∷ [])

-- CPU 0 delegates both, and then each names them in its own order
abbrev pub both_make_realms : ℕ → List Command
both_make_realms zero = delegate 0x1000 ∷ delegate 0x2000 ∷ realm_of 0x1000 0x2000 ∷ []
both_make_realms (suc cpu) = realm_of 0x2000 0x1000 ∷ []

-- both are delegated, both CPUs call, and each takes the granule that it names first
abbrev pub one_lock_each : List Move
one_lock_each =
    ((move.Call 0 ∷ delegates 0 0x1000 (ok [])) ++ (move.Call 0 ∷ delegates 0 0x2000 (ok [])))
    ++ (move.Call 0 ∷ move.Call 1 ∷ move.Take 0 0x1000 ∷ move.Take 1 0x2000 ∷ [])
