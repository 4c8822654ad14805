-- Which granules a step is about.
use Rattle.std.specs.Prelude.{ℕ, ◌+◌, ◌==◌, ◌||◌, Bool, false, List, [], ◌∷◌, ◌++◌, Option, Some, None, Result, Ok, Err, if◌then◌else◌}
use Rattle.std.specs.List.{list_any}
use Rattle.rmm_spec.specs.declared.accepted.Accepted.{Accepted}
use Rattle.rmm_spec.specs.declared.accepted.Accepted.TheVariants.{Done, Reaches}
use Rattle.rmm_spec.specs.declared.accepted.StretchUse.{StretchUse}
use Rattle.rmm_spec.specs.declared.accepted.StretchUse.TheVariants.{Init, Requested}
use Rattle.rmm_spec.specs.declared.call.Call.{Call}
use Rattle.rmm_spec.specs.declared.change.Change.{Change}
use Rattle.rmm_spec.specs.declared.change.Change.TheVariants.{Unchanged, Retagged, RealmMade, RealmDestroyed, RecMade, RecDestroyed, RecordsChanged, TableMade, TableDestroyed, EntriesChanged}
use Rattle.rmm_spec.specs.declared.change.RealmChange.{RealmChange}
use Rattle.rmm_spec.specs.declared.change.RecChange.{RecChange}
use Rattle.rmm_spec.specs.declared.change.TagChange.{TagChange}
use Rattle.rmm_spec.specs.declared.refusal.Refusal.{Refusal}
use Rattle.rmm_spec.specs.Call.{call_of}
use Rattle.rmm_spec.specs.Step.Terms.{named}
use Rattle.run_steps.specs.Replayed.{Told}

abbrev pub touches_realm : Option RealmChange → ℕ → Bool
touches_realm None granule = false
touches_realm (Some change) granule = granule == change.rd

abbrev pub touches_rec : Option RecChange → ℕ → Bool
touches_rec None granule = false
touches_rec (Some change) granule = granule == change.rec

abbrev pub touches_tag : Option TagChange → ℕ → Bool
touches_tag None granule = false
touches_tag (Some change) granule = granule == change.granule

-- the change gives the granule another tag, or the realm or the REC that it has another record
abbrev pub touches : Change → ℕ → Bool
touches Unchanged granule = false
touches (Retagged change) granule = granule == change.granule
touches (RealmMade rd root width level vmid algo) granule = granule == rd || granule == root
touches (RealmDestroyed rd root) granule = granule == rd || granule == root
touches (RecMade rd rec mpidr flags aux0 aux1) granule = granule == rd || granule == rec || granule == aux0 || granule == aux1
touches (RecDestroyed rec aux0 aux1) granule = granule == rec || granule == aux0 || granule == aux1
touches (RecordsChanged realm rec) granule = touches_realm realm granule || touches_rec rec granule
touches (TableMade rd level number rtt entry) granule = granule == rtt
touches (TableDestroyed rd level number rtt entry) granule = granule == rtt
touches (EntriesChanged rd level entries page realm rec) granule =
    touches_tag page granule || touches_realm realm granule || touches_rec rec granule

-- a stretch that is set changes the realm's record, or moves the REC's request
abbrev pub touches_by : StretchUse → ℕ → ℕ → Bool
touches_by Init rd granule = granule == rd
touches_by (Requested rec ripas) rd granule = granule == rec

abbrev pub answer_touches : Result Accepted Refusal → ℕ → Bool
answer_touches (Err refusal) granule = false
answer_touches (Ok (Done words change)) granule = touches change granule
answer_touches (Ok (Reaches stretch)) granule = touches_by stretch.purpose stretch.rd granule

-- the command names the granule
abbrev pub names : Call → ℕ → Bool
names given granule = list_any (λ needed. granule == needed.granule) (named given)

-- a step, counted from 1, and whether it touches the granule
pub record Mark : Type 0 where
  pub step : ℕ
  pub is_changed : Bool

-- the line's step, where it touches the granule or its command names it
abbrev pub mark_at : ℕ → ℕ → Told → List Mark
mark_at granule step told =
    if answer_touches told.answer granule || names (call_of told.command) granule
    then record { step = step; is_changed = answer_touches told.answer granule } ∷ []
    else []

-- those of all lines, from that number on
abbrev pub marks_from : ℕ → ℕ → List Told → List Mark
marks_from granule step [] = []
marks_from granule step (told ∷ more) = mark_at granule step told ++ marks_from granule (step + 1) more
