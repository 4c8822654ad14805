-- Which commands make a change that takes memory, and how deep a stretch lies.
use Rattle.spec_machine.proofs.Common.{◌/◌, ◌==◌, ◌||◌, ◌∙◌, ◌∷◌, ◌≡◌, ◌≤◌, Bool, CanApply, Change, Claim, IsSound, IsTrue, List, Ok, Rd, Reaches, RealmMade, Rec, State, Stretch, TableMade, [], ap, both_ways, claims_opened, done, false, has_tag, is_some, makes_table, opened, outcome, reached_applies, reached_change, rec_at, rec_there, refl, stretch_change, sym, tag_number, takes_memory, ℕ}
use Rattle.rmm_spec.specs.declared.accepted.StretchUse.{StretchUse}
use Rattle.rmm_spec.specs.declared.accepted.StretchUse.TheVariants.{Init, Requested}
use Rattle.rmm_spec.specs.declared.command.Command.{Command}
use Rattle.rmm_spec.specs.declared.function_id.FunctionId.{FunctionId}
use Rattle.rmm_spec.specs.declared.function_id.FunctionId.TheVariants.{RealmCreate, RttCreate}
use Rattle.rmm_spec.specs.Call.{call_from, call_of}
use Rattle.rmm_laws.proofs.CommandFacts.{outcome-tells}
use Rattle.lemmas.proofs.Options.{value_there}

-- ---- memory

-- whether a table's granule is among what is claimed
abbrev claims_table : List Claim → Bool
claims_table [] = false
claims_table (c ∷ cs) = tag_number c.role == 6 || claims_table cs

-- a change that takes memory claims a table
takes-claims : (change : Change) → IsTrue (takes_memory change) → IsTrue (claims_table (opened change))
takes-claims (RealmMade rd root width level vmid algo) takes = refl
takes-claims (TableMade rd level number rtt entry) takes = refl
takes-claims _ takes = both_ways takes refl

-- the commands that claim one
claims-makes : (function : FunctionId) (words : List ℕ) → claims_table (claims_opened (call_from function words)) ≡ makes_table function
unfolding call_from claims_opened
claims-makes RealmCreate words = refl
claims-makes RttCreate words = refl
claims-makes _ words = refl

pub done_makes : (s : State) (cpu : ℕ) (command : Command) (words : List ℕ) (change : Change)
    → outcome s cpu (call_of command) ≡ Ok (done words change)
    → IsTrue (takes_memory change) → IsTrue (makes_table command.function)
done_makes s cpu command words change is takes =
    let tells = outcome-tells command s cpu (Ok (done words change)) is in
    sym (claims-makes command.function command.words.items) ∙ ap claims_table tells.opens ∙ takes-claims change takes

-- a stretch that is set takes none
no_table : (purpose : StretchUse) (rd level base first last top : ℕ) → takes_memory (stretch_change purpose rd level base first last top) ≡ false
no_table Init rd level base first last top = refl
no_table (Requested rec ripas) rd level base first last top = refl

pub reached_takes_none : (stretch : Stretch) (top : ℕ) → takes_memory (reached_change stretch top) ≡ false
unfolding reached_change
reached_takes_none stretch top = no_table stretch.purpose stretch.rd stretch.level stretch.base _ _ top

-- ---- levels

-- a table of a sound state has a level
table_level : (s : State) (rd level number : ℕ) → IsSound s → IsTrue (is_some (s.table rd level number)) → level ≤ 3
table_level s rd level number sound there =
    let found = value_there (s.table rd level number) there in
    (sound.tables.owned rd level number found.0 found.1).2.last

-- and a stretch lies in one, where its change can be made
in_table : (s : State) (purpose : StretchUse) (rd level base first last top : ℕ)
    → IsSound s → CanApply s (stretch_change purpose rd level base first last top) → level ≤ 3
in_table s Init rd level base first last top sound can = table_level s rd level (first / 512) sound can.1.0.table
in_table s (Requested rec ripas) rd level base first last top sound can = table_level s rd level (first / 512) sound can.1.0.table

pub stretch_level : (s : State) (cpu : ℕ) (command : Command) (stretch : Stretch) → IsSound s → outcome s cpu (call_of command) ≡ Ok (Reaches stretch)
    → stretch.level ≤ 3
unfolding reached_change
stretch_level s cpu command stretch sound is =
    let end = (outcome-tells command s cpu (Ok (Reaches stretch)) is).0 in
    in_table s stretch.purpose stretch.rd stretch.level stretch.base _ _ end.0 sound (reached_applies s cpu command stretch end.0 sound is end.1)

-- each REC has a realm
pub owner_tagged : (s : State) → IsSound s → (rec : ℕ) → IsTrue (has_tag s rec Rec) → IsTrue (has_tag s (rec_at s rec).owner Rd)
owner_tagged s sound rec tag = sound.recs.owned rec (rec_at s rec) (rec_there s rec sound tag)
