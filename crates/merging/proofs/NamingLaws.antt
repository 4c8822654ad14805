-- Laws on events whose granules have names.
use Rattle.merging.proofs.Common.{◌++◌, ◌+◌, ◌<◌, ◌∙◌, ◌∷◌, ◌≡◌, ◌≤◌, Call, Commit, Happened, List, Moment, Option, Return, Some, [], ap, append-nil, append_assoc, arith, known_front, length, no_lasts, refl, returns_in, slice_get, slice_get_within, starts, subst, suc, sym, take, zero, ℕ}
use Rattle.std.proofs.Common.{drop, if◌then◌else◌}
use Rattle.std.specs.Prelude.{◌==◌}
use Rattle.std.proofs.lemmas.Option.{none-some}
use Rattle.rmm_spec.specs.declared.function_id.FunctionId.{FunctionId}
use Rattle.merging.specs.Table.{Table}
use Rattle.merging.proofs.NameLaws.{names_from-append}
use Rattle.merging.specs.Names.{names_from}
use Rattle.merging.specs.Renamed.{lasts_with, moment_addresses, renamed_moment}
use Rattle.merging.specs.declared.names.Limits.{Limits}
use Rattle.rmm_spec.specs.HistoryText.{Config}
use Rattle.merging.specs.Faults.{IsTableOf}
use Rattle.merging.specs.Merge.{Merge, AreReturns}
use Rattle.merging.specs.Texts.{naming_asked, config_asked, IsMergedText}
use Rattle.merging.specs.declared.texts.Asked.{Asked}
use Rattle.merging.specs.declared.merged.Extent.TheVariants.{Whole}
use Rattle.merging.specs.Naming.{addresses_from, names_of, named_slot, told_slot, named_from, events_named, lasts_after, HasTooMany, IsUnnamed, IsUnnamedNext}
use Rattle.merging.specs.Run.{return_count, IsRun}
use Rattle.merging.specs.declared.naming.NamingFault.{NamingFault}
use Rattle.merging.specs.declared.naming.NamingFault.TheVariants as fault
use Rattle.merging.specs.declared.naming.Naming.{Naming}
use Rattle.merging.specs.declared.naming.Naming.TheVariants.{AsRecorded, ByNames}
use Rattle.merging.proofs.StepLaws.{cut_at}
use Rattle.lemmas.proofs.Elements.{take-next_at}

pub lasts_after-push : (lasts : ℕ → Option FunctionId) (slots : List Happened) (slot : Happened)
    → lasts_after lasts (slots ++ slot ∷ []) ≡ lasts_with (lasts_after lasts slots) slot
lasts_after-push lasts [] slot = refl
lasts_after-push lasts (first ∷ slots) slot = lasts_after-push (lasts_with lasts first) slots slot

pub addresses_from-push : (memory : ℕ) (lasts : ℕ → Option FunctionId) (slots : List Happened) (slot : Happened)
    → addresses_from memory lasts (slots ++ slot ∷ [])
    ≡ addresses_from memory lasts slots ++ moment_addresses memory (lasts_after lasts slots slot.cpu) slot.moment
addresses_from-push memory lasts [] slot = append-nil (moment_addresses memory (lasts slot.cpu) slot.moment)
addresses_from-push memory lasts (first ∷ slots) slot =
    let own = moment_addresses memory (lasts first.cpu) first.moment in
    let rest = lasts_with lasts first in
    ap (λ es. own ++ es) (addresses_from-push memory rest slots slot)
    ∙ sym (append_assoc own (addresses_from memory rest slots) (moment_addresses memory (lasts_after rest slots slot.cpu) slot.moment))

pub names_of-push : (memory : ℕ) (slots : List Happened) (slot : Happened)
    → names_of memory (slots ++ slot ∷ [])
    ≡ names_from (names_of memory slots) (moment_addresses memory (lasts_after no_lasts slots slot.cpu) slot.moment)
names_of-push memory slots slot =
    ap (names_from []) (addresses_from-push memory no_lasts slots slot)
    ∙ names_from-append [] (addresses_from memory no_lasts slots) (moment_addresses memory (lasts_after no_lasts slots slot.cpu) slot.moment)

-- ---- what is told of a moment at a place

pub named_from-get : (naming : Naming) (granules : ℕ) (lasts : ℕ → Option FunctionId) (slots : List Happened) (place : ℕ) (slot : Happened)
    → slice_get slots place ≡ Some slot
    → slice_get (named_from naming granules lasts slots) place
    ≡ Some (named_slot naming granules (lasts_after lasts (take place slots) slot.cpu) slot)
named_from-get naming granules lasts [] place slot is = absurd (none-some slot is)
named_from-get naming granules lasts (first ∷ slots) zero slot is =
    let same : first ≡ slot = cc in ap (λ (s : Happened). Some (named_slot naming granules (lasts s.cpu) s)) same
named_from-get naming granules lasts (first ∷ slots) (suc place) slot is = named_from-get naming granules (lasts_with lasts first) slots place slot is

pub length-named_from : (naming : Naming) (granules : ℕ) (lasts : ℕ → Option FunctionId) (slots : List Happened)
    → length (named_from naming granules lasts slots) ≡ length slots
length-named_from naming granules lasts [] = refl
length-named_from naming granules lasts (slot ∷ slots) = ap suc (length-named_from naming granules (lasts_with lasts slot) slots)

pub named_slot-cpu : (naming : Naming) (granules : ℕ) (last : Option FunctionId) (slot : Happened)
    → (named_slot naming granules last slot).cpu ≡ slot.cpu
named_slot-cpu AsRecorded granules last slot = refl
named_slot-cpu (ByNames names) granules last slot = refl

pub named_slot-line : (naming : Naming) (granules : ℕ) (last : Option FunctionId) (slot : Happened)
    → (named_slot naming granules last slot).line ≡ slot.line
named_slot-line AsRecorded granules last slot = refl
named_slot-line (ByNames names) granules last slot = refl

-- the events as they are told have the next one at its place
pub told-at : (naming : Naming) (granules size : ℕ) (lasts : ℕ → Option FunctionId) (slots : List Happened) (place : ℕ) (slot : Happened)
    → slice_get slots place ≡ Some slot → size ≡ granules → lasts ≡ lasts_after no_lasts (take place slots)
    → slice_get (events_named naming granules slots) place ≡ Some (told_slot naming size lasts slot)
told-at naming granules size lasts slots place slot is size_is lasts_are =
    named_from-get naming granules no_lasts slots place slot is ∙ (λ i. Some (told_slot naming (sym size_is i) (sym lasts_are i) slot))

-- ---- returns stay returns

return_count-renamed : (names : List ℕ) (granules : ℕ) (last : Option FunctionId) (moment : Moment)
    → return_count (renamed_moment names granules last moment) ≡ return_count moment
return_count-renamed names granules last (Call command) = refl
return_count-renamed names granules last (Commit given) = refl
return_count-renamed names granules last (Return given) = refl

returns_here : ℕ → Happened → ℕ
returns_here cpu slot = if slot.cpu == cpu then return_count slot.moment else 0

returns_here-named : (cpu : ℕ) (naming : Naming) (granules : ℕ) (last : Option FunctionId) (slot : Happened)
    → returns_here cpu (named_slot naming granules last slot) ≡ returns_here cpu slot
unfolding returns_here
returns_here-named cpu AsRecorded granules last slot = refl
returns_here-named cpu (ByNames names) granules last slot =
    ap (λ n. if slot.cpu == cpu then n else 0) (return_count-renamed names granules last slot.moment)

returns_in-named_from : (cpu : ℕ) (naming : Naming) (granules : ℕ) (lasts : ℕ → Option FunctionId) (slots : List Happened)
    → returns_in cpu (named_from naming granules lasts slots) ≡ returns_in cpu slots
unfolding returns_here
returns_in-named_from cpu naming granules lasts [] = refl
returns_in-named_from cpu naming granules lasts (slot ∷ slots) =
    λ i. returns_here-named cpu naming granules (lasts slot.cpu) slot i
    + returns_in-named_from cpu naming granules (lasts_with lasts slot) slots i

pub AreReturns-named : (returns : List ℕ) (naming : Naming) (granules : ℕ) (slots : List Happened) → AreReturns returns slots
    → AreReturns returns (events_named naming granules slots)
AreReturns-named returns naming granules slots are = record {
  counted = are.counted;
  each = λ cpu few. are.each cpu few ∙ sym (returns_in-named_from cpu naming granules no_lasts slots);
}

-- ---- one moment further

pub lasts_after-next : (slots : List Happened) (place : ℕ) (slot : Happened) → slice_get slots place ≡ Some slot
    → lasts_after no_lasts (take (place + 1) slots) ≡ lasts_with (lasts_after no_lasts (take place slots)) slot
lasts_after-next slots place slot is =
    ap (lasts_after no_lasts) (take-next_at slots place slot is) ∙ lasts_after-push no_lasts (take place slots) slot

pub names_of-next : (memory : ℕ) (slots : List Happened) (place : ℕ) (slot : Happened) → slice_get slots place ≡ Some slot
    → names_of memory (take (place + 1) slots)
    ≡ names_from (names_of memory (take place slots)) (moment_addresses memory (lasts_after no_lasts (take place slots) slot.cpu) slot.moment)
names_of-next memory slots place slot is = ap (names_of memory) (take-next_at slots place slot is) ∙ names_of-push memory (take place slots) slot

pub HasTooMany-next : (limits : Limits) (slots : List Happened) (place : ℕ) (slot : Happened) (line : ℕ) → slice_get slots place ≡ Some slot
    → line ≡ slot.line → length (names_of limits.memory (take place slots)) ≤ limits.most
    → limits.most < length (names_from (names_of limits.memory (take place slots))
    (moment_addresses limits.memory (lasts_after no_lasts (take place slots) slot.cpu) slot.moment))
    → HasTooMany limits slots line
HasTooMany-next limits slots place slot line is is_line fit too_many = record {
  before = take place slots;
  slot = slot;
  later = drop (place + 1) slots;
  are_slots = cut_at slots place slot is;
  is_line = is_line;
  fit = fit;
  too_many = subst (λ ns. limits.most < length ns) (sym (names_of-push limits.memory (take place slots) slot)) too_many;
}

pub IsUnnamed-next : (limits : Limits) (slots : List Happened) (place : ℕ) (slot : Happened) (names : List ℕ) (lasts : ℕ → Option FunctionId)
    (given : NamingFault) → slice_get slots place ≡ Some slot → names ≡ names_of limits.memory (take place slots) → length names ≤ limits.most
    → lasts ≡ lasts_after no_lasts (take place slots) → IsUnnamedNext limits names lasts slot given → IsUnnamed limits slots given
IsUnnamed-next limits slots place slot names lasts (fault.TooMany line) is are few functions next =
    HasTooMany-next limits slots place slot line is next.0 (subst (λ ns. length ns ≤ limits.most) are few)
    (subst (λ ls. limits.most
    < length (names_from (names_of limits.memory (take place slots)) (moment_addresses limits.memory (ls slot.cpu) slot.moment))) functions
    (subst (λ ns. limits.most < length (names_from ns (moment_addresses limits.memory (lasts slot.cpu) slot.moment))) are next.1))
IsUnnamed-next limits slots place slot names lasts fault.NoMemory is are few functions next =
    let within = slice_get_within slots place slot is in
    let some : 0 < length slots = omega (arith, within) in some

-- what is made of a text
pub IsMergedText-merged : (text : List ℕ) (table : Table) (asked : Asked) (config : Config) (naming : Naming) (run : Merge) → IsTableOf text table
    → naming ≡ naming_asked asked (known_front table.slots) → config ≡ config_asked naming table asked
    → run ≡ record { config = config; naming = naming; events = events_named naming config.granules (known_front table.slots) }
    → IsRun config.cpus starts (events_named naming config.granules (known_front table.slots))
    → (asked.extent ≡ Whole → length (known_front table.slots) ≡ length table.slots) → IsMergedText text asked run
IsMergedText-merged text table asked config naming run of_text naming_is config_is run_is is_run whole =
    subst (IsMergedText text asked) (sym run_is) (record {
      table = table;
      is_table = of_text;
      is_naming = naming_is;
      is_config = config_is;
      are_events = refl;
      is_run = is_run;
      whole = λ all. length-named_from naming config.granules no_lasts (known_front table.slots) ∙ whole all;
    })
