-- A granule is lent, or taken back: the one kind of change that no view but the tags sees.
use Rattle.std.proofs.Common.{◌≡◌, ℕ, Bool, true, false, ◌==◌, if◌then◌else◌, List, [], None, Ok, refl, sym, ap, ◌∙◌, subst}
use Rattle.std.specs.Prelude.{Contains}
use Rattle.std.proofs.lemmas.Bool.{false≢true, and_from, eq-eqb}
use Rattle.rmm_spec.specs.HistoryText.{Config}
use Rattle.rmm_spec.specs.declared.call.Call.TheVariants.{GranuleDelegate, GranuleUndelegate}
use Rattle.rmm_spec.specs.declared.change.Change.TheVariants.{Retagged}
use Rattle.rmm_spec.specs.declared.command.Command.{Command}
use Rattle.rmm_spec.specs.declared.tag.Tag.TheVariants as tag
use Rattle.rmm_spec.specs.Call.{ByHost, call_of, class_of}
use Rattle.rmm_spec.specs.Change.{changed}
use Rattle.rmm_spec.specs.State.{State}
use Rattle.rmm_spec.specs.Update.{with_tag}
use Rattle.rmm_spec.specs.Lookup.{has_tag, tag_number, is_granule}
use Rattle.rmm_spec.specs.Rows.{ok, done}
use Rattle.rmm_spec.specs.Step.{Step, CarriesOut, answer_of, outcome}
use Rattle.rmm_spec.specs.Step.Granule.{granule_delegate, granule_undelegate}
use Rattle.rmm_spec.specs.Step.Terms.{words_of, named}
use Rattle.rmm_spec.specs.Cell.{Cell, Undelegated, Delegated, put, tag_of, realm_in, rec_in, table_in, is_aux, is_data, realms_of, recs_of, tables_of, auxes_of, datas_of}
use Rattle.rmm_spec.specs.Flat.{flat_state, table_granule, leaf_in_tables}
use Rattle.rmm_spec.specs.Shape.{Side, CpuPlace, Outside, AreRealmCells, AreTableCells, AreDataCells, AreRecCells, IsWellShaped}
use Rattle.rmm_spec.specs.Local.{HeldCell, Hold, granules_held, LocalStep}
use Rattle.world_laws.specs.Replaced.{held_at, replaced}
use Rattle.spec_lemmas.proofs.Maps.{put_elim}
use Rattle.spec_lemmas.proofs.Members.{Contains-map}
use Rattle.world_laws.proofs.Locals.{agrees-at, one_cell-is_local}
use Rattle.world_laws.proofs.Refusals.{outcome-host}

-- a cell of which no view but the tags sees anything
pub record IsBlank (c : Cell) : Type 0 where
  pub realm : realm_in c ≡ None
  pub rec : rec_in c ≡ None
  pub table : table_in c ≡ None
  pub aux : is_aux c ≡ false
  pub page : is_data c ≡ false

pub IsBlank-Undelegated : IsBlank Undelegated
IsBlank-Undelegated = record { realm = refl; rec = refl; table = refl; aux = refl; page = refl }

pub IsBlank-Delegated : IsBlank Delegated
IsBlank-Delegated = record { realm = refl; rec = refl; table = refl; aux = refl; page = refl }

-- what a view sees of a whole
abbrev seen : {A : Type 0} → (Cell → A) → (ℕ → Cell) → ℕ → A
seen view cells address = view (cells address)

-- a view that sees nothing of the cell before and after is the same
view-kept : {A : Type 0} (view : Cell → A) (cells : ℕ → Cell) (granule : ℕ) (c : Cell) (nothing : A)
    → view (cells granule) ≡ nothing → view c ≡ nothing
    → seen view (put cells granule c) ≡ seen view cells
view-kept {A} view cells granule c nothing before after = λ i address. each address i
  where
    each : (address : ℕ) → view (put cells granule c address) ≡ view (cells address)
    each address = put_elim (λ (v : Cell). view v ≡ view (cells address)) cells granule c address
        (λ same. after ∙ (sym before ∙ ap (λ g. view (cells g)) (sym same))) (λ apart. refl)

pub record ViewsKept (cells : ℕ → Cell) (granule : ℕ) (c : Cell) : Type 0 where
  pub realms : realms_of (put cells granule c) ≡ realms_of cells
  pub recs : recs_of (put cells granule c) ≡ recs_of cells
  pub tables : tables_of (put cells granule c) ≡ tables_of cells
  pub auxes : auxes_of (put cells granule c) ≡ auxes_of cells
  pub datas : datas_of (put cells granule c) ≡ datas_of cells

ViewsKept-blank : (cells : ℕ → Cell) (granule : ℕ) (c : Cell) → IsBlank (cells granule) → IsBlank c → ViewsKept cells granule c
ViewsKept-blank cells granule c before after = record {
  realms = view-kept realm_in cells granule c None before.realm after.realm;
  recs = view-kept rec_in cells granule c None before.rec after.rec;
  tables = view-kept table_in cells granule c None before.table after.table;
  auxes = view-kept is_aux cells granule c false before.aux after.aux;
  datas = view-kept is_data cells granule c false before.page after.page;
}

-- a blank cell in place of another keeps wholes well shaped
pub IsWellShaped-retagged : (config : Config) (side : Side) (places : ℕ → CpuPlace) (cells : ℕ → Cell) (granule : ℕ) (c : Cell)
    → is_granule config.granules granule ≡ true → IsBlank (cells granule) → IsBlank c → IsWellShaped config side places cells
    → IsWellShaped config side places (put cells granule c)
IsWellShaped-retagged config side places cells granule c is_lock before after shaped =
    let kept = ViewsKept-blank cells granule c before after in
    let new = put cells granule c in
    record {
      realms = subst (λ realms. AreRealmCells config.granules side realms (recs_of new)) (sym kept.realms)
          (subst (λ recs. AreRealmCells config.granules side (realms_of cells) recs) (sym kept.recs) shaped.realms);
      tables = subst (λ realms. AreTableCells realms (tables_of new)) (sym kept.realms)
          (subst (λ tables. AreTableCells (realms_of cells) tables) (sym kept.tables) shaped.tables);
      data_granules = subst (λ tables. AreDataCells tables (datas_of new)) (sym kept.tables)
          (subst (λ datas. AreDataCells (tables_of cells) datas) (sym kept.datas) shaped.data_granules);
      recs = subst (λ realms. AreRecCells places realms (recs_of new) (auxes_of new)) (sym kept.realms)
          (subst (λ recs. AreRecCells places (realms_of cells) recs (auxes_of new)) (sym kept.recs)
          (subst (λ auxes. AreRecCells places (realms_of cells) (recs_of cells) auxes) (sym kept.auxes) shaped.recs));
      outside = record {
        undelegated = λ address outside. put_elim (λ v. v ≡ Undelegated) cells granule c address
            (λ same. absurd (false≢true (sym outside ∙ (ap (is_granule config.granules) same ∙ is_lock))))
            (λ apart. shaped.outside.undelegated address outside);
      };
    }

-- and changes the tag alone
pub flat_state-retagged : (config : Config) (cells : ℕ → Cell) (granule : ℕ) (c : Cell) → IsBlank (cells granule) → IsBlank c
    → flat_state config (put cells granule c) ≡ with_tag (flat_state config cells) granule (tag_of c)
unfolding flat_state
flat_state-retagged config cells granule c before after =
    let kept = ViewsKept-blank cells granule c before after in
    λ i. record {
      config = config;
      tag = λ address. tags address (address == granule) i;
      realm = kept.realms i;
      rec = kept.recs i;
      table = table_granule config.granules (kept.tables i);
      leaf = leaf_in_tables config.granules (kept.tables i);
    }
  where
    tags : (address : ℕ) (b : Bool) → tag_of (if b then c else cells address) ≡ (if b then tag_of c else tag_of (cells address))
    tags address true = refl
    tags address false = refl

-- ---- the two commands

has_tag-cell : (config : Config) (cells : ℕ → Cell) (granule : ℕ) (c : Cell) → is_granule config.granules granule ≡ true → cells granule ≡ c
    → has_tag (flat_state config cells) granule (tag_of c) ≡ true
unfolding has_tag flat_state
has_tag-cell config cells granule c is_lock is =
    and_from (is_granule config.granules granule) (tag_number (tag_of (cells granule)) == tag_number (tag_of c)) is_lock
    (eq-eqb (tag_number (tag_of (cells granule))) (tag_number (tag_of c)) (ap (λ (v : Cell). tag_number (tag_of v)) is))

answer_of-delegate : (s : State) (cpu granule : ℕ) → has_tag s granule tag.Undelegated ≡ true
    → answer_of s cpu (GranuleDelegate granule) ≡ Ok (done [] (Retagged (record { granule = granule; tag = tag.Delegated })))
unfolding answer_of granule_delegate words_of named
answer_of-delegate s cpu granule has = rw has refl

answer_of-undelegate : (s : State) (cpu granule : ℕ) → has_tag s granule tag.Delegated ≡ true
    → answer_of s cpu (GranuleUndelegate granule) ≡ Ok (done [] (Retagged (record { granule = granule; tag = tag.Undelegated })))
unfolding answer_of granule_undelegate words_of named
answer_of-undelegate s cpu granule has = rw has refl

-- what is accepted as a retag gives no words, and the tag changes
Step-retagged : (config : Config) (cells : ℕ → Cell) (cpu : ℕ) (command : Command) (granule : ℕ) (c : Cell) → IsBlank (cells granule) → IsBlank c
    → outcome (flat_state config cells) cpu (call_of command) ≡ Ok (done [] (Retagged (record { granule = granule; tag = tag_of c })))
    → Step (flat_state config cells) cpu command (ok []) (flat_state config (put cells granule c))
unfolding changed
Step-retagged config cells cpu command granule c before after is =
    subst (λ o. CarriesOut o (flat_state config cells) (ok []) (flat_state config (put cells granule c))) (sym is)
    (refl, flat_state-retagged config cells granule c before after)

class_of-delegate : (granule : ℕ) → class_of (GranuleDelegate granule) ≡ ByHost
unfolding class_of
class_of-delegate granule = refl

class_of-undelegate : (granule : ℕ) → class_of (GranuleUndelegate granule) ≡ ByHost
unfolding class_of
class_of-undelegate granule = refl

granule_held : (held : List HeldCell) (granule : ℕ) (cell : Cell) → Contains held (held_at granule cell) → Contains (granules_held held) granule
granule_held held granule cell has = Contains-map (λ (h : HeldCell). h.granule) held (held_at granule cell) has

pub delegate-is_local : (config : Config) (cpu granule : ℕ) (command : Command) (hold : Hold)
    → call_of command ≡ GranuleDelegate granule → hold.place ≡ Outside
    → is_granule config.granules granule ≡ true → Contains hold.cells (held_at granule Undelegated)
    → LocalStep config cpu command (ok []) hold (replaced hold granule Delegated)
delegate-is_local config cpu granule command hold is_call outside is_lock has =
    one_cell-is_local config cpu command (ok []) hold granule Delegated (granule_held hold.cells granule Undelegated has)
    (λ cells places shaped agrees place.
    let there : cells granule ≡ Undelegated = agrees-at cells hold.cells (held_at granule Undelegated) agrees has in
    let blank : IsBlank (cells granule) = subst IsBlank (sym there) IsBlank-Undelegated in (
      Step-retagged config cells cpu command granule Delegated blank IsBlank-Delegated
          (ap (outcome (flat_state config cells) cpu) is_call
          ∙ (outcome-host config hold.side places cells shaped cpu (GranuleDelegate granule) (class_of-delegate granule) (place ∙ outside)
          ∙ answer_of-delegate (flat_state config cells) cpu granule (has_tag-cell config cells granule Undelegated is_lock there))),
      IsWellShaped-retagged config hold.side places cells granule Delegated is_lock blank IsBlank-Delegated shaped,
    ))

pub undelegate-is_local : (config : Config) (cpu granule : ℕ) (command : Command) (hold : Hold)
    → call_of command ≡ GranuleUndelegate granule → hold.place ≡ Outside
    → is_granule config.granules granule ≡ true → Contains hold.cells (held_at granule Delegated)
    → LocalStep config cpu command (ok []) hold (replaced hold granule Undelegated)
undelegate-is_local config cpu granule command hold is_call outside is_lock has =
    one_cell-is_local config cpu command (ok []) hold granule Undelegated (granule_held hold.cells granule Delegated has)
    (λ cells places shaped agrees place.
    let there : cells granule ≡ Delegated = agrees-at cells hold.cells (held_at granule Delegated) agrees has in
    let blank : IsBlank (cells granule) = subst IsBlank (sym there) IsBlank-Delegated in (
      Step-retagged config cells cpu command granule Undelegated blank IsBlank-Undelegated
          (ap (outcome (flat_state config cells) cpu) is_call
          ∙ (outcome-host config hold.side places cells shaped cpu (GranuleUndelegate granule) (class_of-undelegate granule) (place ∙ outside)
          ∙ answer_of-undelegate (flat_state config cells) cpu granule (has_tag-cell config cells granule Delegated is_lock there))),
      IsWellShaped-retagged config hold.side places cells granule Undelegated is_lock blank IsBlank-Undelegated shaped,
    ))
