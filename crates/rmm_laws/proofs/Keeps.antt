-- What stays tied where the maps of a state stay, or is closed.
use Rattle.rmm_laws.proofs.Common.{◌==◌, ◌∙◌, ◌≡◌, ◌⊎◌, Claim, Delegated, List, None, Option, Rd, RealmRecord, Rtt, Some, State, Tag, TagChange, [], ap, claim, eqb-true, inl, inr, is_some, realm_at, rec_at, refl, sym, true, ℕ}
use Rattle.rmm_spec.specs.declared.change.RealmChange.{RealmChange}
use Rattle.rmm_spec.specs.declared.change.RecChange.{RecChange}
use Rattle.rmm_spec.specs.declared.change.RecUpdate.{RecUpdate}
use Rattle.rmm_spec.specs.declared.change.RecUpdate.TheVariants as rec_update
use Rattle.rmm_spec.specs.declared.entry.Entry.{Entry}
use Rattle.rmm_spec.specs.declared.entry.Entry.TheVariants.{Assigned}
use Rattle.rmm_spec.specs.declared.tag.Ripas.{Ripas}
use Rattle.rmm_spec.specs.declared.tag.Tag.TheVariants.{Undelegated, Rec, RecAux, Data}
use Rattle.rmm_spec.specs.Change.{realm_updated, rec_updated, with_realm_change, with_rec_change, with_tag_change}
use Rattle.rmm_spec.specs.State.{RecRecord}
use Rattle.rmm_spec.specs.Ownership.{IsTied}
use Rattle.rmm_laws.proofs.Searches.{rec_at-is}
use Rattle.rmm_laws.proofs.Claims.{IsAmong}
use Rattle.rmm_laws.proofs.Owners.{IsKept}
use Rattle.rmm_laws.proofs.Tests.{kept_unless}

-- a REC of this realm with these auxiliary granules
abbrev pub IsRecLike : RecRecord → Option RecRecord → Type 0
IsRecLike r found = (q : RecRecord) × (found ≡ Some q) × (q.owner ≡ r.owner) × (q.aux0 ≡ r.aux0) × (q.aux1 ≡ r.aux1)

-- the page, whatever its RIPAS
abbrev pub IsPage : ℕ → Option Entry → Type 0
IsPage granule found = (ripas : Ripas) × (found ≡ Some (Assigned ripas granule))

-- the three claims of a REC are closed
abbrev pub IsRecAmong : ℕ → RecRecord → List Claim → Type 0
IsRecAmong rec r closes =
    IsAmong (claim rec Rec r.owner) closes × IsAmong (claim r.aux0 RecAux r.owner) closes × IsAmong (claim r.aux1 RecAux r.owner) closes

-- Each realm, REC, table and page stays, or is closed.
pub record Keeps (s new : State) (closes : List Claim) : Type 0 where
  pub realms : (rd : ℕ) → is_some (s.realm rd) ≡ true → (is_some (new.realm rd) ≡ true) ⊎ IsAmong (claim rd Rd rd) closes
  pub recs : (rec : ℕ) (r : RecRecord) → s.rec rec ≡ Some r → IsRecLike r (new.rec rec) ⊎ IsRecAmong rec r closes
  pub tables : (rd level number granule : ℕ) → s.table rd level number ≡ Some granule
      → (new.table rd level number ≡ Some granule) ⊎ IsAmong (claim granule Rtt rd) closes
  pub pages : (rd level number granule : ℕ) (ripas : Ripas) → s.leaf rd level number ≡ Some (Assigned ripas granule)
      → IsPage granule (new.leaf rd level number) ⊎ IsAmong (claim granule Data rd) closes

-- then each tie stays, or is closed
keeps-tied : (s new : State) (closes : List Claim) → Keeps s new closes → (role : Tag) (granule realm : ℕ) → IsTied role s granule realm
    → IsTied role new granule realm ⊎ IsAmong (claim granule role realm) closes
keeps-tied s new closes k Rd granule realm (here, some) = elim (k.realms realm some) [
  | inl still ↦ inl (here, still)
  | inr gone ↦ inr (rw here gone)
]
keeps-tied s new closes k Rec granule realm (r, is, owner) = elim (k.recs granule r is) [
  | inl still ↦ inl (still.0, still.1, still.2 ∙ owner)
  | inr gone ↦ inr (rw (← owner) gone.0)
]
keeps-tied s new closes k RecAux granule realm (rec, r, is, owner, inl aux) = elim (k.recs rec r is) [
  | inl still ↦ inl (rec, still.0, still.1, still.2 ∙ owner, inl (still.3 ∙ aux))
  | inr gone ↦ inr (rw (← owner, ← aux) gone.1)
]
keeps-tied s new closes k RecAux granule realm (rec, r, is, owner, inr aux) = elim (k.recs rec r is) [
  | inl still ↦ inl (rec, still.0, still.1, still.2 ∙ owner, inr (still.4 ∙ aux))
  | inr gone ↦ inr (rw (← owner, ← aux) gone.2)
]
keeps-tied s new closes k Rtt granule realm (level, number, is) = elim (k.tables realm level number granule is) [
  | inl still ↦ inl (level, number, still)
  | inr gone ↦ inr gone
]
keeps-tied s new closes k Data granule realm (level, number, ripas, is) = elim (k.pages realm level number granule ripas is) [
  | inl still ↦ inl (level, number, still.0, still.1)
  | inr gone ↦ inr gone
]
keeps-tied s new closes k Undelegated granule realm tied = inl tied
keeps-tied s new closes k Delegated granule realm tied = inl tied

pub keeps-kept : (s new : State) (closes : List Claim) → Keeps s new closes → (c : Claim) → IsKept s c → IsKept new c ⊎ IsAmong c closes
keeps-kept s new closes k c tied = keeps-tied s new closes k c.role c.granule c.realm tied

-- where nothing is closed everything stays
pub keeps-all : (s new : State) → Keeps s new [] → (c : Claim) → IsKept s c → IsKept new c
keeps-all s new k c tied = elim (keeps-kept s new [] k c tied) [ inl still ↦ still | inr bad ↦ absurd bad ]

-- ---- maps that stay

pub same-realms : (s : State) (closes : List Claim) (rd : ℕ)
    → is_some (s.realm rd) ≡ true → (is_some (s.realm rd) ≡ true) ⊎ IsAmong (claim rd Rd rd) closes
same-realms s closes rd some = inl some

pub same-recs : (s : State) (closes : List Claim) (rec : ℕ) (r : RecRecord) → s.rec rec ≡ Some r → IsRecLike r (s.rec rec) ⊎ IsRecAmong rec r closes
same-recs s closes rec r is = inl (r, is, refl, refl, refl)

pub same-tables : (s : State) (closes : List Claim) (rd level number granule : ℕ) → s.table rd level number ≡ Some granule
    → (s.table rd level number ≡ Some granule) ⊎ IsAmong (claim granule Rtt rd) closes
same-tables s closes rd level number granule is = inl is

pub same-pages : (s : State) (closes : List Claim) (rd level number granule : ℕ) (ripas : Ripas)
    → s.leaf rd level number ≡ Some (Assigned ripas granule)
    → IsPage granule (s.leaf rd level number) ⊎ IsAmong (claim granule Data rd) closes
same-pages s closes rd level number granule ripas is = inl (ripas, is)

-- ---- tags and records are replaced

-- an update leaves a REC's realm and auxiliary granules
pub rec_updated-like : (update : RecUpdate) (r : RecRecord) → IsRecLike r (Some (rec_updated update r))
unfolding rec_updated
rec_updated-like (rec_update.Entered cpu) r = (_, refl, refl, refl, refl)
rec_updated-like _ r = (_, refl, refl, refl, refl)

tag_change-keeps : (s : State) (change : Option TagChange) → Keeps s (with_tag_change s change) []
tag_change-keeps s None = record { realms = same-realms s []; recs = same-recs s []; tables = same-tables s []; pages = same-pages s [] }
tag_change-keeps s (Some change) = record { realms = same-realms s []; recs = same-recs s []; tables = same-tables s []; pages = same-pages s [] }

realm_change-keeps : (s : State) (change : Option RealmChange) → Keeps s (with_realm_change s change) []
realm_change-keeps s None = record { realms = same-realms s []; recs = same-recs s []; tables = same-tables s []; pages = same-pages s [] }
realm_change-keeps s (Some change) = record {
  realms = λ rd some. kept_unless (λ (found : Option RealmRecord). is_some found ≡ true) (rd == change.rd)
      (Some (realm_updated change.update (realm_at s change.rd))) (s.realm rd) (inl some) (λ _. inl refl);
  recs = same-recs s [];
  tables = same-tables s [];
  pages = same-pages s [];
}

rec_change-keeps : (s : State) (change : Option RecChange) → Keeps s (with_rec_change s change) []
rec_change-keeps s None = record { realms = same-realms s []; recs = same-recs s []; tables = same-tables s []; pages = same-pages s [] }
rec_change-keeps s (Some change) = record {
  realms = same-realms s [];
  recs = λ rec r is. kept_unless (IsRecLike r) (rec == change.rec)
      (Some (rec_updated change.update (rec_at s change.rec))) (s.rec rec) (inl (r, is, refl, refl, refl))
      (λ hit.
      let here : s.rec change.rec ≡ Some r = ap s.rec (sym (eqb-true rec change.rec hit)) ∙ is in
      inl (rw (rec_at-is s change.rec r here) (rec_updated-like change.update r)));
  tables = same-tables s [];
  pages = same-pages s [];
}

-- the state with a page's tag and the records replaced
abbrev pub with_records : State → Option TagChange → Option RealmChange → Option RecChange → State
with_records s page realm rec = with_rec_change (with_realm_change (with_tag_change s page) realm) rec

-- every tie stays
pub records-kept : (s : State) (page : Option TagChange) (realm : Option RealmChange) (rec : Option RecChange) (c : Claim)
    → IsKept s c → IsKept (with_records s page realm rec) c
records-kept s page realm rec c tied =
    let tagged = with_tag_change s page in
    let updated = with_realm_change tagged realm in
    keeps-all updated (with_rec_change updated rec) (rec_change-keeps updated rec) c
    (keeps-all tagged updated (realm_change-keeps tagged realm) c (keeps-all s tagged (tag_change-keeps s page) c tied))

-- records leave the tags, tables and leaves as they are
pub realm_change-rest : (s : State) (change : Option RealmChange)
    → ((with_realm_change s change).tag ≡ s.tag) × ((with_realm_change s change).table ≡ s.table)
    × ((with_realm_change s change).leaf ≡ s.leaf) × ((with_realm_change s change).rec ≡ s.rec)
realm_change-rest s None = (refl, refl, refl, refl)
realm_change-rest s (Some change) = (refl, refl, refl, refl)

pub rec_change-rest : (s : State) (change : Option RecChange)
    → ((with_rec_change s change).tag ≡ s.tag) × ((with_rec_change s change).table ≡ s.table)
    × ((with_rec_change s change).leaf ≡ s.leaf) × ((with_rec_change s change).realm ≡ s.realm)
rec_change-rest s None = (refl, refl, refl, refl)
rec_change-rest s (Some change) = (refl, refl, refl, refl)

pub tag_change-rest : (s : State) (change : Option TagChange)
    → ((with_tag_change s change).table ≡ s.table) × ((with_tag_change s change).leaf ≡ s.leaf)
    × ((with_tag_change s change).realm ≡ s.realm) × ((with_tag_change s change).rec ≡ s.rec)
tag_change-rest s None = (refl, refl, refl, refl)
tag_change-rest s (Some change) = (refl, refl, refl, refl)

pub records-tag : (s : State) (page : Option TagChange) (realm : Option RealmChange) (rec : Option RecChange)
    → (with_records s page realm rec).tag ≡ (with_tag_change s page).tag
records-tag s page realm rec =
    (rec_change-rest (with_realm_change (with_tag_change s page) realm) rec).0 ∙ (realm_change-rest (with_tag_change s page) realm).0

pub records-leaf : (s : State) (page : Option TagChange) (realm : Option RealmChange) (rec : Option RecChange)
    → (with_records s page realm rec).leaf ≡ s.leaf
records-leaf s page realm rec =
    (rec_change-rest (with_realm_change (with_tag_change s page) realm) rec).2
    ∙ (realm_change-rest (with_tag_change s page) realm).2 ∙ (tag_change-rest s page).1
