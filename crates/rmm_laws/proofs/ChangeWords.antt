-- What each kind of change is, told without the state: the maps that it touches, the claims that it opens and closes,
-- and the root or REC that it makes.
use Rattle.rmm_laws.proofs.Common.{◌&&◌, ◌==◌, ◌∷◌, Bool, Change, Claim, Delegated, List, None, Option, Rd, RealmDestroyed, RecDestroyed, Rtt, Some, Tag, TagChange, [], claim, if◌then◌else◌, true, ℕ}
use Rattle.rmm_spec.specs.declared.change.Change.TheVariants.{Unchanged, Retagged, RealmMade, RecMade, RecordsChanged, TableMade, TableDestroyed, EntriesChanged}
use Rattle.rmm_spec.specs.declared.tag.Tag.TheVariants.{Data}
use Rattle.rmm_spec.specs.Function.{Part, Tags, Realms, Recs, Tables, Leaves}
use Rattle.rmm_spec.specs.Footprint.{is_listed}
use Rattle.rmm_spec.specs.Ownership.{RecParts, rec_claims}

-- whether the part is listed, where something is changed in it
abbrev pub is_listed_for : {A : Type 0} → Option A → Part → List Part → Bool
is_listed_for None part parts = true
is_listed_for (Some x) part parts = is_listed part parts

-- whether each map that the change touches is listed
abbrev pub is_within : Change → List Part → Bool
is_within Unchanged parts = true
is_within (Retagged change) parts = is_listed Tags parts
is_within (RealmMade rd root width level vmid algo) parts =
    is_listed Tags parts && (is_listed Realms parts && (is_listed Tables parts && is_listed Leaves parts))
is_within (RealmDestroyed rd root) parts = is_listed Tags parts && (is_listed Realms parts && (is_listed Tables parts && is_listed Leaves parts))
is_within (RecMade rd rec mpidr flags aux0 aux1) parts = is_listed Tags parts && (is_listed Realms parts && is_listed Recs parts)
is_within (RecDestroyed rec aux0 aux1) parts = is_listed Tags parts && is_listed Recs parts
is_within (RecordsChanged realm rec) parts = is_listed_for realm Realms parts && is_listed_for rec Recs parts
is_within (TableMade rd level number rtt entry) parts = is_listed Tags parts && (is_listed Tables parts && is_listed Leaves parts)
is_within (TableDestroyed rd level number rtt entry) parts = is_listed Tags parts && (is_listed Tables parts && is_listed Leaves parts)
is_within (EntriesChanged rd level entries page realm rec) parts =
    is_listed Leaves parts && (is_listed_for page Tags parts && (is_listed_for realm Realms parts && is_listed_for rec Recs parts))

-- the claim of a page that is given to the realm
abbrev pub page_opened : ℕ → ℕ → Tag → List Claim
page_opened rd granule Data = claim granule Data rd ∷ []
page_opened rd granule _ = []

-- the claim of a page that is taken from the realm
abbrev pub page_closed : ℕ → ℕ → Tag → List Claim
page_closed rd granule Delegated = claim granule Data rd ∷ []
page_closed rd granule _ = []

-- a page's claims, where a page is given or taken
abbrev pub of_page : (ℕ → Tag → List Claim) → Option TagChange → List Claim
of_page made None = []
of_page made (Some page) = made page.granule page.tag

-- the claims that a change opens
abbrev pub opened : Change → List Claim
opened (RealmMade rd root width level vmid algo) = claim rd Rd rd ∷ claim root Rtt rd ∷ []
opened (RecMade rd rec mpidr flags aux0 aux1) = rec_claims rec (record { rd = rd; aux0 = aux0; aux1 = aux1 })
opened (TableMade rd level number rtt entry) = claim rtt Rtt rd ∷ []
opened (EntriesChanged rd level entries page realm rec) = of_page (page_opened rd) page
opened _ = []

-- the claims that a change closes, where a realm's root and a REC's parts are these
abbrev pub closed : (ℕ → ℕ) → (ℕ → RecParts) → Change → List Claim
closed roots recs (RealmDestroyed rd root) = claim rd Rd rd ∷ claim (roots rd) Rtt rd ∷ []
closed roots recs (RecDestroyed rec aux0 aux1) = rec_claims rec (recs rec)
closed roots recs (TableDestroyed rd level number rtt entry) = claim rtt Rtt rd ∷ []
closed roots recs (EntriesChanged rd level entries page realm rec) = of_page (page_closed rd) page
closed roots recs _ = []

-- the root of the realm, where the change makes it
abbrev pub root_of : ℕ → Change → Option ℕ
root_of rd (RealmMade other root width level vmid algo) = if other == rd then Some root else None
root_of rd _ = None

-- the parts of the REC, where the change makes it
abbrev pub rec_of : ℕ → Change → Option RecParts
rec_of rec (RecMade rd other mpidr flags aux0 aux1) = if other == rec then Some (record { rd = rd; aux0 = aux0; aux1 = aux1 }) else None
rec_of rec _ = None
