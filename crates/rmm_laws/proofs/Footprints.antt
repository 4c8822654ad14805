-- A change leaves the maps that it isn't within, and each command's change is within the command's maps.
use Rattle.rmm_laws.proofs.Common.{◌&&◌, ◌∙◌, ◌≡◌, Bool, Change, List, None, Option, RealmDestroyed, RecDestroyed, Some, State, TagChange, and_parts, both_ways, changed, refl, true, ℕ}
use Rattle.rmm_spec.specs.declared.change.Change.TheVariants.{Unchanged, Retagged, RealmMade, RecMade, RecordsChanged, TableMade, TableDestroyed, EntriesChanged}
use Rattle.rmm_spec.specs.declared.change.EntryChange.{EntryChange}
use Rattle.rmm_spec.specs.declared.change.EntryChange.TheVariants.{Replaced, RipasSet}
use Rattle.rmm_spec.specs.declared.change.RealmChange.{RealmChange}
use Rattle.rmm_spec.specs.declared.change.RecChange.{RecChange}
use Rattle.rmm_spec.specs.Change.{with_tag_change, with_realm_change, with_rec_change, with_entry_change}
use Rattle.rmm_spec.specs.Function.{Part, Tags, Realms, Recs, Tables, Leaves}
use Rattle.rmm_spec.specs.Footprint.{is_listed, KeepsOthers}
use Rattle.rmm_laws.proofs.ChangeWords.{is_listed_for, is_within}

-- nothing changes
pub same-keeps : (parts : List Part) (s : State) → KeepsOthers parts s s
same-keeps parts s = record { config = refl; tags = λ _. refl; realms = λ _. refl; recs = λ _. refl; tables = λ _. refl; leaves = λ _. refl }

-- one change after another
then-keeps : (parts : List Part) (a b c : State) → KeepsOthers parts a b → KeepsOthers parts b c → KeepsOthers parts a c
then-keeps parts a b c first second = record {
  config = second.config ∙ first.config;
  tags = λ no. second.tags no ∙ first.tags no;
  realms = λ no. second.realms no ∙ first.realms no;
  recs = λ no. second.recs no ∙ first.recs no;
  tables = λ no. second.tables no ∙ first.tables no;
  leaves = λ no. second.leaves no ∙ first.leaves no;
}

tag_change-keeps_others : (parts : List Part) (s : State) (change : Option TagChange)
    → is_listed_for change Tags parts ≡ true → KeepsOthers parts s (with_tag_change s change)
tag_change-keeps_others parts s None listed = same-keeps parts s
tag_change-keeps_others parts s (Some change) listed =
    record { config = refl; tags = λ no. both_ways listed no; realms = λ _. refl; recs = λ _. refl; tables = λ _. refl; leaves = λ _. refl }

realm_change-keeps_others : (parts : List Part) (s : State) (change : Option RealmChange)
    → is_listed_for change Realms parts ≡ true → KeepsOthers parts s (with_realm_change s change)
realm_change-keeps_others parts s None listed = same-keeps parts s
realm_change-keeps_others parts s (Some change) listed =
    record { config = refl; tags = λ _. refl; realms = λ no. both_ways listed no; recs = λ _. refl; tables = λ _. refl; leaves = λ _. refl }

rec_change-keeps_others : (parts : List Part) (s : State) (change : Option RecChange)
    → is_listed_for change Recs parts ≡ true → KeepsOthers parts s (with_rec_change s change)
rec_change-keeps_others parts s None listed = same-keeps parts s
rec_change-keeps_others parts s (Some change) listed =
    record { config = refl; tags = λ _. refl; realms = λ _. refl; recs = λ no. both_ways listed no; tables = λ _. refl; leaves = λ _. refl }

entry_change-keeps_others : (parts : List Part) (s : State) (rd level : ℕ) (entries : EntryChange)
    → is_listed Leaves parts ≡ true → KeepsOthers parts s (with_entry_change s rd level entries)
entry_change-keeps_others parts s rd level (Replaced number entry) listed =
    record { config = refl; tags = λ _. refl; realms = λ _. refl; recs = λ _. refl; tables = λ _. refl; leaves = λ no. both_ways listed no }
entry_change-keeps_others parts s rd level (RipasSet first last ripas) listed =
    record { config = refl; tags = λ _. refl; realms = λ _. refl; recs = λ _. refl; tables = λ _. refl; leaves = λ no. both_ways listed no }

-- three and four tests that hold
three : (a b c : Bool) → (a && (b && c)) ≡ true → (a ≡ true) × (b ≡ true) × (c ≡ true)
three a b c all = let first = and_parts a (b && c) all in let rest = and_parts b c first.1 in (first.0, rest.0, rest.1)

four : (a b c d : Bool) → (a && (b && (c && d))) ≡ true → (a ≡ true) × (b ≡ true) × (c ≡ true) × (d ≡ true)
four a b c d all = let first = and_parts a (b && (c && d)) all in let rest = three b c d first.1 in (first.0, rest.0, rest.1, rest.2)

-- each kind leaves the maps that it isn't within
pub changed-keeps : (parts : List Part) (s : State) (change : Change) → is_within change parts ≡ true → KeepsOthers parts s (changed s change)
unfolding changed
changed-keeps parts s Unchanged listed = same-keeps parts s
changed-keeps parts s (Retagged change) listed = tag_change-keeps_others parts s (Some change) listed
changed-keeps parts s (RealmMade rd root width level vmid algo) listed =
    let all = four (is_listed Tags parts) (is_listed Realms parts) (is_listed Tables parts) (is_listed Leaves parts) listed in
    record {
      config = refl;
      tags = λ no. both_ways all.0 no;
      realms = λ no. both_ways all.1 no;
      recs = λ _. refl;
      tables = λ no. both_ways all.2 no;
      leaves = λ no. both_ways all.3 no;
    }
changed-keeps parts s (RealmDestroyed rd root) listed =
    let all = four (is_listed Tags parts) (is_listed Realms parts) (is_listed Tables parts) (is_listed Leaves parts) listed in
    record {
      config = refl;
      tags = λ no. both_ways all.0 no;
      realms = λ no. both_ways all.1 no;
      recs = λ _. refl;
      tables = λ no. both_ways all.2 no;
      leaves = λ no. both_ways all.3 no;
    }
changed-keeps parts s (RecMade rd rec mpidr flags aux0 aux1) listed =
    let all = three (is_listed Tags parts) (is_listed Realms parts) (is_listed Recs parts) listed in
    record {
      config = refl;
      tags = λ no. both_ways all.0 no;
      realms = λ no. both_ways all.1 no;
      recs = λ no. both_ways all.2 no;
      tables = λ _. refl;
      leaves = λ _. refl;
    }
changed-keeps parts s (RecDestroyed rec aux0 aux1) listed =
    let all = and_parts (is_listed Tags parts) (is_listed Recs parts) listed in
    record {
      config = refl;
      tags = λ no. both_ways all.0 no;
      realms = λ _. refl;
      recs = λ no. both_ways all.1 no;
      tables = λ _. refl;
      leaves = λ _. refl;
    }
changed-keeps parts s (RecordsChanged realm rec) listed =
    let all = and_parts (is_listed_for realm Realms parts) (is_listed_for rec Recs parts) listed in
    let updated = with_realm_change s realm in
    then-keeps parts s updated (with_rec_change updated rec)
    (realm_change-keeps_others parts s realm all.0) (rec_change-keeps_others parts updated rec all.1)
changed-keeps parts s (TableMade rd level number rtt entry) listed =
    let all = three (is_listed Tags parts) (is_listed Tables parts) (is_listed Leaves parts) listed in
    record {
      config = refl;
      tags = λ no. both_ways all.0 no;
      realms = λ _. refl;
      recs = λ _. refl;
      tables = λ no. both_ways all.1 no;
      leaves = λ no. both_ways all.2 no;
    }
changed-keeps parts s (TableDestroyed rd level number rtt entry) listed =
    let all = three (is_listed Tags parts) (is_listed Tables parts) (is_listed Leaves parts) listed in
    record {
      config = refl;
      tags = λ no. both_ways all.0 no;
      realms = λ _. refl;
      recs = λ _. refl;
      tables = λ no. both_ways all.1 no;
      leaves = λ no. both_ways all.2 no;
    }
changed-keeps parts s (EntriesChanged rd level entries page realm rec) listed =
    let all =
    four (is_listed Leaves parts) (is_listed_for page Tags parts) (is_listed_for realm Realms parts) (is_listed_for rec Recs parts) listed in
    let tagged = with_tag_change s page in
    let updated = with_realm_change tagged realm in
    let recorded = with_rec_change updated rec in
    then-keeps parts s recorded (with_entry_change recorded rd level entries)
    (then-keeps parts s updated recorded
    (then-keeps parts s tagged updated (tag_change-keeps_others parts s page all.1) (realm_change-keeps_others parts tagged realm all.2))
    (rec_change-keeps_others parts updated rec all.3))
    (entry_change-keeps_others parts recorded rd level entries all.0)
