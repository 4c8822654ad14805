-- The opening world: its cells stand for the opening state, and are well shaped.
use Rattle.std.proofs.Common.{◌≡◌, ℕ, zero, suc, ◌*◌, ◌/◌, false, None, refl, sym, ap}
use Rattle.std.proofs.lemmas.Option.{none-some}
use Rattle.std.specs.Prelude.{option_map}
use Rattle.std.specs.Option.{option_and_then}
use Rattle.std.proofs.lemmas.Bool.{false≢true}
use Rattle.rmm_spec.specs.declared.command.Command.{Command}
use Rattle.std.specs.Prelude.{List}
use Rattle.rmm_spec.specs.HistoryText.{Config}
use Rattle.rmm_spec.specs.State.{opening}
use Rattle.rmm_spec.specs.Cell.{Undelegated}
use Rattle.rmm_spec.specs.Flat.{flat_state, table_granule, leaf_in_tables, found_below}
use Rattle.rmm_spec.specs.Shape.{RunsOn, count_below}
use Rattle.rmm_spec.specs.World.{opening_world, IsShapedWorld}
use Rattle.spec_lemmas.proofs.Placed.{outside≢inside}

-- nothing is found where nothing passes
found_below-none : (n : ℕ) → found_below n (λ k. false) ≡ None
found_below-none zero = refl
found_below-none (suc n) = found_below-none n

count_below-none : (n : ℕ) → count_below n (λ k. false) ≡ 0
count_below-none zero = refl
count_below-none (suc n) = count_below-none n

-- where there are no tables, none is found
table_granule-none : (granules rd level number : ℕ) → table_granule granules (λ _. None) rd level number ≡ None
unfolding table_granule
table_granule-none granules rd level number = ap (option_map (λ k. k * 4096)) (found_below-none granules)

-- nor any leaf
leaf_in_tables-none : (granules rd level number : ℕ) → leaf_in_tables granules (λ _. None) rd level number ≡ None
unfolding leaf_in_tables
leaf_in_tables-none granules rd level number =
    ap (option_and_then (λ (granule : ℕ). None)) (table_granule-none granules rd level (number / 512))

pub flat_state-opening : (config : Config) → flat_state config (λ _. Undelegated) ≡ opening config
unfolding flat_state opening
flat_state-opening config = λ i. record (opening config) {
  table = λ rd level number. table_granule-none config.granules rd level number i;
  leaf = λ rd level number. leaf_in_tables-none config.granules rd level number i;
}

-- no REC runs where there is none
none_runs : (cpu rec rd : ℕ) → RunsOn (λ _. None) cpu rec rd → ⊥
none_runs cpu rec rd runs = none-some runs.it runs.is_rec

pub IsShapedWorld-opening : (config : Config) (programs : ℕ → List Command) → IsShapedWorld (opening_world config programs)
unfolding opening_world
IsShapedWorld-opening config programs = record {
  realms = record {
    spaces = λ rd realm is. absurd (none-some realm is);
    measured = λ rd realm is. absurd (none-some realm is);
    listed = λ rd realm is. absurd (none-some realm is);
    used = λ vmid rd is. absurd (none-some rd is);
    counted = λ rd. sym (count_below-none config.granules);
  };
  tables = record {
    roots = λ rd realm is. absurd (none-some realm is);
    placed = λ g t is. absurd (none-some t is);
    whole = λ g t is. absurd (none-some t is);
    parents = λ g above t realm is of_realm suc_level below. absurd (none-some t is);
    links = λ g i child t is link. absurd (none-some t is);
    apart = λ g h t is other. absurd (none-some t is);
    kinds = λ g i t realm e is of_realm entry. absurd (none-some t is);
  };
  data_granules = record {
    named = λ g i page t ripas is entry. absurd (none-some t is);
    apart = λ g h i j page t u ripas other is of_other entry other_entry. absurd (none-some t is);
  };
  recs = record {
    owned = λ g c is. absurd (none-some c is);
    aux0 = λ g c is. absurd (none-some c is);
    aux1 = λ g c is. absurd (none-some c is);
    two = λ g c is. absurd (none-some c is);
    apart = λ g h x is other. absurd (false≢true is);
    requests = λ g c realm q is of_realm asked. absurd (none-some c is);
    running = λ g c p is pending. absurd (none-some c is);
    asked = λ g c is pending. absurd (none-some c is);
    inside = λ cpu rec rd. (λ is. absurd (outside≢inside rec rd is), λ runs. absurd (none_runs cpu rec rd runs));
  };
  outside = record { undelegated = λ address is. refl };
}
