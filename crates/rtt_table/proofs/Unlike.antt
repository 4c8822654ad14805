-- Whether an entry is unassigned as another is, told by its kind, and always answered no of a live one.
use Rattle.std.proofs.Common.{◌≡◌, ℕ, Bool, true, false, ◌||◌, List, [], ◌∷◌, map, refl, sym, ap, ◌∙◌}
use Rattle.std.specs.List.{list_any}
use Rattle.std.proofs.lemmas.Bool.{false≢true, or_right}
use Rattle.rmm_spec.specs.declared.entry.Entry.{Entry}
use Rattle.rmm_spec.specs.declared.entry.Entry.TheVariants.{Unassigned, UnassignedNs}
use Rattle.rmm_spec.specs.Walk.{is_live, is_unlike, entry_address}
use Rattle.rtt_table.specs.declared.kind.Kind.{Kind}
use Rattle.rtt_table.specs.declared.kind.Kind.TheVariants.{UnassignedEmpty}
use Rattle.rtt_table.specs.Columns.{kind_of, entry_from, AreColumns}
use Rattle.rtt_table.proofs.Joined.{entry_back}

-- the address doesn't count
unlike-kind : (first : Entry) (address : ℕ) (kind : Kind) → is_unlike first (entry_from kind 0) ≡ is_unlike first (entry_from kind address)
unlike-kind (Unassigned ripas) address UnassignedEmpty = refl
unlike-kind (Unassigned ripas) address _ = refl
unlike-kind UnassignedNs address UnassignedEmpty = refl
unlike-kind UnassignedNs address _ = refl
unlike-kind _ address kind = refl

unlike-kinds : (first : Entry) (entries : List Entry)
    → list_any (λ kind. is_unlike first (entry_from kind 0)) (map kind_of entries) ≡ list_any (is_unlike first) entries
unlike-kinds first [] = refl
unlike-kinds first (e ∷ entries) =
    let here = unlike-kind first (entry_address e) (kind_of e) ∙ ap (is_unlike first) (entry_back e) in
    let rest = unlike-kinds first entries in
    λ i. here i || rest i

-- a search through the kinds is one through the entries
pub any-unlike : (first : Entry) (entries : List Entry) (kinds : List Kind) (addresses : List ℕ) → AreColumns entries kinds addresses
    → list_any (λ kind. is_unlike first (entry_from kind 0)) kinds ≡ list_any (is_unlike first) entries
any-unlike first entries kinds addresses columns =
    ap (list_any (λ kind. is_unlike first (entry_from kind 0))) columns.of_kinds ∙ unlike-kinds first entries

-- a live entry isn't unassigned as any other is
live-unlike : (first e : Entry) → (is_live e || is_unlike first e) ≡ is_unlike first e
live-unlike (Unassigned ripas) (Unassigned other) = refl
live-unlike (Unassigned ripas) _ = refl
live-unlike UnassignedNs UnassignedNs = refl
live-unlike UnassignedNs _ = refl
live-unlike _ e = or_right (is_live e) true refl

-- so where a live one is found, one that is looked for is
pub live-any : (first : Entry) (entries : List Entry)
    → (list_any is_live entries || list_any (is_unlike first) entries) ≡ list_any (is_unlike first) entries
live-any first [] = refl
live-any first (e ∷ entries) =
    by (is_live e) (list_any is_live entries) (is_unlike first e) (list_any (is_unlike first) entries) (live-unlike first e) (live-any first entries)
  where
    by : (a b c d : Bool) → (a || c) ≡ c → (b || d) ≡ d → ((a || b) || (c || d)) ≡ (c || d)
    by true b true d one other = refl
    by true b false d one other = absurd (false≢true (sym one))
    by false true true d one other = refl
    by false false true d one other = refl
    by false true false d one other = other
    by false false false d one other = refl
