-- How deep an object nests with one member more, and a list with one item more.
use Rattle.std.proofs.Common.{◌≤◌, ℕ, List, [], ◌∷◌, ◌++◌, arith, subst, sym}
use Rattle.std.specs.Ordering.{match_ordering, nat_cmp}
use Rattle.std.specs.Cmp.Lexicographic.{slice_cmp}
use Rattle.std.specs.declared.cmp.Ordering.{Ordering}
use Rattle.std.specs.declared.cmp.Ordering.TheVariants.{Less, Equal, Greater}
use Rattle.serde_json.specs.Data.{Data, Members, depth, items_depth, member, members_depth, no_members, put}
use Rattle.std.specs.Prelude.{map}
use Rattle.std.proofs.lemmas.List.{map_push}
use Rattle.serde_json.specs.View.{items_of, view}
use Rattle.serde_json.specs.declared.value.Value.{Value}

pub members_depth_put : (k : List ℕ) (d : Data) (ms : Members) (n : ℕ) → members_depth ms ≤ n → depth d ≤ n → members_depth (put k d ms) ≤ n
members_depth_put k d no_members n shallow fits = omega arith
members_depth_put k d (member l e ms) n shallow fits = by (slice_cmp nat_cmp k l) (members_depth_put k d ms n (omega arith) fits)
  where
    by : (o : Ordering) → members_depth (put k d ms) ≤ n
        → members_depth (match_ordering o (member k d (member l e ms)) (member l d ms) (member l e (put k d ms))) ≤ n
    by Less rest = omega arith
    by Equal rest = omega arith
    by Greater rest = omega arith

pub items_depth_push : (ds : List Data) (d : Data) (n : ℕ) → items_depth (items_of ds) ≤ n → depth d ≤ n → items_depth (items_of (ds ++ d ∷ [])) ≤ n
items_depth_push [] d n shallow fits = omega arith
items_depth_push (e ∷ ds) d n shallow fits = let rest = items_depth_push ds d n (omega arith) fits in omega (arith, rest)

pub items_depth_pushed : (vs : List Value) (v : Value) (n : ℕ) → items_depth (items_of (map view vs)) ≤ n → depth (view v) ≤ n
    → items_depth (items_of (map view (vs ++ v ∷ []))) ≤ n
items_depth_pushed vs v n shallow fits =
    subst (λ (ds : List Data). items_depth (items_of ds) ≤ n) (sym (map_push view vs v)) (items_depth_push (map view vs) (view v) n shallow fits)
