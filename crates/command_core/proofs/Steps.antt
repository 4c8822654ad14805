-- What a CPU does next where what it holds doesn't settle its command: it takes a lock at a rising take, or frees one that it
-- holds. That there is always one of the two rests on no plan: with nothing held, what is wanted is a granule that is named.
use Rattle.command_core.proofs.Common.{◌&&◌, ◌-◌, ◌==◌, ◌||◌, ◌∙◌, ◌∷◌, ◌≡◌, Bool, ByHost, Call, Command, Config, HeldCell, Inside, IsTrue, List, Needed, None, Option, Outside, Rd, Rec, Some, [], and_parts, ap, are_distinct, arith, call_of, cell_in, class_of, eq-eqb, false, false≢true, granules_held, has_wrong, if◌then◌else◌, is_granule, is_held, is_settled, is_some, length, list_all, named, none-some, not, not-true, refl, subst, sym, table_held, true, way_of, way_taken, words_fit, words_of, ℕ}
use Rattle.std.specs.Prelude.{IfSome, Contains, unwrap_or}
use Rattle.std.specs.List.{fold}
use Rattle.std.proofs.lemmas.Bool.{or_parts, not-false}
use Rattle.std.proofs.lemmas.List.Folds.{list_any_at, fold_stays}
use Rattle.std.proofs.lemmas.Option.{same_Some, slice_get-get_or}
use Rattle.rmm_spec.specs.declared.call.Call.TheVariants as call
use Rattle.rmm_spec.specs.declared.tag.Tag.TheVariants as tag
use Rattle.rmm_spec.specs.Call.{Class, ByRealm, ByExit}
use Rattle.rmm_spec.specs.Rows.{all_allowed}
use Rattle.rmm_spec.specs.Step.Terms.{needed}
use Rattle.rmm_spec.specs.Cell.{Cell}
use Rattle.rmm_spec.specs.Shape.{CpuPlace}
use Rattle.rmm_spec.specs.Locks.{is_named, needs, needs_outside, IsRisingTake}
use Rattle.spec_lemmas.proofs.Members.{Contains-from_slice_get}
use Rattle.command_core.proofs.Walked.{taken-way}
use Rattle.command_core.specs.declared.next.Next.{Next}
use Rattle.command_core.specs.declared.next.Next.TheVariants.{Ready}
use Rattle.command_core.specs.Named.{is_less, lesser, least_missing, is_upward, is_downward, holds_all}
use Rattle.world_laws.specs.SeenState.{found_or, first_held, table_behind}
use Rattle.world_laws.specs.Walking.{Way, keeps_realm, is_told, are_told}
use Rattle.command_core.specs.Walks.{Part, way_to_read, way_inside, come_to, is_above, is_realm_spare, spare, wanted}
use Rattle.command_core.specs.Unshaped.{can_learn, has_bad_owner, is_misfit_way, is_misfit, has_misfit_part, is_unshaped_outside}
use Rattle.command_core.specs.Settled.{is_complete, is_all_held, is_read_over, is_settled_outside, is_settled_inside}
use Rattle.command_core.specs.Plan.{IsStep, IsPlanned, is_ready}
use Rattle.command_core.specs.Next.{last_taken, taken, take_named, take_least, take_part, take_root, take_auxes, next_aux, learn_realm, take_realm, next_to_enter, first_named, free_or_take, next_with_parts, next_to_walk, next_on_way, place_names, next_to_read, next_outside, next_inside, next_unsettled, next}
use Rattle.command_core.proofs.Inside.{fitting-granule, fitting-place}
use Rattle.command_core.proofs.Ready.{settled-ready}
use Rattle.world_laws.proofs.Wholes.{held-contains}
use Rattle.command_core.proofs.Rising.{upward-rises, downward-rises}
use Rattle.lemmas.proofs.Members.{Contains-head, Contains-tail}

-- ---- the last taken

-- where something is held, one was taken last
some-last : (h : HeldCell) (held : List HeldCell) → last_taken (h ∷ held) ≡ None → ⊥
some-last h held none =
    none-some _ (sym none ∙ slice_get-get_or (granules_held (h ∷ held)) (length (granules_held (h ∷ held)) - 1) 0 (omega arith))

found-last : (held : List HeldCell) (g : ℕ) (c : Cell) → cell_in g held ≡ Some c → last_taken held ≡ None → ⊥
found-last [] g c found none = none-some c found
found-last (h ∷ held) g c found none = some-last h held none

-- what is taken where that rises, and may be taken where nothing is held, is a step
taken-steps : (config : Config) (c : Call) (place : CpuPlace) (names : List Needed) (held : List HeldCell) (next : ℕ) (may_take : Bool)
    → (may_take ≡ true → IsRisingTake config names held next) → (last_taken held ≡ None → may_take ≡ true)
    → IsStep config c place names held (taken next may_take (last_taken held))
taken-steps config c place names held next may_take rises alone = by may_take refl (last_taken held) refl
  where
    by : (b : Bool) → may_take ≡ b → (last : Option ℕ) → last_taken held ≡ last → IsStep config c place names held (taken next b last)
    by true may last is = rises may
    by false may (Some g) is = Contains-from_slice_get (granules_held held) (length (granules_held held) - 1) g is
    by false may None is = absurd (false≢true (sym may ∙ alone is))

-- ---- by name

-- a granule that is named
record IsOne (granules : ℕ) (names : List Needed) (granule : ℕ) : Type 0 where
  is_lock : is_granule granules granule ≡ true
  is_one : is_named names granule ≡ true

upward-alone : (config : Config) (names : List Needed) (held : List HeldCell) (next : ℕ) → IsOne config.granules names next → last_taken held ≡ None
    → is_upward config names held next ≡ true
unfolding is_upward
upward-alone config names [] next one none = rw (one.is_lock, one.is_one) refl
upward-alone config names (h ∷ held) next one none = absurd (some-last h held none)

-- a granule that is named is taken, or the last is freed
named-steps : (config : Config) (c : Call) (place : CpuPlace) (names : List Needed) (held : List HeldCell) (next : ℕ)
    → IsTrue (are_distinct (granules_held held)) → IsOne config.granules names next
    → IsStep config c place names held (take_named config names held next)
named-steps config c place names held next distinct one =
    taken-steps config c place names held next (is_upward config names held next) (upward-rises config names held next distinct)
    (upward-alone config names held next one)

named-has : (names : List Needed) (n : Needed) → Contains names n → is_named names n.granule ≡ true
named-has names n has =
    list_any_at (λ (m : Needed). m.granule == n.granule) names has.0 n has.1
    (ap (λ (m : Needed). m.granule == n.granule) has.2 ∙ eq-eqb n.granule n.granule refl)

-- the least that is missing is named
least-one : (config : Config) (keeps : Bool) (held : List HeldCell) (all names : List Needed) (best : Option ℕ)
    → ((n : Needed) → Contains names n → is_named all n.granule ≡ true)
    → IfSome best (IsOne config.granules all) → IfSome (fold (lesser config keeps held) best names) (IsOne config.granules all)
least-one config keeps held all [] best each one = one
least-one config keeps held all (n ∷ names) best each one =
    least-one config keeps held all names (lesser config keeps held best n) (λ m has. each m (Contains-tail n names m has))
    (by (is_granule config.granules n.granule && not (is_told keeps held n) && is_less n.granule best) refl)
  where
    by : (b : Bool) → (is_granule config.granules n.granule && not (is_told keeps held n) && is_less n.granule best) ≡ b
        → IfSome (if b then Some n.granule else best) (IsOne config.granules all)
    by true is =
        let parts = and_parts (is_granule config.granules n.granule && not (is_told keeps held n)) (is_less n.granule best) is in
        record {
          is_lock = (and_parts (is_granule config.granules n.granule) (not (is_told keeps held n)) parts.0).0;
          is_one = each n (Contains-head n names);
        }
    by false is = one

-- so is the least that is missing
least-steps : (config : Config) (c : Call) (place : CpuPlace) (names : List Needed) (keeps : Bool) (held : List HeldCell) (other : ℕ)
    → IsTrue (are_distinct (granules_held held)) → IsOne config.granules names other
    → IsStep config c place names held (take_least config keeps names held other)
unfolding least_missing
least-steps config c place names keeps held other distinct one =
    named-steps config c place names held (unwrap_or (least_missing config keeps names held) other) distinct
    (by (least_missing config keeps names held) (least-one config keeps held names names None (named-has names) tt))
  where
    by : (o : Option ℕ) → IfSome o (IsOne config.granules names) → IsOne config.granules names (unwrap_or o other)
    by (Some next) least = least
    by None least = one

-- ---- parts

-- a part of what is held is taken, or the last is freed
part-steps : (config : Config) (c : Call) (place : CpuPlace) (names : List Needed) (held : List HeldCell) (above index next : ℕ) (cell : Cell)
    → IsTrue (are_distinct (granules_held held)) → cell_in above held ≡ Some cell
    → IsStep config c place names held (take_part config names held above index next)
part-steps config c place names held above index next cell distinct found =
    taken-steps config c place names held next (is_downward config names held above index next)
    (downward-rises config names held above index next distinct)
    (λ none. absurd (found-last held above cell found none))

root-steps : (config : Config) (c : Call) (place : CpuPlace) (names : List Needed) (held : List HeldCell) (rd : ℕ)
    → IsTrue (are_distinct (granules_held held))
    → IsOne config.granules names rd → (o : Option Cell) → cell_in rd held ≡ o → IsStep config c place names held (take_root config names held rd o)
root-steps config c place names held rd distinct one (Some (Rd realm)) found =
    part-steps config c place names held rd 0 realm.root (Rd realm) distinct found
root-steps config c place names held rd distinct one _ found = named-steps config c place names held rd distinct one

auxes-steps : (config : Config) (c : Call) (place : CpuPlace) (names : List Needed) (held : List HeldCell) (rec : ℕ)
    → IsTrue (are_distinct (granules_held held))
    → IsOne config.granules names rec → (o : Option Cell)
    → cell_in rec held ≡ o → IsStep config c place names held (take_auxes config names held rec o)
auxes-steps config c place names held rec distinct one (Some (Rec it)) found =
    part-steps config c place names held rec 0 (next_aux it held) (Rec it) distinct found
auxes-steps config c place names held rec distinct one _ found = named-steps config c place names held rec distinct one

-- ---- REC_ENTER

learn-steps : (config : Config) (held : List HeldCell) (rec : ℕ) → IsTrue (are_distinct (granules_held held)) → is_granule config.granules rec ≡ true
    → (o : Option Cell) → cell_in rec held ≡ o → has_bad_owner config rec o ≡ false
    → IsStep config (call.RecEnter rec) Outside (named (call.RecEnter rec)) held (learn_realm config held rec o)
unfolding named
learn-steps config held rec distinct lock (Some (Rec it)) found shaped =
    let can = not-false (can_learn config rec it.owner) shaped in
    let parts = and_parts (is_granule config.granules it.owner) (not (it.owner == rec)) can in
    record {
      rec = it;
      is_held = held-contains held rec (ap (λ (o : Option Cell). is_some o) found);
      is_outside = refl;
      is_enter = refl;
      is_rec = found;
      is_owner = refl;
      is_lock = parts.0;
      is_other = not-true (it.owner == rec) parts.1;
    }
learn-steps config held rec distinct lock _ found shaped =
    named-steps config (call.RecEnter rec) Outside (named (call.RecEnter rec)) held rec distinct
    (record { is_lock = lock; is_one = named-has (needed rec tag.Rec ∷ []) (needed rec tag.Rec) (Contains-head (needed rec tag.Rec) []) })

realm-steps : (config : Config) (held : List HeldCell) (rec rd : ℕ)
    → IsTrue (are_distinct (granules_held held)) → is_granule config.granules rec ≡ true
    → (o : Option Cell) → cell_in rec held ≡ o
    → IsStep config (call.RecEnter rec) Outside (needs_outside (Some rd) (call.RecEnter rec)) held (take_realm config held rec rd o)
unfolding named
realm-steps config held rec rd distinct lock (Some (Rec it)) found =
    let names : List Needed = needed rd tag.Rd ∷ needed rec tag.Rec ∷ [] in
    taken-steps config (call.RecEnter rec) Outside names held rd (rd == it.owner && is_upward config names held rd)
    (λ may. upward-rises config names held rd distinct (and_parts (rd == it.owner) (is_upward config names held rd) may).1)
    (λ none. absurd (found-last held rec (Rec it) found none))
realm-steps config held rec rd distinct lock _ found =
    least-steps config (call.RecEnter rec) Outside (needed rd tag.Rd ∷ needed rec tag.Rec ∷ []) true held rec distinct
    (record {
      is_lock = lock;
      is_one =
          named-has (needed rd tag.Rd ∷ needed rec tag.Rec ∷ []) (needed rec tag.Rec)
          (Contains-tail (needed rd tag.Rd) (needed rec tag.Rec ∷ []) (needed rec tag.Rec) (Contains-head (needed rec tag.Rec) []));
    })

enter-steps : (config : Config) (held : List HeldCell) (rec : ℕ) (learnt : Option ℕ)
    → IsTrue (are_distinct (granules_held held)) → is_granule config.granules rec ≡ true
    → has_bad_owner config rec (cell_in rec held) ≡ false
    → IsStep config (call.RecEnter rec) Outside (needs_outside learnt (call.RecEnter rec)) held
    (next_to_enter config rec (cell_in rec held) held learnt)
enter-steps config held rec None distinct lock shaped = learn-steps config held rec distinct lock (cell_in rec held) refl shaped
enter-steps config held rec (Some rd) distinct lock shaped = realm-steps config held rec rd distinct lock (cell_in rec held) refl

-- ---- outside of RECs

-- the first is named, where one isn't told or held
first-one : (granules : ℕ) (names : List Needed) (p : Needed → Bool) → list_all (λ (n : Needed). is_granule granules n.granule) names ≡ true
    → list_all p names ≡ false → IsOne granules names (first_named names)
first-one granules [] p locks missing = absurd (false≢true (sym missing))
first-one granules (n ∷ names) p locks missing = record {
  is_lock = (and_parts (is_granule granules n.granule) (list_all (λ (m : Needed). is_granule granules m.granule) names) locks).0;
  is_one = named-has (n ∷ names) n (Contains-head n names);
}

only-one : (granules : ℕ) (n : Needed) → list_all (λ (m : Needed). is_granule granules m.granule) (n ∷ []) ≡ true → IsOne granules (n ∷ []) n.granule
only-one granules n locks =
    record { is_lock = (and_parts (is_granule granules n.granule) true locks).0; is_one = named-has (n ∷ []) n (Contains-head n []) }

-- each command by the names that it has without what is learnt
plain-steps : (config : Config) (c : Call) (learnt : Option ℕ) (held : List HeldCell) → IsTrue (are_distinct (granules_held held))
    → list_all (λ (n : Needed). is_granule config.granules n.granule) (named c) ≡ true → is_complete c held ≡ false
    → ((rec : ℕ) → c ≡ call.RecEnter rec → ⊥) → IsStep config c Outside (named c) held (next_with_parts config c learnt held)
unfolding is_complete next_with_parts named holds_all
plain-steps config (call.RecEnter rec) learnt held distinct locks incomplete other = absurd (other rec refl)
plain-steps config (call.RealmDestroy rd) learnt held distinct locks incomplete other =
    root-steps config (call.RealmDestroy rd) Outside (named (call.RealmDestroy rd)) held rd distinct
    (only-one config.granules (needed rd tag.Rd) locks) (cell_in rd held) refl
plain-steps config (call.RecDestroy rec) learnt held distinct locks incomplete other =
    auxes-steps config (call.RecDestroy rec) Outside (named (call.RecDestroy rec)) held rec distinct
    (only-one config.granules (needed rec tag.Rec) locks) (cell_in rec held) refl
plain-steps config c learnt held distinct locks incomplete other =
    least-steps config c Outside (named c) true held (first_named (named c)) distinct
    (first-one config.granules (named c) (λ n. is_held n.granule held) locks incomplete)

-- what is learnt is named by an Enter alone
parts-steps : (config : Config) (c : Call) (learnt : Option ℕ) (held : List HeldCell) → IsTrue (are_distinct (granules_held held))
    → list_all (λ (n : Needed). is_granule config.granules n.granule) (named c) ≡ true → has_misfit_part config c held ≡ false
    → is_complete c held ≡ false → IsStep config c Outside (needs_outside learnt c) held (next_with_parts config c learnt held)
unfolding has_misfit_part next_with_parts named
parts-steps config (call.RecEnter rec) learnt held distinct locks shaped incomplete =
    enter-steps config held rec learnt distinct (and_parts (is_granule config.granules rec) true locks).0 shaped
parts-steps config c None held distinct locks shaped incomplete = plain-steps config c None held distinct locks incomplete (λ rec same. cc)
parts-steps config c (Some rd) held distinct locks shaped incomplete = plain-steps config c (Some rd) held distinct locks incomplete (λ rec same. cc)

-- ---- walks

-- the first that is held and passes is held
first-held : (p : ℕ → Bool) (gs : List ℕ) (g : ℕ) → fold (found_or p) None gs ≡ Some g → Contains gs g
first-held p [] g is = absurd (none-some g is)
first-held p (x ∷ gs) g is = by (p x) is (first-held p gs g)
  where
    by : (b : Bool) → fold (found_or p) (if b then Some x else None) gs ≡ Some g
        → (fold (found_or p) None gs ≡ Some g → Contains gs g) → Contains (x ∷ gs) g
    by true found rest =
        subst (Contains (x ∷ gs)) (same_Some x g (sym (fold_stays (found_or p) (Some x) (λ y. refl) gs) ∙ found)) (Contains-head x gs)
    by false found rest = Contains-tail x gs g (rest found)

-- what the plan frees is held
spare-held : (config : Config) (keeps : Bool) (held : List HeldCell) (w : Way) (g : ℕ)
    → spare config keeps held w ≡ Some g → Contains (granules_held held) g
unfolding spare
spare-held config keeps held w g is = by (is_realm_spare keeps held w.rd) refl is
  where
    by : (b : Bool) → is_realm_spare keeps held w.rd ≡ b
        → (if b then Some w.rd else first_held (λ granule. is_above w.rd (come_to config held w) (table_held held granule)) held) ≡ Some g
        → Contains (granules_held held) g
    by true realm found =
        let parts = and_parts (not keeps) (is_held w.rd held && is_some (table_behind held w.rd)) realm in
        subst (Contains (granules_held held)) (same_Some w.rd g found)
        (held-contains held w.rd (and_parts (is_held w.rd held) (is_some (table_behind held w.rd)) parts.1).0)
    by false kept found = first-held (λ granule. is_above w.rd (come_to config held w) (table_held held granule)) (granules_held held) g found

-- with something held, what is spare is freed, or what is wanted is taken, or the last is freed
way-steps : (config : Config) (c : Call) (place : CpuPlace) (names : List Needed) (held : List HeldCell) (rd : ℕ)
    → IsTrue (are_distinct (granules_held held))
    → (last_taken held ≡ None → ⊥) → (free : Option ℕ) → ((g : ℕ) → free ≡ Some g → Contains (granules_held held) g) → (part : Option Part)
    → IsStep config c place names held (free_or_take config names held rd free part)
way-steps config c place names held rd distinct some (Some g) frees part = frees g refl
way-steps config c place names held rd distinct some None frees None =
    taken-steps config c place names held rd false (λ may. absurd (false≢true may)) (λ none. absurd (some none))
way-steps config c place names held rd distinct some None frees (Some part) =
    taken-steps config c place names held part.next (is_downward config names held part.above part.index part.next)
    (downward-rises config names held part.above part.index part.next distinct) (λ none. absurd (some none))

-- where all that is named is told, something is held
none-told : (c : Call) (w : Way) → way_of c ≡ Some w → are_told c [] ≡ true → ⊥
unfolding way_of are_told keeps_realm named table_behind
none-told (call.RttCreate rd rtt ipa level) w is told = false≢true told
none-told _ w is told = absurd cc

some-told : (c : Call) (w : Way) (held : List HeldCell) → way_of c ≡ Some w → are_told c held ≡ true → last_taken held ≡ None → ⊥
some-told c w [] is told none = none-told c w is told
some-told c w (h ∷ held) is told none = some-last h held none

untold-one : (c : Call) (held : List HeldCell) → are_told c held ≡ false → list_all (is_told (keeps_realm c) held) (named c) ≡ false
unfolding are_told
untold-one c held untold = untold

walk-steps : (config : Config) (c : Call) (w : Way) (held : List HeldCell) → IsTrue (are_distinct (granules_held held)) → way_of c ≡ Some w
    → list_all (λ (n : Needed). is_granule config.granules n.granule) (named c) ≡ true
    → IsStep config c Outside (named c) held (next_to_walk config c held w)
walk-steps config c w held distinct is locks = by (are_told c held) refl
  where
    by : (b : Bool) → are_told c held ≡ b → IsStep config c Outside (named c) held
        (if b then free_or_take config (named c) held w.rd (spare config (keeps_realm c) held w) (wanted config c held w)
        else take_least config (keeps_realm c) (named c) held (first_named (named c)))
    by true told =
        way-steps config c Outside (named c) held w.rd distinct (some-told c w held is told) (spare config (keeps_realm c) held w)
        (spare-held config (keeps_realm c) held w) (wanted config c held w)
    by false untold =
        least-steps config c Outside (named c) (keeps_realm c) held (first_named (named c)) distinct
        (first-one config.granules (named c) (is_told (keeps_realm c) held) locks (untold-one c held untold))

-- a command that walks names nothing that is learnt
needs-walk : (learnt : Option ℕ) (c : Call) (w : Way) → way_of c ≡ Some w → named c ≡ needs_outside learnt c
unfolding way_of
needs-walk None c w is = refl
needs-walk (Some rd) (call.RecEnter rec) w is = absurd (none-some w is)
needs-walk (Some rd) _ w is = refl

outside-steps : (config : Config) (c : Call) (learnt : Option ℕ) (held : List HeldCell) → IsTrue (are_distinct (granules_held held))
    → list_all (λ (n : Needed). is_granule config.granules n.granule) (named c) ≡ true → is_unshaped_outside config c held ≡ false
    → is_all_held config c held (way_taken c) ≡ false → IsStep config c Outside (needs_outside learnt c) held (next_outside config c learnt held)
outside-steps config c learnt held distinct locks shaped incomplete = by (way_taken c) refl incomplete
  where
    by : (o : Option Way) → way_taken c ≡ o → is_all_held config c held o ≡ false
        → IsStep config c Outside (needs_outside learnt c) held (next_on_way config c learnt held o)
    by None is open_yet =
        parts-steps config c learnt held distinct locks
        (or_parts (has_misfit_part config c held) (is_misfit_way config held (way_taken c)) shaped).0 open_yet
    by (Some w) is open_yet =
        subst (λ names. IsStep config c Outside names held (next_to_walk config c held w)) (needs-walk learnt c w (taken-way c w is))
        (walk-steps config c w held distinct (taken-way c w is) locks)

-- ---- inside of a REC

-- a realm's call that walks holds the REC
read-some : (c : Call) (rec rd : ℕ) (held : List HeldCell) (w : Way) → way_inside c rec rd held ≡ Some w → last_taken held ≡ None → ⊥
unfolding way_inside
read-some (call.IpaStateGet ipa) rec rd held w is none = by (cell_in rec held) refl is
  where
    by : (o : Option Cell) → cell_in rec held ≡ o → way_to_read rd ipa o (cell_in rd held) ≡ Some w → ⊥
    by (Some c) found way = found-last held rec c found none
    by None found way = none-some w way
read-some _ rec rd held w is none = none-some w is

inside-steps : (k : Class) (config : Config) (c : Call) (rec rd : ℕ) (held : List HeldCell) → IsTrue (are_distinct (granules_held held))
    → is_settled_inside k config c rec rd held ≡ false
    → IsStep config c (Inside rec rd) (place_names rec rd) held (next_inside k config c rec rd held)
inside-steps k config c rec rd held distinct = by k
  where
    names : List Needed
    names = place_names rec rd

    one : is_misfit config c rec rd held ≡ false → IsOne config.granules names rec
    one fits = record {
      is_lock = fitting-granule config rec rd held (fitting-place config c rec rd held fits);
      is_one = named-has names (needed rec tag.Rec) (Contains-head (needed rec tag.Rec) (needed rd tag.Rd ∷ []));
    }

    reads : IsOne config.granules names rec → (o : Option Way) → way_inside c rec rd held ≡ o
        → IsStep config c (Inside rec rd) names held (next_to_read config c rec rd held o)
    reads first None is = least-steps config c (Inside rec rd) names true held rec distinct first
    reads first (Some w) is =
        way-steps config c (Inside rec rd) names held w.rd distinct (read-some c rec rd held w is) (spare config true held w)
        (spare-held config true held w) (wanted config c held w)

    by : (kind : Class) → is_settled_inside kind config c rec rd held ≡ false
        → IsStep config c (Inside rec rd) names held (next_inside kind config c rec rd held)
    by ByHost open_yet = absurd (false≢true (sym open_yet))
    by ByRealm open_yet =
        reads (one (or_parts (is_misfit config c rec rd held)
        (is_held rec held && is_held rd held && is_read_over config held (way_inside c rec rd held)) open_yet).0)
        (way_inside c rec rd held) refl
    by ByExit open_yet = named-steps config c (Inside rec rd) names held rec distinct
        (one (or_parts (is_misfit config c rec rd held) (is_held rec held) open_yet).0)

-- ---- any command

unsettled-steps : (config : Config) (c : Call) (place : CpuPlace) (learnt : Option ℕ) (held : List HeldCell)
    → IsTrue (are_distinct (granules_held held))
    → is_settled config c place held ≡ false → IsStep config c place (needs place learnt c) held (next_unsettled config c place learnt held)
unfolding is_settled words_fit
unsettled-steps config c Outside learnt held distinct unsettled = by (class_of c) unsettled
  where
    by : (k : Class) → is_settled_outside k config c held ≡ false
        → IsStep config c Outside (needs_outside learnt c) held (next_outside config c learnt held)
    by ByRealm is = absurd (false≢true (sym is))
    by ByExit is = absurd (false≢true (sym is))
    by ByHost is =
        let parts = or_parts (not (words_fit config c) || has_wrong (named c) held || is_unshaped_outside config c held)
        (is_all_held config c held (way_taken c)) is in
        let front = or_parts (not (words_fit config c) || has_wrong (named c) held) (is_unshaped_outside config c held) parts.0 in
        let fit = not-false (words_fit config c) (or_parts (not (words_fit config c)) (has_wrong (named c) held) front.0).0 in
        outside-steps config c learnt held distinct
        (and_parts (all_allowed (words_of c)) (list_all (λ (n : Needed). is_granule config.granules n.granule) (named c)) fit).1 front.1 parts.1
unsettled-steps config c (Inside rec rd) learnt held distinct unsettled = inside-steps (class_of c) config c rec rd held distinct unsettled

-- ---- the next step

step-planned : (config : Config) (command : Command) (place : CpuPlace) (learnt : Option ℕ) (held : List HeldCell) (n : Next)
    → IsStep config (call_of command) place (needs place learnt (call_of command)) held n → IsPlanned config command place learnt held n
step-planned config command place learnt held Ready step = absurd step
step-planned config command place learnt held _ step = step

-- a step isn't ready
step-unready : (config : Config) (c : Call) (place : CpuPlace) (names : List Needed) (held : List HeldCell) (n : Next)
    → IsStep config c place names held n → false ≡ is_ready n
step-unready config c place names held Ready step = absurd step
step-unready config c place names held _ step = refl

-- where a CPU isn't ready, what it does next is a step
pub next-step : (config : Config) (c : Call) (place : CpuPlace) (learnt : Option ℕ) (held : List HeldCell)
    → IsTrue (are_distinct (granules_held held))
    → is_ready (next config c place learnt held) ≡ false → IsStep config c place (needs place learnt c) held (next config c place learnt held)
unfolding next
next-step config c place learnt held distinct = by (is_settled config c place held) refl
  where
    by : (b : Bool) → is_settled config c place held ≡ b → is_ready (if b then Ready else next_unsettled config c place learnt held) ≡ false
        → IsStep config c place (needs place learnt c) held (if b then Ready else next_unsettled config c place learnt held)
    by true settled ready = absurd (false≢true (sym ready))
    by false unsettled _ = unsettled-steps config c place learnt held distinct unsettled

pub next-planned : (config : Config) (command : Command) (place : CpuPlace) (learnt : Option ℕ) (held : List HeldCell)
    → IsTrue (are_distinct (granules_held held)) → IsPlanned config command place learnt held (next config (call_of command) place learnt held)
unfolding next
next-planned config command place learnt held distinct = by (is_settled config (call_of command) place held) refl
  where
    otherwise : Next
    otherwise = next_unsettled config (call_of command) place learnt held

    by : (b : Bool) → is_settled config (call_of command) place held ≡ b → IsPlanned config command place learnt held (if b then Ready else otherwise)
    by true settled = settled-ready config command place held settled
    by false unsettled =
        step-planned config command place learnt held otherwise (unsettled-steps config (call_of command) place learnt held distinct unsettled)

pub next-settled : (config : Config) (c : Call) (place : CpuPlace) (learnt : Option ℕ) (held : List HeldCell)
    → IsTrue (are_distinct (granules_held held)) → is_settled config c place held ≡ is_ready (next config c place learnt held)
unfolding next
next-settled config c place learnt held distinct = by (is_settled config c place held) refl
  where
    by : (b : Bool) → is_settled config c place held ≡ b → b ≡ is_ready (if b then Ready else next_unsettled config c place learnt held)
    by true settled = refl
    by false unsettled =
        step-unready config c place (needs place learnt c) held (next_unsettled config c place learnt held)
        (unsettled-steps config c place learnt held distinct unsettled)
