-- What a call reads and changes that ends a REC or a realm.
use Rattle.verdict_laws.proofs.Common.{◌≡◌, ℕ, ◌*◌, ◌==◌, Bool, true, false, ◌||◌, not, if◌then◌else◌, IsTrue, List, [], ◌∷◌, Option, None, refl, sym, ◌∙◌, ap, subst, eqb-true, eq-eqb, Ok, Err, is_none, unwrap_or, AllByRecursion, ne_eqb, not-true, or_left, or_parts, Accepted, Call, Change, RealmDestroyed, RecDestroyed, Misplaced, Tag, Delegated, Rd, Rec, RecAux, Rtt, changed, State, RealmRecord, RecRecord, IsSound, is_named, has_rec, has_tag, is_inside, is_vmid_used, no_rec, realm_at, rec_at, entry_at, named, words_of, answer_of, outcome, both_ways, behind, tag-has_tag, by_address, outcome-leads, realm_there, rec_there, is_part}
use Rattle.rmm_spec.specs.declared.call.Call.TheVariants as call
use Rattle.rmm_spec.specs.declared.condition.Condition.TheVariants.{OwnOutside}
use Rattle.rmm_spec.specs.Lookup.{any_below, has_vmid, is_owned_by}
use Rattle.rmm_spec.specs.Walk.{has_entry}
use Rattle.rmm_spec.specs.Rows.{done}
use Rattle.rmm_spec.specs.Step.Realm.{realm_destroy_told}
use Rattle.rmm_spec.specs.Step.Rec.{rec_destroy}
use Rattle.rmm_spec.specs.Step.Terms.{class_of}
use Rattle.rmm_spec.specs.Step.{commands}
use Rattle.rmm_laws.proofs.RowLaws.{front-rest}
use Rattle.rmm_laws.proofs.Searches.{none_owned}
use Rattle.verdict_laws.specs.Ending.{frees_vmid, is_ending}
use Rattle.verdict_laws.proofs.Patches.{AreDisjoint, IsWithin, Keeps, Patch, patched}
use Rattle.verdict_laws.proofs.SeparateLooks.{with_recs}
use Rattle.verdict_laws.proofs.Spared.{is_inside-alike, put_rec-runs, runs_on-read}
use Rattle.verdict_laws.proofs.SparedCalls.{idle_elsewhere}

-- ---- what an ending puts

-- granules that are given back wait for use
abbrev put_back : List ℕ → ℕ → Tag → Tag
put_back [] g old = old
put_back (x ∷ more) g old = if g == x then Delegated else put_back more g old

-- whether it is one of them
abbrev is_among : List ℕ → ℕ → Bool
is_among [] g = false
is_among (x ∷ more) g = g == x || is_among more g

-- other granules keep their tags
pub put_back-keeps : (back : List ℕ) → Keeps (is_among back) (put_back back)
put_back-keeps [] g other old = refl
put_back-keeps (x ∷ more) g other old =
    let parts = or_parts (g == x) (is_among more g) other in rw parts.0 (put_back-keeps more g parts.1 old)

-- and these are put so
pub put_back-waits : (back : List ℕ) (g : ℕ) (old : Tag) → is_among back g ≡ true → put_back back g old ≡ Delegated
put_back-waits [] g old is = both_ways is refl
put_back-waits (x ∷ more) g old is = by (g == x) is (put_back-waits more g old)
  where
    by : (here : Bool) → (here || is_among more g) ≡ true → (is_among more g ≡ true → put_back more g old ≡ Delegated)
        → (if here then Delegated else put_back more g old) ≡ Delegated
    by true is later = refl
    by false is later = later is

-- where a test passes none of them, it passes others alone
pub among_apart : (test : ℕ → Bool) (back : List ℕ) → AllByRecursion (λ (x : ℕ). test x ≡ false) back → AreDisjoint test (is_among back)
among_apart test [] none g is = refl
among_apart test (x ∷ more) none g is =
    rw (ne_eqb g x (λ same. both_ways is (ap test same ∙ none.0)), among_apart test more none.1 g is) refl

-- the state with a patch and RECs put
abbrev pub ended : State → Patch → (ℕ → Option RecRecord → Option RecRecord) → State
ended s patch rec = with_recs (patched s patch) (λ g. rec g (s.rec g))

-- What an ending puts, in each state: a patch and RECs of other granules and realms than those tests pass, so that the CPU is still inside of
-- a REC in the old state, or of none, and no realm has a VMID that none had.
pub record IsEnding (mine own : ℕ → Bool) (old : State) (cpu : ℕ) (change : Change) : Type 0 where
  pub patch : Patch
  pub rec : ℕ → Option RecRecord → Option RecRecord
  pub is_put : (s : State) → changed s change ≡ ended s patch rec
  pub granules : ℕ → Bool
  pub realms : ℕ → Bool
  pub within : IsWithin granules realms patch
  pub keeps : Keeps granules rec
  pub waits : (g : ℕ) (tag : Tag) → granules g ≡ true → patch.tag g tag ≡ Delegated
  pub apart : AreDisjoint mine granules
  pub others : AreDisjoint own realms
  pub inside : is_inside (ended old patch rec) cpu ≡ is_inside old cpu
  pub vmid : (vmid g : ℕ) (realm : Option RealmRecord) → has_vmid vmid realm ≡ false → has_vmid vmid (patch.realm g realm) ≡ false

-- a REC is destroyed
unfoldable pub rec_ending : (mine own : ℕ → Bool) (old : State) (cpu rec aux0 aux1 : ℕ) → mine rec ≡ false → mine aux0 ≡ false → mine aux1 ≡ false
    → IsTrue (is_none (rec_at old rec).cpu) → IsEnding mine own old cpu (RecDestroyed rec aux0 aux1)
unfolding changed rec_at
rec_ending mine own old cpu rec aux0 aux1 free free0 free1 idle =
    let patch : Patch = record {
      tag = put_back (aux1 ∷ aux0 ∷ rec ∷ []);
      realm = λ rd old. old;
      table = λ rd old. old;
      leaf = λ rd old. old;
    } in
    let gone : ℕ → Option RecRecord → Option RecRecord = λ g old. if g == rec then None else old in
    record {
      patch = patch;
      rec = gone;
      is_put = λ s. refl;
      granules = is_among (aux1 ∷ aux0 ∷ rec ∷ []);
      realms = λ rd. false;
      within = record {
        tag = put_back-keeps (aux1 ∷ aux0 ∷ rec ∷ []);
        realm = λ rd apart old. refl;
        table = λ rd apart old. refl;
        leaf = λ rd apart old. refl;
      };
      keeps = λ g elsewhere old.
          let unlike = or_parts (g == aux1) (is_among (aux0 ∷ rec ∷ []) g) elsewhere in
          let still = or_parts (g == aux0) (is_among (rec ∷ []) g) unlike.1 in rw (or_parts (g == rec) false still.1).0 refl;
      waits = λ g tag. put_back-waits (aux1 ∷ aux0 ∷ rec ∷ []) g tag;
      apart = among_apart mine (aux1 ∷ aux0 ∷ rec ∷ []) (free1, (free0, (free, tt)));
      others = λ rd is. refl;
      inside = is_inside-alike old (ended old patch gone) cpu refl
          (put_rec-runs old cpu rec None
          (sym (runs_on-read old.rec cpu rec ∙ idle_elsewhere cpu (unwrap_or (old.rec rec) no_rec).cpu idle)));
      vmid = λ vmid g realm none. none;
    }

-- and no VMID is given back
pub rec_ending-vmid : (mine own : ℕ → Bool) (old : State) (cpu rec aux0 aux1 : ℕ) (free : mine rec ≡ false) (free0 : mine aux0 ≡ false)
    (free1 : mine aux1 ≡ false) (idle : IsTrue (is_none (rec_at old rec).cpu)) (vmid : ℕ)
    → let ending = rec_ending mine own old cpu rec aux0 aux1 free free0 free1 idle in
    is_vmid_used (ended old ending.patch ending.rec) vmid ≡ is_vmid_used old vmid
unfolding rec_ending is_vmid_used
rec_ending-vmid mine own old cpu rec aux0 aux1 free free0 free1 idle vmid = refl

-- elsewhere tables and leaves stay
places_stay : {A : Type 0} (old : ℕ → ℕ → Option A) (here : Bool) → here ≡ false → (λ level number. if here then None else old level number) ≡ old
places_stay {A} old here elsewhere = ap (λ (b : Bool). λ level number. if b then None else old level number) elsewhere

-- a realm is destroyed
pub realm_ending : (mine own : ℕ → Bool) (old : State) (cpu rd root : ℕ) → mine rd ≡ false → mine root ≡ false → own rd ≡ false
    → IsEnding mine own old cpu (RealmDestroyed rd root)
unfolding changed is_inside
realm_ending mine own old cpu rd root free free_root other = record {
  patch = record {
    tag = put_back (root ∷ rd ∷ []);
    realm = λ n old. if n == rd then None else old;
    table = λ n old level number. if n == rd then None else old level number;
    leaf = λ n old level number. if n == rd then None else old level number;
  };
  rec = λ g old. old;
  is_put = λ s. refl;
  granules = is_among (root ∷ rd ∷ []);
  realms = is_among (rd ∷ []);
  within = record {
    tag = put_back-keeps (root ∷ rd ∷ []);
    realm = λ n elsewhere old. ap (λ (here : Bool). if here then None else old) (or_parts (n == rd) false elsewhere).0;
    table = λ n elsewhere old. places_stay old (n == rd) (or_parts (n == rd) false elsewhere).0;
    leaf = λ n elsewhere old. places_stay old (n == rd) (or_parts (n == rd) false elsewhere).0;
  };
  keeps = λ g elsewhere old. refl;
  waits = λ g tag. put_back-waits (root ∷ rd ∷ []) g tag;
  apart = among_apart mine (root ∷ rd ∷ []) (free_root, (free, tt));
  others = among_apart own (rd ∷ []) (other, tt);
  inside = refl;
  vmid = λ vmid g realm none. by_address (λ found. has_vmid vmid found ≡ false) g rd None realm (λ _. refl) (λ _. none);
}

-- ---- what an ending reads

-- The states agree on the granule's tag, on the realm or the REC there, and on whether the CPU is inside of one.
pub record AgreeAt (cpu granule : ℕ) (s t : State) : Type 0 where
  pub config : t.config ≡ s.config
  pub inside : is_inside t cpu ≡ is_inside s cpu
  pub tag : t.tag granule ≡ s.tag granule
  pub realm : t.realm granule ≡ s.realm granule
  pub rec : t.rec granule ≡ s.rec granule
  pub table : t.table granule ≡ s.table granule
  pub leaf : t.leaf granule ≡ s.leaf granule

-- the end of a REC leads to the same in both
pub outcome-agree_rec : (s t : State) (cpu rec : ℕ) → AgreeAt cpu rec s t
    → outcome t cpu (call.RecDestroy rec) ≡ outcome s cpu (call.RecDestroy rec)
unfolding outcome answer_of commands class_of words_of named has_tag is_inside rec_at
outcome-agree_rec s t cpu rec agree = λ i.
    if not (agree.inside i)
    then rec_destroy (record s { config = agree.config i; tag = λ _. agree.tag i; rec = λ _. agree.rec i }) rec
    else Err (Misplaced OwnOutside)

-- and that of a realm, where they agree on whether it has a REC
pub outcome-agree_realm : (s t : State) (cpu rd : ℕ) → AgreeAt cpu rd s t → has_rec t rd ≡ has_rec s rd
    → outcome t cpu (call.RealmDestroy rd) ≡ outcome s cpu (call.RealmDestroy rd)
unfolding outcome answer_of commands class_of words_of named has_tag is_inside realm_at has_rec has_entry entry_at
outcome-agree_realm s t cpu rd agree owns = λ i.
    if not (agree.inside i)
    then realm_destroy_told (owns i) (record s {
      config = agree.config i;
      tag = λ _. agree.tag i;
      realm = λ _. agree.realm i;
      table = λ _. agree.table i;
      leaf = λ _. agree.leaf i;
    }) rd
    else Err (Misplaced OwnOutside)

-- What is known of a REC whose end is accepted.
pub record RecEnds (s : State) (rec : ℕ) (accepted : Accepted) : Type 0 where
  pub tag : s.tag rec ≡ Rec
  pub aux0 : s.tag (rec_at s rec).aux0 ≡ RecAux
  pub aux1 : s.tag (rec_at s rec).aux1 ≡ RecAux
  pub idle : IsTrue (is_none (rec_at s rec).cpu)
  pub does : accepted ≡ done [] (RecDestroyed rec (rec_at s rec).aux0 (rec_at s rec).aux1)

-- so it is by the rows of its end
pub rec_ends : (s : State) (cpu rec : ℕ) (accepted : Accepted) → IsSound s → outcome s cpu (call.RecDestroy rec) ≡ Ok accepted
    → RecEnds s rec accepted
unfolding behind named
rec_ends s cpu rec accepted sound is =
    let c = call.RecDestroy rec in
    let leads = outcome-leads s cpu c (Ok accepted) is in
    let hold = front-rest s c (behind s cpu c).0 leads.0 in
    let has : IsTrue (has_tag s rec Rec) = hold.1.0 in
    let found = rec_at s rec in
    let there = rec_there s rec sound has in
    record {
      tag = tag-has_tag s rec Rec has;
      aux0 = tag-has_tag s found.aux0 RecAux (sound.recs.aux0 rec found there);
      aux1 = tag-has_tag s found.aux1 RecAux (sound.recs.aux1 rec found there);
      idle = hold.2.0;
      does = sym leads.1;
    }

-- What is known of a realm whose end is accepted.
pub record RealmEnds (s : State) (rd : ℕ) (accepted : Accepted) : Type 0 where
  pub tag : s.tag rd ≡ Rd
  pub root : s.tag (realm_at s rd).root ≡ Rtt
  pub unowned : has_rec s rd ≡ false
  pub does : accepted ≡ done [] (RealmDestroyed rd (realm_at s rd).root)

-- so it is by the rows of its end
pub realm_ends : (s : State) (cpu rd : ℕ) (accepted : Accepted) → IsSound s → outcome s cpu (call.RealmDestroy rd) ≡ Ok accepted
    → RealmEnds s rd accepted
unfolding behind named
realm_ends s cpu rd accepted sound is =
    let c = call.RealmDestroy rd in
    let leads = outcome-leads s cpu c (Ok accepted) is in
    let hold = front-rest s c (behind s cpu c).0 leads.0 in
    let has : IsTrue (has_tag s rd Rd) = hold.1.0 in
    let found = realm_at s rd in
    let there = realm_there s rd sound has in
    record {
      tag = tag-has_tag s rd Rd has;
      unowned = not-true (has_rec s rd) hold.2.0;
      root = tag-has_tag s found.root Rtt (sound.tables.tagged rd found.start_level 0 found.root (sound.tables.roots rd found there));
      does = sym leads.1;
    }

-- ---- an ending by what it gives back

-- what an ending gives back beside what it names
abbrev pub parts_of : Change → List ℕ
parts_of (RecDestroyed rec aux0 aux1) = aux0 ∷ aux1 ∷ []
parts_of (RealmDestroyed rd root) = root ∷ []
parts_of _ = []

-- The end of a REC or a realm that is accepted: what it names is in use and no part, what it gives back beside are parts, and it puts this. No
-- realm gets a REC by it that had none, nor loses one where a realm ends.
pub record EndsAs (s : State) (cpu : ℕ) (c : Call) : Type 0 where
  pub here : ℕ
  pub change : Change
  pub does : outcome s cpu c ≡ Ok (done [] change)
  pub names : is_named (named c) here ≡ true
  pub only : (g : ℕ) → is_named (named c) g ≡ true → g ≡ here
  pub whole : is_part (s.tag here) ≡ false
  pub used : ¬ (s.tag here ≡ Delegated)
  pub parts : AllByRecursion (λ (g : ℕ). is_part (s.tag g) ≡ true) (parts_of change)
  pub ending : (mine own : ℕ → Bool) (any : ℕ) → mine here ≡ false → own here ≡ false
      → AllByRecursion (λ (g : ℕ). mine g ≡ false) (parts_of change) → IsEnding mine own s any change
  pub unowned : frees_vmid c ≡ true → has_rec s here ≡ false
  pub fewer : (rd : ℕ) → has_rec s rd ≡ false → has_rec (changed s change) rd ≡ has_rec s rd
  pub owners : frees_vmid c ≡ true → (rd : ℕ) → has_rec (changed s change) rd ≡ has_rec s rd

-- a REC that is gone belongs to no realm
gone_owned : (s : State) (rec aux0 aux1 rd : ℕ) → IsSound s → has_rec s rd ≡ false
    → has_rec (changed s (RecDestroyed rec aux0 aux1)) rd ≡ has_rec s rd
unfolding changed has_rec
gone_owned s rec aux0 aux1 rd sound none = λ i.
    any_below s.config.granules (λ k. by_address (λ found. is_owned_by rd found ≡ is_owned_by rd (s.rec (k * 4096))) (k * 4096) rec None
    (s.rec (k * 4096)) (λ _. sym (none_owned s rd sound none (k * 4096))) (λ _. refl) i)

-- where a realm ends, RECs stay
rec_owned : (s : State) (rd root other : ℕ) → has_rec (changed s (RealmDestroyed rd root)) other ≡ has_rec s other
unfolding changed has_rec
rec_owned s rd root other = refl

-- the only granule of a list of one
only_named : (granule g : ℕ) → (granule == g || false) ≡ true → g ≡ granule
only_named granule g is = by (granule == g) refl is
  where
    by : (b : Bool) → (granule == g) ≡ b → (b || false) ≡ true → g ≡ granule
    by true same is = sym (eqb-true granule g same)
    by false same is = both_ways is refl

-- so each ending is that is accepted
pub ends_as : (s : State) (cpu : ℕ) (c : Call) (accepted : Accepted) → IsSound s → is_ending c ≡ true → outcome s cpu c ≡ Ok accepted → EndsAs s cpu c
unfolding is_ending frees_vmid named
ends_as s cpu (call.RecDestroy rec) accepted sound ends is =
    let found = rec_ends s cpu rec accepted sound is in
    record {
      here = rec;
      change = RecDestroyed rec (rec_at s rec).aux0 (rec_at s rec).aux1;
      does = is ∙ ap Ok found.does;
      names = or_left (rec == rec) false (eq-eqb rec rec refl);
      only = only_named rec;
      whole = ap is_part found.tag;
      used = λ waits. let bad : Rec ≡ Delegated = sym found.tag ∙ waits in cc;
      parts = (ap is_part found.aux0, (ap is_part found.aux1, tt));
      ending = λ mine own any free other parts.
          rec_ending mine own s any rec (rec_at s rec).aux0 (rec_at s rec).aux1 free parts.0 parts.1.0 found.idle;
      unowned = λ realm. both_ways realm refl;
      fewer = λ rd none. gone_owned s rec (rec_at s rec).aux0 (rec_at s rec).aux1 rd sound none;
      owners = λ realm rd. both_ways realm refl;
    }
ends_as s cpu (call.RealmDestroy rd) accepted sound ends is =
    let found = realm_ends s cpu rd accepted sound is in
    record {
      here = rd;
      change = RealmDestroyed rd (realm_at s rd).root;
      does = is ∙ ap Ok found.does;
      names = or_left (rd == rd) false (eq-eqb rd rd refl);
      only = only_named rd;
      whole = ap is_part found.tag;
      used = λ waits. let bad : Rd ≡ Delegated = sym found.tag ∙ waits in cc;
      parts = (ap is_part found.root, tt);
      ending = λ mine own any free other parts. realm_ending mine own s any rd (realm_at s rd).root free parts.0 other;
      unowned = λ realm. found.unowned;
      fewer = λ other none. rec_owned s rd (realm_at s rd).root other;
      owners = λ realm other. rec_owned s rd (realm_at s rd).root other;
    }
ends_as s cpu _ accepted sound ends is = both_ways ends refl

-- where the states agree on what it names, an ending leads to the same in both
pub outcome-agree_end : (s t : State) (cpu : ℕ) (c : Call) (here : ℕ) → is_ending c ≡ true → is_named (named c) here ≡ true → AgreeAt cpu here s t
    → (frees_vmid c ≡ true → has_rec t here ≡ has_rec s here) → outcome t cpu c ≡ outcome s cpu c
unfolding is_ending frees_vmid named
outcome-agree_end s t cpu (call.RecDestroy rec) here ends is agree owns =
    outcome-agree_rec s t cpu rec (subst (λ (g : ℕ). AgreeAt cpu g s t) (only_named rec here is) agree)
outcome-agree_end s t cpu (call.RealmDestroy rd) here ends is agree owns =
    let there = only_named rd here is in
    outcome-agree_realm s t cpu rd (subst (λ (g : ℕ). AgreeAt cpu g s t) there agree)
    (subst (λ (g : ℕ). has_rec t g ≡ has_rec s g) there (owns refl))
outcome-agree_end s t cpu _ here ends is agree owns = both_ways ends refl
