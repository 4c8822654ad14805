-- Two RECs are made, and two CPUs come to wait for each other's auxiliary granules.
use Rattle.std.proofs.Common.{◌≡◌, ℕ, ◌+◌, ◌<◌, ◌≤◌, Bool, true, false, ◌==◌, if◌then◌else◌, IsTrue, List, [], ◌∷◌, ◌++◌, map, None, Ok, inr, refl, sym, ◌∙◌, subst, arith, eq-eqb}
use Rattle.std.specs.Prelude.{Contains}
use Rattle.std.proofs.lemmas.Bool.{or_left}
use Rattle.rmm_spec.specs.HistoryText.{Config}
use Rattle.rmm_spec.specs.declared.call.Call.TheVariants.{RecDestroy}
use Rattle.rmm_spec.specs.declared.command.Command.{Command}
use Rattle.rmm_spec.specs.declared.event.Event.{Event}
use Rattle.rmm_spec.specs.declared.event.Event.TheVariants.{Called, Returned}
use Rattle.rmm_spec.specs.declared.tag.Tag.TheVariants as tag
use Rattle.rmm_spec.specs.Call.{call_of, call_from, class_of}
use Rattle.rmm_spec.specs.Change.{realm_updated}
use Rattle.rmm_spec.specs.Lookup.{has_tag, is_granule, is_inside, realm_at, is_vmid_used}
use Rattle.rmm_spec.specs.Rows.{Needed, ok, done}
use Rattle.rmm_spec.specs.State.{RecRecord}
use Rattle.rmm_spec.specs.Step.{outcome, answer_of}
use Rattle.rmm_spec.specs.Step.Granule.{granule_delegate}
use Rattle.rmm_spec.specs.Step.Realm.{realm_create}
use Rattle.rmm_spec.specs.Step.Rec.{rec_create}
use Rattle.rmm_spec.specs.Step.Terms.{words_of, needed, named}
use Rattle.rmm_spec.specs.Cell.{Rec, RecAux, put, tag_of, is_data}
use Rattle.rmm_spec.specs.Flat.{flat_state}
use Rattle.rmm_spec.specs.Shape.{CpuPlace, Outside}
use Rattle.rmm_spec.specs.Local.{HeldCell}
use Rattle.rmm_spec.specs.World.{World, Phase, Between, Deciding, Decided, Commitment, opening_world, HappenAll}
use Rattle.rmm_spec.specs.World as move
use Rattle.rmm_spec.specs.Locks.{names_part, depth}
use Rattle.world_laws.specs.Replaced.{held_at}
use Rattle.spec_lemmas.proofs.Members.{Contains-nil, each_of_one, each_of_two}
use Rattle.spec_lemmas.proofs.Opening.{IsShapedWorld-opening}
use Rattle.rmm_laws.specs.Whole.{Whole, IsShaped, cells_changed, side_changed, places_changed, whole_changed}
use Rattle.rmm_laws.proofs.Accepted.{done-keeps_shape}
use Rattle.world_laws.specs.SmallWorlds.{HappenBy, WaitForEachOther, IsUnguardedTake, IsUnguarded, served_by}
use Rattle.world_laws.specs.Strays.{Accepted, granules_below, hold_all, all_accepted, untouched, nine_granules, two_recs_made, destroys, each_destroys, strays_taken}
use Rattle.world_laws.proofs.Serving.{HappenAll-from_by, HappenBy-append, MayTakeAll, can_take, serve}
use Rattle.world_laws.proofs.AllHeld.{accepted-is_local, put_all-every}
use Rattle.world_laws.proofs.SmallRuns.{anything, called, happens-call, took, happens-take}
use Rattle.spec_lemmas.proofs.Maps.{put-same}
use Rattle.lemmas.proofs.Members.{Contains-head, Contains-tail}

-- ---- one command after another

takes_anything : (w : World) (cpu : ℕ) (held more : List ℕ) → MayTakeAll anything w cpu held more
takes_anything w cpu held [] = tt
takes_anything w cpu held (granule ∷ more) = (tt, takes_anything w cpu (held ++ granule ∷ []) more)

-- a world that nothing is held in, whose cells are the whole's, with CPU 0 between calls
abbrev at_whole : Whole → ℕ → List Command → List Commitment → List Event → World
at_whole w number program journal events = record {
  config = nine_granules;
  cells = w.cells;
  side = w.side;
  taken = λ _. [];
  place = λ _. Outside;
  phase = put (λ _. Between 0) 0 (Between number);
  program = put each_destroys 0 program;
  journal = journal;
  events = events;
}

-- the change leaves all CPUs outside
abbrev Stays : Whole → Accepted → Type 0
Stays w a = (places : ℕ → CpuPlace) → places_changed w.cells places a.change ≡ places

abbrev IsAnswered : Whole → Accepted → Type 0
IsAnswered w a = outcome (flat_state nine_granules w.cells) 0 (call_of a.command) ≡ Ok (done [] a.change)

nine_taken : can_take 9 [] (granules_below 9) ≡ true
unfolding is_granule
nine_taken = refl

-- a call that is committed and returned leaves CPU 0 between calls
phases : (number : ℕ) (first second : Phase) (last : Phase)
    → put (put (put (put (λ _. Between 0) 0 (Between number)) 0 first) 0 second) 0 last ≡ put (λ _. Between 0) 0 last
phases number first second last = λ i other. by (other == 0) i
  where
    by : (b : Bool)
        → ◌≡◌ {A = Phase} (if b then last else (if b then second else (if b then first else (if b then Between number else Between 0))))
        (if b then last else Between 0)
    by true = refl
    by false = refl

programs : (calls rest : List Command) → put (put each_destroys 0 calls) 0 rest ≡ put each_destroys 0 rest
programs calls rest = λ i other. by other (other == 0) i
  where
    by : (other : ℕ) (b : Bool)
        → ◌≡◌ {A = List Command} (if b then rest else (if b then calls else each_destroys other)) (if b then rest else each_destroys other)
    by other true = refl
    by other false = refl

next-by : (w : Whole) (a : Accepted) (number : ℕ) (rest : List Command) (journal : List Commitment) (events : List Event)
    → IsShaped nine_granules w → w.places ≡ (λ _. Outside)
    → IsAnswered w a → Stays w a
    → HappenBy anything (at_whole w number (a.command ∷ rest) journal events)
    (move.Call 0 ∷ served_by 0 (granules_below 9) (ok []) (hold_all nine_granules (whole_changed nine_granules w a.change)))
    (at_whole (whole_changed nine_granules w a.change) (number + 1) rest
    (journal ++ record { cpu = 0; number = number; command = a.command; given = ok [] } ∷ [])
    (events ++ Called 0 number a.command ∷ [] ++ Returned 0 number (ok []) ∷ []))
next-by w a number rest journal events shaped outside answered stays =
    let old = at_whole w number (a.command ∷ rest) journal events in
    let asked = called old 0 number a.command rest in
    let new = whole_changed nine_granules w a.change in
    let goes = done-keeps_shape nine_granules w 0 a.command [] a.change shaped answered in
    let fresh = put_all-every 9 w.cells new.cells (λ g not. shaped.outside.undelegated g not ∙ sym (goes.0.outside.undelegated g not)) in
    let is_cpu : 0 < 2 = omega arith in
    let placed : put (λ _. Outside) 0 Outside ≡ (λ _. Outside) = put-same (λ _. Outside) 0 Outside refl in (
      asked,
      tt,
      happens-call old 0 number a.command rest is_cpu refl refl,
      subst (HappenBy anything asked (served_by 0 (granules_below 9) (ok []) (hold_all nine_granules new)))
          (λ i. record {
            config = nine_granules;
            cells = fresh i;
            side = new.side;
            taken = λ _. [];
            place = placed i;
            phase = phases number (Deciding number a.command None) (Decided number a.command (ok [])) (Between (number + 1)) i;
            program = programs (a.command ∷ rest) rest i;
            journal = journal ++ record { cpu = 0; number = number; command = a.command; given = ok [] } ∷ [];
            events = events ++ Called 0 number a.command ∷ [] ++ Returned 0 number (ok []) ∷ [];
          })
          (serve anything asked 0 number a.command (ok []) (hold_all nine_granules new) (granules_below 9) is_cpu refl refl nine_taken
          (takes_anything asked 0 [] (granules_below 9)) (accepted-is_local nine_granules 0 a.command a.change w shaped answered stays)),
    )

-- each of these is answered ok in its turn
abbrev AreAnswered : Whole → List Accepted → Type 0
AreAnswered w [] = Unit {0}
AreAnswered w (a ∷ others) = IsAnswered w a × Stays w a × AreAnswered (whole_changed nine_granules w a.change) others

abbrev whole_after : Whole → List Accepted → Whole
whole_after w [] = w
whole_after w (a ∷ others) = whole_after (whole_changed nine_granules w a.change) others

abbrev number_after : ℕ → List Accepted → ℕ
number_after number [] = number
number_after number (a ∷ others) = number_after (number + 1) others

all-by : (script : List Accepted) (w : Whole) (number : ℕ) (rest : List Command) (journal : List Commitment) (events : List Event)
    → IsShaped nine_granules w → w.places ≡ (λ _. Outside)
    → AreAnswered w script
    → (j : List Commitment) × (e : List Event)
    × HappenBy anything (at_whole w number (map (λ (a : Accepted). a.command) script ++ rest) journal events) (all_accepted nine_granules w script)
    (at_whole (whole_after w script) (number_after number script) rest j e)
all-by [] w number rest journal events shaped outside answered = (journal, events, refl)
all-by (a ∷ others) w number rest journal events shaped outside answered =
    let new = whole_changed nine_granules w a.change in
    let more = map (λ (b : Accepted). b.command) others ++ rest in
    let j = journal ++ record { cpu = 0; number = number; command = a.command; given = ok [] } ∷ [] in
    let e = events ++ Called 0 number a.command ∷ [] ++ Returned 0 number (ok []) ∷ [] in
    let goes = done-keeps_shape nine_granules w 0 a.command [] a.change shaped answered.0 in
    let later = all-by others new (number + 1) rest j e goes.0 (answered.1 w.places ∙ outside) answered.2 in (
      later.0,
      later.1,
      HappenBy-append anything (at_whole w number (a.command ∷ more) journal events)
          (move.Call 0 ∷ served_by 0 (granules_below 9) (ok []) (hold_all nine_granules new)) (all_accepted nine_granules new others)
          (at_whole new (number + 1) more j e) (at_whole (whole_after new others) (number_after (number + 1) others) rest later.0 later.1)
          (next-by w a number more journal events shaped outside answered.0 answered.1) later.2,
    )

-- ---- two RECs

untouched-shaped : IsShaped nine_granules untouched
unfolding opening_world
untouched-shaped = IsShapedWorld-opening nine_granules each_destroys

recs-answered : AreAnswered untouched two_recs_made
unfolding flat_state outcome answer_of granule_delegate realm_create rec_create call_from class_of words_of named has_tag is_granule is_inside
    is_vmid_used realm_at realm_updated cells_changed side_changed places_changed
recs-answered = (
  refl,
  λ p. refl,
  (
    refl,
    λ p. refl,
    (
      refl,
      λ p. refl,
      (
        refl,
        λ p. refl,
        (
          refl,
          λ p. refl,
          (
            refl,
            λ p. refl,
            (
              refl,
              λ p. refl,
              (
                refl,
                λ p. refl,
                (refl, λ p. refl, (refl, λ p. refl, (refl, λ p. refl, tt))),
              ),
            ),
          ),
        ),
      ),
    ),
  ),
)

-- ---- takes

-- a REC's own auxiliary granule is a part of it, whatever else is held
own_part : (c : RecRecord) → IsTrue (names_part (Rec c) c.aux0)
own_part c = or_left (c.aux0 == c.aux0) (c.aux1 == c.aux0) (eq-eqb c.aux0 c.aux0 refl)

unguarded : (config : Config) (rec stray : ℕ) (c : RecRecord)
    → is_granule config.granules c.aux0 ≡ true → (rec ≡ c.aux0 → ⊥) → (stray ≡ c.aux0 → ⊥) → (rec ≡ stray → ⊥)
    → IsUnguardedTake config (named (RecDestroy rec)) (held_at rec (Rec c) ∷ held_at stray RecAux ∷ []) c.aux0
unfolding named
unguarded config rec stray c is_lock own other apart =
    let mine = held_at rec (Rec c) in
    let strange = held_at stray RecAux in
    record {
      is_lock = is_lock;
      is_new = each_of_two (λ (h : HeldCell). h.granule ≡ c.aux0 → ⊥) mine strange own other;
      room = omega arith;
      no_data = each_of_two (λ (h : HeldCell). is_data h.cell ≡ false) mine strange refl refl;
      tags = λ h n has_h has_n.
          each_of_one (λ (m : Needed). m.granule ≡ h.granule → tag_of h.cell ≡ m.tag) (needed rec tag.Rec)
          (each_of_two (λ (k : HeldCell). rec ≡ k.granule → tag_of k.cell ≡ tag.Rec) mine strange
          (λ same. refl) (λ same. absurd (apart same)) h has_h)
          n has_n;
      upwards = inr (record {
        by = mine;
        is_held = Contains-head mine (strange ∷ []);
        is_part = own_part c;
        deepest = each_of_two (λ (h : HeldCell). depth h.cell ≤ depth (Rec c)) mine strange (omega arith) (omega arith);
      });
    }

abbrev rec_of : ℕ → ℕ → ℕ → RecRecord
rec_of index aux0 aux1 = record {
  owner = 0x1000;
  index = index;
  aux0 = aux0;
  aux1 = aux1;
  runnable = true;
  cpu = None;
  request = None;
  pending = None;
}

-- ---- the circle

abbrev asking : List Commitment → List Event → World
asking j e =
    called (called (at_whole (whole_after untouched two_recs_made) 11 (destroys 0x3000 ∷ []) j e) 0 11 (destroys 0x3000) []) 1 0 (destroys 0x6000) []

abbrev zero_first : List Commitment → List Event → World
zero_first j e = took (asking j e) 0 0x3000

abbrev one_first : List Commitment → List Event → World
one_first j e = took (zero_first j e) 1 0x6000

abbrev zero_strays : List Commitment → List Event → World
zero_strays j e = took (one_first j e) 0 0x7000

abbrev both_stray : List Commitment → List Event → World
both_stray j e = took (zero_strays j e) 1 0x4000

strays_run : (j : List Commitment) (e : List Event)
    → HappenBy anything (at_whole (whole_after untouched two_recs_made) 11 (destroys 0x3000 ∷ []) j e)
    (move.Call 0 ∷ move.Call 1 ∷ move.Take 0 0x3000 ∷ move.Take 1 0x6000 ∷ move.Take 0 0x7000 ∷ move.Take 1 0x4000 ∷ []) (both_stray j e)
unfolding is_granule
strays_run j e =
    let made = at_whole (whole_after untouched two_recs_made) 11 (destroys 0x3000 ∷ []) j e in
    let zero_asks = called made 0 11 (destroys 0x3000) [] in
    let zero_cpu : 0 < 2 = omega arith in
    let one_cpu : 1 < 2 = omega arith in (
      zero_asks,
      tt,
      happens-call made 0 11 (destroys 0x3000) [] zero_cpu refl refl,
      (
        asking j e,
        tt,
        happens-call zero_asks 1 0 (destroys 0x6000) [] one_cpu refl refl,
        (
          zero_first j e,
          tt,
          happens-take (asking j e) 0 0x3000 11 (destroys 0x3000) zero_cpu refl refl (λ other. Contains-nil 0x3000),
          (
            one_first j e,
            tt,
            happens-take (zero_first j e) 1 0x6000 0 (destroys 0x6000) one_cpu refl refl
                (λ other. first_free 0x6000 (λ same. omega arith) (other == 0)),
            (
              zero_strays j e,
              tt,
              happens-take (one_first j e) 0 0x7000 11 (destroys 0x3000) zero_cpu refl refl
                  (λ other. second_free 0x7000 (λ same. omega arith) (λ same. omega arith) (other == 1) (other == 0)),
              (
                both_stray j e,
                tt,
                happens-take (zero_strays j e) 1 0x4000 0 (destroys 0x6000) one_cpu refl refl (λ other. third_free (other == 0) (other == 1)),
                refl,
              ),
            ),
          ),
        ),
      ),
    )
  where
    first_free : (g : ℕ) → (0x3000 ≡ g → ⊥) → (b : Bool) → Contains {X = ℕ} (if b then 0x3000 ∷ [] else []) g → ⊥
    first_free g apart true has = each_of_one (λ (x : ℕ). x ≡ g → ⊥) 0x3000 apart g has refl
    first_free g apart false has = Contains-nil g has

    second_free : (g : ℕ) → (0x3000 ≡ g → ⊥) → (0x6000 ≡ g → ⊥) → (a b : Bool)
        → Contains {X = ℕ} (if a then 0x6000 ∷ [] else (if b then 0x3000 ∷ [] else [])) g → ⊥
    second_free g apart other true b has = each_of_one (λ (x : ℕ). x ≡ g → ⊥) 0x6000 other g has refl
    second_free g apart other false b has = first_free g apart b has

    third_free : (a b : Bool)
        → Contains {X = ℕ} (if a then 0x3000 ∷ 0x7000 ∷ [] else (if b then 0x6000 ∷ [] else (if a then 0x3000 ∷ [] else []))) 0x4000 → ⊥
    third_free true b has = each_of_two (λ (x : ℕ). x ≡ 0x4000 → ⊥) 0x3000 0x7000 (λ same. omega arith) (λ same. omega arith) 0x4000 has refl
    third_free false b has = second_free 0x4000 (λ same. omega arith) (λ same. omega arith) b false has

strays_wait : (j : List Commitment) (e : List Event) → WaitForEachOther IsUnguarded (both_stray j e) 0x4000 0x7000
unfolding call_from is_granule cells_changed realm_updated
strays_wait j e = record {
  zero_may = record {
    deciding = record { number = 11; command = destroys 0x3000; learnt = None; is_deciding = refl };
    take = unguarded nine_granules 0x3000 0x7000 (rec_of 0 0x4000 0x5000) refl (λ same. omega arith) (λ same. omega arith) (λ same. omega arith);
  };
  one_holds = Contains-tail 0x6000 (0x4000 ∷ []) 0x4000 (Contains-head 0x4000 []);
  one_may = record {
    deciding = record { number = 0; command = destroys 0x6000; learnt = None; is_deciding = refl };
    take = unguarded nine_granules 0x6000 0x4000 (rec_of 1 0x7000 0x8000) refl (λ same. omega arith) (λ same. omega arith) (λ same. omega arith);
  };
  zero_holds = Contains-tail 0x3000 (0x7000 ∷ []) 0x7000 (Contains-head 0x7000 []);
}

opened-same : opening_world nine_granules each_destroys ≡ at_whole untouched 0 (each_destroys 0) [] []
unfolding opening_world
opened-same = λ i. record (at_whole untouched 0 (each_destroys 0) [] []) {
  phase = sym (put-same (λ _. Between 0) 0 (Between 0) refl) i;
  program = sym (put-same each_destroys 0 (each_destroys 0) refl) i;
}

pub strays_circle : (w : World) × HappenAll (opening_world nine_granules each_destroys) strays_taken w × WaitForEachOther IsUnguarded w 0x4000 0x7000
strays_circle =
    let made = all-by two_recs_made untouched 0 (destroys 0x3000 ∷ []) [] [] untouched-shaped refl recs-answered in
    let last = both_stray made.0 made.1 in (
      last,
      HappenAll-from_by anything (opening_world nine_granules each_destroys) strays_taken last
          (subst (λ first. HappenBy anything first strays_taken last) (sym opened-same)
          (HappenBy-append anything (at_whole untouched 0 (each_destroys 0) [] []) (all_accepted nine_granules untouched two_recs_made)
          (move.Call 0 ∷ move.Call 1 ∷ move.Take 0 0x3000 ∷ move.Take 1 0x6000 ∷ move.Take 0 0x7000 ∷ move.Take 1 0x4000 ∷ [])
          (at_whole (whole_after untouched two_recs_made) 11 (destroys 0x3000 ∷ []) made.0 made.1) last made.2 (strays_run made.0 made.1))),
      strays_wait made.0 made.1,
    )
