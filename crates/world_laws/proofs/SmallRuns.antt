-- What two CPUs do on a few granules, move by move.
use Rattle.std.proofs.Common.{◌≡◌, ℕ, ◌<◌, Bool, true, false, ◌==◌, if◌then◌else◌, IsTrue, List, [], ◌∷◌, ◌++◌, map, None, inl, refl, sym, ap, ◌∙◌, subst, arith, eq-eqb}
use Rattle.std.specs.Prelude.{Contains}
use Rattle.rmm_spec.specs.declared.command.Command.{Command}
use Rattle.rmm_spec.specs.declared.event.Event.TheVariants.{Called, Returned}
use Rattle.rmm_spec.specs.declared.line.Line.TheVariants.{Keep, Unfinished}
use Rattle.rmm_spec.specs.declared.call.Call.TheVariants.{GranuleDelegate}
use Rattle.rmm_spec.specs.declared.tag.Tag.TheVariants as tag
use Rattle.rmm_spec.specs.Call.{ByHost, call_of, call_from, class_of}
use Rattle.rmm_spec.specs.Lookup.{is_granule}
use Rattle.rmm_spec.specs.Rows.{Needed, ok, input_error}
use Rattle.rmm_spec.specs.Step.Terms.{needed, named}
use Rattle.rmm_spec.specs.Cell.{Undelegated, Delegated, put, tag_of}
use Rattle.rmm_spec.specs.Shape.{Outside}
use Rattle.rmm_spec.specs.Local.{HeldCell, LocalStep}
use Rattle.rmm_spec.specs.World.{World, Phase, Between, Deciding, Stopped, opening_world, Happens, HappenAll, certificate_of}
use Rattle.rmm_spec.specs.World as move
use Rattle.rmm_spec.specs.Locks.{needs, IsRisingTake}
use Rattle.rmm_spec.specs.Waits.{IsRising, WaitsAt}
use Rattle.world_laws.specs.Replaced.{held_at}
use Rattle.spec_lemmas.proofs.Members.{Contains-nil, cells_at, each_of_one, each_of_two}
use Rattle.world_laws.proofs.Refusals.{tags-are_local}
use Rattle.world_laws.proofs.Retagged.{delegate-is_local}
use Rattle.world_laws.specs.SmallWorlds.{HappenBy, WaitForEachOther, IsWordTake, two_cpus, delegate, both_delegate, holding_at, delegates, in_order, stopped_after_commit, both_called, realm_of, both_make_realms, one_lock_each}
use Rattle.world_laws.proofs.Serving.{HappenAll-from_by, HappenBy-append, with_held, committed_by, after, serve}
use Rattle.world_laws.proofs.SmallTakes.{word_order_rises, word_order_falls}
use Rattle.lemmas.proofs.Members.{Contains-head}

-- ---- single moves

abbrev pub called : World → ℕ → ℕ → Command → List Command → World
called w cpu number command rest = record w {
  phase = put w.phase cpu (Deciding number command None);
  program = put w.program cpu rest;
  events = w.events ++ Called cpu number command ∷ [];
}

pub happens-call : (w : World) (cpu number : ℕ) (command : Command) (rest : List Command) → cpu < w.config.cpus → w.phase cpu ≡ Between number
    → w.program cpu ≡ command ∷ rest → Happens w (move.Call cpu) (called w cpu number command rest)
happens-call w cpu number command rest is_cpu between next = record {
  is_cpu = is_cpu;
  moves = record { number = number; command = command; rest = rest; is_between = between; is_next = next; is_new = refl };
}

abbrev pub took : World → ℕ → ℕ → World
took w cpu granule = record w { taken = put w.taken cpu (w.taken cpu ++ granule ∷ []) }

pub happens-take : (w : World) (cpu granule number : ℕ) (command : Command) → cpu < w.config.cpus → w.phase cpu ≡ Deciding number command None
    → IsTrue (is_granule w.config.granules granule) → ((other : ℕ) → Contains (w.taken other) granule → ⊥)
    → Happens w (move.Take cpu granule) (took w cpu granule)
happens-take w cpu granule number command is_cpu deciding is_lock is_free = record {
  is_cpu = is_cpu;
  moves = record {
    deciding = record { number = number; command = command; learnt = None; is_deciding = deciding };
    is_lock = is_lock;
    is_free = is_free;
    is_new = refl;
  };
}

zero_fits : 0 < 2
zero_fits = omega arith

one_fits : 1 < 2
one_fits = omega arith

-- ---- one granule is delegated

call_of-delegate : (granule : ℕ) → call_of (delegate granule) ≡ GranuleDelegate granule
unfolding call_from
call_of-delegate granule = refl

class_of-delegate : (granule : ℕ) → class_of (call_of (delegate granule)) ≡ ByHost
unfolding call_from class_of
class_of-delegate granule = refl

accepts : (cpu granule : ℕ) → is_granule 4 granule ≡ true
    → LocalStep two_cpus cpu (delegate granule) (ok []) (holding_at granule Undelegated) (holding_at granule Delegated)
accepts cpu granule is_lock =
    subst (λ b. LocalStep two_cpus cpu (delegate granule) (ok [])
    (holding_at granule Undelegated) (holding_at granule (if b then Delegated else Undelegated)))
    (eq-eqb granule granule refl)
    (delegate-is_local two_cpus cpu granule (delegate granule) (holding_at granule Undelegated) (call_of-delegate granule) refl is_lock
    (Contains-head (held_at granule Undelegated) []))

names_it : (granule : ℕ) → Contains (named (call_of (delegate granule))) (needed granule tag.Undelegated)
unfolding call_from named
names_it granule = Contains-head (needed granule tag.Undelegated) []

refuses : (cpu granule : ℕ) → LocalStep two_cpus cpu (delegate granule) input_error (holding_at granule Delegated) (holding_at granule Delegated)
refuses cpu granule =
    tags-are_local two_cpus cpu (delegate granule) (holding_at granule Delegated)
    (held_at granule Delegated) (needed granule tag.Undelegated) (class_of-delegate granule) refl
    (Contains-head (held_at granule Delegated) []) (names_it granule) refl refl

is_lock : is_granule 4 0x1000 ≡ true
unfolding is_granule
is_lock = refl

-- ---- two CPUs delegate it

-- any free granule may be taken
abbrev pub anything : World → ℕ → ℕ → Type 0
anything w cpu granule = Unit {0}

abbrev opened : World
opened = record {
  config = two_cpus;
  cells = λ _. Undelegated;
  side = record { vmids = λ _. None; rec_counts = λ _. 0 };
  taken = λ _. [];
  place = λ _. Outside;
  phase = λ _. Between 0;
  program = both_delegate;
  journal = [];
  events = [];
}

abbrev first_called : World
first_called = called opened 0 0 (delegate 0x1000) []

abbrev both : World
both = called first_called 1 0 (delegate 0x1000) []

abbrev one_served : ℕ → World
one_served first = after both first 0 (delegate 0x1000) (ok []) (holding_at 0x1000 Delegated)

abbrev two_served : ℕ → ℕ → World
two_served first second = after (one_served first) second 0 (delegate 0x1000) input_error (holding_at 0x1000 Delegated)

-- in whichever order, where the phases are as computed
serves_both : (first second : ℕ) → first < 2 → second < 2 → both.phase first ≡ Deciding 0 (delegate 0x1000) None
    → (one_served first).phase second ≡ Deciding 0 (delegate 0x1000) None → (one_served first).place second ≡ Outside
    → HappenAll opened (in_order first second) (two_served first second)
unfolding is_granule
serves_both first second is_first is_second deciding later outside = (
  first_called,
  happens-call opened 0 0 (delegate 0x1000) [] zero_fits refl refl,
  (
    both,
    happens-call first_called 1 0 (delegate 0x1000) [] one_fits refl refl,
    HappenAll-from_by anything both (delegates first 0x1000 (ok []) ++ delegates second 0x1000 input_error) (two_served first second)
        (HappenBy-append anything both (delegates first 0x1000 (ok []))
        (delegates second 0x1000 input_error) (one_served first) (two_served first second)
        (serve anything both first 0 (delegate 0x1000) (ok []) (holding_at 0x1000 Delegated)
        (0x1000 ∷ []) is_first refl deciding refl (tt, tt) (accepts first 0x1000 refl))
        (serve anything (one_served first) second 0 (delegate 0x1000) input_error
        (holding_at 0x1000 Delegated) (0x1000 ∷ []) is_second refl later refl (tt, tt)
        (subst (λ place. LocalStep two_cpus second (delegate 0x1000) input_error
        (record (holding_at 0x1000 Delegated) { place = place }) (holding_at 0x1000 Delegated))
        (sym outside) (refuses second 0x1000)))),
  ),
)

pub zero_first : (w : World) × HappenAll (opening_world two_cpus both_delegate) (in_order 0 1) w
    × (w.events ≡ both_called ++ Returned 0 0 (ok []) ∷ Returned 1 0 input_error ∷ [])
    × (certificate_of w ≡ Keep 0 0 ∷ Keep 1 0 ∷ [])
unfolding opening_world
zero_first = (two_served 0 1, serves_both 0 1 zero_fits one_fits refl refl refl, refl, refl)

pub one_first : (w : World) × HappenAll (opening_world two_cpus both_delegate) (in_order 1 0) w
    × (w.events ≡ both_called ++ Returned 1 0 (ok []) ∷ Returned 0 0 input_error ∷ [])
    × (certificate_of w ≡ Keep 1 0 ∷ Keep 0 0 ∷ [])
unfolding opening_world
one_first = (two_served 1 0, serves_both 1 0 one_fits zero_fits refl refl refl, refl, refl)

-- ---- CPU 0 stops after its commit

abbrev zero_took : World
zero_took = took both 0 0x1000

abbrev zero_committed : World
zero_committed = committed_by zero_took 0 0 (delegate 0x1000) (ok []) (holding_at 0x1000 Delegated)

abbrev stopped_last : World
stopped_last = record zero_committed { phase = put zero_committed.phase 0 Stopped }

stopped_run : HappenAll opened stopped_after_commit stopped_last
stopped_run = (
  first_called,
  happens-call opened 0 0 (delegate 0x1000) [] zero_fits refl refl,
  (
    both,
    happens-call first_called 1 0 (delegate 0x1000) [] one_fits refl refl,
    (
      zero_took,
      happens-take both 0 0x1000 0 (delegate 0x1000) zero_fits refl is_lock (λ other. Contains-nil 0x1000),
      (
        zero_committed,
        record {
          is_cpu = zero_fits;
          moves = record {
            deciding = record { number = 0; command = delegate 0x1000; learnt = None; is_deciding = refl };
            step = accepts 0 0x1000 is_lock;
            is_new = refl;
          };
        },
        (stopped_last, record { is_cpu = zero_fits; moves = record { is_going = tt; is_new = refl } }, refl),
      ),
    ),
  ),
)

waits_behind : WaitsAt stopped_last 1 0x1000 0
unfolding call_from named
waits_behind = record {
  rising = record {
    deciding = record { number = 0; command = delegate 0x1000; learnt = None; is_deciding = refl };
    rising = record {
      is_lock = is_lock;
      is_new = λ h has. absurd (Contains-nil h has);
      room = omega arith;
      no_data = λ h has. absurd (Contains-nil h has);
      tags = λ h n has. absurd (Contains-nil h has);
      strays = λ h has. absurd (Contains-nil h has);
      upwards = inl (record {
        next_named = refl;
        all_named = λ h has. absurd (Contains-nil h has);
        above = λ h has. absurd (Contains-nil h has);
      });
    };
  };
  is_held = Contains-head 0x1000 [];
}

pub stopped_keeps : (w : World) × HappenAll (opening_world two_cpus both_delegate) stopped_after_commit w
    × (w.events ≡ both_called) × (certificate_of w ≡ Unfinished 0 0 (ok []) ∷ []) × WaitsAt w 1 0x1000 0
unfolding opening_world
stopped_keeps = (stopped_last, stopped_run, refl, refl, waits_behind)

-- ---- two CPUs take granules in the order of their words

abbrev start : World
start = record opened { program = both_make_realms }

abbrev first_asks : World
first_asks = called start 0 0 (delegate 0x1000) (delegate 0x2000 ∷ realm_of 0x1000 0x2000 ∷ [])

abbrev first_lent : World
first_lent = after first_asks 0 0 (delegate 0x1000) (ok []) (holding_at 0x1000 Delegated)

abbrev then_asks : World
then_asks = called first_lent 0 1 (delegate 0x2000) (realm_of 0x1000 0x2000 ∷ [])

abbrev both_lent : World
both_lent = after then_asks 0 1 (delegate 0x2000) (ok []) (holding_at 0x2000 Delegated)

abbrev zero_asks : World
zero_asks = called both_lent 0 2 (realm_of 0x1000 0x2000) []

abbrev both_ask : World
both_ask = called zero_asks 1 0 (realm_of 0x2000 0x1000) []

abbrev zero_holds : World
zero_holds = took both_ask 0 0x1000

abbrev each_holds : World
each_holds = took zero_holds 1 0x2000

-- the first word of a command, while nothing is held
takes_first : (w : World) (cpu number granule : ℕ) (command : Command) (rest : List ℕ) → w.phase cpu ≡ Deciding number command None → w.taken cpu ≡ []
    → map (λ (n : Needed). n.granule) (named (call_of command)) ≡ granule ∷ rest → IsWordTake w cpu granule
takes_first w cpu number granule command rest deciding none first = record {
  deciding = record { number = number; command = command; learnt = None; is_deciding = deciding };
  tags = λ h n has. absurd (Contains-nil h (subst (λ taken. Contains (cells_at w.cells taken) h) none has));
  rest = rest;
  in_order = subst (λ taken. map (λ (n : Needed). n.granule) (named (call_of command)) ≡ taken ++ granule ∷ rest) (sym none) first;
}

-- the second of two, while the first is held
takes_second : (w : World) (cpu number rd root : ℕ)
    → w.phase cpu ≡ Deciding number (realm_of rd root) None → w.taken cpu ≡ rd ∷ [] → w.cells rd ≡ Delegated
    → IsWordTake w cpu root
unfolding call_from named
takes_second w cpu number rd root deciding holds lent = record {
  deciding = record { number = number; command = realm_of rd root; learnt = None; is_deciding = deciding };
  tags = λ h n has has_n same.
      each_of_one (λ (k : HeldCell). tag_of k.cell ≡ tag.Delegated) (held_at rd (w.cells rd)) (ap tag_of lent) h
      (subst (λ taken. Contains (cells_at w.cells taken) h) holds has)
      ∙ each_of_two (λ (m : Needed). tag.Delegated ≡ m.tag) (needed rd tag.Delegated) (needed root tag.Delegated) refl refl n has_n;
  rest = [];
  in_order = subst (λ taken. rd ∷ root ∷ [] ≡ taken ++ root ∷ []) (sym holds) refl;
}

lends_both : HappenBy IsWordTake start ((move.Call 0 ∷ delegates 0 0x1000 (ok [])) ++ (move.Call 0 ∷ delegates 0 0x2000 (ok []))) both_lent
unfolding is_granule call_from named
lends_both =
    HappenBy-append IsWordTake start (move.Call 0 ∷ delegates 0 0x1000 (ok [])) (move.Call 0 ∷ delegates 0 0x2000 (ok [])) first_lent both_lent (
      first_asks,
      tt,
      happens-call start 0 0 (delegate 0x1000) (delegate 0x2000 ∷ realm_of 0x1000 0x2000 ∷ []) zero_fits refl refl,
      serve IsWordTake first_asks 0 0 (delegate 0x1000) (ok []) (holding_at 0x1000 Delegated) (0x1000 ∷ []) zero_fits refl refl refl
          (takes_first (with_held first_asks 0 []) 0 0 0x1000 (delegate 0x1000) [] refl refl refl, tt) (accepts 0 0x1000 refl),
    ) (
      then_asks,
      tt,
      happens-call first_lent 0 1 (delegate 0x2000) (realm_of 0x1000 0x2000 ∷ []) zero_fits refl refl,
      serve IsWordTake then_asks 0 1 (delegate 0x2000) (ok []) (holding_at 0x2000 Delegated) (0x2000 ∷ []) zero_fits refl refl refl
          (takes_first (with_held then_asks 0 []) 0 1 0x2000 (delegate 0x2000) [] refl refl refl, tt) (accepts 0 0x2000 refl),
    )

locks_one_each : HappenBy IsWordTake both_lent (move.Call 0 ∷ move.Call 1 ∷ move.Take 0 0x1000 ∷ move.Take 1 0x2000 ∷ []) each_holds
unfolding is_granule call_from named
locks_one_each = (
  zero_asks,
  tt,
  happens-call both_lent 0 2 (realm_of 0x1000 0x2000) [] zero_fits refl refl,
  (
    both_ask,
    tt,
    happens-call zero_asks 1 0 (realm_of 0x2000 0x1000) [] one_fits refl refl,
    (
      zero_holds,
      takes_first both_ask 0 2 0x1000 (realm_of 0x1000 0x2000) (0x2000 ∷ []) refl refl refl,
      happens-take both_ask 0 0x1000 2 (realm_of 0x1000 0x2000) zero_fits refl refl (λ other. Contains-nil 0x1000),
      (
        each_holds,
        takes_first zero_holds 1 0 0x2000 (realm_of 0x2000 0x1000) (0x1000 ∷ []) refl refl refl,
        happens-take zero_holds 1 0x2000 0 (realm_of 0x2000 0x1000) one_fits refl refl (λ other. other_lock (other == 0)),
        refl,
      ),
    ),
  ),
)
  where
    other_lock : (b : Bool) → Contains {X = ℕ} (if b then 0x1000 ∷ [] else []) 0x2000 → ⊥
    other_lock true has = each_of_one (λ (g : ℕ). g ≡ 0x2000 → ⊥) 0x1000 (λ same. omega arith) 0x2000 has refl
    other_lock false has = Contains-nil 0x2000 has

-- what a CPU's open call names, outside of RECs
abbrev names_in : Phase → List Needed
names_in (Deciding number command learnt) = needs Outside learnt (call_of command)
names_in _ = []

one_falls : IsRising each_holds 1 0x1000 → ⊥
one_falls there =
    word_order_falls
    (subst (λ names. IsRisingTake two_cpus names (held_at 0x2000 Delegated ∷ []) 0x1000) (sym (ap names_in there.deciding.is_deciding)) there.rising)

pub word_order_circle : (w : World) × HappenBy IsWordTake (opening_world two_cpus both_make_realms) one_lock_each w
    × WaitForEachOther IsWordTake w 0x2000 0x1000 × IsRising w 0 0x2000 × (IsRising w 1 0x1000 → ⊥)
unfolding opening_world
word_order_circle = (
  each_holds,
  HappenBy-append IsWordTake start ((move.Call 0 ∷ delegates 0 0x1000 (ok [])) ++ (move.Call 0 ∷ delegates 0 0x2000 (ok [])))
      (move.Call 0 ∷ move.Call 1 ∷ move.Take 0 0x1000 ∷ move.Take 1 0x2000 ∷ []) both_lent each_holds lends_both locks_one_each,
  record {
    zero_may = takes_second each_holds 0 2 0x1000 0x2000 refl refl refl;
    one_holds = Contains-head 0x2000 [];
    one_may = takes_second each_holds 1 0 0x2000 0x1000 refl refl refl;
    zero_holds = Contains-head 0x1000 [];
  },
  record { deciding = record { number = 2; command = realm_of 0x1000 0x2000; learnt = None; is_deciding = refl }; rising = word_order_rises },
  one_falls,
)
