-- A CPU that nobody disturbs takes some granules, commits, frees them and returns.
use Rattle.std.proofs.Common.{◌≡◌, ℕ, ◌+◌, ◌<◌, Bool, true, false, ◌&&◌, ◌==◌, if◌then◌else◌, List, [], ◌∷◌, ◌++◌, map, None, refl, sym, ap, ◌∙◌, subst, append_assoc, eq-eqb}
use Rattle.std.specs.Prelude.{Contains, not}
use Rattle.std.specs.List.{list_any}
use Rattle.std.proofs.lemmas.Bool.{and_parts, or_parts, not-true}
use Rattle.std.proofs.lemmas.List.{append-nil}
use Rattle.rmm_spec.specs.declared.command.Command.{Command}
use Rattle.rmm_spec.specs.declared.event.Event.TheVariants.{Returned}
use Rattle.rmm_spec.specs.declared.reply.Reply.{Reply}
use Rattle.rmm_spec.specs.Lookup.{is_granule}
use Rattle.rmm_spec.specs.Cell.{put}
use Rattle.rmm_spec.specs.Local.{Hold, put_all, LocalStep}
use Rattle.rmm_spec.specs.World.{World, Phase, Between, Deciding, Decided, Move, HappenAll, without_granule}
use Rattle.rmm_spec.specs.World as move
use Rattle.spec_lemmas.proofs.Maps.{put_elim, put-same, put-here}
use Rattle.spec_lemmas.proofs.Members.{Contains-nil, Contains-other, cells_at}
use Rattle.world_laws.specs.SmallWorlds.{HappenBy, freeing, served_by}
use Rattle.lemmas.proofs.Tests.{keys_apart}
use Rattle.lemmas.proofs.Members.{Contains-head, Contains-tail}

-- ---- maps and lists

put_again : {A : Type 0} (values : ℕ → A) (key : ℕ) (first second : A) → put (put values key first) key second ≡ put values key second
put_again {A} values key first second = λ i other. by (other == key) (values other) i
  where
    by : (b : Bool) (x : A) → (if b then second else (if b then first else x)) ≡ (if b then second else x)
    by true x = refl
    by false x = refl

abbrev is_among : List ℕ → ℕ → Bool
is_among held granule = list_any (λ other. other == granule) held

not_among : (held : List ℕ) (granule : ℕ) → is_among held granule ≡ false → Contains held granule → ⊥
not_among [] granule none has = Contains-nil granule has
not_among (first ∷ held) granule none has =
    let parts = or_parts (first == granule) (is_among held granule) none in
    not_among held granule parts.1 (Contains-other first held granule (keys_apart first granule parts.0) has)

without-last : (held : List ℕ) (granule : ℕ) → is_among held granule ≡ false → without_granule granule (held ++ granule ∷ []) ≡ held
without-last [] granule none = rw (eq-eqb granule granule refl) refl
without-last (first ∷ held) granule none =
    let parts = or_parts (first == granule) (is_among held granule) none in
    rw parts.0 (ap (λ rest. first ∷ rest) (without-last held granule parts.1))

pub Contains-last : (held : List ℕ) (granule : ℕ) → Contains (held ++ granule ∷ []) granule
Contains-last [] granule = Contains-head granule []
Contains-last (first ∷ held) granule = Contains-tail first (held ++ granule ∷ []) granule (Contains-last held granule)

-- granules that can be taken one after another
abbrev pub can_take : ℕ → List ℕ → List ℕ → Bool
can_take granules held [] = true
can_take granules held (granule ∷ more) =
    is_granule granules granule && (not (is_among held granule) && can_take granules (held ++ granule ∷ []) more)

-- ---- runs

pub HappenAll-from_by : (may : World → ℕ → ℕ → Type 0) (old : World) (moves : List Move) (last : World)
    → HappenBy may old moves last → HappenAll old moves last
HappenAll-from_by may old [] last happen = happen
HappenAll-from_by may old (m ∷ moves) last happen = (happen.0, happen.2, HappenAll-from_by may happen.0 moves last happen.3)

pub HappenBy-append : (may : World → ℕ → ℕ → Type 0) (old : World) (moves others : List Move) (middle last : World)
    → HappenBy may old moves middle → HappenBy may middle others last → HappenBy may old (moves ++ others) last
HappenBy-append may old [] others middle last first second = subst (λ w. HappenBy may w others last) first second
HappenBy-append may old (m ∷ moves) others middle last first second =
    (first.0, first.1, first.2, HappenBy-append may first.0 moves others middle last first.3 second)

-- the world in which one CPU alone holds granules
abbrev pub with_held : World → ℕ → List ℕ → World
with_held w cpu held = record w { taken = put (λ _. []) cpu held }

with_held-none : (w : World) (cpu : ℕ) → w.taken ≡ (λ _. []) → with_held w cpu [] ≡ w
with_held-none w cpu quiet =
    let same : put (λ _. []) cpu [] ≡ w.taken = put-same (λ _. []) cpu [] refl ∙ sym quiet in λ i. record w { taken = same i }

-- each of these takes goes by the rule
abbrev pub MayTakeAll : (World → ℕ → ℕ → Type 0) → World → ℕ → List ℕ → List ℕ → Type 0
MayTakeAll may w cpu held [] = Unit {0}
MayTakeAll may w cpu held (granule ∷ more) = may (with_held w cpu held) cpu granule × MayTakeAll may w cpu (held ++ granule ∷ []) more

takes : (may : World → ℕ → ℕ → Type 0) (w : World) (cpu number : ℕ) (command : Command) → cpu < w.config.cpus
    → w.phase cpu ≡ Deciding number command None → (held more : List ℕ) → can_take w.config.granules held more ≡ true → MayTakeAll may w cpu held more
    → HappenBy may (with_held w cpu held) (map (λ granule. move.Take cpu granule) more) (with_held w cpu (held ++ more))
takes may w cpu number command is_cpu deciding held [] can all = ap (with_held w cpu) (append-nil held)
takes may w cpu number command is_cpu deciding held (granule ∷ more) can all =
    let parts =
    and_parts (is_granule w.config.granules granule) (not (is_among held granule) && can_take w.config.granules (held ++ granule ∷ []) more) can in
    let new = and_parts (not (is_among held granule)) (can_take w.config.granules (held ++ granule ∷ []) more) parts.1 in
    let apart : is_among held granule ≡ false = not-true (is_among held granule) new.0 in
    let grown : put (λ _. []) cpu (held ++ granule ∷ []) ≡ put (put (λ _. []) cpu held) cpu (put (λ _. []) cpu held cpu ++ granule ∷ []) =
    ap (λ (before : List ℕ). put (λ _. []) cpu (before ++ granule ∷ [])) (sym (put-here (λ _. []) cpu held))
    ∙ sym (put_again (λ _. []) cpu held _) in (
      with_held w cpu (held ++ granule ∷ []),
      all.0,
      record {
        is_cpu = is_cpu;
        moves = record {
          deciding = record { number = number; command = command; learnt = None; is_deciding = deciding };
          is_lock = parts.0;
          is_free = λ other. put_elim (λ (has : List ℕ). Contains has granule → ⊥)
              (λ _. []) cpu held other (λ same. not_among held granule apart) (λ _. Contains-nil granule);
          is_new = λ i. record w { taken = grown i };
        };
      },
      subst (λ all_held. HappenBy may (with_held w cpu (held ++ granule ∷ [])) (map (λ g. move.Take cpu g) more) (with_held w cpu all_held))
          (append_assoc held (granule ∷ []) more) (takes may w cpu number command is_cpu deciding (held ++ granule ∷ []) more new.1 all.1),
    )

frees : (may : World → ℕ → ℕ → Type 0) (w : World) (cpu number : ℕ) (command : Command) (given : Reply) → cpu < w.config.cpus
    → w.phase cpu ≡ Decided number command given → (held more : List ℕ) → can_take w.config.granules held more ≡ true
    → HappenBy may (with_held w cpu (held ++ more)) (freeing cpu more) (with_held w cpu held)
frees may w cpu number command given is_cpu decided held [] can = ap (with_held w cpu) (sym (append-nil held))
frees may w cpu number command given is_cpu decided held (granule ∷ more) can =
    let parts =
    and_parts (is_granule w.config.granules granule) (not (is_among held granule) && can_take w.config.granules (held ++ granule ∷ []) more) can in
    let new = and_parts (not (is_among held granule)) (can_take w.config.granules (held ++ granule ∷ []) more) parts.1 in
    let apart : is_among held granule ≡ false = not-true (is_among held granule) new.0 in
    let both = held ++ granule ∷ [] in
    let there : put (λ _. []) cpu both cpu ≡ both = put-here (λ _. []) cpu both in
    let left : put (λ _. []) cpu held ≡ put (put (λ _. []) cpu both) cpu (without_granule granule (put (λ _. []) cpu both cpu)) =
    ap (put (λ _. []) cpu) (sym (ap (without_granule granule) there ∙ without-last held granule apart)) ∙ sym (put_again (λ _. []) cpu both _) in
    let phase : w.phase ≡ put w.phase cpu (move.phase_learnt None (w.phase cpu)) =
    sym (put-same w.phase cpu (move.phase_learnt None (w.phase cpu)) (decided ∙ sym (ap (move.phase_learnt None) decided))) in
    HappenBy-append may (with_held w cpu (held ++ granule ∷ more)) (freeing cpu more)
    (move.Free cpu granule None ∷ []) (with_held w cpu both) (with_held w cpu held)
    (subst (λ all_held. HappenBy may (with_held w cpu all_held) (freeing cpu more) (with_held w cpu both)) (append_assoc held (granule ∷ []) more)
    (frees may w cpu number command given is_cpu decided both more new.1)) (
      with_held w cpu held,
      tt,
      record {
        is_cpu = is_cpu;
        moves = record {
          is_held = subst (λ (has : List ℕ). Contains has granule) (sym there) (Contains-last held granule);
          may_learn = subst (λ (p : Phase). move.MayLearn (with_held w cpu both) p granule None) (sym decided) tt;
          is_new = λ i. record w { taken = left i; phase = phase i };
        };
      },
      refl,
    )

-- ---- a command served

abbrev pub committed_by : World → ℕ → ℕ → Command → Reply → Hold → World
committed_by w cpu number command given held = record w {
  cells = put_all w.cells held.cells;
  side = held.side;
  place = put w.place cpu held.place;
  phase = put w.phase cpu (Decided number command given);
  journal = w.journal ++ record { cpu = cpu; number = number; command = command; given = given } ∷ [];
}

abbrev pub returned_by : World → ℕ → ℕ → Reply → World
returned_by w cpu number given = record w {
  phase = put w.phase cpu (Between (number + 1));
  events = w.events ++ Returned cpu number given ∷ [];
}

abbrev pub after : World → ℕ → ℕ → Command → Reply → Hold → World
after w cpu number command given held = returned_by (committed_by w cpu number command given held) cpu number given

pub serve : (may : World → ℕ → ℕ → Type 0) (w : World) (cpu number : ℕ) (command : Command) (given : Reply) (held : Hold) (granules : List ℕ)
    → cpu < w.config.cpus → w.taken ≡ (λ _. []) → w.phase cpu ≡ Deciding number command None → can_take w.config.granules [] granules ≡ true
    → MayTakeAll may w cpu [] granules
    → LocalStep w.config cpu command given (record { cells = cells_at w.cells granules; side = w.side; place = w.place cpu }) held
    → HappenBy may w (served_by cpu granules given held) (after w cpu number command given held)
serve may w cpu number command given held granules is_cpu quiet deciding can all step =
    let done = committed_by w cpu number command given held in
    let last = after w cpu number command given held in
    let decided : done.phase cpu ≡ Decided number command given = put-here w.phase cpu (Decided number command given) in
    let local =
    subst (λ (gs : List ℕ). LocalStep w.config cpu command given (record { cells = cells_at w.cells gs; side = w.side; place = w.place cpu }) held)
    (sym (put-here (λ _. []) cpu granules)) step in
    subst (λ first. HappenBy may first (served_by cpu granules given held) last) (with_held-none w cpu quiet)
    (HappenBy-append may (with_held w cpu []) (map (λ g. move.Take cpu g) granules) _ (with_held w cpu granules) last
    (takes may w cpu number command is_cpu deciding [] granules can all) (
      with_held done cpu granules,
      tt,
      record {
        is_cpu = is_cpu;
        moves = record {
          deciding = record { number = number; command = command; learnt = None; is_deciding = deciding };
          step = local;
          is_new = refl;
        };
      },
      HappenBy-append may (with_held done cpu granules) (freeing cpu granules) (move.Return cpu ∷ []) (with_held done cpu []) last
          (frees may done cpu number command given is_cpu decided [] granules can) (
            with_held last cpu [],
            tt,
            record {
              is_cpu = is_cpu;
              moves = record { number = number; command = command; given = given; is_decided = decided; is_new = refl };
            },
            sym (with_held-none last cpu quiet),
          ),
    ))
