-- The shortest beginning of lines that has each call which returned in the first events, and names no call that was made later.
use Rattle.verdict_laws.proofs.Common.{◌≡◌, ℕ, zero, suc, ◌<◌, ◌≤◌, ◌⊎◌, eqb, List, [], ◌∷◌, ◌++◌, inl, inr, Some, refl, ◌∙◌, ap, arith, slice_get, cases_Bool, cases_lt, none-some, slice_get-append, both_ways, Command, Event, Called, Returned, Line, Reply, History, IsHistory, IsCalled, IsReturned, IsFinished, NamesCall, cpu_named, number_named}
use Rattle.std.proofs.lemmas.Bool.{eqb-true, eq-eqb}
use Rattle.lemmas.proofs.Elements.{slice_get-front, slice_get-take}
use Rattle.verdict_laws.proofs.CallOrder.{call_before_return}
use Rattle.verdict_laws.proofs.Moves.{Each, Pairs, Each-at}
use Rattle.verdict_laws.proofs.Settled.{Apart}
use Rattle.verdict_laws.specs.Parts.{first_part}
use Rattle.verdict_laws.proofs.Steps.{apart_places}

-- a call has returned in some events, or it hasn't
pub finished_or : (events : List Event) (cpu number : ℕ) → IsFinished events cpu number ⊎ (¬ IsFinished events cpu number)
finished_or [] cpu number = inr (λ finished. none-some (Returned cpu number finished.1) finished.2)
finished_or (Called c n command ∷ events) cpu number = elim (finished_or events cpu number) [
  | inl finished ↦ inl (suc finished.0, finished.1, finished.2)
  | inr pending ↦ inr (λ finished. behind pending finished.0 finished.1 finished.2)
]
  where
    behind : ¬ IsFinished events cpu number → (place : ℕ) (given : Reply) → ¬ IsReturned (Called c n command ∷ events) place cpu number given
    behind pending zero given is = apart_places (Called c n command ∷ events) 0 c n cpu number command given refl is
    behind pending (suc place) given is = pending (place, given, is)
finished_or (Returned c n told ∷ events) cpu number = elim (finished_or events cpu number) [
  | inl finished ↦ inl (suc finished.0, finished.1, finished.2)
  | inr pending ↦ elim (cases_Bool (eqb c cpu)) [
    | inr other ↦ inr (λ finished. behind pending (λ same. both_ways (eq-eqb c cpu same.0) other) finished.0 finished.1 finished.2)
    | inl is_cpu ↦ elim (cases_Bool (eqb n number)) [
      | inr other ↦ inr (λ finished. behind pending (λ same. both_ways (eq-eqb n number same.1) other) finished.0 finished.1 finished.2)
      | inl is_number ↦
          inl (
            0,
            told,
            ap (λ (x : ℕ). Some (Returned x n told)) (eqb-true c cpu is_cpu)
                ∙ ap (λ (x : ℕ). Some (Returned cpu x told)) (eqb-true n number is_number),
          )
    ]
  ]
]
  where
    behind : ¬ IsFinished events cpu number → ¬ ((c ≡ cpu) × (n ≡ number)) → (place : ℕ) (given : Reply)
        → ¬ IsReturned (Returned c n told ∷ events) place cpu number given
    behind pending apart zero given is = apart (let of_cpu : c ≡ cpu = cc in of_cpu, let numbered : n ≡ number = cc in numbered)
    behind pending apart (suc place) given is = pending (place, given, is)

module _ (history : History) (is_history : IsHistory history) (count : ℕ) where
  abbrev pub Finished : Line → Type 0
  Finished line = IsFinished (first_part count history).events (cpu_named line) (number_named line)

  -- a beginning with each call that returned in the first events, the last of which is one
  pub record Beginning (lines : List Line) : Type 0 where
    pub front : List Line
    pub back : List Line
    pub whole : lines ≡ front ++ back
    pub pending : Each (λ line. ¬ Finished line) back
    pub made : Each (NamesCall (first_part count history).events) front
    pub index : ℕ
    pub last : Line
    pub stands : slice_get front index ≡ Some last
    pub returned : Finished last

  -- a call is made in the first events where it is made before one of their returns
  made_before : (line : Line) (returned : ℕ) → NamesCall history.events line → returned < count
      → ((called : ℕ) (command : Command) → IsCalled history.events called (cpu_named line) (number_named line) command → called ≤ returned)
      → NamesCall (first_part count history).events line
  made_before line returned known within before =
      let early = before known.0 known.1 known.2 in
      let call = Called (cpu_named line) (number_named line) known.1 in
      (known.0, known.1, slice_get-front count history.events known.0 call (omega (arith, early, within)) known.2)

  -- a return in the first events is one of the history, and within
  return_within : (cpu number : ℕ) (finished : IsFinished (first_part count history).events cpu number)
      → (finished.0 < count) × IsReturned history.events finished.0 cpu number finished.1
  return_within cpu number finished = slice_get-take count history.events finished.0 (Returned cpu number finished.1) finished.2

  -- a line before one whose call returned in them
  made_earlier : (line later : Line) → NamesCall history.events line → Apart history.events line later → Finished later
      → NamesCall (first_part count history).events line
  made_earlier line later known apart finished =
      let within = return_within (cpu_named later) (number_named later) finished in
      made_before line finished.0 known within.0 (λ called command is_called. elim (cases_lt finished.0 called) [
        | inr early ↦ early
        | inl late ↦
            absurd (apart.1 (record {
              returned = finished.0;
              given = finished.1;
              is_returned = within.1;
              called = called;
              command = command;
              is_called = is_called;
              before = late;
            }))
      ])

  -- or that line itself
  made_itself : (line : Line) → NamesCall history.events line → Finished line → NamesCall (first_part count history).events line
  made_itself line known finished =
      let within = return_within (cpu_named line) (number_named line) finished in
      made_before line finished.0 known within.0 (λ called command is_called.
      let before = call_before_return history is_history (cpu_named line) (number_named line) called finished.0 command finished.1 is_called
      within.1 in
      omega (arith, before))

  -- no call of the lines returned in the first events, or there is such a beginning
  pub begun : (lines : List Line) → Each (NamesCall history.events) lines → Pairs (Apart history.events) lines
      → Each (λ line. ¬ Finished line) lines ⊎ Beginning lines
  begun [] known pairs = inl tt
  begun (line ∷ lines) known pairs = elim (begun lines known.1 pairs.1) [
    | inr rest ↦
        let stands : slice_get lines rest.index ≡ Some rest.last =
        ap (λ (ls : List Line). slice_get ls rest.index) rest.whole ∙ slice_get-append rest.front rest.back rest.index rest.last rest.stands in
        inr (record {
          front = line ∷ rest.front;
          back = rest.back;
          whole = ap (λ (ls : List Line). line ∷ ls) rest.whole;
          pending = rest.pending;
          made = (
            made_earlier line rest.last known.0 (Each-at (Apart history.events line) lines rest.index rest.last pairs.0 stands) rest.returned,
            rest.made,
          );
          index = suc rest.index;
          last = rest.last;
          stands = rest.stands;
          returned = rest.returned;
        })
    | inl none ↦ elim (finished_or (first_part count history).events (cpu_named line) (number_named line)) [
      | inl finished ↦
          inr (record {
            front = line ∷ [];
            back = lines;
            whole = refl;
            pending = none;
            made = (made_itself line known.0 finished, tt);
            index = 0;
            last = line;
            stands = refl;
            returned = finished;
          })
      | inr pending ↦ inl (pending, none)
    ]
  ]
