-- The return of a call, and what is open and stands behind it.
use Rattle.verdict_laws.proofs.Common.{◌≡◌, ℕ, ◌+◌, ◌<◌, Bool, true, false, inl, inr, List, [], ◌∷◌, ◌++◌, length, Option, Some, None, sym, ◌∙◌, ap, subst, arith, slice_get, false≢true, cases_lt, slice_get_within, slice_get-append, Command, Returned, Line, Keep, Reply, History, IsHistory, IsCalled, IsReturned, IsLinearization, cpu_named, number_named, Register}
use Rattle.std.proofs.Common.{◌≢◌}
use Rattle.std.proofs.lemmas.Bool.Decides.{eqb_tells}
use Rattle.std.proofs.lemmas.List.{get_or-set_same, get_or-set_other, length-set}
use Rattle.lemmas.proofs.Elements.{slice_get-push, slice_get_push_cases}
use Rattle.verdict_laws.specs.Forward.{MadeBefore}
use Rattle.verdict_laws.specs.Registers.{IsOpenCall, IsRegisterRun, Possibility, RegisterCall, Represents, Stands, is_placed, value_after, with_placed}
use Rattle.verdict_laws.proofs.CallOrder.{call_before_return}
use Rattle.verdict_laws.proofs.FirstParts.{Reaches-first}
use Rattle.verdict_laws.proofs.RegisterCalls.{few_cpus, one_open_call, returning_is_open}
use Rattle.verdict_laws.proofs.RegisterPlaces.{HasReturned, HasReturned-next, IsOpenCall-before, IsOpenCall-next}
use Rattle.verdict_laws.proofs.Steps.{apart_places}

module _ (history : History) (is_history : IsHistory history) (register : Register) (mine : ℕ → Bool) (place cpu number : ℕ)
    (given : Reply) (returned : IsReturned history.events place cpu number given) where
  -- no other call returns there
  only_return : (other later : ℕ) (told : Reply) → IsReturned history.events place other later told → (other ≡ cpu) × (later ≡ number)
  only_return other later told is =
      let both : Some (Returned other later told) ≡ Some (Returned cpu number given) = sym is ∙ returned in
      let of_cpu : other ≡ cpu = cc in
      let numbered : later ≡ number = cc in
      (of_cpu, numbered)

  -- and none is made there
  made_before : (other later called : ℕ) (command : Command) → IsCalled history.events called other later command → called < place + 1
      → called < place
  made_before other later called command is_called below = elim (cases_lt called place) [
    | inl before ↦ before
    | inr past ↦
        let at : place ≡ called = omega (arith, past, below) in
        absurd (apart_places history.events called other later cpu number command given is_called
        (subst (λ (p : ℕ). IsReturned history.events p cpu number given) at returned))
  ]

  -- what is open behind it was open before, on another CPU
  other_open : (other later : ℕ) → IsOpenCall history.events (place + 1) other later → (other ≢ cpu) × IsOpenCall history.events place other later
  other_open other later is_open =
      let before = made_before other later is_open.called is_open.command is_open.is_called is_open.before in
      let was_open = IsOpenCall-before history.events place other later is_open before in (
        λ same.
            let mine_open = subst (λ (c : ℕ). IsOpenCall history.events place c later) same was_open in
            let numbered = one_open_call history is_history place cpu later number mine_open
            (returning_is_open history is_history place cpu number given returned) in
            let late = is_open.unreturned place given
            (subst (λ (c : ℕ). IsReturned history.events place c later given) (sym same)
            (subst (λ (n : ℕ). IsReturned history.events place cpu n given) (sym numbered) returned)) in
            omega (arith, late),
        was_open,
      )

  -- and stays open
  stays_open : (other later : ℕ) → other ≢ cpu → IsOpenCall history.events place other later → IsOpenCall history.events (place + 1) other later
  stays_open other later apart is_open =
      IsOpenCall-next history.events place other later is_open (λ told is. apart (only_return other later told is).0)

  -- what the lines come to there, without the CPU
  pub Represents-return : (lines : List Line) (possibility : Possibility) (effect : Option RegisterCall) → length possibility.placed ≡ 8
      → IsRegisterRun history.events register mine None lines (value_after effect possibility.value)
      → ((other later : ℕ) → other ≢ cpu → IsOpenCall history.events place other later
      → Stands history.events register mine lines other later → is_placed possibility other ≡ true)
      → ((other : ℕ) → other ≢ cpu → is_placed possibility other ≡ true
      → (later : ℕ) × IsOpenCall history.events place other later × Stands history.events register mine lines other later)
      → Represents history.events register mine (place + 1) lines (with_placed possibility cpu false effect)
  Represents-return lines possibility effect size run stands placed = record {
    size = length-set possibility.placed cpu false ∙ size;
    run = run;
    stands = λ other later is_open there.
        let was = other_open other later is_open in
        get_or-set_other possibility.placed cpu other false false was.0 ∙ stands other later was.0 was.1 there;
    placed = λ other is_there. elim (eqb_tells other cpu) [
      | inl same ↦
          let at = returning_is_open history is_history place cpu number given returned in
          let within = few_cpus history is_history cpu number at.called at.command at.is_called in
          let none = get_or-set_same possibility.placed cpu false false (omega (arith, within, size)) in
          let here = subst (λ (c : ℕ). is_placed (with_placed possibility cpu false effect) c ≡ true) same.1 is_there in
          absurd (false≢true (sym none ∙ here))
      | inr apart ↦
          let was = placed other apart.1 (sym (get_or-set_other possibility.placed cpu other false false apart.1) ∙ is_there) in
          (was.0, stays_open other was.0 apart.1 was.1, was.2)
    ];
  }

  -- each call that returned stands where the one that returns does
  pub HasReturned-return : (lines : List Line) → HasReturned history.events register mine place lines
      → Stands history.events register mine lines cpu number → HasReturned history.events register mine (place + 1) lines
  HasReturned-return lines before stands =
      HasReturned-next history.events register mine place lines before (λ other later told done is is_done.
      let same = only_return other later told is in
      subst (λ (c : ℕ). Stands history.events register mine lines c later) (sym same.0)
      (subst (λ (n : ℕ). Stands history.events register mine lines cpu n) (sym same.1) stands))

  -- each of them names a call that was made before the return
  pub early : (order : List Line) (i j : ℕ) (line : Line) → IsLinearization history order → i < j → slice_get order i ≡ Some line
      → slice_get order j ≡ Some (Keep cpu number) → (called : ℕ) (command : Command)
      → IsCalled history.events called (cpu_named line) (number_named line) command → called < place
  early order i j line valid below is there called command is_called = elim (cases_lt called (place + 1)) [
    | inl soon ↦ made_before (cpu_named line) (number_named line) called command is_called soon
    | inr late ↦
        absurd (valid.real_time i j line (Keep cpu number) below is there
        (record {
          returned = place;
          given = given;
          is_returned = returned;
          called = called;
          command = command;
          is_called = is_called;
          before = omega (arith, late);
        }))
  ]

  -- so does each line up to it
  pub MadeBefore-return : (front more : List Line) → IsLinearization history ((front ++ Keep cpu number ∷ []) ++ more)
      → MadeBefore history.events (front ++ Keep cpu number ∷ []) place
  MadeBefore-return front more valid other later called command is_called below =
      let keep = Keep cpu number in
      let reached = Reaches-first history is_history (front ++ keep ∷ []) more valid in
      let named = reached.1.first other later below in
      elim (slice_get_push_cases front keep named.0 named.1 named.2) [
        | inl among ↦
            let within = slice_get_within front named.0 named.1 among in
            early ((front ++ keep ∷ []) ++ more) named.0 (length front) named.1 valid within
            (slice_get-append (front ++ keep ∷ []) more named.0 named.1 named.2)
            (slice_get-append (front ++ keep ∷ []) more (length front) keep (slice_get-push front keep)) called command
            (subst (λ (c : ℕ). IsCalled history.events called c (number_named named.1) command) (sym named.3)
            (subst (λ (n : ℕ). IsCalled history.events called other n command) (sym named.4) is_called))
        | inr last ↦
            let of_cpu : other ≡ cpu = sym named.3 ∙ ap cpu_named last.1 in
            let numbered : later ≡ number = sym named.4 ∙ ap number_named last.1 in
            call_before_return history is_history cpu number called place command given
            (subst (λ (c : ℕ). IsCalled history.events called c number command) of_cpu
            (subst (λ (n : ℕ). IsCalled history.events called other n command) numbered is_called)) returned
      ]
