-- Lines of an order: behind them a granule that calls left unused is so still, unless a kept call has changed it.
use Rattle.verdict_laws.proofs.Common.{◌≡◌, ℕ, Bool, true, false, List, [], ◌∷◌, map, inl, inr, ◌⊎◌, Option, Some, None, refl, sym, ◌∙◌, ap, subst, arith, slice_get, and_from, cases_Bool, or_left, or_right, false≢true, Call, Command, Event, Called, Line, Keep, Unfinished, call_of, History, IsHistory, is_accepted, IsCalled, IsReturned, IsFinished, ReturnsBefore, cpu_named, number_named, HasOnePlaces-from_history}
use Rattle.std.proofs.lemmas.Bool.{true≢false}
use Rattle.rmm_spec.specs.declared.function_id.FunctionId.{FunctionId}
use Rattle.rmm_spec.specs.declared.function_id.FunctionId.TheVariants as function
use Rattle.rmm_spec.specs.Call.{call_from}
use Rattle.rmm_spec.specs.Linearization.{NamesSame}
use Rattle.spec_lemmas.proofs.Calls.{HasOnePlaces, same_command}
use Rattle.verdict_laws.specs.Looking.{is_looking, is_looking_function}
use Rattle.verdict_laws.specs.Slices.{ChangesNothing, IsBack, IsDoneBefore, IsLastOn, IsPartBack, IsUntouched, IsUnusedAt, is_of_ended, leaves_unused, makes_part, may_change}
use Rattle.verdict_laws.proofs.CallOrder.{call_before_return}
use Rattle.verdict_laws.proofs.Moves.{Each, Pairs}
use Rattle.verdict_laws.proofs.Settled.{Apart}
use Rattle.verdict_laws.proofs.SliceLines.{Claim, Each-map, Names, OneOf, claimed_reply, commit_of, is_staying, none_of, number_of, of_named, stays}
use Rattle.verdict_laws.proofs.SliceTerms.{HasMade, IsLeftUnused, is_live_in}

-- ---- lines

-- the calls of two lines at one place are one
pub same_call : {events : List Event} (c later : Claim events) → c.is_entry.called ≡ later.is_entry.called → NamesSame c.line later.line
same_call {events} c later at =
    let both : Some (Called (cpu_named c.line) (number_named c.line) c.entry.command)
    ≡ Some (Called (cpu_named later.line) (number_named later.line) later.entry.command) =
    sym c.is_entry.is_called ∙ ap (λ (p : ℕ). slice_get events p) at ∙ later.is_entry.is_called in (cc, cc)

-- where a kept call's commit doesn't stay, it is refused
pub refused : (line : Line) (new : ℕ) (accepted : Bool) → stays line (Some new) accepted ≡ false → accepted ≡ false
refused (Keep cpu number) new accepted staying = absurd (true≢false staying)
refused (Unfinished cpu number claimed) new accepted staying = staying

-- a call that only looks makes and ends nothing
looking-of_ended : (command : Command) (ending : Call) → is_looking command ≡ true → is_of_ended (call_of command) ending ≡ false
unfolding call_from is_of_ended
looking-of_ended command ending looking = by command.function looking
  where
    by : (f : FunctionId) → is_looking_function f ≡ true → is_of_ended (call_from f command.words.items) ending ≡ false
    by function.RttReadEntry looks = refl
    by function.MeasurementRead looks = refl
    by function.RealmConfig looks = refl
    by function.IpaStateGet looks = refl
    by _ looks = absurd (false≢true looks)

-- the claim's call is the one that is made at the place, or returned before it
abbrev IsBy : {events : List Event} → ℕ → Claim events → Type 0
IsBy {events} place c = (c.is_entry.called ≡ place) ⊎ IsBack events (cpu_named c.line) (number_named c.line) place

module _ (history : History) where
  -- lines of an order in two parts, the first with the latest line first
  pub record AreParts (before rest : List (Claim history.events)) : Type 0 where
    pub back : Pairs (λ later c. Apart history.events c.line later.line) before
    pub across : Each (λ later. Each (λ c. Apart history.events c.line later.line) before) rest
    pub pairs : Pairs (λ c later. Apart history.events c.line later.line) rest
    pub complete : (cpu number : ℕ) → IsFinished history.events cpu number → OneOf (Names cpu number) before ⊎ OneOf (Names cpu number) rest

  -- the latest line of the first part is the first of the other
  AreParts-last : (before rest : List (Claim history.events)) (c : Claim history.events) → AreParts (c ∷ before) rest → AreParts before (c ∷ rest)
  AreParts-last before rest c parts = record {
    back = parts.back.1;
    across = (parts.back.0, Each-map _ _ (λ later apart. apart.1) rest parts.across);
    pairs = (Each-map _ _ (λ later apart. apart.0) rest parts.across, parts.pairs);
    complete = λ cpu number finished. elim (parts.complete cpu number finished) [
      | inl (inl here) ↦ inr (inl here)
      | inl (inr below) ↦ inl below
      | inr later ↦ inr (inr later)
    ];
  }

  module _ (is_history : IsHistory history) where
    -- each call has one place
    one : HasOnePlaces history.events
    one = HasOnePlaces-from_history history is_history

    -- a call that returned before the place of the line's call did so before that was made
    pub returns_before : (cpu number : ℕ) (c : Claim history.events) → IsBack history.events cpu number c.is_entry.called
        → ReturnsBefore history.events cpu number (cpu_named c.line) (number_named c.line)
    returns_before cpu number c back = record {
      returned = back.0;
      given = back.1;
      is_returned = back.2;
      called = c.is_entry.called;
      command = c.entry.command;
      is_called = c.is_entry.is_called;
      before = back.3;
    }

    -- the call that the line names was made at its place, with its command
    pub named_call : (c : Claim history.events) (cpu number place : ℕ) (command : Command) → IsCalled history.events place cpu number command
        → Names cpu number c → (c.is_entry.called ≡ place) × (c.entry.command ≡ command)
    named_call c cpu number place command is_called is =
        let there = of_named (λ x y. IsCalled history.events place x y command) cpu number c is is_called in (
          one.one_call c.is_entry.called place (cpu_named c.line) (number_named c.line) c.entry.command command c.is_entry.is_called there,
          same_command history.events one c.is_entry.called place (cpu_named c.line) (number_named c.line) c.entry.command command
              c.is_entry.is_called there,
        )

    -- the commit of a call that changes nothing only looks, or is refused, if not something else
    pub comes_to_nothing : (Other : Type 0) (c : Claim history.events)
        → ChangesNothing history.events (cpu_named c.line) (number_named c.line) c.entry.command
        → (is_looking c.entry.command ≡ true) ⊎ ((is_accepted c.entry.given ≡ false) ⊎ Other)
    comes_to_nothing Other c (inl looking) = inl looking
    comes_to_nothing Other c (inr refusal) =
        let same = claimed_reply history.events one c.line c.kind c.entry.given refusal.1 refusal.0 c.is_entry.given refusal.2 in
        inr (inl (ap is_accepted same ∙ refusal.3))

    -- a call that returned before the line's was made is of an earlier line
    pub earlier : (before rest : List (Claim history.events)) (x : Claim history.events) → AreParts before (x ∷ rest) → (cpu number : ℕ)
        → ReturnsBefore history.events cpu number (cpu_named x.line) (number_named x.line) → OneOf (Names cpu number) before
    earlier before rest x parts cpu number returns =
        elim (parts.complete cpu number (returns.returned, returns.given, returns.is_returned)) [
          | inl there ↦ there
          | inr (inl itself) ↦
              let told = of_named (λ a b. IsReturned history.events returns.returned a b returns.given) cpu number x itself returns.is_returned in
              let behind = call_before_return history is_history (cpu_named x.line) (number_named x.line) returns.called returns.returned
              returns.command returns.given returns.is_called told in
              absurd (omega (arith, behind, returns.before))
          | inr (inr behind) ↦
              absurd (none_of (Names cpu number) rest (Each-map _ _ (λ c apart is.
              apart.1 (of_named (λ a b. ReturnsBefore history.events a b (cpu_named x.line) (number_named x.line)) cpu number c is returns))
              rest parts.pairs.0) behind)
        ]

    -- ---- calls that were carried out

    module _ (place : ℕ) (call : IsDoneBefore history.events place) where
      -- a line that names the call claims its commit
      done : (c : Claim history.events) → Names call.cpu call.number c
          → (c.is_entry.called ≡ call.called) × (c.entry.command ≡ call.command) × (c.entry.given ≡ call.given)
      done c is =
          let made = named_call c call.cpu call.number call.called call.command call.is_called is in (
            made.0,
            made.1,
            claimed_reply history.events one c.line c.kind c.entry.given call.given call.returned c.is_entry.given
                (of_named (λ x y. IsReturned history.events call.returned x y call.given) call.cpu call.number c is call.is_returned),
          )

      -- where a line's call is made at the place, one of the earlier lines names it
      done_earlier : (before rest : List (Claim history.events)) (x : Claim history.events) → AreParts before (x ∷ rest)
          → x.is_entry.called ≡ place → OneOf (Names call.cpu call.number) before
      done_earlier before rest x parts at = earlier before rest x parts call.cpu call.number (returns_before call.cpu call.number x
          (subst (IsBack history.events call.cpu call.number) (sym at) (call.returned, call.given, call.is_returned, call.back)))

      -- a line behind the one that names it is of another call, which didn't return before it either
      not_by : (c : Claim history.events) (cs : List (Claim history.events)) → Each (λ d. Apart history.events d.line c.line) cs
          → OneOf (Names call.cpu call.number) cs → ¬ IsBy call.called c
      not_by c cs apart there by = none_of (Names call.cpu call.number) cs (Each-map _ _ (λ d far is.
          let at = (done d is).0 in
          elim by [
            | inl same ↦ far.0 (same_call d c (at ∙ sym same))
            | inr back ↦
                far.1 (returns_before (cpu_named c.line) (number_named c.line) d
                (subst (IsBack history.events (cpu_named c.line) (number_named c.line)) (sym at) back))
          ]) cs apart) there

      -- what is so from one of the lines on is so of them all, where it stays so with each that comes later than the call's
      since : (P : Claim history.events → Type 0) (Q : List (Claim history.events) → Type 0)
          → ((c : Claim history.events) (cs rest : List (Claim history.events)) → AreParts cs (c ∷ rest) → P c
          → OneOf (Names call.cpu call.number) (c ∷ cs) × Q (c ∷ cs))
          → ((c : Claim history.events) (cs : List (Claim history.events)) → ¬ IsBy call.called c → Q cs → Q (c ∷ cs))
          → (cs rest : List (Claim history.events)) → AreParts cs rest → OneOf P cs → OneOf (Names call.cpu call.number) cs × Q cs
      since P Q stop pass [] rest parts there = absurd there
      since P Q stop pass (c ∷ cs) rest parts (inl is) = stop c cs rest (AreParts-last cs rest c parts) is
      since P Q stop pass (c ∷ cs) rest parts (inr there) =
          let below = since P Q stop pass cs (c ∷ rest) (AreParts-last cs rest c parts) there in
          (inr below.0, pass c cs (not_by c cs parts.back.0 below.0) below.1)

    module _ (numbers : ℕ → Option ℕ) (g : ℕ) where
      -- ---- what a realm or a REC that was ended was made of

      module _ (place : ℕ) (part : IsPartBack history.events numbers place g) (e : Claim history.events)
          (is : Names part.ender.cpu part.ender.number e) where
        -- a line between the maker's and the ender's is refused, or makes or ends nothing of that
        of_others : (c : Claim history.events) → Apart history.events c.line e.line → ¬ IsBy part.maker.called c
            → (is_accepted c.entry.given ≡ false) ⊎ (is_of_ended (call_of c.entry.command) (call_of part.ender.command) ≡ false)
        of_others c apart not_made = elim (cases_Bool (is_of_ended (call_of c.entry.command) (call_of part.ender.command))) [
          | inr other ↦ inr other
          | inl same ↦
              elim (part.alone c.is_entry.called (cpu_named c.line) (number_named c.line) c.entry.command c.is_entry.is_called same) [
                | inl nothing ↦ elim (comes_to_nothing ⊥ c nothing) [
                  | inl looking ↦ inr (looking-of_ended c.entry.command (call_of part.ender.command) looking)
                  | inr (inl refusal) ↦ inl refusal
                  | inr (inr other) ↦ absurd other
                ]
                | inr (inl made) ↦ absurd (not_made (inl made))
                | inr (inr (inl ended)) ↦ absurd (apart.0 (same_call c e (ended ∙ sym (done place part.ender e is).0)))
                | inr (inr (inr (inl back))) ↦ absurd (not_made (inr back))
                | inr (inr (inr (inr late))) ↦
                    absurd (apart.1 (of_named (λ x y. ReturnsBefore history.events x y (cpu_named c.line) (number_named c.line)) part.ender.cpu
                    part.ender.number e is (returns_before part.ender.cpu part.ender.number c
                    (part.ender.returned, part.ender.given, part.ender.is_returned, late))))
              ]
        ]

        -- one of the lines before the ender's is the maker's, and that is the latest which makes or ends the same
        has_made : (es rest : List (Claim history.events)) → AreParts es (e ∷ rest)
            → OneOf (Names part.maker.cpu part.maker.number) es × HasMade (map (commit_of numbers) es) (call_of e.entry.command) g
        has_made es rest parts =
            let ended = done place part.ender e is in
            let maker = part.maker in
            let made = since part.ender.called maker (Names maker.cpu maker.number)
            (λ cs. Each (λ c. Apart history.events c.line e.line) cs → HasMade (map (commit_of numbers) cs) (call_of part.ender.command) g)
            (λ c cs more parts names.
            let same = done part.ender.called maker c names in (
              inl names,
              λ apart. inl (
                ap is_accepted same.2 ∙ maker.accepted,
                ap (λ (x : Command). makes_part (call_of x) (call_of part.ender.command) g) same.1 ∙ part.makes,
              ),
            ))
            (λ c cs not_made made apart. inr (of_others c apart.0 not_made, made apart.1))
            es (e ∷ rest) parts (done_earlier part.ender.called maker es rest e parts ended.0) in
            (made.0, subst (λ (x : Command). HasMade (map (commit_of numbers) es) (call_of x) g) (sym ended.1) (made.1 parts.across.0))

      -- ---- granules that were left unused

      -- one of the commits is live at the granule, or they leave it unused
      abbrev IsLiveOrUnused : Bool → List (Claim history.events) → Type 0
      IsLiveOrUnused lent cs =
          (is_live_in (map (commit_of numbers) cs) g ≡ true) ⊎ IsLeftUnused (map (commit_of numbers) cs) g lent

      -- the call changes nothing if it isn't kept and may change the granule
      abbrev PassesBy : Claim history.events → Type 0
      PassesBy c = number_of numbers c ≡ None → may_change (call_of c.entry.command) g ≡ true
          → ChangesNothing history.events (cpu_named c.line) (number_named c.line) c.entry.command

      -- so it is with one more such call
      behind : (lent : Bool) (c : Claim history.events) (cs : List (Claim history.events)) → PassesBy c → IsLiveOrUnused lent cs
          → IsLiveOrUnused lent (c ∷ cs)
      behind lent c cs nothing (inl live) = inl (or_right _ _ live)
      behind lent c cs nothing (inr unused) = elim (cases_Bool (may_change (call_of c.entry.command) g)) [
        | inl changes ↦ by (number_of numbers c) (is_staying numbers c) refl refl changes
        | inr other ↦ inr (inr (inr (inr (inr other), unused)))
      ]
        where
          by : (o : Option ℕ) (staying : Bool) → number_of numbers c ≡ o → stays c.line o (is_accepted c.entry.given) ≡ staying
              → may_change (call_of c.entry.command) g ≡ true → IsLiveOrUnused lent (c ∷ cs)
          by None staying is stay changes = inr (inr (inr (comes_to_nothing _ c (nothing is changes), unused)))
          by (Some new) true is stay changes =
              inl (or_left _ _ (and_from _ _ (ap (λ (o : Option ℕ). stays c.line o (is_accepted c.entry.given)) is ∙ stay) changes))
          by (Some new) false is stay changes =
              inr (inr (inr (inr (inl (refused c.line new (is_accepted c.entry.given) stay)), unused)))

      -- so it is with one that comes later than the last on the granule
      behind_last : (last : ℕ) (lent : Bool) → IsLastOn history.events numbers g last → (c : Claim history.events) (cs : List (Claim history.events))
          → ¬ IsBy last c → IsLiveOrUnused lent cs → IsLiveOrUnused lent (c ∷ cs)
      behind_last last lent is_last c cs later = behind lent c cs (λ none changes.
          elim (is_last c.is_entry.called (cpu_named c.line) (number_named c.line) c.entry.command c.is_entry.is_called none changes) [
            | inl nothing ↦ nothing
            | inr by ↦ absurd (later by)
          ])

      -- so it is where no call that isn't kept has changed the granule
      untouched : (lent : Bool) → IsUntouched history.events numbers g → lent ≡ false → (cs : List (Claim history.events)) → IsLiveOrUnused lent cs
      untouched lent nothing none [] = inr none
      untouched lent nothing none (c ∷ cs) = behind lent c cs
          (nothing c.is_entry.called (cpu_named c.line) (number_named c.line) c.entry.command c.is_entry.is_called) (untouched lent nothing none cs)

      -- and behind the lines before that of a call at whose place it is unused
      pub unused_before : (before rest : List (Claim history.events)) (x : Claim history.events) (lent : Bool) → AreParts before (x ∷ rest)
          → IsUnusedAt history.events numbers x.is_entry.called g lent
          → (is_live_in (map (commit_of numbers) before) g ≡ true) ⊎ IsLeftUnused (map (commit_of numbers) before) g lent
      unused_before before rest x lent parts (inl up) =
          let giver = up.giver in
          let place = x.is_entry.called in
          (since place giver (Names giver.cpu giver.number) (IsLiveOrUnused lent)
          (λ c cs more parts is.
          let same = done place giver c is in (
            inl is,
            inr (inl (
              ap is_accepted same.2 ∙ giver.accepted,
              (λ i. leaves_unused (call_of (same.1 i)) (same.2 i) g lent) ∙ up.leaves,
            )),
          ))
          (behind_last giver.called lent up.last) before (x ∷ rest) parts (done_earlier place giver before rest x parts refl)).1
      unused_before before rest x lent parts (inr (inl (part, is_lent))) =
          let ender = part.ender in
          let place = x.is_entry.called in
          (since ender.called part.maker (Names ender.cpu ender.number) (IsLiveOrUnused lent)
          (λ e es more parts is.
          let made = has_made place part e is es more parts in
          (inr made.0, inr (inr (inl (ap is_accepted (done place ender e is).2 ∙ ender.accepted, made.1, is_lent)))))
          (behind_last part.maker.called lent part.last) before (x ∷ rest) parts (done_earlier place ender before rest x parts refl)).1
      unused_before before rest x lent parts (inr (inr (nothing, none))) = untouched lent nothing none before
