-- Lines of an order as commits of a slice: each fits behind those before it.
use Rattle.verdict_laws.proofs.Common.{◌≡◌, ℕ, ◌&&◌, Bool, true, false, List, [], ◌∷◌, map, inl, inr, ◌⊎◌, Option, Some, None, refl, sym, ◌∙◌, ap, subst, and_parts, false_from_ne_true, false≢true, or_left, or_right, Command, Event, Line, Keep, Unfinished, Reply, call_of, History, IsHistory, is_accepted, IsCalled, IsReturned, IsFinished, cpu_named, number_named}
use Rattle.std.specs.Option.{IsSome}
use Rattle.std.proofs.lemmas.Bool.{or_from}
use Rattle.rmm_spec.specs.declared.reply.Reply.TheVariants as reply
use Rattle.rmm_spec.specs.Linearization.{IsReplyOf}
use Rattle.verdict_laws.specs.Slices.{IsBack, IsCut, IsKeptReply, IsKnownAt, is_lent, may_change, shows_names}
use Rattle.verdict_laws.proofs.CallOrder.{returns_before_later}
use Rattle.verdict_laws.proofs.Moves.{Each}
use Rattle.verdict_laws.proofs.SliceLines.{Claim, Each-map, Names, OneOf, OneOf-map, commit_of, entered_next, is_staying, number_below, number_of, of_named, stays, stays-finished}
use Rattle.verdict_laws.proofs.SliceTerms.{AllFit, Fits, FitsKept, IsLeft, is_entered_in, is_live_in}
use Rattle.verdict_laws.proofs.SliceUnused.{AreParts, comes_to_nothing, earlier, named_call, refused, returns_before, unused_before}

-- ---- lists

-- each is what both say of it
Each-both : {X : Type 0} (P Q : X → Type 0) (xs : List X) → Each P xs → Each Q xs → Each (λ x. P x × Q x) xs
Each-both P Q [] each also = tt
Each-both P Q (x ∷ xs) each also = ((each.0, also.0), Each-both P Q xs each.1 also.1)

-- ---- lines

-- where a kept call's commit stays, it is recorded, or carried out
replied : (events : List Event) (line : Line) (given : Reply) → IsReplyOf events line given → (new : ℕ)
    → stays line (Some new) (is_accepted given) ≡ true
    → ((place : ℕ) × IsReturned events place (cpu_named line) (number_named line) given) ⊎ (is_accepted given ≡ true)
replied events (Keep cpu number) given is new staying = inl is
replied events (Unfinished cpu number claimed) given is new staying = inr staying

-- what is carried out may be replied to a kept call
IsKeptReply-accepted : (command : Command) (given : Reply) → is_accepted given ≡ true → IsKeptReply (call_of command) given
IsKeptReply-accepted command (reply.Ok words) accepted = tt
IsKeptReply-accepted command (reply.Err status index) accepted = absurd (false≢true accepted)
IsKeptReply-accepted command reply.Misplaced accepted = absurd (false≢true accepted)

-- and shows what its call names
shows_names-accepted : (given : Reply) → is_accepted given ≡ true → shows_names given ≡ true
shows_names-accepted (reply.Ok words) accepted = refl
shows_names-accepted (reply.Err status index) accepted = absurd (false≢true accepted)
shows_names-accepted reply.Misplaced accepted = absurd (false≢true accepted)

-- ---- commits

-- a line that stays is of a call that has a number
stays-some : (line : Line) (o : Option ℕ) (accepted : Bool) → stays line o accepted ≡ true → IsSome o
stays-some line None accepted staying = absurd (false≢true staying)
stays-some line (Some new) accepted staying = refl

module _ (history : History) (numbers : ℕ → Option ℕ) where
  -- the commit is live at the granule
  abbrev IsLive : ℕ → Claim history.events → Type 0
  IsLive g c = (is_staying numbers c && may_change (call_of c.entry.command) g) ≡ true

  -- where one commit is live
  live-any : (cs : List (Claim history.events)) (g : ℕ) → OneOf (IsLive g) cs → is_live_in (map (commit_of numbers) cs) g ≡ true
  live-any [] g any = absurd any
  live-any (c ∷ cs) g (inl here) = or_left _ _ here
  live-any (c ∷ cs) g (inr there) = or_right _ _ (live-any cs g there)

  -- where none is
  live-none : (cs : List (Claim history.events)) (g : ℕ) → Each (λ c. ¬ IsLive g c) cs → is_live_in (map (commit_of numbers) cs) g ≡ false
  live-none [] g each = refl
  live-none (c ∷ cs) g each = or_from _ _ (false_from_ne_true _ each.0) (live-none cs g each.1)

  -- the next line is the latest of the first part
  AreParts-next : (before rest : List (Claim history.events)) (c : Claim history.events) → AreParts history before (c ∷ rest)
      → AreParts history (c ∷ before) rest
  AreParts-next before rest c parts = record {
    back = (parts.across.0, parts.back);
    across = Each-both _ _ rest parts.pairs.0 parts.across.1;
    pairs = parts.pairs.1;
    complete = λ cpu number finished. elim (parts.complete cpu number finished) [
      | inl there ↦ inl (inr there)
      | inr (inl here) ↦ inl (inl here)
      | inr (inr behind) ↦ inr behind
    ];
  }

  module _ (is_history : IsHistory history) (lent : List ℕ) (entered : ℕ → Bool) (is_cut : IsCut history numbers lent entered) where
    module _ (before rest : List (Claim history.events)) (x : Claim history.events) (parts : AreParts history before (x ∷ rest)) where
      -- a call that has a number and returned before the line's was made is of an earlier line that stays
      earlier_commit : (cpu number place : ℕ) (command : Command) → IsCalled history.events place cpu number command → IsSome (numbers place)
          → IsBack history.events cpu number x.is_entry.called
          → OneOf (λ c. (is_staying numbers c ≡ true) × (c.entry.command ≡ command)) before
      earlier_commit cpu number place command is_called some back = OneOf-map (Names cpu number) _ (λ c is.
          let call = named_call history is_history c cpu number place command is_called is in
          let finished = of_named (IsFinished history.events) cpu number c is (back.0, back.1, back.2) in (
            stays-finished history.events c.line (number_of numbers c) (is_accepted c.entry.given)
                (subst (λ (p : ℕ). IsSome (numbers p)) (sym call.0) some) c.kind finished,
            call.1,
          )) before
          (earlier history is_history before rest x parts cpu number (returns_before history is_history cpu number x back))

      -- no kept call that may change the granule is of an earlier line
      none_live : (g : ℕ) → ((c : Claim history.events) → IsSome (number_of numbers c) → may_change (call_of c.entry.command) g ≡ true
          → IsBack history.events (cpu_named x.line) (number_named x.line) c.is_entry.called) → is_live_in (map (commit_of numbers) before) g ≡ false
      none_live g back = live-none before g (Each-map _ _ (λ c apart live.
          let is = and_parts (is_staying numbers c) (may_change (call_of c.entry.command) g) live in
          let some = stays-some c.line (number_of numbers c) (is_accepted c.entry.given) is.0 in
          apart.1 (returns_before history is_history (cpu_named x.line) (number_named x.line) c (back c some is.1))) before parts.across.0)

      -- the CPU is inside of a REC behind the earlier lines where the line's call is made inside of one
      entered_before : is_entered_in (map (commit_of numbers) before) x.entry.cpu ≡ entered x.is_entry.called
      entered_before = ap (is_entered_in (map (commit_of numbers) before)) x.is_entry.cpu
          ∙ entered_next history is_history numbers entered is_cut.inside before parts.back x.is_entry.called (cpu_named x.line) (number_named x.line)
          x.entry.command x.is_entry.is_called (record {
            below = Each-map _ _ (λ c. number_below history is_history c x) before parts.across.0;
            first = λ m below. earlier history is_history before rest x parts (cpu_named x.line) m
                (returns_before_later history is_history (cpu_named x.line) m (number_named x.line) below
                (x.is_entry.called, x.entry.command, x.is_entry.is_called));
          })

      -- what has no number comes to nothing
      left : number_of numbers x ≡ None → IsLeft (map (commit_of numbers) before) x.entry
      left none =
          elim (is_cut.left x.is_entry.called (cpu_named x.line) (number_named x.line) x.entry.command x.is_entry.is_called none) [
            | inl nothing ↦ comes_to_nothing history is_history _ x nothing
            | inr early ↦ inr (inr (
              λ g changes. none_live g (λ c.
                  early.0 g changes c.is_entry.called (cpu_named c.line) (number_named c.line) c.entry.command c.is_entry.is_called),
              entered_before ∙ early.1,
            ))
          ]

      -- what a kept call knows is live
      known_live : (g : ℕ) → IsKnownAt history.events numbers x.is_entry.called g → is_live_in (map (commit_of numbers) before) g ≡ true
      known_live g known = live-any before g (OneOf-map _ (IsLive g) (λ c is.
          (λ i. is.0 i && may_change (call_of (is.1 i)) g) ∙ known.changes) before
          (earlier_commit known.cpu known.number known.called known.command known.is_called known.kept known.back))

      -- a kept line's commit fits
      kept : (new : ℕ) → number_of numbers x ≡ Some new → stays x.line (Some new) (is_accepted x.entry.given) ≡ true
          → FitsKept lent (map (commit_of numbers) before) x.entry
      kept new is staying =
          let call = is_cut.kept x.is_entry.called (cpu_named x.line) (number_named x.line) x.entry.command x.is_entry.is_called
          (subst IsSome (sym is) refl) in
          let reply = replied history.events x.line x.entry.given x.is_entry.given new staying in
          record {
            reply = elim reply [
              | inl told ↦ call.replies told.0 x.entry.given told.1
              | inr accepted ↦ IsKeptReply-accepted x.entry.command x.entry.given accepted
            ];
            knows = λ n has. elim (call.knows n has) [
              | inl known ↦ inl (known_live n.granule known)
              | inr (inl unused) ↦ inr (inl (
                unused.0,
                elim reply [
                  | inl told ↦ unused.1 told.0 x.entry.given told.1
                  | inr accepted ↦ shows_names-accepted x.entry.given accepted
                ],
              ))
              | inr (inr left) ↦ elim (unused_before history is_history numbers n.granule before rest x (is_lent lent n.granule) parts left) [
                | inl live ↦ inl live
                | inr unused ↦ inr (inr unused)
              ]
            ];
            inside = λ of_realm. entered_before ∙ call.inside of_realm;
          }

      -- the commit fits, where its line stays and where not
      fits : (staying : Bool) (o : Option ℕ) → number_of numbers x ≡ o → stays x.line o (is_accepted x.entry.given) ≡ staying
          → Fits lent (map (commit_of numbers) before) staying x.entry
      fits true None is staying = absurd (false≢true staying)
      fits true (Some new) is staying = kept new is staying
      fits false None is staying = left is
      fits false (Some new) is staying = inr (inl (refused x.line new (is_accepted x.entry.given) staying))

    -- each of the commits fits behind those before it
    pub AllFit-from_order : (before rest : List (Claim history.events)) → AreParts history before rest
        → AllFit lent (map (commit_of numbers) before) (map (commit_of numbers) rest)
    AllFit-from_order before [] parts = tt
    AllFit-from_order before (c ∷ rest) parts = (
      fits before rest c parts (is_staying numbers c) (number_of numbers c) refl refl,
      AllFit-from_order (c ∷ before) rest (AreParts-next before rest c parts),
    )
