-- No chain of waits comes back to its start, and in a stuck world each ends at a CPU that was stopped.
use Rattle.std.proofs.Common.{◌≡◌, ℕ, zero, suc, ◌+◌, ◌*◌, ◌<◌, ◌≤◌, List, [], ◌∷◌, ◌⊎◌, inl, inr, refl, sym, subst, arith, lt_irrefl}
use Rattle.std.specs.Prelude.{Contains}
use Rattle.rmm_spec.specs.World.{World, Phase, Deciding, Decided, GivenUp, Stopped, IsGoing, IsShapedWorld}
use Rattle.rmm_spec.specs.declared.turn.Will.TheVariants.{Go}
use Rattle.rmm_spec.specs.Waits.{IsRising, WaitsFor, IsChain, HasNoCircle, IsIdle, HasReturnedAll, AreRising, WaitsBy, IsStuck, LeadsToStopped, WaitsBehindStopped}
use Rattle.spec_lemmas.proofs.Members.{Contains-nil}
use Rattle.world_laws.proofs.Locked.{IsLocked}
use Rattle.world_laws.proofs.Holding.{HoldsIn, HoldByPhase}
use Rattle.world_laws.proofs.Ranks.{rank, rank-rises, rank-bounded}

-- what the first CPU of a chain waits for
chain_head : (w : World) (first : ℕ) (others : List ℕ) (last : ℕ) → IsChain (WaitsFor w) first others last → (granule : ℕ) × IsRising w first granule
chain_head w first [] last chain = (chain.0, chain.1.rising)
chain_head w first (next ∷ others) last chain = (chain.0.0, chain.0.1.rising)

-- the first of a chain waits for what ranks below what its last waits for
chain_rises : (w : World) → IsShapedWorld w → IsLocked w → (first : ℕ) (others : List ℕ) (last : ℕ) (chain : IsChain (WaitsFor w) first others last)
    (next : ℕ) (there : IsRising w last next)
    → rank w first (chain_head w first others last chain).0 (chain_head w first others last chain).1 < rank w last next there
unfolding chain_head
chain_rises w shaped locked first [] last chain next there = rank-rises w shaped locked first last chain.0 next chain.1 there
chain_rises w shaped locked first (middle ∷ others) last chain next there =
    let head = chain_head w middle others last chain.1 in
    let here : rank w first chain.0.0 chain.0.1.rising < rank w middle head.0 head.1 =
    rank-rises w shaped locked first middle chain.0.0 head.0 chain.0.1 head.1 in
    let rest : rank w middle head.0 head.1 < rank w last next there = chain_rises w shaped locked middle others last chain.1 next there in
    omega arith

pub HasNoCircle-shaped : (w : World) → IsShapedWorld w → IsLocked w → HasNoCircle w
HasNoCircle-shaped w shaped locked = λ cpu others chain.
    let head = chain_head w cpu others cpu chain in
    lt_irrefl (rank w cpu head.0 head.1) (chain_rises w shaped locked cpu others cpu chain head.0 head.1)

-- ---- stuck worlds

-- a CPU that holds a lock and has nothing to do was stopped
idle_holder : (w : World) → HoldByPhase w → (cpu granule : ℕ) → Contains (w.taken cpu) granule → IsIdle w cpu Go → w.phase cpu ≡ Stopped
idle_holder w freed cpu granule holds (inr done) =
    let none : w.taken cpu ≡ [] = subst (λ p. HoldsIn p (w.taken cpu)) done.is_between (freed.each cpu) in
    absurd (Contains-nil granule (subst (λ held. Contains held granule) none holds))
idle_holder w freed cpu granule holds (inl ended) = by (w.phase cpu) refl
  where
    empty : w.taken cpu ≡ [] → ⊥
    empty none = Contains-nil granule (subst (λ held. Contains held granule) none holds)

    by : (p : Phase) → w.phase cpu ≡ p → p ≡ Stopped
    by (Deciding number command learnt) is = absurd (ended (subst IsGoing (sym is) tt))
    by (Decided number command given) is = absurd (ended (subst IsGoing (sym is) tt))
    by Stopped is = refl
    by _ is = absurd (empty (subst (λ p. HoldsIn p (w.taken cpu)) is (freed.each cpu)))

module _ (w : World) (shaped : IsShapedWorld w) (locked : IsLocked w) (freed : HoldByPhase w) (wants : ℕ → ℕ → Type 0) (rising : AreRising w wants)
    (stuck : IsStuck w wants) where
  -- from a CPU that waits a chain leads to one that was stopped, since ranks are bounded
  leads : (fuel cpu other granule : ℕ) (want : wants cpu granule) → Contains (w.taken other) granule
      → w.config.granules * 4096 + 5 ≤ fuel + rank w cpu granule (rising cpu granule want) → LeadsToStopped w (WaitsBy w wants) cpu
  leads zero cpu other granule want holds enough =
      absurd (omega (arith, rank-bounded w shaped cpu granule (rising cpu granule want), enough))
  leads (suc fuel) cpu other granule want holds enough =
      by (stuck other (locked.fits other granule holds))
      (λ third next want_next holds_next enough_next. leads fuel other third next want_next holds_next enough_next)
    where
      by : ((third : ℕ) × WaitsBy w wants other third) ⊎ IsIdle w other Go
          → ((third next : ℕ) (want_next : wants other next) → Contains (w.taken third) next
          → w.config.granules * 4096 + 5 ≤ fuel + rank w other next (rising other next want_next) → LeadsToStopped w (WaitsBy w wants) other)
          → LeadsToStopped w (WaitsBy w wants) cpu
      by (inl there) rest =
          let next = there.1.0 in
          let want_next = there.1.1 in
          let higher : rank w cpu granule (rising cpu granule want) < rank w other next (rising other next want_next) =
          rank-rises w shaped locked cpu other granule next
          (record { rising = rising cpu granule want; is_held = holds }) (rising other next want_next) in
          let on = rest there.0 next want_next there.1.2 (omega (arith, enough, higher)) in
          record { others = other ∷ on.others; last = on.last; chain = ((granule, want, holds), on.chain); is_stopped = on.is_stopped }
      by (inr idle) rest = record {
        others = [];
        last = other;
        chain = (granule, want, holds);
        is_stopped = idle_holder w freed other granule holds idle;
      }

  leads_on : (cpu other : ℕ) → WaitsBy w wants cpu other → LeadsToStopped w (WaitsBy w wants) cpu
  leads_on cpu other waits = leads (w.config.granules * 4096 + 5) cpu other waits.0 waits.1 waits.2 (omega arith)

  next_on : (other granule : ℕ) → Contains (w.taken other) granule → ((third : ℕ) × WaitsBy w wants other third) ⊎ IsIdle w other Go
      → (w.phase other ≡ Stopped) ⊎ LeadsToStopped w (WaitsBy w wants) other
  next_on other granule holds (inl there) = inr (leads_on other there.0 there.1)
  next_on other granule holds (inr idle) = inl (idle_holder w freed other granule holds idle)

  ended_by : ((cpu : ℕ) → w.phase cpu ≡ Stopped → ⊥) → (cpu : ℕ) → (IsGoing (w.phase cpu) → ⊥) → (p : Phase) → w.phase cpu ≡ p → w.phase cpu ≡ GivenUp
  ended_by none cpu ended GivenUp is = is
  ended_by none cpu ended Stopped is = absurd (none cpu is)
  ended_by none cpu ended _ is = absurd (ended (subst IsGoing (sym is) tt))

  without : ((cpu : ℕ) → w.phase cpu ≡ Stopped → ⊥) → (cpu : ℕ) → ((other : ℕ) × WaitsBy w wants cpu other) ⊎ IsIdle w cpu Go
      → (w.phase cpu ≡ GivenUp) ⊎ HasReturnedAll w cpu
  without none cpu (inl waits) = let on = leads_on cpu waits.0 waits.1 in absurd (none on.last on.is_stopped)
  without none cpu (inr (inl ended)) = inl (ended_by none cpu ended (w.phase cpu) refl)
  without none cpu (inr (inr done)) = inr done

  pub WaitsBehindStopped-stuck : WaitsBehindStopped w wants
  WaitsBehindStopped-stuck = record {
    each = leads_on;
    next = λ cpu other waits. next_on other waits.0 waits.2 (stuck other (locked.fits other waits.0 waits.2));
    without_stop = λ none cpu is_cpu. without none cpu (stuck cpu is_cpu);
  }
