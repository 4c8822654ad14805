-- Rising tickets.
use Rattle.commit_tickets.proofs.Common.{◌≡◌, ℕ, suc, ◌+◌, ◌≤◌, List, [], ◌∷◌, ◌++◌, sym, subst, arith, Committed}
use Rattle.commit_tickets.specs.Told.{RiseWithin}

-- tickets below an end are below a later one
pub RiseWithin-later : (start end later : ℕ) (commits : List Committed) → end ≤ later → RiseWithin start end commits → RiseWithin start later commits
RiseWithin-later start end later [] more rise = omega (arith, rise, more)
RiseWithin-later start end later (commit ∷ commits) more rise = (rise.0, RiseWithin-later (suc commit.ticket) end later commits more rise.1)

RiseWithin-push : (start end : ℕ) (commits : List Committed) (commit : Committed) → end ≤ commit.ticket → RiseWithin start end commits
    → RiseWithin start (suc commit.ticket) (commits ++ commit ∷ [])
RiseWithin-push start end [] commit past rise = (omega (arith, rise, past), omega arith)
RiseWithin-push start end (first ∷ commits) commit past rise = (rise.0, RiseWithin-push (suc first.ticket) end commits commit past rise.1)

-- with one commit more, at the end or past it, they rise up to it
pub RiseWithin-append : (end last : ℕ) (commits new : List Committed) (commit : Committed) → end ≤ commit.ticket → last ≡ commit.ticket + 1
    → new ≡ commits ++ commit ∷ [] → RiseWithin 0 end commits → RiseWithin 0 last new
RiseWithin-append end last commits new commit past is_last is_new rise =
    let next : suc commit.ticket ≡ last = omega (arith, is_last) in
    subst (RiseWithin 0 last) (sym is_new)
    (subst (λ n. RiseWithin 0 n (commits ++ commit ∷ [])) next (RiseWithin-push 0 end commits commit past rise))
