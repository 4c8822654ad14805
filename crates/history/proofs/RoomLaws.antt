-- Laws on the room of the subhistories.
use Rattle.std.proofs.Common.{◌≡◌, ℕ, zero, suc, ◌+◌, ◌-◌, ◌<◌, ◌≤◌, List, [], ◌∷◌, length, get_or, set, arith, sym, subst, ⊎_elim}
use Rattle.std.proofs.lemmas.Bool.{cases_eq}
use Rattle.std.proofs.lemmas.List.{get_or-set_same, get_or-set_other, length-set}
use Rattle.std.proofs.Math.Nat.{min-le_left, min-le_right, le-min}
use Rattle.history.specs.declared.subhistory.Subhistory.{Subhistory}
use Rattle.history.specs.Room.{spare, least_spare}

pub least_spare-limit : (limit : ℕ) (subhistories : List Subhistory) → least_spare limit subhistories ≤ limit
least_spare-limit limit [] = omega arith
least_spare-limit limit (subhistory ∷ subhistories) =
    omega (arith, min-le_right (spare subhistory.places) (least_spare limit subhistories), least_spare-limit limit subhistories)

pub least_spare-each : (limit : ℕ) (subhistories : List Subhistory) (k : ℕ) (other : Subhistory)
    → k < length subhistories → least_spare limit subhistories ≤ spare (get_or subhistories k other).places
least_spare-each limit [] k other within = absurd (omega arith)
least_spare-each limit (subhistory ∷ subhistories) zero other within = min-le_left (spare subhistory.places) (least_spare limit subhistories)
least_spare-each limit (subhistory ∷ subhistories) (suc k) other within =
    omega (arith, min-le_right (spare subhistory.places) (least_spare limit subhistories), least_spare-each limit subhistories k other (omega arith))

pub le-least_spare : (n limit : ℕ) (subhistories : List Subhistory)
    → n ≤ limit → ((k : ℕ) (other : Subhistory) → k < length subhistories → n ≤ spare (get_or subhistories k other).places)
    → n ≤ least_spare limit subhistories
le-least_spare n limit [] below each = below
le-least_spare n limit (subhistory ∷ subhistories) below each =
    le-min (each 0 subhistory (omega arith)) (le-least_spare n limit subhistories below (λ k other within. each (suc k) other (omega arith)))

-- subhistories that have no less room
pub room_grows : (limit more : ℕ) (old new : List Subhistory) → length old ≡ 8 → length new ≡ 8 → limit ≤ more
    → ((k : ℕ) (other : Subhistory) → k < 8 → spare (get_or old k other).places ≤ spare (get_or new k other).places)
    → least_spare limit old ≤ least_spare more new
room_grows limit more old new counted new_counted grows each =
    le-least_spare (least_spare limit old) more new (omega (arith, least_spare-limit limit old))
    (λ k other within. omega (arith, least_spare-each limit old k other (omega arith), each k other (omega arith)))

-- subhistories that each have room
pub room_made : (limit : ℕ) (subhistories : List Subhistory) → length subhistories ≡ 8 → 1 ≤ limit
    → ((k : ℕ) (other : Subhistory) → k < 8 → 1 ≤ spare (get_or subhistories k other).places) → 1 ≤ least_spare limit subhistories
room_made limit subhistories counted some each = le-least_spare 1 limit subhistories some (λ k other within. each k other (omega arith))

-- a subhistory that takes one more place
pub room_left : (limit more : ℕ) (subhistories : List Subhistory) (at : ℕ) (other new : Subhistory) → at < length subhistories → limit ≤ more + 1
    → spare (get_or subhistories at other).places ≤ spare new.places + 1
    → least_spare limit subhistories ≤ least_spare more (set subhistories at new) + 1
room_left limit more subhistories at other new within fewer entered =
    let room = least_spare limit subhistories in
    let left : room - 1 ≤ least_spare more (set subhistories at new) =
    le-least_spare (room - 1) more (set subhistories at new) (omega (arith, least_spare-limit limit subhistories))
    (λ k another below. ⊎_elim
    (λ (here : k ≡ at).
    subst (λ (i : ℕ). room - 1 ≤ spare (get_or (set subhistories at new) i another).places) (sym here)
    (subst (λ (d : Subhistory). room - 1 ≤ spare d.places) (sym (get_or-set_same subhistories at new another within))
    (omega (arith, least_spare-each limit subhistories at other within))))
    (λ (elsewhere : k ≡ at → ⊥).
    subst (λ (d : Subhistory). room - 1 ≤ spare d.places) (sym (get_or-set_other subhistories at k new another elsewhere))
    (omega (arith, least_spare-each limit subhistories k another (omega (arith, length-set subhistories at new)))))
    (cases_eq k at)) in
    omega (arith, left)

-- each subhistory has what all have
pub room_at : (limit : ℕ) (subhistories : List Subhistory) (at : ℕ) (other : Subhistory)
    → at < length subhistories → 1 ≤ least_spare limit subhistories → 1 ≤ spare (get_or subhistories at other).places
room_at limit subhistories at other within some = omega (arith, least_spare-each limit subhistories at other within)
