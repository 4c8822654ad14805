-- The open claims on one granule, as claims are opened and closed.
use Rattle.std.proofs.Common.{◌≡◌, ℕ, suc, zero, ◌==◌, Bool, true, false, ◌&&◌, List, [], ◌∷◌, ◌++◌, ◌⊎◌, filter, Contains, refl, sym, ◌∙◌, ap, subst, inl, inr, arith}
use Rattle.std.proofs.lemmas.Bool.{cases_eq, and_parts, and_from, eqb-true, eq-eqb, ne_eqb}
use Rattle.std.specs.List.{AllByRecursion}
use Rattle.rmm_spec.specs.Lookup.{tag_number}
use Rattle.rmm_spec.specs.Ownership.{Claim, is_same_claim, without_claim, without_claims}
use Rattle.lemmas.proofs.Tests.{both_ways}

-- the open claims on a granule, repeats kept
abbrev pub claims_on : ℕ → List Claim → List Claim
claims_on granule held = filter (λ (c : Claim). c.granule == granule) held

-- a claim that is opened on the granule
pub claims_on-opened : (granule : ℕ) (c : Claim) (held : List Claim) → c.granule ≡ granule → claims_on granule (c ∷ held) ≡ c ∷ claims_on granule held
claims_on-opened granule c held here = rw (eq-eqb c.granule granule here) refl

-- a claim that is opened elsewhere
pub claims_on-opened_elsewhere : (granule : ℕ) (c : Claim) (held : List Claim)
    → (c.granule ≡ granule → ⊥) → claims_on granule (c ∷ held) ≡ claims_on granule held
claims_on-opened_elsewhere granule c held elsewhere = rw (ne_eqb c.granule granule elsewhere) refl

-- a claim is itself
is_same_claim-same : (c : Claim) → is_same_claim c c ≡ true
is_same_claim-same c =
    and_from (c.granule == c.granule && tag_number c.role == tag_number c.role) (c.realm == c.realm)
    (and_from (c.granule == c.granule) (tag_number c.role == tag_number c.role)
    (eq-eqb c.granule c.granule refl) (eq-eqb (tag_number c.role) (tag_number c.role) refl))
    (eq-eqb c.realm c.realm refl)

-- a claim that is closed is on its granule
is_same_claim-granule : (a b : Claim) → is_same_claim a b ≡ true → a.granule ≡ b.granule
is_same_claim-granule a b same =
    let outer = and_parts (a.granule == b.granule && tag_number a.role == tag_number b.role) (a.realm == b.realm) same in
    let inner = and_parts (a.granule == b.granule) (tag_number a.role == tag_number b.role) outer.0 in
    eqb-true a.granule b.granule inner.0

-- the first of claims is closed or another is
claims_on-closed_by : (granule : ℕ) (closed c : Claim) (claims : List Claim) (same here : Bool)
    → is_same_claim closed c ≡ same → (c.granule == granule) ≡ here
    → closed.granule ≡ granule → claims_on granule (without_claim closed claims) ≡ without_claim closed (claims_on granule claims)
    → claims_on granule (without_claim closed (c ∷ claims)) ≡ without_claim closed (claims_on granule (c ∷ claims))
claims_on-closed_by granule closed c claims true true same here on later = rw (same, here) (rw same refl)
claims_on-closed_by granule closed c claims true false same here on later =
    both_ways (eq-eqb c.granule granule (sym (is_same_claim-granule closed c same) ∙ on)) here
claims_on-closed_by granule closed c claims false true same here on later = rw (same, here) (rw same (ap (λ rest. c ∷ rest) later))
claims_on-closed_by granule closed c claims false false same here on later = rw (same, here) later

-- of the claims on a granule one is closed
claims_on-closed : (granule : ℕ) (closed : Claim) (held : List Claim) → closed.granule ≡ granule
    → claims_on granule (without_claim closed held) ≡ without_claim closed (claims_on granule held)
claims_on-closed granule closed [] on = refl
claims_on-closed granule closed (c ∷ claims) on =
    claims_on-closed_by granule closed c claims _ _ refl refl on (claims_on-closed granule closed claims on)

-- when the only claim on a granule is closed there is none
pub claims_on-closed_only : (closed : Claim) (held : List Claim) → claims_on closed.granule held ≡ closed ∷ []
    → claims_on closed.granule (without_claim closed held) ≡ []
claims_on-closed_only closed held only =
    claims_on-closed closed.granule closed held refl ∙ ap (without_claim closed) only ∙ rw (is_same_claim-same closed) refl

-- one claim more, where another granule's is closed
claims_on-closed_elsewhere_by : (granule : ℕ) (closed c : Claim) (claims : List Claim) (same here : Bool)
    → is_same_claim closed c ≡ same → (c.granule == granule) ≡ here
    → (closed.granule ≡ granule → ⊥) → claims_on granule (without_claim closed claims) ≡ claims_on granule claims
    → claims_on granule (without_claim closed (c ∷ claims)) ≡ claims_on granule (c ∷ claims)
claims_on-closed_elsewhere_by granule closed c claims true true same here elsewhere later =
    absurd (elsewhere (is_same_claim-granule closed c same ∙ eqb-true c.granule granule here))
claims_on-closed_elsewhere_by granule closed c claims true false same here elsewhere later = rw (same, here) refl
claims_on-closed_elsewhere_by granule closed c claims false true same here elsewhere later = rw (same, here) (ap (λ rest. c ∷ rest) later)
claims_on-closed_elsewhere_by granule closed c claims false false same here elsewhere later = rw (same, here) later

-- a claim that is closed elsewhere
pub claims_on-closed_elsewhere : (granule : ℕ) (closed : Claim) (held : List Claim) → (closed.granule ≡ granule → ⊥)
    → claims_on granule (without_claim closed held) ≡ claims_on granule held
claims_on-closed_elsewhere granule closed [] elsewhere = refl
claims_on-closed_elsewhere granule closed (c ∷ claims) elsewhere =
    claims_on-closed_elsewhere_by granule closed c claims _ _ refl refl elsewhere (claims_on-closed_elsewhere granule closed claims elsewhere)

-- ---- a claim among others

-- the claim is one of these
abbrev pub IsAmong : Claim → List Claim → Type 0
IsAmong c [] = ⊥
IsAmong c (d ∷ ds) = (d ≡ c) ⊎ IsAmong c ds

pub among-Contains : (c : Claim) (cs : List Claim) → IsAmong c cs → Contains cs c
among-Contains c (d ∷ ds) (inl here) = (zero, omega arith, here)
among-Contains c (d ∷ ds) (inr later) = let found = among-Contains c ds later in (suc found.0, omega arith, found.2)
among-Contains c [] among = absurd among

pub Contains-among : (c : Claim) (cs : List Claim) → Contains cs c → IsAmong c cs
Contains-among c [] (k, below, is) = absurd (omega arith)
Contains-among c (d ∷ ds) (zero, below, is) = inl is
Contains-among c (d ∷ ds) (suc k, below, is) = inr (Contains-among c ds (k, omega arith, is))

-- an open claim is among those on its granule
pub among-on : (c : Claim) (held : List Claim) → IsAmong c held → IsAmong c (claims_on c.granule held)
among-on c [] among = among
among-on c (d ∷ ds) (inl here) = rw (claims_on-opened c.granule d ds (ap (λ (x : Claim). x.granule) here)) (inl here)
among-on c (d ∷ ds) (inr later) = elim (cases_eq d.granule c.granule) [
  | inl on ↦ rw (claims_on-opened c.granule d ds on) (inr (among-on c ds later))
  | inr away ↦ rw (claims_on-opened_elsewhere c.granule d ds away) (among-on c ds later)
]

-- what is among the claims on a granule is open
pub on-among : (c : Claim) (granule : ℕ) (held : List Claim) → IsAmong c (claims_on granule held) → IsAmong c held
on-among c granule [] among = among
on-among c granule (d ∷ ds) among = elim (cases_eq d.granule granule) [
  | inl on ↦ elim (subst (IsAmong c) (claims_on-opened granule d ds on) among) [ inl here ↦ inl here | inr later ↦ inr (on-among c granule ds later) ]
  | inr away ↦ inr (on-among c granule ds (subst (IsAmong c) (claims_on-opened_elsewhere granule d ds away) among))
]

-- ---- several claims

-- none of the claims is on the granule
abbrev pub AreElsewhere : ℕ → List Claim → Type 0
AreElsewhere granule cs = AllByRecursion (λ (c : Claim). c.granule ≡ granule → ⊥) cs

-- no two of the claims are on one granule
abbrev pub AreApart : List Claim → Type 0
AreApart [] = Unit {0}
AreApart (c ∷ cs) = AllByRecursion (λ (d : Claim). (c.granule == d.granule) ≡ false) cs × AreApart cs

-- what is elsewhere is none of these
pub elsewhere-among : (c : Claim) (cs : List Claim) → AreElsewhere c.granule cs → IsAmong c cs → ⊥
elsewhere-among c [] elsewhere among = among
elsewhere-among c (d ∷ ds) (away, others) (inl here) = away (ap (λ (x : Claim). x.granule) here)
elsewhere-among c (d ∷ ds) (away, others) (inr later) = elsewhere-among c ds others later

-- claims that are apart from one on the granule are elsewhere
apart-elsewhere : (c : Claim) (cs : List Claim) (granule : ℕ)
    → c.granule ≡ granule → AllByRecursion (λ (d : Claim). (c.granule == d.granule) ≡ false) cs → AreElsewhere granule cs
apart-elsewhere c [] granule here apart = tt
apart-elsewhere c (d ∷ ds) granule here (first, others) = (
  λ on. both_ways (eq-eqb c.granule d.granule (here ∙ sym on)) first,
  apart-elsewhere c ds granule here others,
)

-- claims that are opened elsewhere
claims_on-elsewhere : (granule : ℕ) (cs held : List Claim) → AreElsewhere granule cs → claims_on granule (cs ++ held) ≡ claims_on granule held
claims_on-elsewhere granule [] held elsewhere = refl
claims_on-elsewhere granule (c ∷ cs) held (away, others) =
    claims_on-opened_elsewhere granule c (cs ++ held) away ∙ claims_on-elsewhere granule cs held others

-- of claims that are apart none is opened on the granule, or just one
pub opened_on : (P : Claim → Type 0) (granule : ℕ) (cs held : List Claim) → AllByRecursion P cs → AreApart cs
    → (AreElsewhere granule cs × (claims_on granule (cs ++ held) ≡ claims_on granule held))
    ⊎ ((c : Claim) × (c.granule ≡ granule) × P c × (claims_on granule (cs ++ held) ≡ c ∷ claims_on granule held))
opened_on P granule [] held all apart = inl (tt, refl)
opened_on P granule (c ∷ cs) held (p, all) (first, apart) = elim (cases_eq c.granule granule) [
  | inl here ↦
      inr (
        c,
        here,
        p,
        claims_on-opened granule c (cs ++ held) here
            ∙ ap (λ rest. c ∷ rest) (claims_on-elsewhere granule cs held (apart-elsewhere c cs granule here first)),
      )
  | inr away ↦
      (let same = claims_on-opened_elsewhere granule c (cs ++ held) away in
      elim (opened_on P granule cs held all apart) [
        | inl others ↦ inl ((away, others.0), same ∙ others.1)
        | inr found ↦ inr (found.0, found.1, found.2, same ∙ found.3)
      ])
]

-- where no claim is open on a granule none is closed
pub none_closed : (granule : ℕ) (cs held : List Claim) → claims_on granule held ≡ [] → claims_on granule (without_claims cs held) ≡ []
none_closed granule [] held none = none
none_closed granule (c ∷ cs) held none =
    let rest = none_closed granule cs held none in
    elim (cases_eq c.granule granule) [
      | inl here ↦ claims_on-closed granule c (without_claims cs held) here ∙ ap (without_claim c) rest
      | inr away ↦ claims_on-closed_elsewhere granule c (without_claims cs held) away ∙ rest
    ]

-- the one claim on a granule is closed, or none of the claims is on it
pub closed_on : (P : Claim → Type 0) (c : Claim) (cs held : List Claim) → claims_on c.granule held ≡ c ∷ []
    → ((d : Claim) → P d → d.granule ≡ c.granule → d ≡ c) → AllByRecursion P cs
    → (P c × (claims_on c.granule (without_claims cs held) ≡ []))
    ⊎ (AreElsewhere c.granule cs × (claims_on c.granule (without_claims cs held) ≡ c ∷ []))
closed_on P c [] held one same all = inr (tt, one)
closed_on P c (d ∷ ds) held one same (p, all) =
    let rest = without_claims ds held in
    elim (closed_on P c ds held one same all) [
      | inl gone ↦ inl (gone.0, none_closed c.granule (d ∷ []) rest gone.1)
      | inr stays ↦ elim (cases_eq d.granule c.granule) [
        | inl here ↦ (let it = same d p here in inl (rw (← it) p, rw it (claims_on-closed_only c rest stays.1)))
        | inr away ↦ inr ((away, stays.0), claims_on-closed_elsewhere c.granule d rest away ∙ stays.1)
      ]
    ]
