-- The open claims are the ties of the state, each once: kept by a change that opens and closes as ties come and go.
use Rattle.rmm_laws.proofs.Common.{◌++◌, ◌∙◌, ◌∷◌, ◌≡◌, ◌⊎◌, Claim, Delegated, IsSound, JournalEntry, List, State, [], ap, arith, claim, inl, inr, refl, subst, sym, tag-has_tag, ℕ}
use Rattle.std.proofs.Common.{Contains}
use Rattle.std.specs.List.{AllByRecursion}
use Rattle.rmm_spec.specs.Ownership.{claims, without_claims, owners, IsTied, Spot, IsIsolated}
use Rattle.rmm_laws.proofs.Claims.{claims_on, among-Contains, Contains-among, among-on, on-among, AreElsewhere, AreApart, IsAmong, elsewhere-among, opened_on, none_closed, closed_on}
use Rattle.rmm_laws.proofs.Ties.{IsUnused, tied-tag, tied-used, tied-once}

-- a claim that the state has
abbrev pub IsKept : State → Claim → Type 0
IsKept s c = IsTied c.role s c.granule c.realm

-- a granule has no owner and is not in use, or one owner, to whom it is tied
abbrev pub IsOwned : List Claim → State → ℕ → Type 0
IsOwned held s granule =
    ((claims_on granule held ≡ []) × IsUnused (s.tag granule))
    ⊎ ((c : Claim) × (c.granule ≡ granule) × (claims_on granule held ≡ c ∷ []) × IsKept s c)

pub record AreOwned (held : List Claim) (s : State) : Type 0 where
  pub each : (granule : ℕ) → IsOwned held s granule

-- What a change opens waited for use and is tied then, what it closes was tied and is unused then, and all else stays.
pub record Accounts (old new : State) (opens closes : List Claim) : Type 0 where
  pub opened : AllByRecursion (λ (c : Claim). (old.tag c.granule ≡ Delegated) × IsKept new c) opens
  pub apart : AreApart opens
  pub closed : AllByRecursion (λ (c : Claim). IsKept old c × IsUnused (new.tag c.granule)) closes
  pub kept : (c : Claim) → IsKept old c → IsKept new c ⊎ IsAmong c closes
  pub unused : (granule : ℕ) → IsUnused (old.tag granule) → AreElsewhere granule opens → IsUnused (new.tag granule)

-- ---- one owner

-- claims with equal parts are one
same_claim : (a b : Claim) → a.granule ≡ b.granule → a.role ≡ b.role → a.realm ≡ b.realm → a ≡ b
same_claim a b granule role realm = λ i. record { granule = granule i; role = role i; realm = realm i }

-- what a granule is tied for is one claim
kept-once : (s : State) (a b : Claim) → IsSound s → IsKept s a → IsKept s b → a.granule ≡ b.granule → a ≡ b
kept-once s a b sound first second here =
    let tag = tag-has_tag s a.granule a.role (tied-tag s a.role a.granule a.realm sound first) in
    let tag_too = tag-has_tag s b.granule b.role (tied-tag s b.role b.granule b.realm sound second) in
    let role : a.role ≡ b.role = sym tag ∙ ap s.tag here ∙ tag_too in
    let moved : IsTied b.role s b.granule a.realm =
    subst (λ r. IsTied r s b.granule a.realm) role (subst (λ g. IsTied a.role s g a.realm) here first) in
    same_claim a b here role (tied-once s b.role b.granule a.realm b.realm sound moved second)

-- ---- one change

module _ (old new : State) (opens closes held : List Claim) (sound : IsSound old) (a : Accounts old new opens closes) where
  -- a granule without an owner has none, or the one that is opened
  free-owned : (granule : ℕ) → claims_on granule held ≡ [] → IsUnused (old.tag granule) → IsOwned (opens ++ without_claims closes held) new granule
  free-owned granule none unused =
      let rest = none_closed granule closes held none in
      elim (opened_on (λ (c : Claim). (old.tag c.granule ≡ Delegated) × IsKept new c) granule opens (without_claims closes held) a.opened a.apart) [
        | inl others ↦ inl (others.1 ∙ rest, a.unused granule unused others.0)
        | inr found ↦ inr (found.0, found.1, found.3 ∙ ap (λ cs. found.0 ∷ cs) rest, found.2.1)
      ]

  -- an owner stays, or its claim is closed
  taken-owned : (c : Claim) → claims_on c.granule held ≡ c ∷ [] → IsKept old c → IsOwned (opens ++ without_claims closes held) new c.granule
  taken-owned c one kept =
      let same =
      λ (d : Claim) (p : IsKept old d × IsUnused (new.tag d.granule)) (here : d.granule ≡ c.granule). kept-once old d c sound p.0 kept here in
      elim (opened_on (λ (d : Claim). (old.tag d.granule ≡ Delegated) × IsKept new d) c.granule opens (without_claims closes held) a.opened a.apart) [
        | inl others ↦ elim (closed_on (λ (d : Claim). IsKept old d × IsUnused (new.tag d.granule)) c closes held one same a.closed) [
          | inl gone ↦ inl (others.1 ∙ gone.1, gone.0.1)
          | inr stays ↦ elim (a.kept c kept) [
            | inl still ↦ inr (c, refl, others.1 ∙ stays.1, still)
            | inr among ↦ absurd (elsewhere-among c closes stays.0 among)
          ]
        ]
        | inr found ↦ absurd (tied-used old c.role c.granule c.realm sound kept (inr (sym (ap old.tag found.1) ∙ found.2.0)))
      ]

  -- each granule has at most one owner still
  pub changed-owned : AreOwned held old → AreOwned (opens ++ without_claims closes held) new
  changed-owned owned = record {
    each = λ granule. elim (owned.each granule) [
      | inl free ↦ free-owned granule free.0 free.1
      | inr taken ↦ subst (IsOwned (opens ++ without_claims closes held) new) taken.1
          (taken-owned taken.0 (subst (λ g. claims_on g held ≡ taken.0 ∷ []) (sym taken.1) taken.2) taken.3)
    ];
  }

-- ---- isolated

-- spots with equal parts are one
same_spot : (a b : Spot) → a.realm ≡ b.realm → a.level ≡ b.level → a.number ≡ b.number → a ≡ b
same_spot a b realm level number = λ i. record { realm = realm i; level = level i; number = number i }

-- an open claim is a tie of the state
claimed-tied : (held : List Claim) (s : State) (c : Claim) → AreOwned held s → Contains held c → IsKept s c
claimed-tied held s c owned among =
    let here = among-on c held (Contains-among c held among) in
    elim (owned.each c.granule) [
      | inl free ↦ absurd (subst (IsAmong c) free.0 here)
      | inr taken ↦ elim (subst (IsAmong c) taken.2 here) [ inl same ↦ subst (IsKept s) same taken.3 | inr bad ↦ absurd bad ]
    ]

-- a tie of the state is an open claim
tied-claimed : (held : List Claim) (s : State) (c : Claim) → IsSound s → AreOwned held s → IsKept s c → Contains held c
tied-claimed held s c sound owned kept = elim (owned.each c.granule) [
  | inl free ↦ absurd (tied-used s c.role c.granule c.realm sound kept free.1)
  | inr taken ↦
      among-Contains c held (on-among c c.granule held
      (subst (IsAmong c) (sym taken.2) (inl (kept-once s taken.0 c sound taken.3 kept taken.1))))
]

-- in a sound state whose ties are the open claims no granule is more than one realm's
pub owned-isolated : (entries : List JournalEntry) (s : State) → IsSound s → AreOwned (claims entries) s → IsIsolated entries s
unfolding owners
owned-isolated entries s sound owned = record {
  one_owner = λ granule. elim (owned.each granule) [ inl free ↦ rw free.0 (omega arith) | inr taken ↦ rw taken.2 (omega arith) ];
  roles = λ granule c one. elim (owned.each granule) [
    | inl free ↦ absurd (let bad : [] ≡ c ∷ [] = sym free.0 ∙ one in cc)
    | inr taken ↦
        (let both : taken.0 ∷ [] ≡ c ∷ [] = sym taken.2 ∙ one in
        let same : taken.0 ≡ c = cc in
        sym (ap s.tag taken.1) ∙ tag-has_tag s taken.0.granule taken.0.role (tied-tag s taken.0.role taken.0.granule taken.0.realm sound taken.3)
        ∙ ap (λ (x : Claim). x.role) same)
  ];
  ownerless = λ granule none. elim (owned.each granule) [
    | inl free ↦ free.1
    | inr taken ↦ absurd (let bad : taken.0 ∷ [] ≡ [] = sym taken.2 ∙ none in cc)
  ];
  ties = λ granule role realm. (
    claimed-tied (claims entries) s (claim granule role realm) owned,
    tied-claimed (claims entries) s (claim granule role realm) sound owned,
  );
  pages = λ p q ripas other granule first second.
      let same = sound.leaves.apart p.realm p.level p.number q.realm q.level q.number granule ripas other first second in
      same_spot p q same.0 same.1 same.2;
  tables = λ p q granule first second.
      let same = sound.tables.apart p.realm p.level p.number q.realm q.level q.number granule first second in
      same_spot p q same.0 same.1 same.2;
}
