-- Each granule is given to the one realm to which the state ties it, and each that is tied is given.
use Rattle.reasons.proofs.Common.{Bool, Data, Delegated, IsOf, IsOwnerOf, IsSound, IsTied, IsTrue, List, None, Option, Rd, Rec, RecAux, RecRecord, Rtt, Some, State, Tag, Undelegated, [], ap, arith, eq-eqb, eqb-false, eqb-true, false, false_from_ne_true, granule_from_tag, if◌then◌else◌, inl, inr, is_granule, is_some, length, owner_rows, refl, slice_set, state_of, subst, suc, sym, tag-has_tag, true, zero, ℕ, ◌%◌, ◌*◌, ◌++◌, ◌+◌, ◌/◌, ◌<◌, ◌==◌, ◌∙◌, ◌∷◌, ◌≡◌, ◌≤◌, ◌⊎◌}
use Rattle.std.proofs.Common.{Bor}
use Rattle.std.specs.Option.{option_copied}
use Rattle.std.specs.Prelude.{slice_get}
use Rattle.std.proofs.lemmas.Bool.{false≢true}
use Rattle.std.proofs.lemmas.List.{set-append_left}
use Rattle.std.proofs.lemmas.Option.{same_Some, slice_get_within}
use Rattle.std.proofs.Math.Seq.{set-append_seam}
use Rattle.rmm_spec.specs.declared.entry.Entry.{Entry}
use Rattle.rmm_spec.specs.declared.entry.Entry.TheVariants.{Assigned}
use Rattle.rmm_spec.specs.declared.tag.Ripas.{Ripas}
use Rattle.rmm_spec.specs.Cell.{put}
use Rattle.rmm_spec.specs.Table.{TableRecord, place_number}
use Rattle.rmm_laws.proofs.Ties.{tied-once, tied-tag}
use Rattle.rmm_laws.proofs.ShapeTies.{entry_leaf-some}
use Rattle.spec_machine.specs.View.{tables_at}
use Rattle.spec_machine.specs.declared.machine.Machine.{Machine}
use Rattle.spec_machine.proofs.Machines.{leaf-held, leaf-stands, machine_sound, table-held, table-stands, table-whole}
use Rattle.reasons.specs.declared.owner_rows.OwnerRow.{OwnerRow}
use Rattle.reasons.specs.Owners.{AreGiven, AreTied, Assigns, CellGives, Gives, IsGivenBelow, IsPageOf}
use Rattle.reasons.proofs.OwnerRows.{length-owner_rows, row_of}
use Rattle.spec_lemmas.proofs.Lookups.{granule-number}

-- ---- what is looked up

-- what is found behind a reference is there
pub found-there : {A : Type 0} (found : Option (Bor A)) (there : Option A)
    → is_some found ≡ true → option_copied found ≡ there → IsTrue (is_some there)
found-there None there some is = absurd (false≢true some)
found-there (Some x) there some is = ap is_some (sym is)

-- ---- steps put together

-- nothing is given
pub gives-none : (s : State) (first : ℕ) (Given : ℕ → Type 0) (rows : List OwnerRow) → ((x : ℕ) → Given x → ⊥) → Gives s first Given rows rows
gives-none s first Given rows none before owner size tied at = record {
  next = owner;
  are_tied = tied;
  are_rows = at;
  kept = λ x some. some;
  given = λ x g. absurd (none x g);
}

-- one after the other
pub gives-both : (s : State) (first : ℕ) (A B C : ℕ → Type 0) (old between new : List OwnerRow)
    → Gives s first A old between → Gives s first B between new
    → ((x : ℕ) → C x → A x ⊎ B x) → Gives s first C old new
gives-both s first A B C old between new one other either before owner size tied at =
    let a = one before owner size tied at in
    let b = other before a.next size a.are_tied a.are_rows in
    record {
      next = b.next;
      are_tied = b.are_tied;
      are_rows = b.are_rows;
      kept = λ x some. b.kept x (a.kept x some);
      given = λ x g. elim (either x g) [ inl here ↦ b.kept x (a.given x here) | inr there ↦ b.given x there ];
    }

-- the same granules by another name
pub gives-same : (s : State) (first : ℕ) (A B : ℕ → Type 0) (old new : List OwnerRow)
    → Gives s first A old new → ((x : ℕ) → B x → A x) → Gives s first B old new
gives-same s first A B old new gives to before owner size tied at =
    let a = gives before owner size tied at in
    record { next = a.next; are_tied = a.are_tied; are_rows = a.are_rows; kept = a.kept; given = λ x g. a.given x (to x g) }

-- ---- one row

-- the granules of two numbers are two
apart_numbers : (j k : ℕ) → (j ≡ k → ⊥) → (j * 4096 == k * 4096) ≡ false
apart_numbers j k apart = false_from_ne_true (j * 4096 == k * 4096) (λ same. apart (omega (arith, eqb-true (j * 4096) (k * 4096) same)))

-- rows before a granule's own don't have its owner
owner_rows-before : (s : State) (owner : ℕ → Option ℕ) (k n : ℕ) (given : Option ℕ) → n ≤ k
    → owner_rows s (put owner (k * 4096) given) n ≡ owner_rows s owner n
unfolding owner_rows
owner_rows-before s owner k zero given before = refl
owner_rows-before s owner k (suc n) given before =
    let other : (n * 4096 == k * 4096) ≡ false = apart_numbers n k (λ same. omega (arith, same, before)) in
    rw (owner_rows-before s owner k n given (omega (arith, before)), other) refl

-- a granule's owner is written in its row
pub owner_rows-put : (s : State) (owner : ℕ → Option ℕ) (k n : ℕ) (given : Option ℕ) → k < n
    → slice_set (owner_rows s owner n) k (record { granule = k * 4096; tag = s.tag (k * 4096); realm = given })
    ≡ owner_rows s (put owner (k * 4096) given) n
unfolding owner_rows
owner_rows-put s owner k zero given within = absurd (omega (arith, within))
owner_rows-put s owner k (suc n) given within = by (λ below. owner_rows-put s owner k n given below) (n == k) refl
  where
    row : OwnerRow
    row = record { granule = k * 4096; tag = s.tag (k * 4096); realm = given }

    by : (k < n → slice_set (owner_rows s owner n) k row ≡ owner_rows s (put owner (k * 4096) given) n) → (b : Bool) → (n == k) ≡ b
        → slice_set (owner_rows s owner n ++ row_of s owner n ∷ []) k row
        ≡ owner_rows s (put owner (k * 4096) given) n ++ row_of s (put owner (k * 4096) given) n ∷ []
    by earlier true same =
        let here = eqb-true n k same in
        let last : (n * 4096 == k * 4096) ≡ true = eq-eqb (n * 4096) (k * 4096) (ap (λ m. m * 4096) here) in
        let seam = set-append_seam (owner_rows s owner n) (row_of s owner n) [] row in
        ap (λ m. slice_set (owner_rows s owner n ++ row_of s owner n ∷ []) m row) (sym here ∙ sym (length-owner_rows s owner n)) ∙ seam
        ∙ ap (λ (r : OwnerRow). owner_rows s owner n ++ r ∷ [])
        (λ i. record { granule = sym here i * 4096; tag = s.tag (sym here i * 4096); realm = given })
        ∙ rw (owner_rows-before s owner k n given (omega (arith, here)), last) refl
    by earlier false apart =
        let other : (n * 4096 == k * 4096) ≡ false = apart_numbers n k (eqb-false n k apart) in
        let below : k < length (owner_rows s owner n) = omega (arith, length-owner_rows s owner n, within, eqb-false n k apart) in
        set-append_left (owner_rows s owner n) (row_of s owner n ∷ []) k row below
        ∙ rw (earlier (omega (arith, within, eqb-false n k apart)), other) refl

-- ---- a granule is given

-- a granule that gets an owner has one, and the others keep theirs
pub put-given : (s : State) (before : List OwnerRow) (owner : ℕ → Option ℕ) (granule realm : ℕ) (rows : List OwnerRow)
    → AreTied s owner → IsOf s granule realm
    → rows ≡ before ++ owner_rows s (put owner granule (Some realm)) s.config.granules → AreGiven s before (λ other. other ≡ granule) owner rows
put-given s before owner granule realm rows tied of at = record {
  next = put owner granule (Some realm);
  are_tied = λ x r is. tied_at x r (x == granule) refl is;
  are_rows = at;
  kept = λ x some. kept_at x (x == granule) some;
  given = λ x is. rw (eq-eqb x granule is) refl;
}
  where
    tied_at : (x r : ℕ) (b : Bool) → (x == granule) ≡ b → (if b then Some realm else owner x) ≡ Some r → IsTied (s.tag x) s x r
    tied_at x r true same is =
        subst (λ o. IsTied (s.tag x) s x o) (same_Some realm r is) (subst (λ g. IsTied (s.tag g) s g realm) (sym (eqb-true x granule same)) of.1)
    tied_at x r false apart is = tied x r is

    kept_at : (x : ℕ) (b : Bool) → IsTrue (is_some (owner x)) → IsTrue (is_some (if b then Some realm else owner x))
    kept_at x true some = refl
    kept_at x false some = some

-- an entry more gives its page, where it assigns one
pub page-next : (entries : List Entry) (index : ℕ) (e : Entry) (page : ℕ) → slice_get entries index ≡ Some e
    → (i : ℕ) × (ripas : Ripas) × (i < index + 1) × (slice_get entries i ≡ Some (Assigned ripas page))
    → ((i : ℕ) × (ripas : Ripas) × (i < index) × (slice_get entries i ≡ Some (Assigned ripas page))) ⊎ Assigns e page
page-next entries index e page there (i, ripas, within, is) = by (i == index) refl
  where
    by : (b : Bool) → (i == index) ≡ b
        → ((i : ℕ) × (ripas : Ripas) × (i < index) × (slice_get entries i ≡ Some (Assigned ripas page))) ⊎ Assigns e page
    by true same = inr (ripas, same_Some e (Assigned ripas page) (sym there ∙ ap (slice_get entries) (sym (eqb-true i index same)) ∙ is))
    by false apart = inl (i, ripas, omega (arith, within, eqb-false i index apart), is)

-- ---- what lies in a granule

-- what is tied in a role is a granule that has the role
tied-is_of : (s : State) (role : Tag) (granule realm : ℕ) → IsSound s → IsTied role s granule realm → IsOf s granule realm
tied-is_of s role granule realm sound tied =
    let tagged = tied-tag s role granule realm sound tied in (
      granule_from_tag s granule role tagged,
      subst (λ t. IsTied t s granule realm) (sym (tag-has_tag s granule role tagged)) tied,
    )

module _ (m : Machine) where
  sound : IsSound (state_of m)
  sound = machine_sound m

  pub realm-is_of : (rd : ℕ) → IsTrue (is_some ((state_of m).realm rd)) → IsOf (state_of m) rd rd
  realm-is_of rd some = tied-is_of (state_of m) Rd rd rd sound (refl, some)

  pub rec-is_of : (at : ℕ) (rec : RecRecord) → (state_of m).rec at ≡ Some rec
      → IsOf (state_of m) at rec.owner × IsOf (state_of m) rec.aux0 rec.owner × IsOf (state_of m) rec.aux1 rec.owner
  rec-is_of at rec is = (
    tied-is_of (state_of m) Rec at rec.owner sound (rec, is, refl),
    tied-is_of (state_of m) RecAux rec.aux0 rec.owner sound (at, rec, is, refl, inl refl),
    tied-is_of (state_of m) RecAux rec.aux1 rec.owner sound (at, rec, is, refl, inr refl),
  )

  pub table-is_of : (at : ℕ) (t : TableRecord) → tables_at m at ≡ Some t → IsOf (state_of m) at t.place.rd
  table-is_of at t is = tied-is_of (state_of m) Rtt at t.place.rd sound (t.place.level, place_number t.place, table-stands m at t is)

  pub page-is_of : (at : ℕ) (t : TableRecord) → tables_at m at ≡ Some t → (page : ℕ) → IsPageOf t.entries page → IsOf (state_of m) page t.place.rd
  page-is_of at t is page (i, ripas, there) =
      let number = 512 * place_number t.place + i in
      let below : i < 512 = omega (arith, slice_get_within t.entries i (Assigned ripas page) there, table-whole m at t is) in
      let up : place_number t.place ≡ number / 512 = omega (arith, below) in
      let low : i ≡ number % 512 = omega (arith, below) in
      let found = ap ((state_of m).table t.place.rd t.place.level) (sym up) ∙ table-stands m at t is in
      tied-is_of (state_of m) Data page t.place.rd sound (
        t.place.level,
        number,
        ripas,
        leaf-stands m t.place.rd t.place.level number at t found is
            ∙ entry_leaf-some t.entries (number % 512) (Assigned ripas page) (ap (slice_get t.entries) (sym low) ∙ there) refl,
      )

  -- ---- each tie is given

  pub tied-gives : (role : Tag) (granule realm : ℕ) → IsTied role (state_of m) granule realm
      → (at : ℕ) × IsTrue (is_granule (state_of m).config.granules at) × CellGives (state_of m) (tables_at m) at granule
  tied-gives Rd granule realm (same, some) =
      (realm, (realm-is_of realm some).0, inl (same, some))
  tied-gives Rec granule realm (rec, is, owner) = (granule, (rec-is_of granule rec is).0.0, inr (inl (rec, is, inl refl)))
  tied-gives RecAux granule realm (at, rec, is, owner, aux) =
      (at, (rec-is_of at rec is).0.0, inr (inl (rec, is, inr (elim aux [ inl one ↦ inl (sym one) | inr other ↦ inr (sym other) ]))))
  tied-gives Rtt granule realm (level, number, is) =
      let held = table-held m realm level number granule is in
      (granule, (table-is_of granule held.table held.is_held).0, inr (inr (held.table, held.is_held, inl refl)))
  tied-gives Data granule realm (level, number, ripas, is) =
      let leaf = leaf-held m realm level number (Assigned ripas granule) is in (
        leaf.granule,
        (table-is_of leaf.granule leaf.table leaf.is_held).0,
        inr (inr (leaf.table, leaf.is_held, inr (number % 512, ripas, leaf.is_entry))),
      )
  tied-gives Undelegated granule realm tied = absurd tied
  tied-gives Delegated granule realm tied = absurd tied

  -- so once all have given, each owner is the one to which the state ties the granule
  pub given-owners : (owner : ℕ → Option ℕ) (n : ℕ) → n ≡ (state_of m).config.granules → AreTied (state_of m) owner
      → ((granule : ℕ) → IsGivenBelow (state_of m) (tables_at m) n granule → IsTrue (is_some (owner granule)))
      → IsOwnerOf (state_of m) owner
  given-owners owner n all tied given granule realm = (tied granule realm, λ is. at_last is (owner granule) refl)
    where
      at_last : IsTied ((state_of m).tag granule) (state_of m) granule realm → (found : Option ℕ) → owner granule ≡ found → owner granule ≡ Some realm
      at_last is None none =
          let from = tied-gives ((state_of m).tag granule) granule realm is in
          let number = granule-number (state_of m).config.granules from.0 from.1 in
          absurd (false≢true (sym (ap is_some none) ∙ given granule (
            from.0 / 4096,
            omega (arith, number.0, all),
            subst (λ a. CellGives (state_of m) (tables_at m) a granule) number.1 from.2,
          )))
      at_last is (Some other) found =
          found ∙ ap Some (tied-once (state_of m) ((state_of m).tag granule) granule other realm sound (tied granule other found) is)

-- one granule more has given
pub given-next : (s : State) (tables : ℕ → Option TableRecord) (n granule : ℕ) → IsGivenBelow s tables (n + 1) granule
    → IsGivenBelow s tables n granule ⊎ CellGives s tables (n * 4096) granule
given-next s tables n granule (k, within, gives) = by (k == n) refl
  where
    by : (b : Bool) → (k == n) ≡ b → IsGivenBelow s tables n granule ⊎ CellGives s tables (n * 4096) granule
    by true same = inr (subst (λ m. CellGives s tables (m * 4096) granule) (eqb-true k n same) gives)
    by false apart = inl (k, omega (arith, within, eqb-false k n apart), gives)
