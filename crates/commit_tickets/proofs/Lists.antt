-- The journal gone through beside what the tokens list.
use Rattle.commit_tickets.proofs.Common.{◌≡◌, ℕ, suc, ◌+◌, ◌<◌, ◌≤◌, List, [], ◌∷◌, length, Some, None, refl, sym, ap, ◌∙◌, subst, arith, put, JournalEntry, Committed, mine_of, TokenView}
use Rattle.std.proofs.Common.{zero, get_or, take, drop, slice_get, ⊎_elim}
use Rattle.std.specs.Prelude.{◌↔◌}
use Rattle.std.specs.List.{AllByRecursion}
use Rattle.std.proofs.lemmas.Bool.{eq-eqb, ne_eqb, cases_eq, cases_lt}
use Rattle.std.proofs.lemmas.List.{length-drop, drop_all}
use Rattle.std.proofs.lemmas.Option.{none-some, same_Some, slice_get_past, slice_get_read}
use Rattle.commit_tickets.specs.Listed.{commit_at, listed_from, AreListed}
use Rattle.lemmas.proofs.Elements.{slice_get-drop}

-- ---- lists

pub drop-at : {X : Type 0} (xs : List X) (place : ℕ) (x : X) → slice_get xs place ≡ Some x → drop place xs ≡ x ∷ drop (suc place) xs
drop-at [] place x at = absurd (none-some x at)
drop-at (first ∷ xs) zero x at = ap (λ y. y ∷ xs) (same_Some first x at)
drop-at (first ∷ xs) (suc place) x at = drop-at xs place x at

drop-empty : {X : Type 0} (xs : List X) (place : ℕ) → drop place xs ≡ [] → length xs ≤ place
drop-empty xs place none = omega (arith, length-drop place xs, ap length none)

-- ---- a CPU's entries

-- an entry of the CPU is listed first
pub listed-own : (ticket cpu : ℕ) (entry : JournalEntry) (entries : List JournalEntry) → entry.cpu ≡ cpu
    → listed_from ticket cpu (entry ∷ entries) ≡ commit_at ticket entry ∷ listed_from (suc ticket) cpu entries
listed-own ticket cpu entry entries own = rw (eq-eqb entry.cpu cpu own) refl

-- and one of another CPU isn't
pub listed-other : (ticket cpu : ℕ) (entry : JournalEntry) (entries : List JournalEntry) → (entry.cpu ≡ cpu → ⊥)
    → listed_from ticket cpu (entry ∷ entries) ≡ listed_from (suc ticket) cpu entries
listed-other ticket cpu entry entries other = rw (ne_eqb entry.cpu cpu other) refl

-- the entry at a place is listed behind those of its CPU before it
pub listed-at : (ticket : ℕ) (entries : List JournalEntry) (place : ℕ) (entry : JournalEntry) → slice_get entries place ≡ Some entry
    → (commit : Committed) × (commit.ticket ≡ ticket + place)
    × (slice_get (listed_from ticket entry.cpu entries) (length (listed_from ticket entry.cpu (take place entries))) ≡ Some commit)
listed-at ticket [] place entry at = absurd (none-some entry at)
listed-at ticket (first ∷ entries) zero entry at =
    let own = ap (λ (e : JournalEntry). e.cpu) (same_Some first entry at) in
    (commit_at ticket first, omega arith, ap (λ cs. slice_get cs 0) (listed-own ticket entry.cpu first entries own))
listed-at ticket (first ∷ entries) (suc place) entry at =
    let rest = listed-at (suc ticket) entries place entry at in (
      rest.0,
      omega (arith, rest.1),
      ⊎_elim (λ (own : first.cpu ≡ entry.cpu). rw (eq-eqb first.cpu entry.cpu own) rest.2)
          (λ (other : first.cpu ≡ entry.cpu → ⊥). rw (ne_eqb first.cpu entry.cpu other) rest.2) (cases_eq first.cpu entry.cpu),
    )

-- the place of the entry that a CPU lists behind so many
pub record IsListed (ticket cpu : ℕ) (entries : List JournalEntry) (behind : ℕ) (commit : Committed) : Type 0 where
  pub place : ℕ
  pub entry : JournalEntry
  pub at : slice_get entries place ≡ Some entry
  pub own : entry.cpu ≡ cpu
  pub before : length (listed_from ticket cpu (take place entries)) ≡ behind
  pub is_ticket : commit.ticket ≡ ticket + place

pub listed-place : (ticket cpu : ℕ) (entries : List JournalEntry) (behind : ℕ) (commit : Committed)
    → slice_get (listed_from ticket cpu entries) behind ≡ Some commit → IsListed ticket cpu entries behind commit
listed-place ticket cpu [] behind commit at = absurd (none-some commit at)
listed-place ticket cpu (first ∷ entries) behind commit at =
    let rest = λ (k : ℕ) (is : slice_get (listed_from (suc ticket) cpu entries) k ≡ Some commit). listed-place (suc ticket) cpu entries k commit is in
    ⊎_elim (λ (own : first.cpu ≡ cpu). here own rest behind (ap (λ cs. slice_get cs behind) (sym (listed-own ticket cpu first entries own)) ∙ at))
    (λ (other : first.cpu ≡ cpu → ⊥).
    later other (rest behind (ap (λ cs. slice_get cs behind) (sym (listed-other ticket cpu first entries other)) ∙ at))) (cases_eq first.cpu cpu)
  where
    here : first.cpu ≡ cpu → ((k : ℕ) → slice_get (listed_from (suc ticket) cpu entries) k ≡ Some commit → IsListed (suc ticket) cpu entries k commit)
        → (k : ℕ) → slice_get (commit_at ticket first ∷ listed_from (suc ticket) cpu entries) k ≡ Some commit
        → IsListed ticket cpu (first ∷ entries) k commit
    here own rest zero is = record {
      place = 0;
      entry = first;
      at = refl;
      own = own;
      before = refl;
      is_ticket = omega (arith, ap (λ (c : Committed). c.ticket) (same_Some _ commit is));
    }
    here own rest (suc k) is = let it = rest k is in record {
      place = suc it.place;
      entry = it.entry;
      at = it.at;
      own = it.own;
      before = rw (eq-eqb first.cpu cpu own) (ap suc it.before);
      is_ticket = omega (arith, it.is_ticket);
    }

    later : (first.cpu ≡ cpu → ⊥) → IsListed (suc ticket) cpu entries behind commit → IsListed ticket cpu (first ∷ entries) behind commit
    later other it = record {
      place = suc it.place;
      entry = it.entry;
      at = it.at;
      own = it.own;
      before = rw (ne_eqb first.cpu cpu other) it.before;
      is_ticket = omega (arith, it.is_ticket);
    }

pub mine_of-some : (tokens : List TokenView) (cpu : ℕ) (token : TokenView) → slice_get tokens cpu ≡ Some token → mine_of tokens cpu ≡ token.mine
mine_of-some [] cpu token at = absurd (none-some token at)
mine_of-some (first ∷ tokens) zero token at = ap (λ (t : TokenView). t.mine) (same_Some first token at)
mine_of-some (first ∷ tokens) (suc cpu) token at = mine_of-some tokens cpu token at

mine_of-unknown : (tokens : List TokenView) (cpu : ℕ) → slice_get tokens cpu ≡ None → mine_of tokens cpu ≡ []
mine_of-unknown [] cpu none = refl
mine_of-unknown (first ∷ tokens) zero none = absurd (none-some first (sym none))
mine_of-unknown (first ∷ tokens) (suc cpu) none = mine_of-unknown tokens cpu none

pub mine_of-none : (tokens : List TokenView) (cpu : ℕ) → length tokens ≤ cpu → mine_of tokens cpu ≡ []
mine_of-none tokens cpu past = mine_of-unknown tokens cpu (slice_get_past tokens cpu past)

-- ---- from a ticket on

-- The tokens list the entries just where they list those from the ticket on behind the commits of lower numbers.
pub record Remain (tokens : List TokenView) (entries : List JournalEntry) (ticket : ℕ) (number : ℕ → ℕ) : Type 0 where
  pub same : (cpu : ℕ) → (listed_from 0 cpu entries ≡ mine_of tokens cpu)
      ↔ (listed_from ticket cpu (drop ticket entries) ≡ drop (number cpu) (mine_of tokens cpu))
  pub few : (cpu : ℕ) → number cpu ≤ ticket

-- both sides go on where they begin with the same commit
behind : {A : Type 0} (l r l_rest r_rest : List Committed) (commit : Committed) → (A ↔ (l ≡ r)) → l ≡ commit ∷ l_rest → r ≡ commit ∷ r_rest
    → A ↔ (l_rest ≡ r_rest)
behind l r l_rest r_rest commit same l_is r_is =
    (λ a. ap (drop 1) (sym l_is ∙ same.0 a ∙ r_is), λ is. same.1 (l_is ∙ ap (λ rest. commit ∷ rest) is ∙ sym r_is))

module _ (tokens : List TokenView) (entries : List JournalEntry) (ticket : ℕ) (number : ℕ → ℕ) (entry : JournalEntry)
    (remain : Remain tokens entries ticket number) (at : slice_get entries ticket ≡ Some entry) where
  from_ticket : drop ticket entries ≡ entry ∷ drop (suc ticket) entries
  from_ticket = drop-at entries ticket entry at

  -- where the tokens list the entries, the next one is listed by its number
  listed-next : AreListed tokens entries → slice_get (mine_of tokens entry.cpu) (number entry.cpu) ≡ Some (commit_at ticket entry)
  listed-next listed =
      let mine = mine_of tokens entry.cpu in
      let rest : commit_at ticket entry ∷ listed_from (suc ticket) entry.cpu (drop (suc ticket) entries) ≡ drop (number entry.cpu) mine =
      sym (ap (listed_from ticket entry.cpu) from_ticket ∙ listed-own ticket entry.cpu entry (drop (suc ticket) entries) refl)
      ∙ (remain.same entry.cpu).0 (listed entry.cpu) in
      sym (slice_get-drop mine (number entry.cpu)) ∙ ap (λ xs. slice_get xs 0) (sym rest)

  -- which is never so where its CPU has no token
  pub unlisted-cpu : length tokens ≤ entry.cpu → AreListed tokens entries → ⊥
  unlisted-cpu past listed =
      none-some (commit_at ticket entry)
      (ap (λ mine. slice_get mine (number entry.cpu)) (sym (mine_of-none tokens entry.cpu past)) ∙ listed-next listed)

  own-next : (cpu : ℕ) → slice_get (mine_of tokens entry.cpu) (number entry.cpu) ≡ Some (commit_at ticket entry) → cpu ≡ entry.cpu
      → (listed_from 0 cpu entries ≡ mine_of tokens cpu)
      ↔ (listed_from (suc ticket) cpu (drop (suc ticket) entries) ≡ drop (number entry.cpu + 1) (mine_of tokens cpu))
  own-next cpu listed own =
      let mine = mine_of tokens cpu in
      let listed_here : slice_get mine (number cpu) ≡ Some (commit_at ticket entry) =
      subst (λ c. slice_get (mine_of tokens c) (number c) ≡ Some (commit_at ticket entry)) (sym own) listed in
      let next : suc (number cpu) ≡ number entry.cpu + 1 = omega (arith, ap number own) in
      behind (listed_from ticket cpu (drop ticket entries)) (drop (number cpu) mine) (listed_from (suc ticket) cpu (drop (suc ticket) entries))
      (drop (number entry.cpu + 1) mine) (commit_at ticket entry) (remain.same cpu)
      (ap (listed_from ticket cpu) from_ticket ∙ listed-own ticket cpu entry (drop (suc ticket) entries) (sym own))
      (drop-at mine (number cpu) (commit_at ticket entry) listed_here
      ∙ ap (λ n. commit_at ticket entry ∷ drop n mine) next)

  other-next : (cpu : ℕ) → (cpu ≡ entry.cpu → ⊥)
      → (listed_from 0 cpu entries ≡ mine_of tokens cpu)
      ↔ (listed_from (suc ticket) cpu (drop (suc ticket) entries) ≡ drop (number cpu) (mine_of tokens cpu))
  other-next cpu other =
      let is : listed_from ticket cpu (drop ticket entries) ≡ listed_from (suc ticket) cpu (drop (suc ticket) entries) =
      ap (listed_from ticket cpu) from_ticket ∙ listed-other ticket cpu entry (drop (suc ticket) entries) (λ own. other (sym own)) in
      (λ all. sym is ∙ (remain.same cpu).0 all, λ rest. (remain.same cpu).1 (is ∙ rest))

  -- an entry that is listed by its number is counted
  Remain-next : (next : ℕ → ℕ) → next ≡ put number entry.cpu (number entry.cpu + 1)
      → slice_get (mine_of tokens entry.cpu) (number entry.cpu) ≡ Some (commit_at ticket entry) → Remain tokens entries (ticket + 1) next
  Remain-next next is_next listed = let later : suc ticket ≡ ticket + 1 = omega arith in subst (λ t. Remain tokens entries t next) later (record {
    same = λ cpu. ⊎_elim
        (λ (own : cpu ≡ entry.cpu). rw (is_next, eq-eqb cpu entry.cpu own) (own-next cpu listed own))
        (λ (other : cpu ≡ entry.cpu → ⊥). rw (is_next, ne_eqb cpu entry.cpu other) (other-next cpu other)) (cases_eq cpu entry.cpu);
    few = λ cpu. ⊎_elim
        (λ (own : cpu ≡ entry.cpu). rw (is_next, eq-eqb cpu entry.cpu own) (omega (arith, remain.few entry.cpu)))
        (λ (other : cpu ≡ entry.cpu → ⊥). rw (is_next, ne_eqb cpu entry.cpu other) (omega (arith, remain.few cpu))) (cases_eq cpu entry.cpu);
  })

  -- the same, where its CPU's token is read at an index, and its list at a place
  module _ (token : TokenView) (index place : ℕ) (is_index : index ≡ entry.cpu) (within : index < length tokens)
      (read : token ≡ get_or tokens index token) (is_place : place ≡ number entry.cpu) where
    listed_by_token : slice_get token.mine place ≡ slice_get (mine_of tokens entry.cpu) (number entry.cpu)
    listed_by_token =
        let found : slice_get tokens entry.cpu ≡ Some token =
        slice_get_read tokens (length tokens) entry.cpu token refl (omega (arith, within, is_index))
        (read ∙ ap (λ k. get_or tokens k token) is_index) in
        ap (λ mine. slice_get mine place) (sym (mine_of-some tokens entry.cpu token found)) ∙ ap (slice_get (mine_of tokens entry.cpu)) is_place

    pub listed-by_token : AreListed tokens entries → slice_get token.mine place ≡ Some (commit_at ticket entry)
    listed-by_token listed = listed_by_token ∙ listed-next listed

    pub Remain-by_token : (next : ℕ → ℕ)
        → next ≡ put number entry.cpu (number entry.cpu + 1) → slice_get token.mine place ≡ Some (commit_at ticket entry)
        → Remain tokens entries (ticket + 1) next
    Remain-by_token next is_next listed = Remain-next next is_next (sym listed_by_token ∙ listed)

-- at the end the tokens list the entries just where no list goes on
pub listed-end : (tokens : List TokenView) (entries : List JournalEntry) (ticket : ℕ) (number : ℕ → ℕ) → Remain tokens entries ticket number
    → length entries ≤ ticket → AreListed tokens entries ↔ ((cpu : ℕ) → length (mine_of tokens cpu) ≤ number cpu)
listed-end tokens entries ticket number remain end =
    let none : (cpu : ℕ) → listed_from ticket cpu (drop ticket entries) ≡ [] = λ cpu. ap (listed_from ticket cpu) (drop_all ticket entries end) in (
      λ listed cpu. drop-empty (mine_of tokens cpu) (number cpu) (sym ((remain.same cpu).0 (listed cpu)) ∙ none cpu),
      λ few cpu. (remain.same cpu).1 (none cpu ∙ sym (drop_all (number cpu) (mine_of tokens cpu) (few cpu))),
    )

-- no list goes on where none of those at hand does
pub no_more : (tokens : List TokenView) (number : ℕ → ℕ) (end : ℕ) → length tokens ≤ end
    → ((cpu : ℕ) → cpu < end → length (mine_of tokens cpu) ≤ number cpu) → (cpu : ℕ) → length (mine_of tokens cpu) ≤ number cpu
no_more tokens number end all each cpu =
    ⊎_elim (each cpu)
    (λ (past : end ≤ cpu). omega (arith, ap length (mine_of-none tokens cpu (omega (arith, past, all))))) (cases_lt cpu end)

-- ---- whose entries there are

-- where no CPU from the bound on has an entry, each entry is of a CPU below it
below : (bound ticket : ℕ) (entries : List JournalEntry) → ((cpu : ℕ) → bound ≤ cpu → listed_from ticket cpu entries ≡ [])
    → AllByRecursion (λ (entry : JournalEntry). entry.cpu < bound) entries
below bound ticket [] none = tt
below bound ticket (entry ∷ entries) none =
    let within : entry.cpu < bound = ⊎_elim (λ (is : entry.cpu < bound). is)
    (λ (past : bound ≤ entry.cpu). absurd (omega (arith, ap length (sym (listed-own ticket entry.cpu entry entries refl) ∙ none entry.cpu past))))
    (cases_lt entry.cpu bound) in (
      within,
      below bound (suc ticket) entries
          (λ cpu past. sym (listed-other ticket cpu entry entries (λ own. omega (arith, own, within, past))) ∙ none cpu past),
    )

-- an entry that is listed is of a CPU with a token
pub listed-below : (tokens : List TokenView) (entries : List JournalEntry) (bound : ℕ) → length tokens ≤ bound → AreListed tokens entries
    → AllByRecursion (λ (entry : JournalEntry). entry.cpu < bound) entries
listed-below tokens entries bound most listed =
    below bound 0 entries (λ cpu past. listed cpu ∙ mine_of-none tokens cpu (omega (arith, most, past)))
