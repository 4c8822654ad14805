-- What goes on from a place of a line.
use Rattle.std.proofs.Common.{◌≡◌, ℕ, zero, suc, ◌-◌, ◌<◌, ◌≤◌, List, [], ◌∷◌, ◌++◌, length, take, drop, codes, Some, slice_get, inl, inr, refl, sym, ap, subst, arith, lit<, lit≤}
use Rattle.std.specs.Prelude.{◌↔◌, ◌⊎◌, ⊤}
use Rattle.rmm_spec.specs.declared.function_id.FunctionId.TheVariants as function
use Rattle.rmm_spec.specs.declared.version.Version.{Version}
use Rattle.rmm_spec.specs.declared.version.Version.TheVariants.{One, Two, Large}
use Rattle.rmm_spec.specs.Function.{number_of, word_count}
use Rattle.rmm_spec.specs.HistoryText.{mark}
use Rattle.rmm_spec.specs.Text.{decimal, word, fixed_hex}
use Rattle.reasons.specs.declared.wanted.Role.{Role}
use Rattle.reasons.specs.declared.wanted.Role.TheVariants as role
use Rattle.reasons.specs.declared.wanted.Wanted.{Wanted}
use Rattle.reasons.specs.declared.wanted.Wanted.TheVariants as wanted
use Rattle.reasons.specs.Wanted.{CanStand, GoesOn, Leads, MayEnd}
use Rattle.std.proofs.lemmas.List.{append-nil}

-- ---- some line goes on so

-- there is a CPU where one is wanted.
abbrev pub IsLive : Wanted → Type 0
IsLive (wanted.EventLetter cpus) = 0 < cpus
IsLive (wanted.Cpu cpus role) = 0 < cpus
IsLive _ = ⊤

-- there is a CPU where one is wanted next
live_after : (w next : Wanted) (part : List ℕ) → Leads w part next → IsLive next
live_after wanted.Format next part h = subst IsLive (sym h.2) tt
live_after (wanted.Granules version) next part h = subst IsLive (sym h.1) tt
live_after wanted.Cpus next part h = subst IsLive (sym h.1) tt
live_after (wanted.EventLetter cpus) next part (some, inl h) = subst IsLive (sym h.1) some
live_after (wanted.EventLetter cpus) next part (some, inr h) = subst IsLive (sym h.1) some
live_after wanted.LineLetter next part (inl h) = subst IsLive (sym h.1) (lit< tt)
live_after wanted.LineLetter next part (inr h) = subst IsLive (sym h.1) (lit< tt)
live_after (wanted.Cpu cpus role) next part h = subst IsLive (sym h.1) tt
live_after (wanted.Number role.Call) next part h = subst IsLive (sym h.1) tt
live_after (wanted.Number role.Return) next part h = subst IsLive (sym h.1) tt
live_after (wanted.Number role.Keep) next part h = subst IsLive (sym h.1) tt
live_after (wanted.Number role.Unfinished) next part h = subst IsLive (sym h.1) tt
live_after wanted.Function next part h = subst IsLive (sym h.2) tt
live_after (wanted.Words left) next part h = subst IsLive (sym h.2) tt
live_after wanted.Form next part (inl h) = subst IsLive (sym h.1) tt
live_after wanted.Form next part (inr (inl h)) = subst IsLive (sym h.1) tt
live_after wanted.Form next part (inr (inr h)) = subst IsLive (sym h.1) tt
live_after (wanted.MoreWords left) next part h = subst IsLive (sym h.2) tt
live_after wanted.Status next part h = subst IsLive (sym h.1) tt
live_after wanted.Index next part h = subst IsLive (sym h.1) tt
live_after wanted.End next part h = absurd h

-- a line may go on so
abbrev HasRest : Wanted → Type 0
HasRest w = (more : List (List ℕ)) × GoesOn w more

-- with one part more
rest_behind : (w next : Wanted) (part : List ℕ) → Leads w part next → HasRest next → HasRest w
rest_behind w next part leads rest = (part ∷ rest.0, (next, leads, rest.1))

shorter : (left : ℕ) → left ≡ suc left - 1
shorter left = omega arith

words_rest : (left : ℕ) → HasRest (wanted.Words left)
words_rest zero = ([], refl)
words_rest (suc left) =
    rest_behind (wanted.Words (suc left)) (wanted.Words left) (word 0)
    (omega arith, (0, lit< tt, refl), ap wanted.Words (shorter left)) (words_rest left)

index_rest : HasRest wanted.Index
index_rest = rest_behind wanted.Index wanted.End (decimal 0) ((0, lit≤ tt, lit< tt, refl), refl) ([], tt)

form_rest : HasRest wanted.Form
form_rest = rest_behind wanted.Form wanted.End (codes "misplaced") (inr (inr (refl, refl))) ([], tt)

function_rest : HasRest wanted.Function
function_rest = rest_behind wanted.Function (wanted.Words (word_count function.Exit))
    (fixed_hex 8 (number_of function.Exit)) (function.Exit, refl, refl) (words_rest (word_count function.Exit))

number_rest : (r : Role) → HasRest (wanted.Number r)
number_rest role.Call = rest_behind (wanted.Number role.Call) wanted.Function (decimal 0) ((0, lit≤ tt, lit< tt, refl), refl) function_rest
number_rest role.Return = rest_behind (wanted.Number role.Return) wanted.Form (decimal 0) ((0, lit≤ tt, lit< tt, refl), refl) form_rest
number_rest role.Keep = rest_behind (wanted.Number role.Keep) wanted.End (decimal 0) ((0, lit≤ tt, lit< tt, refl), refl) ([], tt)
number_rest role.Unfinished = rest_behind (wanted.Number role.Unfinished) wanted.Form (decimal 0) ((0, lit≤ tt, lit< tt, refl), refl) form_rest

cpu_rest : (cpus : ℕ) (r : Role) → 0 < cpus → HasRest (wanted.Cpu cpus r)
cpu_rest cpus r some = rest_behind (wanted.Cpu cpus r) (wanted.Number r) (decimal 0) ((0, lit≤ tt, some, refl), refl) (number_rest r)

cpus_rest : HasRest wanted.Cpus
cpus_rest = rest_behind wanted.Cpus wanted.End (decimal 1) ((1, lit≤ tt, lit< tt, refl), refl) ([], tt)

granules_rest : (version : Version) → HasRest (wanted.Granules version)
granules_rest One = rest_behind (wanted.Granules One) wanted.Cpus (decimal 1) ((1, lit≤ tt, lit< tt, refl), refl) cpus_rest
granules_rest Two = rest_behind (wanted.Granules Two) wanted.Cpus (decimal 1) ((1, lit≤ tt, lit< tt, refl), refl) cpus_rest
granules_rest Large = rest_behind (wanted.Granules Large) wanted.Cpus (decimal 1) ((1, lit≤ tt, lit< tt, refl), refl) cpus_rest

-- some line goes on from each place
rest_from : (w : Wanted) → IsLive w → HasRest w
rest_from wanted.Format live = rest_behind wanted.Format (wanted.Granules One) (mark One) (One, refl, refl) (granules_rest One)
rest_from (wanted.Granules version) live = granules_rest version
rest_from wanted.Cpus live = cpus_rest
rest_from (wanted.EventLetter cpus) live =
    rest_behind (wanted.EventLetter cpus) (wanted.Cpu cpus role.Call) (codes "c") (live, inl (refl, refl)) (cpu_rest cpus role.Call live)
rest_from wanted.LineLetter live =
    rest_behind wanted.LineLetter (wanted.Cpu 8 role.Keep) (codes "k") (inl (refl, refl)) (cpu_rest 8 role.Keep (lit< tt))
rest_from (wanted.Cpu cpus role) live = cpu_rest cpus role live
rest_from (wanted.Number role) live = number_rest role
rest_from wanted.Function live = function_rest
rest_from (wanted.Words left) live = words_rest left
rest_from wanted.Form live = form_rest
rest_from (wanted.MoreWords left) live = ([], tt)
rest_from wanted.Status live = rest_behind wanted.Status wanted.Index (decimal 0) ((0, lit≤ tt, lit< tt, refl), refl) index_rest
rest_from wanted.Index live = index_rest
rest_from wanted.End live = ([], tt)

-- ---- a line that is read

-- behind so many parts of a line this is wanted
pub record IsWantedAt (start : Wanted) (parts : List (List ℕ)) (index : ℕ) (w : Wanted) : Type 0 where
  pub within : index ≤ length parts
  pub goes_on : (more : List (List ℕ)) → GoesOn start (take index parts ++ more) ↔ GoesOn w more
  pub live : (index ≡ 0) ⊎ IsLive w

-- the parts so far are a front of a line, if there are some
pub front_at : (start w : Wanted) (parts : List (List ℕ)) (index : ℕ) → IsWantedAt start parts index w
    → (index ≡ 0) ⊎ ((more : List (List ℕ)) × GoesOn start (take index parts ++ more))
front_at start w parts index h = elim h.live [
  | inl none ↦ inl none
  | inr live ↦ let rest = rest_from w live in inr (rest.0, (h.goes_on rest.0).1 rest.1)
]

-- what can stand in a place is what a line has there
pub possible_at : (start w : Wanted) (parts : List (List ℕ)) (index : ℕ) (part : List ℕ) → IsWantedAt start parts index w
    → CanStand w part ↔ ((more : List (List ℕ)) × GoesOn start (take index parts ++ part ∷ more))
possible_at start w parts index part h = (to, from)
  where
    to : CanStand w part → (more : List (List ℕ)) × GoesOn start (take index parts ++ part ∷ more)
    to (next, leads) =
        let rest = rest_from next (live_after w next part leads) in
        (rest.0, (h.goes_on (part ∷ rest.0)).1 (next, leads, rest.1))

    from : (more : List (List ℕ)) × GoesOn start (take index parts ++ part ∷ more) → CanStand w part
    from (more, goes_on) =
        let at = (h.goes_on (part ∷ more)).0 goes_on in
        (at.0, at.1)

take-next : (parts : List (List ℕ)) (index : ℕ) (part : List ℕ) (rest more : List (List ℕ)) → drop index parts ≡ part ∷ rest
    → take (suc index) parts ++ more ≡ take index parts ++ part ∷ more
take-next [] zero part rest more e = absurd (cc)
take-next [] (suc index) part rest more e = absurd (cc)
take-next (first ∷ parts) zero part rest more e = let same : first ≡ part = cc in ap (λ p. p ∷ more) same
take-next (first ∷ parts) (suc index) part rest more e = ap (λ ps. first ∷ ps) (take-next parts index part rest more e)

drop-next : (parts : List (List ℕ)) (index : ℕ) (part : List ℕ) (rest : List (List ℕ))
    → drop index parts ≡ part ∷ rest → drop (suc index) parts ≡ rest
drop-next [] zero part rest e = absurd (cc)
drop-next [] (suc index) part rest e = absurd (cc)
drop-next (first ∷ parts) zero part rest e = let same : parts ≡ rest = cc in same
drop-next (first ∷ parts) (suc index) part rest e = drop-next parts index part rest e

pub get-next : (parts : List (List ℕ)) (index : ℕ) (part : List ℕ) (rest : List (List ℕ))
    → drop index parts ≡ part ∷ rest → slice_get parts index ≡ Some part
get-next [] zero part rest e = absurd (cc)
get-next [] (suc index) part rest e = absurd (cc)
get-next (first ∷ parts) zero part rest e = let same : first ≡ part = cc in ap Some same
get-next (first ∷ parts) (suc index) part rest e = get-next parts index part rest e

pub inside-next : (parts : List (List ℕ)) (index : ℕ) (part : List ℕ) (rest : List (List ℕ)) → drop index parts ≡ part ∷ rest → index < length parts
inside-next [] zero part rest e = absurd (cc)
inside-next [] (suc index) part rest e = absurd (cc)
inside-next (first ∷ parts) zero part rest e = omega arith
inside-next (first ∷ parts) (suc index) part rest e = omega (arith, inside-next parts index part rest e)

pub some_same : (w other : Wanted) → Some w ≡ Some other → w ≡ other
some_same w other e = cc

-- the line is read from its beginning
pub wanted_first : (start : Wanted) (parts : List (List ℕ)) → IsWantedAt start parts 0 start
wanted_first start parts = record { within = omega arith; goes_on = λ more. (λ h. h, λ h. h); live = inl refl }

-- one part more is read
pub wanted_next : (start w next : Wanted) (parts : List (List ℕ)) (index following : ℕ) (part : List ℕ) (rest : List (List ℕ))
    → IsWantedAt start parts index w → drop index parts ≡ part ∷ rest → Leads w part next → ((other : Wanted) → Leads w part other → other ≡ next)
    → following ≡ suc index → IsWantedAt start parts following next × (drop following parts ≡ rest)
wanted_next start w next parts index following part rest h e leads only is =
    subst (λ k. IsWantedAt start parts k next × (drop k parts ≡ rest)) (sym is) (
      record {
        within = omega (arith, inside-next parts index part rest e);
        goes_on = λ more. (to more, from more);
        live = inr (live_after w next part leads);
      },
      drop-next parts index part rest e,
    )
  where
    to : (more : List (List ℕ)) → GoesOn start (take (suc index) parts ++ more) → GoesOn next more
    to more goes_on =
        let at = (h.goes_on (part ∷ more)).0 (subst (GoesOn start) (take-next parts index part rest more e) goes_on) in
        subst (λ n. GoesOn n more) (only at.0 at.1) at.2

    from : (more : List (List ℕ)) → GoesOn next more → GoesOn start (take (suc index) parts ++ more)
    from more goes_on =
        subst (GoesOn start) (sym (take-next parts index part rest more e)) ((h.goes_on (part ∷ more)).1 (next, leads, goes_on))

-- the line may end where the parts that are read are one
pub ends_at : (start w : Wanted) (parts : List (List ℕ)) (index : ℕ) → IsWantedAt start parts index w → MayEnd w ↔ GoesOn start (take index parts)
ends_at start w parts index h = (
  λ ends. subst (GoesOn start) (append-nil (take index parts)) ((h.goes_on []).1 ends),
  λ goes_on. (h.goes_on []).0 (subst (GoesOn start) (sym (append-nil (take index parts))) goes_on),
)

-- the parts are all of them
pub all_read : (parts : List (List ℕ)) (index : ℕ)
    → index ≤ length parts → drop index parts ≡ [] → (length parts ≡ index) × (take index parts ≡ parts)
all_read [] zero h e = (refl, refl)
all_read [] (suc index) h e = absurd (omega arith)
all_read (first ∷ parts) zero h e = absurd (cc)
all_read (first ∷ parts) (suc index) h e =
    let rest = all_read parts index (omega arith) e in
    (ap suc rest.0, ap (λ ps. first ∷ ps) rest.1)
