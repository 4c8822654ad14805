-- What a command leads to reads the tags of the granules that it names, and no other.
use Rattle.verdict_laws.proofs.Common.{◌≡◌, ℕ, zero, suc, ◌==◌, ◌&&◌, if◌then◌else◌, List, [], ◌∷◌, refl, sym, ◌∙◌, ap, Err, AllByRecursion, Call, Misplaced, Tag, State, has_tag, is_inside, rec_inside, realm_at, rec_at, is_vmid_used, has_rec, reach, entry_at, Needed, decided, IsReached, named, words_of, is_placed, misplacement, answer_of, outcome, behind}
use Rattle.std.specs.Prelude.{is_some}
use Rattle.rmm_spec.specs.declared.call.Call.TheVariants as call
use Rattle.rmm_spec.specs.declared.call.Removal.{Removal}
use Rattle.rmm_spec.specs.declared.call.Removal.TheVariants.{Destroy, Fold}
use Rattle.rmm_spec.specs.declared.condition.Condition.TheVariants.{GranState}
use Rattle.rmm_spec.specs.declared.accepted.Stretch.{Stretch}
use Rattle.rmm_spec.specs.Lookup.{tag_number, is_granule}
use Rattle.rmm_spec.specs.Walk.{table_number, has_entry}
use Rattle.rmm_spec.specs.Rows.{Row, input, inputs, tagged}
use Rattle.rmm_spec.specs.Step.Table.{ripas_left}
use Rattle.rmm_spec.specs.Step.Terms.{Class, ByHost, ByRealm, ByExit, class_of}

-- the state with other tags
abbrev pub with_tags : State → (ℕ → Tag) → State
with_tags s tags = record s { tag = tags }

-- it walks as before
reach-tags : (s : State) (tags : ℕ → Tag) (rd ipa max : ℕ) → reach (with_tags s tags) rd ipa max ≡ reach s rd ipa max
unfolding reach
reach-tags s tags rd ipa zero = refl
reach-tags s tags rd ipa (suc l) = ap (λ n. if is_some (s.table rd (suc l) (table_number (suc l) ipa)) then suc l else n) (reach-tags s tags rd ipa l)

-- and leaves the same of a table
left-tags : (s : State) (tags : ℕ → Tag) (removal : Removal) (rd level number : ℕ)
    → ripas_left removal (with_tags s tags) rd level number ≡ ripas_left removal s rd level number
unfolding ripas_left has_entry entry_at
left-tags s tags Destroy rd level number = refl
left-tags s tags Fold rd level number = refl

-- a stretch is reached as before
pub IsReached-tags : (s : State) (tags : ℕ → Tag) (stretch : Stretch) (top : ℕ) → IsReached (with_tags s tags) stretch top → IsReached s stretch top
unfolding entry_at
IsReached-tags s tags stretch top reached = record {
  count = reached.count;
  some = reached.some;
  is_end = reached.is_end;
  within = reached.within;
  in_table = reached.in_table;
  each = reached.each;
}

-- what stands behind the rows on words and tags is the same
abbrev BehindAlike : State → (ℕ → Tag) → ℕ → Call → Type 0
BehindAlike s tags cpu c =
    ((behind (with_tags s tags) cpu c).0 ≡ (behind s cpu c).0) × ((behind (with_tags s tags) cpu c).1 ≡ (behind s cpu c).1)

-- for every call
behind-tags : (s : State) (tags : ℕ → Tag) (cpu : ℕ) (c : Call) → BehindAlike s tags cpu c
unfolding behind realm_at rec_at is_vmid_used has_rec has_entry rec_inside entry_at
behind-tags s tags cpu (call.DataCreate rd granule ipa source flags digest) = rw (reach-tags s tags rd ipa 3) (refl, refl)
behind-tags s tags cpu (call.DataCreateUnknown rd granule ipa) = rw (reach-tags s tags rd ipa 3) (refl, refl)
behind-tags s tags cpu (call.DataDestroy rd ipa) = rw (reach-tags s tags rd ipa 3) (refl, refl)
behind-tags s tags cpu (call.RttCreate rd rtt ipa level) = rw (reach-tags s tags rd ipa _) (refl, refl)
behind-tags s tags cpu (call.RttRemove removal rd ipa level) =
    rw (reach-tags s tags rd ipa _, left-tags s tags removal rd level (table_number level ipa)) (refl, refl)
behind-tags s tags cpu (call.RttMapUnprotected rd ipa page) = rw (reach-tags s tags rd ipa 3) (refl, refl)
behind-tags s tags cpu (call.RttReadEntry rd ipa level) = rw (reach-tags s tags rd ipa level) (refl, refl)
behind-tags s tags cpu (call.RttUnmapUnprotected rd ipa) = rw (reach-tags s tags rd ipa 3) (refl, refl)
behind-tags s tags cpu (call.RttInitRipas rd base top) = rw (reach-tags s tags rd base 3) (refl, refl)
behind-tags s tags cpu (call.RttSetRipas rd rec base top) = rw (reach-tags s tags rd base 3) (refl, refl)
behind-tags s tags cpu (call.IpaStateGet ipa) = rw (reach-tags s tags (rec_at s (rec_inside s cpu)).owner ipa 3) (refl, refl)
behind-tags s tags cpu _ = (refl, refl)

-- the granules that are named have the tags that they had
abbrev pub AreKeptAt : State → (ℕ → Tag) → List Needed → Type 0
AreKeptAt s tags names = AllByRecursion (λ (n : Needed). tags n.granule ≡ s.tag n.granule) names

-- so the rows on them are the same
tagged-tags : (s : State) (tags : ℕ → Tag) (names : List Needed) (rows : List Row) → AreKeptAt s tags names
    → tagged (with_tags s tags) names rows ≡ tagged s names rows
unfolding has_tag
tagged-tags s tags [] rows kept = refl
tagged-tags s tags (n ∷ names) rows kept = λ i.
    input GranState (is_granule s.config.granules n.granule && tag_number (kept.0 i) == tag_number n.tag) ∷ tagged-tags s tags names rows kept.1 i

-- and what is answered where the command is placed
answer-tags : (s : State) (tags : ℕ → Tag) (cpu : ℕ) (c : Call) → AreKeptAt s tags (named c)
    → answer_of (with_tags s tags) cpu c ≡ answer_of s cpu c
answer-tags s tags cpu c kept =
    let same = behind-tags s tags cpu c in
    let front = ap (λ rows. tagged (with_tags s tags) (named c) rows) same.0 ∙ tagged-tags s tags (named c) (behind s cpu c).0 kept in
    (behind (with_tags s tags) cpu c).2 ∙ (λ i. decided (inputs (words_of c) (front i)) (same.1 i)) ∙ sym (behind s cpu c).2

-- and whether it is
placed-tags : (s : State) (tags : ℕ → Tag) (cpu : ℕ) (class : Class) → is_placed (with_tags s tags) cpu class ≡ is_placed s cpu class
unfolding is_inside rec_inside rec_at
placed-tags s tags cpu ByHost = refl
placed-tags s tags cpu ByRealm = refl
placed-tags s tags cpu ByExit = refl

-- what the command leads to is the same
pub outcome-tags : (s : State) (tags : ℕ → Tag) (cpu : ℕ) (c : Call) → AreKeptAt s tags (named c) → outcome (with_tags s tags) cpu c ≡ outcome s cpu c
unfolding outcome is_inside
outcome-tags s tags cpu c kept = λ i.
    if placed-tags s tags cpu (class_of c) i then answer-tags s tags cpu c kept i
    else Err (Misplaced (misplacement (is_inside s cpu) (class_of c)))
