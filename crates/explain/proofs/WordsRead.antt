-- The words of a reply, by what they are read from.
use Rattle.explain.proofs.Common.{◌∙◌, ◌∷◌, ◌≡◌, ◌≤◌, Bool, IsTrue, List, None, Option, Some, State, [], ap, arith, false, nat_tests, refl, suc, sym, true, zero, ℕ}
use Rattle.std.proofs.Common.{◌-◌, nat_le, min, Ok, Err, Result, if◌then◌else◌}
use Rattle.std.specs.List.{AllByRecursion}
use Rattle.std.proofs.lemmas.Bool.{and_parts}
use Rattle.rmm_spec.specs.declared.accepted.Accepted.{Accepted}
use Rattle.rmm_spec.specs.declared.accepted.Accepted.TheVariants.{Done, Reaches}
use Rattle.rmm_spec.specs.declared.call.Call.{Call}
use Rattle.rmm_spec.specs.declared.call.Call.TheVariants as call
use Rattle.rmm_spec.specs.declared.change.Change.{Change}
use Rattle.rmm_spec.specs.declared.refusal.Refusal.{Refusal}
use Rattle.rmm_spec.specs.declared.tag.Tag.TheVariants.{Rd}
use Rattle.rmm_spec.specs.Lookup.{has_tag, is_inside, realm_at, rec_at, rec_inside, request_of}
use Rattle.rmm_spec.specs.Rows.{Needed, Word, done}
use Rattle.rmm_spec.specs.Sound.{IsSound}
use Rattle.rmm_spec.specs.State.{RealmRecord, RecRecord, Request}
use Rattle.rmm_spec.specs.Step.{answer_of, is_placed, outcome}
use Rattle.rmm_spec.specs.Step.Terms.{Class, ByHost, ByRealm, ByExit, class_of, named, words_of}
use Rattle.spec_lemmas.proofs.Behind.{behind}
use Rattle.rmm_laws.proofs.RowLaws.{front-rest, outcome-leads}
use Rattle.rmm_laws.proofs.Applies.{inside_running}
use Rattle.reasons.specs.declared.source.Source.TheVariants as source
use Rattle.reasons.specs.Reading.{read, request_read}
use Rattle.explain.specs.Deciding.{words_source}
use Rattle.lemmas.proofs.Options.{value_there}

-- one of the words that are read, and 0 where value_there are fewer
abbrev at : ℕ → List ℕ → ℕ
at n [] = 0
at zero (word ∷ words) = word
at (suc n) (word ∷ words) = at n words

abbrev words_from : Call → List ℕ → List ℕ
words_from (call.DataDestroy rd ipa) reads = at 2 reads ∷ []
words_from (call.RttRemove removal rd ipa level) reads = at 2 reads ∷ []
words_from (call.RttReadEntry rd ipa level) reads = reads
words_from (call.RecEnter rec) reads = at 0 reads ∷ []
words_from (call.MeasurementRead index) reads = reads
words_from call.RealmConfig reads = at 0 reads ∷ at 2 reads ∷ []
words_from (call.IpaStateGet ipa) reads = at 3 reads ∷ []
words_from call.Exit reads = reads
words_from _ reads = []

abbrev words_done : Accepted → List ℕ
words_done (Done words change) = words.items
words_done (Reaches stretch) = []

-- where the CPU of a realm's call is inside a REC, that is value_there, and so is its realm
record IsHeld (s : State) (rec : ℕ) : Type 0 where
  held : RecRecord
  is_held : s.rec rec ≡ Some held
  realm : RealmRecord
  is_realm : s.realm (rec_at s rec).owner ≡ Some realm
  tag : has_tag s (rec_at s rec).owner Rd ≡ true

held_inside : (s : State) (cpu : ℕ) → IsSound s → is_inside s cpu ≡ true → IsHeld s (rec_inside s cpu)
held_inside s cpu sound inside =
    let running = inside_running s cpu sound inside in
    let rec = value_there (s.rec (rec_inside s cpu)) (sound.recs.tagged (rec_inside s cpu) ∙ running.tag) in
    let realm = value_there (s.realm (rec_at s (rec_inside s cpu)).owner) (sound.realms.tagged (rec_at s (rec_inside s cpu)).owner ∙ running.owner) in
    record { held = rec.0; is_held = rec.1; realm = realm.0; is_realm = realm.1; tag = running.owner }

-- what is accepted is placed
placed_by : (placed : Bool) (here : Result Accepted Refusal) (otherwise : Refusal) (found : Accepted)
    → (if placed then here else Err otherwise) ≡ Ok found → placed ≡ true
placed_by true here otherwise found is = refl
placed_by false here otherwise found is = absurd cc

-- ---- each command

-- what a realm's call needs
abbrev Needs : State → ℕ → Class → Type 0
Needs s cpu ByHost = Unit {0}
Needs s cpu _ = IsHeld s (rec_inside s cpu)

needs_by : (s : State) (cpu : ℕ) (class : Class) → IsSound s → is_placed s cpu class ≡ true → Needs s cpu class
needs_by s cpu ByHost sound placed = tt
needs_by s cpu ByRealm sound placed = held_inside s cpu sound (and_parts (is_inside s cpu) _ placed).0
needs_by s cpu ByExit sound placed = held_inside s cpu sound placed

asked_base : (found : Option RecRecord) (s : State) (rec : ℕ)
    → s.rec rec ≡ found → (request_of (rec_at s rec)).base ≡ at 0 (read s (source.Request rec))
unfolding read rec_at
asked_base None s rec is = rw is refl
asked_base (Some held) s rec is = rw is (by_request held held.request refl)
  where
    by_request : (held : RecRecord) (request : Option Request) → held.request ≡ request → (request_of held).base ≡ at 0 (request_read held.request)
    by_request held None is = rw is refl
    by_request held (Some request) is = rw is refl

-- each word of the command is allowed, and each granule that it names has its tag
abbrev AreAllowed : Call → Type 0
AreAllowed c = AllByRecursion (λ (w : Word). IsTrue w.allowed) (words_of c)

abbrev HaveTags : State → Call → Type 0
HaveTags s c = AllByRecursion (λ (n : Needed). IsTrue (has_tag s n.granule n.tag)) (named c)

last_level : (level : ℕ) → IsTrue (nat_le level 3) → min level 3 ≡ level
last_level level is = let within : level ≤ 3 = grind (arith, nat_tests, is) in omega (arith, within)

level_above : (level : ℕ) → IsTrue (nat_le level 3) → min (level - 1) 3 ≡ level - 1
level_above level is = let within : level ≤ 3 = grind (arith, nat_tests, is) in omega (arith, within)

last_index : (index : ℕ) → IsTrue (nat_le index 4) → min index 4 ≡ index
last_index index is = let within : index ≤ 4 = grind (arith, nat_tests, is) in omega (arith, within)

-- the words of what is done are those of what is read
words-read : (s : State) (cpu : ℕ) (c : Call) → Needs s cpu (class_of c) → AreAllowed c → HaveTags s c
    → words_done (behind s cpu c).1 ≡ words_from c (read s (words_source s cpu c))
unfolding behind read words_of named class_of realm_at rec_at
words-read s cpu (call.DataDestroy rd ipa) needs allowed tags = rw tags.0 refl
words-read s cpu (call.RttRemove removal rd ipa level) needs allowed tags = rw (tags.0, level_above level allowed.0, level_above level allowed.0) refl
words-read s cpu (call.RttReadEntry rd ipa level) needs allowed tags = rw (tags.0, last_level level allowed.0, last_level level allowed.0) refl
words-read s cpu (call.RecEnter rec) needs allowed tags = ap (λ (base : ℕ). base ∷ []) (asked_base (s.rec rec) s rec refl)
words-read s cpu (call.MeasurementRead index) needs allowed tags = rw (needs.is_realm, last_index index allowed.0) refl
words-read s cpu call.RealmConfig needs allowed tags = rw needs.is_realm refl
words-read s cpu (call.IpaStateGet ipa) needs allowed tags = rw needs.tag refl
words-read s cpu call.Exit needs allowed tags = rw needs.is_held refl
words-read s cpu (call.GranuleDelegate granule) needs allowed tags = refl
words-read s cpu (call.GranuleUndelegate granule) needs allowed tags = refl
words-read s cpu (call.DataCreate rd granule ipa source flags digest) needs allowed tags = refl
words-read s cpu _ needs allowed tags = refl

-- so are those of an accepted command's reply
words_by : (s : State) (cpu : ℕ) (c : Call) (words : List ℕ) (change : Change) → IsSound s → outcome s cpu c ≡ Ok (done words change)
    → words ≡ words_from c (read s (words_source s cpu c))
unfolding outcome
words_by s cpu c words change sound is =
    let leads = outcome-leads s cpu c (Ok (done words change)) is in
    let front = front-rest s c (behind s cpu c).0 leads.0 in
    let placed = placed_by (is_placed s cpu (class_of c)) (answer_of s cpu c) _ (done words change) is in
    sym (ap words_done leads.1) ∙ words-read s cpu c (needs_by s cpu (class_of c) sound placed) front.0 front.1

-- what is read the same says the same words
pub words_same : (s other : State) (cpu : ℕ) (c : Call) (words also : List ℕ) (change next : Change) → IsSound s → IsSound other
    → outcome s cpu c ≡ Ok (done words change) → outcome other cpu c ≡ Ok (done also next)
    → read s (words_source s cpu c) ≡ read other (words_source other cpu c) → words ≡ also
words_same s other cpu c words also change next sound sound_too is is_too same =
    words_by s cpu c words change sound is ∙ ap (words_from c) same ∙ sym (words_by other cpu c also next sound_too is_too)
