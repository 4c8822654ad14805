-- Two states that agree on what a command looks up that walks no table answer it alike, whichever command it is.
use Rattle.command_core.proofs.Common.{◌≡◌, Bool, Call, Needed, None, Option, Some, State, class_of, has_tag, named, outside_answer, realm_at, rec_at, way_of, words_of, ℕ}
use Rattle.std.specs.Prelude.{IfSome, slice_get}
use Rattle.rmm_spec.specs.declared.call.Call.TheVariants as call
use Rattle.rmm_spec.specs.Walk.{has_link}
use Rattle.rmm_spec.specs.Step.{answer_of, commands}
use Rattle.rmm_spec.specs.Step.RealmCall.{answer_to_realm}

-- ---- what is looked up

-- the REC whose realm is read
unfoldable pub entered : Call → Option ℕ
entered (call.RecEnter rec) = Some rec
entered _ = None

-- the realm of which it is read whether its root links to a table
unfoldable pub rooted : Call → Option ℕ
rooted (call.RealmDestroy rd) = Some rd
rooted _ = None

abbrev pub SameOwner : State → State → Option ℕ → Type 0
SameOwner s t rec = IfSome rec (λ r. realm_at s (rec_at s r).owner ≡ realm_at t (rec_at t r).owner)

abbrev pub SameRoot : State → State → Option ℕ → Type 0
SameRoot s t rd = IfSome rd (λ r. has_link s r (realm_at s r).start_level 0 ≡ has_link t r (realm_at t r).start_level 0)

-- the rules, and of each granule that is named the tag, the realm and the REC, are the same in both
pub record SameLookUps (s t : State) (c : Call) : Type 0 where
  pub version : s.config.version ≡ t.config.version
  pub tags : (k : ℕ) → IfSome (slice_get (named c) k) (λ (n : Needed). has_tag s n.granule n.tag ≡ has_tag t n.granule n.tag)
  pub realms : (k : ℕ) → IfSome (slice_get (named c) k) (λ (n : Needed). realm_at s n.granule ≡ realm_at t n.granule)
  pub recs : (k : ℕ) → IfSome (slice_get (named c) k) (λ (n : Needed). rec_at s n.granule ≡ rec_at t n.granule)
  pub owner : SameOwner s t (entered c)
  pub root : SameRoot s t (rooted c)

-- ---- answers

pub outside_answer-same : (vmids recs : ℕ → Bool) (s t : State) (cpu : ℕ) (c : Call) → way_of c ≡ None → SameLookUps s t c
    → outside_answer vmids recs s cpu c ≡ outside_answer vmids recs t cpu c
unfolding outside_answer answer_of class_of words_of named way_of entered rooted commands
outside_answer-same vmids recs s t cpu (call.GranuleDelegate granule) walks same = let tag = same.tags 0 in cc
outside_answer-same vmids recs s t cpu _ walks same =
    let first = same.tags 0 in let second = same.tags 1 in let third = same.tags 2 in let fourth = same.tags 3 in
    let realm = same.realms 0 in let rec = same.recs 0 in let owner = same.owner in let root = same.root in
    let version = same.version in cc

-- the address whose entry a realm's call reads
unfoldable pub asked : Call → Option ℕ
asked (call.IpaStateGet ipa) = Some ipa
asked _ = None

-- a realm's call looks up the REC and its realm, and an entry besides where it asks for one
pub answer_to_realm-same : (s t : State) (rec : ℕ) (c : Call) → asked c ≡ None → rec_at s rec ≡ rec_at t rec
    → realm_at s (rec_at s rec).owner ≡ realm_at t (rec_at t rec).owner → answer_to_realm s rec c ≡ answer_to_realm t rec c
unfolding answer_to_realm asked words_of named commands
answer_to_realm-same s t rec (call.MeasurementRead index) asks same realm = cc
answer_to_realm-same s t rec _ asks same realm = cc
