-- Facts of tags: which a step puts and which it takes off, and which its reply shows.
use Rattle.verdict_laws.proofs.Common.{◌≡◌, ℕ, ◌==◌, ◌&&◌, ◌-◌, Bool, true, false, not, if◌then◌else◌, IsTrue, List, Some, inl, inr, ◌⊎◌, refl, sym, ◌∙◌, ap, subst, eqb-true, eq-eqb, Result, Ok, Err, AllByRecursion, slice_get, and_from, and_parts, cases_Bool, not-true, or_cases, slice_get_within, Accepted, Call, Command, Refusal, Reply, Tag, Undelegated, Delegated, Rd, Rec, RecAux, Rtt, call_of, class_of, changed, has_tag, realm_at, rec_at, is_accepted, Needed, IsSound, State, CarriesOut, Step, is_placed, outcome, reached_change, named, entry_number, reach, both_ways, behind, tag-has_tag, by_address, outcome-leads, realm_there, rec_there, step-refuses}
use Rattle.std.specs.Prelude.{Contains}
use Rattle.std.proofs.lemmas.List.Folds.{list_any_at}
use Rattle.std.proofs.lemmas.Option.{get_or_from_slice_get}
use Rattle.rmm_spec.specs.declared.call.Call.TheVariants as call
use Rattle.rmm_spec.specs.declared.reply.Reply.TheVariants as reply
use Rattle.rmm_spec.specs.declared.tag.Tag.TheVariants.{Data}
use Rattle.rmm_spec.specs.Lookup.{tag_number}
use Rattle.rmm_spec.specs.Step.Terms.{needed}
use Rattle.rmm_spec.specs.Walk.{entry_address, is_assigned, table_number, walk}
use Rattle.spec_lemmas.proofs.Members.{Contains-from_slice_get, passing_member}
use Rattle.spec_lemmas.proofs.TagLaws.{tag_number-injective}
use Rattle.rmm_laws.proofs.Applies.{Applies}
use Rattle.rmm_laws.proofs.ByRows.{AllHold}
use Rattle.rmm_laws.proofs.Cases.{at_itself}
use Rattle.rmm_laws.proofs.Commands.{accepted_applies, whole_command}
use Rattle.rmm_laws.proofs.Facts.{entry-page}
use Rattle.rmm_laws.proofs.RowLaws.{front-rest, refusal-refuses}
use Rattle.rmm_laws.proofs.Walked.{assigned_kind}
use Rattle.verdict_laws.specs.declared.facts.Fact.TheVariants.{Tagged}
use Rattle.verdict_laws.specs.Denying.{denies, needs_other}
use Rattle.verdict_laws.specs.Facts.{destroys, gives_page, is_tag, makes_realm, makes_rec, may_retag, needs, tags}
use Rattle.verdict_laws.specs.Separate.{is_freed}
use Rattle.verdict_laws.specs.Slices.{changeable, shows_names}
use Rattle.verdict_laws.proofs.Entered.{placed_accepted}
use Rattle.verdict_laws.proofs.LeftUnused.{leaves_done}
use Rattle.verdict_laws.proofs.MaskedCalls.{outcome-found, refused_named}

-- ---- tags

-- a tag is itself
pub tag-is_tag : (one other : Tag) → one ≡ other → is_tag one other ≡ true
tag-is_tag one other same = eq-eqb (tag_number one) (tag_number other) (ap tag_number same)

-- and no other
pub tag-from_is_tag : (one other : Tag) → is_tag one other ≡ true → one ≡ other
tag-from_is_tag one other is = tag_number-injective one other (eqb-true (tag_number one) (tag_number other) is)

-- ---- calls that are carried out

-- The call is carried out: it is placed, each granule that it names has its tag, its other rows hold, and the state can take what is done.
pub record IsCarried (s : State) (cpu : ℕ) (c : Call) (given : Reply) (new : State) : Type 0 where
  pub placed : is_placed s cpu (class_of c) ≡ true
  pub tagged : AllByRecursion (λ (n : Needed). IsTrue (has_tag s n.granule n.tag)) (named c)
  pub rows : AllHold (behind s cpu c).0
  pub can : Applies s (behind s cpu c).1
  pub done : CarriesOut (Ok (behind s cpu c).1) s given new

-- so is one whose reply accepts
pub carried_by : (s : State) (cpu : ℕ) (command : Command) (given : Reply) (new : State) (found : Result Accepted Refusal) → IsSound s
    → is_accepted given ≡ true → outcome s cpu (call_of command) ≡ found → CarriesOut found s given new
    → IsCarried s cpu (call_of command) given new
carried_by s cpu command given new (Err refusal) sound accepted is carried =
    both_ways accepted (ap is_accepted carried.0 ∙ refusal-refuses refusal)
carried_by s cpu command given new (Ok found) sound accepted is carried =
    let c = call_of command in
    let leads = outcome-leads s cpu c (Ok found) is in
    let hold = front-rest s c (behind s cpu c).0 leads.0 in
    record {
      placed = placed_accepted s cpu c found is;
      tagged = hold.1;
      rows = hold.2;
      can = subst (Applies s) (sym leads.1) (accepted_applies s cpu c found sound (whole_command command) is);
      done = subst (λ (a : Accepted). CarriesOut (Ok a) s given new) (sym leads.1) carried;
    }

-- what it leaves with a tag has that
made : (s : State) (cpu : ℕ) (given : Reply) (new : State) (g : ℕ) (tag : Tag) (c : Call) → IsCarried s cpu c given new
    → tags c given g tag ≡ true → new.tag g ≡ tag
unfolding behind changed makes_realm makes_rec gives_page
made s cpu given new g Undelegated c carried is = leaves_done s cpu c given new g false is carried.done
made s cpu given new g Delegated c carried is = leaves_done s cpu c given new g true is carried.done
made s cpu given new g Rd (call.RealmCreate rd root width level vmid algo) carried is =
    subst (λ x. new.tag x ≡ Rd) (eqb-true rd g is) (rw (carried.done.1, carried.can.apart) (at_itself rd Rd _))
made s cpu given new g Rec (call.RecCreate rd rec mpidr flags aux0 aux1) carried is =
    subst (λ x. new.tag x ≡ Rec) (eqb-true rec g is)
    (rw (carried.done.1, carried.can.apart1, carried.can.apart0) (at_itself rec Rec _))
made s cpu given new g Data (call.DataCreate rd page ipa source flags digest) carried is =
    subst (λ x. new.tag x ≡ Data) (eqb-true page g is) (rw carried.done.1 (at_itself page Data _))
made s cpu given new g Data (call.DataCreateUnknown rd page ipa) carried is =
    subst (λ x. new.tag x ≡ Data) (eqb-true page g is) (rw carried.done.1 (at_itself page Data _))
made s cpu given new g _ _ carried is = both_ways is refl

-- ---- what a call takes off

-- a page's granule is one
page_tagged : (s : State) (rd ipa : ℕ) → IsSound s → IsTrue (is_assigned (walk s rd ipa 3).entry)
    → IsTrue (has_tag s (entry_address (walk s rd ipa 3).entry) Data)
page_tagged s rd ipa sound assigned =
    let entry = (walk s rd ipa 3).entry in
    let level = reach s rd ipa 3 in
    let page = (assigned_kind entry assigned).1 in
    sound.leaves.pages rd level (entry_number level ipa) (entry_address entry) page.0
    (entry-page s rd level (entry_number level ipa) (entry_address entry) page.0 page.1)

-- what stands among the names is needed
needs_at : (names : List Needed) (i : ℕ) (n : Needed) → slice_get names i ≡ Some n → needs names n.granule n.tag ≡ true
needs_at names i n is =
    list_any_at _ names i n (slice_get_within names i n is)
    (rw (get_or_from_slice_get names i n n is) (and_from _ _ (eq-eqb n.granule n.granule refl) (tag-is_tag n.tag n.tag refl)))

module _ (s new : State) (cpu : ℕ) (given : Reply) (sound : IsSound s) (g : ℕ) (tag : Tag) (has : s.tag g ≡ tag)
    (may : ℕ → Tag → Bool) (stays : may g tag ≡ false) where
  -- where a tag may be taken off, it is off another granule
  past : (x : ℕ) (was gets old : Tag) → may x was ≡ true → IsTrue (has_tag s x was) → old ≡ tag → (if g == x then gets else old) ≡ tag
  past x was gets old takes had is = by_address (λ t. t ≡ tag) g x gets old (λ same.
      let here : tag ≡ was = sym has ∙ ap s.tag same ∙ tag-has_tag s x was had in
      both_ways ((λ i. may (same i) (here i)) ∙ takes) stays) (λ _. is)

  -- so the granule keeps its tag where a call takes off no more
  kept : (c : Call) → IsCarried s cpu c given new → ((x : ℕ) (was : Tag) → may_retag c given x was ≡ true → may x was ≡ true)
      → ((i x : ℕ) → slice_get (changeable c) i ≡ Some (needed x Delegated) → may x Delegated ≡ true) → new.tag g ≡ tag
  unfolding behind named changeable destroys is_freed changed reached_change
  kept (call.GranuleDelegate granule) carried takes lent = rw carried.done.1
      (past granule Undelegated Delegated _ (takes granule Undelegated (rw (eq-eqb granule granule refl) refl)) carried.tagged.0 has)
  kept (call.GranuleUndelegate granule) carried takes lent =
      rw carried.done.1 (past granule Delegated Undelegated _ (lent 0 granule refl) carried.tagged.0 has)
  kept (call.DataCreate rd page ipa source flags digest) carried takes lent =
      rw carried.done.1 (past page Delegated Data _ (lent 1 page refl) carried.tagged.1.0 has)
  kept (call.DataCreateUnknown rd page ipa) carried takes lent =
      rw carried.done.1 (past page Delegated Data _ (lent 1 page refl) carried.tagged.1.0 has)
  kept (call.DataDestroy rd ipa) carried takes lent =
      let page = entry_address (walk s rd ipa 3).entry in
      rw carried.done.1 (past page Data Delegated _ (takes page Data (rw carried.done.0 (eq-eqb page page refl)))
      (page_tagged s rd ipa sound carried.rows.1.1.0) has)
  kept (call.RealmCreate rd root width level vmid algo) carried takes lent =
      rw carried.done.1 (past root Delegated Rtt _ (lent 1 root refl) carried.tagged.1.0
      (past rd Delegated Rd _ (lent 0 rd refl) carried.tagged.0 has))
  kept (call.RealmDestroy rd) carried takes lent =
      let realm = realm_at s rd in
      let root = sound.tables.roots rd realm (realm_there s rd sound carried.tagged.0) in
      rw carried.done.1 (past realm.root Rtt Delegated _ (takes realm.root Rtt refl) (sound.tables.tagged rd realm.start_level 0 realm.root root)
      (past rd Rd Delegated _ (takes rd Rd (eq-eqb rd rd refl)) carried.tagged.0 has))
  kept (call.RecCreate rd rec mpidr flags aux0 aux1) carried takes lent =
      rw carried.done.1 (past aux1 Delegated RecAux _ (lent 3 aux1 refl) carried.tagged.1.1.1.0
      (past aux0 Delegated RecAux _ (lent 2 aux0 refl) carried.tagged.1.1.0 (past rec Delegated Rec _ (lent 1 rec refl) carried.tagged.1.0 has)))
  kept (call.RecDestroy rec) carried takes lent =
      let old = rec_at s rec in
      let there = rec_there s rec sound carried.tagged.0 in
      rw carried.done.1 (past old.aux1 RecAux Delegated _ (takes old.aux1 RecAux refl) (sound.recs.aux1 rec old there)
      (past old.aux0 RecAux Delegated _ (takes old.aux0 RecAux refl) (sound.recs.aux0 rec old there)
      (past rec Rec Delegated _ (takes rec Rec (eq-eqb rec rec refl)) carried.tagged.0 has)))
  kept (call.RttCreate rd rtt ipa level) carried takes lent =
      rw carried.done.1 (past rtt Delegated Rtt _ (lent 1 rtt refl) carried.tagged.1.0 has)
  kept (call.RttRemove removal rd ipa level) carried takes lent =
      let rtt = entry_address (walk s rd ipa (level - 1)).entry in
      rw carried.done.1 (past rtt Rtt Delegated _ (takes rtt Rtt refl)
      (sound.tables.tagged rd level (table_number level ipa) rtt carried.can.there) has)
  kept (call.RttInitRipas rd base top) carried takes lent = rw carried.done.1.2 has
  kept (call.RttSetRipas rd rec base top) carried takes lent = rw carried.done.1.2 has
  kept _ carried takes lent = rw carried.done.1 has

-- ---- what a reply shows

-- a reply that tells a granule accepts
freed_accepted : (given : Reply) (c : Call) (g : ℕ) → is_freed c given g ≡ true → is_accepted given ≡ true
unfolding is_freed
freed_accepted (reply.Ok words) c g is = refl
freed_accepted _ (call.DataDestroy rd ipa) g is = both_ways is refl
freed_accepted _ _ g is = both_ways is refl

-- what is given back without being named was a page or a table
freed : (s : State) (cpu : ℕ) (c : Call) (given : Reply) (new : State) (g : ℕ) → IsSound s → IsCarried s cpu c given new
    → is_freed c given g ≡ true → IsTrue (has_tag s g Data) ⊎ IsTrue (has_tag s g Rtt)
unfolding behind named is_freed
freed s cpu (call.DataDestroy rd ipa) given new g sound carried is =
    inl (subst (λ x. IsTrue (has_tag s x Data)) (eqb-true _ g (rw carried.done.0 at is)) (page_tagged s rd ipa sound carried.rows.1.1.0))
freed s cpu (call.RttRemove removal rd ipa level) given new g sound carried is =
    let rtt = entry_address (walk s rd ipa (level - 1)).entry in
    inr (subst (λ x. IsTrue (has_tag s x Rtt)) (eqb-true rtt g (rw carried.done.0 at is))
    (sound.tables.tagged rd level (table_number level ipa) rtt carried.can.there))
freed s cpu _ given new g sound carried is = both_ways is refl

-- a reply that shows what is named shows each tag
shown : (s : State) (cpu : ℕ) (c : Call) (new : State) (given : Reply) (found : Result Accepted Refusal) → outcome s cpu c ≡ found
    → CarriesOut found s given new → shows_names given ≡ true → (n : Needed) → Contains (named c) n → s.tag n.granule ≡ n.tag
shown s cpu c new given (Ok accepted) is carried shows = (outcome-found s cpu c accepted is).tags
shown s cpu c new (reply.Err status index) (Err refusal) is carried shows =
    refused_named s cpu c refusal status index is (sym carried.0) (not-true (status == 1) shows)
shown s cpu c new (reply.Ok words) (Err refusal) is carried shows =
    both_ways (sym (ap is_accepted carried.0)) (refusal-refuses refusal)
shown s cpu c new reply.Misplaced (Err refusal) is carried shows = both_ways shows refl

-- ---- steps

-- what an accepted call leaves with a tag has it
pub tag-made : (granule : ℕ) (tag : Tag) (s new : State) (cpu : ℕ) (command : Command) (given : Reply) → IsSound s → Step s cpu command given new
    → is_accepted given ≡ true → tags (call_of command) given granule tag ≡ true → is_tag (new.tag granule) tag ≡ true
tag-made granule tag s new cpu command given sound step accepted is =
    let c = call_of command in
    let carried = carried_by s cpu command given new (outcome s cpu c) sound accepted refl step in
    tag-is_tag (new.tag granule) tag (made s cpu given new granule tag c carried is)

-- a granule keeps its tag where the call may not take it off
pub tag-left : (granule : ℕ) (tag : Tag) (s new : State) (cpu : ℕ) (command : Command) (given : Reply) → IsSound s → Step s cpu command given new
    → may_retag (call_of command) given granule tag ≡ false → is_tag (s.tag granule) tag ≡ true → is_tag (new.tag granule) tag ≡ true
tag-left granule tag s new cpu command given sound step stays has = elim (cases_Bool (is_accepted given)) [
  | inl accepted ↦
      (let c = call_of command in
      let carried = carried_by s cpu command given new (outcome s cpu c) sound accepted refl step in
      tag-is_tag (new.tag granule) tag
      (kept s new cpu given sound granule tag (tag-from_is_tag (s.tag granule) tag has) (may_retag c given) stays c carried
      (λ x was takes. takes) (λ i x at. needs_at (changeable c) i (needed x Delegated) at)))
  | inr refused ↦ ap (λ (t : State). is_tag (t.tag granule) tag) (step-refuses s new cpu command given step refused) ∙ has
]

-- a reply doesn't deny the tag that a granule has
pub tag-denied : (granule : ℕ) (tag : Tag) (s new : State) (cpu : ℕ) (command : Command) (given : Reply) → IsSound s → Step s cpu command given new
    → is_tag (s.tag granule) tag ≡ true → denies (Tagged granule tag) (call_of command) given ≡ true → ⊥
tag-denied granule tag s new cpu command given sound step has denied =
    let c = call_of command in
    elim (or_cases _ _ denied) [
      | inl names ↦
          (let both = and_parts (shows_names given) (needs_other (named c) granule tag) names in
          let (i, n, at, other) = passing_member _ (named c) both.1 in
          let parts = and_parts (n.granule == granule) (not (is_tag n.tag tag)) other in
          let known = shown s cpu c new given (outcome s cpu c) refl step both.0 n (Contains-from_slice_get (named c) i n at) in
          both_ways (ap (λ t. is_tag t tag) (sym known ∙ ap s.tag (eqb-true n.granule granule parts.0)) ∙ has) (not-true (is_tag n.tag tag) parts.1))
      | inr gone ↦
          (let both = and_parts (is_freed c given granule && not (is_tag tag Data)) (not (is_tag tag Rtt)) gone in
          let parts = and_parts (is_freed c given granule) (not (is_tag tag Data)) both.0 in
          let carried = carried_by s cpu command given new (outcome s cpu c) sound (freed_accepted given c granule parts.0) refl step in
          let had : (other : Tag) → IsTrue (has_tag s granule other) → is_tag tag other ≡ true =
          λ other is. tag-is_tag tag other (sym (tag-from_is_tag (s.tag granule) tag has) ∙ tag-has_tag s granule other is) in
          elim (freed s cpu c given new granule sound carried parts.0) [
            | inl page ↦ both_ways (had Data page) (not-true (is_tag tag Data) parts.1)
            | inr table ↦ both_ways (had Rtt table) (not-true (is_tag tag Rtt) both.1)
          ])
    ]
