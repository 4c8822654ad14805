-- What one more event leaves of the slots.
use Rattle.std.proofs.Common.{◌≡◌, ◌≢◌, ℕ, zero, suc, ◌+◌, ◌-◌, ◌<◌, ◌≤◌, List, [], ◌∷◌, ◌++◌, length, get_or, set, take, drop, replicate, Option, Some, None, refl, sym, ap, ◌∙◌, subst, arith, ⊎_elim, length-append}
use Rattle.std.specs.List.{AllByRecursion}
use Rattle.std.proofs.lemmas.Bool.{cases_eq}
use Rattle.std.proofs.lemmas.List.{take-append-le, drop-append-le, length-drop, length-map, length-set, length-replicate, map-set, map-append, get_or-set_same, get_or-set_other}
use Rattle.rmm_spec.specs.declared.reply.Reply.{Reply}
use Rattle.rmm_spec.specs.declared.reply.Reply.TheVariants as reply
use Rattle.spec_lemmas.proofs.Lines.{each-weaker}
use Rattle.spec_lemmas.proofs.Texts.{AllByRecursion-append}
use Rattle.rmm_spec.specs.CommandText.{IsReply}
use Rattle.rmi_codec.proofs.PartLaws.{word_count-le}
use Rattle.rmi_view.specs.Seen as replied
use Rattle.merging.specs.Events.{Moment, Call, Commit, Return, IsMoment}
use Rattle.merging.specs.SeenEvents.{HasFewWords}
use Rattle.merging.specs.Table.{Happened, IsHappened, IsPut, slot_at}
use Rattle.merging.specs.Slots.{words_at, moment_at, happened_by, happened_in, slots_in, vacant, word_count_of, HasWords, IsHeld, reply_words, commit_what, return_what, moment_words, what_of, AreAt, IsPlaced}
use Rattle.merging.specs.declared.slot.What.{What}
use Rattle.merging.specs.declared.slot.What.TheVariants as what
use Rattle.merging.specs.declared.slot.Slot.{Slot}

-- ---- words at the end leave those before them

words_at-append : (words more : List ℕ) (first count : ℕ)
    → first + count ≤ length words → words_at (words ++ more) first count ≡ words_at words first count
words_at-append words more first count within =
    let before : first ≤ length words = omega (arith, within) in
    let enough : count ≤ length (drop first words) = omega (arith, within, length-drop first words) in
    ap (λ (ws : List ℕ). record { items = ws })
    (ap (take count) (drop-append-le first words more before) ∙ take-append-le count (drop first words) more enough)

moment_at-append : (words more : List ℕ) (first : ℕ) (kept : What)
    → first + word_count_of kept ≤ length words → moment_at (words ++ more) first kept ≡ moment_at words first kept
moment_at-append words more first what.Nothing within = refl
moment_at-append words more first (what.Call function count) within =
    let same = words_at-append words more first count within in
    λ i. Some (Call (record { function = function; words = same i }))
moment_at-append words more first (what.CommitOk count) within =
    let same = words_at-append words more first count within in
    λ i. Some (Commit (reply.Ok (same i)))
moment_at-append words more first (what.CommitErr status index) within = refl
moment_at-append words more first what.CommitMisplaced within = refl
moment_at-append words more first (what.ReturnOk count) within =
    let same = words_at-append words more first count within in
    λ i. Some (Return (reply.Ok (same i)))
moment_at-append words more first (what.ReturnErr status index) within = refl
moment_at-append words more first what.ReturnMisplaced within = refl

slots_in-append : (words more : List ℕ) (slots : List Slot) → AllByRecursion (HasWords (length words)) slots
    → slots_in (words ++ more) slots ≡ slots_in words slots
slots_in-append words more [] each = refl
slots_in-append words more (slot ∷ slots) each =
    let same = moment_at-append words more slot.first slot.what each.0.within in
    λ i. happened_by slot.line slot.cpu (same i) ∷ slots_in-append words more slots each.1 i

HasWords-more : (size more : ℕ) (slot : Slot) → HasWords size slot → HasWords (size + more) slot
HasWords-more size more slot has = record { within = omega (arith, has.within); few = has.few }

-- ---- the words of the last event

commit_at : (words : List ℕ) (first : ℕ) (given : Reply)
    → AreAt words (reply_words given) first → moment_at words first (commit_what given) ≡ Some (Commit given)
commit_at words first (reply.Ok ws) at = λ i. Some (Commit (reply.Ok (record { items = at.found i })))
commit_at words first (reply.Err status index) at = refl
commit_at words first reply.Misplaced at = refl

return_at : (words : List ℕ) (first : ℕ) (given : Reply)
    → AreAt words (reply_words given) first → moment_at words first (return_what given) ≡ Some (Return given)
return_at words first (reply.Ok ws) at = λ i. Some (Return (reply.Ok (record { items = at.found i })))
return_at words first (reply.Err status index) at = refl
return_at words first reply.Misplaced at = refl

moment_at-own : (words : List ℕ) (first : ℕ) (moment : Moment)
    → AreAt words (moment_words moment) first → moment_at words first (what_of moment) ≡ Some moment
moment_at-own words first (Call command) at = λ i. Some (Call (record { function = command.function; words = record { items = at.found i } }))
moment_at-own words first (Commit given) at = commit_at words first given at
moment_at-own words first (Return given) at = return_at words first given at

word_count-commit : (given : Reply) → word_count_of (commit_what given) ≡ length (reply_words given)
word_count-commit (reply.Ok ws) = refl
word_count-commit (reply.Err status index) = refl
word_count-commit reply.Misplaced = refl

word_count-return : (given : Reply) → word_count_of (return_what given) ≡ length (reply_words given)
word_count-return (reply.Ok ws) = refl
word_count-return (reply.Err status index) = refl
word_count-return reply.Misplaced = refl

word_count_of-what_of : (moment : Moment) → word_count_of (what_of moment) ≡ length (moment_words moment)
word_count_of-what_of (Call command) = refl
word_count_of-what_of (Commit given) = word_count-commit given
word_count_of-what_of (Return given) = word_count-return given

reply_words-few : (given : Reply) → replied.HasFewWords given → length (reply_words given) ≤ 10
reply_words-few (reply.Ok ws) few = few
reply_words-few (reply.Err status index) few = omega arith
reply_words-few reply.Misplaced few = omega arith

pub moment_words-few : (moment : Moment) → HasFewWords moment → length (moment_words moment) ≤ 10
moment_words-few (Call command) few = few
moment_words-few (Commit given) few = reply_words-few given few
moment_words-few (Return given) few = reply_words-few given few

HasFewWords-reply : (given : Reply) → IsReply given → replied.HasFewWords given
HasFewWords-reply (reply.Ok ws) is = is.0
HasFewWords-reply (reply.Err status index) is = tt
HasFewWords-reply reply.Misplaced is = tt

pub HasFewWords-moment : (moment : Moment) → IsMoment moment → HasFewWords moment
HasFewWords-moment (Call command) is = omega (arith, is.counted, word_count-le command.function)
HasFewWords-moment (Commit r) is = HasFewWords-reply r is
HasFewWords-moment (Return r) is = HasFewWords-reply r is

-- ---- slots that are empty leave what happened

get_or-nothing : (count stamp : ℕ) → ◌≡◌ {A = Option Happened} (get_or (replicate count None) stamp None) None
get_or-nothing zero stamp = refl
get_or-nothing (suc count) zero = refl
get_or-nothing (suc count) (suc stamp) = get_or-nothing count stamp

slot_at-grown : (slots : List (Option Happened)) (count stamp : ℕ) → slot_at (slots ++ replicate count None) stamp ≡ slot_at slots stamp
slot_at-grown [] count stamp = get_or-nothing count stamp
slot_at-grown (slot ∷ slots) count zero = refl
slot_at-grown (slot ∷ slots) count (suc stamp) = slot_at-grown slots count stamp

slots_in-vacant : (words : List ℕ) (count : ℕ) → slots_in words (replicate count vacant) ≡ replicate count None
slots_in-vacant words zero = refl
slots_in-vacant words (suc count) = ap (λ ss. None ∷ ss) (slots_in-vacant words count)

each_vacant : (size count : ℕ) → AllByRecursion (HasWords size) (replicate count vacant)
each_vacant size zero = tt
each_vacant size (suc count) = (record { within = omega arith; few = omega arith }, each_vacant size count)

AllByRecursion-set : {X : Type 0} (P : X → Type 0) (xs : List X) (at : ℕ) (x : X) → AllByRecursion P xs → P x → AllByRecursion P (set xs at x)
AllByRecursion-set P [] at x each here = tt
AllByRecursion-set P (first ∷ xs) zero x each here = (here, each.1)
AllByRecursion-set P (first ∷ xs) (suc at) x each here = (each.0, AllByRecursion-set P xs at x each.1 here)

-- ---- one more event

-- An event was put: its words stand among all, and its slot at its stamp, up to which there are slots and of which nothing was known.
pub record IsStored (words new_words : List ℕ) (slots new_slots : List Slot) (stamp line cpu : ℕ) (moment : Moment) : Type 0 where
  pub first : ℕ
  pub kept : What
  pub is_kept : kept ≡ what_of moment
  pub is_placed : IsPlaced words new_words (moment_words moment) first
  pub is_slots : new_slots
      ≡ set (slots ++ replicate (stamp + 1 - length slots) vacant) stamp (record { line = line; first = first; cpu = cpu; what = kept })
  pub free : slot_at (slots_in words slots) stamp ≡ None

module _ (words new_words : List ℕ) (slots new_slots : List Slot) (stamp line cpu : ℕ) (moment : Moment)
    (stored : IsStored words new_words slots new_slots stamp line cpu moment) (each : AllByRecursion (HasWords (length words)) slots) where
  grown : List (Option Happened)
  grown = slots_in words slots ++ replicate (stamp + 1 - length slots) None

  slot : Happened
  slot = record { line = line; cpu = cpu; moment = moment }

  moment-is : moment_at new_words stored.first stored.kept ≡ Some moment
  moment-is =
      ap (moment_at new_words stored.first) stored.is_kept ∙ moment_at-own new_words stored.first moment stored.is_placed.are_at

  seen : slots_in new_words new_slots ≡ set grown stamp (Some slot)
  unfolding grown slot
  seen =
      let more = replicate (stamp + 1 - length slots) vacant in
      let before : slots_in new_words slots ≡ slots_in words slots =
      ap (λ ws. slots_in ws slots) stored.is_placed.grown ∙ slots_in-append words stored.is_placed.more slots each in
      ap (slots_in new_words) stored.is_slots
      ∙ map-set _ (slots ++ more) stamp _
      ∙ ap (λ ss. set ss stamp (happened_in new_words (record { line = line; first = stored.first; cpu = cpu; what = stored.kept })))
      (map-append _ slots more ∙ (λ i. before i ++ slots_in-vacant new_words (stamp + 1 - length slots) i))
      ∙ ap (λ (m : Option Moment). set grown stamp (happened_by line cpu m)) moment-is

  length-grown : length grown ≡ length slots + (stamp + 1 - length slots)
  unfolding grown
  length-grown =
      let more : List (Option Happened) = replicate (stamp + 1 - length slots) None in
      let none : length more ≡ stamp + 1 - length slots = length-replicate {A = Option Happened} (stamp + 1 - length slots) None in
      let mapped : length (slots_in words slots) ≡ length slots = length-map slots (happened_in words) in
      length-append (slots_in words slots) more ∙ (λ i. mapped i + none i)

  within : stamp < length grown
  within = omega (arith, length-grown)

  pub IsPut-stored : IsPut (slots_in words slots) (slots_in new_words new_slots) stamp (record { line = line; cpu = cpu; moment = moment })
  unfolding grown slot
  IsPut-stored = subst (λ new. IsPut (slots_in words slots) new stamp slot) (sym seen) (record {
    free = stored.free;
    here = get_or-set_same grown stamp (Some slot) None within;
    others = λ other apart.
        get_or-set_other grown stamp other (Some slot) None apart ∙ slot_at-grown (slots_in words slots) (stamp + 1 - length slots) other;
    no_more = λ last is_last apart.
        omega (arith, is_last, apart, length-set grown stamp (Some slot), length-grown, length-map slots (happened_in words));
  })

  pub IsHeld-stored : (count : ℕ) → IsHeld count words slots → HasFewWords moment → IsHappened (record { line = line; cpu = cpu; moment = moment })
      → count < 2000000 → stamp < 2000000 → IsHeld (count + 1) new_words new_slots
  unfolding slot
  IsHeld-stored count held few_own is_happened few below =
      let placed = stored.is_placed in
      let more = replicate (stamp + 1 - length slots) vacant in
      let longer : length new_words ≡ length words + length placed.more = ap length placed.grown ∙ length-append words placed.more in
      let counted : word_count_of stored.kept ≡ length (moment_words moment) = ap word_count_of stored.is_kept ∙ word_count_of-what_of moment in
      let is_few = moment_words-few moment few_own in
      let put = IsPut-stored in
      record {
        each = subst (AllByRecursion (HasWords (length new_words))) (sym stored.is_slots)
            (AllByRecursion-set (HasWords (length new_words)) (slots ++ more) stamp _
            (AllByRecursion-append (HasWords (length new_words)) slots more
            (subst (λ size. AllByRecursion (HasWords size) slots) (sym longer)
            (each-weaker (HasWords (length words)) (HasWords (length words + length placed.more))
            (HasWords-more (length words) (length placed.more)) slots each))
            (each_vacant (length new_words) (stamp + 1 - length slots)))
            (record { within = omega (arith, placed.are_at.within, counted); few = omega (arith, counted, is_few) }));
        happened = λ at known is_known.
            ⊎_elim
            (λ (same : at ≡ stamp). let e : Some slot ≡ Some known =
            sym put.here ∙ ap (slot_at (slots_in new_words new_slots)) (sym same) ∙ is_known in
            let f : slot ≡ known = cc in subst IsHappened f is_happened)
            (λ (other : at ≢ stamp). held.happened at known (sym (put.others at other) ∙ is_known))
            (cases_eq at stamp);
        few_words = omega (arith, held.few_words, longer, placed.few);
        few = omega arith;
        few_slots = omega (
          arith,
          held.few_slots,
          ap length stored.is_slots,
          length-set (slots ++ more) stamp (record { line = line; first = stored.first; cpu = cpu; what = stored.kept }),
          length-append slots more,
          length-replicate {A = Slot} (stamp + 1 - length slots) vacant,
        );
      }
