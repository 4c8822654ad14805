-- What outputs hold where one of them fails within a line.
use Rattle.merging.proofs.Common.{◌++◌, ◌+◌, ◌∙◌, ◌∷◌, ◌≡◌, ◌≤◌, Appends, Call, Commit, Happened, List, Moment, Option, Return, Some, Stand, [], ap, append-nil, append_assoc, arith, event_parts, events_from, events_of, false, length, line_parts, lines_from, lines_of, lines_text, map, refl, slice_get, stands_after, stands_with, starts, subst, suc, sym, take, zero, ℕ}
use Rattle.std.proofs.Common.{drop, ◌-◌, take-append-drop, length-append}
use Rattle.std.proofs.lemmas.List.{take_rest}
use Rattle.rmm_spec.specs.CertificateText.{certificate_text}
use Rattle.rmm_spec.specs.HistoryText.{config_parts, history_text}
use Rattle.spec_lemmas.proofs.Lines.{lines_text-append}
use Rattle.rmm_spec.specs.declared.event.Event.{Event}
use Rattle.rmm_spec.specs.declared.line.Line.{Line}
use Rattle.rmm_spec.specs.declared.command.Command.{Command}
use Rattle.rmm_spec.specs.declared.reply.Reply.{Reply}
use Rattle.merging.specs.Merge.{Merge, history_of, event_lines, commit_lines, text_of}
use Rattle.merging.specs.Run.{events_merged, lines_merged}
use Rattle.merging.specs.Written.{Held, GrowsUpTo, HasFront, LacksEnd, outputs, IsCut, IsUnwritten, Outputs}
use Rattle.merging.specs.declared.fault.WriteFault.{WriteFault}
use Rattle.merging.specs.declared.fault.WriteFault.TheVariants.{History, Certificate, NoMemory}
use Rattle.merging.proofs.LineLaws.{appends_nothing, lines_of_both}
use Rattle.merging.proofs.RunLaws.{events_from-push, lines_from-push}
use Rattle.lemmas.proofs.Elements.{take-next_at}
use Rattle.lemmas.proofs.Appended.{Appends-both}

-- ---- a beginning of a text

-- and some first bytes of its rest
pub GrowsUpTo-further : (rest text : List ℕ) (count : ℕ) (old middle new : Option (List ℕ)) → GrowsUpTo rest text old middle
    → Appends middle new (take count rest) → GrowsUpTo (take (length rest - count) (drop count rest)) text old new
GrowsUpTo-further rest text count old middle new before own = record {
  front = before.front ++ take count rest;
  is_text =
      before.is_text ∙ ap (λ xs. before.front ++ xs) (sym (take-append-drop count rest))
      ∙ sym (append_assoc before.front (take count rest) (drop count rest))
      ∙ ap (λ xs. before.front ++ take count rest ++ xs) (sym (take_rest rest count));
  appends = Appends-both old middle new before.front (take count rest) before.appends own;
}

-- with a text before it and one behind it

module _ (xs ys more : List ℕ) where
  GrowsUpTo-then : (rest : List ℕ) (first second third : Option (List ℕ)) → Appends first second xs → GrowsUpTo rest ys second third
      → GrowsUpTo (rest ++ more) (xs ++ ys ++ more) first third
  GrowsUpTo-then rest first second third one two = record {
    front = xs ++ two.front;
    is_text = ap (λ zs. zs ++ more) (ap (λ zs. xs ++ zs) two.is_text ∙ sym (append_assoc xs two.front rest))
        ∙ append_assoc (xs ++ two.front) rest more;
    appends = Appends-both first second third xs two.front one two.appends;
  }

  pub HasFront-then : (first second third : Held)
      → Appends first.contents second.contents xs → HasFront ys second third → HasFront (xs ++ ys ++ more) first third
  HasFront-then first second third one two = record {
    rest = two.rest ++ more;
    grows = GrowsUpTo-then two.rest first.contents second.contents third.contents one two.grows;
    going = two.going;
  }

  pub LacksEnd-then : (first second third : Held)
      → Appends first.contents second.contents xs → LacksEnd ys second third → LacksEnd (xs ++ ys ++ more) first third
  LacksEnd-then first second third one two = record {
    rest = two.rest ++ more;
    some = omega (arith, two.some, length-append two.rest more);
    grows = GrowsUpTo-then two.rest first.contents second.contents third.contents one two.grows;
    failed = two.failed;
  }

-- nothing of a text was written
pub HasFront-none : (text : List ℕ) (held : Held) → Appends held.contents held.contents [] → held.has_failed ≡ false → HasFront text held held
HasFront-none text held none going = record { rest = text; grows = record { front = []; is_text = refl; appends = none }; going = going }

-- ---- both outputs

-- one of them fails after some lines, and before others
pub IsCut-then : (fault : WriteFault) (h0 h1 h2 c0 c1 c2 : Held) (xs ys more us vs rest : List ℕ) → Appends h0.contents h1.contents xs
    → Appends c0.contents c1.contents us → IsCut ys vs (outputs h1 h2 c1 c2) fault
    → IsCut (xs ++ ys ++ more) (us ++ vs ++ rest) (outputs h0 h2 c0 c2) fault
IsCut-then History h0 h1 h2 c0 c1 c2 xs ys more us vs rest h c cut =
    (LacksEnd-then xs ys more h0 h1 h2 h cut.0, HasFront-then us vs rest c0 c1 c2 c cut.1)
IsCut-then Certificate h0 h1 h2 c0 c1 c2 xs ys more us vs rest h c cut =
    (HasFront-then xs ys more h0 h1 h2 h cut.0, LacksEnd-then us vs rest c0 c1 c2 c cut.1)
IsCut-then NoMemory h0 h1 h2 c0 c1 c2 xs ys more us vs rest h c cut = absurd cut

-- ---- texts, cut at a moment

events_from-front : (stands : ℕ → Stand) (slots : List Happened) (n : ℕ)
    → (more : List Event) × (events_from stands slots ≡ events_from stands (take n slots) ++ more)
events_from-front stands [] zero = ([], refl)
events_from-front stands [] (suc n) = ([], refl)
events_from-front stands (slot ∷ slots) zero = (events_from stands (slot ∷ slots), refl)
events_from-front stands (slot ∷ slots) (suc n) =
    let own = events_of (stands slot.cpu) slot.cpu slot.moment in
    let next = stands_with stands slot in
    let rest = events_from-front next slots n in
    (rest.0, ap (λ es. own ++ es) rest.1 ∙ sym (append_assoc own (events_from next (take n slots)) rest.0))

lines_from-front : (returns : ℕ → ℕ) (stands : ℕ → Stand) (slots : List Happened) (n : ℕ)
    → (more : List Line) × (lines_from returns stands slots ≡ lines_from returns stands (take n slots) ++ more)
lines_from-front returns stands [] zero = ([], refl)
lines_from-front returns stands [] (suc n) = ([], refl)
lines_from-front returns stands (slot ∷ slots) zero = (lines_from returns stands (slot ∷ slots), refl)
lines_from-front returns stands (slot ∷ slots) (suc n) =
    let own = lines_of (returns slot.cpu) (stands slot.cpu) slot.cpu slot.moment in
    let next = stands_with stands slot in
    let rest = lines_from-front returns next slots n in
    (rest.0, ap (λ ls. own ++ ls) rest.1 ∙ sym (append_assoc own (lines_from returns next (take n slots)) rest.0))

-- no more events are made of the first moments
pub length-events_front : (slots : List Happened) (n : ℕ) → length (events_from starts (take n slots)) ≤ length (events_from starts slots)
length-events_front slots n =
    let front = events_from-front starts slots n in
    omega (arith, ap length front.1, length-append (events_from starts (take n slots)) front.0)

module _ (events : List Happened) (stamp : ℕ) (slot : Happened) (is : slice_get events stamp ≡ Some slot) where
  -- the lines before a moment, its own, and those after it
  history-cut : (more : List ℕ) × (lines_text (map event_parts (events_from starts events))
      ≡ lines_text (map event_parts (events_from starts (take stamp events)))
      ++ lines_text (map event_parts (events_of (stands_after starts (take stamp events) slot.cpu) slot.cpu slot.moment)) ++ more)
  history-cut =
      let front = events_from-front starts events (stamp + 1) in
      let before = events_from starts (take stamp events) in
      let own = events_of (stands_after starts (take stamp events) slot.cpu) slot.cpu slot.moment in (
        lines_text (map event_parts front.0),
        ap (λ es. lines_text (map event_parts es)) front.1 ∙ lines_of_both event_parts (events_from starts (take (stamp + 1) events)) front.0
            ∙ ap (λ text. text ++ lines_text (map event_parts front.0))
            (ap (λ es. lines_text (map event_parts es))
            (ap (events_from starts) (take-next_at events stamp slot is) ∙ events_from-push starts (take stamp events) slot)
            ∙ lines_of_both event_parts before own),
      )

  certificate-cut : (returns : ℕ → ℕ) → (more : List ℕ) × (lines_text (map line_parts (lines_from returns starts events))
      ≡ lines_text (map line_parts (lines_from returns starts (take stamp events)))
      ++ lines_text (map line_parts (lines_of (returns slot.cpu) (stands_after starts (take stamp events) slot.cpu) slot.cpu slot.moment)) ++ more)
  certificate-cut returns =
      let front = lines_from-front returns starts events (stamp + 1) in
      let before = lines_from returns starts (take stamp events) in
      let own = lines_of (returns slot.cpu) (stands_after starts (take stamp events) slot.cpu) slot.cpu slot.moment in (
        lines_text (map line_parts front.0),
        ap (λ ls. lines_text (map line_parts ls)) front.1 ∙ lines_of_both line_parts (lines_from returns starts (take (stamp + 1) events)) front.0
            ∙ ap (λ text. text ++ lines_text (map line_parts front.0))
            (ap (λ ls. lines_text (map line_parts ls))
            (ap (lines_from returns starts) (take-next_at events stamp slot is) ∙ lines_from-push returns starts (take stamp events) slot)
            ∙ lines_of_both line_parts before own),
      )

  -- an output fails at that moment's line
  pub IsCut-at : (returns : ℕ → ℕ) (fault : WriteFault) (stands : ℕ → Stand) (h0 h1 h2 c0 c1 c2 : Held)
      → stands ≡ stands_after starts (take stamp events)
      → Appends h0.contents h1.contents (lines_text (map event_parts (events_from starts (take stamp events))))
      → Appends c0.contents c1.contents (lines_text (map line_parts (lines_from returns starts (take stamp events))))
      → IsCut (event_lines stands slot) (commit_lines returns stands slot) (outputs h1 h2 c1 c2) fault
      → IsCut (lines_text (map event_parts (events_from starts events))) (lines_text (map line_parts (lines_from returns starts events)))
      (outputs h0 h2 c0 c2) fault
  IsCut-at returns fault stands h0 h1 h2 c0 c1 c2 are h c cut =
      let before = lines_text (map event_parts (events_from starts (take stamp events))) in
      let own = event_lines (stands_after starts (take stamp events)) slot in
      let calls = history-cut in
      let commits = certificate-cut returns in
      subst (λ text. IsCut text (lines_text (map line_parts (lines_from returns starts events))) (outputs h0 h2 c0 c2) fault) (sym calls.1)
      (subst (λ text. IsCut (before ++ own ++ calls.0) text (outputs h0 h2 c0 c2) fault) (sym commits.1)
      (IsCut-then fault h0 h1 h2 c0 c1 c2 _ _ calls.0 _ _ commits.0 h c
      (subst (λ (s : ℕ → Stand). IsCut (event_lines s slot) (commit_lines returns s slot) (outputs h1 h2 c1 c2) fault) are cut)))

-- ---- at one moment, whose line is its text

module _ (returns : ℕ) (stand : Stand) (cpu : ℕ) (moment : Moment) (line : List ℕ) (both : Outputs) (fault : WriteFault)
    (is_line : line ≡ text_of returns stand cpu moment) where
  abbrev pub IsCutMoment : Moment → Type 0
  IsCutMoment m = IsCut (lines_text (map event_parts (events_of stand cpu m))) (lines_text (map line_parts (lines_of returns stand cpu m))) both fault

  pub IsCut-call : (command : Command) → moment ≡ Call command → IsCut line [] both fault
      → IsCutMoment moment
  IsCut-call command is cut =
      subst IsCutMoment (sym is) (subst (λ text. IsCut text [] both fault) (is_line ∙ ap (text_of returns stand cpu) is) cut)

  pub IsCut-commit : (given : Reply) → moment ≡ Commit given → IsCut [] line both fault
      → IsCutMoment moment
  IsCut-commit given is cut =
      subst IsCutMoment (sym is) (subst (λ text. IsCut [] text both fault) (is_line ∙ ap (text_of returns stand cpu) is) cut)

  pub IsCut-return : (given : Reply) → moment ≡ Return given → IsCut line [] both fault
      → IsCutMoment moment
  IsCut-return given is cut =
      subst IsCutMoment (sym is) (subst (λ text. IsCut text [] both fault) (is_line ∙ ap (text_of returns stand cpu) is) cut)

-- and as the moment is told, of a CPU that is one of all
pub IsCut-told : (both : Outputs) (fault : WriteFault) (stands : ℕ → Stand) (returns : ℕ → ℕ) (event told : Happened) (stand : Stand) (count : ℕ)
    → event ≡ told → stands event.cpu ≡ stand → count ≡ returns event.cpu
    → IsCut (lines_text (map event_parts (events_of stand event.cpu event.moment)))
    (lines_text (map line_parts (lines_of count stand event.cpu event.moment))) both fault
    → IsCut (event_lines stands told) (commit_lines returns stands told) both fault
IsCut-told both fault stands returns event told stand count same stand_is count_is cut =
    subst (λ (e : Happened). IsCut (event_lines stands e) (commit_lines returns stands e) both fault) same
    (subst (λ (s : Stand). IsCut (lines_text (map event_parts (events_of s event.cpu event.moment)))
    (lines_text (map line_parts (lines_of (returns event.cpu) s event.cpu event.moment))) both fault) (sym stand_is)
    (subst (λ (n : ℕ). IsCut (lines_text (map event_parts (events_of stand event.cpu event.moment)))
    (lines_text (map line_parts (lines_of n stand event.cpu event.moment))) both fault) count_is cut))

-- ---- a run's whole texts

abbrev history_lines : Merge → List ℕ
history_lines merge = lines_text (map event_parts (events_merged merge.events))

whole_history : (merge : Merge) → lines_text (config_parts merge.config ∷ []) ++ history_lines merge ++ [] ≡ history_text (history_of merge)
whole_history merge =
    append-nil (lines_text (config_parts merge.config ∷ []) ++ history_lines merge)
    ∙ sym (lines_text-append (config_parts merge.config ∷ []) (map event_parts (events_merged merge.events)))

-- the history's header, and the lines behind it
pub IsCut-written : (merge : Merge) (fault : WriteFault) (h0 h1 h2 c0 c2 : Held)
    → Appends h0.contents h1.contents (lines_text (config_parts merge.config ∷ []))
    → IsCut (history_lines merge) (certificate_text (lines_merged merge.events)) (outputs h1 h2 c0 c2) fault
    → IsCut (history_text (history_of merge)) (certificate_text (lines_merged merge.events)) (outputs h0 h2 c0 c2) fault
IsCut-written merge History h0 h1 h2 c0 c2 header cut =
    (subst (λ text. LacksEnd text h0 h2) (whole_history merge) (LacksEnd-then _ (history_lines merge) [] h0 h1 h2 header cut.0), cut.1)
IsCut-written merge Certificate h0 h1 h2 c0 c2 header cut =
    (subst (λ text. HasFront text h0 h2) (whole_history merge) (HasFront-then _ (history_lines merge) [] h0 h1 h2 header cut.0), cut.1)
IsCut-written merge NoMemory h0 h1 h2 c0 c2 header cut = absurd cut

-- it fails in the header
pub IsCut-header : (merge : Merge) (h0 h1 c0 : Held) → c0.has_failed ≡ false → LacksEnd (lines_text (config_parts merge.config ∷ [])) h0 h1
    → IsCut (history_text (history_of merge)) (certificate_text (lines_merged merge.events)) (outputs h0 h1 c0 c0) History
IsCut-header merge h0 h1 c0 going lacks = (
  subst (λ text. LacksEnd text h0 h1) (sym (lines_text-append (config_parts merge.config ∷ []) (map event_parts (events_merged merge.events))))
      (LacksEnd-then [] _ (history_lines merge) h0 h0 h1 (appends_nothing h0.contents) lacks),
  HasFront-none (certificate_text (lines_merged merge.events)) c0 (appends_nothing c0.contents) going,
)

pub IsUnwritten-cut : (merge : Merge) (both : Outputs) (fault : WriteFault)
    → IsCut (history_text (history_of merge)) (certificate_text (lines_merged merge.events)) both fault → IsUnwritten merge both fault
IsUnwritten-cut merge both History cut = cut
IsUnwritten-cut merge both Certificate cut = cut
IsUnwritten-cut merge both NoMemory cut = absurd cut
