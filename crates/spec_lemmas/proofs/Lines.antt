-- Laws on the lines of a text, and how a reader comes to its bad line.
use Rattle.std.proofs.Common.{◌≡◌, ◌≢◌, ℕ, zero, suc, ◌+◌, ◌-◌, ◌<◌, List, [], ◌∷◌, ◌++◌, ◌⊎◌, inl, inr, map, length, take, if◌then◌else◌, ◌==◌, refl, sym, ap, ◌∙◌, subst, arith, append_assoc}
use Rattle.std.proofs.lemmas.Bool.{ne_eqb}
use Rattle.std.proofs.lemmas.List.{append-nil}
use Rattle.std.specs.List.{AllByRecursion}
use Rattle.spec_lemmas.proofs.Texts.{IsPart, line_text-has_no_newline, parts_of-line_text}
use Rattle.rmm_spec.specs.Text.{line_text, lines_text, parts_of, first_lines, IsBadLine, HasNoNewline}

-- The parts are one line: their text has no newline, and its parts are these.
pub record IsOneLine (parts : List (List ℕ)) : Type 0 where
  pub has_no_newline : HasNoNewline (line_text parts)
  pub given_back : parts_of (line_text parts) ≡ parts

-- each of the lists of parts is one line
abbrev pub AreOneLineEach : List (List (List ℕ)) → Type 0
AreOneLineEach lines = AllByRecursion IsOneLine lines

-- the first lines pass over a line and its newline
pub first_lines-line : (n : ℕ) (front rest : List ℕ)
    → HasNoNewline front → first_lines (suc n) (front ++ 10 ∷ rest) ≡ front ++ 10 ∷ first_lines n rest
first_lines-line n [] rest none = refl
first_lines-line n (byte ∷ front) rest none =
    ap (λ b. byte ∷ first_lines (if b then n else suc n) (front ++ 10 ∷ rest)) (ne_eqb byte 10 none.0)
    ∙ ap (λ bytes. byte ∷ bytes) (first_lines-line n front rest none.1)

-- a text that goes on after a byte isn't empty
pub append-cons-not_nil : {X : Type 0} (front : List X) (x : X) (rest : List X) → front ++ x ∷ rest ≡ [] → ⊥
append-cons-not_nil [] x rest same = cc
append-cons-not_nil (y ∷ front) x rest same = cc

-- texts that agree agree on their first line and on the rest
pub same_line : (a b c d : List ℕ) → HasNoNewline a → HasNoNewline c → a ++ 10 ∷ b ≡ c ++ 10 ∷ d → (a ≡ c) × (b ≡ d)
same_line [] b [] d none_a none_c same = (refl, cc)
same_line [] b (y ∷ c) d none_a none_c same = absurd (none_c.0 (let e : y ≡ 10 = cc in e))
same_line (x ∷ a) b [] d none_a none_c same = absurd (none_a.0 (let e : x ≡ 10 = cc in e))
same_line (x ∷ a) b (y ∷ c) d none_a none_c same =
    let tails = same_line a b c d none_a.1 none_c.1 (let e : a ++ 10 ∷ b ≡ c ++ 10 ∷ d = cc in e) in
    let heads : x ≡ y = cc in
    (let e : x ∷ a ≡ y ∷ c = cc (tails.0) in e, tails.1)

-- the lines of two texts that are joined
pub lines_text-append : (xs ys : List (List (List ℕ))) → lines_text (xs ++ ys) ≡ lines_text xs ++ lines_text ys
lines_text-append [] ys = refl
lines_text-append (x ∷ xs) ys =
    ap (λ bytes. line_text x ++ 10 ∷ bytes) (lines_text-append xs ys)
    ∙ sym (append_assoc (line_text x) (10 ∷ lines_text xs) (lines_text ys))

-- one more line at the end
pub lines_text-push : (lines : List (List (List ℕ))) (line : List (List ℕ))
    → lines_text (lines ++ line ∷ []) ≡ lines_text lines ++ (line_text line ++ 10 ∷ [])
lines_text-push lines line = lines_text-append lines (line ∷ [])

-- the first lines pass over whole lines
pub first_lines-lines_text : (good : List (List (List ℕ))) (n : ℕ) (rest : List ℕ) → AreOneLineEach good
    → first_lines (length good + n) (lines_text good ++ rest) ≡ lines_text good ++ first_lines n rest
first_lines-lines_text [] n rest each = ap (λ k. first_lines k rest) (let e : 0 + n ≡ n = omega arith in e)
first_lines-lines_text (line ∷ good) n rest each =
    ap (λ k. first_lines k (lines_text (line ∷ good) ++ rest)) (let e : length (line ∷ good) + n ≡ suc (length good + n) = omega arith in e)
    ∙ ap (λ bytes. first_lines (suc (length good + n)) bytes) (append_assoc (line_text line) (10 ∷ lines_text good) rest)
    ∙ first_lines-line (length good + n) (line_text line) (lines_text good ++ rest) each.0.has_no_newline
    ∙ ap (λ bytes. line_text line ++ 10 ∷ bytes) (first_lines-lines_text good n rest each.1)
    ∙ sym (append_assoc (line_text line) (10 ∷ lines_text good) (first_lines n rest))

-- a line is known by its text
pub same_parts : (a b : List (List ℕ)) → IsOneLine a → IsOneLine b → line_text a ≡ line_text b → a ≡ b
same_parts a b of_a of_b same = sym of_a.given_back ∙ ap parts_of same ∙ of_b.given_back

-- lines that begin a text of lines are its first lines, and the rest is the text of its other lines
pub lines_cut : (good lines : List (List (List ℕ))) (rest : List ℕ) → AreOneLineEach good → AreOneLineEach lines
    → lines_text good ++ rest ≡ lines_text lines → (more : List (List (List ℕ))) × ((lines ≡ good ++ more) × (rest ≡ lines_text more))
lines_cut [] lines rest each all same = (lines, (refl, same))
lines_cut (g ∷ good) [] rest each all same =
    absurd (append-cons-not_nil (line_text g) 10 (lines_text good ++ rest) (sym (append_assoc (line_text g) (10 ∷ lines_text good) rest) ∙ same))
lines_cut (g ∷ good) (line ∷ lines) rest each all same =
    let cut = same_line (line_text g) (lines_text good ++ rest) (line_text line) (lines_text lines) each.0.has_no_newline all.0.has_no_newline
    (sym (append_assoc (line_text g) (10 ∷ lines_text good) rest) ∙ same) in
    let later = lines_cut good lines rest each.1 all.1 cut.1 in
    let heads : g ≡ line = same_parts g line each.0 all.0 cut.0 in
    (later.0, (let e : line ∷ lines ≡ g ∷ (good ++ later.0) = cc (later.1.0) in e, later.1.1))

-- no lines have an empty text but none
pub lines_text-nil : (lines : List (List (List ℕ))) → lines_text lines ≡ [] → lines ≡ []
lines_text-nil [] same = refl
lines_text-nil (line ∷ lines) same = absurd (append-cons-not_nil (line_text line) 10 (lines_text lines) same)

-- lines are known by their text
pub same_lines : (xs ys : List (List (List ℕ))) → AreOneLineEach xs → AreOneLineEach ys → lines_text xs ≡ lines_text ys → xs ≡ ys
same_lines xs ys each all same =
    let cut = lines_cut xs ys [] each all (append-nil (lines_text xs) ∙ same) in
    sym (append-nil xs) ∙ ap (λ more. xs ++ more) (sym (lines_text-nil cut.0 (sym cut.1.1))) ∙ sym cut.1.0

-- what holds of each of joined lists
pub each-right : {X : Type 0} (P : X → Type 0) (xs ys : List X) → AllByRecursion P (xs ++ ys) → AllByRecursion P ys
each-right P [] ys each = each
each-right P (x ∷ xs) ys each = each-right P xs ys each.1

-- what has no newline isn't a line with its newline and more
newline_among : (rest front tail : List ℕ) → HasNoNewline rest → rest ≡ front ++ 10 ∷ tail → ⊥
newline_among rest front tail none same =
    let among = each-right (λ byte. byte ≢ 10) front (10 ∷ tail) (subst HasNoNewline same none) in among.0 refl

-- where the first line of a text is whole, the text has that line
first_line_cut : (rest front more : List ℕ) → HasNoNewline front → first_lines 1 rest ≡ front ++ 10 ∷ more
    → (tail : List ℕ) × ((rest ≡ front ++ 10 ∷ tail) × (more ≡ []))
first_line_cut [] front more none same = absurd (append-cons-not_nil front 10 more (sym same))
first_line_cut (byte ∷ rest) [] more none same =
    let is_newline : byte ≡ 10 = cc in
    let later : first_lines (if byte == 10 then 0 else 1) rest ≡ more = cc in
    let ended : first_lines (if 10 == 10 then 0 else 1) rest ≡ more =
    subst (λ b. first_lines (if b == 10 then 0 else 1) rest ≡ more) is_newline later in
    (rest, (ap (λ b. b ∷ rest) is_newline, sym ended))
first_line_cut (byte ∷ rest) (x ∷ front) more none same =
    let heads : byte ≡ x = cc in
    let later : first_lines (if byte == 10 then 0 else 1) rest ≡ front ++ 10 ∷ more = cc in
    let goes_on : first_lines 1 rest ≡ front ++ 10 ∷ more =
    ap (λ b. first_lines (if b then 0 else 1) rest) (sym (ne_eqb byte 10 (λ e. none.0 (sym heads ∙ e)))) ∙ later in
    let cut = first_line_cut rest front more none.1 goes_on in
    (cut.0, (let e : byte ∷ rest ≡ x ∷ (front ++ 10 ∷ cut.0) = cc (cut.1.0) in e, cut.1.1))

-- A grammar over lines: each of its texts is lines that it takes, and these are one line each.
pub record IsLineGrammar (Grammar : List ℕ → Type 0) (Takes : List (List (List ℕ)) → Type 0) : Type 0 where
  pub lines : (text : List ℕ) → Grammar text → (lines : List (List (List ℕ))) × (Takes lines × (text ≡ lines_text lines))
  pub each : (lines : List (List (List ℕ))) → Takes lines → AreOneLineEach lines

-- what is taken after good lines, by the lines that follow them
taken_from : (Takes : List (List (List ℕ)) → Type 0) (good more : List (List (List ℕ))) (rest : List ℕ)
    → Takes (good ++ more) → AreOneLineEach (good ++ more)
    → first_lines 1 rest ≡ lines_text more
    → (Takes good × (rest ≡ []))
    ⊎ ((line : List (List ℕ)) × ((tail : List ℕ) × (Takes (good ++ line ∷ []) × (rest ≡ line_text line ++ 10 ∷ tail))))
taken_from Takes good [] [] taken each same = inl (subst Takes (append-nil good) taken, refl)
taken_from Takes good [] (byte ∷ rest) taken each same = absurd cc
taken_from Takes good (line ∷ more) rest taken each same =
    let cut = first_line_cut rest (line_text line) (lines_text more) (each-right IsOneLine good (line ∷ more) each).0.has_no_newline same in
    inr (line, (cut.0, (subst (λ ls. Takes (good ++ line ∷ ls)) (lines_text-nil more cut.1.1) taken, cut.1.0)))

-- After good lines, the first lines with one more are a text of the grammar only as the good lines,
-- and nothing, or one whole line, after them.
taken_next : {Grammar : List ℕ → Type 0} {Takes : List (List (List ℕ)) → Type 0} → IsLineGrammar Grammar Takes
    → (good : List (List (List ℕ))) (rest : List ℕ) → AreOneLineEach good → Grammar (first_lines (length good + 1) (lines_text good ++ rest))
    → (Takes good × (rest ≡ []))
    ⊎ ((line : List (List ℕ)) × ((tail : List ℕ) × (Takes (good ++ line ∷ []) × (rest ≡ line_text line ++ 10 ∷ tail))))
taken_next {Takes} grammar good rest each given =
    let taken = grammar.lines _ given in
    let all = grammar.each taken.0 taken.1.0 in
    let cut = lines_cut good taken.0 (first_lines 1 rest) each all (sym (first_lines-lines_text good 1 rest each) ∙ taken.1.1) in
    taken_from Takes good cut.0 rest (subst Takes cut.1.0 taken.1.0) (subst AreOneLineEach cut.1.0 all) cut.1.1

-- Line length good + 1 is bad where the good lines alone, if the text ends there, and with the next whole line, if there is one, aren't taken.
pub IsBadLine-after : {Grammar : List ℕ → Type 0} {Takes : List (List (List ℕ)) → Type 0} → IsLineGrammar Grammar Takes
    → (good : List (List (List ℕ))) (text rest : List ℕ) → AreOneLineEach good → text ≡ lines_text good ++ rest
    → (0 < length good → Grammar (lines_text good))
    → (rest ≡ [] → Takes good → ⊥)
    → ((line : List (List ℕ)) (tail : List ℕ) → rest ≡ line_text line ++ 10 ∷ tail → Takes (good ++ line ∷ []) → ⊥)
    → IsBadLine Grammar text (length good + 1)
IsBadLine-after {Grammar} {Takes} grammar good text rest each is_text before no_end no_line =
    let counted : 0 < length good + 1 = omega arith in
    let first : first_lines (length good) text ≡ lines_text good =
    ap (λ bytes. first_lines (length good) bytes) is_text
    ∙ ap (λ n. first_lines n (lines_text good ++ rest)) (let e : length good ≡ length good + 0 = omega arith in e)
    ∙ first_lines-lines_text good 0 rest each ∙ append-nil (lines_text good) in
    let one_less : length good + 1 - 1 ≡ length good = omega arith in
    record {
      counted = counted;
      before = λ more. subst Grammar (sym (ap (λ n. first_lines n text) one_less ∙ first)) (before (let e : 0 < length good = omega arith in e));
      here = λ given. elim (taken_next grammar good rest each (subst (λ bytes. Grammar (first_lines (length good + 1) bytes)) is_text given)) [
        | inl ended ↦ no_end ended.1 ended.0
        | inr next ↦ no_line next.0 next.1.0 next.1.1.1 next.1.1.0
      ];
    }

-- the next line is whole, and isn't taken after the good ones
pub IsBadLine-line : {Grammar : List ℕ → Type 0} {Takes : List (List (List ℕ)) → Type 0} → IsLineGrammar Grammar Takes
    → (good : List (List (List ℕ))) (text front more : List ℕ)
    → AreOneLineEach good → text ≡ lines_text good ++ (front ++ 10 ∷ more) → HasNoNewline front
    → (0 < length good → Grammar (lines_text good))
    → (Takes (good ++ parts_of front ∷ []) → ⊥)
    → IsBadLine Grammar text (length good + 1)
IsBadLine-line {Takes} grammar good text front more each is_text none before no_line =
    IsBadLine-after grammar good text (front ++ 10 ∷ more) each is_text before (λ same _. append-cons-not_nil front 10 more same)
    (λ line tail same taken.
    let is_one = (each-right IsOneLine good (line ∷ []) (grammar.each (good ++ line ∷ []) taken)).0 in
    let cut = same_line front more (line_text line) tail none is_one.has_no_newline same in
    let is_line : line ≡ parts_of front = sym is_one.given_back ∙ ap parts_of (sym cut.0) in
    no_line (subst (λ l. Takes (good ++ l ∷ [])) is_line taken))

-- the text ends within a line
pub IsBadLine-unfinished : {Grammar : List ℕ → Type 0} {Takes : List (List (List ℕ)) → Type 0} → IsLineGrammar Grammar Takes
    → (good : List (List (List ℕ))) (text rest : List ℕ) → AreOneLineEach good → text ≡ lines_text good ++ rest → HasNoNewline rest → rest ≢ []
    → (0 < length good → Grammar (lines_text good))
    → IsBadLine Grammar text (length good + 1)
IsBadLine-unfinished grammar good text rest each is_text none some before =
    IsBadLine-after grammar good text rest each is_text before (λ same _. some same)
    (λ line tail same _. newline_among rest (line_text line) tail none same)

-- no further line is taken, and the text goes on
pub IsBadLine-full : {Grammar : List ℕ → Type 0} {Takes : List (List (List ℕ)) → Type 0} → IsLineGrammar Grammar Takes
    → (good : List (List (List ℕ))) (text rest : List ℕ) → AreOneLineEach good → text ≡ lines_text good ++ rest → rest ≢ []
    → (0 < length good → Grammar (lines_text good))
    → ((line : List (List ℕ)) → Takes (good ++ line ∷ []) → ⊥)
    → IsBadLine Grammar text (length good + 1)
IsBadLine-full grammar good text rest each is_text some before no_line =
    IsBadLine-after grammar good text rest each is_text before (λ same _. some same) (λ line _ _. no_line line)

-- the text ends where the grammar wants a line
pub IsBadLine-end : {Grammar : List ℕ → Type 0} {Takes : List (List (List ℕ)) → Type 0} → IsLineGrammar Grammar Takes
    → (good : List (List (List ℕ))) (text : List ℕ) → AreOneLineEach good → text ≡ lines_text good
    → (0 < length good → Grammar (lines_text good))
    → (Takes good → ⊥)
    → IsBadLine Grammar text (length good + 1)
IsBadLine-end grammar good text each is_text before no_end =
    IsBadLine-after grammar good text [] each (is_text ∙ sym (append-nil (lines_text good))) before (λ _. no_end)
    (λ line tail same _. append-cons-not_nil (line_text line) 10 tail (sym same))

-- what follows for each element
pub each-weaker : {X : Type 0} (P Q : X → Type 0) → ((x : X) → P x → Q x) → (xs : List X) → AllByRecursion P xs → AllByRecursion Q xs
each-weaker P Q weaker [] each = tt
each-weaker P Q weaker (x ∷ xs) each = (weaker x each.0, each-weaker P Q weaker xs each.1)

-- some parts are one line
pub IsOneLine-from_parts : (parts : List (List ℕ)) → 0 < length parts → AllByRecursion IsPart parts → IsOneLine parts
IsOneLine-from_parts parts some each = record {
  has_no_newline = line_text-has_no_newline parts each;
  given_back = parts_of-line_text parts some each;
}

-- the lines of values that each have some parts
pub AreOneLineEach-map : {X : Type 0} (f : X → List (List ℕ)) → ((x : X) → 0 < length (f x)) → ((x : X) → AllByRecursion IsPart (f x))
    → (xs : List X) → AreOneLineEach (map f xs)
AreOneLineEach-map f some parts [] = tt
AreOneLineEach-map f some parts (x ∷ xs) = (IsOneLine-from_parts (f x) (some x) (parts x), AreOneLineEach-map f some parts xs)

-- where the images of values end in an element, a value has that image
pub map_last : {X Y : Type 0} (f : X → Y) (P : X → Type 0) → (ys : List Y) (xs : List X) (z : Y) → AllByRecursion P xs → map f xs ≡ ys ++ z ∷ []
    → (x : X) × (P x × (f x ≡ z))
map_last f P [] [] z each same = absurd cc
map_last f P [] (x ∷ xs) z each same = (x, (each.0, cc))
map_last f P (y ∷ ys) [] z each same = absurd cc
map_last f P (y ∷ ys) (x ∷ xs) z each same = map_last f P ys xs z each.1 (let e : map f xs ≡ ys ++ z ∷ [] = cc in e)

-- Values whose images are others' and one more are those others and one more: for the values that a reader has, with the line that comes next.
pub map_cut : {X Y : Type 0} (f : X → Y) (P : X → Type 0) → ((x y : X) → P x → P y → f x ≡ f y → x ≡ y)
    → (ys xs : List X) (z : Y) → AllByRecursion P ys → AllByRecursion P xs → map f xs ≡ map f ys ++ z ∷ []
    → (x : X) × ((P x × (f x ≡ z)) × (xs ≡ ys ++ x ∷ []))
map_cut f P one [] [] z all each same = absurd cc
map_cut f P one [] (x ∷ []) z all each same = (x, ((each.0, cc), refl))
map_cut f P one [] (x ∷ y ∷ xs) z all each same = absurd cc
map_cut f P one (y ∷ ys) [] z all each same = absurd cc
map_cut f P one (y ∷ ys) (x ∷ xs) z all each same =
    let heads : x ≡ y = one x y each.0 all.0 (let e : f x ≡ f y = cc in e) in
    let later = map_cut f P one ys xs z all.1 each.1 (let e : map f xs ≡ map f ys ++ z ∷ [] = cc in e) in
    (later.0, (later.1.0, (let e : x ∷ xs ≡ y ∷ (ys ++ later.0 ∷ []) = cc (later.1.1) in e)))

-- the first lines of a text of lines
pub first_lines-take : (n : ℕ) (lines : List (List (List ℕ))) → AreOneLineEach lines → first_lines n (lines_text lines) ≡ lines_text (take n lines)
first_lines-take zero lines each = refl
first_lines-take (suc n) [] each = refl
first_lines-take (suc n) (line ∷ lines) each =
    first_lines-line n (line_text line) (lines_text lines) each.0.has_no_newline
    ∙ ap (λ bytes. line_text line ++ 10 ∷ bytes) (first_lines-take n lines each.1)

-- A text of the grammar has no bad line, where the first lines of what is taken are taken.
pub not-IsBadLine : {Grammar : List ℕ → Type 0} {Takes : List (List (List ℕ)) → Type 0} → IsLineGrammar Grammar Takes
    → ((lines : List (List (List ℕ))) → Takes lines → Grammar (lines_text lines))
    → ((n : ℕ) (lines : List (List (List ℕ))) → 0 < n → Takes lines → Takes (take n lines))
    → (text : List ℕ) (n : ℕ) → Grammar text → IsBadLine Grammar text n → ⊥
not-IsBadLine {Grammar} grammar texts fronts text n given bad =
    let taken = grammar.lines text given in
    let first : first_lines n text ≡ lines_text (take n taken.0) =
    ap (λ t. first_lines n t) taken.1.1 ∙ first_lines-take n taken.0 (grammar.each taken.0 taken.1.0) in
    bad.here (subst Grammar (sym first) (texts (take n taken.0) (fronts n taken.0 bad.counted taken.1.0)))
