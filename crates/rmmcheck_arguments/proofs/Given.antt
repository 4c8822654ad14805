-- Where clap finds no fault in the words, they name one of the subcommands and give each of its paths.
use Rattle.std.proofs.Common.{◌≡◌, ◌∙◌, ℕ, Bool, true, false, not, ◌&&◌, ◌||◌, true≢false, List, [], ◌∷◌, ◌++◌, fold, map, Option, Some, None, option_map, refl, sym, ap, subst, codes, ◌⊎◌, inl, inr}
use Rattle.std.specs.Prelude.{⊤, find, is_some, if◌then◌else◌}
use Rattle.std.specs.List.{AllByRecursion, list_any}
use Rattle.std.specs.Option.{option_map_or}
use Rattle.std.specs.Str.{bytes_eq}
use Rattle.std.proofs.lemmas.Slice.Eq.{bytes_eq-Decides}
use Rattle.clap.specs.Faults.{check_fault, defaults_fault, entered_fault, level_fault, other_fault, settle_fault, step_fault, turn_fault, walk_fault, word_fault}
use Rattle.clap.specs.Kinds.{Kinds, or_else}
use Rattle.clap.specs.Lexer.{long_of, short_of}
use Rattle.clap.specs.Simple.{App, Shape, argument_words, built, built_leaf, entered, filled_from, help_rule, help_shape, index_after, inherited, label_of, names_of, rows_at, subcommand_of}
use Rattle.clap.specs.Takes.{is_given}
use Rattle.clap.specs.Walk.{Held, Names, Outcome, Row, Rule, Step, Text, Waiting, Walk, after_flag, after_step, answers_to, arg_by_index, arg_by_long, bundle, done, finished, long_met, long_or_other, nothing_held, plain_word, rows_after, settled, short_or_plain, subcommand_met, subcommand_or_other, to_positional, walk_from, walked, walked_from, word_met}
use Rattle.clap.specs.Walk as walk
use Rattle.clap.specs.Words.{fault_of}
use Rattle.clap.specs.declared.error.kind.ErrorKind.TheVariants as kind
use Rattle.rmmcheck_arguments.specs.Words.{Form, form_command, forms, rmmcheck_command, name_of, path, value_of}
use Rattle.rmmcheck_arguments.proofs.Rows.{first_of-given, HasFlagsOnly, HaveValues, HaveValues-rows_after}

-- no kind comes of two steps only where none comes of either
or_else-none : (a b : Kinds) → or_else a b ≡ [] → (a ≡ []) × (b ≡ [])
or_else-none [] b e = (refl, e)
or_else-none (k ∷ ks) b e = absurd (let bad : k ∷ ks ≡ [] = e in cc)

-- ---- a walk without a fault doesn't stop at `help`

abbrev IsNotHelp : Option (Text × List Text) → Type 0
IsNotHelp None = ⊤
IsNotHelp (Some stop) = bytes_eq stop.0 (codes "help") ≡ false

abbrev IsNoHelpStep : Step → Type 0
IsNoHelpStep (walk.subcommand name) = bytes_eq name (codes "help") ≡ false
IsNoHelpStep _ = ⊤

plain_word-step : (c : List Rule) (waiting : Waiting) (word : Text) (held : Held) → IsNoHelpStep (plain_word c waiting word held).1
plain_word-step c (walk.option id) word held = tt
plain_word-step c _ word held = tt

after_flag-step : (c : List Rule) (waiting : Waiting) (word : Text) (held : Held) (outcome : Outcome)
    → IsNoHelpStep (after_flag c waiting word held outcome).1
after_flag-step c waiting word held done = tt
after_flag-step c waiting word held (walk.waits id) = tt
after_flag-step c waiting word held _ = plain_word-step c waiting word held

short_or_plain-step : (c : List Rule) (waiting : Waiting) (word : Text) (flags : Option Text) (held : Held)
    → IsNoHelpStep (short_or_plain c waiting word flags held).1
short_or_plain-step c waiting word (Some flags) held = after_flag-step c waiting word (bundle c flags held).0 (bundle c flags held).1
short_or_plain-step c waiting word None held = plain_word-step c waiting word held

long_or_other-step : (c : List Rule) (waiting : Waiting) (word : Text) (named : Option (Text × Option Text)) (held : Held)
    → IsNoHelpStep (long_or_other c waiting word named held).1
long_or_other-step c waiting word (Some p) held =
    after_flag-step c waiting word (long_met c (arg_by_long c p.0) p.1 held).0 (long_met c (arg_by_long c p.0) p.1 held).1
long_or_other-step c waiting word None held = short_or_plain-step c waiting word (short_of word) held

IsNoHelpStep-if : (b : Bool) (p q : Held × Step) → IsNoHelpStep p.1 → IsNoHelpStep q.1 → IsNoHelpStep (if b then p else q).1
IsNoHelpStep-if true p q h k = h
IsNoHelpStep-if false p q h k = k

not_help : (b d : Bool) → d ≡ false → (if b && not d then kind.DisplayHelp ∷ kind.InvalidSubcommand ∷ [] else []) ≡ [] → b ≡ false
not_help true true d e = absurd (true≢false d)
not_help true false d e = absurd (let bad : kind.DisplayHelp ∷ kind.InvalidSubcommand ∷ [] ≡ [] = e in cc)
not_help false _ d e = refl

other_fault-step : (s : Shape) (met : Option Text) (waiting : Waiting) (position : ℕ) (word : Text) (held : Held) → s.disable_help_subcommand ≡ false
    → other_fault s met word held ≡ [] → IsNoHelpStep (subcommand_or_other s.rules met waiting position word held).1
other_fault-step s (Some name) waiting position word held offers e = not_help (bytes_eq name (codes "help")) s.disable_help_subcommand offers e
other_fault-step s None waiting position word held offers e =
    IsNoHelpStep-if (bytes_eq word (45 ∷ 45 ∷ [])) (held, walk.trailing position) _ tt (long_or_other-step s.rules waiting word (long_of word) held)

word_fault-step : (s : Shape) (names : Names) (is_trailing : Bool) (waiting : Waiting) (position : ℕ) (word : Text) (held : Held)
    → s.disable_help_subcommand ≡ false
    → word_fault s names is_trailing waiting word held ≡ [] → IsNoHelpStep (word_met s.rules names is_trailing waiting position word held).1
word_fault-step s names true waiting position word held offers e = tt
word_fault-step s names false waiting position word held offers e =
    other_fault-step s (subcommand_met names waiting word) waiting position word held offers e

to_positional-stopped : (c : List Rule) (found : Option Rule) (word : Text) (w : Walk) (held : Held)
    → w.stopped ≡ None → (to_positional c found word w held).stopped ≡ None
to_positional-stopped c None word w held e = e
to_positional-stopped c (Some a) word w held e = refl

IsNotHelp-after_step : (c : List Rule) (word : Text) (w : Walk) (held : Held) (step : Step)
    → w.stopped ≡ None → IsNoHelpStep step → IsNotHelp (after_step c word w held step).stopped
IsNotHelp-after_step c word w held (walk.next waiting) e h = subst IsNotHelp (sym e) tt
IsNotHelp-after_step c word w held (walk.trailing position) e h = subst IsNotHelp (sym e) tt
IsNotHelp-after_step c word w held (walk.subcommand name) e h = h
IsNotHelp-after_step c word w held walk.value e h = subst IsNotHelp (sym (to_positional-stopped c (arg_by_index c w.position) word w held e)) tt

IsNotHelp-walked_from : (s : Shape) (names : Names) (stopped : Option (Text × List Text)) (w : Walk) (word : Text) → s.disable_help_subcommand ≡ false
    → w.stopped ≡ stopped → IsNotHelp stopped → turn_fault s names w word ≡ [] → IsNotHelp (walked_from s.rules names stopped w word).stopped
IsNotHelp-walked_from s names (Some stop) w word offers e h f = h
IsNotHelp-walked_from s names None w word offers e h f =
    let met = word_met s.rules names w.is_trailing w.waiting w.position word w.held in
    let now : or_else (word_fault s names w.is_trailing w.waiting word w.held) (step_fault s w.position met.0 met.1) ≡ [] =
    sym (ap (λ (o : Option (Text × List Text)).
    if is_some o then [] else or_else (word_fault s names w.is_trailing w.waiting word w.held) (step_fault s w.position met.0 met.1)) e) ∙ f in
    IsNotHelp-after_step s.rules word w met.0 met.1 e
    (word_fault-step s names w.is_trailing w.waiting w.position word w.held offers (or_else-none _ _ now).0)

IsNotHelp-fold : (s : Shape) (names : Names) (w : Walk) (words : List Text) → s.disable_help_subcommand ≡ false → IsNotHelp w.stopped
    → walk_fault s names w words ≡ [] → IsNotHelp (fold (walked s.rules names) w words).stopped
unfolding walked walk_fault
IsNotHelp-fold s names w [] offers h e = h
IsNotHelp-fold s names w (word ∷ words) offers h e =
    let now = or_else-none _ _ e in
    IsNotHelp-fold s names (walked s.rules names w word) words offers (IsNotHelp-walked_from s names w.stopped w word offers refl h now.0) now.1

-- ---- the subcommand that is entered

abbrev program : App
program = built rmmcheck_command

abbrev built_form : Form → Shape
built_form form = built_leaf (inherited program.top (form_command form))

-- the paths of a subcommand, numbered from i on, and its flag for help
abbrev path_rules : ℕ → List Text → List Rule
path_rules i paths = filled_from i (map path paths ++ help_rule ∷ [])

HasFlagsOnly-path_rules : (i : ℕ) (paths : List Text) → HasFlagsOnly (path_rules i paths)
HasFlagsOnly-path_rules i [] = ((λ e. (refl, λ rows. refl)), tt)
HasFlagsOnly-path_rules i (id ∷ paths) = ((λ e. absurd (true≢false e)), HasFlagsOnly-path_rules (index_after i (path id)) paths)

-- each of these paths is given
abbrev pub GivesAll : List Text → Option (Text × List Row) → Type 0
GivesAll paths sub = AllByRecursion (λ id. (value : Text) × (value_of id sub ≡ Some value)) paths

neither : (a b : Bool) → (not a || b) ≡ false → (a ≡ true) × (b ≡ false)
neither true b e = (refl, e)
neither false b e = absurd (true≢false e)

GivesAll-path_rules : (i : ℕ) (paths : List Text) (name : Text) (rows : List Row)
    → list_any (λ a. a.required && not (is_given a.id rows)) (path_rules i paths) ≡ false → HaveValues rows → GivesAll paths (Some (name, rows))
GivesAll-path_rules i [] name rows e filled = tt
GivesAll-path_rules i (id ∷ paths) name rows e filled =
    let split = neither (is_given id rows) _ e in
    (first_of-given id rows filled split.0, GivesAll-path_rules (index_after i (path id)) paths name rows split.1 filled)

none_missing : (b : Bool) → (if b then kind.MissingRequiredArgument ∷ [] else []) ≡ [] → b ≡ false
none_missing true e = absurd (let bad : kind.MissingRequiredArgument ∷ [] ≡ [] = e in cc)
none_missing false e = refl

level_fault-form : (form : Form) (words : List Text) → level_fault (built_form form) [] nothing_held words false [] ≡ []
    → GivesAll form.paths (Some (rows_at (built_form form) words))
level_fault-form form words e =
    let rules = path_rules 1 form.paths in
    let end = (walk.walk rules [] nothing_held words).held in
    let after_walk = (or_else-none (walk_fault (built_form form) [] (walk_from nothing_held) words) _ e).1 in
    let after_settling = (or_else-none (settle_fault rules false end) _ after_walk).1 in
    let checked = (or_else-none (defaults_fault (settled rules end).rows rules) _ after_settling).1 in
    GivesAll-path_rules 1 form.paths form.name (rows_after rules [] words) (none_missing _ checked)
    (HaveValues-rows_after rules [] words (HasFlagsOnly-path_rules 1 form.paths))

-- the subcommand is of one of these forms, and gives its paths
abbrev pub GivesOne : List Form → Option (Text × List Row) → Type 0
GivesOne [] sub = ⊥
GivesOne (form ∷ rest) sub = ((name_of sub ≡ Some form.name) × GivesAll form.paths sub) ⊎ GivesOne rest sub

abbrev help : Shape
help = built_leaf help_shape

bytes_eq-same : (name : Text) → bytes_eq name (codes "help") ≡ false → answers_to name (label_of help) ≡ true → ⊥
bytes_eq-same name other answers =
    let same : codes "help" ≡ name = (bytes_eq-Decides (codes "help") name).0 (or_false (bytes_eq (codes "help") name) answers) in
    true≢false (subst (λ (n : Text). bytes_eq n (codes "help") ≡ false) (sym same) other)
  where
    or_false : (b : Bool) → (b || false) ≡ true → b ≡ true
    or_false true e = refl
    or_false false e = e

-- that one is found, and nothing is at fault below it and above it
abbrev IsFaultless : Option Shape → List Text → List Row → Type 0
IsFaultless found words rows = (option_map_or (λ s. level_fault s [] nothing_held words false []) found [] ≡ [])
    × (check_fault program.top rows (is_some (option_map (λ s. rows_at s words) found)) ≡ [])

IsFaultless-help : (is_help : Bool) (words : List Text) (rows : List Row)
    → (is_help ≡ true → ⊥) → IsFaultless (if is_help then Some help else None) words rows → ⊥
IsFaultless-help true words rows other e = other refl
IsFaultless-help false words rows other e = let bad : kind.MissingSubcommand ∷ [] ≡ [] = e.1 in cc

GivesOne-next : (is_this : Bool) (form : Form) (rest : List Form) (found : Option Shape) (words : List Text) (rows : List Row)
    → (IsFaultless found words rows → GivesOne rest (option_map (λ s. rows_at s words) found))
    → IsFaultless (if is_this then Some (built_form form) else found) words rows
    → GivesOne (form ∷ rest) (option_map (λ s. rows_at s words) (if is_this then Some (built_form form) else found))
GivesOne-next true form rest found words rows next e = inl (refl, level_fault-form form words e.0)
GivesOne-next false form rest found words rows next e = inr (next e)

GivesOne-found : (names : List Form) (name : Text) (words : List Text) (rows : List Row) → (answers_to name (label_of help) ≡ true → ⊥)
    → IsFaultless (find (λ s. answers_to name (label_of s)) (map built_form names ++ help ∷ [])) words rows
    → GivesOne names (option_map (λ s. rows_at s words) (find (λ s. answers_to name (label_of s)) (map built_form names ++ help ∷ [])))
GivesOne-found [] name words rows other e = absurd (IsFaultless-help (answers_to name (label_of help)) words rows other e)
GivesOne-found (form ∷ rest) name words rows other e =
    GivesOne-next (answers_to name (label_of (built_form form))) form rest _ words rows (GivesOne-found rest name words rows other) e

GivesOne-entered : (stop : Option (Text × List Text)) (rows : List Row) → IsNotHelp stop → entered_fault program stop ≡ []
    → check_fault program.top rows (is_some (entered program stop)) ≡ [] → GivesOne forms (entered program stop)
GivesOne-entered None rows other below checked = absurd (let bad : kind.MissingSubcommand ∷ [] ≡ [] = checked in cc)
GivesOne-entered (Some stop) rows other below checked =
    GivesOne-found forms stop.0 stop.1 rows (bytes_eq-same stop.0 other) (below, checked)

-- without a fault the words ask for one of the subcommands
pub fault_of-none : (words : List Text) → fault_of rmmcheck_command words ≡ [] → GivesOne forms (subcommand_of rmmcheck_command words)
fault_of-none words e =
    let rest = argument_words rmmcheck_command words in
    let end = walk.walk program.top.rules (names_of program) nothing_held rest in
    let walked_on = or_else-none (walk_fault program.top (names_of program) (walk_from nothing_held) rest) _ e in
    let below = or_else-none (entered_fault program end.stopped) _ walked_on.1 in
    let after_settling = (or_else-none (settle_fault program.top.rules false end.held) _ below.1).1 in
    let checked = (or_else-none (defaults_fault (settled program.top.rules end.held).rows program.top.rules) _ after_settling).1 in
    GivesOne-entered end.stopped (finished program.top.rules end.held)
    (IsNotHelp-fold program.top (names_of program) (walk_from nothing_held) rest refl tt walked_on.0) below.0 checked
