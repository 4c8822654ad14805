-- In a walk over words, where no flag takes a value, each row that is made has a value.
use Rattle.std.proofs.Common.{◌≡◌, ◌<◌, ℕ, Bool, true, false, not, ◌&&◌, true≢false, zero, suc, List, [], ◌∷◌, ◌++◌, length, fold, Option, Some, None, arith, refl, sym, subst}
use Rattle.std.specs.Prelude.{⊤, find, is_some, slice_get, if◌then◌else◌}
use Rattle.std.specs.List.{AllByRecursion}
use Rattle.std.specs.Str.{bytes_eq, chars}
use Rattle.clap.specs.Lexer.{long_of, short_of}
use Rattle.clap.specs.Takes.{is_given}
use Rattle.clap.specs.Walk.{Held, Names, Outcome, Row, Rule, Step, Text, Waiting, Walk, after_flag, after_step, arg_by_id, arg_by_index, arg_by_long, arg_by_short, at_row, bundle, bundle_met, bundle_step, default_rows, done, first_of, flag_met, has_long, has_row, has_short, long_met, long_or_other, more_values, option_word, plain_word, pushed, reacted, reading_by, settled, settled_rows, short_met, short_or_plain, subcommand_met, subcommand_or_other, takes_values, to_positional, used, used_as, used_by_id, walk_from, walked, walked_from, with_default, with_values, without, word_met}
use Rattle.clap.specs.Walk as walk
use Rattle.clap.specs.declared.builder.value_parser.Reading.{Reading}
use Rattle.clap.specs.declared.builder.action.ArgAction.{ArgAction}
use Rattle.clap.specs.declared.builder.action.ArgAction.TheVariants as action
use Rattle.clap.specs.declared.parser.matches.ValueSource.{ValueSource}

-- each row has a value
abbrev pub HaveValues : List Row → Type 0
HaveValues = AllByRecursion (λ row. 0 < length row.values)

-- the argument that waits for more has a value
abbrev HasPending : Option (Text × List Text) → Type 0
HasPending None = ⊤
HasPending (Some pending) = 0 < length pending.1

-- each row has a value, and each argument that waits
abbrev pub HoldsValues : Held → Type 0
HoldsValues held = HaveValues held.rows × HasPending held.pending

-- the flag takes no value and makes no row
abbrev IsFlag : Rule → Type 0
IsFlag a = (takes_values a ≡ false) × ((rows : List Row) → used a [] rows ≡ rows)

abbrev IsFlagIfAny : Option Rule → Type 0
IsFlagIfAny None = ⊤
IsFlagIfAny (Some a) = IsFlag a

-- each argument is a positional or such a flag
abbrev pub HasFlagsOnly : List Rule → Type 0
HasFlagsOnly = AllByRecursion (λ a. is_some a.index ≡ false → IsFlag a)

-- ---- rows

HaveValues-append : (front back : List Row) → HaveValues front → HaveValues back → HaveValues (front ++ back)
HaveValues-append [] back h k = k
HaveValues-append (row ∷ front) back h k = (h.0, HaveValues-append front back h.1 k)

HaveValues-if : (b : Bool) (xs ys : List Row) → HaveValues xs → HaveValues ys → HaveValues (if b then xs else ys)
HaveValues-if true xs ys h k = h
HaveValues-if false xs ys h k = k

HaveValues-at_row : (id : Text) (change : Row → List Row) (missing rows : List Row) → ((row : Row) → 0 < length row.values → HaveValues (change row))
    → HaveValues missing → HaveValues rows → HaveValues (at_row id change missing rows)
HaveValues-at_row id change missing [] f m h = m
HaveValues-at_row id change missing (row ∷ rows) f m h =
    HaveValues-if (bytes_eq row.id id) (change row ++ rows) (row ∷ at_row id change missing rows)
    (HaveValues-append (change row) rows (f row h.0) h.1) (h.0, HaveValues-at_row id change missing rows f m h.1)

positive-append : (xs ys : List Text) → 0 < length xs → 0 < length (xs ++ ys)
positive-append [] ys h = absurd (omega arith)
positive-append (x ∷ xs) ys h = omega arith

positive-push : (xs : List Text) (x : Text) → 0 < length (xs ++ x ∷ [])
positive-push [] x = omega arith
positive-push (y ∷ xs) x = omega arith

HaveValues-with_values : (id : Text) (how : Reading) (source : ValueSource) (v : Text) (vs : List Text) (rows : List Row) → HaveValues rows
    → HaveValues (with_values id how source (v ∷ vs) rows)
HaveValues-with_values id how source v vs rows h =
    HaveValues-at_row id (more_values source (v ∷ vs)) _ rows (λ row k. (positive-append row.values (v ∷ vs) k, tt)) (omega arith, tt) h

HaveValues-without : (id : Text) (rows : List Row) → HaveValues rows → HaveValues (without id rows)
HaveValues-without id rows h = HaveValues-at_row id (λ _. []) [] rows (λ _ _. tt) tt h

-- a use with a value
HaveValues-used_as : (x : ArgAction) (id : Text) (how : Reading) (v : Text) (vs : List Text) (rows : List Row) → HaveValues rows
    → HaveValues (used_as x id how (v ∷ vs) rows)
HaveValues-used_as action.Set id how v vs rows h = HaveValues-with_values id how _ v vs (without id rows) (HaveValues-without id rows h)
HaveValues-used_as action.SetTrue id how v vs rows h = HaveValues-with_values id how _ v vs (without id rows) (HaveValues-without id rows h)
HaveValues-used_as action.SetFalse id how v vs rows h = HaveValues-with_values id how _ v vs (without id rows) (HaveValues-without id rows h)
HaveValues-used_as action.Append id how v vs rows h = HaveValues-with_values id how _ v vs rows h
HaveValues-used_as action.Count id how v vs rows h = HaveValues-with_values id how _ v vs (without id rows) (HaveValues-without id rows h)
HaveValues-used_as _ id how v vs rows h = h

HaveValues-used_by_id : (found : Option Rule) (values : List Text) (rows : List Row)
    → 0 < length values → HaveValues rows → HaveValues (used_by_id found values rows)
HaveValues-used_by_id None values rows some h = h
HaveValues-used_by_id (Some a) [] rows some h = absurd (omega arith)
HaveValues-used_by_id (Some a) (v ∷ vs) rows some h = HaveValues-used_as (walk.action_of a) a.id (reading_by a) v vs rows h

HaveValues-settled_rows : (c : List Rule) (pending : Option (Text × List Text)) (rows : List Row) → HasPending pending → HaveValues rows
    → HaveValues (settled_rows c pending rows)
HaveValues-settled_rows c None rows some h = h
HaveValues-settled_rows c (Some p) rows some h = HaveValues-used_by_id (arg_by_id c p.0) p.1 rows some h

HoldsValues-settled : (c : List Rule) (held : Held) → HoldsValues held → HoldsValues (settled c held)
HoldsValues-settled c held h = (HaveValues-settled_rows c held.pending held.rows h.1 h.0, tt)

HoldsValues-pushed : (id word : Text) (held : Held) → HaveValues held.rows → HoldsValues (pushed id word held)
HoldsValues-pushed id word held h = (h, positive-push (walk.started id held.pending).1 word)

-- ---- flags

HoldsValues-reacted : (c : List Rule) (a : Rule) (held : Held) → IsFlag a → HoldsValues held → HoldsValues (reacted c a [] held)
HoldsValues-reacted c a held flag h = (subst HaveValues (sym (flag.1 (settled c held).rows)) (HoldsValues-settled c held h).0, tt)

unindexed : (x y : Bool) → (not x && y) ≡ true → x ≡ false
unindexed true y e = absurd (true≢false (sym e))
unindexed false y e = refl

IsFlagIfAny-if : (b : Bool) (a : Rule) (rest : Option Rule) → (b ≡ true → IsFlag a) → IsFlagIfAny rest → IsFlagIfAny (if b then Some a else rest)
IsFlagIfAny-if true a rest h k = h refl
IsFlagIfAny-if false a rest h k = k

-- what a flag's name finds is a flag
IsFlagIfAny-find : (has : Rule → Bool) (c : List Rule) → HasFlagsOnly c → IsFlagIfAny (find (λ a. not (is_some a.index) && has a) c)
IsFlagIfAny-find has [] h = tt
IsFlagIfAny-find has (a ∷ c) h = IsFlagIfAny-if (not (is_some a.index) && has a) a _ (λ e. h.0 (unindexed _ _ e)) (IsFlagIfAny-find has c h.1)

HoldsValues-flag_met : (c : List Rule) (a : Rule) (v : Option Text) (held : Held) → IsFlag a → HoldsValues held → HoldsValues (flag_met c a v held).0
HoldsValues-flag_met c a None held flag h = HoldsValues-reacted c a held flag h
HoldsValues-flag_met c a (Some v) held flag h = h

HoldsValues-long_met : (c : List Rule) (found : Option Rule) (v : Option Text) (held : Held) → IsFlagIfAny found → HoldsValues held
    → HoldsValues (long_met c found v held).0
HoldsValues-long_met c None v held flag h = h
HoldsValues-long_met c (Some a) v held flag h = rw (flag.0) (HoldsValues-flag_met c a v held flag h)

HoldsValues-short_met : (c : List Rule) (found : Option Rule) (rest : Text) (held : Held) (next : Held → Held × Outcome) → IsFlagIfAny found
    → ((k : Held) → HoldsValues k → HoldsValues (next k).0) → HoldsValues held → HoldsValues (short_met c found rest held next).0
HoldsValues-short_met c None rest held next flag f h = h
HoldsValues-short_met c (Some a) rest held next flag f h = rw (flag.0) (f _ (HoldsValues-reacted c a held flag h))

HoldsValues-bundle_step : (c : List Rule) (x : Option ℕ) (flags : Text) (skip : ℕ)
    (so_far : Outcome) (held : Held) (next : Text → ℕ → Outcome → Held → Held × Outcome)
    → HasFlagsOnly c → ((t : Text) (n : ℕ) (o : Outcome) (k : Held) → HoldsValues k → HoldsValues (next t n o k).0) → HoldsValues held
    → HoldsValues (bundle_step c x flags skip so_far held next).0
HoldsValues-bundle_step c None flags skip so_far held next flags_only f h = h
HoldsValues-bundle_step c (Some x) flags zero so_far held next flags_only f h =
    HoldsValues-short_met c (arg_by_short c x) _ held _ (IsFlagIfAny-find (λ a. has_short a x) c flags_only) (f _ 0 done) h
HoldsValues-bundle_step c (Some x) flags (suc skip) so_far held next flags_only f h = f _ skip so_far held h

HoldsValues-bundle_met : (c : List Rule) (k : ℕ) (flags : Text) (skip : ℕ) (so_far : Outcome) (held : Held) → HasFlagsOnly c → HoldsValues held
    → HoldsValues (bundle_met c k flags skip so_far held).0
unfolding bundle_met
HoldsValues-bundle_met c zero flags skip so_far held flags_only h = h
HoldsValues-bundle_met c (suc k) flags skip so_far held flags_only h =
    HoldsValues-bundle_step c (slice_get (chars flags) 0) flags skip so_far held (bundle_met c k) flags_only
    (λ t n o later g. HoldsValues-bundle_met c k t n o later flags_only g) h

-- ---- words

HoldsValues-option_word : (found : Option Rule) (id word : Text) (held : Held) → HoldsValues held → HoldsValues (option_word found id word held).0
HoldsValues-option_word None id word held h = h
HoldsValues-option_word (Some a) id word held h = HoldsValues-pushed id word held h.0

HoldsValues-plain_word : (c : List Rule) (waiting : Waiting) (word : Text) (held : Held)
    → HoldsValues held → HoldsValues (plain_word c waiting word held).0
HoldsValues-plain_word c (walk.option id) word held h = HoldsValues-option_word (arg_by_id c id) id word held h
HoldsValues-plain_word c _ word held h = h

HoldsValues-after_flag : (c : List Rule) (waiting : Waiting) (word : Text) (held : Held) (outcome : Outcome) → HoldsValues held
    → HoldsValues (after_flag c waiting word held outcome).0
HoldsValues-after_flag c waiting word held done h = h
HoldsValues-after_flag c waiting word held (walk.waits id) h = h
HoldsValues-after_flag c waiting word held _ h = HoldsValues-plain_word c waiting word held h

HoldsValues-short_or_plain : (c : List Rule) (waiting : Waiting) (word : Text) (flags : Option Text) (held : Held) → HasFlagsOnly c → HoldsValues held
    → HoldsValues (short_or_plain c waiting word flags held).0
HoldsValues-short_or_plain c waiting word (Some flags) held flags_only h =
    HoldsValues-after_flag c waiting word (bundle c flags held).0 (bundle c flags held).1
    (HoldsValues-bundle_met c (length flags) flags held.skip _ _ flags_only h)
HoldsValues-short_or_plain c waiting word None held flags_only h = HoldsValues-plain_word c waiting word held h

HoldsValues-long_or_other : (c : List Rule) (waiting : Waiting) (word : Text) (named : Option (Text × Option Text)) (held : Held)
    → HasFlagsOnly c → HoldsValues held → HoldsValues (long_or_other c waiting word named held).0
HoldsValues-long_or_other c waiting word (Some p) held flags_only h =
    HoldsValues-after_flag c waiting word (long_met c (arg_by_long c p.0) p.1 held).0 (long_met c (arg_by_long c p.0) p.1 held).1
    (HoldsValues-long_met c (arg_by_long c p.0) p.1 held (IsFlagIfAny-find (λ a. has_long a p.0) c flags_only) h)
HoldsValues-long_or_other c waiting word None held flags_only h = HoldsValues-short_or_plain c waiting word (short_of word) held flags_only h

HoldsValues-if : (b : Bool) (p q : Held × Step) → HoldsValues p.0 → HoldsValues q.0 → HoldsValues (if b then p else q).0
HoldsValues-if true p q h k = h
HoldsValues-if false p q h k = k

HoldsValues-subcommand_or_other : (c : List Rule) (met : Option Text) (waiting : Waiting) (position : ℕ) (word : Text) (held : Held)
    → HasFlagsOnly c → HoldsValues held
    → HoldsValues (subcommand_or_other c met waiting position word held).0
HoldsValues-subcommand_or_other c (Some name) waiting position word held flags_only h = h
HoldsValues-subcommand_or_other c None waiting position word held flags_only h =
    HoldsValues-if (bytes_eq word (45 ∷ 45 ∷ [])) _ _ h (HoldsValues-long_or_other c waiting word (long_of word) held flags_only h)

HoldsValues-to_positional : (c : List Rule) (found : Option Rule) (word : Text) (w : Walk) (held : Held) → HoldsValues held
    → HoldsValues (to_positional c found word w held).held
HoldsValues-to_positional c None word w held h = h
HoldsValues-to_positional c (Some a) word w held h =
    let go_on = walk.is_pending a held.pending && walk.takes_several a in
    HoldsValues-pushed a.id word (if go_on then held else settled c held)
    (HaveValues-rows go_on held (settled c held) h.0 (HoldsValues-settled c held h).0)
  where
    HaveValues-rows : (b : Bool) (p q : Held) → HaveValues p.rows → HaveValues q.rows → HaveValues (if b then p else q).rows
    HaveValues-rows true p q h k = h
    HaveValues-rows false p q h k = k

HoldsValues-after_step : (c : List Rule) (word : Text) (w : Walk) (held : Held) (step : Step)
    → HoldsValues held → HoldsValues (after_step c word w held step).held
HoldsValues-after_step c word w held (walk.next waiting) h = h
HoldsValues-after_step c word w held (walk.trailing position) h = h
HoldsValues-after_step c word w held (walk.subcommand name) h = h
HoldsValues-after_step c word w held walk.value h = HoldsValues-to_positional c (arg_by_index c w.position) word w held h

HoldsValues-walked_from : (c : List Rule) (names : Names) (stopped : Option (Text × List Text)) (w : Walk) (word : Text)
    → HasFlagsOnly c → HoldsValues w.held
    → HoldsValues (walked_from c names stopped w word).held
HoldsValues-walked_from c names (Some p) w word flags_only h = h
HoldsValues-walked_from c names None w word flags_only h =
    let met = word_met c names w.is_trailing w.waiting w.position word w.held in
    HoldsValues-after_step c word w met.0 met.1
    (HoldsValues-if w.is_trailing _ _ h
    (HoldsValues-subcommand_or_other c (subcommand_met names w.waiting word) w.waiting w.position word w.held flags_only h))

HoldsValues-fold : (c : List Rule) (names : Names) (w : Walk) (words : List Text) → HasFlagsOnly c → HoldsValues w.held
    → HoldsValues (fold (walked c names) w words).held
unfolding walked
HoldsValues-fold c names w [] flags_only h = h
HoldsValues-fold c names w (word ∷ words) flags_only h =
    HoldsValues-fold c names (walked c names w word) words flags_only (HoldsValues-walked_from c names w.stopped w word flags_only h)

-- ---- the end of a walk

HaveValues-default_rows : (id : Text) (how : Reading) (values : List Text) (rows : List Row)
    → HaveValues rows → HaveValues (default_rows id how values rows)
HaveValues-default_rows id how [] rows h = h
HaveValues-default_rows id how (v ∷ vs) rows h = HaveValues-with_values id how _ v vs rows h

HaveValues-defaults : (xs : List Rule) (rows : List Row) → HaveValues rows → HaveValues (fold with_default rows xs)
HaveValues-defaults [] rows h = h
HaveValues-defaults (a ∷ xs) rows h =
    HaveValues-defaults xs (with_default rows a)
    (HaveValues-if (has_row a.id rows) rows (default_rows a.id (reading_by a) a.defaults rows) h
    (HaveValues-default_rows a.id (reading_by a) a.defaults rows h))

-- the rows at the end of a walk have values
pub HaveValues-rows_after : (c : List Rule) (names : Names) (words : List Text) → HasFlagsOnly c → HaveValues (walk.rows_after c names words)
HaveValues-rows_after c names words flags_only =
    let end = HoldsValues-fold c names (walk_from walk.nothing_held) words flags_only (tt, tt) in
    let held = (fold (walked c names) (walk_from walk.nothing_held) words).held in
    HaveValues-defaults c (settled c held).rows (HoldsValues-settled c held end).0

-- an argument that is given has a first value
pub first_of-given : (id : Text) (rows : List Row) → HaveValues rows → is_given id rows ≡ true → (v : Text) × (first_of id rows ≡ Some v)
first_of-given id [] h given = absurd (true≢false (sym given))
first_of-given id (row ∷ rows) h given = go (bytes_eq row.id id) refl (first_of-given id rows h.1)
  where
    first : (values : List Text) → 0 < length values → (v : Text) × (slice_get values 0 ≡ Some v)
    first [] some = absurd (omega arith)
    first (v ∷ vs) some = (v, refl)

    go : (b : Bool) → bytes_eq row.id id ≡ b → (is_given id rows ≡ true → (v : Text) × (first_of id rows ≡ Some v))
        → (v : Text) × (first_of id (row ∷ rows) ≡ Some v)
    go true e rest = let f = first row.values h.0 in (f.0, rw e f.1)
    go false e rest = let f = rest (rw e at given) in (f.0, rw e f.1)
