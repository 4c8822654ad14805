-- What goes on from the beginning of a line is a line of its kind.
use Rattle.std.proofs.Common.{◌≡◌, ◌+◌, ℕ, ◌-◌, ◌<◌, ◌≤◌, List, [], ◌∷◌, ◌++◌, map, length, take, Option, Some, None, inl, inr, refl, sym, ap, subst, ◌∙◌, arith}
use Rattle.std.specs.Prelude.{◌↔◌, IfSome, IfNone}
use Rattle.rmm_spec.specs.declared.command.Command.{Command}
use Rattle.rmm_spec.specs.declared.event.Event.{Event}
use Rattle.rmm_spec.specs.declared.event.Event.TheVariants.{Called, Returned}
use Rattle.rmm_spec.specs.declared.line.Line.{Line}
use Rattle.rmm_spec.specs.declared.line.Line.TheVariants.{Keep, Unfinished}
use Rattle.rmm_spec.specs.declared.reply.Reply.{Reply}
use Rattle.rmm_spec.specs.declared.reply.Reply.TheVariants as reply
use Rattle.rmm_spec.specs.CertificateText.{IsLine, line_parts}
use Rattle.rmm_spec.specs.CommandText.{AreWords, IsCommand, IsReply, command_parts, reply_parts}
use Rattle.rmm_spec.specs.Function.{word_count}
use Rattle.rmm_spec.specs.declared.version.Version.{Version}
use Rattle.rmm_spec.specs.HistoryText.{Config, IsEvent, event_parts, granule_limit}
use Rattle.rmm_spec.specs.Text.{decimal, word}
use Rattle.reasons.specs.declared.wanted.Role.{Role}
use Rattle.reasons.specs.declared.wanted.Role.TheVariants as role
use Rattle.reasons.specs.declared.wanted.Wanted.TheVariants as wanted
use Rattle.reasons.specs.declared.wrong_part.WrongPart.{WrongPart}
use Rattle.reasons.specs.Wanted.{GoesOn, behind_number}
use Rattle.reasons.specs.Wrong.{IsCertificateLine, IsCommandLine, IsEventLine, IsHeader, IsHeaderOf, IsWrong, call_number}

-- a wrong part is one for each kind that has the same lines
IsWrong-same : (P Q : List (List ℕ) → Type 0) (parts : List (List ℕ)) (wrong : WrongPart)
    → ((line : List (List ℕ)) → P line ↔ Q line) → IsWrong P parts wrong → IsWrong Q parts wrong
IsWrong-same P Q parts wrong same h = record {
  within = h.within;
  front = elim h.front [
    | inl none ↦ inl none
    | inr more ↦ inr (more.0, (same (take wrong.index parts ++ more.0)).0 more.1)
  ];
  possible = λ part. (
    λ can. let more = (h.possible part).0 can in (more.0, (same (take wrong.index parts ++ part ∷ more.0)).0 more.1),
    λ more. (h.possible part).1 (more.0, (same (take wrong.index parts ++ part ∷ more.0)).1 more.1),
  );
  ends = (λ ends. (same (take wrong.index parts)).0 (h.ends.0 ends), λ q. h.ends.1 ((same (take wrong.index parts)).1 q));
  here = h.here;
}

-- what is told of a line is told of it in each kind that has the same lines
pub told_same : (P Q : List (List ℕ) → Type 0) (parts : List (List ℕ)) (told : Option WrongPart) → ((line : List (List ℕ)) → P line ↔ Q line)
    → IfSome told (IsWrong P parts) → IfSome told (IsWrong Q parts)
told_same P Q parts None same h = tt
told_same P Q parts (Some wrong) same h = IsWrong-same P Q parts wrong same h

pub nothing_told_same : (P Q : List (List ℕ) → Type 0) (parts : List (List ℕ)) (told : Option WrongPart) → ((line : List (List ℕ)) → P line ↔ Q line)
    → IfNone told (P parts) → IfNone told (Q parts)
nothing_told_same P Q parts None same h = (same parts).0 h
nothing_told_same P Q parts (Some wrong) same h = tt

end_to : (rest : List (List ℕ)) → GoesOn wanted.End rest → rest ≡ []
end_to [] h = refl
end_to (part ∷ rest) h = absurd h.1

-- ---- the header

cpus_to : (rest : List (List ℕ)) → GoesOn wanted.Cpus rest → (n : ℕ) × (1 ≤ n) × (n < 9) × (rest ≡ decimal n ∷ [])
cpus_to [] h = absurd h
cpus_to (part ∷ rest) h =
    let over = end_to rest (subst (λ n. GoesOn n rest) h.1.1 h.2) in
    let number = h.1.0 in
    (number.0, number.1, number.2, λ i. number.3 i ∷ over i)

granules_to : (version : Version) (rest : List (List ℕ)) → GoesOn (wanted.Granules version) rest
    → (g c : ℕ) × (1 ≤ g) × (g < granule_limit version + 1) × (1 ≤ c) × (c < 9) × (rest ≡ decimal g ∷ decimal c ∷ [])
granules_to version [] h = absurd h
granules_to version (part ∷ rest) h =
    let cpus = cpus_to rest (subst (λ n. GoesOn n rest) h.1.1 h.2) in
    let number = h.1.0 in
    (number.0, cpus.0, number.1, number.2, cpus.1, cpus.2, λ i. number.3 i ∷ cpus.3 i)

header_to : (line : List (List ℕ)) → GoesOn wanted.Format line → IsHeader line
header_to [] h = absurd h
header_to (part ∷ rest) h =
    let version = h.1.0 in
    let numbers = granules_to version rest (subst (λ n. GoesOn n rest) h.1.2 h.2) in (
      record { granules = numbers.0; cpus = numbers.1; version = version },
      record { some_granules = numbers.2; most_granules = omega (arith, numbers.3); some_cpus = numbers.4; most_cpus = omega (arith, numbers.5) },
      λ i. h.1.1 i ∷ numbers.6 i,
    )

header_from : (line : List (List ℕ)) → IsHeader line → GoesOn wanted.Format line
header_from line (config, is_config, e) = subst (GoesOn wanted.Format) (sym e) (
  wanted.Granules config.version,
  (config.version, refl, refl),
  (
    wanted.Cpus,
    ((config.granules, is_config.some_granules, omega (arith, is_config.most_granules), refl), refl),
    (wanted.End, ((config.cpus, is_config.some_cpus, omega (arith, is_config.most_cpus), refl), refl), tt),
  ),
)

pub header_same : (line : List (List ℕ)) → GoesOn wanted.Format line ↔ IsHeader line
header_same line = (header_to line, header_from line)

-- ---- commands

words_to : (left : ℕ) (rest : List (List ℕ)) → GoesOn (wanted.Words left) rest
    → (ws : List ℕ) × AreWords ws × (length ws ≡ left) × (rest ≡ map word ws)
words_to left [] h = ([], tt, sym h, refl)
words_to left (part ∷ rest) h =
    let more = words_to (left - 1) rest (subst (λ n. GoesOn n rest) h.1.2 h.2) in
    let first = h.1.1 in
    (first.0 ∷ more.0, (first.1, more.1), omega (arith, more.2, h.1.0), λ i. first.2 i ∷ more.3 i)

words_from : (ws : List ℕ) (left : ℕ) → AreWords ws → length ws ≡ left → GoesOn (wanted.Words left) (map word ws)
words_from [] left h n = sym n
words_from (w ∷ ws) left h n =
    (wanted.Words (left - 1), (omega (arith, n), (w, h.0, refl), refl), words_from ws (left - 1) h.1 (omega (arith, n)))

command_to : (rest : List (List ℕ)) → GoesOn wanted.Function rest → (command : Command) × IsCommand command × (rest ≡ command_parts command)
unfolding command_parts
command_to [] h = absurd h
command_to (part ∷ rest) h =
    let function = h.1 in
    let words = words_to (word_count function.0) rest (subst (λ n. GoesOn n rest) function.2 h.2) in (
      record { function = function.0; words = record { items = words.0 } },
      record { counted = words.2; words = words.1 },
      λ i. function.1 i ∷ words.3 i,
    )

command_from : (command : Command) → IsCommand command → GoesOn wanted.Function (command_parts command)
unfolding command_parts
command_from command h = (
  wanted.Words (word_count command.function),
  (command.function, refl, refl),
  words_from command.words.items (word_count command.function) h.words h.counted,
)

pub command_same : (line : List (List ℕ)) → GoesOn wanted.Function line ↔ IsCommandLine line
command_same line = (command_to line, λ h. subst (GoesOn wanted.Function) (sym h.2) (command_from h.0 h.1))

-- ---- replies

more_to : (left : ℕ) (rest : List (List ℕ)) → GoesOn (wanted.MoreWords left) rest
    → (ws : List ℕ) × AreWords ws × (length ws ≤ left) × (rest ≡ map word ws)
more_to left [] h = ([], tt, omega arith, refl)
more_to left (part ∷ rest) h =
    let more = more_to (left - 1) rest (subst (λ n. GoesOn n rest) h.1.2 h.2) in
    let first = h.1.1 in
    (first.0 ∷ more.0, (first.1, more.1), omega (arith, more.2, h.1.0), λ i. first.2 i ∷ more.3 i)

more_from : (ws : List ℕ) (left : ℕ) → AreWords ws → length ws ≤ left → GoesOn (wanted.MoreWords left) (map word ws)
more_from [] left h n = tt
more_from (w ∷ ws) left h n =
    (wanted.MoreWords (left - 1), (omega (arith, n), (w, h.0, refl), refl), more_from ws (left - 1) h.1 (omega (arith, n)))

index_to : (rest : List (List ℕ)) → GoesOn wanted.Index rest → (n : ℕ) × (n < 256) × (rest ≡ decimal n ∷ [])
index_to [] h = absurd h
index_to (part ∷ rest) h =
    let over = end_to rest (subst (λ n. GoesOn n rest) h.1.1 h.2) in
    let number = h.1.0 in
    (number.0, number.2, λ i. number.3 i ∷ over i)

status_to : (rest : List (List ℕ)) → GoesOn wanted.Status rest
    → (status index : ℕ) × (status < 256) × (index < 256) × (rest ≡ decimal status ∷ decimal index ∷ [])
status_to [] h = absurd h
status_to (part ∷ rest) h =
    let index = index_to rest (subst (λ n. GoesOn n rest) h.1.1 h.2) in
    let number = h.1.0 in
    (number.0, index.0, number.2, index.1, λ i. number.3 i ∷ index.2 i)

reply_to : (rest : List (List ℕ)) → GoesOn wanted.Form rest → (given : Reply) × IsReply given × (rest ≡ reply_parts given)
unfolding reply_parts
reply_to [] h = absurd h
reply_to (part ∷ rest) (next, inl is_ok, h) =
    let words = more_to 10 rest (subst (λ n. GoesOn n rest) is_ok.1 h) in
    (reply.Ok (record { items = words.0 }), (words.2, words.1), λ i. is_ok.0 i ∷ words.3 i)
reply_to (part ∷ rest) (next, inr (inl is_err), h) =
    let numbers = status_to rest (subst (λ n. GoesOn n rest) is_err.1 h) in
    (reply.Err numbers.0 numbers.1, (numbers.2, numbers.3), λ i. is_err.0 i ∷ numbers.4 i)
reply_to (part ∷ rest) (next, inr (inr is_misplaced), h) =
    let over = end_to rest (subst (λ n. GoesOn n rest) is_misplaced.1 h) in
    (reply.Misplaced, tt, λ i. is_misplaced.0 i ∷ over i)

reply_from : (given : Reply) → IsReply given → GoesOn wanted.Form (reply_parts given)
unfolding reply_parts
reply_from (reply.Ok words) h = (wanted.MoreWords 10, inl (refl, refl), more_from words.items 10 h.1 h.0)
reply_from (reply.Err status index) h = (
  wanted.Status,
  inr (inl (refl, refl)),
  (wanted.Index, ((status, omega arith, h.0, refl), refl), (wanted.End, ((index, omega arith, h.1, refl), refl), tt)),
)
reply_from reply.Misplaced h = (wanted.End, inr (inr (refl, refl)), tt)

-- ---- the lines that name a call

-- behind the letter: the call's CPU and number, and what the line says of the call
record HasCall (cpus : ℕ) (r : Role) (rest : List (List ℕ)) : Type 0 where
  cpu : ℕ
  number : ℕ
  more : List (List ℕ)
  cpu_below : cpu < cpus
  number_below : number < 1000000
  goes_on : GoesOn (behind_number r) more
  is : rest ≡ decimal cpu ∷ decimal number ∷ more

number_to : (r : Role) (rest : List (List ℕ)) → GoesOn (wanted.Number r) rest
    → (n : ℕ) × (more : List (List ℕ)) × (n < 1000000) × GoesOn (behind_number r) more × (rest ≡ decimal n ∷ more)
number_to r [] h = absurd h
number_to r (part ∷ rest) h =
    let number = h.1.0 in
    (number.0, rest, number.2, subst (λ n. GoesOn n rest) h.1.1 h.2, λ i. number.3 i ∷ rest)

call_to : (cpus : ℕ) (r : Role) (rest : List (List ℕ)) → GoesOn (wanted.Cpu cpus r) rest → HasCall cpus r rest
call_to cpus r [] h = absurd h
call_to cpus r (part ∷ rest) h =
    let cpu = h.1.0 in
    let number = number_to r rest (subst (λ n. GoesOn n rest) h.1.1 h.2) in
    record {
      cpu = cpu.0;
      number = number.0;
      more = number.1;
      cpu_below = cpu.2;
      number_below = number.2;
      goes_on = number.3;
      is = λ i. cpu.3 i ∷ number.4 i;
    }

call_from : (cpus : ℕ) (r : Role) (cpu number : ℕ) (more : List (List ℕ)) → cpu < cpus → number < 1000000 → GoesOn (behind_number r) more
    → GoesOn (wanted.Cpu cpus r) (decimal cpu ∷ decimal number ∷ more)
call_from cpus r cpu number more below small h =
    (wanted.Number r, ((cpu, omega arith, below, refl), refl), (behind_number r, ((number, omega arith, small, refl), refl), h))

event_to : (cpus : ℕ) (line : List (List ℕ)) → GoesOn (wanted.EventLetter cpus) line → IsEventLine cpus line
unfolding event_parts
event_to cpus [] h = absurd h
event_to cpus (part ∷ rest) (next, (some, inl letter), h) =
    let call = call_to cpus role.Call rest (subst (λ n. GoesOn n rest) letter.1 h) in
    let command = command_to call.more call.goes_on in (
      Called call.cpu call.number command.0,
      (call.cpu_below, command.1),
      call.number_below,
      λ i. letter.0 i ∷ (call.is ∙ ap (λ more. decimal call.cpu ∷ decimal call.number ∷ more) command.2) i,
    )
event_to cpus (part ∷ rest) (next, (some, inr letter), h) =
    let call = call_to cpus role.Return rest (subst (λ n. GoesOn n rest) letter.1 h) in
    let given = reply_to call.more call.goes_on in (
      Returned call.cpu call.number given.0,
      (call.cpu_below, given.1),
      call.number_below,
      λ i. letter.0 i ∷ (call.is ∙ ap (λ more. decimal call.cpu ∷ decimal call.number ∷ more) given.2) i,
    )

event_from : (cpus : ℕ) (event : Event) → IsEvent cpus event → call_number event < 1000000 → GoesOn (wanted.EventLetter cpus) (event_parts event)
unfolding event_parts
event_from cpus (Called cpu number command) h small = (
  wanted.Cpu cpus role.Call,
  (omega (arith, h.0), inl (refl, refl)),
  call_from cpus role.Call cpu number (command_parts command) h.0 small (command_from command h.1),
)
event_from cpus (Returned cpu number given) h small = (
  wanted.Cpu cpus role.Return,
  (omega (arith, h.0), inr (refl, refl)),
  call_from cpus role.Return cpu number (reply_parts given) h.0 small (reply_from given h.1),
)

pub event_same : (cpus : ℕ) (line : List (List ℕ)) → GoesOn (wanted.EventLetter cpus) line ↔ IsEventLine cpus line
event_same cpus line = (event_to cpus line, λ h. subst (GoesOn (wanted.EventLetter cpus)) (sym h.3) (event_from cpus h.0 h.1 h.2))

claim_to : (line : List (List ℕ)) → GoesOn wanted.LineLetter line → IsCertificateLine line
unfolding line_parts
claim_to [] h = absurd h
claim_to (part ∷ rest) (next, inl letter, h) =
    let call = call_to 8 role.Keep rest (subst (λ n. GoesOn n rest) letter.1 h) in
    let over = end_to call.more call.goes_on in (
      Keep call.cpu call.number,
      (call.cpu_below, call.number_below),
      λ i. letter.0 i ∷ (call.is ∙ ap (λ more. decimal call.cpu ∷ decimal call.number ∷ more) over) i,
    )
claim_to (part ∷ rest) (next, inr letter, h) =
    let call = call_to 8 role.Unfinished rest (subst (λ n. GoesOn n rest) letter.1 h) in
    let given = reply_to call.more call.goes_on in (
      Unfinished call.cpu call.number given.0,
      (call.cpu_below, call.number_below, given.1),
      λ i. letter.0 i ∷ (call.is ∙ ap (λ more. decimal call.cpu ∷ decimal call.number ∷ more) given.2) i,
    )

claim_from : (line : Line) → IsLine line → GoesOn wanted.LineLetter (line_parts line)
unfolding line_parts
claim_from (Keep cpu number) h = (wanted.Cpu 8 role.Keep, inl (refl, refl), call_from 8 role.Keep cpu number [] h.0 h.1 tt)
claim_from (Unfinished cpu number given) h =
    (wanted.Cpu 8 role.Unfinished, inr (refl, refl), call_from 8 role.Unfinished cpu number (reply_parts given) h.0 h.1 (reply_from given h.2))

pub claim_same : (line : List (List ℕ)) → GoesOn wanted.LineLetter line ↔ IsCertificateLine line
claim_same line = (claim_to line, λ h. subst (GoesOn wanted.LineLetter) (sym h.2) (claim_from h.0 h.1))

-- what is told of a line on so many CPUs is told of it behind the header
pub told_on_header : (header parts : List (List ℕ)) (cpus : ℕ) (told : Option WrongPart)
    → ((config : Config) → IsHeaderOf header config → cpus ≡ config.cpus)
    → IfSome told (IsWrong (IsEventLine cpus) parts)
    → IfSome told (λ wrong. (config : Config) → IsHeaderOf header config → IsWrong (IsEventLine config.cpus) parts wrong)
told_on_header header parts cpus None same h = tt
told_on_header header parts cpus (Some wrong) same h = λ config is_header. subst (λ n. IsWrong (IsEventLine n) parts wrong) (same config is_header) h

pub none_on_header : (header parts : List (List ℕ)) (cpus : ℕ) (told : Option WrongPart)
    → ((config : Config) → IsHeaderOf header config → cpus ≡ config.cpus)
    → IfNone told (IsEventLine cpus parts) → IfNone told ((config : Config) → IsHeaderOf header config → IsEventLine config.cpus parts)
none_on_header header parts cpus None same h = λ config is_header. subst (λ n. IsEventLine n parts) (same config is_header) h
none_on_header header parts cpus (Some wrong) same h = tt
