-- Laws on the parts of an event.
use Rattle.std.proofs.Common.{◌≡◌, ℕ, ◌<◌, List, refl, sym, ap, ◌∙◌, arith}
use Rattle.rmm_spec.specs.declared.command.Command.{Command}
use Rattle.rmm_spec.specs.declared.reply.Reply.{Reply}
use Rattle.rmm_spec.specs.declared.event.Event.{Event}
use Rattle.rmm_spec.specs.declared.event.Event.TheVariants.{Called, Returned}
use Rattle.rmm_spec.specs.CommandText.{IsCommand, IsReply, command_parts, reply_parts}
use Rattle.rmm_spec.specs.HistoryText.{cpu_of, event_parts}
use Rattle.history.specs.Spelling.{call_number, IsEventOf, IsNoEvent}
use Rattle.rmi_codec.specs.Head.{HasNoHead, head_parts}
use Rattle.spec_lemmas.proofs.Places.{cpu_below}

-- what an event's line begins with: `c` or `r`
abbrev pub letter_of : Event → ℕ
letter_of (Called cpu number command) = 99
letter_of (Returned cpu number given) = 114

-- what an event's line has after the number
abbrev pub tail_of : Event → List (List ℕ)
tail_of (Called cpu number command) = command_parts command
tail_of (Returned cpu number given) = reply_parts given

pub event_parts-head : (event : Event) → event_parts event ≡ head_parts (letter_of event) (cpu_of event) (call_number event) (tail_of event)
unfolding event_parts
event_parts-head (Called cpu number command) = refl
event_parts-head (Returned cpu number given) = refl

-- ---- parts that are no event's

pub IsNoEvent-head : (cpus : ℕ) (parts : List (List ℕ)) → HasNoHead cpus 1000000 parts → IsNoEvent cpus parts
IsNoEvent-head cpus parts none event few is_event =
    none (letter_of event) (cpu_of event) (call_number event) (tail_of event) (cpu_below cpus event is_event.is_event) few
    (is_event.spelled ∙ event_parts-head event)

-- what the parts of an event begin and end with
same_event : (event : Event) (parts : List (List ℕ)) (letter cpu number : ℕ) (more : List (List ℕ)) → parts ≡ event_parts event
    → parts ≡ head_parts letter cpu number more → (letter ≡ letter_of event) × (more ≡ tail_of event)
same_event event parts letter cpu number more spelled cut =
    let same : head_parts letter cpu number more ≡ head_parts (letter_of event) (cpu_of event) (call_number event) (tail_of event) =
    sym cut ∙ spelled ∙ event_parts-head event in
    (cc, cc)

pub IsNoEvent-letter : (cpus : ℕ) (parts : List (List ℕ)) (letter cpu number : ℕ) (more : List (List ℕ)) → parts ≡ head_parts letter cpu number more
    → (letter ≡ 99 → ⊥) → (letter ≡ 114 → ⊥) → IsNoEvent cpus parts
IsNoEvent-letter cpus parts letter cpu number more cut no_call no_return (Called c n command) few is_event =
    no_call (same_event (Called c n command) parts letter cpu number more is_event.spelled cut).0
IsNoEvent-letter cpus parts letter cpu number more cut no_call no_return (Returned c n given) few is_event =
    no_return (same_event (Returned c n given) parts letter cpu number more is_event.spelled cut).0

pub IsNoEvent-call : (cpus : ℕ) (parts : List (List ℕ)) (cpu number : ℕ) (more : List (List ℕ)) → parts ≡ head_parts 99 cpu number more
    → ((command : Command) → IsCommand command → more ≡ command_parts command → ⊥) → IsNoEvent cpus parts
IsNoEvent-call cpus parts cpu number more cut no_command (Called c n command) few is_event =
    no_command command is_event.is_event.1 (same_event (Called c n command) parts 99 cpu number more is_event.spelled cut).1
IsNoEvent-call cpus parts cpu number more cut no_command (Returned c n given) few is_event =
    absurd (omega (arith, (same_event (Returned c n given) parts 99 cpu number more is_event.spelled cut).0))

pub IsNoEvent-return : (cpus : ℕ) (parts : List (List ℕ)) (cpu number : ℕ) (more : List (List ℕ)) → parts ≡ head_parts 114 cpu number more
    → ((given : Reply) → IsReply given → more ≡ reply_parts given → ⊥) → IsNoEvent cpus parts
IsNoEvent-return cpus parts cpu number more cut no_reply (Returned c n given) few is_event =
    no_reply given is_event.is_event.1 (same_event (Returned c n given) parts 114 cpu number more is_event.spelled cut).1
IsNoEvent-return cpus parts cpu number more cut no_reply (Called c n command) few is_event =
    absurd (omega (arith, (same_event (Called c n command) parts 114 cpu number more is_event.spelled cut).0))

-- ---- parts that are an event's

pub IsEventOf-call : (cpus : ℕ) (parts : List (List ℕ)) (cpu number : ℕ) (more : List (List ℕ)) (command : Command)
    → parts ≡ head_parts 99 cpu number more
    → more ≡ command_parts command → cpu < cpus → IsCommand command → IsEventOf cpus parts (Called cpu number command)
IsEventOf-call cpus parts cpu number more command cut spelled below is_command = record {
  is_event = (below, is_command);
  spelled = cut ∙ ap (head_parts 99 cpu number) spelled ∙ sym (event_parts-head (Called cpu number command));
}

pub IsEventOf-return : (cpus : ℕ) (parts : List (List ℕ)) (cpu number : ℕ) (more : List (List ℕ)) (given : Reply)
    → parts ≡ head_parts 114 cpu number more
    → more ≡ reply_parts given → cpu < cpus → IsReply given → IsEventOf cpus parts (Returned cpu number given)
IsEventOf-return cpus parts cpu number more given cut spelled below is_reply = record {
  is_event = (below, is_reply);
  spelled = cut ∙ ap (head_parts 114 cpu number) spelled ∙ sym (event_parts-head (Returned cpu number given));
}
