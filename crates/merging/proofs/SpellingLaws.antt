-- The moment that a word and the parts behind it spell.
use Rattle.std.proofs.Common.{◌≡◌, ℕ, List, [], ◌∷◌, get_or, refl, sym, ap, ◌∙◌}
use Rattle.std.specs.Prelude.{codes}
use Rattle.rmm_spec.specs.declared.command.Command.{Command}
use Rattle.rmm_spec.specs.declared.reply.Reply.{Reply}
use Rattle.rmm_spec.specs.CommandText.{IsCommand, IsReply, command_parts, reply_parts}
use Rattle.merging.specs.Events.{Moment, Call, Commit, Return, moment_parts}
use Rattle.merging.specs.SeenEvents.{IsMomentOf}
use Rattle.merging.specs.Word.{word_text}
use Rattle.merging.specs.declared.line.Word.{Word}
use Rattle.merging.specs.declared.line.Word.TheVariants as word
use Rattle.lemmas.proofs.Tests.{keys_apart}

abbrev byte_at : ℕ → List (List ℕ) → ℕ
byte_at place parts = get_or (get_or parts 0 (codes "")) place 0

module _ (parts : List (List ℕ)) where
  pub is_call : (command : Command) → IsCommand command → parts ≡ command_parts command → IsMomentOf (codes "call" ∷ parts) (Call command)
  unfolding moment_parts
  is_call command is_command spelled = record { is_moment = is_command; spelled = ap (λ ps. codes "call" ∷ ps) spelled }

  pub is_commit : (given : Reply) → IsReply given → parts ≡ reply_parts given → IsMomentOf (codes "commit" ∷ parts) (Commit given)
  unfolding moment_parts
  is_commit given is_reply spelled = record { is_moment = is_reply; spelled = ap (λ ps. codes "commit" ∷ ps) spelled }

  pub is_return : (given : Reply) → IsReply given → parts ≡ reply_parts given → IsMomentOf (codes "return" ∷ parts) (Return given)
  unfolding moment_parts
  is_return given is_reply spelled = record { is_moment = is_reply; spelled = ap (λ ps. codes "return" ∷ ps) spelled }

  pub no_call : ((command : Command) → IsCommand command → parts ≡ command_parts command → ⊥) → (moment : Moment)
      → IsMomentOf (codes "call" ∷ parts) moment → ⊥
  unfolding moment_parts
  no_call none (Call command) of_moment =
      none command of_moment.is_moment (let same : codes "call" ∷ parts ≡ codes "call" ∷ command_parts command = of_moment.spelled in cc)
  no_call none (Commit given) of_moment = absurd (keys_apart 97 111 refl (ap (byte_at 1) of_moment.spelled))
  no_call none (Return given) of_moment = absurd (keys_apart 99 114 refl (ap (byte_at 0) of_moment.spelled))

  pub no_commit : ((given : Reply) → IsReply given → parts ≡ reply_parts given → ⊥) → (moment : Moment)
      → IsMomentOf (codes "commit" ∷ parts) moment → ⊥
  unfolding moment_parts
  no_commit none (Call command) of_moment = absurd (keys_apart 111 97 refl (ap (byte_at 1) of_moment.spelled))
  no_commit none (Commit given) of_moment =
      none given of_moment.is_moment (let same : codes "commit" ∷ parts ≡ codes "commit" ∷ reply_parts given = of_moment.spelled in cc)
  no_commit none (Return given) of_moment = absurd (keys_apart 99 114 refl (ap (byte_at 0) of_moment.spelled))

  pub no_return : ((given : Reply) → IsReply given → parts ≡ reply_parts given → ⊥) → (moment : Moment)
      → IsMomentOf (codes "return" ∷ parts) moment → ⊥
  unfolding moment_parts
  no_return none (Call command) of_moment = absurd (keys_apart 114 99 refl (ap (byte_at 0) of_moment.spelled))
  no_return none (Commit given) of_moment = absurd (keys_apart 114 99 refl (ap (byte_at 0) of_moment.spelled))
  no_return none (Return given) of_moment =
      none given of_moment.is_moment (let same : codes "return" ∷ parts ≡ codes "return" ∷ reply_parts given = of_moment.spelled in cc)

moment_parts-word : (moment : Moment) → (word : Word) × ((rest : List (List ℕ)) × (moment_parts moment ≡ word_text word ∷ rest))
unfolding moment_parts
moment_parts-word (Call command) = (word.Call, (command_parts command, refl))
moment_parts-word (Commit given) = (word.Commit, (reply_parts given, refl))
moment_parts-word (Return given) = (word.Return, (reply_parts given, refl))

-- no part, or another word
pub no_part : (parts : List (List ℕ)) → parts ≡ [] → (moment : Moment) → IsMomentOf parts moment → ⊥
no_part parts none moment of_moment =
    let begins = moment_parts-word moment in
    let bad : [] ≡ word_text begins.0 ∷ begins.1.0 = sym none ∙ of_moment.spelled ∙ begins.1.1 in
    absurd cc

pub no_word : (parts : List (List ℕ)) (part : List ℕ) (rest : List (List ℕ)) → parts ≡ part ∷ rest → ((w : Word) → part ≡ word_text w → ⊥)
    → (moment : Moment) → IsMomentOf parts moment → ⊥
no_word parts part rest cut none moment of_moment =
    let begins = moment_parts-word moment in
    let same : part ∷ rest ≡ word_text begins.0 ∷ begins.1.0 = sym cut ∙ of_moment.spelled ∙ begins.1.1 in
    none begins.0 (let e : part ≡ word_text begins.0 = cc in e)
