-- The lines of both texts, as they are put.
use Rattle.merging.proofs.Common.{◌++◌, ◌∙◌, ◌∷◌, ◌≡◌, Appends, List, Option, Some, [], ap, append-nil, line_parts, lines_text, map, refl, sym, ℕ}
use Rattle.std.proofs.Common.{None}
use Rattle.std.proofs.lemmas.List.{map-append}
use Rattle.history.proofs.WriteLaws.{event_text-called, event_text-returned}
use Rattle.rmi_codec.specs.Head.{head_text}
use Rattle.rmi_codec.proofs.LineTexts.{line_text-head}
use Rattle.spec_lemmas.proofs.Lines.{lines_text-append}
use Rattle.spec_lemmas.proofs.Texts.{reply_parts-some}
use Rattle.rmm_spec.specs.CommandText.{reply_parts, reply_text}
use Rattle.rmm_spec.specs.Text.{line_text}
use Rattle.rmm_spec.specs.declared.line.Line.TheVariants.{Keep, Unfinished}
use Rattle.rmm_spec.specs.declared.reply.Reply.{Reply}

pub line_text-kept : (cpu number : ℕ) → line_text (line_parts (Keep cpu number)) ≡ head_text 107 cpu number
unfolding line_parts head_text
line_text-kept cpu number = refl

pub line_text-claimed : (cpu number : ℕ) (given : Reply)
    → line_text (line_parts (Unfinished cpu number given)) ≡ head_text 117 cpu number ++ 32 ∷ reply_text given
unfolding line_parts
line_text-claimed cpu number given = line_text-head 117 cpu number (reply_parts given) (reply_parts-some given)

pub ruleset line_texts = (event_text-called, event_text-returned, line_text-kept, line_text-claimed)

-- ---- what a writer holds, grown by one text after another

pub appends_nothing : (known : Option (List ℕ)) → Appends known known []
appends_nothing None = tt
appends_nothing (Some xs) = sym (append-nil xs)

-- the lines of some things, and of more
pub lines_of_both : {X : Type 0} (parts : X → List (List ℕ)) (xs ys : List X)
    → lines_text (map parts (xs ++ ys)) ≡ lines_text (map parts xs) ++ lines_text (map parts ys)
lines_of_both parts xs ys = ap lines_text (map-append parts xs ys) ∙ lines_text-append (map parts xs) (map parts ys)
