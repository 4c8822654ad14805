-- The lines of a certificate, as a writer puts them.
use Rattle.std.proofs.Common.{◌≡◌, ℕ, ◌∷◌, ◌++◌, ap}
use Rattle.certificate.specs.LineRef.{line_seen}
use Rattle.certificate.specs.declared.certificate.LineRef.{LineRef}
use Rattle.certificate.specs.declared.certificate.LineRef.TheVariants as seen
use Rattle.rmm_spec.specs.CertificateText.{line_parts}
use Rattle.rmm_spec.specs.CommandText.{reply_parts, reply_text}
use Rattle.rmm_spec.specs.Text.{line_text}
use Rattle.rmm_spec.specs.declared.line.Line.TheVariants.{Unfinished}
use Rattle.rmm_spec.specs.declared.reply.Reply.{Reply}
use Rattle.spec_lemmas.proofs.Texts.{reply_parts-some}
use Rattle.rmi_codec.specs.Head.{head_text}
use Rattle.rmi_codec.proofs.LineTexts.{line_text-head}

pub line_text-keep : (line : LineRef) (cpu number : ℕ)
    → line ≡ seen.Keep cpu number → line_text (line_parts (line_seen line)) ≡ head_text 107 cpu number
unfolding line_parts head_text
line_text-keep line cpu number is = ap (λ l. line_text (line_parts (line_seen l))) is

pub line_text-unfinished : (cpu number : ℕ) (given : Reply)
    → line_text (line_parts (Unfinished cpu number given)) ≡ head_text 117 cpu number ++ 32 ∷ reply_text given
unfolding line_parts
line_text-unfinished cpu number given = line_text-head 117 cpu number (reply_parts given) (reply_parts-some given)

pub ruleset line_texts = (line_text-keep, line_text-unfinished)
