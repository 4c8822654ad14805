use Rattle.std.proofs.Common.{◌∙◌, ◌++◌, ℕ, List, ap₂, sym}
use Rattle.file_programs.specs.Texts.{release_line}
use Rattle.file_programs.proofs.Lines.{digest_lines-next}
use Rattle.file_programs.proofs.judged.append_judged.Goals as goal

pub loop-text-preserved : goal.loop-text-preserved
loop-text-preserved c =
    c.in_ok-push_str.ensures.bytes
    ∙ ap₂ (λ (so_far line : List ℕ). so_far ++ line) c.loop-text.invariant (c.as_str.ensures.value ∙ c.in_ok-line.ensures)
    ∙ sym (digest_lines-next release_line c.args.texts.now c.loop-text.text-index _ c.loop-text-test.true)
