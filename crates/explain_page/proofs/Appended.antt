-- A page that is appended, from what its writers wrote.
use Rattle.std.proofs.Common.{◌≡◌, sym, ap, ◌∙◌, ℕ, List, [], ◌∷◌, ◌++◌}
use Rattle.std.proofs.lemmas.Grind.{flat_map-append}
use Rattle.explain_page.specs.Pieces.{Piece, Own, piece_text, texts, IsWritten}
use Rattle.rmm_spec.specs.declared.verdict.Verdict.{Verdict}
use Rattle.rmm_spec.specs.VerdictText.{verdict_line}
use Rattle.explain_page.specs.Head.{head_pieces, head_text}
use Rattle.explain_page.specs.Own.{own_text}
use Rattle.explain_page.specs.declared.own.Own.TheVariants.{Frame}
use Rattle.explain_page.specs.declared.own.frame.Frame.TheVariants.{Report, End}
use Rattle.explain_page.specs.Page.{AppendsPage, AppendsReport}

-- three stretches of pieces, one behind the other
pub texts-three : {M : Type 0} (text : M → List ℕ) (xs ys zs : List (Piece M)) (start a b c : List ℕ)
    → start ≡ [] → a ≡ start ++ texts text xs → b ≡ a ++ texts text ys
    → c ≡ b ++ texts text zs → c ≡ texts text (xs ++ ys ++ zs)
unfolding texts
texts-three text xs ys zs start a b c none first second third =
    third ∙ ap (λ (bytes : List ℕ). bytes ++ texts text zs)
    (second ∙ ap (λ (bytes : List ℕ). bytes ++ texts text ys) (first ∙ ap (λ (bytes : List ℕ). bytes ++ texts text xs) none))
    ∙ ap (λ (bytes : List ℕ). bytes ++ texts text zs) (sym (flat_map-append (piece_text text) xs ys))
    ∙ sym (flat_map-append (piece_text text) (xs ++ ys) zs)

-- the head, the pieces of the body, and behind them the report
pub AppendsPage-written : {verdict : Verdict} {end old new front text : List ℕ} (lines head body page : List ℕ)
    → head ≡ texts head_text (head_pieces (verdict_line verdict)) → IsWritten own_text front
    → text ≡ verdict_line verdict ++ lines ++ end → AppendsReport front body text → page ≡ head ++ body → new ≡ old ++ page
    → AppendsPage verdict end old new
unfolding texts
AppendsPage-written {verdict = verdict} {old = old} lines head body page headed written told whole both appended =
    let framed = Own (Frame Report) ∷ whole.report ++ Own (Frame End) ∷ [] in
    record {
      body = written.pieces;
      report = whole.report;
      lines = lines;
      says = whole.says ∙ told;
      appended = appended ∙ ap (λ bytes. old ++ bytes) (both ∙ ap (λ bytes. bytes ++ body) headed
          ∙ ap (λ bytes. texts head_text (head_pieces (verdict_line verdict)) ++ bytes)
          (whole.written ∙ ap (λ bytes. bytes ++ texts own_text framed) written.written
          ∙ sym (flat_map-append (piece_text own_text) written.pieces framed)));
    }
