-- How a reader of a certificate in pieces comes from one piece to the next.
use Rattle.std.proofs.Common.{◌≡◌, ◌≢◌, ℕ, zero, suc, ◌+◌, ◌<◌, ◌≤◌, List, [], ◌∷◌, ◌++◌, map, length, take, drop, Option, Some, Result, Ok, Err, true, ◌==◌, eqb-true, refl, sym, ap, ◌∙◌, subst, arith, append_assoc, length-append, take-append-drop}
use Rattle.std.specs.Prelude.{IfOk, IfErr, IsOk, MatchResult}
use Rattle.std.proofs.lemmas.List.{append-nil, length-map, length-take-le}
use Rattle.std.proofs.lemmas.List.Splits.{join_with_byte-slice_split}
use Rattle.rmi_codec.proofs.LineLengths.{length-line_text, width-line}
use Rattle.rmi_codec.proofs.Pieces.{IsBadLine-too_long}
use Rattle.spec_lemmas.proofs.CertificateLines.{certificates_by_lines, line_parts-one_line, InCertificates-from_lines}
use Rattle.spec_lemmas.proofs.Lines.{append-cons-not_nil, each-right, map_last}
use Rattle.spec_lemmas.proofs.Texts.{AllByRecursion-append}
use Rattle.rmm_spec.specs.CertificateText.{IsLine, IsCertificate, IsCertificateText, InCertificates, certificate_text, line_parts}
use Rattle.rmm_spec.specs.Text.{HasNoNewline, IsBadLine, line_text, parts_of}
use Rattle.rmm_spec.specs.declared.line.Line.{Line}
use Rattle.certificate.proofs.GrammarLemmas.{bad_line, unfinished_line, line_too_many, IsCertificate-push, certificate_text-push}
use Rattle.certificate.specs.Faults.{IsFaultOf}
use Rattle.certificate.specs.Pieces.{Begun, HasRead, IsReadTo, Takes, with_told}
use Rattle.certificate.specs.Spelling.{IsLineOf, IsNoLine}
use Rattle.certificate.specs.declared.fault.CertFault.{CertFault}
use Rattle.certificate.specs.declared.fault.CertFault.TheVariants.{BadLine, NoMemory}

-- the text with more bytes, behind the whole lines
regroup : (text front begun piece more : List ℕ) → text ≡ front ++ begun → text ++ (piece ++ more) ≡ front ++ (begun ++ piece ++ more)
regroup text front begun piece more is_text =
    ap (λ t. t ++ (piece ++ more)) is_text ∙ append_assoc front begun (piece ++ more) ∙ ap (λ r. front ++ r) (sym (append_assoc begun piece more))

-- a piece that ends the line, and what stands behind it
regroup_line : (text front begun piece last later more : List ℕ) → text ≡ front ++ begun → piece ≡ last ++ 10 ∷ later
    → text ++ (piece ++ more) ≡ front ++ (begun ++ last ++ 10 ∷ (later ++ more))
regroup_line text front begun piece last later more is_text is_piece =
    ap (λ p. text ++ (p ++ more)) is_piece ∙ ap (λ r. text ++ r) (append_assoc last (10 ∷ later) more)
    ∙ regroup text front begun last (10 ∷ (later ++ more)) is_text

no_newline : (begun last : List ℕ) → HasNoNewline begun → HasNoNewline last → HasNoNewline (begun ++ last)
no_newline begun last h k = AllByRecursion-append (λ byte. byte ≢ 10) begun last h k

-- the next line ends
pub IsReadTo-line : (text last : List ℕ) (lines : List Line) (kept : Begun) (line : Line)
    → IsLineOf (parts_of (kept.begun ++ last)) line → kept.count < 1000000
    → IsReadTo text lines kept → IsReadTo (text ++ (last ++ 10 ∷ [])) (lines ++ line ∷ []) (record { count = kept.count + 1; begun = [] })
IsReadTo-line text last lines kept line of_line room read = record {
  is_certificate = IsCertificate-push lines line read.is_certificate of_line.is_line (omega (arith, read.counted));
  counted = omega (arith, read.counted, length-append lines (line ∷ []));
  unfinished = tt;
  is_text = certificate_text-push lines line (text ++ (last ++ 10 ∷ [])) (kept.begun ++ last) (kept.begun ++ last ++ 10 ∷ []) []
      (regroup text (certificate_text lines) kept.begun last (10 ∷ []) read.is_text) refl of_line;
}

-- a piece's first line, with its newline
pub take_line : (n : ℕ) (front later : List ℕ) → n ≡ length front + 1 → take n (front ++ 10 ∷ later) ≡ front ++ 10 ∷ []
take_line zero front later e = absurd (omega (arith, e))
take_line (suc n) [] later e = let none : n ≡ 0 = omega (arith, e) in ap (λ k. 10 ∷ take k later) none
take_line (suc n) (byte ∷ front) later e =
    ap (λ bytes. byte ∷ bytes) (take_line n front later (let f : n ≡ length front + 1 = omega (arith, e) in f))

-- the line that ends is told
pub IsReadTo-ended : (text piece last later begun : List ℕ) (lines : List Line) (kept : Begun) (line : Line) → piece ≡ last ++ 10 ∷ later → begun ≡ []
    → IsLineOf (parts_of (kept.begun ++ last)) line → kept.count < 1000000 → IsReadTo text lines kept
    → IsReadTo (text ++ take (length last + 1) piece) (lines ++ line ∷ []) (record { count = kept.count + 1; begun = begun })
IsReadTo-ended text piece last later begun lines kept line is_piece forgotten of_line room read =
    let told = lines ++ line ∷ [] in
    let taken : take (length last + 1) piece ≡ last ++ 10 ∷ [] = ap (take (length last + 1)) is_piece ∙ take_line (length last + 1) last later refl in
    subst (λ bytes. IsReadTo (text ++ bytes) told (record { count = kept.count + 1; begun = begun })) (sym taken)
    (subst (λ b. IsReadTo (text ++ (last ++ 10 ∷ [])) told (record { count = kept.count + 1; begun = b })) (sym forgotten)
    (IsReadTo-line text last lines kept line of_line room read))

-- the line at a piece's front is taken
pub Takes-front : (piece : List ℕ) (count : ℕ) (line : Line) → count ≤ length piece → take count piece ≡ line_text (line_parts line) ++ 10 ∷ []
    → Takes piece count (Some line)
Takes-front piece count line inside front =
    let bytes = line_text (line_parts line) in
    let is_piece : piece ≡ bytes ++ 10 ∷ drop count piece =
    sym (take-append-drop count piece) ∙ ap (λ b. b ++ drop count piece) front ∙ append_assoc bytes (10 ∷ []) (drop count piece) in
    let counted : count ≡ length bytes + 1 = sym (length-take-le count piece inside) ∙ ap length front ∙ length-append bytes (10 ∷ []) in
    (bytes, (drop count piece, ((line_parts-one_line (line ∷ [])).0.has_no_newline, is_piece, counted)))

-- and told
pub IsReadTo-front : (text bytes : List ℕ) (lines : List Line) (kept : Begun) (line : Line)
    → bytes ≡ line_text (line_parts line) ++ 10 ∷ [] → IsLine line
    → kept.begun ≡ [] → kept.count < 1000000 → IsReadTo text lines kept
    → IsReadTo (text ++ bytes) (lines ++ line ∷ []) (record { count = kept.count + 1; begun = kept.begun })
IsReadTo-front text bytes lines kept line front is_line none room read =
    let last = line_text (line_parts line) in
    let of_line : IsLineOf (parts_of (kept.begun ++ last)) line = record {
      is_line = is_line;
      spelled = ap (λ b. parts_of (b ++ last)) none ∙ (line_parts-one_line (line ∷ [])).0.given_back;
    } in
    subst (λ b. IsReadTo (text ++ b) (lines ++ line ∷ []) (record { count = kept.count + 1; begun = kept.begun })) (sym front)
    (subst (λ b. IsReadTo (text ++ (last ++ 10 ∷ [])) (lines ++ line ∷ []) (record { count = kept.count + 1; begun = b })) (sym none)
    (IsReadTo-line text last lines kept line of_line room read))

-- the number of the next line
counted : (text : List ℕ) (lines : List Line) (kept : Begun) → kept.count ≡ length lines → IsBadLine InCertificates text (length lines + 1)
    → IsBadLine InCertificates text (kept.count + 1)
counted text lines kept is_count bad = subst (λ n. IsBadLine InCertificates text (n + 1)) (sym is_count) bad

-- the line that ends is none of a certificate
pub bad_ended : (text piece last later more : List ℕ) (lines : List Line) (kept : Begun) → piece ≡ last ++ 10 ∷ later → HasNoNewline last
    → IsNoLine (parts_of (kept.begun ++ last)) → IsReadTo text lines kept → IsBadLine InCertificates (text ++ (piece ++ more)) (kept.count + 1)
bad_ended text piece last later more lines kept is_piece none no_line read =
    counted (text ++ (piece ++ more)) lines kept read.counted
    (bad_line lines (text ++ (piece ++ more)) (kept.begun ++ last) (kept.begun ++ last ++ 10 ∷ (later ++ more)) (later ++ more) read.is_certificate
    (regroup_line text (certificate_text lines) kept.begun piece last later more read.is_text is_piece) refl
    (no_newline kept.begun last read.unfinished none) no_line)

-- the line that ends is one too many
pub bad_full : (text piece last later more : List ℕ) (lines : List Line) (kept : Begun) → piece ≡ last ++ 10 ∷ later → 1000000 ≤ kept.count
    → IsReadTo text lines kept → IsBadLine InCertificates (text ++ (piece ++ more)) (kept.count + 1)
bad_full text piece last later more lines kept is_piece full read =
    let few = read.is_certificate in
    let all : length lines ≡ 1000000 = omega (arith, full, read.counted, few.count) in
    counted (text ++ (piece ++ more)) lines kept read.counted
    (line_too_many lines (text ++ (piece ++ more)) (kept.begun ++ last ++ 10 ∷ (later ++ more)) read.is_certificate
    (regroup_line text (certificate_text lines) kept.begun piece last later more read.is_text is_piece)
    (append-cons-not_nil (kept.begun ++ last) 10 (later ++ more)) all)

-- the next line is longer than any, whatever follows
pub bad_long : (text piece more : List ℕ) (lines : List Line) (kept : Begun) → HasNoNewline piece → 256 < length (kept.begun ++ piece)
    → IsReadTo text lines kept → IsBadLine InCertificates (text ++ (piece ++ more)) (kept.count + 1)
bad_long text piece more lines kept none long read =
    let some : 0 < length (kept.begun ++ piece) = omega (arith, long) in
    let count_is : length (map line_parts lines) + 1 ≡ kept.count + 1 = omega (arith, length-map lines line_parts, read.counted) in
    let bad =
    IsBadLine-too_long certificates_by_lines (map line_parts lines) (kept.begun ++ piece) more (line_parts-one_line lines)
    (no_newline kept.begun piece read.unfinished none) some (λ _. InCertificates-from_lines lines read.is_certificate)
    (λ line taken.
    let last = map_last line_parts IsLine (map line_parts lines) taken.lines line taken.is_certificate.each (sym taken.is_spelled) in
    omega (arith, long, ap (λ l. length (line_text l)) last.1.1, length-line_text (line_parts last.0), width-line last.0 last.1.0)) in
    subst (λ t. IsBadLine InCertificates t (kept.count + 1)) (sym (regroup text (certificate_text lines) kept.begun piece more read.is_text))
    (subst (λ n. IsBadLine InCertificates (certificate_text lines ++ (kept.begun ++ piece ++ more)) n) count_is bad)

-- no line is so long
pub IsNoLine-long : (bytes : List ℕ) → 256 < length bytes → IsNoLine (parts_of bytes)
IsNoLine-long bytes long line of_line =
    omega (
      arith,
      long,
      ap length (join_with_byte-slice_split 32 bytes),
      ap (λ parts. length (line_text parts)) of_line.spelled,
      length-line_text (line_parts line),
      width-line line of_line.is_line,
    )

-- the text ends within a line
pub bad_unfinished : (text : List ℕ) (lines : List Line) (kept : Begun) → kept.begun ≢ [] → IsReadTo text lines kept
    → IsBadLine InCertificates text (kept.count + 1)
bad_unfinished text lines kept some read =
    counted text lines kept read.counted (unfinished_line lines text kept.begun read.is_certificate read.is_text read.unfinished some)

-- ---- a whole text

-- some first bytes of the text are read
pub record IsReadUpTo (text rest : List ℕ) (lines : List Line) (reader : Result Begun ℕ) : Type 0 where
  pub front : List ℕ
  pub is_text : text ≡ front ++ rest
  pub read : HasRead reader front lines

-- what is told of a reader that goes on
abbrev pub GoesOn : Result Begun ℕ → Result Begun ℕ → ℕ → Option Line → List ℕ → Type 0
GoesOn old new count told rest =
    IfOk old (λ o. IfOk new (λ n. (text : List ℕ) (lines : List Line)
    → IsReadTo text lines o → IsReadTo (text ++ take count rest) (with_told lines told) n))

-- what a reader answers, by the state that it is left in
abbrev pub Answer : Type 0
Answer = Result (ℕ × Option Line) CertFault

abbrev pub Answered : Result Begun ℕ → Answer → Type 0
Answered new answer = MatchResult new (λ _. IsOk answer) (λ line. answer ≡ Err (BadLine line))

-- what is told where the reader fails
abbrev pub IsRefused : Result Begun ℕ → Result Begun ℕ → List ℕ → Type 0
IsRefused old new rest =
    IfOk old (λ o. IfErr new (λ line. (text more : List ℕ) (lines : List Line)
    → IsReadTo text lines o → IsBadLine InCertificates (text ++ (rest ++ more)) line))

pub HasRead-next : (old new : Result Begun ℕ) (count : ℕ) (told : Option Line) (front rest : List ℕ) (lines : List Line)
    → Answered new (Ok (count, told)) → GoesOn old new count told rest
    → HasRead old front lines → HasRead new (front ++ take count rest) (with_told lines told)
HasRead-next (Ok old) (Ok new) count told front rest lines answered goes_on read = goes_on front lines read
HasRead-next (Ok old) (Err line) count told front rest lines answered goes_on read = absurd cc
HasRead-next (Err line) new count told front rest lines answered goes_on read = absurd read

-- the lines that were read are a certificate
pub IsCertificate-read : (reader : Result Begun ℕ) (text : List ℕ) (lines : List Line) → HasRead reader text lines → IsCertificate lines
IsCertificate-read (Ok kept) text lines read = read.is_certificate
IsCertificate-read (Err line) text lines read = absurd read

-- a further piece is read
pub IsReadUpTo-next : (text rest later : List ℕ) (lines more : List Line) (old new : Result Begun ℕ) (count : ℕ) (told : Option Line)
    → later ≡ drop count rest
    → more ≡ with_told lines told → Answered new (Ok (count, told)) → GoesOn old new count told rest → IsReadUpTo text rest lines old
    → IsReadUpTo text later more new
IsReadUpTo-next text rest later lines more old new count told is_later is_more answered goes_on so_far = record {
  front = so_far.front ++ take count rest;
  is_text = so_far.is_text ∙ ap (λ r. so_far.front ++ r) (sym (take-append-drop count rest))
      ∙ sym (append_assoc so_far.front (take count rest) (drop count rest))
      ∙ ap (λ r. so_far.front ++ take count rest ++ r) (sym is_later);
  read = subst (HasRead new (so_far.front ++ take count rest)) (sym is_more)
      (HasRead-next old new count told so_far.front rest lines answered goes_on so_far.read);
}

-- all of a piece is read
pub HasRead-piece : (text rest : List ℕ) (lines : List Line) (reader : Result Begun ℕ) → rest ≡ [] → IsReadUpTo text rest lines reader
    → HasRead reader text lines
HasRead-piece text rest lines reader ended so_far =
    subst (λ t. HasRead reader t lines) (sym (so_far.is_text ∙ ap (λ r. so_far.front ++ r) ended ∙ append-nil so_far.front)) so_far.read

-- more may follow
IsReadUpTo-more : (text piece rest more : List ℕ) (lines : List Line) (reader : Result Begun ℕ) → IsReadUpTo (text ++ piece) rest lines reader
    → IsReadUpTo (text ++ (piece ++ more)) (rest ++ more) lines reader
IsReadUpTo-more text piece rest more lines reader so_far = record {
  front = so_far.front;
  is_text = sym (append_assoc text piece more) ∙ ap (λ t. t ++ more) so_far.is_text ∙ append_assoc so_far.front rest more;
  read = so_far.read;
}

-- a bad line of what was read is the text's, whatever follows
pub IsFaultOf-refused : (text piece rest more : List ℕ) (lines : List Line) (old new : Result Begun ℕ) (fault : CertFault) → Answered new (Err fault)
    → IsRefused old new rest → IsReadUpTo (text ++ piece) rest lines old → IsFaultOf (text ++ (piece ++ more)) fault
unfolding IsReadUpTo-more
IsFaultOf-refused text piece rest more lines (Ok old) (Ok new) fault answered refused so_far = absurd cc
IsFaultOf-refused text piece rest more lines (Ok old) (Err line) fault answered refused so_far =
    let is_bad : fault ≡ BadLine line = cc in
    let longer = IsReadUpTo-more text piece rest more lines (Ok old) so_far in
    subst (IsFaultOf (text ++ (piece ++ more))) (sym is_bad)
    (subst (λ t. IsBadLine InCertificates t line) (sym longer.is_text) (refused so_far.front more lines so_far.read))
IsFaultOf-refused text piece rest more lines (Err line) new fault answered refused so_far = absurd so_far.read

-- memory was refused for a line that was read
pub IsFaultOf-memory : (text piece rest more : List ℕ) (lines : List Line) (reader : Result Begun ℕ) → IsReadUpTo (text ++ piece) rest lines reader
    → 0 < length lines → IsFaultOf (text ++ (piece ++ more)) NoMemory
unfolding IsReadUpTo-more
IsFaultOf-memory text piece rest more lines (Ok kept) so_far some =
    let longer = IsReadUpTo-more text piece rest more lines (Ok kept) so_far in
    let read = so_far.read in (
      lines,
      some,
      record {
        more = kept.begun ++ (rest ++ more);
        is_certificate = read.is_certificate;
        is_text = longer.is_text ∙ ap (λ f. f ++ (rest ++ more)) read.is_text ∙ append_assoc (certificate_text lines) kept.begun (rest ++ more);
      },
    )
IsFaultOf-memory text piece rest more lines (Err line) so_far some = absurd so_far.read

-- nothing is left
pub over : (rest : List ℕ) → true ≡ (length rest == 0) → rest ≡ []
over [] ended = refl
over (byte ∷ rest) ended = absurd (omega (arith, eqb-true (length (byte ∷ rest)) 0 (sym ended)))

-- the whole text is read
pub IsCertificateText-whole : (text : List ℕ) (lines : List Line) (reader : Result Begun ℕ) → HasRead reader text lines
    → IfOk reader (λ kept. (t : List ℕ) (ls : List Line) → IsReadTo t ls kept → IsCertificateText t ls) → IsCertificateText text lines
IsCertificateText-whole text lines (Ok kept) read whole = whole text lines read
IsCertificateText-whole text lines (Err line) read whole = absurd read

pub IsFaultOf-whole : (text : List ℕ) (lines : List Line) (reader : Result Begun ℕ) (fault : CertFault) → HasRead reader text lines
    → IfOk reader (λ kept. (line : ℕ)
    × ((fault ≡ BadLine line) × ((t : List ℕ) (ls : List Line) → IsReadTo t ls kept → IsBadLine InCertificates t line)))
    → IsFaultOf text fault
IsFaultOf-whole text lines (Ok kept) fault read bad = subst (IsFaultOf text) (sym bad.1.0) (bad.1.1 text lines read)
IsFaultOf-whole text lines (Err line) fault read bad = absurd read

-- before the first byte
pub HasRead-new : (reader : Result Begun ℕ) (lines : List Line)
    → reader ≡ Ok (record { count = 0; begun = [] }) → lines ≡ [] → HasRead reader [] lines
HasRead-new reader lines is_new none =
    subst (λ r. HasRead r [] lines) (sym is_new)
    (subst (HasRead (Ok (record { count = 0; begun = [] })) []) (sym none)
    (record { is_certificate = record { each = tt; count = omega arith }; counted = refl; unfinished = tt; is_text = refl }))

-- the last line of a certificate
pub IsLine-last : (lines : List Line) (line : Line) → IsCertificate (lines ++ line ∷ []) → IsLine line
IsLine-last lines line is = (each-right IsLine lines (line ∷ []) is.each).0

pub room_before : (lines : List Line) (line : Line) → IsCertificate (lines ++ line ∷ []) → length lines < 1000000
room_before lines line is = omega (arith, is.count, length-append lines (line ∷ []))
