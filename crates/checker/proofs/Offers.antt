-- How many offers a line takes, and the lines of a piece.
use Rattle.std.proofs.Common.{◌≡◌, ℕ, ◌+◌, ◌^◌, ◌<◌, ◌≤◌, List, [], ◌∷◌, ◌++◌, length, take, Option, Some, None, Result, Ok, Err, ap, ◌∙◌, arith}
use Rattle.certificate.proofs.PieceLemmas.{take_line}
use Rattle.certificate.specs.Pieces.{Takes, with_told}
use Rattle.rmi_codec.specs.Newlines.{newlines}
use Rattle.rmm_spec.specs.declared.line.Line.{Line}
use Rattle.rmm_spec.specs.declared.verdict.Reason.{Reason}
use Rattle.rmm_spec.specs.declared.verdict.Reason.TheVariants as reason
use Rattle.spec_machine.specs.Offers.{one_more}
use Rattle.checker.specs.Offers.{AreOffersAt, offers_after, offers_failed}

-- at most one for a line
pub few_offers : {E : Type 0} (judged : Result (Option Reason) E) (offers : ℕ) → offers_after judged offers ≤ offers + 1
few_offers (Ok None) offers = omega arith
few_offers (Ok (Some reason.Unknown)) offers = omega arith
few_offers (Ok (Some reason.Repeated)) offers = omega arith
few_offers (Ok (Some reason.Kind)) offers = omega arith
few_offers (Ok (Some reason.Order)) offers = omega arith
few_offers (Ok (Some reason.Reply)) offers = omega arith
few_offers (Ok (Some (reason.Missing cpu number))) offers = omega arith
few_offers (Err error) offers = omega arith

-- the first line that fails, behind so many lines
pub AreOffersAt-next : (why : Reason) (lines step old new : ℕ) → step ≡ lines + 1 → step < 2 ^ 64 → old ≡ lines
    → new ≡ offers_failed why old → AreOffersAt why step new
AreOffersAt-next reason.Unknown lines step old new counted few each next = omega (arith, counted, each, next)
AreOffersAt-next reason.Repeated lines step old new counted few each next = omega (arith, counted, each, next)
AreOffersAt-next reason.Kind lines step old new counted few each next = omega (arith, counted, each, next)
AreOffersAt-next reason.Order lines step old new counted few each next = omega (arith, counted, each, next)
AreOffersAt-next reason.Reply lines step old new counted few each next = omega (arith, counted, few, each, next)
AreOffersAt-next (reason.Missing cpu number) lines step old new counted few each next = omega (arith, counted, each, next)

-- the line behind so many lines passes
pub next_offers : (lines step old new : ℕ) → step ≡ lines + 1 → step < 2 ^ 64 → old ≡ lines → new ≡ one_more old → new ≡ lines + 1
next_offers lines step old new counted few each next = omega (arith, counted, few, each, next)

pub newlines-append : (front rest : List ℕ) → newlines (front ++ rest) ≡ newlines front + newlines rest
newlines-append [] rest = omega arith
newlines-append (byte ∷ front) rest = omega (arith, newlines-append front rest)

-- a line is told with its newline
told-le : (piece : List ℕ) (count : ℕ) (told : Option Line) → Takes piece count told → length (with_told [] told) ≤ newlines (take count piece)
told-le piece count None takes = omega arith
told-le piece count (Some line) (front, (later, (none, is_piece, counted))) =
    let taken = ap (take count) is_piece ∙ take_line count front later counted in
    omega (arith, ap newlines taken, newlines-append front (10 ∷ []))

-- the offers for what was told behind the front
pub offers_further : (first so_far next : ℕ) (front rest : List ℕ) (count : ℕ) (told : Option Line) → so_far ≤ first + newlines front
    → next ≤ so_far + length (with_told [] told) → Takes rest count told → next ≤ first + newlines (front ++ take count rest)
offers_further first so_far next front rest count told few more takes =
    omega (arith, few, more, told-le rest count told takes, newlines-append front (take count rest))

-- what stands behind the front adds none
pub offers_within : (first offers : ℕ) (piece front later : List ℕ) → piece ≡ front ++ later → offers ≤ first + newlines front
    → offers ≤ first + newlines piece
offers_within first offers piece front later is_piece few = omega (arith, few, ap newlines is_piece, newlines-append front later)
