-- What one more line leaves of the lines that are held.
use Rattle.std.proofs.Common.{◌≡◌, ℕ, ◌+◌, ◌<◌, List, [], ◌∷◌, ◌++◌, length, refl, sym, ap, ◌∙◌, subst, arith, length-append}
use Rattle.std.proofs.lemmas.List.{map_push, get_or_append_left, get_or_push}
use Rattle.std.specs.List.{AllByRecursion}
use Rattle.certificate.proofs.GrammarLemmas.{IsCertificate-push}
use Rattle.certificate.specs.View.{line_of, lines_of, no_claim, HasClaim, IsHeld}
use Rattle.certificate.specs.declared.certificate.Claim.{Claim}
use Rattle.certificate.specs.declared.certificate.Named.{Named}
use Rattle.certificate.specs.declared.certificate.Named.TheVariants as named
use Rattle.rmm_spec.specs.CertificateText.{IsLine, IsCertificate}
use Rattle.rmm_spec.specs.declared.line.Line.TheVariants as line
use Rattle.spec_lemmas.proofs.Lines.{each-weaker}
use Rattle.spec_lemmas.proofs.Texts.{AllByRecursion-append}

-- a claim at the end leaves the earlier lines as they are
line_of-push : (claims : List Claim) (claim : Claim) (name : Named)
    → HasClaim (length claims) name → line_of (claims ++ claim ∷ []) name ≡ line_of claims name
line_of-push claims claim (named.Keep cpu number) has = refl
line_of-push claims claim (named.Unfinished cpu index) has =
    ap (λ (c : Claim). line.Unfinished cpu c.number c.reply) (get_or_append_left claims (claim ∷ []) no_claim index has)

lines_of-push_claim : (names : List Named) (claims : List Claim) (claim : Claim) → AllByRecursion (HasClaim (length claims)) names
    → lines_of names (claims ++ claim ∷ []) ≡ lines_of names claims
lines_of-push_claim [] claims claim each = refl
lines_of-push_claim (name ∷ names) claims claim each =
    let head = line_of-push claims claim name each.0 in
    let tail = lines_of-push_claim names claims claim each.1 in
    cc (head, tail)

-- more claims leave each name its own
HasClaim-more : (count : ℕ) (name : Named) → HasClaim count name → HasClaim (count + 1) name
HasClaim-more count (named.Keep cpu number) has = tt
HasClaim-more count (named.Unfinished cpu index) has = let below : index < count = has in omega arith

-- the lines after an unfinished one
pub lines_of-claim : (names : List Named) (claims : List Claim) (cpu : ℕ) (claim : Claim) → AllByRecursion (HasClaim (length claims)) names
    → lines_of (names ++ named.Unfinished cpu (length claims) ∷ []) (claims ++ claim ∷ [])
    ≡ lines_of names claims ++ line.Unfinished cpu claim.number claim.reply ∷ []
lines_of-claim names claims cpu claim each =
    map_push (line_of (claims ++ claim ∷ [])) names (named.Unfinished cpu (length claims))
    ∙ ap (λ ls. ls ++ line_of (claims ++ claim ∷ []) (named.Unfinished cpu (length claims)) ∷ []) (lines_of-push_claim names claims claim each)
    ∙ ap (λ (c : Claim). lines_of names claims ++ line.Unfinished cpu c.number c.reply ∷ []) (get_or_push claims claim no_claim (length claims) refl)

pub IsHeld-claim : (names : List Named) (claims : List Claim) (cpu : ℕ) (claim : Claim) → IsHeld names claims
    → IsLine (line.Unfinished cpu claim.number claim.reply) → length (lines_of names claims) < 1000000
    → IsHeld (names ++ named.Unfinished cpu (length claims) ∷ []) (claims ++ claim ∷ [])
IsHeld-claim names claims cpu claim held is_line room =
    let longer : length (claims ++ claim ∷ []) ≡ length claims + 1 = length-append claims (claim ∷ []) in
    record {
      is_certificate = subst IsCertificate (sym (lines_of-claim names claims cpu claim held.each_claim))
          (IsCertificate-push (lines_of names claims) (line.Unfinished cpu claim.number claim.reply) held.is_certificate is_line room);
      each_claim = subst (λ count. AllByRecursion (HasClaim count) (names ++ named.Unfinished cpu (length claims) ∷ [])) (sym longer)
          (AllByRecursion-append (HasClaim (length claims + 1)) names (named.Unfinished cpu (length claims) ∷ [])
          (each-weaker (HasClaim (length claims)) (HasClaim (length claims + 1)) (HasClaim-more (length claims)) names held.each_claim)
          (let e : length claims < length claims + 1 = omega arith in e, tt));
      few_claims = omega (arith, held.few_claims, longer, length-append names (named.Unfinished cpu (length claims) ∷ []));
    }
