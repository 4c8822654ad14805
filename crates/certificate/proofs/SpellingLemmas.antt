-- Which parts are a line's, as a reader comes to know of them part by part.
use Rattle.std.proofs.Common.{◌≡◌, ◌∙◌, ℕ, ◌<◌, List, [], ◌∷◌, Option, Some, None, arith, sym}
use Rattle.std.specs.Prelude.{IfNone}
use Rattle.certificate.specs.Spelling.{IsLineOf, IsNoLine}
use Rattle.rmi_codec.specs.Head.{HasNoHead, head_parts}
use Rattle.rmm_spec.specs.CertificateText.{line_parts}
use Rattle.rmm_spec.specs.CommandText.{IsReply, reply_parts}
use Rattle.rmm_spec.specs.declared.line.Line.{Line}
use Rattle.rmm_spec.specs.declared.line.Line.TheVariants.{Keep, Unfinished}
use Rattle.rmm_spec.specs.declared.reply.Reply.{Reply}

-- no head
pub IsNoLine-head : (parts : List (List ℕ)) → HasNoHead 8 1000000 parts → IsNoLine parts
unfolding line_parts
IsNoLine-head parts none (Keep cpu number) of_line = none 107 cpu number [] of_line.is_line.0 of_line.is_line.1 of_line.spelled
IsNoLine-head parts none (Unfinished cpu number reply) of_line =
    none 117 cpu number (reply_parts reply) of_line.is_line.0 of_line.is_line.1 of_line.spelled

-- a head with another letter than `k`
pub IsNoKept-letter : (parts : List (List ℕ)) (letter cpu number : ℕ) (more : List (List ℕ)) → parts ≡ head_parts letter cpu number more
    → (letter ≡ 107 → ⊥) → (c n : ℕ) → IsLineOf parts (Keep c n) → ⊥
unfolding line_parts
IsNoKept-letter parts letter cpu number more cut other c n of_line =
    let same : head_parts letter cpu number more ≡ head_parts 107 c n [] = sym cut ∙ of_line.spelled in other (let e : letter ≡ 107 = cc in e)

-- a head with another letter than `u`
pub IsNoUnfinished-letter : (parts : List (List ℕ)) (letter cpu number : ℕ) (more : List (List ℕ)) → parts ≡ head_parts letter cpu number more
    → (letter ≡ 117 → ⊥) → (c n : ℕ) (reply : Reply) → IsLineOf parts (Unfinished c n reply) → ⊥
unfolding line_parts
IsNoUnfinished-letter parts letter cpu number more cut other c n reply of_line =
    let same : head_parts letter cpu number more ≡ head_parts 117 c n (reply_parts reply) = sym cut ∙ of_line.spelled in
    other (let e : letter ≡ 117 = cc in e)

-- a line of neither kind
pub IsNoLine-both : (parts : List (List ℕ)) (found : Option Line) → ((c n : ℕ) → IsLineOf parts (Keep c n) → ⊥)
    → IfNone found ((c n : ℕ) (reply : Reply) → IsLineOf parts (Unfinished c n reply) → ⊥) → IfNone found (IsNoLine parts)
IsNoLine-both parts None no_kept no_claimed = λ line of_line. neither line of_line
  where
    neither : (line : Line) → IsLineOf parts line → ⊥
    neither (Keep c n) of_line = no_kept c n of_line
    neither (Unfinished c n reply) of_line = no_claimed c n reply of_line
IsNoLine-both parts (Some found) no_kept no_claimed = tt

-- a fourth part of a kept line
pub IsNoLine-keep : (parts : List (List ℕ)) (cpu number : ℕ) (fourth : List ℕ) (more over : List (List ℕ)) → parts ≡ head_parts 107 cpu number more
    → more ≡ fourth ∷ over → IsNoLine parts
unfolding line_parts
IsNoLine-keep parts cpu number fourth more over cut more_is (Keep c n) of_line =
    let same : head_parts 107 cpu number more ≡ head_parts 107 c n [] = sym cut ∙ of_line.spelled in
    let none : fourth ∷ over ≡ [] = cc in
    cc
IsNoLine-keep parts cpu number fourth more over cut more_is (Unfinished c n reply) of_line =
    let same : head_parts 107 cpu number more ≡ head_parts 117 c n (reply_parts reply) = sym cut ∙ of_line.spelled in
    let e : ◌≡◌ {A = ℕ} 107 117 = cc in omega (arith, e)

-- no reply of an unfinished line
pub IsNoLine-unfinished : (parts : List (List ℕ)) (cpu number : ℕ) (more : List (List ℕ)) → parts ≡ head_parts 117 cpu number more
    → ((r : Reply) → IsReply r → more ≡ reply_parts r → ⊥) → IsNoLine parts
unfolding line_parts
IsNoLine-unfinished parts cpu number more cut none (Keep c n) of_line =
    let same : head_parts 117 cpu number more ≡ head_parts 107 c n [] = sym cut ∙ of_line.spelled in
    let e : ◌≡◌ {A = ℕ} 117 107 = cc in omega (arith, e)
IsNoLine-unfinished parts cpu number more cut none (Unfinished c n reply) of_line =
    let same : head_parts 117 cpu number more ≡ head_parts 117 c n (reply_parts reply) = sym cut ∙ of_line.spelled in
    none reply of_line.is_line.2 (let e : more ≡ reply_parts reply = cc in e)

-- the parts of a kept line
pub IsLineOf-keep : (parts : List (List ℕ)) (cpu number : ℕ) (more : List (List ℕ)) → parts ≡ head_parts 107 cpu number more → more ≡ []
    → cpu < 8 → number < 1000000 → IsLineOf parts (Keep cpu number)
unfolding line_parts
IsLineOf-keep parts cpu number more cut more_is cpu_below number_below = record {
  is_line = (cpu_below, number_below);
  spelled = cut ∙ (λ i. head_parts 107 cpu number (more_is i));
}

-- the parts of an unfinished line
pub IsLineOf-unfinished : (parts : List (List ℕ)) (cpu number : ℕ) (more : List (List ℕ)) (reply : Reply) → parts ≡ head_parts 117 cpu number more
    → more ≡ reply_parts reply → cpu < 8 → number < 1000000 → IsReply reply → IsLineOf parts (Unfinished cpu number reply)
unfolding line_parts
IsLineOf-unfinished parts cpu number more reply cut more_is cpu_below number_below is_reply = record {
  is_line = (cpu_below, number_below, is_reply);
  spelled = cut ∙ (λ i. head_parts 117 cpu number (more_is i));
}
