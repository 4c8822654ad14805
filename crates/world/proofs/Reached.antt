-- Where turns lead: one turn more, and what all that they lead to keeps.
use Rattle.world.proofs.Common.{◌++◌, ◌∙◌, ◌∷◌, ◌≡◌, Config, IsReached, List, None, Option, Turns, Will, World, [], ap, awaited, opening_world, put, refl, subst, sym, ℕ}
use Rattle.std.proofs.Math.Logic.{∥∥₁_map}
use Rattle.rmm_spec.specs.HistoryText.{IsConfig, IsHistory}
use Rattle.rmm_spec.specs.CertificateText.{IsCertificate}
use Rattle.rmm_spec.specs.World.{history_of, certificate_of}
use Rattle.rmm_spec.specs.Waits.{Report, Turn, TurnAll, waits_after}
use Rattle.world_laws.proofs.Turned.{moves_of_turns}
use Rattle.world_laws.proofs.Room.{events-HappenAll}
use Rattle.world_laws.proofs.Passed.{texts-run}

TurnAll-push : (old : World) (turns : List Turn) (mid : World) (turn : Turn) (new : World) → TurnAll old turns mid
    → Turns mid turn.cpu turn.will turn.report new → TurnAll old (turns ++ turn ∷ []) new
TurnAll-push old [] mid turn new run turned = (new, subst (λ w. Turns w turn.cpu turn.will turn.report new) run turned, refl)
TurnAll-push old (first ∷ turns) mid turn new run turned = (run.0, run.1, TurnAll-push run.0 turns mid turn new run.2 turned)

waits_after-push : (waits : ℕ → Option ℕ) (turns : List Turn) (turn : Turn)
    → waits_after waits (turns ++ turn ∷ []) ≡ put (waits_after waits turns) turn.cpu (awaited turn.report)
waits_after-push waits [] turn = refl
waits_after-push waits (first ∷ turns) turn = waits_after-push (put waits first.cpu (awaited first.report)) turns turn

-- one turn more
pub IsReached-turned : (config : Config) (old : World) (waits : ℕ → Option ℕ) (cpu : ℕ) (will : Will) (report : Report) (new : World)
    → Turns old cpu will report new → ∥ IsReached config old waits ∥₁ → ∥ IsReached config new (put waits cpu (awaited report)) ∥₁
IsReached-turned config old waits cpu will report new turned reached = ∥∥₁_map reached (λ (was : IsReached config old waits).
    let turn : Turn = record { cpu = cpu; will = will; report = report } in
    let next : IsReached config new (put waits cpu (awaited report)) = record {
      programs = was.programs;
      have_texts = was.have_texts;
      few = was.few;
      turns = was.turns ++ turn ∷ [];
      run = TurnAll-push (opening_world config was.programs) was.turns old turn new was.run turned;
      is_waiting = ap (λ w. put w cpu (awaited report)) was.is_waiting ∙ sym (waits_after-push (λ _. None) was.turns turn);
    } in next)

-- the history and the certificate of what is reached are in their grammars
pub written-reached : (config : Config) (w : World) (waits : ℕ → Option ℕ) → IsConfig config → IsReached config w waits
    → IsHistory (history_of w) × IsCertificate (certificate_of w)
written-reached config w waits is_config reached =
    let moves = moves_of_turns (opening_world config reached.programs) reached.turns w reached.run in
    let texts = texts-run config reached.programs moves.0 w is_config reached.have_texts moves.1
    (events-HappenAll config reached.programs moves.0 w reached.few moves.1) in
    (texts.0.is_history, texts.1.is_certificate)
