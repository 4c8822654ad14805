-- The same is seen, or something else.
use Rattle.std.proofs.Common.{◌≡◌, true, false, refl, sym, ◌∙◌}
use Rattle.explain.proofs.Tracks.{IsKept-other, IsKept-same}
use Rattle.explain.proofs.track.kept_with.Goals as goal

pub returns-then-is_seen : goal.returns-then-is_seen
returns-then-is_seen c history lines w s passes read is =
    IsKept-same history lines w c.args.count s passes c.args.kept (read ∙ sym (c.if-is_seen.ensures.0 refl)) is

pub returns : goal.returns
returns c history lines w s passes read is =
    IsKept-other history lines w c.args.count s passes c.args.kept (record { there = c.args.there; read = c.args.read; set = c.args.count }) read refl
    (λ same. absurd (let bad : false ≡ true = c.if-is_seen.ensures.1 (sym same) in cc)) is
