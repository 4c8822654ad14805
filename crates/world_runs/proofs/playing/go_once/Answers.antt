use Rattle.std.proofs.Common.{sym, ap, subst}
use Rattle.std.proofs.lemmas.Bool.{false≢true}
use Rattle.world.specs.Next.{IsNoMove}
use Rattle.world.specs.Told.{report_of}
use Rattle.world_runs.proofs.playing.go_once.Goals as goal

pub returns-in-Did : goal.returns-in-Did
returns-in-Did c = record {
  report = report_of c.in_ok-turned.turned;
  exact = record {
    turned = c.in_ok-turned.ensures.turned;
    exact = c.in_ok-turned.ensures.exact;
    planned = c.in_ok-turned.ensures.planned;
    is_new = c.in_ok-turned.ensures.world;
  };
  unmoved = λ none. absurd (false≢true (sym none));
}

pub returns-in-Blocked : goal.returns-in-Blocked
returns-in-Blocked c = record {
  report = report_of c.in_ok-turned.turned;
  exact = record {
    turned = c.in_ok-turned.ensures.turned;
    exact = c.in_ok-turned.ensures.exact;
    planned = c.in_ok-turned.ensures.planned;
    is_new = c.in_ok-turned.ensures.world;
  };
  unmoved = λ none. (none, subst IsNoMove (sym (ap report_of c.in-Blocked.is)) tt);
}

pub returns-in-Idle : goal.returns-in-Idle
returns-in-Idle c = record {
  report = report_of c.in_ok-turned.turned;
  exact = record {
    turned = c.in_ok-turned.ensures.turned;
    exact = c.in_ok-turned.ensures.exact;
    planned = c.in_ok-turned.ensures.planned;
    is_new = c.in_ok-turned.ensures.world;
  };
  unmoved = λ none. (none, subst IsNoMove (sym (ap report_of c.in-Idle.is)) tt);
}
