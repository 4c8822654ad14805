-- What values that hold borrowed texts stand for.
use Rattle.std.specs.Prelude.{ℕ, List, map, Vec}
use Rattle.std.specs.Borrow.{Bor}
use Rattle.std.specs.declared.alloc.Global.{Global}
use Rattle.scenario.specs.declared.keys.Stated.{Stated as Held}
use Rattle.rmm_spec.specs.Scenario.{Stated}

abbrev pub seen_texts : List (Bor (List ℕ)) → List (List ℕ)
seen_texts texts = map (λ text. text.now) texts

abbrev pub seen_lists : List (Vec (Bor (List ℕ)) Global) → List (List (List ℕ))
seen_lists lists = map (λ list. seen_texts list.items) lists

abbrev pub stated_seen : Held → Stated
stated_seen held = record {
  granules = held.granules;
  cpus = held.cpus;
  programs = seen_lists held.programs.items;
  queue = held.queue;
  turns = seen_texts held.turns.items;
  limit = held.limit;
  version = held.version;
}
