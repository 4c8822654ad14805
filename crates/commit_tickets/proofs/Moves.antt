-- A commit is a move of the world.
use Rattle.commit_tickets.proofs.Common.{◌≡◌, ℕ, List, [], ◌∷◌, ◌++◌, map, refl, sym, ap, ◌∙◌, subst, Ok, map-append, Command, Config, put, HeldCell, LocalStep, place_of, hold_cells, IsCommit, JournalView, TokenView, hold_with}
use Rattle.std.proofs.Common.{false, ◌==◌, not}
use Rattle.std.specs.Prelude.{IsTrue}
use Rattle.std.specs.List.{list_any}
use Rattle.std.proofs.lemmas.Bool.{and_parts, not-true, or_parts}
use Rattle.rmm_spec.specs.Cell.{Cell}
use Rattle.rmm_spec.specs.Local.{granules_held, put_all}
use Rattle.rmm_spec.specs.World.{World, Commit, Decided, IsDeciding, Moves, held_cells, hold_of}
use Rattle.world_laws.specs.Replaced.{held_at}
use Rattle.spec_lemmas.proofs.Maps.{put-other, put-here}
use Rattle.spec_lemmas.proofs.Members.{granules_held-cells_at}
use Rattle.command_core.specs.Seen.{are_distinct}
use Rattle.granule_lock.specs.declared.hold.Hold.{Hold}
use Rattle.granule_lock.specs.HeldCells.{hold-distinct}
use Rattle.rmm_spec.specs.Local as local
use Rattle.commit_tickets.specs.declared.committing.Done.{Done}
use Rattle.commit_tickets.specs.View.{entry}
use Rattle.commit_tickets.specs.Worlds.{IsWorldOf, entry_for}
use Rattle.lemmas.proofs.Tests.{keys_apart}

-- ---- cells put into a whole

put_all-untouched : (held : List HeldCell) (cells : ℕ → Cell) (granule : ℕ) → list_any (λ other. other == granule) (granules_held held) ≡ false
    → put_all cells held granule ≡ cells granule
put_all-untouched [] cells granule none = refl
put_all-untouched (h ∷ held) cells granule none =
    let parts = or_parts (h.granule == granule) (list_any (λ other. other == granule) (granules_held held)) none in
    put_all-untouched held (put cells h.granule h.cell) granule parts.1
    ∙ put-other cells h.granule h.cell granule (λ same. keys_apart h.granule granule parts.0 (sym same))

-- each of some cells, of different granules, is then in the whole
put_all-each : (held : List HeldCell) (cells : ℕ → Cell) → IsTrue (are_distinct (granules_held held))
    → map (λ granule. held_at granule (put_all cells held granule)) (granules_held held) ≡ held
put_all-each [] cells distinct = refl
put_all-each (h ∷ held) cells distinct =
    let parts = and_parts (not (list_any (λ other. other == h.granule) (granules_held held))) (are_distinct (granules_held held)) distinct in
    let rest = put cells h.granule h.cell in
    let here : put_all rest held h.granule ≡ h.cell =
    put_all-untouched held rest h.granule (not-true (list_any (λ other. other == h.granule) (granules_held held)) parts.0)
    ∙ put-here cells h.granule h.cell in
    λ i. held_at h.granule (here i) ∷ put_all-each held rest parts.1 i

-- ---- the move

module _ (config : Config) (command : Command) (before after : JournalView) (token new : TokenView) (hold new_hold : Hold) (done : Done)
    (commit : IsCommit config command before after token new hold new_hold (Ok done)) (w : World) (of : IsWorldOf w before token (hold_cells hold))
    (deciding : IsDeciding w token.cpu) (called : deciding.command ≡ command) where
  abbrev left : local.Hold
  left = hold_with after new (hold_cells new_hold)

  abbrev next : World
  next = record w {
    cells = put_all w.cells left.cells;
    side = left.side;
    place = put w.place token.cpu left.place;
    phase = put w.phase token.cpu (Decided deciding.number deciding.command done.reply);
    journal = w.journal ++ record { cpu = token.cpu; number = deciding.number; command = deciding.command; given = done.reply } ∷ [];
  }

  step : LocalStep w.config token.cpu deciding.command done.reply (hold_of w token.cpu) left
  step =
      let is_config : config ≡ w.config = sym (of.same_config ∙ commit.of_run.size) in
      subst (λ (p : Config × Command × local.Hold). LocalStep p.0 token.cpu p.1 done.reply p.2 left)
      (λ i. (is_config i, sym called i, record { cells = sym of.same_cells i; side = sym of.same_side i; place = sym of.same_place i })) commit.step

  same_cpu : new.cpu ≡ token.cpu
  same_cpu = ap (λ (t : TokenView). t.cpu) commit.token

  cells-left : held_cells next new.cpu ≡ hold_cells new_hold
  cells-left =
      let taken : w.taken new.cpu ≡ granules_held (hold_cells new_hold) =
      ap w.taken same_cpu ∙ sym (granules_held-cells_at w.cells (w.taken token.cpu)) ∙ ap granules_held of.same_cells ∙ sym commit.step.same in
      ap (map (λ granule. held_at granule (put_all w.cells left.cells granule))) taken
      ∙ put_all-each (hold_cells new_hold) w.cells (hold-distinct new_hold)

  entries-left : map entry_for next.journal ≡ after.entries
  entries-left =
      map-append entry_for w.journal (record { cpu = token.cpu; number = deciding.number; command = deciding.command; given = done.reply } ∷ [])
      ∙ (λ i. of.same_entries i ++ entry token.cpu (called i) done.reply ∷ [])
      ∙ sym (ap (λ (j : JournalView). j.entries) commit.journal)

  -- a commit is the move of a world that has what it was made on, to one that has what it left
  pub committed-moves : (then : World) × Moves w (Commit token.cpu done.reply left) then × IsWorldOf then after new (hold_cells new_hold)
  committed-moves = (
    next,
    record { deciding = deciding; step = step; is_new = refl },
    record {
      same_config = of.same_config ∙ sym (ap (λ (j : JournalView). j.config) commit.journal);
      same_entries = entries-left;
      same_side = refl;
      same_cells = cells-left;
      same_place = subst (λ cpu. next.place cpu ≡ place_of new.place) (sym same_cpu) (put-here w.place token.cpu left.place);
    },
  )
