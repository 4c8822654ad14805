-- One CPU changed in a list of them is one put in what all of them tell.
use Rattle.world.proofs.Common.{◌<◌, ◌∙◌, ◌≡◌, Cpu, List, None, Some, Views, [], ap, drop, get_or, length, phase_in, place_of, put, slice_get, sym, vec_len, ℕ}
use Rattle.std.proofs.Common.{slice_set}
use Rattle.std.proofs.lemmas.Option.{slice_get_within, slice_get_read}
use Rattle.rmm_spec.specs.Shape.{Outside}
use Rattle.rmm_spec.specs.World as world
use Rattle.world.specs.Cpus.{views_at, of_each}
use Rattle.world.specs.declared.cpus.Cpus.{Cpus}
use Rattle.world.proofs.Listed.{of_each-set, of_each-read}
use Rattle.spec_lemmas.proofs.Maps.{put-same}

-- what a list tells with all that a CPU tells in one place
abbrev pub with_cpu : List Cpu → ℕ → Cpu → Views
with_cpu list key cpu = record {
  taken = put (views_at list).taken key cpu.taken.items;
  place = put (views_at list).place key (place_of cpu.place);
  phase = put (views_at list).phase key (phase_in cpu.phase);
  program = put (views_at list).program key (drop cpu.called cpu.program.items);
  waits = put (views_at list).waits key cpu.waits;
}

-- all that a CPU tells is another's
views-set : (list : List Cpu) (key : ℕ) (cpu : Cpu) → key < length list → views_at (slice_set list key cpu) ≡ with_cpu list key cpu
views-set list key cpu within = λ i. record {
  taken = of_each-set (λ (c : Cpu). c.taken.items) [] list key cpu within i;
  place = of_each-set (λ (c : Cpu). place_of c.place) Outside list key cpu within i;
  phase = of_each-set (λ (c : Cpu). phase_in c.phase) (world.Between 0) list key cpu within i;
  program = of_each-set (λ (c : Cpu). drop c.called c.program.items) [] list key cpu within i;
  waits = of_each-set (λ (c : Cpu). c.waits) None list key cpu within i;
}

-- what a CPU that is there tells is what the list tells of it
views-here : (list : List Cpu) (key : ℕ) (cpu : Cpu) → slice_get list key ≡ Some cpu → views_at list ≡ with_cpu list key cpu
views-here list key cpu is = λ i. record {
  taken = here (λ (c : Cpu). c.taken.items) [] i;
  place = here (λ (c : Cpu). place_of c.place) Outside i;
  phase = here (λ (c : Cpu). phase_in c.phase) (world.Between 0) i;
  program = here (λ (c : Cpu). drop c.called c.program.items) [] i;
  waits = here (λ (c : Cpu). c.waits) None i;
}
  where
    here : {A : Type 0} (tells : Cpu → A) (none : A) → of_each tells none list ≡ put (of_each tells none list) key (tells cpu)
    here tells none = sym (put-same (of_each tells none list) key (tells cpu) (of_each-read tells none list key cpu is))

-- ---- a CPU that was read

-- it is the list's
there : (cpus : Cpus) (key : ℕ) (cpu : Cpu)
    → key < vec_len cpus.list → cpu ≡ get_or cpus.list.items key cpu → slice_get cpus.list.items key ≡ Some cpu
there cpus key cpu within read = slice_get_read cpus.list.items cpus.list.len key cpu cpus.list.ok.0 within read

-- it tells what all of them tell of it
pub told_there : {A : Type 0} (tells : Cpu → A) (none : A) (cpus : Cpus) (key : ℕ) (cpu : Cpu) → key < vec_len cpus.list
    → cpu ≡ get_or cpus.list.items key cpu → of_each tells none cpus.list.items key ≡ tells cpu
told_there tells none cpus key cpu within read = of_each-read tells none cpus.list.items key cpu (there cpus key cpu within read)

-- what is changed of it is changed of what all tell
pub views-changed : (cpus : Cpus) (key : ℕ) (old new : Cpu) (change : Views → Views) → key < vec_len cpus.list → old ≡ get_or cpus.list.items key old
    → with_cpu cpus.list.items key new ≡ change (with_cpu cpus.list.items key old)
    → views_at (slice_set cpus.list.items key new) ≡ change (views_at cpus.list.items)
views-changed cpus key old new change within read changed =
    let list = cpus.list.items in
    let is = there cpus key old within read in
    views-set list key new (slice_get_within list key old is) ∙ changed ∙ sym (ap change (views-here list key old is))
