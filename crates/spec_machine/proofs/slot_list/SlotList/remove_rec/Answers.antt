use Rattle.spec_machine.proofs.Common.{◌-◌, ◌<◌, ◌∙◌, ◌≡◌, HousedRec, ap, arith, length, suc, sym, vec_capacity, ℕ}
use Rattle.std.proofs.Common.{◌≢◌}
use Rattle.std.proofs.lemmas.Bool.{false≢true}
use Rattle.std.specs.Prelude.{is_some, vec_len}
use Rattle.rmm_spec.specs.Cell as spec
use Rattle.spec_machine.specs.Held.{housed_at, nowhere}
use Rattle.spec_machine.proofs.Slots.{held-removed, home-within, housed-removed, in_slots, not_rec, rec-below, rec-number, rec-read, slot-cell, IsOpened}
use Rattle.spec_machine.proofs.slot_list.SlotList.remove_rec.Goals as goal

pub index-requires : goal.index-requires
index-requires c =
    let o : IsOpened _ _ _ _ _ _ = record { are = c.self.invariant; is = c.self.view_is; within = c.requires.within } in
    omega (arith, in_slots o, c.self.inside.slots.ok.0)

pub unreachable-requires : goal.unreachable-requires
unreachable-requires c =
    let o : IsOpened _ _ _ _ _ _ = record { are = c.self.invariant; is = c.self.view_is; within = c.requires.within } in
    let none = sym (ap spec.rec_in (slot-cell o c.index.result.now c.index.ensures))
    ∙ not_rec c.self.inside.recs.items c.index.result.now c.in_default.not-Rec in
    false≢true (sym (ap is_some none) ∙ c.requires.rec)

pub overflow_sub-last : goal.overflow_sub-last
overflow_sub-last c =
    let o : IsOpened _ _ _ _ _ _ = record { are = c.self.invariant; is = c.self.view_is; within = c.requires.within } in
    let t = c.self.inside in
    let least = rec-below o c.in-Rec.number c.index.result.now c.index.ensures c.in-Rec.is in
    omega (arith, c.len-last.ensures, least, t.recs.ok.0)

pub index-requires-2 : goal.index-requires-2
index-requires-2 c =
    let o : IsOpened _ _ _ _ _ _ = record { are = c.self.invariant; is = c.self.view_is; within = c.requires.within } in
    let t = c.self.inside in
    let least = rec-below o c.in-Rec.number c.index.result.now c.index.ensures c.in-Rec.is in
    omega (arith, c.len-last.ensures, least, t.recs.ok.0)

pub index_mut-requires : goal.index_mut-requires
index_mut-requires c =
    let o : IsOpened _ _ _ _ _ _ = record { are = c.self.invariant; is = c.self.view_is; within = c.requires.within } in
    let t = c.self.inside in
    let least = rec-below o c.in-Rec.number c.index.result.now c.index.ensures c.in-Rec.is in
    let last = c.len-last.result - 1 in
    let below : last < length t.recs.items = omega (arith, c.len-last.ensures, least, t.recs.ok.0) in
    let home = ap (λ (r : HousedRec). r.home) (sym (rec-read t.recs.items last c.index-2.result.now below c.index-2.ensures)) in
    omega (arith, home-within t.slots.items t.recs.items last c.index-2.result.now.home c.self.invariant.housed below home, t.slots.ok.0)

pub index_mut-requires-2 : goal.index_mut-requires-2
index_mut-requires-2 c =
    let o : IsOpened _ _ _ _ _ _ = record { are = c.self.invariant; is = c.self.view_is; within = c.requires.within } in
    omega (arith, in_slots o, c.self.inside.slots.ok.0)

pub swap_remove-gone-requires : goal.swap_remove-gone-requires
swap_remove-gone-requires c =
    let o : IsOpened _ _ _ _ _ _ = record { are = c.self.invariant; is = c.self.view_is; within = c.requires.within } in
    let t = c.self.inside in
    let least = rec-below o c.in-Rec.number c.index.result.now c.index.ensures c.in-Rec.is in
    omega (arith, least, t.recs.ok.0)

pub invariant_of-self : goal.invariant_of-self
invariant_of-self c =
    let o : IsOpened _ _ _ _ _ _ = record { are = c.self.invariant; is = c.self.view_is; within = c.requires.within } in
    let t = c.self.inside in
    let number = c.in-Rec.number in
    let last = c.len-last.result - 1 in
    let at = rec-number o number c.index.result.now c.index.ensures c.in-Rec.is in
    let least = rec-below o number c.index.result.now c.index.ensures c.in-Rec.is in
    let count : suc last ≡ length t.recs.items = omega (arith, c.len-last.ensures, least, t.recs.ok.0) in
    let home = ap (λ (r : HousedRec). r.home) (sym (rec-read t.recs.items last c.index-2.result.now (omega (arith, count)) c.index-2.ensures)) in
    let gone = c.swap_remove-gone.ensures in
    let new = c.swap_remove-gone.new.self.items in
    let fewer : suc (length new) ≡ length t.recs.items = omega (arith, gone.len, t.recs.ok.0, c.swap_remove-gone.new.self.ok.0) in
    let moved : number < last → housed_at new number ≡ housed_at t.recs.items last =
    λ less. gone.by_index.0 nowhere (omega (arith, less, count, t.recs.ok.0))
    ∙ ap (housed_at t.recs.items) (let same : vec_len t.recs - 1 ≡ last = omega (arith, c.len-last.ensures) in same) in
    let stay : (n : ℕ) → n ≢ number → n < last → housed_at new n ≡ housed_at t.recs.items n =
    λ n differs less. gone.by_index.1 n nowhere differs (omega (arith, less, count, t.recs.ok.0)) in
    record {
      housed = housed-removed t.slots.items t.recs.items new c.args.place number last
          c.index-2.result.now.home c.self.invariant.housed at count home fewer moved stay;
      rooms = omega (arith, gone.capacity, c.self.invariant.rooms);
    }

pub returns : goal.returns
returns c =
    let o : IsOpened _ _ _ _ _ _ = record { are = c.self.invariant; is = c.self.view_is; within = c.requires.within } in
    let t = c.self.inside in
    let number = c.in-Rec.number in
    let last = c.len-last.result - 1 in
    let at = rec-number o number c.index.result.now c.index.ensures c.in-Rec.is in
    let least = rec-below o number c.index.result.now c.index.ensures c.in-Rec.is in
    let count : suc last ≡ length t.recs.items = omega (arith, c.len-last.ensures, least, t.recs.ok.0) in
    let home = ap (λ (r : HousedRec). r.home) (sym (rec-read t.recs.items last c.index-2.result.now (omega (arith, count)) c.index-2.ensures)) in
    let gone = c.swap_remove-gone.ensures in
    let new = c.swap_remove-gone.new.self.items in
    let fewer : suc (length new) ≡ length t.recs.items = omega (arith, gone.len, t.recs.ok.0, c.swap_remove-gone.new.self.ok.0) in
    let moved : number < last → housed_at new number ≡ housed_at t.recs.items last =
    λ less. gone.by_index.0 nowhere (omega (arith, less, count, t.recs.ok.0))
    ∙ ap (housed_at t.recs.items) (let same : vec_len t.recs - 1 ≡ last = omega (arith, c.len-last.ensures) in same) in
    let stay : (n : ℕ) → n ≢ number → n < last → housed_at new n ≡ housed_at t.recs.items n =
    λ n differs less. gone.by_index.1 n nowhere differs (omega (arith, less, count, t.recs.ok.0)) in
    held-removed t.slots.items t.recs.items new c.args.place number last c.index-2.result.now.home
    c.self.invariant.housed at count home fewer moved stay (vec_capacity t.slots) c.args.self.now c.self.view_is
