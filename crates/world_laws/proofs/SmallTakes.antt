-- Two takes of cells that are written out: one in the order of addresses, and one against it.
use Rattle.std.proofs.Common.{◌≡◌, ◌<◌, false, IsTrue, [], ◌∷◌, inl, refl, sym, ◌∙◌, arith, ⊎_elim}
use Rattle.std.proofs.lemmas.Bool.{false≢true}
use Rattle.rmm_spec.specs.declared.tag.Tag.TheVariants as tag
use Rattle.rmm_spec.specs.Call.{call_of, call_from}
use Rattle.rmm_spec.specs.Lookup.{is_granule}
use Rattle.rmm_spec.specs.Rows.{Needed}
use Rattle.rmm_spec.specs.Step.Terms.{needed, named}
use Rattle.rmm_spec.specs.Cell.{Delegated, tag_of, is_data}
use Rattle.rmm_spec.specs.Local.{HeldCell}
use Rattle.rmm_spec.specs.Locks.{is_named, names_part, IsStray, IsNextNamed, IsNextPart, IsRisingTake}
use Rattle.world_laws.specs.Replaced.{held_at}
use Rattle.spec_lemmas.proofs.Members.{each_of_one, each_of_two}
use Rattle.world_laws.specs.SmallWorlds.{two_cpus, realm_of}
use Rattle.lemmas.proofs.Members.{Contains-head}

pub word_order_rises : IsRisingTake two_cpus (named (call_of (realm_of 0x1000 0x2000))) (held_at 0x1000 Delegated ∷ []) 0x2000
unfolding call_from named is_granule
word_order_rises =
    let mine = held_at 0x1000 Delegated in
    let names = named (call_of (realm_of 0x1000 0x2000)) in
    record {
      is_lock = refl;
      is_new = each_of_one (λ (h : HeldCell). h.granule ≡ 0x2000 → ⊥) mine (λ same. omega arith);
      room = omega arith;
      no_data = each_of_one (λ (h : HeldCell). is_data h.cell ≡ false) mine refl;
      tags = λ h n has_h has_n same.
          each_of_one (λ (k : HeldCell). tag_of k.cell ≡ tag.Delegated) mine refl h has_h
          ∙ each_of_two (λ (m : Needed). tag.Delegated ≡ m.tag) (needed 0x1000 tag.Delegated) (needed 0x2000 tag.Delegated) refl refl n has_n;
      strays = each_of_one (λ (h : HeldCell). is_named names h.granule ≡ false → IsStray (mine ∷ []) h) mine (λ is. absurd (false≢true (sym is)));
      upwards = inl (record {
        next_named = refl;
        all_named = each_of_one (λ (h : HeldCell). IsTrue (is_named names h.granule)) mine refl;
        above = each_of_one (λ (h : HeldCell). h.granule < 0x2000) mine (omega arith);
      });
    }

pub word_order_falls : IsRisingTake two_cpus (named (call_of (realm_of 0x2000 0x1000))) (held_at 0x2000 Delegated ∷ []) 0x1000 → ⊥
word_order_falls rising =
    let mine = held_at 0x2000 Delegated in
    ⊎_elim
    (λ (next : IsNextNamed (named (call_of (realm_of 0x2000 0x1000))) (mine ∷ []) 0x1000).
    let bad : 0x2000 < 0x1000 = next.above mine (Contains-head mine []) in omega arith)
    (λ (next : IsNextPart (mine ∷ []) 0x1000).
    each_of_one (λ (h : HeldCell). IsTrue (names_part h.cell 0x1000) → ⊥) mine false≢true next.by next.is_held next.is_part)
    rising.upwards
