use Rattle.reasons.proofs.Common.{◌*◌, ◌++◌, ◌+◌, ◌-◌, ◌/◌, ◌∙◌, ◌≡◌, List, Some, ap, arith, length, owner_rows, slice_index_or, slice_set, sym}
use Rattle.std.proofs.lemmas.List.{get_or-append_right, length-append, set-append_right}
use Rattle.rmm_spec.specs.Cell.{put}
use Rattle.reasons.specs.declared.owner_rows.OwnerRow.{OwnerRow}
use Rattle.reasons.proofs.Owners.{owner_rows-put, put-given}
use Rattle.reasons.proofs.OwnerRows.{get_or-owner_rows, length-owner_rows, row_of}
use Rattle.reasons.proofs.owner_rows.give.Goals as goal
use Rattle.spec_lemmas.proofs.Lookups.{granule-number}

pub returns-then-number-saturating_sub : goal.returns-then-number-saturating_sub
returns-then-number-saturating_sub c s of before owner size tied at =
    let n = s.config.granules in
    let a = c.args in
    let number = a.granule / 4096 in
    let is = granule-number n a.granule of.0 in
    let rows = owner_rows s owner n in
    let place : a.first + number - a.first ≡ number = omega arith in
    let row : c.index_mut.result.now ≡ row_of s owner number =
    c.index_mut.ensures.value ∙ ap (λ (all : List OwnerRow). slice_index_or all (a.first + number) c.index_mut.result.now) at
    ∙ get_or-append_right before rows a.first (a.first + number) c.index_mut.result.now size (omega arith)
    ∙ ap (λ i. slice_index_or rows i c.index_mut.result.now) place ∙ get_or-owner_rows s owner n number c.index_mut.result.now is.0 in
    let written : OwnerRow = record { granule = number * 4096; tag = s.tag (number * 4096); realm = Some a.rd } in
    put-given s before owner a.granule a.rd _ tied of
    (ap (λ (row : OwnerRow). slice_set a.rows.now.items (a.first + number) row)
    (λ i. record { granule = (row i).granule; tag = (row i).tag; realm = Some (c.new.ensures i) })
    ∙ ap (λ (all : List OwnerRow). slice_set all (a.first + number) written) at
    ∙ set-append_right before rows a.first (a.first + number) written size (omega arith)
    ∙ ap (λ i. before ++ slice_set rows i written) place
    ∙ ap (λ (all : List OwnerRow). before ++ all) (owner_rows-put s owner number n (Some a.rd) is.0)
    ∙ ap (λ g. before ++ owner_rows s (put owner g (Some a.rd)) n) (sym is.1))

pub returns-else-number-saturating_sub : goal.returns-else-number-saturating_sub
returns-else-number-saturating_sub c s of before owner size tied at =
    let n = s.config.granules in
    let is = granule-number n c.args.granule of.0 in
    let whole = ap length at ∙ length-append before (owner_rows s owner n) in
    absurd (omega (
      arith,
      c.if-number-saturating_sub.false,
      c.saturating_sub.ensures,
      c.len.ensures,
      whole,
      size,
      length-owner_rows s owner n,
      is.0,
      c.args.rows.now.ok.0,
    ))
