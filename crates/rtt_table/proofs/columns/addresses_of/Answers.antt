use Rattle.std.proofs.Common.{◌≡◌, ◌++◌, ◌-◌, [], take, replicate, ◌∙◌}
use Rattle.rtt_table.proofs.columns.addresses_of.Goals as goal

pub returns : goal.returns
returns c =
    let first : c.resize.new.self.items ≡ take 256 [] ++ replicate 256 c.entry_address.result =
    c.in_ok-resize.ensures.items
    ∙ (λ i. take 256 (c.in_ok-addresses.ensures.items i) ++ replicate (256 - c.in_ok-addresses.ensures.len i) c.entry_address.result) in
    c.in_ok-resize-2.ensures.items ∙ (λ i. take 512 (first i) ++ replicate (512 - c.in_ok-resize.ensures.len i) c.entry_address-2.result)
    ∙ (λ i. replicate 256 (c.entry_address.ensures i) ++ replicate 256 (c.entry_address-2.ensures i))
