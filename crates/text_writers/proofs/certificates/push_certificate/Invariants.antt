use Rattle.std.proofs.Common.{◌≡◌, ◌≤◌, ◌++◌, drop, length, take, vec_capacity}
use Rattle.rmm_spec.specs.CertificateText.{certificate_text}
use Rattle.text_writers.proofs.certificates.push_certificate.Given as goal

-- what is written and what is left to write are the whole text
abbrev pub invariant-loop-i : goal.invariant-loop-i
invariant-loop-i l = record {
  written : l.out.items ++ certificate_text (drop l.i l.certificate.lines) ≡ l.fn.out.items ++ certificate_text l.certificate.lines;
  kept : take (length l.fn.out.items) l.out.items ≡ l.fn.out.items;
  capacity : vec_capacity l.fn.out ≤ vec_capacity l.out;
}
