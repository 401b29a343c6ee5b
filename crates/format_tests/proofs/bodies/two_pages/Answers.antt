use Rattle.std.proofs.Common.{◌∙◌, arith, replicate, slice_set, get_or-set_other}
use Rattle.prm_fields.proofs.Chains.{zeros_read}
use Rattle.format_tests.proofs.bodies.two_pages.Goals as goal

pub returns : goal.returns
returns c = record {
  count = omega arith;
  rest = λ k past.
      get_or-set_other (slice_set (replicate 88 0) 0 4096) 1 k 8192 0 (λ same. absurd (omega arith))
      ∙ get_or-set_other (replicate 88 0) 0 k 4096 0 (λ same. absurd (omega arith))
      ∙ zeros_read 88 k;
}
