-- What was read fits its fields.
use Rattle.std.proofs.Common.{◌≡◌, ℕ, ◌*◌, ◌≤◌, true, cond, List, slice_index, ap, ◌∙◌, ⊎_elim, arith}
use Rattle.std.proofs.lemmas.Bool.{leb-true, le-ltb, cases_lt}
use Rattle.std.proofs.lemmas.List.{get_or_past}
use Rattle.prm_fields.specs.Bits.{field_value}
use Rattle.prm_fields.proofs.Values.{field_value-lt}
use Rattle.cmd_bodies.specs.declared.kind.Kind.{Kind}
use Rattle.cmd_bodies.specs.declared.kind.Kind.TheVariants.{EnableHca, DisableHca, InitHca, TeardownHca, QueryBootPages, QueryInitPages, GivePages, ReturnPages, AllocPd, DeallocPd, AllocUar, DeallocUar, CreateMkey, DestroyMkey, CreateEq, DestroyEq, CreateCq, DestroyCq, ModifyCq, CreateSrq, DestroySrq, CreateQp, DestroyQp, RstToInit, InitToRtr, RtrToRts, ToErr}
use Rattle.cmd_bodies.specs.Contexts.{FitsCq, cq_at}
use Rattle.cmd_bodies.specs.Command.{FitsFields, are_parameters_clear, command_with, words_from}
use Rattle.cmd_bodies.proofs.Words.{length-words_from, word_at, words_from-read}

-- past the count there is 0
word_past : (bytes : List ℕ) (n k : ℕ) → n ≤ k → slice_index (words_from bytes n 0 88) k ≡ 0
word_past bytes n k past =
    ⊎_elim
    (λ low. words_from-read bytes n 0 88 k low ∙ ap (word_at bytes n) (omega arith) ∙ ap (λ b. cond b (field_value bytes (64 * k) 64) 0) (le-ltb k n past))
    (λ high. get_or_past (words_from bytes n 0 88) k 0 (rw length-words_from high))
    (cases_lt k 88)

cq_fits : (bytes : List ℕ) → FitsCq (cq_at bytes)
cq_fits bytes = record {
  size = field_value-lt bytes 8 3;
  log = field_value-lt bytes 99 5;
  page = field_value-lt bytes 104 24;
}

pub fits_with : (kind : Kind) (number second : ℕ) (parameters : List ℕ) → are_parameters_clear kind second parameters ≡ true → FitsFields (command_with kind number second parameters)
fits_with EnableHca number second parameters clear = tt
fits_with DisableHca number second parameters clear = tt
fits_with InitHca number second parameters clear = tt
fits_with TeardownHca number second parameters clear = tt
fits_with QueryBootPages number second parameters clear = tt
fits_with QueryInitPages number second parameters clear = tt
fits_with GivePages number second parameters clear = record {
  count = leb-true second 88 clear;
  rest = word_past parameters second;
}
fits_with ReturnPages number second parameters clear = leb-true second 88 clear
fits_with AllocPd number second parameters clear = tt
fits_with DeallocPd number second parameters clear = tt
fits_with AllocUar number second parameters clear = tt
fits_with DeallocUar number second parameters clear = tt
fits_with CreateMkey number second parameters clear = field_value-lt parameters 104 24
fits_with DestroyMkey number second parameters clear = tt
fits_with CreateEq number second parameters clear = tt
fits_with DestroyEq number second parameters clear = tt
fits_with CreateCq number second parameters clear = cq_fits parameters
fits_with DestroyCq number second parameters clear = tt
fits_with ModifyCq number second parameters clear = cq_fits parameters
fits_with CreateSrq number second parameters clear = tt
fits_with DestroySrq number second parameters clear = tt
fits_with CreateQp number second parameters clear = tt
fits_with DestroyQp number second parameters clear = tt
fits_with RstToInit number second parameters clear = tt
fits_with InitToRtr number second parameters clear = tt
fits_with RtrToRts number second parameters clear = tt
fits_with ToErr number second parameters clear = tt
