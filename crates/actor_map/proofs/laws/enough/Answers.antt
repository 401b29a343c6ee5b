use Rattle.std.proofs.Common.{ap, ◌∙◌, arith}
use Rattle.bus_core.specs.declared.turn.Note.{Note}
use Rattle.actor_map.proofs.laws.enough.Goals as goal

pub returns : goal.returns
returns c = λ v note actor. record {
  post = λ queue items fits. omega (arith, fits.1.serves.least, fits.1.serves.enough);
  full = λ queue pending head tail fits. ap (λ (n : Note). n.c) fits.1.note_is ∙ fits.1.serves;
  fetch = λ queue number fits. omega (arith, fits.1.serves.least, fits.1.serves.enough);
  publish = λ cq completion fits. omega (arith, fits.1.serves.least, fits.1.serves.enough);
}
