use Rattle.std.proofs.Common.{◌^◌, ◌<◌, sym, subst, arith}
use Rattle.counted_ring.specs.DeviceView.{DeviceView}
use Rattle.counted_ring.proofs.Parts.{zero_words}
use Rattle.counted_ring.proofs.device.WqDevice.begin_read.Goals as goal

pub invariant_of-self : goal.invariant_of-self
invariant_of-self c = record {
  place_ok = c.self.invariant.place_ok;
  low = c.self.invariant.low;
  few = c.self.invariant.few;
  work = record {
    ready_some = subst (λ (v : DeviceView). 0 < v.side.ready) (sym c.self.view_is) c.requires.ready;
    low = subst (λ (v : DeviceView). v.side.next < 2 ^ 62) (sym c.self.view_is) c.requires.index;
    few = omega arith;
    behind = λ k past. zero_words 32 k;
    part = λ h. absurd (omega (arith, h));
  };
}
