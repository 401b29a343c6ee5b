use Rattle.std.proofs.Common.{◌≡◌, refl, ap, sym, ◌∙◌, subst, length, Some}
use Rattle.bus_core.specs.Port.{made}
use Rattle.bus_core.specs.declared.operation.BusOp.TheVariants.{Load}
use Rattle.counted_ring.specs.declared.device.Phase.{Phase}
use Rattle.counted_ring.specs.DeviceInside.{IsAtWork, words_in, task_in}
use Rattle.counted_ring.proofs.DeviceTurns.{reads_more, turn_more, turn_whole}
use Rattle.counted_ring.proofs.device.WqDevice.turn.Goals as goal

pub invariant_of-self-else-loaded-blocks : goal.invariant_of-self-else-loaded-blocks
invariant_of-self-else-loaded-blocks g c =
    let a = c.self.inside in
    let full : length a.words ≡ 32 = search in
    let reads = subst (IsAtWork a.place a.next a.ready a.words) c.in-Reading.is c.self.invariant.work in
    let r = c.reach-blocks.ensures in
    record {
      place_ok = c.self.invariant.place_ok;
      low = c.self.invariant.low;
      few = c.self.invariant.few;
      work = reads_more a.place a.next a.ready a.register c.in-Reading.loaded c.load-in-Reading.result c.reach-blocks.result a.words c.self.invariant.place_ok full reads r.reach r.some r.ready r.few c.if-loaded-blocks.false;
    }

pub returns-then-loaded-blocks-clause-made : goal.returns-then-loaded-blocks-clause-made
returns-then-loaded-blocks-clause-made g c =
    let a = c.self.inside in
    let full : length a.words ≡ 32 = search in
    let reads = subst (IsAtWork a.place a.next a.ready a.words) c.in-Reading.is c.self.invariant.work in
    let r = c.reach-blocks.ensures in
    let e = made (g.P.BusPort.port c.args.port.now) c.word_at-address.result Load (Some c.load-in-Reading.result) in
    let seen = ap (λ (ph : Phase). record { place = a.place; side = record { next = a.next; ready = a.ready; register = a.register; words = words_in ph a.words }; task = task_in ph }) (sym c.in-Reading.is) ∙ c.self.view_is in
    let turn = turn_whole a.place a.next a.ready a.register c.in-Reading.loaded c.load-in-Reading.result c.reach-blocks.result a.words c.self.invariant.place_ok full reads r.reach r.some r.ready r.few e (record { op = refl; at_address = c.word_at-address.ensures.at }) c.word_at-address.ensures.inside refl c.args.self.now seen c.if-loaded-blocks.true in
    (e, c.load-in-Reading.ensures, turn)

pub returns-else-loaded-blocks-clause-made : goal.returns-else-loaded-blocks-clause-made
returns-else-loaded-blocks-clause-made g c =
    let a = c.self.inside in
    let full : length a.words ≡ 32 = search in
    let reads = subst (IsAtWork a.place a.next a.ready a.words) c.in-Reading.is c.self.invariant.work in
    let r = c.reach-blocks.ensures in
    let e = made (g.P.BusPort.port c.args.port.now) c.word_at-address.result Load (Some c.load-in-Reading.result) in
    let seen = ap (λ (ph : Phase). record { place = a.place; side = record { next = a.next; ready = a.ready; register = a.register; words = words_in ph a.words }; task = task_in ph }) (sym c.in-Reading.is) ∙ c.self.view_is in
    let turn = turn_more a.place a.next a.ready a.register c.in-Reading.loaded c.load-in-Reading.result c.reach-blocks.result a.words c.self.invariant.place_ok full reads r.reach r.some r.ready r.few e (record { op = refl; at_address = c.word_at-address.ensures.at }) c.word_at-address.ensures.inside refl c.args.self.now seen c.if-loaded-blocks.false in
    (e, c.load-in-Reading.ensures, turn)
