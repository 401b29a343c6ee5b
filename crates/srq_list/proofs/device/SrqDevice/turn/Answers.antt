use Rattle.std.proofs.Common.{◌≡◌, ◌+◌, refl, ap, sym, ◌∙◌, subst, arith, length, Some}
use Rattle.bus_core.specs.Port.{made}
use Rattle.bus_core.specs.declared.operation.BusOp.TheVariants.{Load}
use Rattle.srq_list.specs.declared.device.Phase.{Phase}
use Rattle.srq_list.specs.Place.{entry_words}
use Rattle.srq_list.specs.DeviceInside.{IsAtWork, progress_in, busy_in}
use Rattle.srq_list.proofs.ReadWords.{padded_more, turn_whole}
use Rattle.srq_list.proofs.device.SrqDevice.turn.Goals as goal

pub invariant_of-self-else-loaded-entry_words : goal.invariant_of-self-else-loaded-entry_words
invariant_of-self-else-loaded-entry_words g c =
    let a = c.self.inside in
    let ok = c.self.invariant.place_ok in
    let full : length a.words ≡ 16 = search in
    let reads = subst (IsAtWork a.place a.taken a.words) c.in-Reading.is c.self.invariant.work in
    record {
      place_ok = ok;
      low = c.self.invariant.low;
      work = record {
        low = reads.low;
        few = omega (arith, reads.few, c.entry_words.ensures, c.if-loaded-entry_words.false);
        rest = padded_more a.words c.in-Reading.loaded c.load-in-Reading.result full (omega (arith, reads.few, ok.few_words)) reads.rest;
      };
    }

pub returns-then-loaded-entry_words-clause-made : goal.returns-then-loaded-entry_words-clause-made
returns-then-loaded-entry_words-clause-made g c =
    let a = c.self.inside in
    let ok = c.self.invariant.place_ok in
    let full : length a.words ≡ 16 = search in
    let reads = subst (IsAtWork a.place a.taken a.words) c.in-Reading.is c.self.invariant.work in
    let e = made (g.P.BusPort.port c.args.port.now) c.entry_at-address.result Load (Some c.load-in-Reading.result) in
    let seen = ap (λ (ph : Phase). record { place = a.place; start = a.start; side = record { taken = a.taken; slot = a.slot; progress = progress_in a.next a.words ph }; busy = busy_in ph; seen = a.seen }) (sym c.in-Reading.is) ∙ c.self.view_is in
    let all : c.in-Reading.loaded + 1 ≡ entry_words a.place = c.if-loaded-entry_words.true ∙ c.entry_words.ensures in
    let turn = turn_whole a.place a.start a.taken a.slot a.next a.seen c.in-Reading.loaded c.load-in-Reading.result a.words ok full reads e (record { op = refl; at_address = c.entry_at-address.ensures.at }) c.entry_at-address.ensures.inside refl all c.args.self.now seen in
    (e, c.load-in-Reading.ensures, turn)
