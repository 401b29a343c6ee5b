-- What holds of every entry that the adapter reads.
use Rattle.std.specs.Prelude.{ℕ, ◌≡◌}
use Rattle.verbs_types.specs.declared.request.Op.TheVariants.{Nop}
use Rattle.verbs_types.specs.declared.request.Request.{Request}
use Rattle.work_entries.specs.declared.units.SendWords.{SendWords}
use Rattle.work_entries.specs.Send.{IsSend, sent_of}
use Rattle.counted_ring.specs.declared.place.WqPlace.{WqPlace}
use Rattle.counted_ring.specs.Place.{entry_words}
use Rattle.device_engine.specs.Entry.{wants}

-- the words of a NOP's entry, in blocks of 8 words, want a completion where the request does
abbrev pub WantAsAsked : Type 0
WantAsAsked =
    (place : WqPlace) (r : Request) (index qpn : ℕ) (entry : SendWords)
    → place.stride ≡ 8 → r.op ≡ Nop → IsSend (sent_of r index qpn) entry → wants (entry_words place entry) ≡ r.wanted
