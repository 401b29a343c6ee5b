-- What holds of every entry.
use Rattle.std.specs.Prelude.{◌≡◌, ℕ, ◌*◌, ◌^◌, ◌<◌, List, slice_index}
use Rattle.verbs_types.specs.declared.request.Sge.{Sge}
use Rattle.work_entries.specs.declared.sent.Sent.{Sent}
use Rattle.work_entries.specs.declared.units.SendWords.{SendWords}
use Rattle.work_entries.specs.Send.{IsSend}
use Rattle.work_entries.specs.Receive.{IsReceive}

-- no words spell two requests
abbrev pub OneRequest : Type 0
OneRequest = (s t : Sent) (w : SendWords) → IsSend s w → IsSend t w → s ≡ t

-- no words spell two lists of segments
abbrev pub OneList : Type 0
OneList = (a b : List Sge) (room : ℕ) (words : List ℕ) → IsReceive a room words → IsReceive b room words → a ≡ b

-- 64-bit words
abbrev pub AreWords : List ℕ → Type 0
AreWords words = (k : ℕ) → slice_index words k < 2 ^ 64

-- the first `count` words are the same
abbrev pub HaveSameWords : ℕ → List ℕ → List ℕ → Type 0
HaveSameWords count v w = (k : ℕ) → k < count → slice_index v k ≡ slice_index w k

-- no request has two entries: each bit of its blocks is known from it
abbrev pub OneEntry : Type 0
OneEntry =
    (s : Sent) (v w : SendWords)
    → AreWords v.words → AreWords w.words → IsSend s v → IsSend s w → (v.blocks ≡ w.blocks) × HaveSameWords (8 * v.blocks) v.words w.words
