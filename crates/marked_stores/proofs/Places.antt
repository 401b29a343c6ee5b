-- Which words of which object are news.
use Rattle.std.proofs.Common.{◌≡◌, ◌≢◌, ◌⊎◌, ℕ, ◌+◌, ◌*◌, ◌^◌, ◌≤◌, inl, inr, refl, sym, subst, arith, true}
use Rattle.std.specs.Prelude.{slice_index}
use Rattle.std.proofs.Math.Pow.{pow_mono}
use Rattle.verbs_types.specs.declared.declaration.Lines.{Lines}
use Rattle.owner_ring.proofs.Slots.{touched}
use Rattle.cq_pair.specs.Place.{ring_of}
use Rattle.counted_ring.proofs.Slots as counted
use Rattle.object_places.specs.declared.ended.TheConstants.{ENDED_WORD}
use Rattle.object_places.specs.Objects.{Object, Completions, Sends, Receives, Lives, touches}
use Rattle.object_places.specs.Places.{completions_of, send_of, receive_of}
use Rattle.object_places.specs.Words.{IsWordOf, AreUsed, AreOwn, AreOfObjects}
use Rattle.object_places.proofs.Lines.{is_cq}
use Rattle.actor_rules.proofs.Frame.{same_object}
use Rattle.actor_rules.specs.Holding.{IsMapped}
use Rattle.marked_stores.specs.News.{News, SendRecord, SendTail, ReceiveRecord, ReceiveTail, OwnerWord, SecondOwnerWord, ConsumerIndex, ArmWord, ArmRegister, SequenceNumber, object_of, word_of, IsThere, IsNews}

-- the owner word of an entry
pub record IsOwnerWord (d : Lines) (cq a : ℕ) : Type 0 where
  pub index : ℕ
  pub is : a ≡ slice_index (completions_of d cq).areas 0 + 8 * index + 7

-- the words of news that a queue uses
abbrev pub IsNewsIn : Lines → Object → ℕ → Type 0
IsNewsIn d (Completions cq) a = (a ≡ (completions_of d cq).dbr) ⊎ IsOwnerWord d cq a
IsNewsIn d (Sends qp) a = (a ≡ (send_of d qp).dbr) ⊎ (a ≡ (send_of d qp).tail)
IsNewsIn d (Receives qp) a = (a ≡ (receive_of d qp).dbr) ⊎ (a ≡ (receive_of d qp).tail)

-- what holds of all words of declared objects
pub record AreWords (d : Lines) : Type 0 where
  pub map : IsMapped d
  pub used : AreUsed
  pub own : AreOwn
  pub of_objects : AreOfObjects

module _ (d : Lines) where
  -- each is a word of its object
  word_in : (n : News) → IsThere d n → IsWordOf d (object_of n) (word_of d n)
  word_in (SendRecord qp) there = counted.touches_record (send_of d qp)
  word_in (SendTail qp) there = counted.touches_tail (send_of d qp)
  word_in (ReceiveRecord qp) there = counted.touches_record (receive_of d qp)
  word_in (ReceiveTail qp) there = counted.touches_tail (receive_of d qp)
  word_in (OwnerWord cq index) there = (omega arith, omega (arith, there.entry))
  word_in (SecondOwnerWord cq index) there = (omega arith, omega (arith, there.entry))
  word_in (ConsumerIndex cq) there = (omega arith, omega arith)
  word_in (ArmWord cq) there = (omega arith, omega arith)
  word_in (ArmRegister cq) there = (omega arith, omega arith)
  word_in (SequenceNumber cq) there = (omega arith, omega arith)

module _ (d : Lines) (words : AreWords d) where
  -- a queue uses no word behind its first area but the consumer index
  unused : (cq a : ℕ) → Lives d (Completions cq) → slice_index (completions_of d cq).areas 1 ≤ a → a ≢ (completions_of d cq).dbr → touches d (Completions cq) a ≡ true → ⊥
  unused cq a lives behind other inside =
      let entries : 2 ^ (completions_of d cq).log ≤ 2 ^ (completions_of d cq).ceiling = pow_mono (is_cq d cq words.map.declared lives).log in
      elim (touched (ring_of (completions_of d cq)) a inside) [
        | inl both ↦ omega (arith, behind, both.1, entries)
        | inr record_word ↦ other record_word
      ]

  used_news : (n : News) → IsThere d n → touches d (object_of n) (word_of d n) ≡ true → IsNewsIn d (object_of n) (word_of d n)
  used_news (SendRecord qp) there inside = inl refl
  used_news (SendTail qp) there inside = inr refl
  used_news (ReceiveRecord qp) there inside = inl refl
  used_news (ReceiveTail qp) there inside = inr refl
  used_news (OwnerWord cq index) there inside = inr (record { index = index; is = refl })
  used_news (SecondOwnerWord cq index) there inside = absurd (unused cq _ there.lives (omega arith) (λ same. omega (arith, there.entry, same)) inside)
  used_news (ConsumerIndex cq) there inside = inl refl
  used_news (ArmWord cq) there inside = absurd (unused cq _ there.lives (omega arith) (λ same. omega (arith, same)) inside)
  used_news (ArmRegister cq) there inside = absurd (unused cq _ there.lives (omega arith) (λ same. omega (arith, same)) inside)
  used_news (SequenceNumber cq) there inside = absurd (unused cq _ there.lives (omega arith) (λ same. omega (arith, same)) inside)

  -- a word that a queue uses and that is news is news of that queue
  pub news_in : (o : Object) (a : ℕ) → Lives d o → touches d o a ≡ true → IsNews d a → IsNewsIn d o a
  news_in o a lives inside news =
      let n = news.news in
      elim (same_object (object_of n) o) [
        | inl same ↦ subst (λ (p : Object). touches d p a ≡ true → IsNewsIn d p a) same
            (subst (λ (b : ℕ). touches d (object_of n) b ≡ true → IsNewsIn d (object_of n) b) (sym news.is) (used_news n news.there)) inside
        | inr differ ↦ absurd (words.own d (object_of n) o a words.map.declared news.there.lives lives differ
            (subst (IsWordOf d (object_of n)) (sym news.is) (word_in d n news.there)) (words.used d o a words.map.declared lives inside))
      ]

  -- the word of actors that ended is none
  pub ended_no_news : (a : ℕ) → a ≡ ENDED_WORD → IsNews d a → ⊥
  ended_no_news a is news = omega (arith, is, news.is, (words.of_objects d (object_of news.news) (word_of d news.news) words.map.declared news.there.lives (word_in d news.news news.there)).0)
