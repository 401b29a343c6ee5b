-- A reply's bytes, written and read back.
use Rattle.std.proofs.Common.{◌≡◌, ℕ, ◌+◌, ◌*◌, ◌≤◌, true, false, ◌==◌, cond, List, length, drop, slice_index, refl, sym, ap, ◌∙◌, inl, ⊎_elim, arith}
use Rattle.std.proofs.lemmas.Bool.{cases_eq, cases_lt, eq-eqb, lt-ltb, le-ltb}
use Rattle.std.proofs.lemmas.Bool.Decides.{nat_tests}
use Rattle.std.proofs.lemmas.List.{length-drop}
use Rattle.prm_fields.specs.Bits.{field_value, KeepsOtherBits}
use Rattle.prm_fields.proofs.Parts.{field_value-drop, kept_field}
use Rattle.cmd_bodies.specs.declared.command.Command.{Command}
use Rattle.cmd_bodies.specs.declared.reply.Answer.{Answer}
use Rattle.cmd_bodies.specs.declared.reply.Answer.TheVariants.{Nothing, Number, PageCount, PageAddresses}
use Rattle.cmd_bodies.specs.declared.reply.Reply.{Reply}
use Rattle.cmd_bodies.specs.Command.{words_from}
use Rattle.cmd_bodies.specs.Encoding.{HasPages}
use Rattle.cmd_bodies.specs.Reply.{Carries, CarriesAddresses, HasReply, HasReplyHead, ReadsBack, answer_of, counted_of, good_reply, listed_in, listed_of, no_pages, reply_at, reply_length, reply_of}
use Rattle.cmd_bodies.proofs.Words.{word_at, words_all}

pub not_zero : (n : ℕ) → (n ≡ 0 → ⊥) → (n == 0) ≡ false
not_zero n apart = grind (arith, nat_tests)

reply_head_kept : (status number count width : ℕ) (old new : List ℕ) → HasReplyHead status number count old → KeepsOtherBits old new 128 width → HasReplyHead status number count new
reply_head_kept status number count width old new head kept = record {
  status_there = kept_field old new 0 8 128 width kept (inl (omega arith)) ∙ head.status_there;
  syndrome_clear = kept_field old new 8 56 128 width kept (inl (omega arith)) ∙ head.syndrome_clear;
  number_there = kept_field old new 64 32 128 width kept (inl (omega arith)) ∙ head.number_there;
  count_there = kept_field old new 96 32 128 width kept (inl (omega arith)) ∙ head.count_there;
}

-- a reply with addresses
pub addresses_written : (r : Reply) (width : ℕ) (old new : List ℕ) → (r.number ≡ 0 → ⊥) → HasReplyHead r.status r.number 0 old → KeepsOtherBits old new 128 width → HasPages r.pages r.list new → HasReply r new
addresses_written r width old new some head kept pages =
    let test = not_zero r.number some in
    record {
      head = rw test (reply_head_kept r.status r.number 0 width old new head kept);
      addresses = rw test pages;
    }

-- what was read, at the places of the bytes
pub good_read : (c : Command) (bytes addresses : List ℕ) (answer : Answer) (status number second : ℕ) (result : Reply)
    → status ≡ field_value bytes 0 8 → status ≡ 0 → answer ≡ answer_of c → number ≡ field_value bytes 64 32 → second ≡ field_value bytes 96 32 → addresses ≡ drop 16 bytes
    → result ≡ good_reply answer number second addresses → result ≡ reply_at c bytes
good_read c bytes addresses answer status number second result is_status zero is_answer is_number is_second is_addresses is =
    let test : (field_value bytes 0 8 == 0) ≡ true = eq-eqb _ _ (sym is_status ∙ zero) in
    rw (test, ← is_answer, ← is_number, ← is_second, ← is_addresses) is

pub refused_read : (c : Command) (bytes : List ℕ) (status : ℕ) → status ≡ field_value bytes 0 8 → (status ≡ 0 → ⊥) → reply_of status 0 0 no_pages ≡ reply_at c bytes
refused_read c bytes status is_status some =
    let test : (field_value bytes 0 8 == 0) ≡ false = not_zero _ (λ zero. some (is_status ∙ zero)) in
    rw test (ap (λ s. reply_of s 0 0 no_pages) is_status)

same_reply : (r : Reply) (status number pages : ℕ) (list : List ℕ) → r.status ≡ status → r.number ≡ number → r.pages ≡ pages → r.list ≡ list → reply_of status number pages list ≡ r
same_reply r status number pages list a b c d = rw (← a, ← b, ← c, ← d) refl

-- the addresses of a reply that lists them
module _ (r : Reply) (bytes : List ℕ) (carries : CarriesAddresses r) (has : HasPages (listed_of r) r.list bytes) (long : reply_length r ≤ length bytes) where
  listed_all : listed_of r ≡ r.pages
  listed_all =
      ⊎_elim
      (λ none. rw (eq-eqb r.number 0 none) (sym none ∙ carries.number_same))
      (λ some. rw (not_zero r.number some) refl)
      (cases_eq r.number 0)

  listed_here : listed_in r.number (drop 16 bytes) ≡ r.pages
  listed_here =
      let behind = length-drop 16 bytes in
      let room : 16 + 8 * r.pages ≤ length bytes = rw (← listed_all) long in
      omega (arith, behind, room, carries.number_same, carries.few)

  address_read : (j : ℕ) → slice_index r.list j ≡ word_at (drop 16 bytes) r.pages j
  address_read j =
      ⊎_elim
      (λ low.
      let there : field_value (drop 16 bytes) (64 * j) 64 ≡ slice_index r.list j = field_value-drop bytes 16 (64 * j) 64 ∙ has.words j (omega (arith, listed_all)) in
      sym (ap (λ b. cond b (field_value (drop 16 bytes) (64 * j) 64) 0) (lt-ltb j r.pages low) ∙ there))
      (λ past. carries.rest j past ∙ sym (ap (λ b. cond b (field_value (drop 16 bytes) (64 * j) 64) 0) (le-ltb j r.pages past)))
      (cases_lt j r.pages)

  addresses_read : r.list ≡ words_from (drop 16 bytes) (listed_in r.number (drop 16 bytes)) 0 88
  addresses_read = words_all (drop 16 bytes) r.list r.pages has.long address_read ∙ ap (λ n. words_from (drop 16 bytes) n 0 88) (sym listed_here)

good_reads_back : (answer : Answer) (r : Reply) (bytes : List ℕ) → r.status ≡ 0 → Carries answer r → HasPages (listed_of r) r.list bytes → reply_length r ≤ length bytes
    → good_reply answer r.number (counted_of r) (drop 16 bytes) ≡ r
good_reads_back Nothing r bytes zero carries has long = same_reply r _ _ _ _ zero carries.number_none carries.pages_none carries.list_none
good_reads_back Number r bytes zero carries has long = same_reply r _ _ _ _ zero refl carries.pages_none carries.list_none
good_reads_back PageCount r bytes zero carries has long =
    rw (eq-eqb r.number 0 carries.number_none) (same_reply r _ _ _ _ zero carries.number_none refl carries.list_none)
good_reads_back PageAddresses r bytes zero carries has long =
    same_reply r _ _ _ _ zero refl (sym carries.number_same) (addresses_read r bytes carries has long)

pub reads_back : ReadsBack
reads_back c r bytes is has long =
    ⊎_elim
    (λ zero.
    let test : (field_value bytes 0 8 == 0) ≡ true = eq-eqb _ _ (has.head.status_there ∙ zero) in
    rw (test, has.head.number_there, has.head.count_there) (good_reads_back (answer_of c) r bytes zero (is.good zero) has.addresses long))
    (λ some.
    let test : (field_value bytes 0 8 == 0) ≡ false = not_zero _ (λ zero. some (sym has.head.status_there ∙ zero)) in
    let nothing = is.refused some in
    rw test (same_reply r _ _ _ _ (sym has.head.status_there) nothing.number_none nothing.pages_none nothing.list_none))
    (cases_eq r.status 0)
