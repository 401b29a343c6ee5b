-- What has been judged of a question, and the verdict.
use Rattle.std.proofs.Common.{◌≡◌, ℕ, ◌+◌, ◌-◌, ◌<◌, ◌≤◌, ap, ◌∙◌, arith, true, false, cond, leb, ltb, List, [], ◌∷◌, length, Some, None, Err, subst}
use Rattle.std.proofs.lemmas.Bool.{le-leb, lt-leb, lt-ltb, le-ltb}
use Rattle.prm_fields.specs.Refusal.{Rule, first_refusal}
use Rattle.cmd_format.specs.declared.delivery.Delivery.{Delivery}
use Rattle.cmd_format.specs.declared.entry.CmdEntry.{CmdEntry}
use Rattle.cmd_format.specs.Block.{blocks_of}
use Rattle.cmd_format.specs.Entry.{HasParts}
use Rattle.cmd_slots.specs.declared.answer.Answer.TheVariants.{Refused}
use Rattle.cmd_slots.specs.Question.{entry_of, outputs, blocks, out_len, pointer_rule, rules_before, judged, input_of, body_of, decided, is_judged, blocks_in, verdict_with, verdict}
use Rattle.cmd_slots.proofs.Refusals.{behind_kept, broken_first}
use Rattle.cmd_slots.proofs.Questions.{verdict_is, rules_broken}

module _ (slot : ℕ) (words : List ℕ) (b : ℕ) where
  abbrev more : List (Rule Delivery)
  more = cond (ltb b (blocks words)) (pointer_rule slot words b ∷ []) []

  pub judged_broken : (fault : Delivery) → first_refusal (rules_before slot words b) ≡ Some fault → first_refusal (judged slot words b) ≡ Some fault
  judged_broken fault broken = broken_first (rules_before slot words b) more fault broken

  pub judged_pointer : first_refusal (rules_before slot words b) ≡ None → b < blocks words → first_refusal (judged slot words b) ≡ first_refusal (pointer_rule slot words b ∷ [])
  judged_pointer kept some = behind_kept (rules_before slot words b) more kept ∙ ap (λ t. first_refusal (cond t (pointer_rule slot words b ∷ []) [])) (lt-ltb b (blocks words) some)

  pub judged_all : first_refusal (rules_before slot words b) ≡ None → blocks words ≤ b → first_refusal (judged slot words b) ≡ None
  judged_all kept all = behind_kept (rules_before slot words b) more kept ∙ ap (λ t. first_refusal (cond t (pointer_rule slot words b ∷ []) [])) (le-ltb b (blocks words) all)

  -- the verdict when b blocks are there
  module _ (here : is_judged (length words) ≡ true) (count : blocks_in (length words) ≡ b) where
    with_blocks : verdict slot words ≡ verdict_with slot words b
    with_blocks = verdict_is slot words ∙ ap (λ t. cond t (verdict_with slot words (blocks_in (length words))) None) here ∙ ap (verdict_with slot words) count

    pub verdict_refused : (fault : Delivery) → first_refusal (judged slot words b) ≡ Some fault → verdict slot words ≡ Some (Err (Refused fault))
    verdict_refused fault broken = with_blocks ∙ ap (λ r. decided r (leb (blocks words) b) (body_of (input_of words) (out_len words))) broken

    pub verdict_next : first_refusal (judged slot words b) ≡ None → b < blocks words → verdict slot words ≡ None
    verdict_next kept some = with_blocks ∙ (ap (λ r. decided r (leb (blocks words) b) (body_of (input_of words) (out_len words))) kept ∙ ap (λ t. decided None t (body_of (input_of words) (out_len words))) (lt-leb (blocks words) b some))

    pub verdict_body : first_refusal (judged slot words b) ≡ None → blocks words ≤ b → verdict slot words ≡ Some (body_of (input_of words) (out_len words))
    verdict_body kept all = with_blocks ∙ (ap (λ r. decided r (leb (blocks words) b) (body_of (input_of words) (out_len words))) kept ∙ ap (λ t. decided None t (body_of (input_of words) (out_len words))) (le-leb (blocks words) b all))

-- between blocks nothing is judged
pub verdict_between : (slot : ℕ) (words : List ℕ) → is_judged (length words) ≡ false → verdict slot words ≡ None
verdict_between slot words between = verdict_is slot words ∙ ap (λ t. cond t (verdict_with slot words (blocks_in (length words))) None) between

-- an entry that is refused is refused whatever follows
pub entry_refused : (slot : ℕ) (words : List ℕ) (b : ℕ) (fault : Delivery) → first_refusal (rules_before slot words 0) ≡ Some fault → first_refusal (judged slot words b) ≡ Some fault
entry_refused slot words b fault broken = judged_broken slot words b fault (subst (λ (n : ℕ). first_refusal (rules_before slot words n) ≡ Some fault) (omega arith) (rules_broken slot words 0 b fault broken))

-- the blocks that an entry asks for
pub blocks_by_parts : (words : List ℕ) (e : CmdEntry) → HasParts e (entry_of words) → blocks words ≡ blocks_of (e.in_len - 16) + blocks_of (e.out_len - 16)
blocks_by_parts words e parts = ap (λ n. blocks_of (n - 16) + outputs words) parts.in_len ∙ ap (λ n. blocks_of (e.in_len - 16) + blocks_of (n - 16)) parts.out_len
