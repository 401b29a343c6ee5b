-- The start words of a map, and that there is room for them.
use Rattle.std.proofs.Common.{◌≡◌, ℕ, ◌+◌, ◌-◌, ◌*◌, ◌^◌, ◌%◌, ◌≤◌, List, [], ◌∷◌, ◌++◌, length, replicate, ap, ◌∙◌, arith}
use Rattle.std.specs.List.{flat_map, sum_by}
use Rattle.std.proofs.lemmas.List.{length-append, length-replicate}
use Rattle.std.proofs.lemmas.List.Concat.{length-flat_map}
use Rattle.bus_core.specs.Plain.{Plain}
use Rattle.verbs_types.specs.declared.declaration.EqLine.{EqLine}
use Rattle.verbs_types.specs.declared.declaration.CqLine.{CqLine}
use Rattle.verbs_types.specs.declared.declaration.QpLine.{QpLine}
use Rattle.verbs_types.specs.declared.declaration.Lines.{Lines}
use Rattle.actor_map.specs.declared.sizes.TheConstants.{FIRST_OBJECT}
use Rattle.actor_map.specs.Setting.{CanSet}
use Rattle.actor_map.specs.Sizes.{cq_words, eq_words, qp_words, receive_words, send_words, words_of}
use Rattle.actor_map.specs.Start.{cq_start, entries, eq_start, head_start, no_arm, qp_start, starts}
use Rattle.actor_map.proofs.Bounds.{Limits, cqs_small, eqs_small, qps_small}
use Rattle.actor_map.proofs.Setting.{length_of_entries}

pub length_of_head : (w : ℕ) → length (head_start w) ≡ FIRST_OBJECT
length_of_head w = let zeros : length (replicate {A = ℕ} (FIRST_OBJECT - 6) 0) ≡ FIRST_OBJECT - 6 = length-replicate {A = ℕ} (FIRST_OBJECT - 6) 0 in omega (arith, zeros)

pub length_of_eq : (l : EqLine) → length (eq_start l) ≡ eq_words l
length_of_eq l = omega (arith, length-append (entries (2 ^ l.log) 1) (0 ∷ 0 ∷ []), length_of_entries (2 ^ l.log) 1)

pub length_of_cq : (l : CqLine) → length (cq_start l) ≡ cq_words l
length_of_cq l =
    omega (arith, length-append (entries (2 * 2 ^ l.ceiling) 240) ((l.start % 2 ^ 24) ∷ (l.start % 2 ^ 24) ∷ no_arm ∷ 0 ∷ []), length_of_entries (2 * 2 ^ l.ceiling) 240)

pub length_of_qp : (l : QpLine) → length (qp_start l) ≡ qp_words l
length_of_qp l =
    omega (
      arith,
      length-append (replicate {A = ℕ} (send_words l + receive_words l) 0) ((l.start % 2 ^ 16) ∷ (l.start % 2 ^ 16) ∷ 0 ∷ []),
      length-replicate {A = ℕ} (send_words l + receive_words l) 0,
    )

pub length_of_eqs : (ls : List EqLine) → length (flat_map eq_start ls) ≡ sum_by eq_words ls
length_of_eqs ls = length-flat_map eq_start ls ∙ λ i. sum_by (λ l. length_of_eq l i) ls

pub length_of_cqs : (ls : List CqLine) → length (flat_map cq_start ls) ≡ sum_by cq_words ls
length_of_cqs ls = length-flat_map cq_start ls ∙ λ i. sum_by (λ l. length_of_cq l i) ls

pub length_of_qps : (ls : List QpLine) → length (flat_map qp_start ls) ≡ sum_by qp_words ls
length_of_qps ls = length-flat_map qp_start ls ∙ λ i. sum_by (λ l. length_of_qp l i) ls

pub room_of : (d : Lines) (a : Plain) → Limits d → a.trace ≡ [] → words_of d ≤ length a.start → CanSet a 0 (words_of d)
room_of d a limits empty inside = record { empty = empty; inside = omega (arith, inside); few = omega (arith, eqs_small d limits, cqs_small d limits, qps_small d limits) }
