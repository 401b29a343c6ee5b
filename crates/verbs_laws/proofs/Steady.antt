-- What stays within bounds as a thread goes on.
use Rattle.std.proofs.Common.{◌≡◌, ℕ, suc, ◌≤◌, inl, Bool, true, false, ◌||◌, List, ◌++◌, length, refl, sym, ◌∙◌, arith, slice_set}
use Rattle.std.specs.List.{sum_by}
use Rattle.std.proofs.lemmas.Bool.{false≢true}
use Rattle.verbs_types.specs.declared.completion.Queue.TheVariants.{Send}
use Rattle.verbs_types.specs.declared.request.Item.{Item}
use Rattle.verbs_rules.specs.State.{Verbs}
use Rattle.verbs_rules.specs.Answered.{Due}
use Rattle.verbs_rules.specs.Proper.{Owes, items_on, retires_on}
use Rattle.verbs_rules.specs.Within.{Bounds, InBounds, Within, QueueWithin, free_on}
use Rattle.verbs_laws.proofs.Failing.{IsHost}
use Rattle.verbs_laws.proofs.Counting.{over_after}
use Rattle.verbs_laws.proofs.Owing.{Replaces, owing_after}

-- a thread is a host
pub host_of : (n : ℕ) (bounds : Bounds) (v : Verbs) (dues : List (List Due)) (t : ℕ) (due : Due) (rest : List Due) → InBounds n bounds v dues → Owes dues t due rest → IsHost (suc t)
host_of n bounds v dues t due rest s o = inl (omega arith, omega (arith, o.low, s.within.owing.few))

pub rest_posts : (b c : Bool) → (b || c) ≡ false → c ≡ false
rest_posts true c e = absurd (false≢true (sym e))
rest_posts false c e = e

-- as much or less is to be posted, and as much to be retired
pub no_more : (posted : List Item) (ends : List ℕ) (i i' r r' total : ℕ) → i' ≤ i → r' ≡ r → QueueWithin posted ends i r total → QueueWithin posted ends i' r' total
no_more posted ends i i' r r' total le e q = record { nops = q.nops; posts = omega (arith, q.posts, le); retires = e ∙ q.retires }

-- what is due was done and leaves as much to retire, and no more to post
pub owes_less : (n : ℕ) (bounds : Bounds) (v : Verbs) (dues : List (List Due)) (t : ℕ) (due : Due) (rest left : List Due) → Within n bounds v dues → Owes dues t due rest
    → ((i : ℕ) → sum_by (items_on i) left ≤ items_on i due) → ((i : ℕ) → sum_by (retires_on i) left ≡ retires_on i due)
    → Replaces v.device.pair_lives v.device.completions_live (free_on v) (free_on v) due rest (left ++ rest) → Within n bounds v (slice_set dues t (left ++ rest))
owes_less n bounds v dues t due rest left w o items retires r = record {
  queues = λ i. no_more (v.posted (Send i)) (v.settled (Send i)).ends _ _ _ _ (bounds.posts i) (omega (arith, over_after (items_on i) dues t due rest left o, items i)) (omega (arith, over_after (retires_on i) dues t due rest left o, retires i)) (w.queues i);
  completions = w.completions;
  owing = owing_after v.device.pair_lives v.device.completions_live (free_on v) (free_on v) dues t due rest (left ++ rest) w.owing o r;
}
