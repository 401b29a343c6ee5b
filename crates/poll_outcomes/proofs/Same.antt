-- Requests and states that are as they were.
use Rattle.std.proofs.Common.{◌≡◌, ℕ, refl, ap, ◌∙◌, arith, List}
use Rattle.verbs_rules.specs.State.{Verbs}
use Rattle.counted_ring.specs.Queue.{Request, index_in}
use Rattle.counted_ring.specs.Queue as counted
use Rattle.counted_ring.proofs.Requests.{request_of}
use Rattle.actor_rules.proofs.Growing.{Grows}
use Rattle.poll_outcomes.specs.Moves.{SameRequests, SameVerbs}

pub requests_refl : (q : counted.Queue) → SameRequests q q
requests_refl q = record { requests = refl; next = refl; rung = refl; taken = refl }

pub same_index : (q now : counted.Queue) (n : ℕ) → SameRequests q now → counted.index_of now n ≡ counted.index_of q n
same_index q now n s = ap (λ (rs : List Request). index_in rs now.next n) s.requests ∙ ap (λ (k : ℕ). index_in q.requests k n) s.next

pub same_grows : (q now : counted.Queue) → SameRequests q now → Grows q now
same_grows q now s = record {
  taken = omega (arith, s.taken);
  index = λ n low. same_index q now n s;
  request = λ n low. ap (λ (rs : List Request). request_of (record { requests = rs; next = 0; rung = 0; taken = 0; retired = 0 }) n) s.requests;
}

pub verbs_refl : (v : Verbs) → SameVerbs v v
verbs_refl v = record { limits = refl; posted = refl; device = refl }
