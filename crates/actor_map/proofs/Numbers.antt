-- A note tells the numbers that it was made of.
use Rattle.std.proofs.Common.{◌≡◌, ℕ, ◌+◌, ◌*◌, ◌/◌, ◌%◌, refl, ap, ◌∙◌, arith}
use Rattle.verbs_types.specs.declared.completion.Queue.{Queue}
use Rattle.verbs_types.specs.declared.completion.Queue.TheVariants.{Send, Recv, Shared}
use Rattle.actor_map.specs.declared.note.EntryNumbers.{EntryNumbers}
use Rattle.actor_map.specs.declared.note.EntryNumbers.TheVariants.{Post, PostFull, Poll, Retire, Ack, Fetch, Publish}
use Rattle.actor_map.specs.Numbers.{AreToldBack, queue_number, queue_of, queue_at, note_with, numbers_in}
use Rattle.std.proofs.Common.{Some}

at_number : (number kind object : ℕ) → number % 4 ≡ kind → number / 4 ≡ object → queue_of number ≡ queue_at kind object
at_number number kind object is_kind is_object = λ i. queue_at (is_kind i) (is_object i)

queue_back : (queue : Queue) → queue_of (queue_number queue) ≡ queue
queue_back (Send qp) = at_number (4 * qp) 0 qp (omega arith) (omega arith)
queue_back (Recv qp) = at_number (4 * qp + 1) 1 qp (omega arith) (omega arith)
queue_back (Shared srq) = at_number (4 * srq + 2) 2 srq (omega arith) (omega arith)

numbers_back : (n : EntryNumbers) → numbers_in (note_with n) ≡ Some n
numbers_back (Post queue count seen) = ap (λ (q : Queue). Some (Post q count seen)) (queue_back queue)
numbers_back (PostFull queue pending head tail) = ap (λ (q : Queue). Some (PostFull q pending head tail)) (queue_back queue)
numbers_back (Poll cq most taken seen) = refl
numbers_back (Retire queue count) = ap (λ (q : Queue). Some (Retire q count)) (queue_back queue)
numbers_back (Ack cq index) = refl
numbers_back (Fetch queue number seen) = ap (λ (q : Queue). Some (Fetch q number seen)) (queue_back queue)
numbers_back (Publish cq seen) = refl

pub told_back : AreToldBack
told_back = record { numbers = numbers_back; none = refl }
