-- The tests of sameness hold exactly where the values are equal.
use Rattle.std.proofs.Common.{◌<◌, arith, if◌then◌else◌, ◌≡◌, ℕ, zero, suc, refl, sym, ap, ◌∙◌, Bool, true, false, ◌==◌, List, [], ◌∷◌, map, take, length, Option, Some, None, eqb-true, eq-eqb}
use Rattle.std.proofs.lemmas.Bool.{and_parts, and_from, false≢true}
use Rattle.verbs_types.specs.declared.completion.Queue.{Queue}
use Rattle.verbs_types.specs.declared.completion.Queue.TheVariants.{Send, Recv, Shared}
use Rattle.verbs_types.specs.declared.completion.Kind.{Kind}
use Rattle.verbs_types.specs.declared.completion.Kind.TheVariants.{Nop, Send as SendKind, Write, Read, Cas, Faa, Recv as RecvKind, RecvImm, RecvWrite, Failed}
use Rattle.verbs_types.specs.declared.completion.Completion.{Completion}
use Rattle.verbs_types.specs.declared.state.Unpolled.{Unpolled}
use Rattle.verbs_rules.specs.Same.{same_queue, kind_number, same_flag, same_immediate, same_completion, is_front}

pub same_queue_refl : (q : Queue) → same_queue q q ≡ true
same_queue_refl (Send n) = eq-eqb n n refl
same_queue_refl (Recv n) = eq-eqb n n refl
same_queue_refl (Shared n) = eq-eqb n n refl

pub same_queue-true : (p q : Queue) → same_queue p q ≡ true → p ≡ q
same_queue-true (Send n) (Send m) h = ap Send (eqb-true n m h)
same_queue-true (Recv n) (Recv m) h = ap Recv (eqb-true n m h)
same_queue-true (Shared n) (Shared m) h = ap Shared (eqb-true n m h)
same_queue-true (Send n) (Recv m) h = absurd (false≢true h)
same_queue-true (Send n) (Shared m) h = absurd (false≢true h)
same_queue-true (Recv n) (Send m) h = absurd (false≢true h)
same_queue-true (Recv n) (Shared m) h = absurd (false≢true h)
same_queue-true (Shared n) (Send m) h = absurd (false≢true h)
same_queue-true (Shared n) (Recv m) h = absurd (false≢true h)

-- the kind of this number
abbrev kind_at : ℕ → Kind
kind_at n =
    if n == 0 then Nop
    else (if n == 1 then SendKind
    else (if n == 2 then Write
    else (if n == 3 then Read
    else (if n == 4 then Cas
    else (if n == 5 then Faa
    else (if n == 6 then RecvKind
    else (if n == 7 then RecvImm
    else (if n == 8 then RecvWrite
    else Failed))))))))

kind_at-kind_number : (k : Kind) → kind_at (kind_number k) ≡ k
kind_at-kind_number Nop = refl
kind_at-kind_number SendKind = refl
kind_at-kind_number Write = refl
kind_at-kind_number Read = refl
kind_at-kind_number Cas = refl
kind_at-kind_number Faa = refl
kind_at-kind_number RecvKind = refl
kind_at-kind_number RecvImm = refl
kind_at-kind_number RecvWrite = refl
kind_at-kind_number Failed = refl

pub kind_number-true : (j k : Kind) → (kind_number j == kind_number k) ≡ true → j ≡ k
kind_number-true j k h = sym (kind_at-kind_number j) ∙ (ap kind_at (eqb-true (kind_number j) (kind_number k) h) ∙ kind_at-kind_number k)

same_flag_refl : (b : Bool) → same_flag b b ≡ true
same_flag_refl true = refl
same_flag_refl false = refl

pub same_flag-true : (a b : Bool) → same_flag a b ≡ true → a ≡ b
same_flag-true true true h = refl
same_flag-true true false h = sym h
same_flag-true false true h = h
same_flag-true false false h = refl

same_immediate_refl : (o : Option ℕ) → same_immediate o o ≡ true
same_immediate_refl None = refl
same_immediate_refl (Some n) = eq-eqb n n refl

pub same_immediate-true : (o p : Option ℕ) → same_immediate o p ≡ true → o ≡ p
same_immediate-true None None h = refl
same_immediate-true (Some n) (Some m) h = ap Some (eqb-true n m h)
same_immediate-true None (Some m) h = absurd (false≢true h)
same_immediate-true (Some n) None h = absurd (false≢true h)

same_number : (n : ℕ) → (n == n) ≡ true
same_number n = eq-eqb n n refl

pub same_completion_refl : (x : Completion) → same_completion x x ≡ true
same_completion_refl x = rw (same_queue_refl x.queue, same_number x.qp, same_number x.id, same_number x.status, same_number (kind_number x.kind), same_number x.len, same_immediate_refl x.imm, same_flag_refl x.solicited) refl

pub same_completion-true : (x y : Completion) → same_completion x y ≡ true → x ≡ y
same_completion-true x y h =
    let h7 = and_parts _ _ h in
    let h6 = and_parts _ _ h7.0 in
    let h5 = and_parts _ _ h6.0 in
    let h4 = and_parts _ _ h5.0 in
    let h3 = and_parts _ _ h4.0 in
    let h2 = and_parts _ _ h3.0 in
    let h1 = and_parts _ _ h2.0 in
    let queue = same_queue-true x.queue y.queue h1.0 in
    let qp = eqb-true x.qp y.qp h1.1 in
    let id = eqb-true x.id y.id h2.1 in
    let status = eqb-true x.status y.status h3.1 in
    let kind = kind_number-true x.kind y.kind h4.1 in
    let len = eqb-true x.len y.len h5.1 in
    let imm = same_immediate-true x.imm y.imm h6.1 in
    let solicited = same_flag-true x.solicited y.solicited h7.1 in
    λ i. record { queue = queue i; qp = qp i; id = id i; status = status i; kind = kind i; len = len i; imm = imm i; solicited = solicited i }

-- the front of those that no poll took
pub is_front-true : (xs : List Completion) (us : List Unpolled) → is_front xs us ≡ true → xs ≡ map (λ (u : Unpolled). u.completion) (take (length xs) us)
is_front-true [] us h = refl
is_front-true (x ∷ xs) [] h = absurd (false≢true h)
is_front-true (x ∷ xs) (u ∷ us) h =
    let parts = and_parts _ _ h in
    let first = same_completion-true x u.completion parts.0 in
    let rest = is_front-true xs us parts.1 in
    λ i. first i ∷ rest i

pub front_is_front : (us : List Unpolled) → (n : ℕ) → is_front (map (λ (u : Unpolled). u.completion) (take n us)) us ≡ true
front_is_front us zero = refl
front_is_front [] (suc n) = refl
front_is_front (u ∷ us) (suc n) = and_from _ _ (same_completion_refl u.completion) (front_is_front us n)

-- nothing is left, and more is asked for
pub is_front-nil : (xs : List Completion) → 0 < length xs → is_front xs [] ≡ false
is_front-nil [] h = absurd (omega arith)
is_front-nil (x ∷ xs) h = refl
