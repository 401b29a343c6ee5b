-- The users of event queues, protection domains and completion queues after each change of a completion queue or a queue pair.
use Rattle.std.proofs.Common.{◌≡◌, ℕ, ◌+◌, ◌-◌, ◌<◌, ◌≤◌, ◌^◌, refl, ap, sym, subst, ◌∙◌, arith, Bool, true, false, not, ◌||◌, eqb, List, [], ◌∷◌, ◌++◌, length, get_or, set, slice_index, Option, Some, None, slice_index_or}
use Rattle.std.specs.List.{All, list_any}
use Rattle.std.specs.Option.{option_map_or}
use Rattle.std.proofs.lemmas.Bool.{eq-eqb}
use Rattle.std.proofs.lemmas.List.{get_or_default}
use Rattle.std.proofs.lemmas.List.Elements.{All-push, All-set}
use Rattle.device_commands.specs.declared.shapes.CqShape.{CqShape}
use Rattle.device_commands.specs.declared.objects.Pair.{Pair}
use Rattle.device_commands.specs.Users.{one_if, IsOneMore, EqsCounted, PairsCounted, CqUsesCounted, PairUses, QpUsesCounted, eq_uses, cq_uses, pd_uses}
use Rattle.device_commands.proofs.Tally.{any_sum, part_of_sum, tally_push, tally_gone, tally_same, tally_few}

any_one : (b : Bool) → b ≡ not (eqb (one_if b) 0)
any_one true = refl
any_one false = refl

any_two : (a b : Bool) → (a || b) ≡ not (eqb (one_if a + one_if b) 0)
any_two true true = refl
any_two true false = refl
any_two false true = refl
any_two false false = refl

most_one : (b : Bool) → one_if b ≤ 1
most_one true = omega arith
most_one false = omega arith

eq_each : (n : ℕ) (cq : Option CqShape) → option_map_or (λ c. eqb c.eq n) cq false ≡ not (eqb (eq_uses n cq) 0)
eq_each n None = refl
eq_each n (Some c) = any_one (eqb c.eq n)

cq_each : (n : ℕ) (qp : Option Pair) → option_map_or (λ q. eqb q.shape.send_cq n || eqb q.shape.recv_cq n) qp false ≡ not (eqb (cq_uses n qp) 0)
cq_each n None = refl
cq_each n (Some q) = any_two (eqb q.shape.send_cq n) (eqb q.shape.recv_cq n)

pd_each : (n : ℕ) (qp : Option Pair) → option_map_or (λ q. eqb q.shape.pd (1 + n)) qp false ≡ not (eqb (pd_uses n qp) 0)
pd_each n None = refl
pd_each n (Some q) = any_one (eqb q.shape.pd (1 + n))

eq_most : (n : ℕ) (cq : Option CqShape) → eq_uses n cq ≤ 2
eq_most n None = omega arith
eq_most n (Some c) = omega (arith, most_one (eqb c.eq n))

cq_most : (n : ℕ) (qp : Option Pair) → cq_uses n qp ≤ 2
cq_most n None = omega arith
cq_most n (Some q) = omega (arith, most_one (eqb q.shape.send_cq n), most_one (eqb q.shape.recv_cq n))

pd_most : (n : ℕ) (qp : Option Pair) → pd_uses n qp ≤ 2
pd_most n None = omega arith
pd_most n (Some q) = omega (arith, most_one (eqb q.shape.pd (1 + n)))

-- a number of users that was read says whether there is any
read_at : (users : List ℕ) (n value : ℕ) → n < length users → value ≡ slice_index_or users n value → value ≡ slice_index users n
read_at users n value h read = read ∙ get_or_default users n value 0 h

pub eq_used : (users : List ℕ) (cqs : List (Option CqShape)) (n value : ℕ) → EqsCounted users cqs → n < length users → value ≡ slice_index_or users n value
    → not (eqb value 0) ≡ list_any (λ cq. option_map_or (λ c. eqb c.eq n) cq false) cqs
eq_used users cqs n value counted h read =
    ap (λ (k : ℕ). not (eqb k 0)) (read_at users n value h read ∙ counted.tally n h) ∙ sym (any_sum _ (eq_uses n) (eq_each n) cqs)

pub cq_used : (pd_users cq_users : List ℕ) (qps : List (Option Pair)) (n value : ℕ) → PairsCounted pd_users cq_users qps → n < length cq_users → value ≡ slice_index_or cq_users n value
    → not (eqb value 0) ≡ list_any (λ qp. option_map_or (λ q. eqb q.shape.send_cq n || eqb q.shape.recv_cq n) qp false) qps
cq_used pd_users cq_users qps n value counted h read =
    ap (λ (k : ℕ). not (eqb k 0)) (read_at cq_users n value h read ∙ counted.cqs n h) ∙ sym (any_sum _ (cq_uses n) (cq_each n) qps)

pub pd_used : (pd_users cq_users : List ℕ) (qps : List (Option Pair)) (pd n value : ℕ) → PairsCounted pd_users cq_users qps → pd ≡ 1 + n → n < length pd_users → value ≡ slice_index_or pd_users n value
    → not (eqb value 0) ≡ list_any (λ qp. option_map_or (λ q. eqb q.shape.pd pd) qp false) qps
pd_used pd_users cq_users qps pd n value counted is h read =
    ap (λ (k : ℕ). not (eqb k 0)) (read_at pd_users n value h read ∙ counted.pds n h)
    ∙ (sym (any_sum _ (pd_uses n) (pd_each n) qps) ∙ ap (λ (m : ℕ). list_any (λ qp. option_map_or (λ (q : Pair). eqb q.shape.pd m) qp false) qps) (sym is))

-- few users
pub eq_few : (users : List ℕ) (cqs : List (Option CqShape)) (n : ℕ) → EqsCounted users cqs → n < length users → length cqs ≤ 255 → slice_index users n < 2 ^ 32 - 1
eq_few users cqs n counted h few = omega (arith, tally_few users eq_uses cqs n 2 counted.tally h (eq_most n))

pub cq_few : (pd_users cq_users : List ℕ) (qps : List (Option Pair)) (n : ℕ) → PairsCounted pd_users cq_users qps → n < length cq_users → length qps ≤ 255 → slice_index cq_users n < 2 ^ 32 - 2
cq_few pd_users cq_users qps n counted h few = omega (arith, tally_few cq_users cq_uses qps n 2 counted.cqs h (cq_most n))

pub pd_few : (pd_users cq_users : List ℕ) (qps : List (Option Pair)) (n : ℕ) → PairsCounted pd_users cq_users qps → n < length pd_users → length qps ≤ 255 → slice_index pd_users n < 2 ^ 32 - 1
pd_few pd_users cq_users qps n counted h few = omega (arith, tally_few pd_users pd_uses qps n 2 counted.pds h (pd_most n))

-- a completion queue that comes, and one that goes
pub cq_comes : (users later : List ℕ) (cqs : List (Option CqShape)) (new : CqShape) → EqsCounted users cqs → new.eq < length users → length later ≡ length users → IsOneMore users later new.eq
    → EqsCounted later (cqs ++ Some new ∷ [])
cq_comes users later cqs new counted h long more = record {
  tally = tally_push users later eq_uses cqs (Some new) counted.tally long more;
  inside = All-push (CqUsesCounted (length later)) cqs (Some new) (subst (λ (m : ℕ). All (CqUsesCounted m) cqs) (sym long) counted.inside) (omega (arith, h, long));
}

used_inside : (users : List ℕ) (cqs : List (Option CqShape)) (k : ℕ) (gone : CqShape) → EqsCounted users cqs → k < length cqs → get_or cqs k None ≡ Some gone → gone.eq < length users
used_inside users cqs k gone counted h is = subst (CqUsesCounted (length users)) is (counted.inside k None h)

one_here : (n : ℕ) → one_if (eqb n n) ≡ 1
one_here n = rw (eq-eqb n n refl) refl

pub eq_has_user : (users : List ℕ) (cqs : List (Option CqShape)) (k : ℕ) (gone : CqShape) → EqsCounted users cqs → k < length cqs → get_or cqs k None ≡ Some gone
    → (gone.eq < length users) × (0 < slice_index users gone.eq)
eq_has_user users cqs k gone counted h is =
    let inside = used_inside users cqs k gone counted h is in
    let part = part_of_sum (eq_uses gone.eq) cqs k (Some gone) None h is refl in
    (inside, omega (arith, counted.tally gone.eq inside, part, one_here gone.eq))

pub cq_goes : (users later : List ℕ) (cqs : List (Option CqShape)) (k : ℕ) (gone : CqShape) → EqsCounted users cqs → k < length cqs → get_or cqs k None ≡ Some gone → length later ≡ length users → IsOneMore later users gone.eq
    → EqsCounted later (set cqs k None)
cq_goes users later cqs k gone counted h is long less = record {
  tally = tally_gone users later eq_uses cqs k (Some gone) None counted.tally h is (λ n. refl) long (λ n inside. less n (omega (arith, inside, long)));
  inside = All-set (CqUsesCounted (length later)) cqs k None tt (subst (λ (m : ℕ). All (CqUsesCounted m) cqs) (sym long) counted.inside);
}

-- a queue pair that comes, one that goes, and one that moves
same_test : (pd n : ℕ) → 1 ≤ pd → eqb (pd - 1) n ≡ eqb pd (1 + n)
same_test pd n h = grind arith

same_place : (pd n : ℕ) → 1 ≤ pd → one_if (eqb (pd - 1) n) ≡ one_if (eqb pd (1 + n))
same_place pd n h = ap one_if (same_test pd n h)

pub pair_comes : (pd_users pd_later cq_users cq_mid cq_later : List ℕ) (qps : List (Option Pair)) (new : Pair)
    → PairsCounted pd_users cq_users qps → PairUses (length pd_users) (length cq_users) new
    → length pd_later ≡ length pd_users → length cq_mid ≡ length cq_users → length cq_later ≡ length cq_mid
    → IsOneMore pd_users pd_later (new.shape.pd - 1) → IsOneMore cq_users cq_mid new.shape.send_cq → IsOneMore cq_mid cq_later new.shape.recv_cq
    → PairsCounted pd_later cq_later (qps ++ Some new ∷ [])
pair_comes pd_users pd_later cq_users cq_mid cq_later qps new counted uses pd_long mid_long later_long pd send recv = record {
  pds = tally_push pd_users pd_later pd_uses qps (Some new) counted.pds pd_long (λ n h. pd n h ∙ ap (λ (k : ℕ). slice_index pd_users n + k) (same_place new.shape.pd n uses.first));
  cqs = tally_push cq_users cq_later cq_uses qps (Some new) counted.cqs (later_long ∙ mid_long) (λ n h. omega (arith, send n h, recv n (omega (arith, h, mid_long))));
  inside = All-push (QpUsesCounted (length pd_later) (length cq_later)) qps (Some new)
      (subst (λ (m : ℕ). All (QpUsesCounted m (length cq_later)) qps) (sym pd_long) (subst (λ (m : ℕ). All (QpUsesCounted (length pd_users) m) qps) (sym (later_long ∙ mid_long)) counted.inside))
      (record { first = uses.first; pd = omega (arith, uses.pd, pd_long); send = omega (arith, uses.send, later_long, mid_long); recv = omega (arith, uses.recv, later_long, mid_long) });
}

pub pair_inside : (pd_users cq_users : List ℕ) (qps : List (Option Pair)) (k : ℕ) (gone : Pair) → PairsCounted pd_users cq_users qps → k < length qps → get_or qps k None ≡ Some gone → PairUses (length pd_users) (length cq_users) gone
pair_inside pd_users cq_users qps k gone counted h is = subst (QpUsesCounted (length pd_users) (length cq_users)) is (counted.inside k None h)

pub pair_goes : (pd_users pd_later cq_users cq_mid cq_later : List ℕ) (qps : List (Option Pair)) (k : ℕ) (gone : Pair)
    → PairsCounted pd_users cq_users qps → k < length qps → get_or qps k None ≡ Some gone
    → length pd_later ≡ length pd_users → length cq_mid ≡ length cq_users → length cq_later ≡ length cq_mid
    → IsOneMore pd_later pd_users (gone.shape.pd - 1) → IsOneMore cq_mid cq_users gone.shape.send_cq → IsOneMore cq_later cq_mid gone.shape.recv_cq
    → PairsCounted pd_later cq_later (set qps k None)
pair_goes pd_users pd_later cq_users cq_mid cq_later qps k gone counted h is pd_long mid_long later_long pd send recv =
    let uses = pair_inside pd_users cq_users qps k gone counted h is in
    record {
      pds = tally_gone pd_users pd_later pd_uses qps k (Some gone) None counted.pds h is (λ n. refl) pd_long
          (λ n inside. pd n (omega (arith, inside, pd_long)) ∙ ap (λ (m : ℕ). slice_index pd_later n + m) (same_place gone.shape.pd n uses.first));
      cqs = tally_gone cq_users cq_later cq_uses qps k (Some gone) None counted.cqs h is (λ n. refl) (later_long ∙ mid_long)
          (λ n inside. omega (arith, send n (omega (arith, inside, mid_long)), recv n (omega (arith, inside, mid_long, later_long))));
      inside = All-set (QpUsesCounted (length pd_later) (length cq_later)) qps k None tt
          (subst (λ (m : ℕ). All (QpUsesCounted m (length cq_later)) qps) (sym pd_long) (subst (λ (m : ℕ). All (QpUsesCounted (length pd_users) m) qps) (sym (later_long ∙ mid_long)) counted.inside));
    }

pub pair_moves : (pd_users cq_users : List ℕ) (qps : List (Option Pair)) (k : ℕ) (old new : Pair)
    → PairsCounted pd_users cq_users qps → k < length qps → get_or qps k None ≡ Some old → new.shape ≡ old.shape
    → PairsCounted pd_users cq_users (set qps k (Some new))
pair_moves pd_users cq_users qps k old new counted h is same =
    let uses = pair_inside pd_users cq_users qps k old counted h is in
    record {
      pds = tally_same pd_users pd_uses qps k (Some old) (Some new) None counted.pds h is (λ n. ap (λ s. one_if (eqb s.pd (1 + n))) same);
      cqs = tally_same cq_users cq_uses qps k (Some old) (Some new) None counted.cqs h is (λ n. ap (λ s. one_if (eqb s.send_cq n) + one_if (eqb s.recv_cq n)) same);
      inside = All-set (QpUsesCounted (length pd_users) (length cq_users)) qps k (Some new)
          (record { first = rw same uses.first; pd = rw same uses.pd; send = rw same uses.send; recv = rw same uses.recv }) counted.inside;
    }

pub pd_has_user : (pd_users cq_users : List ℕ) (qps : List (Option Pair)) (k : ℕ) (gone : Pair) → PairsCounted pd_users cq_users qps → k < length qps → get_or qps k None ≡ Some gone → 0 < slice_index pd_users (gone.shape.pd - 1)
pd_has_user pd_users cq_users qps k gone counted h is =
    let uses = pair_inside pd_users cq_users qps k gone counted h is in
    let place = gone.shape.pd - 1 in
    let here : place < length pd_users = omega (arith, uses.first, uses.pd) in
    let part = part_of_sum (pd_uses place) qps k (Some gone) None h is refl in
    omega (arith, counted.pds place here, part, sym (same_place gone.shape.pd place uses.first), one_here place)

pub cq_has_users : (pd_users cq_users : List ℕ) (qps : List (Option Pair)) (k n : ℕ) (gone : Pair) → PairsCounted pd_users cq_users qps → k < length qps → get_or qps k None ≡ Some gone → n < length cq_users
    → one_if (eqb gone.shape.send_cq n) + one_if (eqb gone.shape.recv_cq n) ≤ slice_index cq_users n
cq_has_users pd_users cq_users qps k n gone counted h is here =
    omega (arith, counted.cqs n here, part_of_sum (cq_uses n) qps k (Some gone) None h is refl)

pub send_has_user : (pd_users cq_users : List ℕ) (qps : List (Option Pair)) (k : ℕ) (gone : Pair) → PairsCounted pd_users cq_users qps → k < length qps → get_or qps k None ≡ Some gone → 0 < slice_index cq_users gone.shape.send_cq
send_has_user pd_users cq_users qps k gone counted h is =
    let uses = pair_inside pd_users cq_users qps k gone counted h is in
    omega (arith, cq_has_users pd_users cq_users qps k gone.shape.send_cq gone counted h is uses.send, one_here gone.shape.send_cq)

pub recv_has_user : (pd_users cq_users cq_mid : List ℕ) (qps : List (Option Pair)) (k : ℕ) (gone : Pair) → PairsCounted pd_users cq_users qps → k < length qps → get_or qps k None ≡ Some gone
    → length cq_mid ≡ length cq_users → IsOneMore cq_mid cq_users gone.shape.send_cq → 0 < slice_index cq_mid gone.shape.recv_cq
recv_has_user pd_users cq_users cq_mid qps k gone counted h is long less =
    let uses = pair_inside pd_users cq_users qps k gone counted h is in
    let here : gone.shape.recv_cq < length cq_mid = omega (arith, uses.recv, long) in
    omega (arith, cq_has_users pd_users cq_users qps k gone.shape.recv_cq gone counted h is uses.recv, one_here gone.shape.recv_cq, less gone.shape.recv_cq here)

pub one_more_few : (users later : List ℕ) (place n : ℕ) → IsOneMore users later place → n < length users → slice_index users n < 2 ^ 32 - 2 → slice_index later n < 2 ^ 32 - 1
one_more_few users later place n more h few = omega (arith, more n h, most_one (eqb place n))
