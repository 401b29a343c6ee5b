-- A publication begins.
use Rattle.std.proofs.Common.{◌≡◌, ℕ, ◌<◌, refl, sym, ap, ◌∙◌, subst, arith, Bool, true, false, length, length-set, eq-eqb, if◌then◌else◌, Some, None, slice_get}
use Rattle.std.proofs.lemmas.Option.{slice_get_within}
use Rattle.std.specs.declared.snapshot.Snapshot.{Snapshot}
use Rattle.cqe_format.specs.declared.completion.Cqe.{Cqe}
use Rattle.cq_pair.specs.DeviceView.{DeviceView}
use Rattle.actor_map.specs.Sizes.{words_of}
use Rattle.object_places.specs.Places.{AreWithin}
use Rattle.device_engine.specs.declared.scan.Work.TheVariants as works
use Rattle.device_engine.specs.Scan.{IsQueue, IsScan, IsStanding, Idle}
use Rattle.device_engine.specs.Scan as scan
use Rattle.device_engine.specs.State.{Publishing, working, fresh_adapter}
use Rattle.device_engine.specs.View.{ScanView, rule_of}
use Rattle.device_engine.proofs.Kept.{queue_changed, with_queue_at, rework}
use Rattle.device_engine.proofs.Numbers.{by_same}
use Rattle.device_engine.proofs.Publications.{side_of}

module _ (v : ScanView) (cq : ℕ) (kept : Snapshot Cqe) (completion : Cqe) (q q' : DeviceView) (found : slice_get v.queues cq ≡ Some q) (s : IsScan v Idle)
    (visit : v.visit < length v.pairs) (is : kept.value ≡ completion) (begins : q' ≡ record q { task = Some completion }) where
  abbrev began : ScanView
  began = record (with_queue_at v cq q') { work = works.Publishing cq kept }

  is_queue : IsQueue v.declared cq q'
  is_queue = let was = s.queues cq q found in record { place = ap (λ (x : DeviceView). x.place) begins ∙ was.place; within = subst (λ (x : DeviceView). AreWithin (words_of v.declared) x.place) (sym begins) was.within }

  scan_began : IsScan began (scan.Publishes cq kept.value)
  scan_began =
      rework (with_queue_at v cq q') (works.Publishing cq kept) (scan.Publishes cq kept.value)
      (queue_changed v false true cq kept.value q' s is_queue (ap (λ (x : DeviceView). x.task) begins ∙ (ap Some (sym is) ∙ sym (ap (λ (same : Bool). if same then Some kept.value else None) (eq-eqb cq cq refl)))))

  pub stands_began : IsStanding began
  stands_began = record { scan = scan_began; there = (visit, omega (arith, slice_get_within v.queues cq q found, length-set v.queues cq q')) }

  pub rule_began : rule_of began ≡ working (Publishing cq completion) (rule_of v)
  rule_began = λ i. record {
    visit = (rule_of v).visit;
    at_work = Publishing cq (is i);
    taken = (rule_of v).taken;
    readers = (rule_of v).readers;
    queues = λ n. by_same 0 side_of (fresh_adapter v.declared).queues v.queues cq q q' found (ap side_of begins) n i;
  }
