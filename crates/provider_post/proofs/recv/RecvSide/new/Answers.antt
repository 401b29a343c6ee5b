use Rattle.std.proofs.Common.{◌≡◌, ◌≤◌, ℕ, ap, sym, ◌∙◌, subst}
use Rattle.counted_ring.specs.declared.place.WqPlace.{WqPlace}
use Rattle.counted_ring.specs.Place.{is_send}
use Rattle.object_places.specs.Places.{qp_line}
use Rattle.object_places.proofs.Strides.{stride_short}
use Rattle.provider_post.specs.Side.{PostView}
use Rattle.provider_post.proofs.recv.RecvSide.new.Goals as goal

pub invariant_of-result : goal.invariant_of-result
invariant_of-result c =
    let place : c.new.result.poster.place ≡ c.receive_place-place.result = ap (λ (v : PostView). v.poster.place) c.new.ensures in
    record {
      number = c.args.object;
      queue = ap (λ (v : PostView). v.queue) c.new.ensures;
      register = ap is_send (place ∙ c.receive_place-place.ensures.place);
      stride_is = ap (λ (p : WqPlace). p.stride) place;
      few = subst (λ (n : ℕ). n ≤ 16) (sym (ap (λ (p : WqPlace). p.stride) c.receive_place-place.ensures.place)) (stride_short (qp_line c.args.d.now c.args.object).segments).few;
    }
