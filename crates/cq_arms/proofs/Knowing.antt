-- What an armer that knows less may do, its side may do, and then it still knows less.
use Rattle.std.proofs.Common.{◌≡◌, inl, inr, refl, sym, ◌∙◌, subst, Option}
use Rattle.bus_core.specs.declared.operation.BusEntry.{BusEntry}
use Rattle.cq_arms.specs.declared.arm_word.Arm.{Arm}
use Rattle.cq_arms.specs.declared.place.ArmPlace.{ArmPlace}
use Rattle.cq_arms.specs.Mark.{ArmMark, LoadNumber}
use Rattle.cq_arms.specs.Armer.{Armer, Ready, MayArm, after_arm, arm_says, KnowsLess}

-- one operation of the armer's side, as a machine with this much knowledge sees it and as its list tells it
pub record DoesMore (place : ArmPlace) (k a : Armer) (mark : ArmMark) (e : BusEntry) : Type 0 where
  pub may : MayArm place a mark e
  pub less : KnowsLess (after_arm k mark e) (after_arm a mark e)
  pub says : arm_says a mark ≡ arm_says k mark

pub KnowsLess_refl : (a : Armer) → KnowsLess a a
KnowsLess_refl a = record { last = refl; stage = inl refl }

pub KnowsLess_trans : (j k a : Armer) → KnowsLess j k → KnowsLess k a → KnowsLess j a
KnowsLess_trans j k a h g = record {
  last = h.last ∙ g.last;
  stage = elim h.stage [
    | inl same ↦ elim g.stage [ inl again ↦ inl (same ∙ again) | inr ready ↦ inr (same ∙ ready) ]
    | inr ready ↦ inr ready
  ];
}

armer_equal : (k a : Armer) → k.last ≡ a.last → k.stage ≡ a.stage → k ≡ a
armer_equal k a l s = λ i. record { last = l i; stage = s i }

-- where both are at the same stage they are the same
same_more : (place : ArmPlace) (k a : Armer) (mark : ArmMark) (e : BusEntry) → k.last ≡ a.last → k.stage ≡ a.stage → MayArm place k mark e → DoesMore place k a mark e
same_more place k a mark e last stage may = subst (λ (x : Armer). DoesMore place k x mark e) (armer_equal k a last stage) (record { may = may; less = KnowsLess_refl (after_arm k mark e); says = refl })

-- an armer that is ready may only load the number
ready_loads : (place : ArmPlace) (last : Option Arm) (a : Armer) (mark : ArmMark) (e : BusEntry) → last ≡ a.last → MayArm place (record { last = last; stage = Ready }) mark e → DoesMore place (record { last = last; stage = Ready }) a mark e
ready_loads place last a LoadNumber e same may = record { may = may; less = record { last = same; stage = inl refl }; says = refl }
ready_loads place last a _ e same may = absurd may

pub does_more : (place : ArmPlace) (k a : Armer) (mark : ArmMark) (e : BusEntry) → KnowsLess k a → MayArm place k mark e → DoesMore place k a mark e
does_more place k a mark e h may = elim h.stage [
  | inl same ↦ same_more place k a mark e h.last same may
  | inr ready ↦
      let is : k ≡ record { last = k.last; stage = Ready } = armer_equal k (record { last = k.last; stage = Ready }) refl ready in
      subst (λ (x : Armer). DoesMore place x a mark e) (sym is) (ready_loads place k.last a mark e h.last (subst (λ (x : Armer). MayArm place x mark e) is may))
]
