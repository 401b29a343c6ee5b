-- What a poster or a freer may do that has dropped what was under way, the one of its list may do.
use Rattle.std.proofs.Common.{◌≡◌, ℕ, ◌+◌, inl, inr, refl, sym, ◌∙◌, subst, None}
use Rattle.bus_core.specs.declared.operation.BusEntry.{BusEntry}
use Rattle.bus_core.specs.Operation.{IsStore}
use Rattle.srq_list.specs.declared.place.SrqPlace.{SrqPlace}
use Rattle.srq_list.specs.Place.{next_at, link_word, record_of}
use Rattle.srq_list.specs.Mark.{SrqMark, Begin, Fill, Ring, Lookup, Link, Free, Take, Foreign}
use Rattle.srq_list.specs.Poster.{Poster, Stage, IsBehind, MayFill, MayPost, after_fill, after_post, post_says, dropped, PostsLess}
use Rattle.srq_list.specs.Freer.{Freer, MayServe, after_serve, FreesLess}

-- one operation of a poster, as a machine with this much knowledge sees it and as its list tells it
pub record PostsMore (place : SrqPlace) (start : ℕ) (k p : Poster) (mark : SrqMark) (e : BusEntry) : Type 0 where
  pub may : MayPost place start p mark e
  pub less : PostsLess (after_post place k mark e) (after_post place p mark e)
  pub says : post_says p mark e ≡ post_says k mark e

pub PostsLess_refl : (p : Poster) → PostsLess p p
PostsLess_refl p = record { rung = refl; first = refl; rest = inl (refl, refl, refl) }

pub drops_posts : (k p : Poster) → PostsLess k p → PostsLess (dropped k) p
drops_posts k p h = record { rung = h.rung; first = h.first; rest = inr (refl, h.first, refl) }

behind : (k p : Poster) (pending slot : ℕ) → PostsLess k p → IsBehind k pending slot → IsBehind p pending slot
behind k p pending slot h b = elim b [
  | inl all ↦ elim h.rest [
    | inl same ↦ inl (all.0 ∙ same.0, all.1 ∙ same.1)
    | inr less ↦ inr (all.0 ∙ less.0, all.1 ∙ less.1)
  ]
  | inr none ↦ inr (none.0, none.1 ∙ h.first)
]

fills_more : (place : SrqPlace) (start : ℕ) (k p : Poster) (e : BusEntry) → PostsLess k p → MayFill place k k.stage e → PostsMore place start k p Fill e
fills_more place start k p e h may = elim h.rest [
  | inl same ↦
      let is : k ≡ p = λ i. record { rung = h.rung i; first = h.first i; written = same.0 i; head = same.1 i; stage = same.2 i } in
      subst (λ (x : Poster). PostsMore place start k x Fill e) is (record { may = may; less = PostsLess_refl (after_fill place k k.stage e); says = refl })
  | inr less ↦ absurd (subst (λ (stage : Stage). MayFill place k stage e) less.2 may)
]

pub posts_more : (place : SrqPlace) (start : ℕ) (k p : Poster) (mark : SrqMark) (e : BusEntry) → PostsLess k p → MayPost place start k mark e → PostsMore place start k p mark e
posts_more place start k p (Begin pending slot) e h may = record {
  may = record { behind = behind k p pending slot h may.behind; load = may.load };
  less = record { rung = h.rung; first = h.first; rest = inl (refl, refl, refl) };
  says = refl;
}
posts_more place start k p Fill e h may = fills_more place start k p e h may
posts_more place start k p (Ring pending slot) e h may = record {
  may = record { behind = behind k p pending slot h may.behind; store = subst (λ (n : ℕ). IsStore place.dbr (record_of start (n + pending)) e) h.rung may.store };
  less = record { rung = λ i. h.rung i + pending; first = refl; rest = inl (refl, refl, refl) };
  says = refl;
}
posts_more place start k p (Lookup slot) e h may = absurd may
posts_more place start k p (Link slot) e h may = absurd may
posts_more place start k p (Free slot) e h may = absurd may
posts_more place start k p Take e h may = absurd may
posts_more place start k p Foreign e h may = absurd may

-- the same of a freer; what it says its mark and its operation tell
pub record FreesMore (place : SrqPlace) (k f : Freer) (mark : SrqMark) (e : BusEntry) : Type 0 where
  pub may : MayServe place f mark e
  pub less : FreesLess (after_serve k mark) (after_serve f mark)

pub FreesLess_refl : (f : Freer) → FreesLess f f
FreesLess_refl f = record { tail = refl; linked = inl refl }

pub drops_free : (k f : Freer) → FreesLess k f → FreesLess (record { tail = k.tail; linked = None }) f
drops_free k f h = record { tail = h.tail; linked = inr refl }

pub frees_more : (place : SrqPlace) (k f : Freer) (mark : SrqMark) (e : BusEntry) → FreesLess k f → MayServe place k mark e → FreesMore place k f mark e
frees_more place k f (Lookup slot) e h may = record { may = may; less = h }
frees_more place k f (Link slot) e h may = record { may = subst (λ (n : ℕ). IsStore (next_at place n) (link_word slot) e) h.tail may; less = record { tail = h.tail; linked = inl refl } }
frees_more place k f (Free slot) e h may = record {
  may = record { linked = elim h.linked [ inl same ↦ sym same ∙ may.linked | inr none ↦ let no : ⊥ = cc (none, may.linked) in absurd no ]; store = may.store };
  less = record { tail = refl; linked = inl refl };
}
frees_more place k f (Begin pending slot) e h may = absurd may
frees_more place k f Fill e h may = absurd may
frees_more place k f (Ring pending slot) e h may = absurd may
frees_more place k f Take e h may = absurd may
frees_more place k f Foreign e h may = absurd may
