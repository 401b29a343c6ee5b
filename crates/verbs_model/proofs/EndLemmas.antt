-- Lists of kept queues of which one is changed.
use Rattle.std.proofs.Common.{◌≡◌, ℕ, ◌+◌, ◌<◌, ◌≤◌, ◌⊎◌, inl, inr, sym, ap, ◌∙◌, subst, List, length, map, set, get_or, drop, arith, get_or-set_same, get_or-set_other}
use Rattle.std.proofs.lemmas.Bool.{cases_eq}
use Rattle.std.proofs.lemmas.List.{map-set, get_or-map, set-get_or, get_or_default, at_drop_more, get_or-drop, length-drop}
use Rattle.verbs_types.specs.declared.state.Unpolled.{Unpolled}
use Rattle.verbs_model.specs.Held.{Held}
use Rattle.verbs_model.specs.Ends.{no_held, queue_of, HaveRoom, ended}
use Rattle.verbs_rules.specs.OfOne.{WorkQueue}
use Rattle.verbs_model.specs.Queues.{no_queue, with_end}
use Rattle.verbs_model.specs.Tables.{place_of}

module _ (hs : List Held) (place : ℕ) (before later : Held) (read : before ≡ get_or hs place before) where
  -- a queue that is as before
  pub map-set_kept : later.queue ≡ before.queue → map queue_of (set hs place later) ≡ map queue_of hs
  map-set_kept same =
      map-set queue_of hs place later
      ∙ (ap (set (map queue_of hs) place) same
      ∙ (sym (map-set queue_of hs place before)
      ∙ (ap (λ (h : Held). map queue_of (set hs place h)) read ∙ ap (map queue_of) (set-get_or hs place before))))

module _ (hs : List Held) (place : ℕ) (before later : Held) (read : before ≡ get_or hs place before) (inside : place < length hs) where
  -- what stands at a place after the change
  after_set : (p : ℕ) → ((get_or hs p no_held ≡ before) × (get_or (set hs place later) p no_held ≡ later)) ⊎ (get_or (set hs place later) p no_held ≡ get_or hs p no_held)
  after_set p =
      elim (cases_eq p place) [
        | inl same ↦ inl (
          ap (λ (q : ℕ). get_or hs q no_held) same ∙ (get_or_default hs place no_held before inside ∙ sym read),
          ap (λ (q : ℕ). get_or (set hs place later) q no_held) same ∙ get_or-set_same hs place later no_held inside,
        )
        | inr other ↦ inr (get_or-set_other hs place p later no_held other)
      ]

  -- the room after the change, by the room of the one that is changed
  pub room_after : (n m : ℕ) (us : List Unpolled) → HaveRoom hs n us → m ≤ n → (n ≤ before.spare → m ≤ later.spare) → HaveRoom (set hs place later) m us
  room_after n m us room less changed = λ k d l.
      let p = place_of (get_or us k d).completion.queue in
      let was = room k d l in
      elim (after_set p) [
        | inl at_it ↦
            let new = ap (λ (h : Held). h.spare) at_it.1 in
            let old = ap (λ (h : Held). h.spare) at_it.0 in
            let enough = changed (omega arith) in
            omega arith
        | inr beside ↦ let same = ap (λ (h : Held). h.spare) beside in omega arith
      ]

  -- the room at the place that was changed
  pub room_at : (n : ℕ) → n ≤ later.spare → n ≤ (get_or (set hs place later) place no_held).spare
  room_at n enough = let new = ap (λ (h : Held). h.spare) (get_or-set_same hs place later no_held inside) in omega arith

  -- one more end is added
  pub ended_more : (us : List Unpolled) (i : ℕ) (d : Unpolled) → i < length us → place ≡ place_of (get_or us i d).completion.queue → later.queue ≡ with_end before.queue (get_or us i d).number
      → ended (map queue_of (set hs place later)) (drop (i + 1) us) ≡ ended (map queue_of hs) (drop i us)
  ended_more us i d l is_place made =
      let qs = map queue_of hs in
      let u = get_or us i d in
      let was : get_or qs place no_queue ≡ before.queue = get_or-map queue_of hs place before no_queue inside ∙ ap queue_of (sym read) in
      let now : map queue_of (set hs place later) ≡ set qs place (with_end (get_or qs place no_queue) u.number) =
      map-set queue_of hs place later ∙ ap (set qs place) (made ∙ ap (λ (q : WorkQueue). with_end q u.number) (sym was)) in
      let at_place : map queue_of (set hs place later) ≡ set qs (place_of u.completion.queue) (with_end (get_or qs (place_of u.completion.queue) no_queue) u.number) =
      now ∙ ap (λ (p : ℕ). set qs p (with_end (get_or qs p no_queue) u.number)) is_place in
      ap (λ (q : List WorkQueue). ended q (drop (i + 1) us)) at_place ∙ sym (at_drop_more (ended qs) us i d l)

-- the completions after the first
pub room_rest : (hs : List Held) (n : ℕ) (us : List Unpolled) (i : ℕ) → HaveRoom hs n (drop i us) → HaveRoom hs n (drop (i + 1) us)
room_rest hs n us i room = λ k d l.
    let long = length-drop i us in
    let longer = length-drop (i + 1) us in
    let same : get_or (drop (i + 1) us) k d ≡ get_or (drop i us) (k + 1) d =
    get_or-drop (i + 1) us k d ∙ (ap (λ (j : ℕ). get_or us j d) (omega arith) ∙ sym (get_or-drop i us (k + 1) d)) in
    subst (λ (u : Unpolled). n ≤ (get_or hs (place_of u.completion.queue) no_held).spare) (sym same) (room (k + 1) d (omega arith))
