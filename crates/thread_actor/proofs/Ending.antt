-- The last turn of a thread.
use Rattle.std.proofs.Common.{◌≡◌, ℕ, zero, suc, ◌<◌, ◌^◌, arith, refl, sym, ap, subst, true, false, List, [], ◌∷◌, drop, slice_get, None, is_some}
use Rattle.std.proofs.lemmas.Bool.{false≢true}
use Rattle.bus_core.specs.declared.operation.BusEntry.{BusEntry}
use Rattle.bus_core.specs.Operation.{IsSetBits}
use Rattle.verbs_types.specs.declared.call.Call.{Call}
use Rattle.verbs_types.specs.declared.declaration.Lines.{Lines}
use Rattle.verbs_rules.specs.Shape.{Shape, Posts, Takes, shape_of}
use Rattle.actor_map.specs.Sizes.{words_of}
use Rattle.object_places.specs.declared.ended.TheConstants.{ENDED_WORD}
use Rattle.object_places.specs.Objects.{Ends}
use Rattle.actor_rules.specs.Calls.{MayCall, after_call, call_says, call_sees}
use Rattle.thread_actor.specs.Stands.{IsThread, IsAtWork, IsWorkIn}
use Rattle.thread_actor.specs.Turn.{IsNoteOf, marked}
use Rattle.thread_actor.specs.View.{ThreadView, thread_of, calls_left, left_of}
use Rattle.thread_actor.proofs.PostTurns.{Goes}
use Rattle.thread_actor.proofs.Rising.{weaken_poster, weaken_host}

drop_past : {X : Type 0} (xs : List X) (k : ℕ) → slice_get xs k ≡ None → drop k xs ≡ []
drop_past [] zero past = refl
drop_past [] (suc k) past = refl
drop_past (x ∷ xs) zero past = absurd (false≢true (sym (ap is_some past)))
drop_past (x ∷ xs) (suc k) past = drop_past xs k past

-- the word of actors that ended is one of the words of objects
pub ended_low : (d : Lines) → ENDED_WORD < words_of d
ended_low d = omega arith

abbrev pub ended : ThreadView → ThreadView
ended v = record { lines = v.lines; number = v.number; program = v.program; finished = v.finished; taken = v.taken; given = v.given; sides = v.sides; ended = true }

pub end_goes : (v : ThreadView) (e : BusEntry) → IsThread v → v.ended ≡ false → slice_get v.program v.finished ≡ None → IsSetBits ENDED_WORD (2 ^ v.number) e → Goes v (ended v) e None
end_goes v e stands going past sets = record {
  turn = record {
    mark = Ends;
    may = subst (λ (calls : List Call). MayCall v.lines (thread_of v) v.number calls (marked e Ends)) (sym left) (record { going = going; mark_is = refl; sets = sets });
    goes = ap (λ (calls : List Call). after_call v.lines (thread_of v) calls (marked e Ends)) (sym left);
    noted = subst (λ (calls : List Call). IsNoteOf (call_says v.lines (thread_of v) calls (marked e Ends)) (call_sees v.lines (thread_of v) calls (marked e Ends)) None) (sym left) refl;
    inside = subst (λ (a : ℕ). a < words_of v.lines) (sym sets.at_address) (ended_low v.lines);
    same = record { lines = refl; number = refl; program = refl };
    rises = λ most below. record {
      posters = λ queue. weaken_poster most ((thread_of v).posters queue) (below.posters queue);
      polls = λ cq. weaken_host most ((thread_of v).polls cq).host (below.polls cq);
    };
  };
  stands = record {
    declared = stands.declared;
    some = stands.some;
    most = stands.most;
    few = stands.few;
    finished = stands.finished;
    calls = stands.calls;
    sides = stands.sides;
    posts = stands.posts;
    polls = stands.polls;
    others = stands.others;
    work = work (calls_left v) stands.work;
  };
  finished = omega arith;
} where
  left : calls_left v ≡ []
  left = ap (left_of v.taken) (drop_past v.program v.finished past)

  work_in : (shape : Shape) → IsWorkIn v shape → IsWorkIn (ended v) shape
  work_in (Posts queue items) h = record { side = h.side; given = h.given }
  work_in (Takes cq taking) h = h

  work : (calls : List Call) → IsAtWork v calls → IsAtWork (ended v) calls
  work [] h = h
  work (call ∷ rest) h = work_in (shape_of call) h
