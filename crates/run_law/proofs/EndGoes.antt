-- A thread's last operation: it sets its bit in the word of ended actors.
use Rattle.std.proofs.Common.{◌≡◌, ℕ, suc, refl, sym, ap, subst, ◌∙◌, List}
use Rattle.std.proofs.lemmas.Bool.{both_ways}
use Rattle.bus_core.specs.Mark.{Marked}
use Rattle.bus_core.specs.Trace.{Memory, after_entry}
use Rattle.bus_core.proofs.Words.{elsewhere}
use Rattle.verbs_types.specs.declared.call.Call.{Call}
use Rattle.verbs_types.specs.declared.declaration.Lines.{Lines}
use Rattle.verbs_rules.specs.Within.{Bounds}
use Rattle.verbs_rules.specs.Running.{Running}
use Rattle.object_places.specs.Objects.{Mark, touches}
use Rattle.actor_rules.specs.Owners.{poster_of, poller_of}
use Rattle.actor_rules.specs.Thread.{Thread}
use Rattle.actor_rules.specs.Calls.{MayEnd, ended}
use Rattle.actor_rules.specs.Actors.{Actors}
use Rattle.actor_rules.specs.Family.{put_number}
use Rattle.actor_rules.proofs.Frame.{frame_elsewhere}
use Rattle.actor_rules.proofs.Threads.{threads_now}
use Rattle.actor_rules.specs.Holding.{Holds, StandsIn, IsMapped}
use Rattle.actor_rules.specs.View.{View, view, post_written, poll_given}
use Rattle.actor_rules.proofs.Seen.{seen_kept}

module _ (d : Lines) (programs : List (List Call)) (total : Bounds) (w : Actors) (t : ℕ) where
  abbrev last : Thread
  last = ended (w.threads (suc t))

  -- all actors after the thread has ended
  abbrev now : Actors
  now = record { adapter = w.adapter; threads = put_number w.threads (suc t) last; posted = w.posted }

  -- the bit is nothing that another sees
  same_view : view programs now ≡ view programs w
  same_view = λ i. record {
    posters = seen_kept (poster_of programs) (λ queue s. s.posters queue) w.threads (suc t) last (λ queue. refl) i;
    written = seen_kept (poster_of programs) post_written w.threads (suc t) last (λ queue. refl) i;
    told = w.posted;
    polls = seen_kept (poller_of programs) (λ cq s. s.polls cq) w.threads (suc t) last (λ cq. refl) i;
    given = seen_kept (poller_of programs) poll_given w.threads (suc t) last (λ cq. refl) i;
    readers = w.adapter.readers;
    devices = w.adapter.queues;
    taken = w.adapter.taken;
  }

  pub end_goes : IsMapped d → (m : Memory) (r : Running) (x : Marked Mark) → Holds d programs total m w r → MayEnd (w.threads (suc t)) (suc t) x → Holds d programs total (after_entry m x.entry) now r
  end_goes map m r x holds may =
      let b = holds.stands.bare in
      let old = b.threads t in record {
        dues = holds.dues;
        owed = holds.owed;
        stands = subst (λ (s : View). StandsIn d programs total (after_entry m x.entry) s now.threads w.adapter r.verbs holds.dues) (sym same_view) (record {
          lists = holds.stands.lists;
          bare = record {
            objects = frame_elsewhere d map m (after_entry m x.entry) (view programs w) holds.stands.lists (λ p lives a inside. elsewhere m x.entry a (λ same. both_ways (touches d p a) (ap (touches d p) (sym same ∙ may.sets.at_address) ∙ (map.placed d p map.declared lives).ended) inside)) b.objects;
            state = b.state;
            threads = threads_now d programs w.threads t last holds.dues holds.dues (λ k differ. refl) (record { dues = old.dues; calls = old.calls; work = old.work }) b.threads;
            sound = b.sound;
          };
          work = holds.stands.work;
        });
      }
