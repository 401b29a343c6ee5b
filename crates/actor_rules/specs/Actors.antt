-- All actors: what each knows, its rule over its own operations, and what its marked operations say.
use Rattle.std.specs.Prelude.{ℕ, zero, suc, ◌≡◌, ◌-◌, ◌++◌, List, [], Option, Some, option_map, slice_get, unwrap_or}
use Rattle.bus_core.specs.Mark.{Marked}
use Rattle.verbs_types.specs.declared.call.Call.{Call}
use Rattle.verbs_types.specs.declared.completion.Queue.{Queue}
use Rattle.verbs_types.specs.declared.completion.Queue.TheVariants.{Send}
use Rattle.verbs_types.specs.declared.declaration.Lines.{Lines}
use Rattle.verbs_types.specs.declared.entry.Entry.{Entry}
use Rattle.verbs_types.specs.declared.entry.What.{What}
use Rattle.verbs_types.specs.declared.entry.What.TheVariants.{Post, Fetch, Publish}
use Rattle.verbs_types.specs.declared.request.Item.{Item}
use Rattle.verbs_types.specs.declared.request.Item.TheVariants.{Request as TheRequest, Receive as TheReceive}
use Rattle.verbs_rules.specs.Family.{put}
use Rattle.verbs_rules.specs.Same.{same_queue}
use Rattle.actor_map.specs.Notes.{Told, with_seen}
use Rattle.object_places.specs.Objects.{Mark}
use Rattle.provider_poll.specs.Completion.{completion_of}
use Rattle.device_engine.specs.State.{AdapterRule, fresh_adapter}
use Rattle.device_engine.specs.Event.{AdapterEvent, Fetched, Published}
use Rattle.device_engine.specs.Rule.{adapter_mark, MayAdapt, after_adapt, adapter_says, adapter_sees}
use Rattle.actor_rules.specs.Thread.{Thread, fresh_thread}
use Rattle.actor_rules.specs.Calls.{after_thread, thread_says, thread_sees}
use Rattle.actor_rules.specs.Family.{put_number}

pub record Actors : Type 0 where
  pub adapter : AdapterRule
  pub threads : ℕ → Thread
  -- all that was posted on each queue, in order
  pub posted : Queue → List Item

abbrev pub fresh_actors : Lines → List (List Call) → Actors
fresh_actors d programs = record { adapter = fresh_adapter d; threads = fresh_thread d programs; posted = λ queue. [] }

pub record MayAdapter (d : Lines) (s : AdapterRule) (x : Marked Mark) : Type 0 where
  pub mark_is : x.mark ≡ adapter_mark d s
  pub goes_on : MayAdapt d s x.entry

-- the id that stands in the queue for the request of this number, counted from 1
abbrev pub id_of : Item → ℕ
id_of (TheRequest r) = r.id
id_of (TheReceive r) = r.id

abbrev pub id_in : List Item → ℕ → ℕ
id_in items number = unwrap_or (option_map id_of (slice_get items (number - 1))) 0

-- a published completion is that of its words, with the id that was stored for its request
abbrev pub adapter_entry : (Queue → List Item) → AdapterEvent → What
adapter_entry posted (Fetched qp number) = Fetch (Send qp) number
adapter_entry posted (Published cq completion number index) = Publish cq (completion_of completion (id_in (posted (Send completion.qpn)) number))

-- what a marked operation says
abbrev pub what_of : Lines → Actors → ℕ → Marked Mark → Option What
what_of d w zero x = option_map (adapter_entry w.posted) (adapter_says d w.adapter x.entry)
what_of d w (suc t) x = thread_says d (w.threads (suc t)) x

abbrev pub by : ℕ → What → Entry
by actor what = record { actor = actor; what = what }

abbrev pub says : Lines → Actors → Marked Mark → Option Entry
says d w x = option_map (by x.entry.actor) (what_of d w x.entry.actor x)

-- the count of another actor that its actor has seen by then
abbrev pub sees_of : Lines → Actors → ℕ → Marked Mark → ℕ
sees_of d w zero x = adapter_sees w.adapter x.entry
sees_of d w (suc t) x = thread_sees d (w.threads (suc t)) x

-- what it says, with what was seen
abbrev pub tells : Lines → Actors → Marked Mark → Option Told
tells d w x = option_map (with_seen (sees_of d w x.entry.actor x)) (says d w x)

abbrev pub posted_with : (Queue → List Item) → Option What → Queue → List Item
posted_with posted (Some (Post queue items)) = put same_queue posted queue (posted queue ++ items)
posted_with posted _ = posted

abbrev pub after_by : Lines → Actors → ℕ → Marked Mark → Actors
after_by d w zero x = record w { adapter = after_adapt d w.adapter x.entry }
after_by d w (suc t) x = record {
  adapter = w.adapter;
  threads = put_number w.threads (suc t) (after_thread d (w.threads (suc t)) x);
  posted = posted_with w.posted (what_of d w (suc t) x);
}

abbrev pub after : Lines → Actors → Marked Mark → Actors
after d w x = after_by d w x.entry.actor x
