-- The lines of threads and of the plan, as they are printed.
use Rattle.std.proofs.Common.{◌≡◌, ℕ, List, [], ◌∷◌, ◌++◌, append-nil, append_assoc, map, codes, length, refl, sym, ap, ap₂, ◌∙◌, arith}
use Rattle.std.specs.List.{flat_map}
use Rattle.std.proofs.lemmas.Grind.{flat_map-append}
use Rattle.std.proofs.lemmas.List.Concat.{flat_map-cons}
use Rattle.std.proofs.lemmas.List.{length_push, map-append}
use Rattle.verbs_types.specs.declared.call.Call.{Call}
use Rattle.verbs_types.specs.declared.call.Call.TheVariants.{Post, Recv}
use Rattle.verbs_types.specs.declared.declaration.Lines.{Lines}
use Rattle.verbs_types.specs.declared.request.Receive.{Receive}
use Rattle.verbs_types.specs.declared.request.Request.{Request}
use Rattle.scenario_text.specs.Heads.{qp_name}
use Rattle.scenario_text.specs.Printing.{ended}
use Rattle.scenario_text.specs.Requests.{line, request_fields, receive_fields}
use Rattle.scenario_text.specs.Spelling.{call_lines, end_line, plan_lines, thread_line, thread_lines, threads_lines}
use Rattle.scenario_text.specs.Text.{split}
use Rattle.scenario_text.specs.declared.scenario.Plan.{Plan}
use Rattle.scenario_text.specs.declared.scenario.Plan.TheVariants.{Idle}
use Rattle.scenario_text.proofs.Declaring.{with_thread}
use Rattle.scenario_text.proofs.Printed.{line_printed}
use Rattle.scenario_text.proofs.Repeating.{Extends, extends_thread}

-- one thread more, with its calls
threads_push : (e : Lines) (names : List (List ℕ)) (programs : List (List Call)) (name : List ℕ) (calls : List Call) → length names ≡ length programs
    → threads_lines e (names ++ name ∷ []) (programs ++ calls ∷ []) ≡ threads_lines e names programs ++ thread_lines e name calls
threads_push e [] [] name calls paired = append-nil (thread_lines e name calls)
threads_push e [] (calls' ∷ programs) name calls paired = absurd (omega (arith, paired))
threads_push e (n ∷ names) [] name calls paired = absurd (omega (arith, paired))
threads_push e (n ∷ names) (cs ∷ programs) name calls paired =
    ap (λ rest. thread_lines e n cs ++ rest) (threads_push e names programs name calls (omega (arith, paired)))
    ∙ sym (append_assoc (thread_lines e n cs) (threads_lines e names programs) (thread_lines e name calls))

-- one line more
flat_push : (lines : List (List (List ℕ))) (fields : List (List ℕ)) (bytes : List ℕ) → fields ≡ split 32 bytes → flat_map line (lines ++ fields ∷ []) ≡ flat_map line lines ++ ended bytes
flat_push lines fields bytes is =
    flat_map-append line lines (fields ∷ []) ∙ ap (λ text. flat_map line lines ++ text) (flat_map-cons line fields [] ∙ append-nil (line fields) ∙ ap line is ∙ line_printed bytes)

-- all threads so far have ended
pub record Closed (d : Lines) (programs : List (List Call)) (plan : Plan) (rest : List ℕ) : Type 0 where
  pub paired : length d.threads ≡ length programs
  pub printed : (e : Lines) → Extends d e → flat_map line (threads_lines e d.threads programs) ++ flat_map line (plan_lines e plan) ≡ rest

-- the last thread has not ended
pub record Open (d : Lines) (programs : List (List Call)) (calls : List Call) (rest : List ℕ) : Type 0 where
  pub front : List (List ℕ)
  pub name : List ℕ
  pub is : d.threads ≡ front ++ name ∷ []
  pub paired : length front ≡ length programs
  pub printed : (e : Lines) → Extends d e → flat_map line (threads_lines e front programs ++ thread_line name ∷ flat_map (call_lines e) calls) ≡ rest

-- a thread begins
pub begin_thread : (d : Lines) (programs : List (List Call)) (plan : Plan) (name bytes rest : List ℕ) → plan ≡ Idle → thread_line name ≡ split 32 bytes → Closed d programs plan rest
    → Open (with_thread d name) programs [] (rest ++ ended bytes)
begin_thread d programs plan name bytes rest idle is h = record {
  front = d.threads;
  name = name;
  is = refl;
  paired = h.paired;
  printed = λ e more.
      flat_push (threads_lines e d.threads programs) (thread_line name) bytes is
      ∙ ap (λ text. text ++ ended bytes)
      (sym (append-nil (flat_map line (threads_lines e d.threads programs))) ∙ ap (λ p. flat_map line (threads_lines e d.threads programs) ++ flat_map line (plan_lines e p)) (sym idle)
      ∙ h.printed e (extends_thread d e name more));
}

-- it ends
pub end_thread : (d : Lines) (programs : List (List Call)) (plan : Plan) (calls : List Call) (bytes rest : List ℕ) → plan ≡ Idle → end_line ≡ split 32 bytes → Open d programs calls rest
    → Closed d (programs ++ calls ∷ []) plan (rest ++ ended bytes)
end_thread d programs plan calls bytes rest idle is h = record {
  paired = omega (arith, h.paired, ap (λ (names : List (List ℕ)). length names) h.is, length_push h.front h.name, length_push programs calls);
  printed = λ e more.
      ap (λ p. flat_map line (threads_lines e d.threads (programs ++ calls ∷ [])) ++ flat_map line (plan_lines e p)) idle
      ∙ append-nil (flat_map line (threads_lines e d.threads (programs ++ calls ∷ [])))
      ∙ ap (flat_map line)
      (ap (λ (names : List (List ℕ)). threads_lines e names (programs ++ calls ∷ [])) h.is ∙ threads_push e h.front programs h.name calls h.paired
      ∙ sym (append_assoc (threads_lines e h.front programs) (thread_line h.name ∷ flat_map (call_lines e) calls) (end_line ∷ [])))
      ∙ flat_push (threads_lines e h.front programs ++ thread_line h.name ∷ flat_map (call_lines e) calls) end_line bytes is ∙ ap (λ text. text ++ ended bytes) (h.printed e more);
}

-- one line more of its calls
pub more_calls : (d : Lines) (programs : List (List Call)) (calls now : List Call) (bytes rest : List ℕ)
    → ((e : Lines) → Extends d e → flat_map (call_lines e) now ≡ flat_map (call_lines e) calls ++ split 32 bytes ∷ []) → Open d programs calls rest → Open d programs now (rest ++ ended bytes)
more_calls d programs calls now bytes rest one h = record {
  front = h.front;
  name = h.name;
  is = h.is;
  paired = h.paired;
  printed = λ e more.
      ap (λ (lines : List (List (List ℕ))). flat_map line (threads_lines e h.front programs ++ thread_line h.name ∷ lines)) (one e more)
      ∙ ap (flat_map line) (sym (append_assoc (threads_lines e h.front programs) (thread_line h.name ∷ flat_map (call_lines e) calls) (split 32 bytes ∷ [])))
      ∙ flat_push (threads_lines e h.front programs ++ thread_line h.name ∷ flat_map (call_lines e) calls) (split 32 bytes) bytes refl ∙ ap (λ text. text ++ ended bytes) (h.printed e more);
}

-- a call of one line
pub call_push : (e : Lines) (calls : List Call) (call : Call) (fields : List (List ℕ)) → call_lines e call ≡ fields ∷ [] → flat_map (call_lines e) (calls ++ call ∷ []) ≡ flat_map (call_lines e) calls ++ fields ∷ []
call_push e calls call fields is =
    flat_map-append (call_lines e) calls (call ∷ [])
    ∙ ap (λ (lines : List (List (List ℕ))). flat_map (call_lines e) calls ++ lines) (flat_map-cons (call_lines e) call [] ∙ append-nil (call_lines e call) ∙ is)

-- a call with a line more
call_longer : (e : Lines) (calls : List Call) (before now : Call) (fields : List (List ℕ)) → call_lines e now ≡ call_lines e before ++ fields ∷ []
    → flat_map (call_lines e) (calls ++ now ∷ []) ≡ flat_map (call_lines e) (calls ++ before ∷ []) ++ fields ∷ []
call_longer e calls before now fields is =
    flat_map-append (call_lines e) calls (now ∷ [])
    ∙ ap (λ (lines : List (List (List ℕ))). flat_map (call_lines e) calls ++ lines) (flat_map-cons (call_lines e) now [] ∙ append-nil (call_lines e now) ∙ is)
    ∙ sym (append_assoc (flat_map (call_lines e) calls) (call_lines e before) (fields ∷ []))
    ∙ ap (λ (lines : List (List (List ℕ))). lines ++ fields ∷ [])
    (sym (flat_map-append (call_lines e) calls (before ∷ [])
    ∙ ap (λ (lines : List (List (List ℕ))). flat_map (call_lines e) calls ++ lines) (flat_map-cons (call_lines e) before [] ∙ append-nil (call_lines e before))))

pub post_longer : (e : Lines) (calls : List Call) (qp : ℕ) (requests : List Request) (r : Request) (fields : List (List ℕ)) → request_fields r ≡ fields
    → flat_map (call_lines e) (calls ++ Post qp (requests ++ r ∷ []) ∷ []) ≡ flat_map (call_lines e) (calls ++ Post qp requests ∷ []) ++ fields ∷ []
post_longer e calls qp requests r fields is =
    call_longer e calls (Post qp requests) (Post qp (requests ++ r ∷ [])) fields
    (ap (λ (lines : List (List (List ℕ))). (codes "post" ∷ qp_name e qp ∷ []) ∷ lines) (map-append request_fields requests (r ∷ []) ∙ ap (λ (f : List (List ℕ)). map request_fields requests ++ f ∷ []) is))

pub recv_longer : (e : Lines) (calls : List Call) (qp : ℕ) (receives : List Receive) (r : Receive) (fields : List (List ℕ)) → receive_fields r ≡ fields
    → flat_map (call_lines e) (calls ++ Recv qp (receives ++ r ∷ []) ∷ []) ≡ flat_map (call_lines e) (calls ++ Recv qp receives ∷ []) ++ fields ∷ []
recv_longer e calls qp receives r fields is =
    call_longer e calls (Recv qp receives) (Recv qp (receives ++ r ∷ [])) fields
    (ap (λ (lines : List (List (List ℕ))). (codes "recv" ∷ qp_name e qp ∷ []) ∷ lines) (map-append receive_fields receives (r ∷ []) ∙ ap (λ (f : List (List ℕ)). map receive_fields receives ++ f ∷ []) is))

-- the plan, after all threads
pub plan_closed : (d : Lines) (programs : List (List Call)) (before plan : Plan) (bytes rest : List ℕ) → before ≡ Idle → ((e : Lines) → Extends d e → plan_lines e plan ≡ split 32 bytes ∷ [])
    → Closed d programs before rest → Closed d programs plan (rest ++ ended bytes)
plan_closed d programs before plan bytes rest idle one h = record {
  paired = h.paired;
  printed = λ e more.
      ap₂ (λ text lines. text ++ flat_map line lines)
      (sym (append-nil (flat_map line (threads_lines e d.threads programs))) ∙ ap (λ p. flat_map line (threads_lines e d.threads programs) ++ flat_map line (plan_lines e p)) (sym idle) ∙ h.printed e more)
      (one e more)
      ∙ ap (λ text. rest ++ text) (flat_map-cons line (split 32 bytes) [] ∙ append-nil (line (split 32 bytes)) ∙ line_printed bytes);
}
