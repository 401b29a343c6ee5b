-- What an operation leaves of the plain bus.
use Rattle.std.proofs.Common.{◌≡◌, ◌∙◌, refl, ap, ℕ, ◌-◌, ◌++◌, List, [], ◌∷◌, Some}
use Rattle.bus_core.specs.declared.operation.BusEntry.{BusEntry}
use Rattle.bus_core.specs.Plain.{Plain, port_of}
use Rattle.bus_core.specs.Port.{TraceView, Appends}
use Rattle.world_core.specs.Run.{with_operation}

same_bus : (a b : Plain) → a.actor ≡ b.actor → a.start ≡ b.start → a.trace ≡ b.trace → a.room ≡ b.room → a ≡ b
same_bus a b actor start trace room =
    ap (λ (n : ℕ). record { actor = n; start = a.start; trace = a.trace; room = a.room }) actor
    ∙ ap (λ (ws : List ℕ). record { actor = b.actor; start = ws; trace = a.trace; room = a.room }) start
    ∙ ap (λ (es : List BusEntry). record { actor = b.actor; start = b.start; trace = es; room = a.room }) trace
    ∙ ap (λ (n : ℕ). record { actor = b.actor; start = b.start; trace = b.trace; room = n }) room

pub with_one : (old new : Plain) (actor : ℕ) (e : BusEntry) → Appends (port_of (record { actor = actor; start = old.start; trace = old.trace; room = old.room })) (port_of new) e → new ≡ with_operation old actor e
with_one old new actor e more =
    let told : record { start = new.start; trace = new.trace; base = 0 } ≡ record { start = old.start; trace = old.trace ++ e ∷ []; base = 0 } = cc more.told in
    let room : new.room ≡ old.room - 1 = cc more.room in
    same_bus new (with_operation old actor e) more.actor (ap (λ (t : TraceView). t.start) told) (ap (λ (t : TraceView). t.trace) told) room
