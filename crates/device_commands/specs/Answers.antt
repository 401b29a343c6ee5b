-- What a command that is done makes of the answer of its part of the tables.
use Rattle.std.specs.Prelude.{ℕ, Result, Ok, Err}
use Rattle.hca_pages.specs.declared.fault.HcaFault.{HcaFault}
use Rattle.cmd_bodies.specs.declared.reply.Reply.{Reply}
use Rattle.cmd_bodies.specs.Reply.{no_pages, reply_of}
use Rattle.device_commands.specs.declared.refusal.Refusal.{Refusal}
use Rattle.device_commands.specs.declared.refusal.Refusal.TheVariants.{Adapter}

abbrev pub adapter_answer : Result (Unit {0}) HcaFault → Result (Unit {0}) Refusal
adapter_answer (Ok done) = Ok tt
adapter_answer (Err fault) = Err (Adapter fault)

abbrev pub plain_answer : Result (Unit {0}) Refusal → Result Reply Refusal
plain_answer (Ok done) = Ok (reply_of 0 0 0 no_pages)
plain_answer (Err refusal) = Err refusal

abbrev pub numbered_answer : Result ℕ Refusal → Result Reply Refusal
numbered_answer (Ok number) = Ok (reply_of 0 number 0 no_pages)
numbered_answer (Err refusal) = Err refusal
