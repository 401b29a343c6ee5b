-- Answers that refuse a command.
use Rattle.std.specs.Prelude.{ℕ, ◌/◌, ◌%◌, unwrap_or}
use Rattle.cmd_format.specs.declared.delivery.Delivery.{Delivery}
use Rattle.cmd_format.specs.declared.delivery.Delivery.TheVariants.{Reserved}
use Rattle.cmd_format.specs.Delivery.{delivery_number, delivery_of}
use Rattle.cmd_bodies.specs.declared.reply.Reply.{Reply}
use Rattle.cmd_bodies.specs.Reply.{reply_of, no_pages}
use Rattle.cmd_slots.specs.declared.answer.Answer.{Answer}
use Rattle.cmd_slots.specs.declared.answer.Answer.TheVariants.{Delivered, Refused}

-- the reply to a command whose body is refused with this status
abbrev pub refusal_with : ℕ → Reply
refusal_with status = reply_of status 0 0 no_pages

-- the delivery status in the last word of an entry, 0 where the command was delivered
abbrev pub delivery_in : ℕ → ℕ
delivery_in word = word / 2 % 128

-- the refusal that a delivery status names
abbrev pub refusal_of : ℕ → Delivery
refusal_of number = unwrap_or (delivery_of number) Reserved

-- the delivery status of an answer
abbrev pub delivery_for : Answer → ℕ
delivery_for (Delivered reply) = 0
delivery_for (Refused fault) = delivery_number fault
