-- The numbers of the delivery statuses.
use Rattle.std.specs.Prelude.{ℕ, Option, ◌==◌, find}
use Rattle.std.specs.Prelude.{[], ◌∷◌}
use Rattle.cmd_format.specs.declared.delivery.Delivery.{Delivery}
use Rattle.cmd_format.specs.declared.delivery.Delivery.TheVariants.{Signature, Token, BlockNumber, OutputPointer, InputPointer, InputLength, OutputLength, Reserved, Descriptor}

abbrev pub delivery_number : Delivery → ℕ
delivery_number Signature = 1
delivery_number Token = 2
delivery_number BlockNumber = 3
delivery_number OutputPointer = 4
delivery_number InputPointer = 5
delivery_number InputLength = 7
delivery_number OutputLength = 8
delivery_number Reserved = 9
delivery_number Descriptor = 16

-- the fault that has a number, if any has it
abbrev pub delivery_of : ℕ → Option Delivery
delivery_of number =
    find (λ fault. delivery_number fault == number)
    (Signature ∷ Token ∷ BlockNumber ∷ OutputPointer ∷ InputPointer ∷ InputLength ∷ OutputLength ∷ Reserved ∷ Descriptor ∷ [])
