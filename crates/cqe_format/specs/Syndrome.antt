-- The syndromes of errors, and the verbs statuses that they stand for.
use Rattle.std.specs.Prelude.{ℕ, Option, ◌==◌, find, [], ◌∷◌}
use Rattle.cqe_format.specs.declared.syndrome.Syndrome.{Syndrome}
use Rattle.cqe_format.specs.declared.syndrome.Syndrome.TheVariants.{LocalLength, LocalQpOperation, LocalProtection, Flushed, BadResponse, LocalAccess, RemoteInvalidRequest, RemoteAccess, RemoteOperation, RetriesExceeded, RnrRetriesExceeded, RemoteAborted}

abbrev pub syndrome_number : Syndrome → ℕ
syndrome_number LocalLength = 0x01
syndrome_number LocalQpOperation = 0x02
syndrome_number LocalProtection = 0x04
syndrome_number Flushed = 0x05
syndrome_number BadResponse = 0x10
syndrome_number LocalAccess = 0x11
syndrome_number RemoteInvalidRequest = 0x12
syndrome_number RemoteAccess = 0x13
syndrome_number RemoteOperation = 0x14
syndrome_number RetriesExceeded = 0x15
syndrome_number RnrRetriesExceeded = 0x16
syndrome_number RemoteAborted = 0x22

abbrev pub verbs_status : Syndrome → ℕ
verbs_status LocalLength = 1
verbs_status LocalQpOperation = 2
verbs_status LocalProtection = 4
verbs_status Flushed = 5
verbs_status BadResponse = 7
verbs_status LocalAccess = 8
verbs_status RemoteInvalidRequest = 9
verbs_status RemoteAccess = 10
verbs_status RemoteOperation = 11
verbs_status RetriesExceeded = 12
verbs_status RnrRetriesExceeded = 13
verbs_status RemoteAborted = 16

-- the first syndrome of which `tell` gives this number
abbrev pub syndrome_with : (Syndrome → ℕ) → ℕ → Option Syndrome
syndrome_with tell number =
    find (λ syndrome. tell syndrome == number)
    (LocalLength ∷ LocalQpOperation ∷ LocalProtection ∷ Flushed ∷ BadResponse ∷ LocalAccess ∷ RemoteInvalidRequest ∷ RemoteAccess ∷ RemoteOperation ∷ RetriesExceeded ∷ RnrRetriesExceeded ∷ RemoteAborted ∷ [])

-- the syndrome that has a number, if any has it
abbrev pub syndrome_of : ℕ → Option Syndrome
syndrome_of number = syndrome_with syndrome_number number

-- the syndrome that stands for a verbs status, if any does
abbrev pub syndrome_for : ℕ → Option Syndrome
syndrome_for status = syndrome_with verbs_status status
