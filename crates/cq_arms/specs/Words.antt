-- What the words of an arm say.
use Rattle.std.specs.Prelude.{ℕ, ◌+◌, ◌-◌, ◌*◌, ◌/◌, ◌%◌, ◌^◌, ◌==◌, ◌&&◌, nat_le, nat_lt, if◌then◌else◌, Bool, true, false, Option, Some, None}
use Rattle.bus_core.specs.declared.turn.Note.{Note}
use Rattle.verbs_types.specs.declared.completion.ArmKind.{ArmKind}
use Rattle.verbs_types.specs.declared.completion.ArmKind.TheVariants.{Any, Solicited}
use Rattle.cq_arms.specs.declared.arm_word.Arm.{Arm}
use Rattle.cq_arms.specs.declared.arm_word.Armed.{Armed}

-- the bit of an arm word that tells a solicited arm
abbrev pub command : ArmKind → ℕ
command Any = 0
command Solicited = 2 ^ 24

-- word 1 of the doorbell record: the number modulo 4, the command, and the low 24 bits of the index
abbrev pub arm_word : Arm → ℕ
arm_word arm = arm.number % 4 * 2 ^ 28 + command arm.kind + arm.index % 2 ^ 24

-- the arm register of the queue with this number
abbrev pub register_word : ℕ → Arm → ℕ
register_word number arm = arm_word arm * 2 ^ 32 + number

-- what the register holds where nothing was armed
abbrev pub no_arm : ℕ
no_arm = 2 ^ 64 - 1

-- what its words show of an arm
abbrev pub shown_arm : Arm → Armed
shown_arm arm = record { kind = arm.kind; index = arm.index; sn = arm.number % 4 }

abbrev pub kind_shown : ℕ → ArmKind
kind_shown word = if word / 2 ^ 56 % 2 == 1 then Solicited else Any

-- how far the index that these 24 bits abbreviate is behind this one
abbrev pub distance : ℕ → ℕ → ℕ
distance index word = (index + (2 ^ 24 - word % 2 ^ 24)) % 2 ^ 24

-- the index that they abbreviate for a side at this index; it wraps at 2 ^ 64 where they are those of no index below
abbrev pub index_shown : ℕ → ℕ → ℕ
index_shown index word = if nat_le (distance index word) index then index - distance index word else index + 2 ^ 64 - distance index word

-- what a register word shows to a side at this index
abbrev pub shown : ℕ → ℕ → Armed
shown index word = record { kind = kind_shown word; index = index_shown index (word / 2 ^ 32); sn = word / 2 ^ 60 % 4 }

-- Whether an arm of this kind and index is passed: for any completion where the next index is above it, and for solicited ones where one past the index of the last solicited completion is.
abbrev pub is_passed : ArmKind → ℕ → ℕ → ℕ → Bool
is_passed Any index next solicited = nat_lt index next
is_passed Solicited index next solicited = nat_lt index solicited

abbrev pub kind_number : ArmKind → ℕ
kind_number Any = 0
kind_number Solicited = 1

abbrev pub number_note : ℕ → ℕ → ℕ → Note
number_note a b c = record { kind = 0; object = 0; a = a; b = b; c = c; d = 0 }

-- the index, the number modulo 4 and the kind of an arm
abbrev pub arm_note : Armed → Note
arm_note arm = number_note arm.index arm.sn (kind_number arm.kind)

abbrev pub is_any : ArmKind → Bool
is_any Any = true
is_any Solicited = false

abbrev pub is_any_at : Option Arm → ℕ → ℕ → Bool
is_any_at None index number = false
is_any_at (Some arm) index number = is_any arm.kind && (arm.index == index) && (arm.number == number)

-- the arm that is stored for a call: one for any completion that is asked for again as solicited, at the same index and number, stays what it is
abbrev pub next_arm : Option Arm → ArmKind → ℕ → ℕ → Arm
next_arm last kind index number = record { kind = if is_any_at last index number then Any else kind; index = index; number = number }
