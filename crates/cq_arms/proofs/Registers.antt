-- What a register word shows of its arm, and which addresses are the arms'.
use Rattle.std.proofs.Common.{◌≡◌, ◌≢◌, ℕ, ◌+◌, ◌-◌, ◌/◌, ◌%◌, ◌^◌, ◌<◌, ◌≤◌, ◌⊎◌, inl, inr, refl, ap, sym, ◌∙◌, arith, true, false, cond, eqb, leb, ◌||◌, Option, Some, None}
use Rattle.std.proofs.lemmas.Bool.{le-leb, eq-eqb, or_left, or_right, or_cases, eqb-true, ne_eqb}
use Rattle.verbs_types.specs.declared.completion.ArmKind.{ArmKind}
use Rattle.verbs_types.specs.declared.completion.ArmKind.TheVariants.{Any, Solicited}
use Rattle.cq_arms.specs.declared.arm_word.Arm.{Arm}
use Rattle.cq_arms.specs.declared.arm_word.Armed.{Armed}
use Rattle.cq_arms.specs.declared.place.ArmPlace.{ArmPlace}
use Rattle.cq_arms.specs.Place.{touches}
use Rattle.cq_arms.specs.Words.{command, arm_word, register_word, no_arm, shown_arm, kind_shown, distance, index_shown, shown}

command_bit : (kind : ArmKind) → (command kind ≡ 0) ⊎ (command kind ≡ 2 ^ 24)
command_bit Any = inl refl
command_bit Solicited = inr refl

-- an arm word has 30 bits
word_low : (arm : Arm) → arm_word arm < 2 ^ 30
word_low arm = elim (command_bit arm.kind) [ inl k ↦ omega (arith, k) | inr k ↦ omega (arith, k) ]

-- the arm word is the register's upper half
upper : (number : ℕ) (arm : Arm) → number < 2 ^ 32 → register_word number arm / 2 ^ 32 ≡ arm_word arm
upper number arm low = omega (arith, low)

pub register_not_none : (number : ℕ) (arm : Arm) → number < 2 ^ 32 → register_word number arm ≢ no_arm
register_not_none number arm low same = omega (arith, low, word_low arm, same)

sn_of : (number : ℕ) (arm : Arm) → number < 2 ^ 32 → register_word number arm / 2 ^ 60 % 4 ≡ arm.number % 4
sn_of number arm low = elim (command_bit arm.kind) [ inl k ↦ omega (arith, low, k) | inr k ↦ omega (arith, low, k) ]

kind_bit : (number : ℕ) (arm : Arm) → number < 2 ^ 32 → register_word number arm / 2 ^ 56 % 2 ≡ command arm.kind / 2 ^ 24
kind_bit number arm low = elim (command_bit arm.kind) [ inl k ↦ omega (arith, low, k) | inr k ↦ omega (arith, low, k) ]

kind_again : (kind : ArmKind) → cond (eqb (command kind / 2 ^ 24) 1) Solicited Any ≡ kind
kind_again Any = refl
kind_again Solicited = refl

kind_of : (number : ℕ) (arm : Arm) → number < 2 ^ 32 → kind_shown (register_word number arm) ≡ arm.kind
kind_of number arm low = ap (λ (bit : ℕ). cond (eqb bit 1) Solicited Any) (kind_bit number arm low) ∙ kind_again arm.kind

index_bits : (number : ℕ) (arm : Arm) → number < 2 ^ 32 → register_word number arm / 2 ^ 32 % 2 ^ 24 ≡ arm.index % 2 ^ 24
index_bits number arm low = elim (command_bit arm.kind) [ inl k ↦ omega (arith, low, k) | inr k ↦ omega (arith, low, k) ]

-- 24 bits name the index where it is no more than a round behind
index_is : (next index word : ℕ) → index ≤ next → next < index + 2 ^ 24 → word % 2 ^ 24 ≡ index % 2 ^ 24 → index_shown next word ≡ index
index_is next index word low high same =
    let far : distance next word ≡ next - index = omega (arith, low, high, same) in
    let near : leb (distance next word) next ≡ true = le-leb (distance next word) next (omega (arith, far)) in
    rw near (omega (arith, far, low))

armed_equal : (a b : Armed) → a.kind ≡ b.kind → a.index ≡ b.index → a.sn ≡ b.sn → a ≡ b
armed_equal a b k i s = λ j. record { kind = k j; index = i j; sn = s j }

-- a register word shows its arm to a side that is near enough
pub shows : (number next : ℕ) (arm : Arm) → number < 2 ^ 32 → arm.index ≤ next → next < arm.index + 2 ^ 24 → shown next (register_word number arm) ≡ shown_arm arm
shows number next arm low after near = armed_equal (shown next (register_word number arm)) (shown_arm arm) (kind_of number arm low) (index_is next arm.index (register_word number arm / 2 ^ 32) after near (index_bits number arm low)) (sn_of number arm low)

-- arms of one register word
pub record SameWord (a b : Arm) : Type 0 where
  pub kind : a.kind ≡ b.kind
  pub sn : a.number % 4 ≡ b.number % 4
  pub index : a.index % 2 ^ 24 ≡ b.index % 2 ^ 24

pub same_word : (number : ℕ) (a b : Arm) → number < 2 ^ 32 → register_word number a ≡ register_word number b → SameWord a b
same_word number a b low same = record {
  kind = sym (kind_of number a low) ∙ (ap kind_shown same ∙ kind_of number b low);
  sn = sym (sn_of number a low) ∙ (ap (λ w. w / 2 ^ 60 % 4) same ∙ sn_of number b low);
  index = sym (index_bits number a low) ∙ (ap (λ w. w / 2 ^ 32 % 2 ^ 24) same ∙ index_bits number b low);
}

-- the register where this arm was stored last
abbrev pub register_of : ℕ → Option Arm → ℕ
register_of number None = no_arm
register_of number (Some arm) = register_word number arm

pub touches_record : (place : ArmPlace) → touches place place.arm_record ≡ true
touches_record place = or_left _ _ (or_left _ _ (eq-eqb place.arm_record place.arm_record refl))

pub touches_register : (place : ArmPlace) → touches place place.arm_reg ≡ true
touches_register place = or_left _ _ (or_right (eqb place.arm_reg place.arm_record) _ (eq-eqb place.arm_reg place.arm_reg refl))

pub touches_sn : (place : ArmPlace) → touches place place.sn ≡ true
touches_sn place = or_right (eqb place.sn place.arm_record || eqb place.sn place.arm_reg) _ (eq-eqb place.sn place.sn refl)

-- the arms' words are these three
pub touched : (place : ArmPlace) (a : ℕ) → touches place a ≡ true → (a ≡ place.arm_record) ⊎ (a ≡ place.arm_reg) ⊎ (a ≡ place.sn)
touched place a h = elim (or_cases (eqb a place.arm_record || eqb a place.arm_reg) (eqb a place.sn) h) [
  | inl l ↦ elim (or_cases (eqb a place.arm_record) (eqb a place.arm_reg) l) [ inl k ↦ inl (eqb-true a place.arm_record k) | inr k ↦ inr (inl (eqb-true a place.arm_reg k)) ]
  | inr r ↦ inr (inr (eqb-true a place.sn r))
]

pub untouched : (place : ArmPlace) (a : ℕ) → a ≢ place.arm_record → a ≢ place.arm_reg → a ≢ place.sn → touches place a ≡ false
untouched place a r g s = rw (ne_eqb a place.arm_record r, ne_eqb a place.arm_reg g) (ne_eqb a place.sn s)
