-- What holds after every legal history of arms.
use Rattle.std.proofs.Common.{◌≡◌, ℕ, ◌+◌, ◌<◌, ◌≤◌, ◌⊎◌, inl, inr, refl, ap, sym, ◌∙◌, subst, arith, Bool, true, false, cond, eqb, Option, Some, None}
use Rattle.std.proofs.lemmas.Bool.{cond_both}
use Rattle.std.proofs.lemmas.Bool.Decides.{eqb_tells}
use Rattle.verbs_types.specs.declared.completion.ArmKind.TheVariants.{Any}
use Rattle.cq_arms.specs.declared.arm_word.Arm.{Arm}
use Rattle.cq_arms.specs.Words.{is_passed}
use Rattle.cq_arms.specs.Arms.{Arms, fresh_arms, ArmEvent, Armed, Saw, NoNews, Published, Resized, Acked, Wrote, Raised, answer, judged, see, publish, after_event, bound, MayFollow, MayHappen, most}

abbrev pub count : Bool → ℕ
count true = 1
count false = 0

-- arms go up by index and by number, and at the same two one for any completion stays one
pub record Up (a b : Arm) : Type 0 where
  pub index : a.index ≤ b.index
  pub number : a.number ≤ b.number
  pub kind : a.kind ≡ Any → a.index ≡ b.index → a.number ≡ b.number → b.kind ≡ Any

pub Up_refl : (a : Arm) → Up a a
Up_refl a = record { index = omega arith; number = omega arith; kind = λ k i n. k }

pub Up_trans : (a b c : Arm) → Up a b → Up b c → Up a c
Up_trans a b c h k = record {
  index = omega (arith, h.index, k.index);
  number = omega (arith, h.number, k.number);
  kind = λ any i n. k.kind (h.kind any (omega (arith, h.index, k.index, i)) (omega (arith, h.number, k.number, n))) (omega (arith, h.index, k.index, i)) (omega (arith, h.number, k.number, n));
}

-- the arm that was seen last is the one that was stored last, or an earlier one
abbrev pub IsUpTo : Option Arm → Option Arm → Type 0
IsUpTo None last = Unit {0}
IsUpTo (Some seen) None = ⊥
IsUpTo (Some seen) (Some last) = Up seen last

-- an arm has an index that was acknowledged, and a number of events that were taken
abbrev pub IsStored : ℕ → ℕ → Option Arm → Type 0
IsStored acked taken None = Unit {0}
IsStored acked taken (Some arm) = (arm.index ≤ acked) × (arm.number ≤ taken)

-- the arm that was seen last waits, or was answered
abbrev pub IsAnswered : ℕ → Option Arm → Option Arm → Type 0
IsAnswered answered armed None = (answered ≡ 0) × (armed ≡ None)
IsAnswered answered armed (Some seen) = ((answered ≡ seen.number) × (armed ≡ Some seen)) ⊎ ((answered ≡ seen.number + 1) × (armed ≡ None))

pub record Sound (a : Arms) : Type 0 where
  pub acked : a.acked ≤ a.produced
  pub room : a.produced ≤ a.acked + most
  pub taken : a.taken ≤ a.written
  pub written : a.written + count a.due ≡ a.answered
  pub stored : IsStored a.acked a.taken a.last
  pub up : IsUpTo a.seen a.last
  pub answered : IsAnswered a.answered a.armed a.seen

pub fresh_sound : (index : ℕ) → Sound (fresh_arms index)
fresh_sound index = record { acked = omega arith; room = omega arith; taken = omega arith; written = refl; stored = tt; up = tt; answered = (refl, refl) }

pub free : (a : Arms) → Sound a → a.due ≡ false → a.written ≡ a.answered
free a s due = omega (arith, s.written, ap count due)

pub some_same : (a b : Arm) → Some a ≡ Some b → a ≡ b
some_same a b h = cc

-- the arm that waits is the one that was seen last, and its number comes next
waits : (answered : ℕ) (armed seen : Option Arm) (arm : Arm) → IsAnswered answered armed seen → armed ≡ Some arm → (seen ≡ Some arm) × (answered ≡ arm.number)
waits answered armed None arm h is = absurd (let none : None ≡ Some arm = sym h.1 ∙ is in cc)
waits answered armed (Some s) arm h is = elim h [
  | inl w ↦ let same : s ≡ arm = some_same s arm (sym w.1 ∙ is) in (ap Some same, w.0 ∙ ap (λ (x : Arm). x.number) same)
  | inr d ↦ absurd (let none : None ≡ Some arm = sym d.1 ∙ is in cc)
]

pub next_waits : (a : Arms) (arm : Arm) → Sound a → a.armed ≡ Some arm → (a.seen ≡ Some arm) × (a.answered ≡ arm.number)
next_waits a arm s is = waits a.answered a.armed a.seen arm s.answered is

-- the arm that was seen is answered
after_answer : (answered : ℕ) (seen : Option Arm) (arm : Arm) → seen ≡ Some arm → answered ≡ arm.number + 1 → IsAnswered answered None seen
after_answer answered None arm is n = absurd (cc)
after_answer answered (Some s) arm is n = let same : s ≡ arm = some_same s arm is in inr (n ∙ ap (λ (x : Arm). x.number + 1) (sym same), refl)

answer_sound : (a : Arms) (armed : Option Arm) → a.armed ≡ armed → a.due ≡ false → Sound a → Sound (answer a armed)
answer_sound a None is due s = s
answer_sound a (Some arm) is due s =
    let w = next_waits a arm s is in
    cond_both (is_passed arm.kind arm.index a.produced a.solicited) (record a { armed = None; answered = arm.number + 1; due = true }) a Sound
    (λ passed. record {
      acked = s.acked;
      room = s.room;
      taken = s.taken;
      written = omega (arith, free a s due, w.1);
      stored = s.stored;
      up = s.up;
      answered = after_answer (arm.number + 1) a.seen arm w.0 refl;
    })
    (λ waiting. s)

pub judged_sound : (a : Arms) → a.due ≡ false → Sound a → Sound (judged a)
judged_sound a due s = answer_sound a a.armed refl due s

-- an arm that is seen waits if its number was not answered
now_waits : (answered : ℕ) (armed seen : Option Arm) (arm : Arm) → arm.number ≤ answered → IsUpTo seen (Some arm) → IsAnswered answered armed seen → IsAnswered answered (cond (eqb (arm.number + 1) answered) armed (Some arm)) (Some arm)
now_waits answered armed None arm low up h = elim (eqb_tells (arm.number + 1) answered) [
  | inl t ↦ absurd (omega (arith, t.1, h.0))
  | inr t ↦ rw t.0 (inl (omega (arith, low, h.0), refl))
]
now_waits answered armed (Some s) arm low up h = elim (eqb_tells (arm.number + 1) answered) [
  | inl t ↦ elim h [
    | inl w ↦ absurd (omega (arith, t.1, w.0, up.number))
    | inr d ↦ rw t.0 (inr (sym t.1, d.1))
  ]
  | inr t ↦ elim h [
    | inl w ↦ rw t.0 (inl (omega (arith, w.0, low, up.number), refl))
    | inr d ↦ rw t.0 (inl (omega (arith, d.0, low, t.1, up.number), refl))
  ]
]

pub see_sound : (a : Arms) (arm : Arm) → a.last ≡ Some arm → a.due ≡ false → Sound a → Sound (see a (Some arm))
see_sound a arm is due s =
    let stored : IsStored a.acked a.taken (Some arm) = subst (IsStored a.acked a.taken) is s.stored in
    let up : IsUpTo a.seen (Some arm) = subst (IsUpTo a.seen) is s.up in
    record {
      acked = s.acked;
      room = s.room;
      taken = s.taken;
      written = s.written;
      stored = s.stored;
      up = subst (IsUpTo (Some arm)) (sym is) (Up_refl arm);
      answered = now_waits a.answered a.armed a.seen arm (omega (arith, stored.1, s.taken, free a s due)) up s.answered;
    }

pub publish_sound : (a : Arms) (solicited : Bool) → a.produced < a.acked + most → Sound a → Sound (publish a solicited)
publish_sound a solicited room s = record { acked = omega (arith, s.acked); room = omega (arith, room); taken = s.taken; written = s.written; stored = s.stored; up = s.up; answered = s.answered }

stored_up : (acked taken acked' taken' : ℕ) (last : Option Arm) → acked ≤ acked' → taken ≤ taken' → IsStored acked taken last → IsStored acked' taken' last
stored_up acked taken acked' taken' None a t h = tt
stored_up acked taken acked' taken' (Some arm) a t h = (omega (arith, h.0, a), omega (arith, h.1, t))

-- the next arm goes up from the last one
last_up : (acked taken : ℕ) (last : Option Arm) (arm : Arm) → IsStored acked taken last → arm.index ≡ acked → bound last ≤ arm.number + 1 → MayFollow arm last → (seen : Option Arm) → IsUpTo seen last → IsUpTo seen (Some arm)
last_up acked taken last arm stored index later follows None up = tt
last_up acked taken None arm stored index later follows (Some s) up = absurd up
last_up acked taken (Some l) arm stored index later follows (Some s) up =
    Up_trans s l arm up (record { index = omega (arith, stored.0, index); number = omega (arith, later); kind = λ any i n. follows any i n })

-- every legal step keeps it
pub sound_step : (a : Arms) (e : ArmEvent) → Sound a → MayHappen a e → Sound (after_event a e)
sound_step a (Armed arm) s may = record {
  acked = s.acked;
  room = s.room;
  taken = s.taken;
  written = s.written;
  stored = (omega (arith, may.index_is), elim may.number_is [ inl n ↦ omega (arith, n) | inr n ↦ omega (arith, n) ]);
  up = last_up a.acked a.taken a.last arm s.stored may.index_is may.later may.kind_is a.seen s.up;
  answered = s.answered;
}
sound_step a (Saw kind index sn due) s may =
    subst (λ (o : Option Arm). Sound (judged (see a o))) (sym may.last_is) (judged_sound (see a (Some may.arm)) may.free (see_sound a may.arm may.last_is may.free s))
sound_step a NoNews s may = s
sound_step a (Published solicited due) s may = judged_sound (publish a solicited) may.free (publish_sound a solicited may.room s)
sound_step a Resized s may = record { acked = omega (arith, s.acked); room = omega (arith, may.1); taken = s.taken; written = s.written; stored = s.stored; up = s.up; answered = s.answered }
sound_step a (Acked ci) s may = record {
  acked = may.1;
  room = omega (arith, s.room, may.0);
  taken = s.taken;
  written = s.written;
  stored = stored_up a.acked a.taken ci a.taken a.last may.0 (omega arith) s.stored;
  up = s.up;
  answered = s.answered;
}
sound_step a Wrote s may = record { acked = s.acked; room = s.room; taken = omega (arith, s.taken); written = omega (arith, s.written, ap count may); stored = s.stored; up = s.up; answered = s.answered }
sound_step a (Raised number) s may = record {
  acked = s.acked;
  room = s.room;
  taken = omega (arith, may.0, may.1);
  written = s.written;
  stored = stored_up a.acked a.taken a.acked number a.last (omega arith) (omega (arith, may.0)) s.stored;
  up = s.up;
  answered = s.answered;
}

answered_below : (answered : ℕ) (armed seen : Option Arm) → IsAnswered answered armed seen → answered ≤ bound seen
answered_below answered armed None h = omega (arith, h.0)
answered_below answered armed (Some s) h = elim h [ inl w ↦ omega (arith, w.0) | inr d ↦ omega (arith, d.0) ]

bound_up : (seen last : Option Arm) → IsUpTo seen last → bound seen ≤ bound last
bound_up None last up = omega arith
bound_up (Some s) None up = absurd up
bound_up (Some s) (Some l) up = omega (arith, up.number)

-- each event that was taken was that of an arm
pub taken_below : (a : Arms) → Sound a → a.taken ≤ bound a.last
taken_below a s = omega (arith, s.taken, s.written, answered_below a.answered a.armed a.seen s.answered, bound_up a.seen a.last s.up)

stored_bound : (acked taken : ℕ) (last : Option Arm) → IsStored acked taken last → bound last ≤ taken + 1
stored_bound acked taken None h = omega arith
stored_bound acked taken (Some arm) h = omega (arith, h.1)

pub last_below : (a : Arms) → Sound a → bound a.last ≤ a.taken + 1
last_below a s = stored_bound a.acked a.taken a.last s.stored

-- what a judgement leaves alone
pub record IsJudgedOf (a b : Arms) : Type 0 where
  pub acked : b.acked ≡ a.acked
  pub produced : b.produced ≡ a.produced
  pub solicited : b.solicited ≡ a.solicited
  pub last : b.last ≡ a.last
  pub seen : b.seen ≡ a.seen
  pub written : b.written ≡ a.written
  pub taken : b.taken ≡ a.taken

answer_keeps : (a : Arms) (armed : Option Arm) → IsJudgedOf a (answer a armed)
answer_keeps a None = record { acked = refl; produced = refl; solicited = refl; last = refl; seen = refl; written = refl; taken = refl }
answer_keeps a (Some arm) =
    cond_both (is_passed arm.kind arm.index a.produced a.solicited) (record a { armed = None; answered = arm.number + 1; due = true }) a (IsJudgedOf a)
    (λ passed. record { acked = refl; produced = refl; solicited = refl; last = refl; seen = refl; written = refl; taken = refl })
    (λ waiting. record { acked = refl; produced = refl; solicited = refl; last = refl; seen = refl; written = refl; taken = refl })

pub judged_keeps : (a : Arms) → IsJudgedOf a (judged a)
judged_keeps a = answer_keeps a a.armed

-- at most the last arm was answered, and those before it were
pub answered_last : (a : Arms) → Sound a → a.answered ≤ bound a.last
answered_last a s = omega (arith, answered_below a.answered a.armed a.seen s.answered, bound_up a.seen a.last s.up)

number_below : (acked taken : ℕ) (last : Option Arm) (arm : Arm) → IsStored acked taken last → last ≡ Some arm → arm.number ≤ taken
number_below acked taken None arm h is = absurd (cc)
number_below acked taken (Some l) arm h is = let same : l.number ≡ arm.number = ap (λ (x : Arm). x.number) (some_same l arm is) in omega (arith, h.1, same)

pub last_number : (a : Arms) (arm : Arm) → Sound a → a.last ≡ Some arm → arm.number ≤ a.answered
last_number a arm s is = omega (arith, number_below a.acked a.taken a.last arm s.stored is, s.taken, s.written)

index_below : (acked taken : ℕ) (last : Option Arm) (arm : Arm) → IsStored acked taken last → last ≡ Some arm → arm.index ≤ acked
index_below acked taken None arm h is = absurd (cc)
index_below acked taken (Some l) arm h is = let same : l.index ≡ arm.index = ap (λ (x : Arm). x.index) (some_same l arm is) in omega (arith, h.0, same)

pub last_index : (a : Arms) (arm : Arm) → Sound a → a.last ≡ Some arm → arm.index ≤ a.produced
last_index a arm s is = omega (arith, index_below a.acked a.taken a.last arm s.stored is, s.acked)

index_up : (acked taken : ℕ) (last seen : Option Arm) (arm : Arm) → IsStored acked taken last → IsUpTo seen last → seen ≡ Some arm → arm.index ≤ acked
index_up acked taken last None arm stored up is = absurd (cc)
index_up acked taken None (Some s) arm stored up is = absurd up
index_up acked taken (Some l) (Some s) arm stored up is = let same : s.index ≡ arm.index = ap (λ (x : Arm). x.index) (some_same s arm is) in omega (arith, stored.0, up.index, same)

pub seen_index : (a : Arms) (arm : Arm) → Sound a → a.seen ≡ Some arm → arm.index ≤ a.produced
seen_index a arm s is = omega (arith, index_up a.acked a.taken a.last a.seen arm s.stored s.up is, s.acked)
