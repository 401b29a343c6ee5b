-- Replies as the bytes of their output.
use Rattle.std.specs.Prelude.{◌≡◌, ◌≢◌, ℕ, ◌+◌, ◌*◌, ◌/◌, ◌≤◌, min, ◌==◌, cond, List, length, drop, replicate, slice_index}
use Rattle.prm_fields.specs.Bits.{field_value}
use Rattle.cmd_bodies.specs.declared.command.Command.{Command}
use Rattle.cmd_bodies.specs.declared.command.Command.TheVariants.{QueryPages, ReturnPages, AllocPd, AllocUar, CreateMkey, CreateEq, CreateCq, CreateSrq, CreateQp}
use Rattle.cmd_bodies.specs.declared.reply.Answer.{Answer}
use Rattle.cmd_bodies.specs.declared.reply.Answer.TheVariants.{Nothing, Number, PageCount, PageAddresses}
use Rattle.cmd_bodies.specs.declared.reply.Reply.{Reply}
use Rattle.cmd_bodies.specs.Command.{words_from}
use Rattle.cmd_bodies.specs.Encoding.{HasPages}

-- what a command's output carries beside the status
abbrev pub answer_of : Command → Answer
answer_of AllocPd = Number
answer_of AllocUar = Number
answer_of (CreateMkey parameters) = Number
answer_of (CreateEq parameters) = Number
answer_of (CreateCq parameters) = Number
answer_of (CreateSrq parameters) = Number
answer_of (CreateQp parameters) = Number
answer_of (QueryPages use_of) = PageCount
answer_of (ReturnPages count) = PageAddresses
answer_of _ = Nothing

abbrev pub no_pages : List ℕ
no_pages = replicate 88 0

-- how many of `count` addresses a byte string holds, at most 88
abbrev pub listed_in : ℕ → List ℕ → ℕ
listed_in count bytes = min count (min (length bytes / 8) 88)

abbrev pub reply_of : ℕ → ℕ → ℕ → List ℕ → Reply
reply_of status number pages list = record { status = status; number = number; pages = pages; list = list }

-- the reply with status 0 that bytes carry
abbrev pub good_reply : Answer → ℕ → ℕ → List ℕ → Reply
good_reply Nothing number second addresses = reply_of 0 0 0 no_pages
good_reply Number number second addresses = reply_of 0 number 0 no_pages
good_reply PageCount number second addresses = reply_of 0 0 second no_pages
good_reply PageAddresses number second addresses = reply_of 0 number number (words_from addresses (listed_in number addresses) 0 88)

-- the reply to a command that bytes carry
abbrev pub reply_at : Command → List ℕ → Reply
reply_at c bytes =
    let status = field_value bytes 0 8 in
    cond (status == 0) (good_reply (answer_of c) (field_value bytes 64 32) (field_value bytes 96 32) (drop 16 bytes)) (reply_of status 0 0 no_pages)

-- a reply lists addresses where its number is not 0, and counts pages where it is
abbrev pub listed_of : Reply → ℕ
listed_of r = cond (r.number == 0) 0 r.pages

abbrev pub counted_of : Reply → ℕ
counted_of r = cond (r.number == 0) r.pages 0

abbrev pub reply_length : Reply → ℕ
reply_length r = 16 + 8 * listed_of r

-- status, syndrome 0, a number and a count of pages
pub record HasReplyHead (status number count : ℕ) (bytes : List ℕ) : Type 0 where
  pub status_there : field_value bytes 0 8 ≡ status
  pub syndrome_clear : field_value bytes 8 56 ≡ 0
  pub number_there : field_value bytes 64 32 ≡ number
  pub count_there : field_value bytes 96 32 ≡ count

-- the bytes spell the reply
pub record HasReply (r : Reply) (bytes : List ℕ) : Type 0 where
  pub head : HasReplyHead r.status r.number (counted_of r) bytes
  pub addresses : HasPages (listed_of r) r.list bytes

-- what a reply to a command carries
pub record CarriesNothing (r : Reply) : Type 0 where
  pub number_none : r.number ≡ 0
  pub pages_none : r.pages ≡ 0
  pub list_none : r.list ≡ no_pages

pub record CarriesNumber (r : Reply) : Type 0 where
  pub pages_none : r.pages ≡ 0
  pub list_none : r.list ≡ no_pages

pub record CarriesCount (r : Reply) : Type 0 where
  pub number_none : r.number ≡ 0
  pub list_none : r.list ≡ no_pages

pub record CarriesAddresses (r : Reply) : Type 0 where
  pub number_same : r.number ≡ r.pages
  pub few : r.pages ≤ 88
  pub rest : (k : ℕ) → r.pages ≤ k → slice_index r.list k ≡ 0

abbrev pub Carries : Answer → Reply → Type 0
Carries Nothing r = CarriesNothing r
Carries Number r = CarriesNumber r
Carries PageCount r = CarriesCount r
Carries PageAddresses r = CarriesAddresses r

pub record IsReplyTo (c : Command) (r : Reply) : Type 0 where
  pub good : r.status ≡ 0 → Carries (answer_of c) r
  pub refused : r.status ≢ 0 → CarriesNothing r

-- reading what was written gives the reply back, from any bytes that hold it
abbrev pub ReadsBack : Type 0
ReadsBack = (c : Command) (r : Reply) (bytes : List ℕ) → IsReplyTo c r → HasReply r bytes → reply_length r ≤ length bytes → reply_at c bytes ≡ r
