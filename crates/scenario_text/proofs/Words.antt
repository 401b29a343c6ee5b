-- The word that each line begins with.
use Rattle.std.proofs.Common.{◌≡◌, ℕ, Bool, true, false, cond, codes, Option, None, Some, bytes_eq, refl, ap, ◌∙◌}
use Rattle.std.proofs.lemmas.Slice.Eq.{bytes_eq-Decides}
use Rattle.std.proofs.lemmas.Option.{same_Some}
use Rattle.scenario_text.specs.Keywords.{keyword_of, keyword_in, in_place}
use Rattle.scenario_text.specs.Text.{Field}
use Rattle.scenario_text.specs.declared.keyword.Keyword.{Keyword}
use Rattle.scenario_text.specs.declared.keyword.Keyword.TheVariants.{Eq, Pd, Cq, Qp, Connect, Thread, End, Post, Item, Recv, Receive, Poll, Drain, Schedule, Rounds}
use Rattle.scenario_text.specs.declared.sofar.Place.{Place}
use Rattle.scenario_text.specs.declared.sofar.Place.TheVariants.{Outside, InThread, InPost, InRecv}

abbrev pub word_of : Keyword → Field
word_of Eq = codes "eq"
word_of Pd = codes "pd"
word_of Cq = codes "cq"
word_of Qp = codes "qp"
word_of Connect = codes "connect"
word_of Thread = codes "thread"
word_of End = codes "end"
word_of Post = codes "post"
word_of Item = codes "+"
word_of Recv = codes "recv"
word_of Receive = codes "+"
word_of Poll = codes "poll"
word_of Drain = codes "drain"
word_of Schedule = codes "schedule"
word_of Rounds = codes "rounds"

module _ (field : Field) where
  abbrev Spells : Option Keyword → Type 0
  Spells found = (keyword : Keyword) → found ≡ Some keyword → field ≡ word_of keyword

  none : Spells None
  none keyword h = absurd (cc)

  or_else : (keyword : Keyword) (rest : Option Keyword) → Spells rest → Spells (cond (bytes_eq field (word_of keyword)) (Some keyword) rest)
  or_else keyword rest more = by (bytes_eq field (word_of keyword)) (bytes_eq-Decides field (word_of keyword)).0
    where
      by : (same : Bool) → (same ≡ true → field ≡ word_of keyword) → Spells (cond same (Some keyword) rest)
      by true is found h = is refl ∙ ap word_of (same_Some keyword found h)
      by false is found h = more found h

  of_keyword : Spells (keyword_of field)
  of_keyword =
      or_else Eq _ (or_else Pd _ (or_else Cq _ (or_else Qp _ (or_else Connect _ (or_else Thread _ (or_else End _
      (or_else Post _ (or_else Item _ (or_else Recv _ (or_else Poll _ (or_else Drain _ (or_else Schedule _ (or_else Rounds None none)))))))))))))

  receive : (found : Option Keyword) (qp : ℕ) → Spells found → Spells (in_place (InRecv qp) found)
  receive None qp h = none
  receive (Some Item) qp h = λ keyword is. h Item refl ∙ ap word_of (same_Some Receive keyword is)
  receive (Some Eq) qp h = h
  receive (Some Pd) qp h = h
  receive (Some Cq) qp h = h
  receive (Some Qp) qp h = h
  receive (Some Connect) qp h = h
  receive (Some Thread) qp h = h
  receive (Some End) qp h = h
  receive (Some Post) qp h = h
  receive (Some Recv) qp h = h
  receive (Some Receive) qp h = h
  receive (Some Poll) qp h = h
  receive (Some Drain) qp h = h
  receive (Some Schedule) qp h = h
  receive (Some Rounds) qp h = h

  -- a line that is one of this word begins with it
  pub word_is : (place : Place) (keyword : Keyword) → keyword_in place field ≡ Some keyword → field ≡ word_of keyword
  word_is Outside = of_keyword
  word_is InThread = of_keyword
  word_is (InPost qp) = of_keyword
  word_is (InRecv qp) = receive (keyword_of field) qp of_keyword
