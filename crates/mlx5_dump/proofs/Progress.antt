-- How far a run has come, and what it says when it ends there.
use Rattle.std.proofs.Common.{◌≡◌, ◌≢◌, ℕ, ◌+◌, ◌-◌, ◌^◌, ◌≤◌, ◌==◌, false, List, [], ◌∷◌, ◌++◌, length, take, Option, None, Some, refl, sym, ap, ◌∙◌, subst, append_assoc, append-nil, length-append, arith}
use Rattle.std.specs.List.{AllByRecursion, flat_map}
use Rattle.std.specs.Io.KnownBytes.{Appends, Consumes, IsAtEnd}
use Rattle.std.proofs.KnownBytes.{Appends-nil, Appends-trans, Consumes-nil, Consumes-trans}
use Rattle.std.proofs.Math.Seq.{take-append-add}
use Rattle.std.proofs.lemmas.Grind.{flat_map-append}
use Rattle.std.proofs.lemmas.Bool.Decides.{nat_tests}
use Rattle.byte_streams.specs.Count.{Rose}
use Rattle.byte_streams.specs.Source.{SourceState}
use Rattle.byte_streams.specs.Sink.{SinkState}
use Rattle.byte_streams.specs.Writing.{WritesPart}
use Rattle.mlx5_dump.specs.declared.status.Status.{Status}
use Rattle.mlx5_dump.specs.declared.status.Status.TheVariants.{Done, Usage, Limit, ReadFault, WriteFault, NoMemory}
use Rattle.mlx5_dump.specs.Lines.{AreAnswers, HasLines, HasNoEnd, and_last, with_end}
use Rattle.mlx5_dump.specs.Feeding.{AddsLine, Keeps, WroteSays, begun, ended}
use Rattle.mlx5_dump.specs.Dump.{AnswersFront, BeganWith, IsReading, Reading, Says, call}
use Rattle.mlx5_dump.proofs.Fed.{answers-append, in_lines}

-- how far a run has come from the states at its beginning, after so many pieces
pub record Progress (source source_now : SourceState) (out out_now : SinkState) (kept : List ℕ) (count : ℕ) : Type 0 where
  pub text : List ℕ
  pub lines : List (List ℕ)
  pub line : List ℕ
  pub answers : List ℕ
  pub gives : Consumes source.left source_now.left text
  pub in_lines : HasLines text lines line
  pub keeps : Keeps kept line
  pub answered : AreAnswers lines answers
  pub writes : Appends out.written out_now.written answers
  pub counted : count ≤ length text
  pub source_never_falls : source.faults ≤ source_now.faults
  pub out_never_falls : out.faults ≤ out_now.faults

-- at first
pub begins : (source : SourceState) (out : SinkState) → Progress source source out out [] 0
begins source out = record {
  text = [];
  lines = [];
  line = [];
  answers = [];
  gives = Consumes-nil source.left;
  in_lines = record { spelled = refl; each = tt; rest = tt };
  keeps = refl;
  answered = refl;
  writes = Appends-nil out.written;
  counted = omega arith;
  source_never_falls = omega arith;
  out_never_falls = omega arith;
}

-- the lines of a text that goes on with a piece
both : (xs ys : List (List ℕ)) → AllByRecursion HasNoEnd xs → AllByRecursion HasNoEnd ys → AllByRecursion HasNoEnd (xs ++ ys)
both [] ys none are = are
both (x ∷ xs) ys is are = (is.0, both xs ys is.1 are)

more_lines : (text : List ℕ) (lines : List (List ℕ)) (line piece : List ℕ) → HasLines text lines line → HasLines (text ++ piece) (lines ++ ended line piece) (begun line piece)
more_lines text lines line piece are =
    let new = in_lines line piece are.rest in
    record {
      spelled = ap (λ l. l ++ piece) are.spelled ∙ append_assoc (flat_map with_end lines) line piece ∙ ap (λ l. flat_map with_end lines ++ l) new.spelled
          ∙ sym (append_assoc (flat_map with_end lines) (flat_map with_end (ended line piece)) (begun line piece))
          ∙ ap (λ l. l ++ begun line piece) (sym (flat_map-append with_end lines (ended line piece)));
      each = both lines (ended line piece) are.each new.each;
      rest = new.rest;
    }

-- a front of what was consumed is a front of what was left
began : (left now : Option (List ℕ)) (text front rest : List ℕ) → Consumes left now text → text ≡ front ++ rest → BeganWith left front
began None now text front rest gives is = tt
began (Some x) None text front rest gives is = absurd gives
began (Some x) (Some y) text front rest gives is = (rest ++ y, gives ∙ ap (λ l. l ++ y) is ∙ append_assoc front rest y)

-- whole lines, and their answers
abbrev whole : List (List ℕ) → List ℕ → Reading
whole lines answers = record { text = flat_map with_end lines; lines = lines; last = []; answers = answers }

whole_is : (lines : List (List ℕ)) (answers : List ℕ) → AllByRecursion HasNoEnd lines → AreAnswers lines answers → IsReading (whole lines answers)
whole_is lines answers none are = record {
  in_lines = record { spelled = sym (append-nil (flat_map with_end lines)); each = none; rest = tt };
  answered = are;
}

-- the answer to a last line comes after the others
last_answers : (lines : List (List ℕ)) (last answers more : List ℕ) → AreAnswers lines answers → AreAnswers (and_last [] last) more → AreAnswers (and_last lines last) (answers ++ more)
last_answers lines [] answers more are none = subst (AreAnswers lines) (sym (ap (λ l. answers ++ l) none ∙ append-nil answers)) are
last_answers lines (byte ∷ last) answers more are is = answers-append lines ((byte ∷ last) ∷ []) answers more are is

-- a part of what came after the answers so far
part_over : (out mid now : SinkState) (answers more : List ℕ) → Appends out.written mid.written answers → WritesPart mid now more → WritesPart out now (answers ++ more)
part_over out mid now answers more wrote part =
    (length answers + part.0, subst (Appends out.written now.written) (sym (take-append-add answers more part.0)) (Appends-trans out.written mid.written now.written answers (take part.0 more) wrote part.1))

rose_over : (before mid now : ℕ) → before ≤ mid → Rose mid now → Rose before now
rose_over before mid now never_falls rose = omega (arith, never_falls, rose)

module _ (source source_now : SourceState) (out out_now : SinkState) (kept : List ℕ) (count : ℕ) (p : Progress source source_now out out_now kept count) where
  began_whole : BeganWith source.left (flat_map with_end p.lines)
  began_whole = began source.left source_now.left p.text (flat_map with_end p.lines) p.line p.gives p.in_lines.spelled

  front : (after : SourceState) → (r : Reading) × AnswersFront (call source after out out_now) r
  front after = (whole p.lines p.answers, record { reading = whole_is p.lines p.answers p.in_lines.each p.answered; gave = began_whole; writes = p.writes })

  pub read_fault : (after : SourceState) → Rose source_now.faults after.faults → Says (call source after out out_now) ReadFault
  read_fault after rose = record { rose = rose_over source.faults source_now.faults after.faults p.source_never_falls rose; front = front after }

  pub limit : 2 ^ 64 - 1 ≤ count → Says (call source source_now out out_now) Limit
  limit many = record { over = (p.text, p.gives, omega (arith, many, p.counted)); front = front source_now }

  no_memory : (after : SourceState) (out_after : SinkState) → out_after ≡ out_now → Says (call source after out out_after) NoMemory
  no_memory after out_after same = subst (λ o. Says (call source after out o) NoMemory) (sym same) (front after)

  -- one more piece
  pub goes_on : (after : SourceState) (out_after : SinkState) (kept_after piece : List ℕ) → Consumes source_now.left after.left piece → 1 ≤ length piece → source_now.faults ≤ after.faults → out_now.faults ≤ out_after.faults
      → WroteSays (ended p.line piece) out_now out_after Done → Keeps kept_after (begun p.line piece) → Progress source after out out_after kept_after (count + 1)
  goes_on after out_after kept_after piece gives some source_falls out_falls wrote keeps = record {
    text = p.text ++ piece;
    lines = p.lines ++ ended p.line piece;
    line = begun p.line piece;
    answers = p.answers ++ wrote.answers;
    gives = Consumes-trans source.left source_now.left after.left p.text piece p.gives gives;
    in_lines = more_lines p.text p.lines p.line piece p.in_lines;
    keeps = keeps;
    answered = answers-append p.lines (ended p.line piece) p.answers wrote.answers p.answered wrote.answered;
    writes = Appends-trans out.written out_now.written out_after.written p.answers wrote.answers p.writes wrote.writes;
    counted = omega (arith, p.counted, some, length-append p.text piece);
    source_never_falls = omega (arith, p.source_never_falls, source_falls);
    out_never_falls = omega (arith, p.out_never_falls, out_falls);
  }

  -- a piece whose answers were not all written
  pub piece_says : (after : SourceState) (out_after : SinkState) (piece : List ℕ) (status : Status) → Consumes source_now.left after.left piece
      → WroteSays (ended p.line piece) out_now out_after status → status ≢ Done → Says (call source after out out_after) status
  piece_says after out_after piece WriteFault gives wrote not_done =
      let lines = more_lines p.text p.lines p.line piece p.in_lines in
      let answers = p.answers ++ wrote.0.answers in
      let all = Consumes-trans source.left source_now.left after.left p.text piece p.gives gives in
      record {
        rose = rose_over out.faults out_now.faults out_after.faults p.out_never_falls wrote.1;
        part = (
          whole (p.lines ++ ended p.line piece) answers,
          record {
            reading = whole_is (p.lines ++ ended p.line piece) answers lines.each (answers-append p.lines (ended p.line piece) p.answers wrote.0.answers p.answered wrote.0.answered);
            gave = began source.left after.left (p.text ++ piece) (flat_map with_end (p.lines ++ ended p.line piece)) (begun p.line piece) all lines.spelled;
            writes = part_over out out_now out_after p.answers wrote.0.answers p.writes wrote.0.writes;
          },
        );
      }
  piece_says after out_after piece NoMemory gives wrote not_done = no_memory after out_after wrote
  piece_says after out_after piece Done gives wrote not_done = absurd (not_done refl)
  piece_says after out_after piece Usage gives wrote not_done = absurd wrote
  piece_says after out_after piece Limit gives wrote not_done = absurd wrote
  piece_says after out_after piece ReadFault gives wrote not_done = absurd wrote

  gave_all : (after : SourceState) → Consumes source_now.left after.left [] → Consumes source.left after.left p.text
  gave_all after gives = subst (Consumes source.left after.left) (append-nil p.text) (Consumes-trans source.left source_now.left after.left p.text [] p.gives gives)

  last_is : (more : List ℕ) → AreAnswers (and_last [] p.line) more → IsReading (record { text = p.text; lines = p.lines; last = p.line; answers = p.answers ++ more })
  last_is more are = record { in_lines = p.in_lines; answered = last_answers p.lines p.line p.answers more p.answered are }

  -- the end of the text
  pub end_says : (after : SourceState) (out_after : SinkState) (status : Status) → Consumes source_now.left after.left [] → IsAtEnd after.left
      → WroteSays (and_last [] p.line) out_now out_after status → Says (call source after out out_after) status
  end_says after out_after Done gives ends wrote = (
    record { text = p.text; lines = p.lines; last = p.line; answers = p.answers ++ wrote.answers },
    record {
      reading = last_is wrote.answers wrote.answered;
      gives = gave_all after gives;
      ends = ends;
      writes = Appends-trans out.written out_now.written out_after.written p.answers wrote.answers p.writes wrote.writes;
    },
  )
  end_says after out_after WriteFault gives ends wrote = record {
    rose = rose_over out.faults out_now.faults out_after.faults p.out_never_falls wrote.1;
    part = (
      record { text = p.text; lines = p.lines; last = p.line; answers = p.answers ++ wrote.0.answers },
      record {
        reading = last_is wrote.0.answers wrote.0.answered;
        gave = began source.left after.left p.text p.text [] (gave_all after gives) (sym (append-nil p.text));
        writes = part_over out out_now out_after p.answers wrote.0.answers p.writes wrote.0.writes;
      },
    );
  }
  end_says after out_after NoMemory gives ends wrote = no_memory after out_after wrote
  end_says after out_after Usage gives ends wrote = absurd wrote
  end_says after out_after Limit gives ends wrote = absurd wrote
  end_says after out_after ReadFault gives ends wrote = absurd wrote

-- what is kept of a last line that is not empty, and of one that is
pub last_line : (kept line : List ℕ) → Keeps kept line → kept ≢ [] → and_last [] line ≡ line ∷ []
last_line kept [] keeps some = absurd (some keeps)
last_line kept (byte ∷ line) keeps some = refl

pub length_zero : (kept : List ℕ) → kept ≡ [] → (length kept == 0) ≡ false → ⊥
length_zero kept none some = let long = ap length none in grind (arith, nat_tests, long, some)

pub one_answer : (line old new : List ℕ) → AddsLine line old new → old ≡ [] → AreAnswers (line ∷ []) new
one_answer line old new adds none = (adds.answer, [], adds.answered, refl, adds.grown ∙ ap (λ l. l ++ with_end adds.answer) none ∙ sym (append-nil (with_end adds.answer)))
