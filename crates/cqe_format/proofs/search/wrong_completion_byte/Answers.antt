use Rattle.std.proofs.Common.{sym, ◌∙◌}
use Rattle.prm_fields.proofs.Parts.{byte_value}
use Rattle.cqe_format.proofs.Completions.{wrong_head, wrong_middle, wrong_stamp, wrong_syndrome, wrong_sop, wrong_signature, wrong_last}
use Rattle.cqe_format.proofs.search.wrong_completion_byte.Goals as goal

pub returns-in-Some : goal.returns-in-Some
returns-in-Some c = wrong_head c.args.bytes.now c.told-bytes c.fits-bytes c.in-Some.byte c.in-Some.ensures.some

pub returns-in-Some-first_set : goal.returns-in-Some-first_set
returns-in-Some-first_set c =
    wrong_middle c.args.bytes.now c.told-bytes c.fits-bytes c.in_default.ensures.none c.in-Some-first_set.byte c.in-Some-first_set.ensures.some

pub returns-in-Some-first_set-2 : goal.returns-in-Some-first_set-2
returns-in-Some-first_set-2 c =
    wrong_stamp c.args.bytes.now c.told-bytes c.fits-bytes c.in_default.ensures.none c.in_default-first_set.ensures.none c.in-Some-first_set-2.byte c.in-Some-first_set-2.ensures.some

pub returns-then-not-has_fit_syndrome : goal.returns-then-not-has_fit_syndrome
returns-then-not-has_fit_syndrome c =
    wrong_syndrome c.args.bytes.now c.told-bytes c.fits-bytes c.in_default.ensures.none c.in_default-first_set.ensures.none c.in_default-first_set-2.ensures.none
    (sym c.has_fit_syndrome.ensures ∙ c.if-not-has_fit_syndrome.true)

pub returns-then-not-has_fit_sop : goal.returns-then-not-has_fit_sop
returns-then-not-has_fit_sop c =
    wrong_sop c.args.bytes.now c.told-bytes c.fits-bytes c.in_default.ensures.none c.in_default-first_set.ensures.none c.in_default-first_set-2.ensures.none
    (sym c.has_fit_syndrome.ensures ∙ c.if-not-has_fit_syndrome.false)
    (sym c.has_fit_sop.ensures ∙ c.if-not-has_fit_sop.true)

pub returns-then-get-ne0 : goal.returns-then-get-ne0
returns-then-get-ne0 c =
    wrong_signature c.args.bytes.now c.told-bytes c.fits-bytes c.in_default.ensures.none c.in_default-first_set.ensures.none c.in_default-first_set-2.ensures.none
    (sym c.has_fit_syndrome.ensures ∙ c.if-not-has_fit_syndrome.false)
    (sym c.has_fit_sop.ensures ∙ c.if-not-has_fit_sop.false)
    (λ none. c.if-get-ne0.true (c.get.ensures.value ∙ byte_value c.args.bytes.now 62 (c.fits-bytes 62) ∙ none))

pub returns : goal.returns
returns c =
    wrong_last c.args.bytes.now c.told-bytes c.fits-bytes c.in_default.ensures.none c.in_default-first_set.ensures.none c.in_default-first_set-2.ensures.none
    (sym c.has_fit_syndrome.ensures ∙ c.if-not-has_fit_syndrome.false)
    (sym c.has_fit_sop.ensures ∙ c.if-not-has_fit_sop.false)
    c.requires (sym (byte_value c.args.bytes.now 62 (c.fits-bytes 62)) ∙ sym c.get.ensures.value ∙ c.if-get-ne0.false)
