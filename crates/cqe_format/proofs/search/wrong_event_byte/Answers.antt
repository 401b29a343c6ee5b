use Rattle.std.proofs.Common.{sym, ◌∙◌}
use Rattle.prm_fields.proofs.Parts.{byte_value}
use Rattle.cqe_format.proofs.Events.{wrong_first, wrong_type, wrong_completion, wrong_error}
use Rattle.cqe_format.proofs.search.wrong_event_byte.Goals as goal

pub returns-then-bytes-ne0 : goal.returns-then-bytes-ne0
returns-then-bytes-ne0 c = wrong_first c.args.bytes.now c.told-bytes c.fits-bytes c.if-bytes-ne0.true

pub returns-then-event_type-eq-COMPLETION : goal.returns-then-event_type-eq-COMPLETION
returns-then-event_type-eq-COMPLETION c =
    let type = sym (byte_value c.args.bytes.now 1 (c.fits-bytes 1)) ∙ sym c.get-event_type.ensures.value ∙ c.if-event_type-eq-COMPLETION.true in
    wrong_completion c.args.bytes.now c.told-bytes c.fits-bytes c.set_around.result c.requires c.if-bytes-ne0.false type c.set_around.ensures

pub returns-then-event_type-eq-CQ_ERROR : goal.returns-then-event_type-eq-CQ_ERROR
returns-then-event_type-eq-CQ_ERROR c =
    let type = sym (byte_value c.args.bytes.now 1 (c.fits-bytes 1)) ∙ sym c.get-event_type.ensures.value ∙ c.if-event_type-eq-CQ_ERROR.true in
    wrong_error c.args.bytes.now c.told-bytes c.fits-bytes c.set_around-then-event_type-eq-CQ_ERROR.result c.requires c.if-bytes-ne0.false type c.set_around-then-event_type-eq-CQ_ERROR.ensures

pub returns-else-event_type-eq-CQ_ERROR : goal.returns-else-event_type-eq-CQ_ERROR
returns-else-event_type-eq-CQ_ERROR c =
    let type = c.get-event_type.ensures.value ∙ byte_value c.args.bytes.now 1 (c.fits-bytes 1) in
    wrong_type c.args.bytes.now c.told-bytes c.fits-bytes c.if-bytes-ne0.false
    (λ none. c.if-event_type-eq-COMPLETION.false (type ∙ none))
    (λ four. c.if-event_type-eq-CQ_ERROR.false (type ∙ four))
