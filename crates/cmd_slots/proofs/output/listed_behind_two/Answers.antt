use Rattle.std.proofs.Common.{◌≡◌, ◌≢◌, ◌<◌, ◌^◌, ℕ, min, ap, sym, ◌∙◌, rules, true, false, get_or}
use Rattle.cmd_slots.proofs.Outputs.{status_read, number_read, listed_here, listed_no_pages, listed_bad}
use Rattle.cmd_slots.proofs.output.listed_behind_two.Goals as goal
use Rattle.cmd_slots.proofs.output.listed_behind_two.Goals.{else-lists_pages-via-then-lists_pages+else-words-eq0, else-lists_pages-via-else-lists_pages}

pub returns-then-words-eq0-clause-listed : goal.returns-then-words-eq0-clause-listed
returns-then-words-eq0-clause-listed c =
    let words = c.args.words.now in
    let small : (k : ℕ) → get_or words k 0 < 2 ^ 64 = λ k. search (rules, c.type_inv.words) in
    let lists = sym c.lists_pages.ensures ∙ c.if-lists_pages.true in
    let good = status_read words c.requires (small 0) ∙ c.if-words-eq0.true in
    c.min.ensures ∙ (ap (λ n. min n 88) (sym (number_read words c.requires (small 1))) ∙ sym (listed_here c.args.c.now words lists good))

pub returns-else-lists_pages-clause-listed : goal.returns-else-lists_pages-clause-listed
returns-else-lists_pages-clause-listed c =
    let words = c.args.words.now in
    let small : (k : ℕ) → get_or words k 0 < 2 ^ 64 = λ k. search (rules, c.type_inv.words) in
    elim c.else-lists_pages.branch [
      | else-lists_pages-via-then-lists_pages+else-words-eq0 w ↦ sym (listed_bad c.args.c.now words (λ good. w.if-words-eq0.false (sym (status_read words c.requires (small 0)) ∙ good)))
      | else-lists_pages-via-else-lists_pages w ↦ sym (listed_no_pages c.args.c.now words (sym c.lists_pages.ensures ∙ w.if-lists_pages.false))
    ]
