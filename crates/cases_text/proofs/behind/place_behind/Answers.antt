-- `place_behind` meets its contract. Assumes nothing.
use Rattle.std.proofs.Common.{arith, rules, ◌≡◌, ◌≤◌, ◌<◌, ◌+◌, ◌-◌, List, ℕ, length, sym, ap, ◌∙◌}
use Rattle.cases_text.specs.Places.{begin_of, word_of}
use Rattle.cases_text.specs.Behind.{same_word, behind_to}
use Rattle.cases_text.proofs.Words.{same_word_lem, next_begins, between_is, word_found, word_passed, words_done}
use Rattle.cases_text.proofs.behind.place_behind.Goals.{then-eq, else-eq}
use Rattle.cases_text.proofs.behind.place_behind.Goals as goal

pub loop-at-init : goal.loop-at-init
unfolding begin_of behind_to
loop-at-init c = search rules

pub loop-at-preserved : goal.loop-at-preserved
loop-at-preserved c =
    let words = c.args.words.now in
    let name = c.args.name.now in
    let k = c.loop-at.k in
    let here = c.loop-at.invariant.2 in
    let test : c.eq.result ≡ same_word (word_of words k) name =
    c.eq.ensures
    ∙ same_word_lem _ _
    ∙ ap (λ (w : List ℕ). same_word w name) (between_is 32 words k c.loop-at.at c.find-end.result here c.find-end.ensures.value)
    in
    let there : begin_of 32 words k < length words = omega arith in (
      omega arith,
      omega arith,
      c.next-at.ensures ∙ next_begins 32 words k c.loop-at.at c.find-end.result here c.find-end.ensures.value,
      elim c.if-eq.branch [
        | then-eq w ↦ word_found words name k c.if-eq.place there (sym test ∙ w.if-eq.true) w.place-is
        | else-eq w ↦ word_passed words name k c.if-eq.place there (sym test ∙ w.if-eq.false) (w.place-is ∙ c.loop-at.invariant.3)
      ],
    )

pub returns : goal.returns
returns c =
    let words = c.args.words.now in
    let k = c.loop-at.k in
    let ended : length words ≤ begin_of 32 words k = omega arith in
    let all : k + (length words - k) ≡ length words = omega arith in
    c.loop-at.invariant.3
    ∙ sym (words_done words c.args.name.now k (length words - k) ended)
    ∙ ap (behind_to words c.args.name.now) all
