use Rattle.std.proofs.Common.{◌≡◌, ◌<◌, ◌+◌, ◌-◌, ◌*◌, ◌/◌, ◌%◌, ◌^◌, ◌∙◌, FitsSigned, Option, ap, arith, subst, sym, w64}
use Rattle.par_model.specs.PlanLayout.{unused}
use Rattle.std.specs.Option.{ForSome}
use Rattle.plan_descriptor.specs.declared.words.NumberFilter.{NumberFilter as Filter}
use Rattle.plan_descriptor.proofs.Padded.{padded}
use Rattle.plan_descriptor.proofs.Sections.{word_of_filter, word_of_group, word_of_item}
use Rattle.plan_descriptor.specs.Descriptor.{filter_word, item_word}
use Rattle.plan_descriptor.proofs.words.plan_word.Goals as goal

pub returns-then-place-lt12-clause-word : goal.returns-then-place-lt12-clause-word
returns-then-place-lt12-clause-word c =
    let i = c.args.place - 4 in
    let inside = c.plan.inside in
    let same : 4 + i ≡ c.args.place = omega arith in
    let front = padded inside.groups c.args.plan.now.groups inside.group_count (8 - inside.group_count) i 0 (sym (ap (λ p. p.groups) c.plan.view_is)) c.plan.invariant.groups_end in
    c.from.ensures ∙ sym front ∙ sym (rw same at (word_of_group 2 c.args.plan.now i (omega arith)))

pub returns-then-place-lt28-clause-word : goal.returns-then-place-lt28-clause-word
returns-then-place-lt28-clause-word c =
    let i = (c.args.place - 12) / 2 in
    let k = c.args.place % 2 in
    let inside = c.plan.inside in
    let same : 12 + 2 * i + k ≡ c.args.place = omega arith in
    let front = padded inside.items c.args.plan.now.items inside.item_count (8 - inside.item_count) i unused (sym (ap (λ p. p.items) c.plan.view_is)) c.plan.invariant.items_end in
    c.item_word.ensures.word ∙ ap (λ item. item_word item k) (sym front) ∙ sym (rw same at (word_of_item 2 c.args.plan.now i k (omega arith) (omega arith)))

pub returns-then-place-lt28-clause-item : goal.returns-then-place-lt28-clause-item
returns-then-place-lt28-clause-item c = λ _ _.
    let i = (c.args.place - 12) / 2 in
    let inside = c.plan.inside in
    rw (padded inside.items c.args.plan.now.items inside.item_count (8 - inside.item_count) i unused (sym (ap (λ p. p.items) c.plan.view_is)) c.plan.invariant.items_end) c.item_word.ensures.column

pub returns-clause-value : goal.returns-clause-value
returns-clause-value c = λ _. subst (λ (o : Option Filter). ForSome o (λ filter. (filter.column < 2 ^ 32) × FitsSigned w64 filter.value)) c.filter_of.ensures c.filter_word.ensures.value

pub returns-clause-word : goal.returns-clause-word
returns-clause-word c =
    let same : 28 + (c.args.place - 28) ≡ c.args.place = omega arith in
    c.filter_word.ensures.word ∙ ap (λ (o : Option Filter). filter_word o (c.args.place - 28)) c.filter_of.ensures ∙ sym (rw same at (word_of_filter 2 c.args.plan.now (c.args.place - 28)))
