use Rattle.std.proofs.Common.{◌≡◌, ◌<◌, ◌%◌, ◌∙◌, ℕ, get_or, ap, ap₂, arith, sym}
use Rattle.std.specs.Ordering.{is_ne, nat_cmp}
use Rattle.std.specs.declared.cmp.Ordering.{Ordering}
use Rattle.gather_merge.specs.Order.{columns_at}
use Rattle.gather_merge.specs.RowWords.{tail_cmp}
use Rattle.gather_merge.proofs.Compared.{by_tail, tied_numbers, words_decide, words_tie}
use Rattle.gather_merge.proofs.comparing.compare.Goals.{else-is_whole, then-is_whole}
use Rattle.gather_merge.proofs.comparing.compare.Goals as goal

pub returns-then-is_ne : goal.returns-then-is_ne
returns-then-is_ne c =
    let words = c.args.words.now in
    let order : c.cmp-order.result ≡ nat_cmp (get_or words c.args.a 0) (get_or words c.args.b 0) = c.cmp-order.ensures ∙ ap₂ nat_cmp c.word_at-word.ensures c.word_at.ensures in
    order ∙ words_decide c.args.plan.now c.args.rows.now words c.requires.words c.args.a c.args.b (ap is_ne (sym order) ∙ sym c.is_ne.ensures ∙ c.if-is_ne.true)

pub returns : goal.returns
returns c =
    let plan = c.args.plan.now in
    let records = c.args.rows.now in
    let words = c.args.words.now in
    let order : c.cmp-order.result ≡ nat_cmp (get_or words c.args.a 0) (get_or words c.args.b 0) = c.cmp-order.ensures ∙ ap₂ nat_cmp c.word_at-word.ensures c.word_at.ensures in
    let same : get_or words c.args.a 0 ≡ get_or words c.args.b 0 = tied_numbers (get_or words c.args.a 0) (get_or words c.args.b 0) (ap is_ne (sym order) ∙ sym c.is_ne.ensures ∙ c.if-is_ne.false) in
    let From : ℕ → Ordering = λ from. tail_cmp (columns_at plan records) from c.args.a c.args.b in
    elim c.if-is_whole.branch [
      | then-is_whole w ↦
          let whole : get_or words c.args.a 0 % 256 < 8 = grind (arith, sym c.is_whole.ensures ∙ w.if-is_whole.true, c.word_at-word.ensures) in
          c.compare_from.ensures ∙ ap From w.compare_from-is ∙ sym (words_tie plan records words c.requires.words c.args.a c.args.b same whole)
      | else-is_whole w ↦ c.compare_from.ensures ∙ ap From w.compare_from-is ∙ sym (by_tail plan records c.args.a c.args.b)
    ]
