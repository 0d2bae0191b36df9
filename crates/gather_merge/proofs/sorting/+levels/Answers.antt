use Rattle.std.proofs.Common.{◌≡◌, ◌<◌, ◌≤◌, ◌+◌, ◌*◌, ◌-◌, ◌∙◌, All, List, ℕ, rules, arith, length, subst, sym}
use Rattle.std.proofs.lemmas.Fn.{always_returns_same}
use Rattle.std.proofs.lemmas.List.Sorted.{All-permutation, IsPermutation-map, IsPermutation-trans, ranks_by}
use Rattle.std.specs.Ordering.{is_lt}
use Rattle.gather_merge.specs.declared.sorting.Keyed.{Keyed}
use Rattle.gather_merge.specs.Levels.{AreTied, IsWorded, Sorts, rows_of}
use Rattle.gather_merge.specs.Order.{columns_at, row_cmp}
use Rattle.gather_merge.proofs.Compared.{even}
use Rattle.gather_merge.proofs.Ordered.{rows_total}
use Rattle.gather_merge.proofs.Runs.{alone, follows_few, in_order, level_end, level_more, moved_tied, numbers_decide, part_all, part_long, part_one, part_sorted, part_tied, sorted_rows, strict_of, tied_follows}
use Rattle.gather_merge.proofs.sorting.+levels.Goals.{sort_ties-then-ties-eq1-via-else-ties-eq1+then-column-group_columns, sort_ties-then-ties-eq1-via-then-ties-eq1}
use Rattle.gather_merge.proofs.sorting.+levels.Goals as goal

pub sort_level-sort_ties-requires : goal.sort_level-sort_ties-requires
sort_level-sort_ties-requires t c =
    let cmp = row_cmp c.args.plan.now c.args.rows.now in
    let columns = columns_at c.args.plan.now c.args.rows.now in
    let s = c.sort_unstable.new.self in
    let run = c.loop-from.run in
    let from = c.loop-from.from in
    let n = c.end_of_ties-to.result - from in
    let inv = c.loop-from.invariant.done in
    let within = c.end_of_ties-to.ensures.within in
    let worded : All (IsWorded columns c.args.column c.args.offset) s = All-permutation (IsWorded columns c.args.column c.args.offset) c.args.run.now s c.sort_unstable.ensures.permutation c.requires.worded in
    let tied : AreTied cmp columns c.args.column c.args.offset (rows_of s) = moved_tied cmp columns c.args.column c.args.offset c.args.run.now s c.sort_unstable.ensures.permutation c.requires.tied in (
      omega (arith, c.decreases),
      (
        c.requires.words,
        (
          search rules,
          (
            part_sorted cmp s run from n inv c.sort_unstable.ensures.sorted,
            (
              part_one cmp run from c.end_of_ties-to.result within.0 within.1 c.end_of_ties-to.ensures.same,
              (part_all cmp s run from n inv (IsWorded columns c.args.column c.args.offset) worded, (part_tied cmp columns c.args.column c.args.offset s run from n inv tied, c.requires.few)),
            ),
          ),
        ),
      ),
    )

pub sort_level-loop-from-preserved : goal.sort_level-loop-from-preserved
sort_level-loop-from-preserved t c =
    let cmp = row_cmp c.args.plan.now c.args.rows.now in
    let columns = columns_at c.args.plan.now c.args.rows.now in
    let s = c.sort_unstable.new.self in
    let within = c.end_of_ties-to.ensures.within in
    let worded : All (IsWorded columns c.args.column c.args.offset) s = All-permutation (IsWorded columns c.args.column c.args.offset) c.args.run.now s c.sort_unstable.ensures.permutation c.requires.worded in
    let tied : AreTied cmp columns c.args.column c.args.offset (rows_of s) = moved_tied cmp columns c.args.column c.args.offset c.args.run.now s c.sort_unstable.ensures.permutation c.requires.tied in
    let strict = strict_of cmp columns (length c.args.plan.now.groups) (even c.args.plan.now c.args.rows.now) c.args.column c.args.offset s worded tied in
    record {
      done = level_more cmp (rows_total c.args.plan.now c.args.rows.now) s c.loop-from.run c.sort_ties.new.ties c.loop-from.from c.end_of_ties-to.result c.sort_unstable.ensures.sorted strict c.loop-from.invariant.done within.0 within.1
          c.end_of_ties-to.ensures.same c.end_of_ties-to.ensures.other (c.sort_ties.auto.ties ∙ part_long cmp c.loop-from.run c.loop-from.from c.end_of_ties-to.result within.0 within.1) c.sort_ties.ensures;
    }

pub sort_level-returns : goal.sort_level-returns
sort_level-returns t c =
    let cmp = row_cmp c.args.plan.now c.args.rows.now in
    let s = c.sort_unstable.new.self in
    let done : Sorts cmp (rows_of s) (rows_of c.loop-from.run) = level_end cmp s c.loop-from.run c.loop-from.from c.loop-from.invariant.done c.loop-from-test.false in
    record { each = IsPermutation-trans (rows_of c.args.run.now) (rows_of s) (rows_of c.loop-from.run) (IsPermutation-map (λ (k : Keyed). k.row) c.args.run.now s c.sort_unstable.ensures.permutation) done.each; rising = done.rising }

pub sort_ties-returns-then-ties-eq1 : goal.sort_ties-returns-then-ties-eq1
sort_ties-returns-then-ties-eq1 t c =
    let plan = c.args.plan.now in
    let records = c.args.rows.now in
    let cmp = row_cmp plan records in
    let ties = c.args.ties.now in
    let next = c.next_level-column.result in
    elim c.then-ties-eq1.branch [
      | sort_ties-then-ties-eq1-via-then-ties-eq1 w ↦ alone cmp ties w.if-ties-eq1.true
      | sort_ties-then-ties-eq1-via-else-ties-eq1+then-column-group_columns w ↦
          let columns = columns_at plan records in
          let tied : AreTied cmp columns next.0 next.1 (rows_of ties) =
          tied_follows cmp columns (length plan.groups) (even plan records) c.args.column c.args.offset next.0 next.1 ties c.requires.worded c.requires.one c.requires.tied c.next_level-column.ensures in
          in_order cmp ties c.requires.sorted c.requires.one (numbers_decide cmp columns (length plan.groups) (even plan records) next.0 next.1 ties
          (subst (λ (l : List ℕ). length l ≤ next.0) w.group_columns.ensures.columns w.if-column-group_columns.true) tied)
    ]

pub sort_ties-returns-then-levels-eq0 : goal.sort_ties-returns-then-levels-eq0
sort_ties-returns-then-levels-eq0 t c =
    let cmp = row_cmp c.args.plan.now c.args.rows.now in
    let old = c.args.ties.now in
    let new = c.sort_unstable_by.new.self in
    record {
      each = IsPermutation-map (λ (k : Keyed). k.row) old new c.sort_unstable_by.ensures.permutation;
      rising = sorted_rows cmp new (c.sort_unstable_by.ensures.sorted (λ (a b : Keyed). is_lt (cmp a.row b.row)) (ranks_by (rows_total c.args.plan.now c.args.rows.now) (λ (k : Keyed). k.row)) (always_returns_same _ (λ a r. is_lt r ≡ is_lt (cmp a.0.now.row a.1.0.now.row)) _ (λ a r f' k. search rules)));
    }

pub sort_ties-sort_level-requires : goal.sort_ties-sort_level-requires
sort_ties-sort_level-requires t c =
    let plan = c.args.plan.now in
    let records = c.args.rows.now in
    let cmp = row_cmp plan records in
    let columns = columns_at plan records in
    let ties = c.args.ties.now in
    let next = c.next_level-column.result in
    let tied : AreTied cmp columns next.0 next.1 (rows_of ties) =
    tied_follows cmp columns (length plan.groups) (even plan records) c.args.column c.args.offset next.0 next.1 ties c.requires.worded c.requires.one c.requires.tied c.next_level-column.ensures in
    let more : 0 < c.args.levels = omega (arith, c.if-levels-eq0.false) in
    let few : next.1 + 7 * (c.args.levels - 1) ≤ 448 = follows_few _ c.args.column c.args.offset next.0 next.1 c.args.levels c.next_level-column.ensures c.requires.few.1 more in (
      omega (arith, c.decreases, more),
      (
        c.requires.words,
        (
          c.load_words.ensures.worded,
          (
            subst (AreTied cmp columns next.0 next.1) (sym c.load_words.ensures.rows) tied,
            (omega (arith, c.if-column-group_columns.false, c.group_columns.ensures.few), few),
          ),
        ),
      ),
    )
