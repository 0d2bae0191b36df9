use Rattle.std.proofs.Common.{◌≤◌, ◌∙◌, ℕ, List, arith, length, subst, sym, true≢false}
use Rattle.std.proofs.lemmas.List.{length-take-le}
use Rattle.row_lists.specs.Carried.{AreRows}
use Rattle.row_lists.proofs.Rows.{HasFirst, front_is, next_is, none_left, some_first}
use Rattle.row_lists.proofs.cursor.RowCursor.next.Goals as goal

pub invariant_of-self : goal.invariant_of-self
invariant_of-self c =
    let bytes = c.self.inside.rest.now in
    let f : HasFirst bytes = some_first bytes c.self.invariant (λ none. true≢false (c.in-Some.ensures.none none)) in
    let key = c.in-Some.ensures.row f.row f.more f.fits f.is in
    let read = c.read_values-self-inside.ensures.written f.row.values f.more f.fits.whole (sym key.1 ∙ sym (length-take-le c.in-Some.count c.args.values.now (omega (arith, c.in-Some.ensures.few, c.told-values)))) key.2 in
    subst AreRows (sym read.1) f.left

pub returns-clause-row : goal.returns-clause-row
returns-clause-row c =
    let bytes = c.self.inside.rest.now in
    let f : HasFirst bytes = some_first bytes c.self.invariant (λ none. true≢false (c.in-Some.ensures.none none)) in
    let key = c.in-Some.ensures.row f.row f.more f.fits f.is in
    let read = c.read_values-self-inside.ensures.written f.row.values f.more f.fits.whole (sym key.1 ∙ sym (length-take-le c.in-Some.count c.args.values.now (omega (arith, c.in-Some.ensures.few, c.told-values)))) key.2 in
    sym c.self.view_is ∙ next_is bytes f c.in-Some.key.now _ c.read_values-self-inside.result.now key.0 (front_is _ _ f.row.values _ key.1 read.0) read.1

pub returns-clause-short : goal.returns-clause-short
returns-clause-short c =
    let bytes = c.self.inside.rest.now in
    let f : HasFirst bytes = some_first bytes c.self.invariant (λ none. true≢false (c.in-Some.ensures.none none)) in
    let key = c.in-Some.ensures.row f.row f.more f.fits f.is in
    subst (λ (k : List ℕ). length k ≤ 248) (sym key.0) f.fits.short

pub returns-in_default-clause-none : goal.returns-in_default-clause-none
returns-in_default-clause-none c =
    sym c.self.view_is ∙ none_left c.self.inside.rest.now c.self.invariant (λ row more fits is. c.in_default.ensures.row row more fits is)
