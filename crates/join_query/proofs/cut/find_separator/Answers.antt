use Rattle.std.proofs.Common.{◌≡◌, ◌+◌, ◌∙◌, true, false, length, drop, subst, sym, arith}
use Rattle.std.proofs.lemmas.List.{length-drop, take_rest}
use Rattle.memchr.specs.Find.{Nowhere}
use Rattle.join_query.specs.Outcome.{IsSeparator}
use Rattle.join_query.proofs.Cuts.{none_further, none_here}
use Rattle.join_query.proofs.cut.find_separator.Goals as goal

pub returns-then-is_separator-clause-first : goal.returns-then-is_separator-clause-first
returns-then-is_separator-clause-first c =
    let xs = c.args.bytes.now in
    let at = c.marks.at in
    let found = rw (take_rest xs at) at c.in-Some.ensures in
    let none = none_further xs at c.in-Some.count c.marks.invariant.none found.0.before in
    let size = length-drop at xs in
    let low = found.0.high in
    let is : IsSeparator xs (at + c.in-Some.count) = c.is_separator.ensures.0 c.if-is_separator.true in
    (record { low = omega arith; high = omega (arith, size, low, c.marks.invariant.within); before = none }, is)

pub marks-preserved : goal.marks-preserved
marks-preserved c =
    let xs = c.args.bytes.now in
    let at = c.marks.at in
    let found = rw (take_rest xs at) at c.in-Some.ensures in
    let size = length-drop at xs in
    let low = found.0.high in
    let none = none_further xs at c.in-Some.count c.marks.invariant.none found.0.before in
    record {
      within = omega (arith, size, low, c.marks.invariant.within);
      none = none_here xs (at + c.in-Some.count) none (λ is. let no : true ≡ false = sym (c.is_separator.ensures.1 is) ∙ c.if-is_separator.false in cc no);
    }

pub returns-clause-first : goal.returns-clause-first
returns-clause-first c =
    let xs = c.args.bytes.now in
    let at = c.marks.at in
    let found = rw (take_rest xs at) at c.in_default.ensures in
    let size = length-drop at xs in
    let all : at + length (drop at xs) ≡ length xs = omega (arith, size, c.marks.invariant.within) in
    subst (Nowhere (IsSeparator xs) 0) all (none_further xs at (length (drop at xs)) c.marks.invariant.none found)
