use Rattle.std.proofs.Common.{◌∙◌, ℕ, List, [], length, refl, sym, subst, ap, arith}
use Rattle.csv.specs.declared.parser.State.TheVariants as st
use Rattle.csv.specs.Reading.{strip_bom}
use Rattle.csv_rows.specs.Plain.{NoReturn}
use Rattle.csv_rows.proofs.Machine.{records-all}
use Rattle.csv_rows.proofs.Marks.{text-marked}
use Rattle.found_rows.proofs.Running.{few-records}
use Rattle.found_rows.proofs.found.FoundRows.of.Goals as goal

pub invariant_of-result : goal.invariant_of-result
invariant_of-result c = record {
  within = omega arith;
  lines = c.if-has_return.ensures.0 refl;
  block = c.block_at-block.ensures.block;
  reached = omega (arith, c.block_at-block.ensures.base);
  spans = c.no_spans-spans.ensures.spans c.without_mark-text.result.now;
}

pub returns-clause-few : goal.returns-clause-few
returns-clause-few c =
    let text = c.without_mark-text.result.now in
    omega (arith, ap (length {A = List (List ℕ)}) (records-all text), few-records st.StartRecord [] [] text refl, c.without_mark-text.ensures.length)

-- a byte order mark has no carriage return
none-behind-mark : (bytes : List ℕ) → NoReturn bytes → NoReturn (strip_bom bytes)
none-behind-mark bytes none = λ k lt is.
    let m = text-marked bytes k lt in
    none _ m.bound (m.byte ∙ is)

pub returns-then-has_return-clause-none : goal.returns-then-has_return-clause-none
returns-then-has_return-clause-none c lines =
    cc (c.if-has_return.ensures.1 (subst NoReturn (sym c.without_mark-text.ensures.text) (none-behind-mark c.args.bytes.now lines)))
