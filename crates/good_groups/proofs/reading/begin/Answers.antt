use Rattle.std.proofs.Common.{◌<◌, ◌≤◌, ◌++◌, ◌∷◌, ◌∙◌, [], List, ℕ, ap, drop, length, rules, slice_index, subst, sym}
use Rattle.csv_rows.specs.Cuts.{IsCut}
use Rattle.good_groups.specs.declared.sieve.Sifting.{Sifting}
use Rattle.good_groups.proofs.Begins.{first_default, line_begun, none_begun, nothing}
use Rattle.good_groups.proofs.Steps.{first_rest}
use Rattle.good_groups.proofs.reading.begin.Goals as goal

pub returns-then-is_empty : goal.returns-then-is_empty
returns-then-is_empty c = λ o left r are is.
    let f = c.args.first.now in
    let text = c.in_ok-text.text.items in
    let whole = c.in_ok-text.ensures.text in
    let made = c.sifting_of.ensures in
    let few : length text ≤ 0 = search rules in
    let none = nothing text few in
    let ahead = ap (λ (s : Sifting). s.sifter.ahead) made ∙ c.in_ok-put.ensures.put ∙ ap (λ (t : List ℕ). t ++ c.header.result.now) (c.new-ahead.ensures ∙ c.new.ensures.items) ∙ c.header.ensures ∙ sym is.line in
    none_begun o left r are f is c.in_ok-text.ensures.last c.sifting_of.result ahead (ap (λ (s : Sifting). s.sifter.tally) made) (ap (λ (s : Sifting). s.halt) made) (ap (λ (s : Sifting). s.lacks) made) (sym whole ∙ none) (ap (λ (s : Sifting). s.is_done) made)

pub returns : goal.returns
returns c = λ o left r are is.
    let f = c.args.first.now in
    let text = c.in_ok-text.text.items in
    let whole = c.in_ok-text.ensures.text in
    let made = c.sifting_of-2.ensures in
    let some : 0 < length text = search rules in
    let cut = subst IsCut (sym is.line) (c.in_ok-text.ensures.cut some) in
    let ahead = ap (λ (s : Sifting). s.sifter.ahead) made ∙ c.in_ok-put.ensures.put ∙ ap (λ (t : List ℕ). t ++ c.header.result.now) (c.new-ahead.ensures ∙ c.new.ensures.items) ∙ c.header.ensures ∙ sym is.line in
    let line = ap (λ (s : Sifting). s.sifter.line.items) made ∙ c.in_ok-push.ensures.items ∙ ap (λ (t : List ℕ). t ++ c.index.result.now ∷ []) c.new-line.ensures.items ∙ ap (λ (x : ℕ). x ∷ []) (c.index.ensures ∙ first_default text c.index.result.now some) in
    let pending = ap (λ (s : Sifting). s.sifter.pending) made ∙ c.skip.ensures ∙ ap (drop 1) c.in_ok-pending-2.ensures in
    line_begun o left r are f is c.in_ok-text.ensures.last c.sifting_of-2.result ahead (ap (λ (s : Sifting). s.sifter.tally) made) (ap (λ (s : Sifting). s.halt) made) (ap (λ (s : Sifting). s.lacks) made) cut (slice_index text 0) (drop 1 text)
    (sym whole ∙ first_rest text some) (ap (λ (s : Sifting). s.is_done) made) line (ap (λ (s : Sifting). s.sifter.place) made) pending
