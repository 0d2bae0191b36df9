use Rattle.std.proofs.Common.{◌≡◌, ◌++◌, ◌∷◌, ◌∙◌, [], ℕ, List, ap, length, map, rules, subst, sym}
use Rattle.csv.specs.Records.{cut_from}
use Rattle.csv_rows.specs.Store.{Covers}
use Rattle.line_runs.specs.Entries.{entry_in}
use Rattle.line_runs.proofs.Entries.{covers_ended, run_ended}
use Rattle.line_runs.proofs.run.Run.ended.Goals as goal

pub of-requires : goal.of-requires
of-requires c =
    let bytes = c.args.bytes.items in
    let ends = c.args.ends.items in
    let size : c.len.result ≡ length bytes = search rules in
    let places : c.push.new.self.items ≡ ends ++ length bytes ∷ [] = c.in_ok-push.ensures.items ∙ ap (λ (n : ℕ). ends ++ n ∷ []) size in
    let r = c.requires in
    subst (λ (es : List ℕ). Covers es (length bytes)) (sym places) (covers_ended bytes ends r.0 r.1 r.2 r.3)

pub returns : goal.returns
returns c = λ front entry covers is.
    let bytes = c.args.bytes.items in
    let ends = c.args.ends.items in
    let size : c.len.result ≡ length bytes = search rules in
    let places : c.push.new.self.items ≡ ends ++ length bytes ∷ [] = c.in_ok-push.ensures.items ∙ ap (λ (n : ℕ). ends ++ n ∷ []) size in
    c.of.ensures ∙ ap (λ (es : List ℕ). map entry_in (cut_from 0 es bytes)) places ∙ run_ended bytes ends front entry covers is
