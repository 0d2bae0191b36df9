use Rattle.std.proofs.Common.{◌+◌, ◌∙◌, ℕ, List, arith, get_or, get_or-set_other, get_or-set_same, length-set, set, subst, sym}
use Rattle.csv_rows.specs.Records.{record_at}
use Rattle.key_index.proofs.Index.{more_steps}
use Rattle.partial_agg.specs.Status.{IsHashOf, IsKeptBy}
use Rattle.partial_agg.proofs.ahead.hashes_of.Goals as goal

pub loop-at-preserved : goal.loop-at-preserved
loop-at-preserved c =
    let plan = c.args.plan.now in
    let width = c.args.width in
    let rows = c.args.rows.now in
    let at = c.loop-at.at in
    let hashes = c.loop-at.hashes in
    let hash = c.hash_row-hash.result.0 in
    record {
      long = length-set hashes at hash ∙ c.loop-at.invariant.long;
      lasts = length-set c.loop-at.lasts at c.hash_row-hash.result.1 ∙ c.loop-at.invariant.lasts;
      each = more_steps {P = λ k. IsHashOf plan width (record_at rows (c.args.first + k)) (get_or (set hashes at hash) k 0)} at
          (λ k lt key kept. get_or-set_other hashes at k hash 0 (λ e. omega (arith, e, lt)) ∙ c.loop-at.invariant.each k lt key kept)
          (λ key kept. get_or-set_same hashes at hash 0 (omega (arith, c.loop-at.invariant.long)) ∙ c.hash_row-hash.ensures key (subst (λ (row : List (List ℕ)). IsKeptBy plan width row key) (sym c.find.ensures) kept));
    }
