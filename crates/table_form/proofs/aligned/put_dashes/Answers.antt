use Rattle.std.proofs.Common.{◌∷◌, [], ℕ, append-nil, replicate, sym}
use Rattle.std.specs.List.{join_by}
use Rattle.table_form.specs.Aligned.{gap}
use Rattle.table_form.proofs.Joins.{piece-end, piece-more, two-after}
use Rattle.table_form.proofs.aligned.put_dashes.Goals as goal

pub columns-init : goal.columns-init
columns-init c = sym (append-nil c.args.out.now.items)

pub columns-preserved : goal.columns-preserved
columns-preserved c =
    piece-more (λ (size : ℕ). replicate size 45) gap c.args.sizes.now c.columns.at 0 c.args.out.now.items c.columns.out.items c.put_lead.new.out.items c.put_times.new.out.items c.columns-test.true c.in_ok-put_lead.ensures
    c.in_ok-put_times.ensures c.columns.invariant

pub returns : goal.returns
returns c =
    two-after c.args.out.now.items (join_by (λ (size : ℕ). replicate size 45) gap c.args.sizes.now) (10 ∷ []) c.columns.out.items c.push.new.self.items
    (piece-end (λ (size : ℕ). replicate size 45) gap c.args.sizes.now c.columns.at c.args.out.now.items c.columns.out.items c.columns-test.false c.columns.invariant) c.in_ok-push.ensures.items
