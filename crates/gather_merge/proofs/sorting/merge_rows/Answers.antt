use Rattle.std.proofs.Common.{ℕ, List, OnOk, Result, Ok, Err, subst}
use Rattle.std.specs.List.Sorted.{IsPermutation}
use Rattle.std.proofs.lemmas.List.Sorted.{IsPermutation-trans}
use Rattle.gather_merge.specs.Levels.{rows_of}
use Rattle.gather_merge.proofs.sorting.merge_rows.Goals as goal

-- what an Ok says gives something else
on_ok : {X Y : Type 0} (r : Result X Y) (P Q : Type 0) → (P → Q) → OnOk r P → OnOk r Q
on_ok (Ok x) P Q f p = f p
on_ok (Err y) P Q f p = p

pub returns-clause-permutation : goal.returns-clause-permutation
returns-clause-permutation c =
    let run = c.in_ok-run.run'.items in
    let merged : IsPermutation c.args.list.now.items (rows_of run) = subst (λ (l : List ℕ). IsPermutation l (rows_of run)) c.deref.ensures.value c.in_ok-run.ensures.rows in
    on_ok c.sort_pairs.result _ _ (λ p. IsPermutation-trans c.args.list.now.items (rows_of run) c.sort_pairs.new.list.items merged p) c.sort_pairs.ensures.permutation
