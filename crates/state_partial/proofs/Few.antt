-- Rows have no more groups than they are.
use Rattle.std.proofs.Common.{T, ◌≡◌, ◌≤◌, ◌&&◌, ◌∙◌, ℕ, Bool, true, false, List, [], ◌∷◌, None, Some, ap, arith, bytes_eq, cond, filter, length, length-append, refl, sym}
use Rattle.std.specs.Cmp.Lexicographic.{bytes_decides}
use Rattle.std.specs.FinMap as map
use Rattle.std.specs.List.{AllZip, flat_map}
use Rattle.std.proofs.lemmas.List.{length-map}
use Rattle.std.proofs.lemmas.List.Elements.{filter_passes}
use Rattle.std.proofs.lemmas.List.Sorted.{length_permutation}
use Rattle.gather_law.specs.Tuples.{Group as Entry}
use Rattle.gather_law.proofs.Keys.{StandsFor, filter_through, shared}
use Rattle.par_model.specs.Keep.{is_kept}
use Rattle.par_model.specs.Key.{key_of}
use Rattle.par_model.specs.Plan.{Plan}
use Rattle.partial_agg.specs.Groups.{AreGroups, GroupsByKey, group_of, key_cmp}
use Rattle.partial_agg.specs.Listed.{group, listed}
use Rattle.partial_agg.proofs.Adding.{grouped}
use Rattle.row_blocks.specs.Blocks.{Table}

true_of : (b : Bool) → T b → b ≡ true
true_of true h = refl
true_of false h = absurd h

kept_few : (p : List (List ℕ) → Bool) (rows : Table) → length (filter p rows) ≤ length rows
kept_few p [] = omega arith
kept_few p (row ∷ rows) = go (kept_few p rows) (p row)
  where
    go : length (filter p rows) ≤ length rows → (b : Bool) → length (cond b (row ∷ filter p rows) (filter p rows)) ≤ length (row ∷ rows)
    go rest true = omega (arith, rest)
    go rest false = omega (arith, rest)

module _ (plan : Plan) where
  -- a group stands for a row at least
  some_row : (e : Entry) (rows : Table) → StandsFor plan e rows → 1 ≤ length rows
  some_row e [] stands =
      let mine : bytes_eq e.0 e.0 ≡ true = (bytes_decides e.0 e.0).1 refl in
      let bad : None ≡ Some e.1 = stands.each e.0 ∙ ap (λ (b : Bool). cond b (Some e.1) None) mine in
      cc bad
  some_row e (row ∷ rows) stands = omega arith

  few_lists : (es : List Entry) (lists : List Table) → AllZip (StandsFor plan) es lists → length es ≤ length (flat_map (λ l. l) lists)
  few_lists [] lists zip = omega arith
  few_lists (e ∷ es) [] zip = absurd zip
  few_lists (e ∷ es) (l ∷ lists) zip =
      let one = some_row e l zip.0 in
      let rest = few_lists es lists zip.1 in
      omega (arith, one, rest, length-append l (flat_map (λ l. l) lists))

  not_kept : (q : List ℕ) (row : List (List ℕ)) → is_kept plan row ≡ false → (is_kept plan row && bytes_eq (key_of plan row) q) ≡ false
  not_kept q row e = rw e refl

  kept_group : (rows : Table) (q : List ℕ) → group_of plan (filter (is_kept plan) rows) q ≡ group_of plan rows q
  kept_group rows q = ap (grouped plan) (filter_through (is_kept plan) (λ row. is_kept plan row && bytes_eq (key_of plan row) q) (not_kept q) rows)

  pub few_groups : (rows : Table) (m : GroupsByKey) → AreGroups plan rows m → length (listed m) ≤ length rows
  few_groups rows m are =
      let es = map.entries m in
      let kept = filter (is_kept plan) rows in
      let s = shared plan es kept (true_of (map.is_sorted key_cmp es) (map.entries_sorted m)) (filter_passes (is_kept plan) rows) (λ q. kept_group rows q ∙ sym (are.each q) ∙ map.get-entries m q) in
      let few = few_lists es s.lists s.each in
      let same = length_permutation kept (flat_map (λ l. l) s.lists) s.same in
      let all = kept_few (is_kept plan) rows in
      omega (arith, few, same, all, length-map es group)
