-- Groups are shared out, one after another.
use Rattle.std.proofs.Common.{◌≡◌, ◌<◌, ◌++◌, inl, inr, ℕ, List, [], ◌∷◌, length, Result, Ok, Err, IfErr, OnOk, true, arith, refl, ap, sym, subst, ◌∙◌, append-nil, append_assoc}
use Rattle.std.specs.FinMap as map
use Rattle.std.specs.Result.{is_ok}
use Rattle.std.specs.declared.alloc.AllocError.{AllocError}
use Rattle.std.proofs.lemmas.List.Sums.{fold-append}
use Rattle.agg_table.specs.Calls.{HasPut, Use}
use Rattle.agg_table.proofs.Putting.{has_left_more, has_put_more}
use Rattle.par_model.specs.declared.state.AggState.{AggState}
use Rattle.partial_agg.specs.Groups.{GroupsByKey, added, key_cmp}
use Rattle.partial_agg.specs.Blocks.{Stopped}
use Rattle.partial_agg.specs.declared.map.BlockAnswer.{BlockAnswer}
use Rattle.partial_agg.specs.declared.map.BlockAnswer.TheVariants as answer
use Rattle.par_model.specs.Plan.{Plan}
use Rattle.gather_law.specs.Tuples.{Group}
use Rattle.row_blocks.specs.Blocks.{Table}
use Rattle.worker_run.specs.Working.{most_kept}
use Rattle.gather_run.proofs.Counting.{not_true}
use Rattle.gather_run.specs.Sharing.{SharesGroup, SharesGroups, SharesMany, StopsAt}

nil_of_length : {A : Type 0} (xs : List A) → length xs ≡ 0 → xs ≡ []
nil_of_length [] e = refl
nil_of_length (x ∷ xs) e = let no : ⊥ = grind arith in absurd no

-- an empty map has no groups
pub no_entries : map.entries (map.empty {K = List ℕ} {X = AggState} {R = key_cmp}) ≡ []
no_entries = nil_of_length (map.entries map.empty) (sym (map.len-entries map.empty) ∙ map.len-empty key_cmp AggState)

-- of the groups of a map some were shared out, and the others are in it yet
pub record IsSharing (groups rest : GroupsByKey) (u v : Use) (before now : GroupsByKey) : Type 0 where
  pub done : List Group
  pub split : map.entries groups ≡ done ++ map.entries rest
  pub shares : SharesGroups done u v before now

shares_none : (u : Use) (m : GroupsByKey) → SharesGroups [] u u m m
shares_none u m = record {
  put = [];
  left = [];
  more = λ gs ps ls h.
      subst (λ (xs : List Group). HasPut xs u (ps ++ []) (ls ++ [])) (sym (append-nil gs))
      (subst (λ (xs : List Group). HasPut gs u xs (ls ++ [])) (sym (append-nil ps)) (subst (λ (xs : List Group). HasPut gs u ps xs) (sym (append-nil ls)) h));
  kept = refl;
}

shares_more : (done : List Group) (u v w : Use) (before mid now : GroupsByKey) (g : Group) → SharesGroups done u v before mid → SharesGroup v w mid now g → SharesGroups (done ++ g ∷ []) u w before now
shares_more done u v w before mid now g x (inl p) = record {
  put = x.put ++ g ∷ [];
  left = x.left;
  more = λ gs ps ls h.
      subst (λ (xs : List Group). HasPut xs w (ps ++ (x.put ++ g ∷ [])) (ls ++ x.left)) (append_assoc gs done (g ∷ []))
      (subst (λ (xs : List Group). HasPut ((gs ++ done) ++ g ∷ []) w xs (ls ++ x.left)) (append_assoc ps x.put (g ∷ [])) (has_put_more (gs ++ done) (ps ++ x.put) (ls ++ x.left) v w g (x.more gs ps ls h) p.0));
  kept = p.1 ∙ x.kept;
}
shares_more done u v w before mid now g x (inr p) = record {
  put = x.put;
  left = x.left ++ g ∷ [];
  more = λ gs ps ls h.
      subst (λ (xs : List Group). HasPut xs w (ps ++ x.put) (ls ++ (x.left ++ g ∷ []))) (append_assoc gs done (g ∷ []))
      (subst (λ (xs : List Group). HasPut ((gs ++ done) ++ g ∷ []) w (ps ++ x.put) xs) (append_assoc ls x.left (g ∷ [])) (has_left_more (gs ++ done) (ps ++ x.put) (ls ++ x.left) v w g (x.more gs ps ls h) p.0));
  kept = p.1 ∙ ap (λ (m : GroupsByKey). added m g.0 g.1) x.kept ∙ sym (fold-append (λ (so_far : GroupsByKey) (group : Group). added so_far group.0 group.1) before x.left (g ∷ []));
}

pub sharing-start : (groups : GroupsByKey) (u : Use) (m : GroupsByKey) → IsSharing groups groups u u m m
sharing-start groups u m = record { done = []; split = refl; shares = shares_none u m }

pub sharing-step : (groups rest rest' : GroupsByKey) (u v w : Use) (before mid now : GroupsByKey) (g : Group) → IsSharing groups rest u v before mid → map.entries rest ≡ g ∷ map.entries rest' → SharesGroup v w mid now g
    → IsSharing groups rest' u w before now
sharing-step groups rest rest' u v w before mid now g i e x = record {
  done = i.done ++ g ∷ [];
  split = i.split ∙ ap (λ l. i.done ++ l) e ∙ sym (append_assoc i.done (g ∷ []) (map.entries rest'));
  shares = shares_more i.done u v w before mid now g i.shares x;
}

pub sharing-end : (groups rest : GroupsByKey) (u v : Use) (before now : GroupsByKey) → IsSharing groups rest u v before now → rest ≡ map.empty → SharesGroups (map.entries groups) u v before now
sharing-end groups rest u v before now i e =
    let all : map.entries groups ≡ i.done = i.split ∙ ap (λ (m : GroupsByKey). i.done ++ map.entries m) e ∙ ap (λ l. i.done ++ l) no_entries ∙ append-nil i.done in
    subst (λ (gs : List Group). SharesGroups gs u v before now) (sym all) i.shares

-- what is said of an answer that is Ok holds where it is
pub where_ok : (P : Type 0) (r : Result (Unit {0}) AllocError) → is_ok r ≡ true → OnOk r P → P
where_ok P (Ok done) e h = h
where_ok P (Err why) e h = absurd (not_true (sym e))

-- all that was shared out leaves few
pub shared_many : (all kept : GroupsByKey) (u v : Use) (before now : GroupsByKey) (r : Result (Unit {0}) AllocError) → OnOk r (kept ≡ map.empty) → OnOk r (SharesGroups (map.entries all) u v before now) → OnOk r (SharesMany all u v kept before now)
shared_many all kept u v before now (Ok done) e s =
    record { few = subst (λ (m : GroupsByKey). map.len m < most_kept) (sym e) (subst (λ (n : ℕ). n < most_kept) (sym (map.len-empty key_cmp AggState)) (let some : 0 < 1048576 = omega arith in some)); shared = inr (e, s) }
shared_many all kept u v before now (Err why) e s = tt

-- ---- a block that stopped

pub stops_at : (plan : Plan) (records : Table) (block : ℕ) (old new : GroupsByKey) (why : BlockAnswer) → Stopped plan records block old new why → StopsAt plan records block why
stops_at plan records block old new (answer.Row row cause item) s = record { before = old; now = new; stopped = s }
stops_at plan records block old new answer.Memory s = tt

pub stops_if : (plan : Plan) (records : Table) (block : ℕ) (old new : GroupsByKey) (r : Result (Unit {0}) BlockAnswer) → IfErr r (Stopped plan records block old new) → IfErr r (StopsAt plan records block)
stops_if plan records block old new (Ok done) h = tt
stops_if plan records block old new (Err why) h = stops_at plan records block old new why h
