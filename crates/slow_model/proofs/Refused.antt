-- The refusal of a row, by what is found out about it in turn.
use Rattle.std.proofs.Common.{◌≡◌, ℕ, List, true, false, length, nat_eq, nat_lt, refl, Option, None, Some, option_map}
use Rattle.std.specs.List.{position_from}
use Rattle.par_model.specs.Keep.{deciding, is_kept}
use Rattle.par_model.specs.Key.{key_of}
use Rattle.par_model.specs.Plan.{Plan}
use Rattle.par_model.specs.Refuse.{is_unreadable, key_cause, longest_key, refusal, refused_at, refused_by, refused_for, width_cause}

module _ (plan : Plan) (width : ℕ) (row : List (List ℕ)) where
  pub at_width : nat_eq (length row) width ≡ false → refusal plan width row ≡ refused_for width_cause
  unfolding refusal
  at_width other = rw other refl

  module _ (same : nat_eq (length row) width ≡ true) where
    -- the filter that decides does not keep it
    pub at_filter : (place : ℕ) → deciding plan row ≡ Some place → refusal plan width row ≡ refused_by plan row place
    unfolding refusal is_kept
    at_filter place decides = rw (same, decides) refl

    module _ (none : deciding plan row ≡ None) where
      pub at_key : nat_lt longest_key (length (key_of plan row)) ≡ true → refusal plan width row ≡ refused_for key_cause
      unfolding refusal is_kept
      at_key long = rw (same, none, long) refl

      pub at_items : nat_lt longest_key (length (key_of plan row)) ≡ false → (o : Option ℕ) → position_from (is_unreadable row) 0 plan.items ≡ o → refusal plan width row ≡ option_map refused_at o
      unfolding refusal is_kept
      at_items short o found = rw (same, none, short, found) refl
