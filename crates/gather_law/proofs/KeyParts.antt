-- The rows of one part of the keys.
use Rattle.std.proofs.Common.{◌≡◌, ◌&&◌, ◌==◌, ℕ, Bool, true, false, List, None, ap, sym, ◌∙◌, bytes_eq, inl, inr}
use Rattle.std.specs.Cmp.Lexicographic.{bytes_decides}
use Rattle.std.specs.Prelude.{if◌then◌else◌}
use Rattle.std.proofs.lemmas.Bool.{cases_Bool}
use Rattle.par_model.specs.Keep.{is_kept}
use Rattle.par_model.specs.Key.{key_of}
use Rattle.par_model.specs.Plan.{Plan}
use Rattle.partial_agg.specs.Groups.{group_of}
use Rattle.partial_agg.proofs.Adding.{grouped}
use Rattle.row_blocks.specs.Blocks.{Table}
use Rattle.gather_law.proofs.Keys.{filter_apart, filter_through}
use Rattle.gather_law.specs.Sharing.{PartsTogether}
use Rattle.gather_law.specs.Shares.{rows_in}

true-false : true ≡ false → ⊥
true-false h = cc h

both_true : (a b : Bool) → (a && b) ≡ true → b ≡ true
both_true true b e = e
both_true false b e = cc

module _ (plan : Plan) (part_of : List ℕ → ℕ) (part : ℕ) where
  abbrev has : List ℕ → List (List ℕ) → Bool
  has key row = is_kept plan row && bytes_eq (key_of plan row) key

  abbrev within : List (List ℕ) → Bool
  within row = part_of (key_of plan row) == part

  -- a row of a key is of the key's part
  row_part : (key : List ℕ) (row : List (List ℕ)) → has key row ≡ true → within row ≡ (part_of key == part)
  row_part key row h =
      let same : key_of plan row ≡ key = (bytes_decides (key_of plan row) key).0 (both_true (is_kept plan row) (bytes_eq (key_of plan row) key) h) in
      ap (λ k. part_of k == part) same

  outside : (key : List ℕ) → (part_of key == part) ≡ true → (row : List (List ℕ)) → within row ≡ false → has key row ≡ false
  outside key of row e = elim (cases_Bool (has key row)) [
    | inl h ↦ absurd (true-false (sym of ∙ (sym (row_part key row h) ∙ e)))
    | inr h ↦ h
  ]

  other : (key : List ℕ) → (part_of key == part) ≡ false → (row : List (List ℕ)) → within row ≡ true → has key row ≡ false
  other key of row e = elim (cases_Bool (has key row)) [
    | inl h ↦ absurd (true-false (sym e ∙ (row_part key row h ∙ of)))
    | inr h ↦ h
  ]

  pub part_group : (rows : Table) (key : List ℕ) → group_of plan (rows_in plan part_of part rows) key ≡ (if part_of key == part then group_of plan rows key else None)
  part_group rows key = elim (cases_Bool (part_of key == part)) [
    | inl e ↦ rw e (ap (grouped plan) (filter_through within (has key) (outside key e) rows))
    | inr e ↦ rw e (ap (grouped plan) (filter_apart within (has key) (other key e) rows))
  ]

pub parts_together : PartsTogether
parts_together plan part_of part rows groups key are = are.each key ∙ part_group plan part_of part rows key
