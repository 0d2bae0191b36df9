-- The rows of a table up to the first that is refused.
use Rattle.std.proofs.Common.{◌≡◌, ◌<◌, ◌≤◌, ◌+◌, ◌-◌, ℕ, [], All, None, Some, length, take, drop, get_or, ap, subst, ◌∙◌, arith, length-drop}
use Rattle.std.proofs.lemmas.List.{get_or-drop, take_all}
use Rattle.std.proofs.lemmas.List.Elements.{All-more}
use Rattle.csv_rows.specs.Records.{record_at}
use Rattle.par_model.specs.Plan.{Plan}
use Rattle.par_model.specs.Refuse.{refusal}
use Rattle.par_model.specs.declared.refusal.Refusal.{Refusal}
use Rattle.partial_agg.specs.Rows.{IsAccepted, header_width}
use Rattle.row_blocks.specs.Blocks.{Table}
use Rattle.split_run.specs.Causes.{IsFirstRefused}

module _ (plan : Plan) (records : Table) where
  abbrev Accepted : Table → Type 0
  Accepted rows = All (IsAccepted plan (header_width records)) rows

  pub row_is : (at : ℕ) → get_or (drop 1 records) at [] ≡ record_at records (at + 1)
  row_is at =
      let place : 1 + at ≡ at + 1 = omega arith in
      get_or-drop 1 records at [] ∙ ap (record_at records) place

  pub accepted_on : (at : ℕ) → at + 1 < length records → Accepted (take at (drop 1 records)) → refusal plan (header_width records) (record_at records (at + 1)) ≡ None → Accepted (take (at + 1) (drop 1 records))
  accepted_on at low before fine =
      All-more (IsAccepted plan (header_width records)) (drop 1 records) at [] (omega (arith, low, length-drop 1 records)) before (ap (refusal plan (header_width records)) (row_is at) ∙ fine)

  pub refused_here : (at : ℕ) (why : Refusal) → at + 1 < length records → Accepted (take at (drop 1 records)) → refusal plan (header_width records) (record_at records (at + 1)) ≡ Some why → IsFirstRefused plan records (at + 1) why
  refused_here at why low before refused =
      let place : at ≡ at + 1 - 1 = omega arith in
      record {
        refused = record { first = omega arith; within = low; cause_is = refused };
        before = subst (λ n. Accepted (take n (drop 1 records))) place before;
      }

  pub all_accepted : (at : ℕ) → length records ≤ at + 1 → Accepted (take at (drop 1 records)) → Accepted (drop 1 records)
  all_accepted at all before = subst Accepted (take_all at (drop 1 records) (omega (arith, all, length-drop 1 records))) before
