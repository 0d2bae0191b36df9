-- A plan that orders rows refuses none for an aggregate.
use Rattle.std.proofs.Common.{◌≡◌, ℕ, Bool, true, false, if◌then◌else◌, List, [], ◌∷◌, Option, None, Some, not, option_and_then, option_map, refl, ap, sym, ◌∙◌}
use Rattle.std.specs.List.{position_from}
use Rattle.csv_rows.specs.Records.{record_at}
use Rattle.row_blocks.specs.Blocks.{Table}
use Rattle.par_model.specs.Plan.{Plan}
use Rattle.par_model.specs.Keep.{deciding, keeps}
use Rattle.par_model.specs.Refuse.{is_unreadable, key_cause, reads_numbers, refusal, refused_at, refused_by, refused_for, width_cause}
use Rattle.par_model.specs.declared.plan.Filter.{Filter}
use Rattle.par_model.specs.declared.plan.Item.{Item}
use Rattle.par_model.specs.declared.plan.ItemKind.TheVariants as kind
use Rattle.par_model.specs.declared.refusal.Refusal.{Refusal}
use Rattle.worker_run.specs.Ended.{IsRefused}
use Rattle.gather_merge.specs.Answers.{OrdersRows}

some_inj : (a b : Refusal) → Some a ≡ Some b → a ≡ b
some_inj a b e = cc

item_is : (a b : Refusal) → Some a ≡ Some b → b.item ≡ a.item
item_is a b e = ap (λ (r : Refusal). r.item) (sym (some_inj a b e))

none_some : (a : Refusal) → None ≡ Some a → ⊥
none_some a e = cc

by_cases : (a b c : Bool) (filtered last : Option Refusal) (cause item : ℕ) → filtered ≡ None → last ≡ None
    → (if a then refused_for width_cause else (if b then filtered else (if c then refused_for key_cause else last))) ≡ Some (record { cause = cause; item = item }) → item ≡ 0
by_cases true b c filtered last cause item f n e = item_is (record { cause = width_cause; item = 0 }) (record { cause = cause; item = item }) e
by_cases false true c filtered last cause item f n e = absurd (none_some (record { cause = cause; item = item }) (sym f ∙ e))
by_cases false false true filtered last cause item f n e = item_is (record { cause = key_cause; item = 0 }) (record { cause = cause; item = item }) e
by_cases false false false filtered last cause item f n e = absurd (none_some (record { cause = cause; item = item }) (sym n ∙ e))

-- no filter refuses a row, if there is none
no_filter : (plan : Plan) (row : List (List ℕ)) → plan.filters ≡ [] → option_and_then (refused_by plan row) (deciding plan row) ≡ None
no_filter plan row none = ap (λ (filters : List Filter). option_and_then (refused_by plan row) (position_from (λ filter. not (keeps filter row)) 0 filters)) none

no_item : (row : List (List ℕ)) (item : Item) → item.kind ≡ kind.Rows → option_map refused_at (position_from (is_unreadable row) 0 (item ∷ [])) ≡ None
no_item row item e = rw (ap reads_numbers e) refl

pub no_cause : (plan : Plan) (records : Table) (row cause item : ℕ) → OrdersRows plan → IsRefused plan records row cause item → item ≡ 0
unfolding refusal
no_cause plan records row cause item o r =
    by_cases _ _ _ _ _ cause item (no_filter plan (record_at records row) o.whole) (ap (λ items. option_map refused_at (position_from (is_unreadable (record_at records row)) 0 items)) o.items ∙ no_item (record_at records row) o.item o.counts) r.cause_is
